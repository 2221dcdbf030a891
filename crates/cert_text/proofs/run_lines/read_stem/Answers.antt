use Rattle.std.proofs.Common.{◌≡◌, true, false, length, nat_eq, sym, ◌∙◌, ap, Ok, Err}
use Rattle.std.specs.Prelude.{IfOk}
use Rattle.cert_text.specs.Lines.{IsSaid}
use Rattle.cert_text.specs.RunLines.{SaysStem, SaysCycle}
use Rattle.cert_text.proofs.Rows.{stem_read}
use Rattle.cert_text.proofs.run_lines.read_stem.Goals as goal

pub returns : goal.returns
returns c =
    elim c.read_rows.result as (λ r. IfOk r (λ found. IsSaid SaysCycle c.args.text.now found)
    → IfOk r (λ found. IsSaid SaysStem c.args.text.now found)) [
      | Ok found ↦ stem_read c.args.text.now found
          (λ none.
          let clash : false ≡ true =
          sym c.if-is_empty.false ∙ c.is_empty.ensures ∙ ap (λ w. nat_eq (length w) 0) none in
          absurd (cc))
      | Err e ↦ λ _. tt
    ] c.read_rows.ensures
