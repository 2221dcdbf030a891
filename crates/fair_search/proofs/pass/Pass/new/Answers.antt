use Rattle.std.proofs.Common.{◌≡◌, false, replicate, sym, ap, ◌∙◌, subst}
use Rattle.fair_search.specs.declared.pass.Place.TheVariants.{New}
use Rattle.fair_search.specs.declared.pass.Pass.{Pass}
use Rattle.fair_search.specs.Passing.{IsPass}
use Rattle.fair_search.proofs.Beginning.{Begun, begun_pass}
use Rattle.fair_search.proofs.pass.Pass.new.Goals as goal

pub returns-clause-pass : goal.returns-clause-pass
returns-clause-pass c =
    let count = c.nodes-nodes.ensures in
    let made : Pass = record {
      places = c.in_ok-filled.field-0;
      explored = c.in_ok-filled-2.field-0;
      loops = c.in_ok-filled-3.field-0;
      stack = c.new.result;
      pending = c.new-2.result;
      starts = c.new-3.result;
      reasons = c.new-4.result;
      begun = 0;
    } in
    let same : made ≡ Begun c.args.g.now = λ i. record {
      places = (c.in_ok-filled.ensures ∙ ap (λ n. replicate n New) count) i;
      explored = (c.in_ok-filled-2.ensures ∙ ap (λ n. replicate n 0) count) i;
      loops = (c.in_ok-filled-3.ensures ∙ ap (λ n. replicate n false) count) i;
      stack = c.new.ensures i;
      pending = c.new-2.ensures i;
      starts = c.new-3.ensures i;
      reasons = c.new-4.ensures i;
      begun = 0;
    } in
    let P : Pass → Type 0 = IsPass c.args.g.now in
    subst P (sym same) (begun_pass c.args.g.now)
