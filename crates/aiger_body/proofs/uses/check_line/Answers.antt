use Rattle.std.proofs.Common.{◌≡◌, ◌∙◌, ℕ, List, Bool, sym, ap, arith, Some, true, false, not}
use Rattle.std.proofs.lemmas.Result.{err_from_is_err_and}
use Rattle.std.specs.List.{list_any}
use Rattle.aig_kind.specs.declared.kind.AigKind.TheVariants.{Undefined}
use Rattle.aiger_body.specs.declared.header.Header.{Header}
use Rattle.aiger_body.specs.declared.section.Section.{Section}
use Rattle.aiger_body.specs.Files.{used, section as section_of, row as row_of}
use Rattle.aiger_body.specs.Outcomes.{fault, of_uses, is_undefined}
use Rattle.aiger_body.specs.Passes.{IsRow}
use Rattle.aiger_body.specs.Uses.{is_marked, AreKnown}
use Rattle.aig_order.proofs.Firsts.{first-here}
use Rattle.aiger_body.proofs.Stages.{tells_nothing}
use Rattle.aiger_body.proofs.Known.{line-clear, uses-are, use-fault, use-clear}
use Rattle.aiger_body.proofs.uses.check_line.Goals as goal

-- what the code looks at is what the line uses
looked : (h : Header) (bytes : List ℕ) (s : Section) (k next : ℕ) (said row uses : List ℕ) (marks : List Bool) (b : Bool) → section_of h bytes k ≡ s → IsRow h bytes k next said → row ≡ said → uses ≡ used s row → AreKnown h bytes marks → b ≡ list_any (λ l. not (is_marked marks l)) uses → list_any (is_undefined h bytes) (used (section_of h bytes k) (row_of h bytes k)) ≡ b
looked h bytes s k next said row uses marks b of is same are known e =
    sym (uses-are h bytes marks k known is.right)
    ∙ ap (λ t. list_any (λ l. not (is_marked marks l)) (used t (row_of h bytes k))) of
    ∙ ap (λ r. list_any (λ l. not (is_marked marks l)) (used s r)) (sym (same ∙ is.same))
    ∙ ap (list_any (λ l. not (is_marked marks l))) (sym are)
    ∙ sym e

pub returns-in_err-next : goal.returns-in_err-next
returns-in_err-next c =
    let p = err_from_is_err_and c.from_residual.result c.from_residual.ensures.1 in
    rw (p.1, p.2)
    (tells_nothing _ _ c.in_err-next.field-0.0 (line-clear c.args.header.now c.args.bytes.now c.requires.known.clear c.args.checked.now.line c.requires.within) c.in_err-next.ensures)

pub returns-then-any_unmarked : goal.returns-then-any_unmarked
returns-then-any_unmarked c =
    let h = c.args.header.now in
    let bytes = c.args.bytes.now in
    let k = c.args.checked.now.line in
    let any = looked h bytes c.args.section k c.in_ok-next.next c.read_row.new.row c.as_slice.result.now c.used.result.now c.args.marks.now true c.requires.section c.in_ok-next.ensures c.as_slice.ensures c.used.ensures c.requires.known c.if-any_unmarked.ensures in
    first-here (of_uses h bytes) k c.requires.checked.clear ∙ use-fault h bytes k any ∙ ap (λ b. Some (fault Undefined b)) (sym c.requires.checked.start.place)

pub returns : goal.returns
returns c =
    let h = c.args.header.now in
    let bytes = c.args.bytes.now in
    let k = c.args.checked.now.line in
    let any = looked h bytes c.args.section k c.in_ok-next.next c.read_row.new.row c.as_slice.result.now c.used.result.now c.args.marks.now false c.requires.section c.in_ok-next.ensures c.as_slice.ensures c.used.ensures c.requires.known c.if-any_unmarked.ensures in
    record {
      count = omega arith;
      start = c.in_ok-next.ensures.start;
      clear = first-here (of_uses h bytes) k c.requires.checked.clear ∙ use-clear h bytes k any;
    }
