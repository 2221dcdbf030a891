use Rattle.std.proofs.Common.{◌≡◌, ◌+◌, ◌≤◌, ◌∙◌, ℕ, sym, ap, subst, arith, take, List}
use Rattle.std.proofs.lemmas.Result.{err_from_is_err_and}
use Rattle.std.specs.Prelude.{sum, slice_index}
use Rattle.aiger_body.specs.declared.content.Content.{Content}
use Rattle.aiger_body.specs.declared.header.Header.{Header}
use Rattle.aiger_body.specs.declared.section.Section.{Section}
use Rattle.aiger_body.specs.Files.{plan, counts, counted, number_in, section as section_of}
use Rattle.aiger_body.specs.Outcomes.{of_uses}
use Rattle.aiger_body.specs.Passes.{line_content}
use Rattle.aiger_body.specs.Uses.{AreChecked}
use Rattle.aiger_body.proofs.Stages.{tells_more}
use Rattle.aiger_body.proofs.Kept.{section_at, planned_lines, planned_count, sum_next, sum_below}
use Rattle.aiger_body.proofs.Known.{known}
use Rattle.aiger_body.proofs.uses.check_sections.Goals as goal

planned : (h : Header) (bytes : List ℕ) (c : Content) (s t : Section) (count : ℕ) → count ≡ slice_index (counts h c.justice) (number_in s) → c ≡ line_content h bytes → s ≡ t → count ≡ slice_index (plan h bytes) (number_in t)
planned h bytes c s t count is same also = is ∙ ap (λ (x : Content). slice_index (counts h x.justice) (number_in s)) same ∙ ap (λ x. slice_index (plan h bytes) (number_in x)) also

pub check_section-requires-clause-known : goal.check_section-requires-clause-known
check_section-requires-clause-known c = known c.args.header.now c.args.bytes.now c.args.lines.now c.requires.form c.requires.lines

pub check_section-requires-clause-checked : goal.check_section-requires-clause-checked
check_section-requires-clause-checked c =
    let P : ℕ → Type 0 = λ k. AreChecked c.args.header.now c.args.bytes.now k c.loop-i.checked in
    subst P (sym c.loop-i.invariant.count) c.loop-i.invariant

pub check_section-requires-clause-section : goal.check_section-requires-clause-section
check_section-requires-clause-section c j lt =
    let h = c.args.header.now in
    let bytes = c.args.bytes.now in
    let is = planned h bytes c.args.lines.now.content c.section_at-section.result (section_at c.loop-i.i) c.count-count.result c.count-count.ensures c.requires.lines.content c.section_at-section.ensures in
    ap (λ k. section_of h bytes (k + j)) c.loop-i.invariant.count ∙ planned_lines h bytes c.loop-i.i c.count-count.result c.loop-i-test.true is j lt ∙ sym c.section_at-section.ensures

pub check_section-requires-clause-within : goal.check_section-requires-clause-within
check_section-requires-clause-within c =
    let h = c.args.header.now in
    let bytes = c.args.bytes.now in
    let is = planned h bytes c.args.lines.now.content c.section_at-section.result (section_at c.loop-i.i) c.count-count.result c.count-count.ensures c.requires.lines.content c.section_at-section.ensures in
    let small : c.loop-i.checked.line + c.count-count.result ≤ counted h bytes = omega (arith, sum_below h bytes c.loop-i.i c.loop-i-test.true, planned_count h bytes c.loop-i.i c.count-count.result c.loop-i-test.true is, c.loop-i.invariant.count) in
    small

pub returns-in_err-check_section : goal.returns-in_err-check_section
returns-in_err-check_section c =
    let p = err_from_is_err_and c.from_residual.result c.from_residual.ensures.1 in
    let h = c.args.header.now in
    let bytes = c.args.bytes.now in
    let is = planned h bytes c.args.lines.now.content c.section_at-section.result (section_at c.loop-i.i) c.count-count.result c.count-count.ensures c.requires.lines.content c.section_at-section.ensures in
    let small : c.loop-i.checked.line + c.count-count.result ≤ counted h bytes = omega (arith, sum_below h bytes c.loop-i.i c.loop-i-test.true, planned_count h bytes c.loop-i.i c.count-count.result c.loop-i-test.true is, c.loop-i.invariant.count) in
    rw (p.1, p.2)
    (tells_more (of_uses h bytes) (c.loop-i.checked.line + c.count-count.result) (counted h bytes) c.in_err-check_section.field-0.0 small c.in_err-check_section.ensures)

pub loop-i-preserved : goal.loop-i-preserved
loop-i-preserved c =
    let h = c.args.header.now in
    let bytes = c.args.bytes.now in
    let is = planned h bytes c.args.lines.now.content c.section_at-section.result (section_at c.loop-i.i) c.count-count.result c.count-count.ensures c.requires.lines.content c.section_at-section.ensures in
    let many = planned_count h bytes c.loop-i.i c.count-count.result c.loop-i-test.true is in
    let next : c.loop-i.checked.line + c.count-count.result ≡ sum (take (c.loop-i.i + 1) (plan h bytes)) = omega (arith, c.loop-i.invariant.count, many, sum_next h bytes c.loop-i.i c.loop-i-test.true) in
    let P : ℕ → Type 0 = λ k. AreChecked h bytes k c.check_section.new.checked in
    subst P next c.in_ok-check_section.ensures

pub returns : goal.returns
returns c =
    let h = c.args.header.now in
    let bytes = c.args.bytes.now in
    let nine : c.loop-i.i ≡ 9 = omega (arith, c.loop-i.auto.i-end, c.loop-i-test.false) in
    let P : ℕ → Type 0 = λ i. AreChecked h bytes (sum (take i (plan h bytes))) c.loop-i.checked in
    (subst P nine c.loop-i.invariant).clear
