use Rattle.std.proofs.Common.{◌≡◌, ◌+◌, ◌≤◌, ◌∙◌, ℕ, suc, sym, ap, subst, arith, take}
use Rattle.std.proofs.lemmas.Result.{err_from_is_err_and}
use Rattle.std.specs.Prelude.{sum, slice_index}
use Rattle.aiger_body.specs.declared.content.Content.{Content}
use Rattle.aiger_body.specs.declared.header.Header.{Header}
use Rattle.aiger_body.specs.declared.section.Section.{Section}
use Rattle.aiger_body.specs.Files.{plan, counts, counted, number_in, section_rows, section as section_of}
use Rattle.aiger_body.specs.Keeping.{keep_all}
use Rattle.aiger_body.specs.Outcomes.{of_line}
use Rattle.aiger_body.specs.Passes.{AreLines, rows_from, line_content}
use Rattle.aiger_body.proofs.Stages.{tells_more}
use Rattle.aiger_body.proofs.Kept.{kept_to, section_at, kept_all, section_lines, section_count, section_rows_are, sum_next, sum_below}
use Rattle.aiger_body.proofs.lines.read_sections.Goals as goal

-- the count by what is kept
kept-count : (h : Header) (c d : Content) (s t : Section) (count : ℕ) → count ≡ slice_index (counts h c.justice) (number_in s) → c ≡ d → s ≡ t → count ≡ slice_index (counts h d.justice) (number_in t)
kept-count h c d s t count is same also = is ∙ ap (λ (x : Content). slice_index (counts h x.justice) (number_in s)) same ∙ ap (λ x. slice_index (counts h d.justice) (number_in x)) also

pub read_section-requires-clause-lines : goal.read_section-requires-clause-lines
read_section-requires-clause-lines c =
    let P : ℕ → Type 0 = λ k. AreLines c.args.header.now c.args.bytes.now k c.loop-i.lines in
    subst P (sym c.loop-i.invariant.lines.count) c.loop-i.invariant.lines

pub read_section-requires-clause-section : goal.read_section-requires-clause-section
read_section-requires-clause-section c j lt =
    let h = c.args.header.now in
    let bytes = c.args.bytes.now in
    let is = kept-count h c.loop-i.lines.content _ c.section_at-section.result (section_at c.loop-i.i) c.count-count.result c.count-count.ensures c.loop-i.invariant.kept c.section_at-section.ensures in
    let of = section_lines h bytes c.loop-i.i c.count-count.result c.loop-i-test.true is j lt in
    ap (λ k. section_of h bytes (k + j)) c.loop-i.invariant.lines.count ∙ of ∙ sym c.section_at-section.ensures

pub returns-in_err-read_section : goal.returns-in_err-read_section
returns-in_err-read_section c =
    let p = err_from_is_err_and c.from_residual.result c.from_residual.ensures.1 in
    let h = c.args.header.now in
    let bytes = c.args.bytes.now in
    let is = kept-count h c.loop-i.lines.content _ c.section_at-section.result (section_at c.loop-i.i) c.count-count.result c.count-count.ensures c.loop-i.invariant.kept c.section_at-section.ensures in
    let small : c.loop-i.lines.line + c.count-count.result ≤ counted h bytes = omega (arith, sum_below h bytes c.loop-i.i c.loop-i-test.true, section_count h bytes c.loop-i.i c.count-count.result c.loop-i-test.true is, c.loop-i.invariant.lines.count) in
    rw (p.1, p.2)
    (tells_more (of_line h bytes) (c.loop-i.lines.line + c.count-count.result) (counted h bytes) c.in_err-read_section.field-0.0 small c.in_err-read_section.ensures)

pub loop-i-preserved : goal.loop-i-preserved
loop-i-preserved c =
    let h = c.args.header.now in
    let bytes = c.args.bytes.now in
    let i = c.loop-i.i in
    let count = c.count-count.result in
    let is = kept-count h c.loop-i.lines.content _ c.section_at-section.result (section_at i) count c.count-count.ensures c.loop-i.invariant.kept c.section_at-section.ensures in
    let many = section_count h bytes i count c.loop-i-test.true is in
    let next : c.loop-i.lines.line + count ≡ sum (take (i + 1) (plan h bytes)) = omega (arith, c.loop-i.invariant.lines.count, many, sum_next h bytes i c.loop-i-test.true) in
    let P : ℕ → Type 0 = λ k. AreLines h bytes k c.read_section.new.lines in
    let q : suc i ≡ i + 1 = omega arith in
    record {
      lines = subst P next c.in_ok-read_section.ensures.0;
      kept =
          c.in_ok-read_section.ensures.1
          ∙ ap (λ s. keep_all s (rows_from h bytes c.loop-i.lines.line count) c.loop-i.lines.content) c.section_at-section.ensures
          ∙ ap (λ k. keep_all (section_at i) (rows_from h bytes k count) c.loop-i.lines.content) c.loop-i.invariant.lines.count
          ∙ ap (λ rs. keep_all (section_at i) rs c.loop-i.lines.content) (section_rows_are h bytes i count c.loop-i-test.true many)
          ∙ ap (keep_all (section_at i) (section_rows h bytes (section_at i))) c.loop-i.invariant.kept
          ∙ ap (kept_to h bytes) q;
    }

pub returns : goal.returns
returns c =
    let h = c.args.header.now in
    let bytes = c.args.bytes.now in
    let nine : c.loop-i.i ≡ 9 = omega (arith, c.loop-i.auto.i-end, c.loop-i-test.false) in
    let P : ℕ → Type 0 = λ i. AreLines h bytes (sum (take i (plan h bytes))) c.loop-i.lines in
    let all = subst P nine c.loop-i.invariant.lines in
    let kept : c.loop-i.lines.content ≡ line_content h bytes = c.loop-i.invariant.kept ∙ ap (kept_to h bytes) nine ∙ kept_all h bytes in
    record {
      start = all.start;
      clear = all.clear;
      marks = all.marks;
      content = kept;
      few = omega (arith, all.small, all.start.early, all.start.within, ap (λ (d : Content). d.justice) kept);
    }
