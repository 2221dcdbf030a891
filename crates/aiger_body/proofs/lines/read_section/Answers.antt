use Rattle.std.proofs.Common.{◌≡◌, ◌+◌, ◌∙◌, ℕ, suc, sym, ap, subst, arith}
use Rattle.std.proofs.lemmas.Result.{err_from_is_err_and}
use Rattle.aig_order.specs.Firsts.{first_some}
use Rattle.aiger_body.specs.Files.{row}
use Rattle.aiger_body.specs.Keeping.{keep, keep_all}
use Rattle.aiger_body.specs.Outcomes.{of_line}
use Rattle.aiger_body.specs.Passes.{AreLines, rows_from}
use Rattle.aiger_body.proofs.Stages.{tells_at}
use Rattle.aiger_body.proofs.LinesRead.{keep_more, rows_more}
use Rattle.aiger_body.proofs.lines.read_section.Goals as goal

pub returns-in_err-read_line : goal.returns-in_err-read_line
returns-in_err-read_line c =
    let p = err_from_is_err_and c.from_residual.result c.from_residual.ensures.1 in
    let find = of_line c.args.header.now c.args.bytes.now in
    let count = c.loop.invariant.lines.count in
    rw (p.1, p.2)
    (tells_at find c.loop.lines.line (c.args.lines.now.line + c.args.count) c.in_err-read_line.field-0.0 (ap (λ k. first_some k find) count ∙ c.loop.invariant.lines.clear) (omega (arith, count)) c.in_err-read_line.ensures)

pub loop-preserved : goal.loop-preserved
loop-preserved c =
    let count = c.loop.invariant.lines.count in
    let next : suc c.loop.lines.line ≡ c.args.lines.now.line + (c.loop.counter + 1) = omega (arith, count) in
    let P : ℕ → Type 0 = λ k. AreLines c.args.header.now c.args.bytes.now k c.read_line.new.lines in
    record {
      lines = subst P next c.in_ok-read_line.ensures.0;
      kept =
          c.in_ok-read_line.ensures.1
          ∙ ap (keep c.args.section (row c.args.header.now c.args.bytes.now c.loop.lines.line)) c.loop.invariant.kept
          ∙ ap (λ k. keep c.args.section (row c.args.header.now c.args.bytes.now k) (keep_all c.args.section (rows_from c.args.header.now c.args.bytes.now c.args.lines.now.line c.loop.counter) c.args.lines.now.content)) count
          ∙ sym (keep_more c.args.section (rows_from c.args.header.now c.args.bytes.now c.args.lines.now.line c.loop.counter) _ c.args.lines.now.content)
          ∙ ap (λ rs. keep_all c.args.section rs c.args.lines.now.content) (sym (rows_more c.args.header.now c.args.bytes.now c.args.lines.now.line c.loop.counter));
    }
