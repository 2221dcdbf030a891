use Rattle.std.proofs.Common.{nat_eq, sym, ◌∙◌}
use Rattle.aiger_body.proofs.LineTexts.{without-none}
use Rattle.aiger_body.proofs.Scanning.{without_last}
use Rattle.aiger_body.proofs.text.without_end.Goals as goal

pub returns-then-not-ends_in : goal.returns-then-not-ends_in
returns-then-not-ends_in c = sym (without-none (λ b. nat_eq b c.args.byte) c.args.text.now (sym c.if-not-ends_in.ensures))

pub returns : goal.returns
returns c = c.split_at.ensures.front ∙ sym (without_last (λ b. nat_eq b c.args.byte) c.args.text.now (sym c.if-not-ends_in.ensures))
