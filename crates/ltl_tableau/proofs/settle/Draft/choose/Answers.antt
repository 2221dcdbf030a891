use Rattle.std.proofs.Common.{sym, ◌∙◌}
use Rattle.ltl_tableau.proofs.Stepping.{takes-first, takes-second}
use Rattle.ltl_tableau.proofs.settle.Draft.choose.Goals as goal

pub returns-then-rules_out : goal.returns-then-rules_out
returns-then-rules_out g c =
    takes-second c.args.c.now.nodes c.args.self.now c.take.new.self c.args.first c.args.second c.requires.dead c.requires.first_below
    (sym c.rules_out.ensures ∙ c.if-rules_out.true) c.take.ensures.work c.take.ensures.dead

pub returns-then-rules_out-2 : goal.returns-then-rules_out-2
returns-then-rules_out-2 g c =
    takes-first c.args.c.now.nodes c.args.self.now c.take-then-rules_out-2.new.self c.args.first c.args.second c.requires.dead
    c.requires.second_below (sym c.rules_out-2.ensures ∙ c.if-rules_out-2.true) c.take-then-rules_out-2.ensures.work
    c.take-then-rules_out-2.ensures.dead
