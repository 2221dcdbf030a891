use Rattle.std.proofs.Common.{[], subst}
use Rattle.chain_check.specs.Known.{Known}
use Rattle.sat_core.specs.Sessions.{Excludes}
use Rattle.sat_core.proofs.Forcing.{none-core}
use Rattle.sat_core.proofs.session.Session.ask.Goals as goal

pub returns-then-self-clause-reply : goal.returns-then-self-clause-reply
returns-then-self-clause-reply c =
    let P : Known → Type 0 = λ k. Excludes k.clauses [] in
    none-core c.args.self.now.clauses c.new.result c.args.assumptions.now c.new.ensures
    (subst P c.self.view_is (c.self.invariant.1 c.if-self.true))
