use Rattle.std.proofs.Common.{◌≡◌, ℕ, replicate, sym, ◌∙◌, subst}
use Rattle.std.proofs.lemmas.Bool.{eqb-true}
use Rattle.fin_monitor.specs.Machines.{settled_state}
use Rattle.tuple_walk.specs.Searches.{AreAccepted}
use Rattle.tuple_walk.specs.Serving.{sought_of}
use Rattle.tuple_walk.specs.Walks.{machine_in}
use Rattle.tuple_walk.proofs.Ending.{settled-accepted}
use Rattle.tuple_walk.proofs.walk.Walk.search_version.Goals as goal

pub returns-then-is_settled-clause-searched : goal.returns-then-is_settled-clause-searched
returns-then-is_settled-clause-searched g c =
    let w = c.args.self.now in
    let m = machine_in w in
    let s = sought_of c.args.given.now in
    let lists = replicate m.variables c.args.version.now in
    let settled : c.start.result ≡ settled_state m =
    eqb-true c.start.result (settled_state m) (sym c.is_settled.ensures ∙ c.if-is_settled.true) in
    let P : ℕ → Type 0 = λ q. AreAccepted s m w.lengths q 0 lists in
    subst P c.start.ensures.start
    (settled-accepted m w.monitor.monitor.now.right w.lengths c.start.result settled s lists)
