use Rattle.std.proofs.Common.{ℕ, List, sym, subst, arith}
use Rattle.std.specs.List.{Contains}
use Rattle.std.proofs.lemmas.List.Elements.{Contains-push}
use Rattle.fair_search.proofs.Lists.{up-last}
use Rattle.fair_search.proofs.pass.Pass.step.Goals as goal

pub look-requires-clause-last : goal.look-requires-clause-last
look-requires-clause-last g c =
    let place = c.in-Some-last_from.place in
    let (front, ends) = c.in-Some.ensures in
    let (before, last) = c.in-Some-last_from.ensures.1 in
    let P : List ℕ → Type 0 = λ xs. Contains xs place in (
      c.requires.pending_open place (subst P (sym last) (Contains-push before place)),
      λ b there. omega (
        arith,
        up-last c.args.self.now.starts front c.in-Some.start b
            c.requires.starts_up ends there,
        c.in-Some-last_from.ensures.0,
      ),
    )
