use Rattle.std.proofs.Common.{◌-◌, ℕ, [], ◌∷◌, refl, sym, subst}
use Rattle.std.proofs.lemmas.Bool.{OnTrue_at, OnFalse_at}
use Rattle.hy_base.proofs.Members.{contains-here}
use Rattle.trace_trie.specs.Numbered.{Numbered}
use Rattle.tuple_walk.specs.Alone.{sought_alone}
use Rattle.tuple_walk.specs.Searches.{IsAccepted, IsRejected}
use Rattle.tuple_walk.specs.Walks.{machine_in}
use Rattle.tuple_walk.proofs.Following.{ones-accepted, ones-steps}
use Rattle.tuple_walk.proofs.walk.Walk.follow_trace.Goals as goal

pub returns-then-rejects_rests-clause-searched : goal.returns-then-rejects_rests-clause-searched
returns-then-rejects_rests-clause-searched g c =
    let w = c.args.self.now in
    let x : Numbered = (c.args.number, c.args.trace.now) in
    let P : ℕ → Type 0 = λ q. IsRejected (machine_in w) w.lengths q (x.1 ∷ []) in
    record {
      pairs = x ∷ [];
      members = (contains-here x [], tt);
      has = (0, refl, refl);
      same = sym c.new.ensures;
      rejected = subst P c.start.ensures.start
          (OnTrue_at c.if-rejects_rests.true c.rejects_rests.ensures.rejected);
    }

pub returns-then-rejects_rests-clause-counted : goal.returns-then-rejects_rests-clause-counted
returns-then-rejects_rests-clause-counted g c =
    let w = c.args.self.now in
    let x : Numbered = (c.args.number, c.args.trace.now) in
    ones-steps (sought_alone x) w.lengths (x ∷ []) ((x ∷ []) ∷ []) refl (0, refl, refl)
    (c.rejects_rests.new.steps - c.args.steps.now) c.rejects_rests.ensures.counted

pub returns-else-rejects_rests-clause-searched : goal.returns-else-rejects_rests-clause-searched
returns-else-rejects_rests-clause-searched g c =
    let w = c.args.self.now in
    let x : Numbered = (c.args.number, c.args.trace.now) in
    let P : ℕ → Type 0 = λ q. IsAccepted (machine_in w) w.lengths q (x.1 ∷ []) in
    ones-accepted (sought_alone x) (machine_in w) w.lengths 0 (x ∷ []) ((x ∷ []) ∷ []) refl
    (subst P c.start.ensures.start
    (OnFalse_at c.if-rejects_rests.false c.rejects_rests.ensures.accepted))

pub returns-else-rejects_rests-clause-counted : goal.returns-else-rejects_rests-clause-counted
returns-else-rejects_rests-clause-counted g c =
    let w = c.args.self.now in
    let x : Numbered = (c.args.number, c.args.trace.now) in
    ones-steps (sought_alone x) w.lengths (x ∷ []) ((x ∷ []) ∷ []) refl (0, refl, refl)
    (c.rejects_rests.new.steps - c.args.steps.now) c.rejects_rests.ensures.counted
