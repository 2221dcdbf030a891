use Rattle.std.proofs.Common.{◌≡◌, ℕ, [], sym, subst}
use Rattle.std.proofs.lemmas.Option.{IfSome_then}
use Rattle.std.specs.List.{Contains}
use Rattle.hy_base.proofs.Members.{contains-here}
use Rattle.hy_finite.specs.Traces.{Trace}
use Rattle.trace_trie.specs.Cursors.{rests_at}
use Rattle.tuple_walk.specs.declared.spot.Spot.{Spot}
use Rattle.tuple_walk.specs.Places.{rests_of, HasEnded}
use Rattle.tuple_walk.proofs.spot.Spot.any.Goals as goal

pub returns-in-Alone-clause-some : goal.returns-in-Alone-clause-some
returns-in-Alone-clause-some c =
    let rest = c.in-Alone.field-1.now in
    let P : Spot → Type 0 = λ s. Contains (rests_of s) (c.in-Alone.number, rest) in (
      rest,
      subst P (sym c.in-Alone.is) (contains-here (c.in-Alone.number, rest) []),
      λ h. absurd (c.in-None.ensures.none h),
    )

pub returns-in-Node-clause-some : goal.returns-in-Node-clause-some
returns-in-Node-clause-some c =
    IfSome_then c.below.result
    {P = λ (n : ℕ). (t : Trace) × Contains (rests_at c.in-Node.cursor) (n, t)}
    {Q = λ (n : ℕ). (t : Trace) × Contains (rests_of c.args.self.now) (n, t)
    × (HasEnded (rests_of c.args.self.now) → t ≡ [])}
    c.below.ensures.some
    (λ n (t, h).
    let P : Spot → Type 0 = λ s. Contains (rests_of s) (n, t) in (
      t,
      subst P (sym c.in-Node.is) h,
      λ h. absurd (c.in-None.ensures.none h),
    ))
