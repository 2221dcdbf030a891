-- Values of disjunctions as gates say them.
use Rattle.std.proofs.Common.{◌≡◌, ◌⊎◌, Bool, true, false, not, ◌&&◌, inl, inr, refl}

pub or-true : (a b : Bool) → not (not a && not b) ≡ true → (a ≡ true) ⊎ (b ≡ true)
or-true true b e = inl refl
or-true false true e = inr refl
or-true false false e = absurd (cc)

pub true-or-left : (a b : Bool) → a ≡ true → not (not a && not b) ≡ true
true-or-left true b e = refl
true-or-left false b e = absurd (cc)

pub true-or-right : (a b : Bool) → b ≡ true → not (not a && not b) ≡ true
true-or-right true b e = refl
true-or-right false true e = refl
true-or-right false false e = absurd (cc)

-- where a promise is not owed or kept
pub or-kept : (a b : Bool) → not (not (not a) && not b) ≡ true → a ≡ true → b ≡ true
or-kept true true e h = refl
or-kept true false e h = absurd (cc)
or-kept false b e h = absurd (cc)

pub kept-or : (a b : Bool) → (a ≡ true → b ≡ true) → not (not (not a) && not b) ≡ true
kept-or true true h = refl
kept-or true false h = absurd (let e : false ≡ true = h refl in cc)
kept-or false b h = refl
