-- The marks of a partial assignment.
use Rattle.std.proofs.Common.{◌≡◌, ◌≢◌, ℕ, ◌-◌, ◌<◌, List, [], ◌∷◌, ◌++◌, length, get_or, set, take, inl, inr, refl, sym, ap, ◌∙◌, subst, arith, get_or-set_same, get_or-set_other}
use Rattle.std.specs.Prelude.{ℤ, pos, unsigned_abs}
use Rattle.std.specs.List.{Contains}
use Rattle.std.proofs.lemmas.Bool.{cases_eq}
use Rattle.std.proofs.lemmas.List.{length-set, length_push, take_at, get_or_push, get_or_append_left, take-append-le}
use Rattle.std.proofs.lemmas.List.Elements.{Contains-append_left, Contains-push, Contains-push_cases}
use Rattle.chain_check.specs.Clauses.{IsLiteral, AreLiterals}
use Rattle.chain_check.specs.Chains.{IsFalseIn}
use Rattle.chain_check.specs.Store.{AreMarks, IsFresh}
use Rattle.chain_check.proofs.Literals.{of-one-variable}

pub same-place : (marks : List ℤ) (k : ℕ) (l : ℤ) → k < length marks →
    get_or (set marks k l) k (pos 0) ≡ l
same-place marks k l lt = get_or-set_same marks k l (pos 0) lt

pub other-place : (marks : List ℤ) (k j : ℕ) (l : ℤ) → j ≢ k →
    get_or (set marks k l) j (pos 0) ≡ get_or marks j (pos 0)
other-place marks k j l apart = get_or-set_other marks k j l (pos 0) apart

pub literals-more : (n : ℕ) (literals : List ℤ) (l : ℤ) → AreLiterals n literals → IsLiteral n l →
    AreLiterals n (literals ++ l ∷ [])
literals-more n literals l right now m there =
    elim (Contains-push_cases literals l m there)
    [ inl h ↦ right m h | inr e ↦ let P : ℤ → Type 0 = IsLiteral n in subst P e now ]

pub marked-more : (marks literals : List ℤ) (l : ℤ) → 0 < length marks → AreMarks marks literals →
    IsLiteral (length marks - 1) l → ¬ IsFalseIn literals l →
    AreMarks (set marks (unsigned_abs l) l) (literals ++ l ∷ [])
marked-more marks literals l some are right open_yet =
    let P : ℕ → Type 0 = λ n. AreLiterals (n - 1) (literals ++ l ∷ []) in
    record {
      right = subst P (sym (length-set marks (unsigned_abs l) l))
          (literals-more (length marks - 1) literals l are.right right);
      marked = marked;
      listed =
          listed;
    }
  where
    within : unsigned_abs l < length marks
    within = omega (arith, right.1)

    marked : (m : ℤ) → Contains (literals ++ l ∷ []) m →
        get_or (set marks (unsigned_abs l) l) (unsigned_abs m) (pos 0) ≡ m
    marked m there =
        let Q : ℕ → Type 0 = λ k. get_or (set marks (unsigned_abs l) l) k (pos 0) ≡ l in
        elim (Contains-push_cases literals l m there) [
          | inr e ↦ let R : ℤ → Type 0 = λ q. get_or (set marks (unsigned_abs l) l) (unsigned_abs q)
              (pos 0) ≡ q in subst R e (same-place marks (unsigned_abs l) l within)
          | inl old ↦ elim (cases_eq (unsigned_abs m) (unsigned_abs l)) [
            | inr apart ↦ other-place marks (unsigned_abs l) (unsigned_abs m) l apart ∙
                are.marked m old
            | inl same ↦ elim (of-one-variable m l same) [
              | inl e ↦ subst Q (sym same) (same-place marks (unsigned_abs l) l within) ∙ sym e
              | inr e ↦ let S : ℤ → Type 0 = Contains literals in absurd (open_yet (subst S e old))
            ]
          ]
        ]

    listed : (m : ℤ) → 0 < unsigned_abs m → get_or (set marks (unsigned_abs l) l) (unsigned_abs m)
        (pos 0) ≡ m → Contains (literals ++ l ∷ []) m
    listed m some' e =
        elim (cases_eq (unsigned_abs m) (unsigned_abs l)) [
          | inr apart ↦ Contains-append_left literals (l ∷ []) m
              (are.listed m some' (sym (other-place marks (unsigned_abs l)
              (unsigned_abs m) l apart) ∙ e))
          | inl same ↦
              let Q : ℕ → Type 0 = λ k. get_or (set marks (unsigned_abs l) l) k (pos 0) ≡ l in
              let here : l ≡ m = sym (subst Q (sym same)
              (same-place marks (unsigned_abs l) l within)) ∙ e in
              let S : ℤ → Type 0 = Contains (literals ++ l ∷ []) in
              subst S here (Contains-push literals l)
        ]

-- each mark is listed
pub record AreListed (marks literals : List ℤ) : Type 0 where
  pub right : AreLiterals (length marks - 1) literals
  pub listed : (l : ℤ) → 0 < unsigned_abs l → get_or marks (unsigned_abs l) (pos 0) ≡ l →
      Contains literals l

pub listed-less : (marks literals : List ℤ) (l : ℤ) → 0 < length marks →
    AreListed marks (literals ++ l ∷ []) → AreListed (set marks (unsigned_abs l) (pos 0)) literals
listed-less marks literals l some are = record { right = right; listed = listed }
  where
    within : unsigned_abs l < length marks
    within = omega (arith, (are.right l (Contains-push literals l)).1)

    right : AreLiterals (length (set marks (unsigned_abs l) (pos 0)) - 1) literals
    right = let P : ℕ → Type 0 = λ n. AreLiterals (n - 1) literals in
        subst P (sym (length-set marks (unsigned_abs l) (pos 0)))
        (λ m h. are.right m (Contains-append_left literals (l ∷ []) m h))

    listed : (m : ℤ) → 0 < unsigned_abs m → get_or (set marks (unsigned_abs l) (pos 0))
        (unsigned_abs m) (pos 0) ≡ m → Contains literals m
    listed m some' e =
        elim (cases_eq (unsigned_abs m) (unsigned_abs l)) [
          | inl same ↦
              let Q : ℕ → Type 0 = λ k. get_or (set marks (unsigned_abs l) (pos 0)) k
              (pos 0) ≡ pos 0 in
              let zero' : pos 0 ≡ m = sym (subst Q (sym same)
              (same-place marks (unsigned_abs l) (pos 0) within)) ∙ e in
              let gone : 0 ≡ unsigned_abs m = ap unsigned_abs zero' in
              absurd (omega arith)
          | inr apart ↦ elim (Contains-push_cases literals l m
              (are.listed m some' (sym (other-place marks (unsigned_abs l) (unsigned_abs m)
              (pos 0) apart) ∙ e))) [
                | inl h ↦ h
                | inr same ↦ absurd (apart (ap unsigned_abs (sym same)))
              ]
        ]

pub listed-from : (marks literals : List ℤ) → AreMarks marks literals → AreListed marks literals
listed-from marks literals are = record { right = are.right; listed = are.listed }

pub marks-none : (marks : List ℤ) → AreListed marks [] → AreMarks marks []
marks-none marks are = record {
  right = are.right;
  marked = λ l (k, lt, e). absurd (omega arith);
  listed = are.listed;
}

pub marks-less : (marks literals : List ℤ) (l : ℤ) → 0 < length marks →
    AreMarks marks (literals ++ l ∷ []) → ¬ Contains literals l →
    AreMarks (set marks (unsigned_abs l) (pos 0)) literals
marks-less marks literals l some are none = record
    { right = less.right; marked = marked; listed = less.listed }
  where
    less : AreListed (set marks (unsigned_abs l) (pos 0)) literals
    less = listed-less marks literals l some (listed-from marks (literals ++ l ∷ []) are)

    marked : (m : ℤ) → Contains literals m → get_or (set marks (unsigned_abs l) (pos 0))
        (unsigned_abs m) (pos 0) ≡ m
    marked m there =
        elim (cases_eq (unsigned_abs m) (unsigned_abs l)) [
          | inr apart ↦ other-place marks (unsigned_abs l) (unsigned_abs m) (pos 0) apart ∙
              are.marked m (Contains-append_left literals (l ∷ []) m there)
          | inl same ↦
              let e : m ≡ l = sym (are.marked m (Contains-append_left literals (l ∷ []) m there)) ∙
              ap (λ k. get_or marks k (pos 0)) same ∙ are.marked l (Contains-push literals l) in
              let P : ℤ → Type 0 = Contains literals in
              absurd (none (subst P e there))
        ]

-- the last one of a fresh list
pub fresh-last : (literals : List ℤ) (l : ℤ) → IsFresh (literals ++ l ∷ []) → ¬ Contains literals l
fresh-last literals l fresh there =
    let P : List ℤ → Type 0 = λ xs. Contains xs
    (get_or (literals ++ l ∷ []) (length literals) (pos 0)) in
    let Q : ℤ → Type 0 = Contains literals in
    fresh (length literals) (omega (arith, length_push literals l))
    (subst P (sym (take_at literals (l ∷ []) (length literals) refl))
    (subst Q (sym (get_or_push literals l (pos 0) (length literals) refl)) there))

pub fresh-front : (literals : List ℤ) (l : ℤ) → IsFresh (literals ++ l ∷ []) → IsFresh literals
fresh-front literals l fresh i lt there =
    let P : List ℤ → Type 0 = λ xs. Contains xs (get_or (literals ++ l ∷ []) i (pos 0)) in
    let Q : ℤ → Type 0 = Contains (take i literals) in
    fresh i (omega (arith, length_push literals l))
    (subst P (sym (take-append-le i literals (l ∷ []) (omega arith)))
    (subst Q (sym (get_or_append_left literals (l ∷ []) (pos 0) i lt)) there))

-- going on to take the front of a list
pub front-less : (n : ℕ) (whole literals : List ℤ) (l : ℤ) → n < length (literals ++ l ∷ []) →
    take n (literals ++ l ∷ []) ≡ take n whole → take n literals ≡ take n whole
front-less n whole literals l more e = sym (take-append-le n literals (l ∷ [])
    (omega (arith, length_push literals l))) ∙ e
