-- Choices of members for variables: each has its place, and the choice at that place is the same.
use Rattle.std.proofs.Common.{◌≡◌, ℕ, zero, suc, ◌+◌, ◌*◌, ◌/◌, ◌%◌, ◌^◌, ◌<◌, ◌≤◌, Bool, true, false, cond, nat_eq, List, [], ◌∷◌, length, get_or, inl, inr, refl, sym, ap, ◌∙◌, arith}
use Rattle.std.specs.List.{Contains}
use Rattle.std.proofs.Math.Nat.{mod-lt, mul-le-mul_right, pow-suc, pow-zero}
use Rattle.std.proofs.lemmas.Bool.Decides.{Decides-eqb}
use Rattle.std.proofs.lemmas.Nat.{div-mul-add, mod-mul-add}
use Rattle.hy_base.specs.Rows.{listed}
use Rattle.hy_base.proofs.Listed.{at-listed, length-listed}
use Rattle.hy_base.proofs.Members.{contains-cases, contains-none}
use Rattle.hy_formula.specs.Quantifiers.{Each}
use Rattle.bound_search.specs.declared.frame.Frame.{Frame}
use Rattle.bound_search.specs.Sheets.{place_among, member_at, tuple_at}

-- one number of a member for each quantifier
abbrev pub IsChoice : Frame → List ℕ → Type 0
IsChoice frame tuple =
    (length tuple ≡ frame.quantifiers) × Each (λ k. k < frame.traces) tuple

pub pow-one : (n : ℕ) → n ^ 1 ≡ n
pow-one n =
    let zeroth = pow-zero n in
    let first : n ^ 1 ≡ n ^ 0 * n = pow-suc n 0 in
    first ∙ ap (λ m. m * n) zeroth ∙ omega arith

pub each-listed : {A : Type 0} (P : A → Type 0) (f : ℕ → A) (c n : ℕ) →
    ((i : ℕ) → c ≤ i → i < c + n → P (f i)) → Each P (listed c n f)
each-listed P f c zero h = tt
each-listed P f c (suc n) h = (
  h c (omega arith) (omega arith),
  each-listed P f (suc c) n (λ i le lt. h i (omega arith) (omega arith)),
)

module _ (n : ℕ) (some : 0 < n) where
  pub member-below : (tuple : List ℕ) → Each (λ k. k < n) tuple → (v : ℕ) → get_or tuple v 0 < n
  member-below [] h v = some
  member-below (x ∷ xs) h zero = h.0
  member-below (x ∷ xs) h (suc v) = member-below xs h.1 v

  pub place-below : (tuple : List ℕ) → ((v : ℕ) → get_or tuple v 0 < n) → (variables : List ℕ) →
      place_among n variables tuple < n ^ length variables
  place-below tuple few [] = omega (arith, pow-zero n)
  place-below tuple few (v ∷ variables) =
      let q : ℕ = place_among n variables tuple in
      let m : ℕ = n ^ length variables in
      let rest : q < m = place-below tuple few variables in
      let all : suc q * n ≤ m * n = mul-le-mul_right n rest in
      omega (arith, few v, all, pow-suc n (length variables))

  pub members-below : (variables : List ℕ) (place v : ℕ) → member_at n variables place v < n
  members-below [] place v = some
  members-below (u ∷ variables) place v = of (nat_eq v u) (members-below variables (place / n) v)
    where
      of : (b : Bool) → member_at n variables (place / n) v < n →
          cond b (place % n) (member_at n variables (place / n) v) < n
      of true rest = mod-lt place some
      of false rest = rest

  -- The choice at the place of a tuple has its members for these variables.
  pub member-chosen : (tuple : List ℕ) → ((v : ℕ) → get_or tuple v 0 < n) →
      (variables : List ℕ) (v : ℕ) → Contains variables v →
      member_at n variables (place_among n variables tuple) v ≡ get_or tuple v 0
  member-chosen tuple few [] v h = absurd (contains-none v h)
  member-chosen tuple few (u ∷ variables) v h =
      of (nat_eq v u) refl (member-chosen tuple few variables v)
    where
      q : ℕ
      q = place_among n variables tuple

      of : (b : Bool) → nat_eq v u ≡ b →
          (Contains variables v → member_at n variables q v ≡ get_or tuple v 0) →
          cond b ((q * n + get_or tuple u 0) % n)
          (member_at n variables ((q * n + get_or tuple u 0) / n) v) ≡ get_or tuple v 0
      of true e later =
          let same : v ≡ u = (Decides-eqb v u).0 e in
          mod-mul-add q n (get_or tuple u 0) (few u) ∙ ap (λ w. get_or tuple w 0) (sym same)
      of false e later =
          ap (λ p. member_at n variables p v) (div-mul-add q n (get_or tuple u 0) (few u))
          ∙ elim (contains-cases u v variables h) [
            | inl same ↦
                let yes : nat_eq v u ≡ true = (Decides-eqb v u).1 (sym same) in
                absurd (cc)
            | inr there ↦ later there
          ]

module _ (frame : Frame) (some : 0 < frame.traces) (variables : List ℕ) where
  pub tuple-member : (place v : ℕ) → v < frame.quantifiers →
      get_or (tuple_at frame variables place) v 0 ≡ member_at frame.traces variables place v
  tuple-member place v lt =
      let e : 0 + v ≡ v = omega arith in
      at-listed 0 frame.quantifiers _ 0 v lt ∙ ap (member_at frame.traces variables place) e

  pub tuple-choice : (place : ℕ) → IsChoice frame (tuple_at frame variables place)
  tuple-choice place = (
    length-listed 0 frame.quantifiers _,
    each-listed (λ k. k < frame.traces) _ 0 frame.quantifiers (λ i _ _.
        members-below frame.traces some variables place i),
  )
