-- Members of a list, and tuples of members that one quantifier, again and again, chooses.
use Rattle.std.proofs.Common.{ℕ, zero, suc, ◌↔◌, List, [], ◌∷◌, inl, inr, refl, sym, ap, subst, arith}
use Rattle.std.specs.List.{Contains}
use Rattle.hy_base.proofs.Members.{contains-here, contains-later, contains-cases, contains-none}
use Rattle.hy_formula.specs.Temporal.{Decided}
use Rattle.hy_formula.specs.declared.prefix.Quant.TheVariants.{Exists, Forall}
use Rattle.hy_formula.specs.Quantifiers.{Quantified, repeated, IsTuple}
use Rattle.hy_formula.proofs.Choices.{IsSearched}

-- Of the members of a list one with a property is found.
pub searched-members : {A : Type 0} (list : List A) → IsSearched (Contains list)
searched-members [] P d = inr (λ (x, c, p). contains-none x c)
searched-members {A} (y ∷ ys) P d =
    step (d y (contains-here y ys)) (searched-members ys P (λ x c. d x (contains-later y x ys c)))
  where
    step : Decided (P y) → Decided ((x : A) × Contains ys x × P x)
        → Decided ((x : A) × Contains (y ∷ ys) x × P x)
    step (inl p) _ = inl (y, contains-here y ys, p)
    step (inr n) (inl (x, c, p)) = inl (x, contains-later y x ys c, p)
    step (inr n) (inr none) =
        inr (λ (x, c, p). elim (contains-cases y x ys c) [
          | inl e ↦ n (subst P
              (sym e) p)
          | inr later ↦ none (x, later, p)
        ])

module _ {A : Type 0} (Member : A → Type 0) where
  pub some-tuple : (Body : List A → Type 0) (n : ℕ)
      → Quantified Member Body (repeated Exists n) ↔
      ((tuple : List A) × IsTuple Member n tuple × Body tuple)
  some-tuple Body zero = (λ b. ([], record { count = refl; members = tt }, b), back)
    where
      back : ((tuple : List A) × IsTuple Member 0 tuple × Body tuple) → Body []
      back ([], t, b) = b
      back (x ∷ xs, t, b) = absurd (omega (arith, t.count))
  some-tuple Body (suc n) = (
    λ (x, m, q).
        let (tuple, t, b) = (some-tuple (λ tuple. Body (x ∷ tuple)) n).0 q in
        (x ∷ tuple, record { count = ap suc t.count; members = (m, t.members) }, b),
    back (λ x. (some-tuple (λ tuple. Body (x ∷ tuple)) n).1),
  )
    where
      back : ((x : A) → ((tuple : List A) × IsTuple Member n tuple × Body (x ∷ tuple))
          → Quantified Member (λ tuple. Body (x ∷ tuple)) (repeated Exists n))
          → ((tuple : List A) × IsTuple Member (suc n) tuple × Body tuple) → Quantified Member Body
          (repeated Exists (suc n))
      back f ([], t, b) = absurd (omega (arith, t.count))
      back f (x ∷ xs, t, b) = (
        x,
        t.members.0,
        f x (
          xs,
          record {
            count = omega
                (arith, t.count);
            members = t.members.1;
          },
          b,
        ),
      )

  pub every-tuple : (Body : List A → Type 0) (n : ℕ)
      → Quantified Member Body (repeated Forall n) ↔
      ((tuple : List A) → IsTuple Member n tuple → Body tuple)
  every-tuple Body zero = (there, λ all. all [] (record { count = refl; members = tt }))
    where
      there : Body [] → (tuple : List A) → IsTuple Member 0 tuple → Body tuple
      there b [] t = b
      there b (x ∷ xs) t = absurd (omega (arith, t.count))
  every-tuple Body (suc n) = (
    there (λ x. (every-tuple (λ tuple. Body (x ∷ tuple)) n).0),
    λ all x m.
        (every-tuple (λ tuple. Body (x ∷ tuple)) n).1
        (λ tuple t. all (x ∷ tuple) (record { count = ap suc t.count; members = (m, t.members) })),
  )
    where
      there : ((x : A) → Quantified Member (λ tuple. Body (x ∷ tuple)) (repeated Forall n)
          → (tuple : List A) → IsTuple Member n tuple → Body (x ∷ tuple))
          → Quantified Member Body (repeated Forall (suc n)) → (tuple : List A) → IsTuple Member
          (suc n) tuple → Body tuple
      there f q [] t = absurd (omega (arith, t.count))
      there f q (x ∷ xs) t =
          f x (q x t.members.0) xs (record {
            count = omega
                (arith, t.count);
            members = t.members.1;
          })
