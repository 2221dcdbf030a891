-- What literals say under an assignment.
use Rattle.std.proofs.Common.{◌≡◌, ℕ, ◌⊎◌, Bool, true, false, not, inl, inr, refl, sym, ap, ◌∙◌}
use Rattle.std.specs.Prelude.{ℤ, neg_ℤ}
use Rattle.std.specs.Bool.{Decides}
use Rattle.std.proofs.lemmas.Bool.Decides.{Decides-at, Decides-like, Decides-not, Decides-and, not_from_Decides}
use Rattle.hy_base.proofs.Truths.{not-not}
use Rattle.hy_formula.specs.Temporal.{Decided}
use Rattle.chain_check.proofs.Literals.{twice}
use Rattle.chain_check.specs.FewClauses.{further}
use Rattle.chain_check.specs.Values.{Assignment, number_value}
use Rattle.bound_search.specs.Drawings.{both, either, alike, sure, never}
use Rattle.bound_search.proofs.RightGates.{Gives, gives-plain, gives-followed, gives-like}

-- The literal is true where P holds and only there, and its opposite is not.
pub record Says (a : Assignment) (l : ℤ) (P : Type 0) : Type 0 where
  pub is : Decides (number_value a l) P
  pub other : number_value a (neg_ℤ l) ≡ not (number_value a l)

module _ (a : Assignment) where
  -- ---- literals

  pub says-like : (l : ℤ) (P Q : Type 0) → (P → Q) → (Q → P) → Says a l P → Says a l Q
  says-like l P Q f g s = record { is = Decides-like _ f g s.is; other = s.other }

  pub says-decided : (l : ℤ) (P : Type 0) → Says a l P → Decided P
  says-decided l P s = of (number_value a l) s.is
    where
      of : (b : Bool) → Decides b P → Decided P
      of true d = inl (d.0 refl)
      of false d = inr (not_from_Decides false d refl)

  pub says-not : (l : ℤ) (P : Type 0) → Says a l P → Says a (neg_ℤ l) (¬ P)
  says-not l P s = record {
    is = Decides-at _ _ s.other (Decides-not _ s.is);
    other = ap (number_value a) (twice l) ∙ sym (not-not _) ∙ ap not (sym s.other);
  }

  pub says-variable : (v : ℕ) (P : Type 0) → Decides (a v) P → Says a (further v) P
  says-variable v P d = record { is = d; other = refl }

  pub says-sure : a 0 ≡ true → Says a sure (Unit {0})
  says-sure e = says-variable 0 (Unit {0}) (λ _. tt, λ _. e)

  pub says-never : a 0 ≡ true → Says a never ⊥
  says-never e =
      says-like never (¬ Unit {0}) ⊥ (λ n. n tt) (λ h. absurd h) (says-not sure (Unit {0})
      (says-sure e))

  pub says-both : (l m : ℤ) (P Q : Type 0) → Says a l P → Says a m Q →
      Gives a (both l m) (λ x. Says a x (P × Q))
  says-both l m P Q s t = record {
    at = λ from right. says-variable from (P × Q)
        (Decides-at _ _ right.0 (Decides-and _ _ s.is t.is));
  }

  pub says-either : (l m : ℤ) (P Q : Type 0) → Says a l P → Says a m Q →
      Gives a (either l m) (λ x. Says a x (P ⊎ Q))
  says-either l m P Q s t =
      gives-followed a _ _ _ _ (says-both _ _ _ _ (says-not l P s) (says-not m Q t))
      (λ none says. gives-plain a _ _ (says-like _ _ _ some none_of (says-not none _ says)))
    where
      some : ¬ ((¬ P) × (¬ Q)) → P ⊎ Q
      some n = elim (says-decided l P s) [
        | inl p ↦ inl p
        | inr np ↦ elim (says-decided m Q t) [ inl q ↦ inr q | inr nq ↦ absurd (n (np, nq)) ]
      ]

      none_of : P ⊎ Q → ¬ ((¬ P) × (¬ Q))
      none_of (inl p) (np, nq) = np p
      none_of (inr q) (np, nq) = nq q

  pub says-alike : (l m : ℤ) (P Q : Type 0) → Says a l P → Says a m Q →
      Gives a (alike l m) (λ x. Says a x ((P → Q) × (Q → P)))
  says-alike l m P Q s t =
      gives-followed a _ _ _ _ (says-both l m P Q s t) (λ all says_all.
      gives-followed a _ _ _ _ (says-both _ _ _ _ (says-not l P s) (says-not m Q t))
      (λ none says_none.
      gives-like a _ _ _ (λ x. says-like x _ _ to back)
      (says-either all none _ _ says_all says_none)))
    where
      to : (P × Q) ⊎ ((¬ P) × (¬ Q)) → (P → Q) × (Q → P)
      to (inl (p, q)) = (λ _. q, λ _. p)
      to (inr (np, nq)) = (λ p. absurd (np p), λ q. absurd (nq q))

      back : (P → Q) × (Q → P) → (P × Q) ⊎ ((¬ P) × (¬ Q))
      back (f, g) = elim (says-decided l P s) [
        | inl p ↦ inl (p, f p)
        | inr np ↦ inr (np, λ q. np (g q))
      ]

  -- where the first says that P fails
  pub says-implies : (l m : ℤ) (P Q : Type 0) → Says a l (¬ P) → Says a m Q →
      Gives a (either l m) (λ x. Says a x (P → Q))
  says-implies l m P Q s t =
      gives-like a _ _ _ (λ x. says-like x _ _ to back) (says-either l m (¬ P) Q s t)
    where
      to : (¬ P) ⊎ Q → P → Q
      to (inl np) p = absurd (np p)
      to (inr q) p = q

      back : (P → Q) → (¬ P) ⊎ Q
      back f = elim (says-decided m Q t) [ inl q ↦ inr q | inr nq ↦ inl (λ p. nq (f p)) ]
