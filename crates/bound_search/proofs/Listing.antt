-- What is drawn for each number, one after the other.
use Rattle.std.proofs.Common.{◌≡◌, ℕ, zero, suc, ◌+◌, ◌*◌, ◌<◌, ◌≤◌, List, [], ◌∷◌, ◌++◌, length, get_or, inl, inr, refl, sym, ap, ◌∙◌, subst, arith, length-append}
use Rattle.std.proofs.lemmas.Bool.{cases_lt}
use Rattle.std.proofs.lemmas.List.{get_or_append_left}
use Rattle.hy_base.proofs.Places.{last-of}
use Rattle.hy_formula.specs.Quantifiers.{Each}
use Rattle.hy_formula.proofs.Each.{each-append, each-like}
use Rattle.chain_check.specs.Values.{Assignment}
use Rattle.bound_search.specs.declared.gates.Gates.{Gates}
use Rattle.bound_search.specs.Drawings.{Drawing, plain, followed}
use Rattle.bound_search.specs.Making.{Draws}
use Rattle.bound_search.specs.Sheets.{listing}
use Rattle.bound_search.proofs.RightGates.{Gives, gives-plain, gives-followed}
use Rattle.bound_search.proofs.Fitting.{Fits, fits-plain, fits-followed, fits-later, fits-counted}
use Rattle.bound_search.proofs.Making.{draws-plain, draws-followed}

-- There are n, and each has P, which is told its number.
pub record IsListing {A : Type 0} (P : ℕ → A → Type 0) (d : A) (n : ℕ) (xs : List A) : Type 0 where
  pub many : length xs ≡ n
  pub each : (k : ℕ) → k < n → P k (get_or xs k d)

module _ {A : Type 0} (P : ℕ → A → Type 0) (d : A) where
  listing-none : IsListing P d 0 []
  listing-none = record { many = refl; each = λ k lt. absurd (omega arith) }

  listing-more : (n : ℕ) (xs : List A) (x : A) → IsListing P d n xs → P n x →
      IsListing P d (suc n) (xs ++ x ∷ [])
  listing-more n xs x l h =
      let whole = length-append xs (x ∷ []) in
      let many = l.many in
      record {
        many = omega (arith, whole, many);
        each = λ k lt. elim (cases_lt k n) [
          | inl less ↦
              let Q : A → Type 0 = P k in
              subst Q (sym (get_or_append_left xs (x ∷ []) d k (omega (arith, many)))) (l.each k less)
          | inr last ↦
              let e : n ≡ k = omega arith in
              let Q : ℕ → Type 0 = λ i. P i (get_or (xs ++ x ∷ []) k d) in
              let R : A → Type 0 = P n in
              let own : x ≡ get_or (xs ++ x ∷ []) k d =
              sym (last-of xs x d) ∙ ap (λ i. get_or (xs ++ x ∷ []) i d) (many ∙ e) in
              subst Q e (subst R own h)
        ];
      }

  module _ (a : Assignment) (each : ℕ → Drawing A) where
    pub gives-listing : (n : ℕ) → ((k : ℕ) → k < n → Gives a (each k) (P k)) →
        Gives a (listing each n) (IsListing P d n)
    gives-listing zero h = gives-plain a [] _ listing-none
    gives-listing (suc n) h =
        gives-followed a _ _ _ _ (gives-listing n (λ k lt. h k (omega arith))) (λ before l.
        gives-followed a _ _ _ _ (h n (omega arith)) (λ last p.
        gives-plain a _ _ (listing-more n before last l p)))

-- ---- which gates

-- There are n, and each has P, which is told how many variables there are.
pub record AreMany {A : Type 0} (P : ℕ → A → Type 0) (n m : ℕ) (xs : List A) : Type 0 where
  pub many : length xs ≡ n
  pub each : Each (P m) xs

module _ {A : Type 0} (P : ℕ → A → Type 0) (later : (m o : ℕ) (x : A) → m ≤ o → P m x → P o x) where
  pub many-later : (n m o : ℕ) (xs : List A) → m ≤ o → AreMany P n m xs → AreMany P n o xs
  many-later n m o xs le l = record {
    many = l.many;
    each = each-like (P m) (P o) (λ x. later m o x le) xs l.each;
  }

  pub fits-listing : (each : ℕ → Drawing A) (m g n : ℕ) → ((k : ℕ) → k < n → Fits (each k) m g P) →
      Fits (listing each n) m (n * g) (AreMany P n)
  fits-listing each m g zero h =
      fits-counted _ m 0 (0 * g) _ (omega arith)
      (fits-plain [] m _ (λ o le. record { many = refl; each = tt }))
  fits-listing each m g (suc n) h =
      fits-followed _ _ m (n * g) g (suc n * g) (AreMany P n) (AreMany P (suc n)) (omega arith)
      (fits-listing each m g n (λ k lt. h k (omega arith)))
      (λ o before le l.
      fits-followed _ _ o g 0 g P (AreMany P (suc n)) (omega arith)
      (fits-later _ m o g P le (h n (omega arith)))
      (λ u last more p. fits-plain _ u (AreMany P (suc n)) (λ w up.
      let b = many-later n o w before (omega arith) l in
      let whole = length-append before (last ∷ []) in
      record {
        many = omega (arith, whole, b.many);
        each = each-append (P w) before (last ∷ []) b.each (later u w last up p, tt);
      })))

-- ---- made by code

module _ {A : Type 0} (each : ℕ → Drawing A) where
  pub listing-drawn : (k : ℕ) (old mid new : Gates) (xs more : List A) (x : A) →
      Draws (listing each k) old mid xs → Draws (each k) mid new x → more ≡ xs ++ x ∷ [] →
      Draws (listing each (k + 1)) old new more
  listing-drawn k old mid new xs more x p q e =
      let up : suc k ≡ k + 1 = omega arith in
      let P : ℕ → Type 0 = λ n. Draws (listing each n) old new more in
      subst P up (draws-followed (listing each k)
      (λ before. followed (each k) (λ last. plain (before ++ last ∷ []))) old mid new xs more p
      (draws-followed (each k) (λ last. plain (xs ++ last ∷ [])) mid new new x more q
      (draws-plain (xs ++ x ∷ []) more new e)))
