-- The latches of a safe net in their parts, and choices of a list.
use Rattle.std.proofs.Common.{◌≡◌, ℕ, zero, suc, ◌+◌, ◌<◌, Bool, true, false, cond, List, [], ◌∷◌, ◌++◌, length, get_or, inl, inr, refl, sym, ◌∙◌, subst, arith, length-append}
use Rattle.std.proofs.lemmas.Bool.{cases_eq}
use Rattle.std.proofs.lemmas.List.{get_or_append_left, get_or_at}
use Rattle.hy_base.proofs.Truths.{counted-if, more-if}
use Rattle.aig_net.specs.Nets.{Net}
use Rattle.live_safe.specs.Safe.{count_below, shape}
use Rattle.hy_base.specs.Rows.{listed}
use Rattle.hy_base.proofs.Listed.{length-listed, listed-append, append-listed}

-- ---- the latches of a safe net

module _ {A : Type 0} (d : A) (net : Net) (saved : A) (seen latch copy : ℕ →
    A) (begun : List A) where
  pub length-shape : length (shape net saved seen latch copy begun) ≡ suc
      (length net.fairs + (length net.latches + (length net.latches + length begun)))
  length-shape =
      let a = length-listed 0 (length net.fairs) seen in
      let b = length-listed 0 (length net.latches) latch in
      let c = length-listed 0 (length net.latches) copy in
      let x = length-append (listed 0 (length net.latches) copy) begun in
      let y = length-append (listed 0 (length net.latches) latch)
      (listed 0 (length net.latches) copy ++ begun) in
      let z = length-append (listed 0 (length net.fairs) seen)
      (listed 0 (length net.latches) latch ++ (listed 0 (length net.latches) copy ++ begun)) in
      omega (arith, a, b, c, x, y, z)

  pub record ShapeFacts (P : ℕ → A → Type 0) : Type 0 where
    pub on_saved : P 0 saved
    pub on_seen : (j : ℕ) → j < length net.fairs → P (suc j) (seen j)
    pub on_latch : (j : ℕ) → j < length net.latches → P (suc (length net.fairs + j)) (latch j)
    pub on_copy : (j : ℕ) → j < length net.latches →
        P (suc (length net.fairs + (length net.latches + j))) (copy j)
    pub on_begun : (j : ℕ) → j < length begun →
        P (suc (length net.fairs + (length net.latches + (length net.latches + j))))
        (get_or begun j d)

  abbrev after_seen : List A
  after_seen = listed 0 (length net.latches) latch ++ (listed 0 (length net.latches) copy ++ begun)

  abbrev after_saved : List A
  after_saved = listed 0 (length net.fairs) seen ++ after_seen

  pub shape-facts : (P : ℕ → A → Type 0) →
      ((j : ℕ) → j < length (shape net saved seen latch copy begun) →
      P j (get_or (shape net saved seen latch copy begun) j d)) → ShapeFacts P
  shape-facts P all =
      let rest : (j : ℕ) → j < length after_saved → P (suc j) (get_or after_saved j d) =
      λ j lt. all (suc j) (omega arith) in
      let (a, more) = listed-append d (length net.fairs) seen
      (listed 0 (length net.latches) latch ++ (listed 0 (length net.latches) copy ++ begun))
      (λ j. P (suc j)) rest in
      let (b, more') = listed-append d (length net.latches) latch
      (listed 0 (length net.latches) copy ++ begun)
      (λ j. P (suc (length net.fairs + j))) more in
      let (c, e) = listed-append d (length net.latches) copy begun
      (λ j. P (suc (length net.fairs + (length net.latches + j)))) more' in
      record {
        on_saved = all 0 (omega arith);
        on_seen = a;
        on_latch = b;
        on_copy = c;
        on_begun =
            e;
      }

  pub facts-shape : (P : ℕ → A → Type 0) → ShapeFacts P → (j : ℕ) →
      j < length (shape net saved seen latch copy begun) →
      P j (get_or (shape net saved seen latch copy begun) j d)
  facts-shape P facts zero lt = facts.on_saved
  facts-shape P facts (suc j) lt =
      append-listed d (length net.fairs) seen
      (listed 0 (length net.latches) latch ++ (listed 0 (length net.latches) copy ++ begun))
      (λ j. P (suc j)) facts.on_seen
      (append-listed d (length net.latches) latch (listed 0 (length net.latches) copy ++ begun)
      (λ j. P (suc (length net.fairs + j))) facts.on_latch
      (append-listed d (length net.latches) copy begun
      (λ j. P (suc (length net.fairs +
      (length net.latches + j)))) facts.on_copy facts.on_begun))
      j (omega arith)

-- ---- choices

module _ (test : ℕ → Bool) where
  pub count-below : (n k : ℕ) → k < n → test k ≡ true → count_below test k < count_below test n
  count-below zero k lt is = absurd (omega arith)
  count-below (suc n) k lt is =
      elim (cases_eq k n) [
        | inl e ↦ let P : ℕ → Type 0 = λ k. test k ≡ true →
            count_below test k < count_below test (suc n) in
            subst P (sym e) (counted-if (test n) (count_below test n)) is
        | inr apart ↦ omega (
          arith,
          count-below n k (omega arith) is,
          more-if (test n)
              (count_below test n),
        )
      ]

  module _ {A : Type 0} (value : ℕ → A) (d : A) where
    -- the values where the test passes
    abbrev pub chosen : ℕ → List A
    chosen zero = []
    chosen (suc k) = cond (test k) (chosen k ++ value k ∷ []) (chosen k)

    pub many-chosen : (n : ℕ) → length (chosen n) ≡ count_below test n
    many-chosen zero = refl
    many-chosen (suc k) = at (test k) (many-chosen k)
      where
        at : (b : Bool) → length (chosen k) ≡ count_below test k →
            length (cond b (chosen k ++ value k ∷ []) (chosen k)) ≡ cond b
            (suc (count_below test k)) (count_below test k)
        at true e = let l = length-append (chosen k) (value k ∷ []) in omega (arith, l, e)
        at false e = e

    pub chosen-at : (n k : ℕ) → k < n → test k ≡ true →
        get_or (chosen n) (count_below test k) d ≡ value k
    chosen-at zero k lt is = absurd (omega arith)
    chosen-at (suc n) k lt is =
        elim (cases_eq k n) [
          | inl e ↦
              let P : ℕ → Type 0 = λ k. test k ≡ true →
              get_or (chosen (suc n)) (count_below test k) d ≡ value k in
              subst P (sym e) (last (test n)) is
          | inr apart ↦ early (test n) (count-below n k (omega arith) is)
              (chosen-at n k (omega arith) is)
        ]
      where
        last : (b : Bool) → b ≡ true →
            get_or (cond b (chosen n ++ value n ∷ []) (chosen n)) (count_below test n) d ≡ value n
        last true e = get_or_at (chosen n) (value n) [] d (count_below test n) (many-chosen n)
        last false e = absurd (cc)

        early : (b : Bool) → count_below test k < count_below test n →
            get_or (chosen n) (count_below test k) d ≡ value k →
            get_or (cond b (chosen n ++ value n ∷ []) (chosen n)) (count_below test k) d ≡ value k
        early true lt e = let m = many-chosen n in
            get_or_append_left (chosen n) (value n ∷ []) d (count_below test k)
            (omega (arith, m, lt)) ∙ e
        early false lt e = e
