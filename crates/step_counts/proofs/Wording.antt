-- Words over two letters: how many there are beside one, and how traces over them branch off.
use Rattle.std.proofs.Common.{◌≡◌, ℕ, zero, suc, ◌+◌, ◌^◌, ◌<◌, ◌≤◌, ◌⊎◌, List, [], ◌∷◌, ◌++◌, length, map, take, slice_index_or, inl, inr, refl, sym, ap, ◌∙◌, subst, arith, length-append}
use Rattle.std.specs.List.{Contains}
use Rattle.std.proofs.Math.Nat.{pow-zero, two-pow-succ}
use Rattle.std.proofs.lemmas.List.{length-map, length-take-le}
use Rattle.std.proofs.lemmas.List.Elements.{Contains-append_left, Contains-append_right}
use Rattle.hy_base.proofs.Members.{contains-here, map-of}
use Rattle.hy_bits.specs.Letter.{Letter}
use Rattle.hy_finite.specs.Traces.{Trace}
use Rattle.step_counts.specs.Branches.{Branches}
use Rattle.step_counts.specs.Words.{IsOver}

-- ---- words of one length

module _ (x y : Letter) where
  -- a list with each word of n letters
  record AllWords (n : ℕ) : Type 0 where
    words : List Trace
    many : length words ≡ 2 ^ n
    all : (v : Trace) → IsOver x y v → length v ≡ n → Contains words v

  both-long : (a b : Letter) (us vs : List Trace) → (n : ℕ) → length us ≡ n → (m : ℕ) → length vs ≡ m
      → length (map (λ (w : Trace). a ∷ w) us ++ map (λ (w : Trace). b ∷ w) vs) ≡ n + m
  both-long a b us vs n e m f =
      length-append (map (λ (w : Trace). a ∷ w) us) (map (λ (w : Trace). b ∷ w) vs)
      ∙ (omega (arith, length-map us (λ (w : Trace). a ∷ w), length-map vs (λ (w : Trace). b ∷ w), e, f))

  -- of two letters each before words
  in-first : (a b c : Letter) (us vs : List Trace) (w : Trace) → c ≡ a → Contains us w
      → Contains (map (λ (w : Trace). a ∷ w) us ++ map (λ (w : Trace). b ∷ w) vs) (c ∷ w)
  in-first a b c us vs w e d =
      let both = map (λ (w : Trace). a ∷ w) us ++ map (λ (w : Trace). b ∷ w) vs in
      let P : Letter → Type 0 = λ z. Contains both (z ∷ w) in
      subst P (sym e)
      (Contains-append_left (map (λ (w : Trace). a ∷ w) us) (map (λ (w : Trace). b ∷ w) vs) (a ∷ w)
      (map-of (λ (w : Trace). a ∷ w) us w d))

  in-second : (a b c : Letter) (us vs : List Trace) (w : Trace) → c ≡ b → Contains vs w
      → Contains (map (λ (w : Trace). a ∷ w) us ++ map (λ (w : Trace). b ∷ w) vs) (c ∷ w)
  in-second a b c us vs w e d =
      let both = map (λ (w : Trace). a ∷ w) us ++ map (λ (w : Trace). b ∷ w) vs in
      let P : Letter → Type 0 = λ z. Contains both (z ∷ w) in
      subst P (sym e)
      (Contains-append_right (map (λ (w : Trace). a ∷ w) us) (map (λ (w : Trace). b ∷ w) vs) (b ∷ w)
      (map-of (λ (w : Trace). b ∷ w) vs w d))

  all-words : (n : ℕ) → AllWords n
  all-words zero = record {
    words = [] ∷ [];
    many = sym (pow-zero 2);
    all = one;
  }
    where
      one : (v : Trace) → IsOver x y v → length v ≡ 0 → Contains ([] ∷ []) v
      one [] over e = contains-here [] []
      one (a ∷ v) over e = absurd (omega (arith, e))
  all-words (suc n) =
      let less = all-words n in
      record {
        words = map (λ (w : Trace). x ∷ w) less.words ++ map (λ (w : Trace). y ∷ w) less.words;
        many = both-long x y less.words less.words (2 ^ n) less.many (2 ^ n) less.many
            ∙ sym (two-pow-succ n);
        all = each less;
      }
    where
      each : (less : AllWords n) (v : Trace) → IsOver x y v → length v ≡ suc n
          → Contains (map (λ (w : Trace). x ∷ w) less.words ++ map (λ (w : Trace). y ∷ w) less.words) v
      each less [] over e = absurd (omega (arith, e))
      each less (a ∷ v) over e =
          let c = less.all v over.1 (omega (arith, e)) in
          elim over.0 [
            | inl is ↦ in-first x y a less.words less.words v is c
            | inr is ↦ in-second x y a less.words less.words v is c
          ]

  -- a list with each other word as long as this one
  record Beside (w : Trace) : Type 0 where
    words : List Trace
    many : suc (length words) ≡ 2 ^ length w
    all : (v : Trace) → IsOver x y v → length v ≡ length w → (v ≡ w) ⊎ Contains words v

  -- where each letter is that of the word or another one
  beside-by : (c other : Letter) (w : Trace)
      → ((d : Letter) → (d ≡ x) ⊎ (d ≡ y) → (d ≡ c) ⊎ (d ≡ other))
      → Beside w → AllWords (length w) → Beside (c ∷ w)
  beside-by c other w either less full = record {
    words = map (λ (v : Trace). c ∷ v) less.words ++ map (λ (v : Trace). other ∷ v) full.words;
    many = omega (
      arith,
      both-long c other less.words full.words (length less.words) refl (2 ^ length w) full.many,
      less.many,
      two-pow-succ (length w),
    );
    all = each;
  }
    where
      each : (v : Trace) → IsOver x y v → length v ≡ suc (length w) → (v ≡ c ∷ w)
          ⊎ Contains
          (map (λ (v : Trace). c ∷ v) less.words ++ map (λ (v : Trace). other ∷ v) full.words) v
      each [] over e = absurd (omega (arith, e))
      each (d ∷ v) over e =
          let long : length v ≡ length w = omega (arith, e) in
          elim (either d over.0) [
            | inl is ↦ elim (less.all v over.1 long) [
              | inl same ↦ inl (ap (λ (b : Letter). b ∷ v) is ∙ ap (λ (u : Trace). c ∷ u) same)
              | inr found ↦ inr (in-first c other d less.words full.words v is found)
            ]
            | inr is ↦
                inr (in-second c other d less.words full.words v is (full.all v over.1 long))
          ]

  beside : (w : Trace) → IsOver x y w → Beside w
  beside [] over = record { words = []; many = sym (pow-zero 2); all = one }
    where
      one : (v : Trace) → IsOver x y v → length v ≡ 0 → (v ≡ []) ⊎ Contains [] v
      one [] over e = inl refl
      one (a ∷ v) over e = absurd (omega (arith, e))
  beside (c ∷ w) over =
      let less = beside w over.1 in
      let full = all-words (length w) in
      elim over.0 [
        | inl is ↦
            beside-by c y w (λ d. elim [ inl e ↦ inl (e ∙ sym is) | inr e ↦ inr e ]) less full
        | inr is ↦
            beside-by c x w (λ d. elim [ inl e ↦ inr e | inr e ↦ inl (e ∙ sym is) ]) less full
      ]

  -- ---- first letters

  over-take : (k : ℕ) (t : Trace) → IsOver x y t → IsOver x y (take k t)
  over-take zero t over = tt
  over-take (suc k) [] over = tt
  over-take (suc k) (a ∷ t) over = (over.0, over-take k t over.1)

  -- the word as far as it goes, and then the first of the two letters
  filled : ℕ → Trace → Trace
  filled zero t = []
  filled (suc k) [] = x ∷ filled k []
  filled (suc k) (a ∷ t) = a ∷ filled k t

  over-filled : (k : ℕ) (t : Trace) → IsOver x y t → IsOver x y (filled k t)
  unfolding filled
  over-filled zero t over = tt
  over-filled (suc k) [] over = (inl refl, over-filled k [] over)
  over-filled (suc k) (a ∷ t) over = (over.0, over-filled k t over.1)

  long-filled : (k : ℕ) (t : Trace) → length (filled k t) ≡ k
  unfolding filled
  long-filled zero t = refl
  long-filled (suc k) [] = ap suc (long-filled k [])
  long-filled (suc k) (a ∷ t) = ap suc (long-filled k t)

  filled-take : (k : ℕ) (t : Trace) → k ≤ length t → filled k t ≡ take k t
  unfolding filled
  filled-take zero t le = refl
  filled-take (suc k) [] le = absurd (omega (arith, le))
  filled-take (suc k) (a ∷ t) le = ap (λ u. a ∷ u) (filled-take k t (omega (arith, le)))

  -- ---- four lengths

  module _ (t : Trace) (over : IsOver x y t) where
    other : (k : ℕ) → Beside (filled k t)
    other k = beside (filled k t) (over-filled k t over)

    -- beside the first letters of the trace, and those that fill it up
    pub words_of : List (List Trace)
    words_of = (other 1).words ∷ (other 2).words ∷ (other 3).words ∷ (other 4).words ∷ []

    many-of : (k : ℕ) → suc (length (other k).words) ≡ 2 ^ k
    many-of k = (other k).many ∙ ap (λ n. 2 ^ n) (long-filled k t)

    pub lengths-of : map (λ (l : List Trace). length l) words_of ≡ 1 ∷ 3 ∷ 7 ∷ 15 ∷ []
    unfolding words_of
    lengths-of =
        let one : length (other 1).words ≡ 1 = omega (arith, many-of 1) in
        let two : length (other 2).words ≡ 3 = omega (arith, many-of 2) in
        let three : length (other 3).words ≡ 7 = omega (arith, many-of 3) in
        let four : length (other 4).words ≡ 15 = omega (arith, many-of 4) in
        ap (λ n. n ∷ length (other 2).words ∷ length (other 3).words ∷ length (other 4).words ∷ []) one
        ∙ ap (λ n. 1 ∷ n ∷ length (other 3).words ∷ length (other 4).words ∷ []) two
        ∙ ap (λ n. 1 ∷ 3 ∷ n ∷ length (other 4).words ∷ []) three
        ∙ ap (λ n. 1 ∷ 3 ∷ 7 ∷ n ∷ []) four

    at : (k : ℕ) (u : Trace) → IsOver x y u → k ≤ length t → k ≤ length u
        → (take k u ≡ take k t) ⊎ Contains (other k).words (take k u)
    at k u is le more =
        let same = filled-take k t le in
        elim ((other k).all (take k u) (over-take k u is)
        (length-take-le k u more ∙ sym (long-filled k t))) [
          | inl e ↦ inl (e ∙ same)
          | inr c ↦ inr c
        ]

    pub branches-over : (list : List Trace) → ((u : Trace) → Contains list u → IsOver x y u)
        → length t ≤ 4 → Branches list t words_of
    unfolding words_of
    branches-over list all few = record { long = few; right = each }
      where
        each : (u : Trace) (k : ℕ) → Contains list u → k < length t → k < length u
            → (take (suc k) u ≡ take (suc k) t)
            ⊎ Contains (slice_index_or words_of k []) (take (suc k) u)
        each u zero c lt more = at 1 u (all u c) lt more
        each u (suc zero) c lt more = at 2 u (all u c) lt more
        each u (suc (suc zero)) c lt more = at 3 u (all u c) lt more
        each u (suc (suc (suc zero))) c lt more = at 4 u (all u c) lt more
        each u (suc (suc (suc (suc k)))) c lt more = absurd (omega (arith, lt, few))
