-- The joint prefixes of tuples that have the new trace, in a list.
use Rattle.std.proofs.Common.{◌≡◌, ℕ, zero, suc, ◌+◌, ◌<◌, ◌≤◌, ◌⊎◌, List, [], ◌∷◌, ◌++◌, length, map, take, slice_index_or, inl, inr, refl, sym, ap, ◌∙◌, subst, arith, length-append}
use Rattle.std.specs.List.{Contains}
use Rattle.std.proofs.lemmas.List.{length-map}
use Rattle.std.proofs.lemmas.List.Elements.{Contains-append_left, Contains-append_right}
use Rattle.hy_base.proofs.Members.{contains-here, map-of}
use Rattle.hy_formula.specs.Quantifiers.{Each}
use Rattle.hy_formula.proofs.Each.{each-at, each-like}
use Rattle.hy_finite.specs.Traces.{Trace, judged}
use Rattle.hy_finite.specs.declared.lengths.Lengths.TheVariants.{Min}
use Rattle.trace_trie.specs.Numbered.{tail}
use Rattle.tuple_walk.specs.JointPrefixes.{Row, entry, rows_of, IsPrefixOf, IsJointPrefix, IsFirstPrefix}
use Rattle.step_counts.specs.Branches.{Branches, counts_of, over_lengths}
use Rattle.step_counts.proofs.Having.{firsts, having, in-firsts, in-having}

-- ---- rows by the first letters

entries-cut : (k : ℕ) (tuple : List Trace) → map entry (map (take (suc k)) tuple) ≡ map entry tuple
entries-cut k [] = refl
entries-cut k ([] ∷ ts) = ap (λ es. entry [] ∷ es) (entries-cut k ts)
entries-cut k ((a ∷ t) ∷ ts) = ap (λ es. entry (a ∷ t) ∷ es) (entries-cut k ts)

tails-cut : (k : ℕ) (tuple : List Trace)
    → map tail (map (take (suc k)) tuple) ≡ map (take k) (map tail tuple)
tails-cut k [] = refl
tails-cut zero ([] ∷ ts) = ap (λ us. [] ∷ us) (tails-cut zero ts)
tails-cut (suc k) ([] ∷ ts) = ap (λ us. [] ∷ us) (tails-cut (suc k) ts)
tails-cut k ((a ∷ t) ∷ ts) = ap (λ us. take k t ∷ us) (tails-cut k ts)

rows-cut : (k : ℕ) (tuple : List Trace) → rows_of (map (take k) tuple) k ≡ rows_of tuple k
rows-cut zero tuple = refl
rows-cut (suc k) tuple =
    ap (λ row. row ∷ rows_of (map tail (map (take (suc k)) tuple)) k) (entries-cut k tuple)
    ∙ ap (λ us. map entry tuple ∷ rows_of us k) (tails-cut k tuple)
    ∙ ap (λ rows. map entry tuple ∷ rows) (rows-cut k (map tail tuple))

-- ---- the lists

-- made of the words that are chosen for each length
module _ (t : Trace) (chosen : Trace → List Trace → List (List Trace)) where
  -- the joint prefixes of one length
  abbrev pub level : ℕ → List Trace → List (List Row)
  level k words = map (λ (tuple : List Trace). rows_of tuple (suc k)) (chosen (take (suc k) t) words)

  -- the joint prefixes of the lengths from k on
  abbrev pub prefixes : ℕ → List (List Trace) → List (List Row)
  prefixes k [] = []
  prefixes k (words ∷ more) = level k words ++ prefixes (suc k) more

  pub long-prefixes : (many : ℕ → ℕ)
      → ((x : Trace) (xs : List Trace) → length (chosen x xs) ≡ many (length xs))
      → (k : ℕ) (words : List (List Trace))
      → length (prefixes k words) ≡ over_lengths many (counts_of words)
  long-prefixes many long k [] = refl
  long-prefixes many long k (words ∷ more) =
      let l = length-map (chosen (take (suc k) t) words)
      (λ (tuple : List Trace). rows_of tuple (suc k)) in
      omega (
        arith,
        length-append (level k words) (prefixes (suc k) more),
        l,
        long (take (suc k) t) words,
        long-prefixes many long (suc k) more,
      )

  in-prefixes : (k j : ℕ) (words : List (List Trace)) (rows : List Row) → j < length words
      → Contains (level (k + j) (slice_index_or words j [])) rows → Contains (prefixes k words) rows
  in-prefixes k j [] rows lt c = absurd (omega arith)
  in-prefixes k zero (here ∷ more) rows lt c =
      let same : k + 0 ≡ k = omega arith in
      let P : ℕ → Type 0 = λ q. Contains (level q here) rows in
      Contains-append_left (level k here) (prefixes (suc k) more) rows (subst P same c)
  in-prefixes k (suc j) (here ∷ more) rows lt c =
      let same : k + suc j ≡ suc k + j = omega arith in
      let P : ℕ → Type 0 = λ q. Contains (level q (slice_index_or more j [])) rows in
      Contains-append_right (level k here) (prefixes (suc k) more) rows
      (in-prefixes (suc k) j more rows (omega arith) (subst P same c))

-- ---- each member is as long as the tuple is judged

-- at least m letters long
abbrev IsLong : ℕ → Trace → Type 0
IsLong m t = m ≤ length t

each-long : (tuple : List Trace) → Each (IsLong (judged Min tuple)) tuple
each-long [] = tt
each-long (t ∷ []) = (omega arith, tt)
each-long (t ∷ u ∷ ts) =
    let rest = judged Min (u ∷ ts) in
    let few : judged Min (t ∷ u ∷ ts) ≤ rest = omega arith in (
      omega arith,
      each-like (IsLong rest) (IsLong (judged Min (t ∷ u ∷ ts))) (λ v long. omega (arith, few, long))
          (u ∷ ts) (each-long (u ∷ ts)),
    )

-- ---- all of them

module _ (list with_new : List Trace) (t : Trace) (words : List (List Trace))
    (branches : Branches list t words)
    (old_or_new : (u : Trace) → Contains with_new u → Contains list u ⊎ (u ≡ t)) where
  module _ (k : ℕ) (lt : k < length t) where
    abbrev Begins : Trace → Type 0
    Begins w = (w ≡ take (suc k) t) ⊎ Contains (slice_index_or words k []) w

    begins : (u : Trace) → k < length u → Contains with_new u → Begins (take (suc k) u)
    begins u long c = elim (old_or_new u c) [
      | inl old ↦ branches.right u k old lt long
      | inr e ↦ inl (ap (λ (v : Trace). take (suc k) v) e)
    ]

    each-begins : (tuple : List Trace) → Each (Contains with_new) tuple
        → Each (IsLong (suc k)) tuple → Each Begins (map (take (suc k)) tuple)
    each-begins [] members long = tt
    each-begins (u ∷ us) members long =
        (begins u (omega (arith, long.0)) members.0, each-begins us members.1 long.1)

  -- where the first letters of the tuple are among those that are chosen
  module _ (chosen : Trace → List Trace → List (List Trace)) (tuple : List Trace)
      (members : Each (Contains with_new) tuple) (one : Contains tuple t)
      (has : (k : ℕ) (lt : k < length t) → Each (Begins k lt) (map (take (suc k)) tuple)
      → Contains (chosen (take (suc k) t) (slice_index_or words k [])) (map (take (suc k)) tuple))
    where
      in-chosen : (rows : List Row) → IsPrefixOf Min tuple rows
          → Contains (prefixes t chosen 0 words) rows
      in-chosen rows is = by is.count refl
        where
          by : (count : ℕ) → is.count ≡ count → Contains (prefixes t chosen 0 words) rows
          by zero e = absurd (omega (arith, is.some, e))
          by (suc k) e =
              let le : suc k ≤ judged Min tuple = omega (arith, is.inside, e) in
              let each =
              each-like (IsLong (judged Min tuple)) (IsLong (suc k))
              (λ v long. omega (arith, le, long)) tuple (each-long tuple) in
              let lt : k < length t = omega (arith, each-at (IsLong (suc k)) tuple t each one) in
              let cut = map (take (suc k)) tuple in
              let same : rows ≡ rows_of cut (suc k) =
              is.same ∙ ap (rows_of tuple) e ∙ sym (rows-cut (suc k) tuple) in
              let here = slice_index_or words k [] in
              let R : List Row → Type 0 = Contains (level t chosen k here) in
              let L : ℕ → Type 0 = λ q. Contains (level t chosen q here) rows in
              let at : k ≡ 0 + k = omega arith in
              in-prefixes t chosen 0 k words rows (omega (arith, branches.long))
              (subst L at
              (subst R (sym same)
              (map-of (λ (c : List Trace). rows_of c (suc k)) (chosen (take (suc k) t) here) cut
              (has k lt (each-begins k lt tuple members each)))))

  pub in-all : (n : ℕ) (rows : List Row) → IsJointPrefix Min with_new t n rows
      → Contains (prefixes t (λ x xs. having x xs n) 0 words) rows
  in-all n rows is =
      in-chosen (λ x xs. having x xs n) is.tuple is.members.members is.one has rows is.prefix
    where
      has : (k : ℕ) (lt : k < length t) → Each (Begins k lt) (map (take (suc k)) is.tuple)
          → Contains (having (take (suc k) t) (slice_index_or words k []) n)
          (map (take (suc k)) is.tuple)
      has k lt each =
          let cut = map (take (suc k)) is.tuple in
          let here = slice_index_or words k [] in
          let count : length cut ≡ n = length-map is.tuple (take (suc k)) ∙ is.members.count in
          let N : ℕ → Type 0 = λ q. Contains (having (take (suc k) t) here q) cut in
          subst N count
          (in-having (take (suc k) t) here cut each (map-of (take (suc k)) is.tuple t is.one))

  pub in-first : (n : ℕ) (rows : List Row) → IsFirstPrefix Min with_new t n rows
      → Contains (prefixes t (λ x xs. firsts x xs n) 0 words) rows
  in-first n rows is =
      in-chosen (λ x xs. firsts x xs n) (t ∷ is.others) is.members.members
      (contains-here t is.others) has rows is.prefix
    where
      has : (k : ℕ) (lt : k < length t) → Each (Begins k lt) (map (take (suc k)) (t ∷ is.others))
          → Contains (firsts (take (suc k) t) (slice_index_or words k []) n)
          (map (take (suc k)) (t ∷ is.others))
      has k lt each =
          let cut = map (take (suc k)) is.others in
          let here = slice_index_or words k [] in
          let count : suc (length cut) ≡ n =
          omega (arith, length-map is.others (take (suc k)), is.members.count) in
          let N : ℕ → Type 0 = λ q. Contains (firsts (take (suc k) t) here q) (take (suc k) t ∷ cut) in
          subst N count (in-firsts (take (suc k) t) here cut each.1)
