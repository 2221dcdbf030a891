-- What a search at a place says of dominance there.
use Rattle.std.proofs.Common.{◌≡◌, ◌↔◌, ℕ, zero, suc, ◌+◌, ◌-◌, ◌<◌, ◌≤◌, min, max, Bool, true, false, not, ◌&&◌, nat_eq, List, [], ◌∷◌, ◌++◌, length, take, drop, map, Option, Some, None, inl, inr, refl, sym, ap, ◌∙◌, subst, arith, get_or, length-append}
use Rattle.std.specs.List.{Contains}
use Rattle.std.specs.FinSet.{empty, contains}
use Rattle.std.proofs.lemmas.Bool.{cases_lt, eqb-true, eq-eqb, false_from_ne_true}
use Rattle.std.proofs.lemmas.List.{get_or-map, length-map, get_or_append_left, get_or-append-add, length-take-le, length-drop}
use Rattle.std.proofs.Math.Seq.{get_or-append_seam}
use Rattle.hy_bits.specs.Letter.{Letter}
use Rattle.hy_formula.specs.Quantifiers.{Each}
use Rattle.hy_formula.specs.Trees.{Tree}
use Rattle.hy_formula.proofs.Each.{each-append}
use Rattle.hy_finite.specs.declared.lengths.Lengths.{Lengths}
use Rattle.hy_finite.specs.declared.lengths.Lengths.TheVariants.{Min, Pad}
use Rattle.hy_finite.specs.Traces.{Trace, judged, trace_words, Meets}
use Rattle.fin_monitor.specs.Codes.{code_of, part_of}
use Rattle.fin_monitor.specs.Machines.{Machine, IsMonitor, is_accepting}
use Rattle.dominance.specs.Dominance.{IsTrace, Dominates, DominatesAt, with_at, Refutes}
use Rattle.dominance.specs.Choices.{Row, says, AreRows, row_code, word_of, words_from, other_words}
use Rattle.dominance.specs.Runs.{Pairing, state_on, joint, ended, judged_state, codes_by, chosen, told_from, Differ, IsFound, exchanged, IsLeft}
use Rattle.dominance.proofs.Elements.{each-below}
use Rattle.dominance.proofs.Asking.{codes-agree, answer-code, row-says, machine-below, atom-below}
use Rattle.dominance.proofs.Beside.{rest_code, beside-right}

-- the pairing that these lists make
abbrev pub pairing_by : Machine → Lengths → List ℕ → List ℕ → List ℕ → List ℕ → Pairing
pairing_by m rule upper lower codes codes' =
    record {
      machine = m;
      rule = rule;
      upper = upper;
      lower = lower;
      upper_codes = codes;
      lower_codes = codes';
    }

abbrev pub pairing_at : Machine → Lengths → ℕ → List Row → Trace → Trace → Pairing
pairing_at m rule place rows t u =
    pairing_by m rule (map (part_of m.atoms place) t) (map (part_of m.atoms place) u)
    (map (row_code m) rows) (map (row_code m) rows)

told-first : (rule : Lengths) (a b : ℕ) → told_from rule a b ≤ a
told-first Min a b = omega arith
told-first Pad a b = omega arith

pub told-second : (rule : Lengths) (a b : ℕ) → told_from rule a b ≤ b
told-second Min a b = omega arith
told-second Pad a b = omega arith

told-none : (rule : Lengths) (a b : ℕ) → rule ≡ Min → told_from rule a b ≡ 0
told-none Min a b e = refl
told-none Pad a b e = absurd (cc)

module _ (m : Machine) (is : IsMonitor m) (rule : Lengths) (rows : List Row) (t u : Trace)
    (some_t : 1 ≤ length t) (some_u : 1 ≤ length u) where
  none-beside : (before after : List Trace) → AreRows m.atoms (length before) rows
      → IsFound (pairing_at m rule (length before) rows t u) None
      → Each IsTrace before → Each IsTrace after → 0 < length (before ++ after)
      → ¬ Meets rule m.body (before ++ u ∷ after) → ¬ Meets rule m.body (before ++ t ∷ after)
  none-beside before after are none b a some fails meets =
      let ct : ℕ = length (map (part_of m.atoms (length before)) t) in
      let cu : ℕ = length (map (part_of m.atoms (length before)) u) in
      let told : ℕ = told_from rule ct cu in
      let n : ℕ = max (judged rule (before ++ after)) told in
      let lt = length-map t (part_of m.atoms (length before)) in
      let lu = length-map u (part_of m.atoms (length before)) in
      let traces = each-append IsTrace before after b a in
      let choice : ℕ → ℕ =
      λ i. (are.answers (λ name variable. trace_words
      (before ++ [] ∷ after) name variable i)).1.0 in
      let below : (i : ℕ) → choice i < length rows =
      λ i. (are.answers (λ name variable. trace_words
      (before ++ [] ∷ after) name variable i)).1.1 in
      let code : ℕ → ℕ = codes_by (map (row_code m) rows) choice in
      let right : (i : ℕ) → i < n → code i ≡ rest_code m is rule before after i = λ i _. (
      let answer =
      are.answers (λ name variable. trace_words (before ++ [] ∷ after) name variable i) in
      get_or-map (row_code m) rows answer.1.0 answer.0 0 answer.1.1 ∙ ap (row_code m) answer.1.2
      ∙ answer-code m is (length before)
      (λ name variable. trace_words (before ++ [] ∷ after) name variable i) answer.0 answer.2) in
      let first = told-first rule ct cu in
      let second = told-second rule ct cu in
      let up = beside-right m is rule before after some traces code n told refl right t some_t
      (λ _. omega (arith, first, lt)) (told-none rule ct cu) in
      let low = beside-right m is rule before after some traces code n told refl right u some_u
      (λ _. omega (arith, second, lu)) (told-none rule ct cu) in
      none choice (λ i. omega (arith, below i, length-map rows (row_code m))) n (omega arith)
      (record { upper = up.1 meets; lower = false_from_ne_true _ (λ e. fails (low.0 e)) })

  -- where nothing is found at a place, the one dominates the other there
  pub none-dominates : (place : ℕ) → AreRows m.atoms place rows → 2 ≤ m.variables
      → IsFound (pairing_at m rule place rows t u) None
      → DominatesAt rule m.variables m.body place t u
  none-dominates place are two none before after b a at count =
      let P : ℕ → Type 0 = λ p. AreRows m.atoms p rows in
      let Q : ℕ → Type 0 = λ p. IsFound (pairing_at m rule p rows t u) None in
      let l = length-append before after in
      none-beside before after (subst P (sym at) are) (subst Q (sym at) none) b a (omega arith)

-- ---- words of rows

length-words : (rows : List Row) (path : List ℕ) (from count : ℕ)
    → length (words_from rows path from count) ≡ count
length-words rows path from zero = refl
length-words rows path from (suc count) =
    let l = length-append (words_from rows path from count)
    (word_of rows path (from + count) ∷ []) in
    let ih = length-words rows path from count in
    omega arith

words-at : (rows : List Row) (path : List ℕ) (from count v : ℕ) → v < count
    → get_or (words_from rows path from count) v [] ≡ word_of rows path (from + v)
words-at rows path from zero v lt = absurd (omega arith)
words-at rows path from (suc count) v lt = elim (cases_lt v count) [
  | inl less ↦ get_or_append_left (words_from rows path from count)
      (word_of rows path (from + count) ∷ []) [] v
      (omega (arith, length-words rows path from count, less))
      ∙ words-at rows path from count v less
  | inr ge ↦
      let same : v ≡ count = omega arith in
      let last : v ≡ length (words_from rows path from count) =
      omega (arith, same, length-words rows path from count) in
      ap (λ k. get_or (words_from rows path from (suc count)) k []) last
      ∙ get_or-append_seam (words_from rows path from count)
      (word_of rows path (from + count)) [] []
      ∙ ap (λ k. word_of rows path (from + k)) (sym same)
]

long-words : (rows : List Row) (path : List ℕ) (from count : ℕ)
    → Each (λ (w : Trace). length w ≡ length path) (words_from rows path from count)
long-words rows path from zero = tt
long-words rows path from (suc count) =
    each-append (λ (w : Trace). length w ≡ length path) (words_from rows path from count)
    (word_of rows path (from + count) ∷ []) (long-words rows path from count)
    (length-map path (λ k. get_or (get_or rows k []) (from + count) empty), tt)

judged-long : (rule : Lengths) (l : ℕ) (us : List Trace) → Each (λ (w : Trace). length w ≡ l) us
    → 0 < length us → judged rule us ≡ l
judged-long rule l [] h some = absurd (omega arith)
judged-long rule l (u ∷ []) (e, h) some = e
judged-long Min l (u ∷ v ∷ vs) (e, h) some = let ih = judged-long Min l (v ∷ vs) h (omega arith) in
    omega arith
judged-long Pad l (u ∷ v ∷ vs) (e, h) some = let ih = judged-long Pad l (v ∷ vs) h (omega arith) in
    omega arith

long-traces : (l : ℕ) → 0 < l → (us : List Trace) → Each (λ (w : Trace). length w ≡ l) us
    → Each IsTrace us
long-traces l some [] h = tt
long-traces l some (u ∷ us) (e, h) = (omega arith, long-traces l some us h)

take-left : {A : Type 0} (xs ys : List A) → take (length xs) (xs ++ ys) ≡ xs
take-left [] ys = refl
take-left (x ∷ xs) ys = ap (λ l. x ∷ l) (take-left xs ys)

drop-left : {A : Type 0} (xs ys : List A) → drop (length xs) (xs ++ ys) ≡ ys
drop-left [] ys = refl
drop-left (x ∷ xs) ys = drop-left xs ys

with-left : (xs ys : List Trace) (place : ℕ) (x : Trace) → length xs ≡ place
    → with_at place x (xs ++ ys) ≡ xs ++ x ∷ ys
with-left xs ys place x e =
    ap (λ p. with_at p x (xs ++ ys)) (sym e)
    ∙ ap (λ l. l ++ x ∷ drop (length xs) (xs ++ ys)) (take-left xs ys)
    ∙ ap (λ l. xs ++ x ∷ l) (drop-left xs ys)

-- no position, no difference
some-position : (m : Machine) (rule : Lengths) (a b : List ℕ) (code code' : ℕ → ℕ) (n : ℕ)
    → 1 ≤ length a → 1 ≤ length b → told_from rule (length a) (length b) ≤ n
    → is_accepting m (judged_state m rule a code n) ≡ true
    → is_accepting m (judged_state m rule b code' n) ≡ false → 0 < n
some-position m Min a b code code' zero p q told x y =
    let e : min (length a) 0 ≡ 0 = omega arith in
    let f : min (length b) 0 ≡ 0 = omega arith in
    let g : is_accepting m 0 ≡ true =
    sym (ap (λ k. is_accepting m (state_on m (joint a (ended code 0)) k)) e) ∙ x in
    let h : is_accepting m 0 ≡ false =
    sym (ap (λ k. is_accepting m (state_on m (joint b (ended code' 0)) k)) f) ∙ y in
    absurd (cc)
some-position m Pad a b code code' zero p q told x y = absurd (omega arith)
some-position m rule a b code code' (suc n) p q told x y = omega arith

module _ (m : Machine) (is : IsMonitor m) (rule : Lengths) (rows : List Row) (t u : Trace)
    (some_t : 1 ≤ length t) (some_u : 1 ≤ length u)
    (place : ℕ) (inside : place < m.variables) (two : 2 ≤ m.variables)
    (are : AreRows m.atoms place rows) (path : List ℕ) where
  abbrev before : List Trace
  before = words_from rows path 0 place

  abbrev after : List Trace
  after = words_from rows path (place + 1) (m.variables - (place + 1))

  at : length before ≡ place
  at = length-words rows path 0 place

  rest : length after ≡ m.variables - (place + 1)
  rest = length-words rows path (place + 1) (m.variables - (place + 1))

  -- the word of a variable stands at its place
  word-there : (v : ℕ) → v < m.variables → ¬ (v ≡ place)
      → get_or (before ++ [] ∷ after) v [] ≡ word_of rows path v
  word-there v lt apart = elim (cases_lt v place) [
    | inl less ↦ get_or_append_left before ([] ∷ after) [] v (omega (arith, at, less))
        ∙ words-at rows path 0 place v less
        ∙ ap (word_of rows path) (let e : 0 + v ≡ v = omega arith in e)
    | inr ge ↦ elim (cases_lt place v) [
      | inl more ↦
          let e : v ≡ length before + suc (v - (place + 1)) = omega (arith, at, more) in
          let f : place + 1 + (v - (place + 1)) ≡ v = omega (arith, more) in
          ap (λ k. get_or (before ++ [] ∷ after) k []) e
          ∙ get_or-append-add before ([] ∷ after) (suc (v - (place + 1))) []
          ∙ words-at rows path (place + 1) (m.variables - (place + 1)) (v - (place + 1))
          (omega (arith, more, lt)) ∙ ap (word_of rows path) f
      | inr le ↦ absurd (apart (omega arith))
    ]
  ]

  module _ (each : Each (λ (k : ℕ). k < length rows) path) where
    member-itself : (xs : List Row) (k : ℕ) → k < length xs
        → get_or xs k (get_or xs k []) ≡ get_or xs k []
    member-itself [] k lt = absurd (omega arith)
    member-itself (x ∷ xs) zero lt = refl
    member-itself (x ∷ xs) (suc k) lt = member-itself xs k (omega arith)

    abbrev row_at : ℕ → Row
    row_at i = get_or rows (get_or path i 0) []

    row-there : (i : ℕ) → i < length path → Contains rows (row_at i)
    row-there i lt = (
      get_or path i 0,
      each-below (length rows) path each i lt,
      member-itself rows (get_or path i 0) (each-below (length rows) path each i lt),
    )

    row-word : (i : ℕ) → i < length path → (name variable : ℕ) → variable < m.variables → (b : Bool)
        → nat_eq variable place ≡ b
        → says (row_at i) name variable
        ≡ (not (nat_eq variable place) && trace_words (before ++ [] ∷ after) name variable i)
    row-word i lt name variable below true e =
        ap (λ v. says (row_at i) name v) (eqb-true variable place e)
        ∙ are.silent (row_at i) (row-there i lt) name
        ∙ sym (ap (λ b. not b && trace_words (before ++ [] ∷ after) name variable i) e)
    row-word i lt name variable below false e =
        ap (λ (l : Letter). contains l name)
        (sym (get_or-map (λ k. get_or (get_or rows k []) variable empty) path i 0 empty lt))
        ∙ ap (λ (w : Trace). contains (get_or w i empty) name)
        (sym (word-there variable below (λ s. let f : nat_eq variable place ≡ true =
        eq-eqb variable place s in absurd (cc))))
        ∙ sym (ap (λ b. not b && trace_words (before ++ [] ∷ after) name variable i) e)

    code-right : (i : ℕ) → i < length path
        → codes_by (map (row_code m) rows) (chosen path) i
        ≡ code_of (λ name variable. not (nat_eq variable place) && trace_words
        (before ++ [] ∷ after) name variable i) m.atoms
    code-right i lt =
        get_or-map (row_code m) rows (get_or path i 0) [] 0
        (each-below (length rows) path each i lt)
        ∙ codes-agree _ _ m.atoms (λ a c. row-says m is (row_at i) a c
        ∙ row-word i lt a.name a.variable (atom-below m.variables m.atoms (machine-below m is) a c)
        (nat_eq a.variable place) refl)

    pub path-refutes : told_from rule (length (map (part_of m.atoms place) t))
        (length (map (part_of m.atoms place) u)) ≤ length path
        → Differ (pairing_at m rule place rows t u) (chosen path) (length path)
        → Refutes rule m.variables m.body t u place (other_words rows path m.variables place)
    path-refutes told differ =
        let lt = length-map t (part_of m.atoms place) in
        let lu = length-map u (part_of m.atoms place) in
        let code : ℕ → ℕ = codes_by (map (row_code m) rows) (chosen path) in
        let some = some-position m rule (map (part_of m.atoms place) t)
        (map (part_of m.atoms place) u) code code (length path) (omega (arith, lt))
        (omega (arith, lu)) told differ.upper differ.lower in
        let l = length-append before after in
        let others : 0 < length (before ++ after) = omega (arith, l, at, rest) in
        let long = each-append (λ (w : Trace). length w ≡ length path) before after
        (long-words rows path 0 place)
        (long-words rows path (place + 1) (m.variables - (place + 1))) in
        let traces = long-traces (length path) some (before ++ after) long in
        let l0 = judged-long rule (length path) (before ++ after) long others in
        let f : ℕ = told_from rule (length (map (part_of m.atoms place) t))
        (length (map (part_of m.atoms place) u)) in
        let n : length path ≡ max (judged rule (before ++ after)) f = omega (arith, l0, told) in
        let first = told-first rule (length (map (part_of m.atoms place) t))
        (length (map (part_of m.atoms place) u)) in
        let second = told-second rule (length (map (part_of m.atoms place) t))
        (length (map (part_of m.atoms place) u)) in
        let none = told-none rule (length (map (part_of m.atoms place) t))
        (length (map (part_of m.atoms place) u)) in
        let P : ℕ → Type 0 = λ p. (i : ℕ) → i < length path
        → code i ≡ code_of (λ name variable. not (nat_eq variable p) && trace_words
        (before ++ [] ∷ after) name variable i) m.atoms in
        let codes = subst P (sym at) code-right in
        let Q : ℕ → Type 0 =
        λ p. (is_accepting m (judged_state m rule (map (part_of m.atoms p) t) code
        (length path)) ≡ true) ↔ Meets rule m.body (before ++ t ∷ after) in
        let R : ℕ → Type 0 =
        λ p. (is_accepting m (judged_state m rule (map (part_of m.atoms p) u) code
        (length path)) ≡ true) ↔ Meets rule m.body (before ++ u ∷ after) in
        let up = subst Q at (beside-right m is rule before after others traces code
        (length path) f n codes t some_t (λ _. omega (arith, first, lt)) none) in
        let low = subst R at (beside-right m is rule before after others traces code
        (length path) f n codes u some_u (λ _. omega (arith, second, lu)) none) in
        let S : List Trace → Type 0 = λ tuple. Meets rule m.body tuple in
        let T : List Trace → Type 0 = λ tuple. ¬ Meets rule m.body tuple in
        record {
          inside = inside;
          count = omega (arith, l, at, rest);
          words = traces;
          violates = subst T (sym (with-left before after place u at))
              (λ meets. let e = low.1 meets in let d = differ.lower in cc);
          satisfies = subst S (sym (with-left before after place t at)) (up.0 differ.upper);
        }

  -- what is found refutes that the one dominates the other there
  pub found-refutes : IsFound (pairing_at m rule place rows t u) (Some path)
      → Refutes rule m.variables m.body t u place (other_words rows path m.variables place)
  found-refutes (each, told, differ) =
      let P : ℕ → Type 0 = λ n. Each (λ (k : ℕ). k < n) path in
      path-refutes (subst P (length-map rows (row_code m)) each) told differ

-- the pairing of a place, by lists that are equal to its own
pub same-pairing : (m : Machine) (rule : Lengths) (place : ℕ) (rows : List Row) (t u : Trace)
    (upper lower codes codes' : List ℕ)
    → upper ≡ map (part_of m.atoms place) t → lower ≡ map (part_of m.atoms place) u
    → codes ≡ map (row_code m) rows → codes' ≡ map (row_code m) rows
    → (pairing_by m rule upper lower codes codes') ≡ pairing_at m rule place rows t u
same-pairing m rule place rows t u upper lower codes codes' a b c d = λ i. pairing_by m rule (a i) (b i) (c i) (d i)

-- what is found by the pairing of a place
pub found-at : (m : Machine) (rule : Lengths) (place : ℕ) (rows : List Row) (t u : Trace)
    (upper lower codes codes' : List ℕ) (found wanted : Option (List ℕ))
    → upper ≡ map (part_of m.atoms place) t → lower ≡ map (part_of m.atoms place) u
    → codes ≡ map (row_code m) rows → codes' ≡ map (row_code m) rows → found ≡ wanted
    → IsFound (pairing_by m rule upper lower codes codes') found
    → IsFound (pairing_at m rule place rows t u) wanted
found-at m rule place rows t u upper lower codes codes' found wanted a b c d e h =
    let P : Pairing → Type 0 = λ s. IsFound s found in
    let F : Option (List ℕ) → Type 0 = IsFound (pairing_at m rule place rows t u) in
    subst F e (subst P
    (same-pairing m rule place rows t u upper lower codes codes' a b c d) h)

-- where it does so at each place, the one dominates the other
pub everywhere : (rule : Lengths) (n : ℕ) (body : Tree) (t u : Trace)
    → ((p : ℕ) → p < n → DominatesAt rule n body p t u) → Dominates rule n body t u
everywhere rule n body t u h before after b a count =
    h (length before) (omega (arith, count)) before after b a refl count

-- what refutes that the one dominates the other at a place
pub refuted-at : (rule : Lengths) (n : ℕ) (body : Tree) (t u : Trace) (place : ℕ)
    (others : List Trace) → Refutes rule n body t u place others
    → ¬ DominatesAt rule n body place t u
refuted-at rule n body t u place others r over =
    let inside = r.inside in
    let count = r.count in
    let l = length-take-le place others (omega arith) in
    let d = length-drop place others in
    let (before, after) = each-parts others place r.words in
    over (take place others) (drop place others) before after (omega arith) (omega arith)
    r.violates r.satisfies
  where
    each-parts : (us : List Trace) (k : ℕ) → Each IsTrace us
        → Each IsTrace (take k us) × Each IsTrace (drop k us)
    each-parts us zero h = (tt, h)
    each-parts [] (suc k) h = (tt, tt)
    each-parts (u ∷ us) (suc k) (here, h) = let r = each-parts us k h in ((here, r.0), r.1)

module _ (m : Machine) (is : IsMonitor m) (rule : Lengths) (rows : List Row) (t u : Trace)
    (some_t : 1 ≤ length t) (some_u : 1 ≤ length u) (place : ℕ) (inside : place < m.variables)
    (two : 2 ≤ m.variables) (are : AreRows m.atoms place rows) where
  -- what is left of the claim that the one dominates the other
  pub left-over : (claimed now : Bool)
      → IsLeft (pairing_at m rule place rows t u) (Differ (pairing_at m rule place rows t u))
      claimed now
      → (now ≡ true)
      ↔ ((claimed ≡ true) × DominatesAt rule m.variables m.body place t u)
  left-over claimed true (is_claimed, none) = (
    λ e. (
      is_claimed,
      none-dominates m is rule rows t u some_t some_u place are two none,
    ),
    λ both. refl,
  )
  left-over claimed false (inl e) = (λ f. absurd (cc), λ (f, over). absurd (cc))
  left-over claimed false (inr (path, found)) = (
    λ f. absurd (cc),
    λ (f, over). absurd (refuted-at rule m.variables m.body t u place _
        (found-refutes m is rule rows t u some_t some_u place inside two are path found) over),
  )

told-turned : (rule : Lengths) (a b : ℕ) → told_from rule a b ≡ told_from rule b a
told-turned Min a b = refl
told-turned Pad a b = omega arith

-- the same with the runs exchanged
pub left-exchanged : (m : Machine) (rule : Lengths) (place : ℕ) (rows : List Row) (t u : Trace)
    (claimed now : Bool)
    → IsLeft (pairing_at m rule place rows t u)
    (Differ (exchanged (pairing_at m rule place rows t u))) claimed now
    → IsLeft (pairing_at m rule place rows u t) (Differ (pairing_at m rule place rows u t))
    claimed now
left-exchanged m rule place rows t u claimed true (e, none) = (
  e,
  λ choice below n told. none choice below n (let P : ℕ → Type 0 = λ k. k ≤ n in
      subst P (told-turned rule (length (map (part_of m.atoms place) u))
      (length (map (part_of m.atoms place) t))) told),
)
left-exchanged m rule place rows t u claimed false (inl e) = inl e
left-exchanged m rule place rows t u claimed false (inr (path, (each, told, differ))) =
    let P : ℕ → Type 0 = λ k. k ≤ length path in
    inr (
      path,
      (
        each,
        subst P (told-turned rule (length (map (part_of m.atoms place) t))
            (length (map (part_of m.atoms place) u))) told,
        differ,
      ),
    )

-- of a list of places that grows
pub over-more : (rule : Lengths) (n : ℕ) (body : Tree) (t u : Trace) (k : ℕ) (claimed now : Bool)
    → ((claimed ≡ true) ↔ ((p : ℕ) → p < k → DominatesAt rule n body p t u))
    → ((now ≡ true) ↔ ((claimed ≡ true) × DominatesAt rule n body k t u))
    → ((now ≡ true) ↔ ((p : ℕ) → p < k + 1 → DominatesAt rule n body p t u))
over-more rule n body t u k claimed now before there = (
  λ e p lt. elim (cases_lt p k) [
    | inl less ↦ before.0 (there.0 e).0 p less
    | inr ge ↦
        let same : k ≡ p = omega arith in
        let P : ℕ → Type 0 = λ q. DominatesAt rule n body q t u in
        subst P same (there.0 e).1
  ],
  λ all. there.1 (before.1 (λ p lt. all p (omega arith)), all k (omega arith)),
)

-- at all places
pub over-all : (rule : Lengths) (n : ℕ) (body : Tree) (t u : Trace) (k : ℕ) (now : Bool) → n ≤ k
    → ((now ≡ true) ↔ ((p : ℕ) → p < k → DominatesAt rule n body p t u))
    → ((now ≡ true) ↔ Dominates rule n body t u)
over-all rule n body t u k now all h = (
  λ e. everywhere rule n body t u (λ p lt. h.0 e p (omega arith)),
  λ over. h.1 (λ p lt before after b a at count. over before after b a count),
)
