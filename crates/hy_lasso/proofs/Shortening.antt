-- The steps to a normal form keep the word, and lead to one.
use Rattle.std.proofs.Common.{◌≡◌, ◌≢◌, ℕ, zero, suc, ◌+◌, ◌-◌, ◌*◌, ◌/◌, ◌%◌, ◌<◌, ◌≤◌, List, [], ◌∷◌, ◌++◌, length, take, drop, refl, sym, ap, ◌∙◌, inl, inr, subst, arith}
use Rattle.std.specs.FinSet.{empty}
use Rattle.std.proofs.Math.Nat.{mod-add-div, mod-lt, mul_comm, mul_assoc, mul-mod_left}
use Rattle.std.proofs.lemmas.Bool.{cases_lt}
use Rattle.std.proofs.lemmas.List.{get_or-take, get_or-drop, get_or-append_right, get_or_append_left, length-take-le, length-append, length-drop}
use Rattle.hy_base.proofs.Places.{last-of}
use Rattle.hy_bits.specs.Letter.{Letter}
use Rattle.hy_lasso.specs.Words.{letter_at}
use Rattle.hy_lasso.specs.NormalForms.{times, IsNormal}
use Rattle.hy_lasso.specs.Rounds.{letter_of, RepeatsAfter, IsLeastRound, IsSharedEnd}
use Rattle.hy_lasso.proofs.Periods.{multiple-zero}
use Rattle.hy_lasso.proofs.Periodic.{Comes, rounds, IsWordOf, lasso_of, own-word, word-is, comes-sooner, rolled-comes}

-- the shortest cycle stands for the same word
pub cut-word : (stem cycle : List Letter) (w : ℕ → Letter) (d : ℕ) → IsWordOf stem cycle w → IsLeastRound cycle d → IsWordOf stem (take d cycle) w
cut-word stem cycle w d of round =
    let long : length (take d cycle) ≡ d = length-take-le d cycle round.few in
    let some = round.some in
    let few = round.few in
    let F : ℕ → Type 0 = Comes w (length stem) in
    record {
      some = omega (arith, long, some);
      front = of.front;
      back = λ j lt. get_or-take d cycle j empty (omega (arith, lt, long)) ∙ of.back j (omega (arith, lt, long, few));
      comes = subst F (sym long) (comes-sooner stem cycle w d of (multiple-zero _ _ round.whole) round.repeats);
    }

-- the cycle rolled back by k letters
abbrev pub rolled : List Letter → ℕ → List Letter
rolled cycle k = drop (length cycle - k % length cycle) cycle ++ take (length cycle - k % length cycle) cycle

module _ (stem cycle : List Letter) (w : ℕ → Letter) (k : ℕ) (of : IsWordOf stem cycle w) (shared : IsSharedEnd stem cycle k) where
  few-left : k % length cycle < length cycle
  few-left = mod-lt k of.some

  behind-long : length (drop (length cycle - k % length cycle) cycle) ≡ k % length cycle
  behind-long = let lt = few-left in omega (arith, length-drop (length cycle - k % length cycle) cycle, lt)

  before-long : length (take (length cycle - k % length cycle) cycle) ≡ length cycle - k % length cycle
  before-long = length-take-le _ cycle (omega arith)

  pub rolled-long : length (rolled cycle k) ≡ length cycle
  rolled-long =
      let lt = few-left in
      omega (arith, lt, behind-long, before-long, length-append (drop (length cycle - k % length cycle) cycle) (take (length cycle - k % length cycle) cycle))

  -- a letter of the rolled cycle, by its place in the old one
  rolled-first : (j : ℕ) → j < k % length cycle → letter_of (rolled cycle k) j ≡ w (length stem - k + j)
  rolled-first j lt =
      let left = few-left in
      let few = shared.few in
      let parts : k % length cycle + length cycle * (k / length cycle) ≡ k = mod-add-div k (length cycle) in
      let turns : length stem - k + j + suc (k / length cycle) * length cycle ≡ length stem + (length cycle - k % length cycle + j) =
      omega (arith, parts, few, lt, left, mul_comm (length cycle) (k / length cycle))
      in
      get_or_append_left (drop (length cycle - k % length cycle) cycle) _ empty j (omega (arith, lt, behind-long))
      ∙ get_or-drop (length cycle - k % length cycle) cycle j empty
      ∙ of.back (length cycle - k % length cycle + j) (omega (arith, lt, left))
      ∙ ap w (sym turns)
      ∙ rounds w (length stem - k) (length cycle) (rolled-comes stem cycle w k of shared) (suc (k / length cycle)) (length stem - k + j) (omega arith)

  rolled-second : (j : ℕ) → k % length cycle ≤ j → j < length cycle → letter_of (rolled cycle k) j ≡ w (length stem - k + j)
  rolled-second j from lt =
      let left = few-left in
      let few = shared.few in
      let parts : k % length cycle + length cycle * (k / length cycle) ≡ k = mod-add-div k (length cycle) in
      let turns : length stem - k + j + k / length cycle * length cycle ≡ length stem + (j - k % length cycle) =
      omega (arith, parts, few, from, mul_comm (length cycle) (k / length cycle))
      in
      get_or-append_right (drop (length cycle - k % length cycle) cycle) _ (k % length cycle) j empty behind-long from
      ∙ get_or-take (length cycle - k % length cycle) cycle (j - k % length cycle) empty (omega (arith, from, lt))
      ∙ of.back (j - k % length cycle) (omega (arith, from, lt))
      ∙ ap w (sym turns)
      ∙ rounds w (length stem - k) (length cycle) (rolled-comes stem cycle w k of shared) (k / length cycle) (length stem - k + j) (omega arith)

  pub rolled-word : IsWordOf (take (length stem - k) stem) (rolled cycle k) w
  rolled-word =
      let some = of.some in
      let short : length (take (length stem - k) stem) ≡ length stem - k = length-take-le _ stem (omega arith) in
      record {
        some = omega (arith, rolled-long, some);
        front = λ i lt. get_or-take (length stem - k) stem i empty (omega (arith, lt, short)) ∙ of.front i (omega (arith, lt, short));
        back = λ j lt.
            elim (cases_lt j (k % length cycle)) [
              | inl first ↦ rolled-first j first ∙ ap (λ n. w (n + j)) (sym short)
              | inr second ↦ rolled-second j second (omega (arith, lt, rolled-long)) ∙ ap (λ n. w (n + j)) (sym short)
            ];
        comes = λ i le.
            ap (λ n. w (i + n)) rolled-long ∙ rolled-comes stem cycle w k of shared i (omega (arith, le, short));
      }

  -- The last letter of the new stem and that of the new cycle differ.
  pub ends-differ : (x y : Letter) → 0 < length stem - k → x ≡ letter_of (take (length stem - k) stem) (length stem - k - 1) → y ≡ letter_of (rolled cycle k) (length cycle - 1) → x ≢ y
  ends-differ x y some xs ys same =
      let few = shared.few in
      let left = few-left in
      let more = of.some in
      let parts : k % length cycle + length cycle * (k / length cycle) ≡ k = mod-add-div k (length cycle) in
      let e : length stem - k - 1 ≡ length stem - 1 - k = omega arith in
      let short : length (take (length stem - k) stem) ≡ length stem - k = length-take-le _ stem (omega arith) in
      let first : x ≡ letter_of stem (length stem - 1 - k) = xs ∙ get_or-take (length stem - k) stem (length stem - k - 1) empty (omega (arith, some)) ∙ ap (letter_of stem) e in
      let turns : length stem - k + (length cycle - 1) + k / length cycle * length cycle ≡ length stem + (length cycle - 1 - k % length cycle) =
      omega (arith, parts, few, left, more, mul_comm (length cycle) (k / length cycle))
      in
      let second : y ≡ letter_of cycle (length cycle - 1 - k % length cycle) =
      ys
      ∙ rolled-word.back (length cycle - 1) (omega (arith, rolled-long, more))
      ∙ ap (λ n. w (n + (length cycle - 1))) short
      ∙ sym (rounds w (length stem - k) (length cycle) (rolled-comes stem cycle w k of shared) (k / length cycle) (length stem - k + (length cycle - 1)) (omega arith))
      ∙ ap w turns
      ∙ sym (of.back (length cycle - 1 - k % length cycle) (omega (arith, more)))
      in
      shared.most (omega (arith, some)) (sym first ∙ same ∙ second)

-- ---- repetitions of a word

pub length-times : {A : Type 0} (n : ℕ) (word : List A) → length (times n word) ≡ n * length word
length-times zero word = omega arith
length-times (suc n) word = omega (arith, length-append word (times n word), length-times n word)

times-shift : (n : ℕ) (word : List Letter) (i : ℕ) → i < n * length word → letter_of (word ++ times n word) i ≡ letter_of (times n word) i
times-shift zero word i lt = absurd (omega (arith, lt))
times-shift (suc n) word i lt =
    elim (cases_lt i (length word)) [
      | inl first ↦ get_or_append_left word _ empty i first ∙ sym (get_or_append_left word _ empty i first)
      | inr second ↦
          let less : i - length word < n * length word = omega (arith, lt, second) in
          get_or-append_right word _ (length word) i empty refl second ∙ times-shift n word (i - length word) less ∙ sym (get_or-append_right word _ (length word) i empty refl second)
    ]

pub times-repeats : (n : ℕ) (word : List Letter) → RepeatsAfter (times n word) (length word)
times-repeats zero word i lt = absurd (omega (arith, lt))
times-repeats (suc n) word i lt =
    let long = length-times (suc n) word in
    let e : i + length word - length word ≡ i = omega arith in
    let less : i < n * length word = omega (arith, lt, long) in
    get_or-append_right word _ (length word) (i + length word) empty refl (omega arith)
    ∙ ap (letter_of (times n word)) e
    ∙ sym (times-shift n word i less)

module _ (stem cycle : List Letter) (d k : ℕ) (some : 0 < length cycle) (round : IsLeastRound cycle d) (shared : IsSharedEnd stem (take d cycle) k) where
  abbrev w : ℕ → Letter
  w = letter_at (lasso_of stem cycle)

  whole-word : IsWordOf stem cycle w
  whole-word = own-word stem cycle some

  short-word : IsWordOf (take (length stem - k) stem) (rolled (take d cycle) k) w
  short-word = rolled-word stem (take d cycle) w k (cut-word stem cycle w d whole-word round) shared

  pub same-word : (i : ℕ) → letter_at (lasso_of (take (length stem - k) stem) (rolled (take d cycle) k)) i ≡ letter_at (lasso_of stem cycle) i
  same-word = word-is _ _ w short-word

  stem-short : length (take (length stem - k) stem) ≡ length stem - k
  stem-short = length-take-le _ stem (omega arith)

  cycle-short : length (rolled (take d cycle) k) ≡ d
  cycle-short = rolled-long stem (take d cycle) w k (cut-word stem cycle w d whole-word round) shared ∙ length-take-le d cycle round.few

  pub stem-within : length (take (length stem - k) stem) ≤ length stem
  stem-within = omega (arith, stem-short)

  pub cycle-within : length (rolled (take d cycle) k) ≤ length cycle
  cycle-within = let few = round.few in omega (arith, cycle-short, few)

  primitive : (word : List Letter) (n : ℕ) → rolled (take d cycle) k ≡ times n word → n ≡ 1
  primitive word zero e = let pos = round.some in absurd (omega (arith, ap length e, cycle-short, pos))
  primitive word (suc zero) e = refl
  primitive word (suc (suc n)) e =
      let long : d ≡ suc (suc n) * length word = sym cycle-short ∙ ap length e ∙ length-times (suc (suc n)) word in
      let pos = round.some in
      let letters : 0 < length word = positive (length word) long in
      let fewer : length word < d = omega (arith, long, letters) in
      absurd (round.least (length word) letters fewer (divides long) (repeats long))
    where
      positive : (l : ℕ) → d ≡ suc (suc n) * l → 0 < l
      positive zero long = let pos = round.some in absurd (omega (arith, long, pos))
      positive (suc l) long = omega arith

      divides : d ≡ suc (suc n) * length word → length cycle % length word ≡ 0
      divides long =
          let (m, whole) = multiple-zero (length cycle) d round.whole in
          let all : length cycle ≡ m * suc (suc n) * length word = whole ∙ ap (λ x. m * x) long ∙ sym (mul_assoc m (suc (suc n)) (length word)) in
          ap (λ x. x % length word) all ∙ mul-mod_left (m * suc (suc n)) (length word)

      comes : d ≡ suc (suc n) * length word → Comes w (length (take (length stem - k) stem)) (length word)
      comes long =
          let R : List Letter → Type 0 = λ xs. RepeatsAfter xs (length word) in
          comes-sooner _ _ w (length word) short-word (suc (suc n), cycle-short ∙ long) (subst R (sym e) (times-repeats (suc (suc n)) word))

      repeats : d ≡ suc (suc n) * length word → RepeatsAfter cycle (length word)
      repeats long i lt =
          let same : length stem + (i + length word) ≡ length stem + i + length word = omega arith in
          whole-word.back (i + length word) lt
          ∙ ap w same
          ∙ comes long (length stem + i) (omega (arith, stem-short))
          ∙ sym (whole-word.back i (omega (arith, lt)))

  pub normal : IsNormal (lasso_of (take (length stem - k) stem) (rolled (take d cycle) k))
  normal = record { primitive = primitive; apart = apart }
    where
      apart : (front rest : List Letter) (x y : Letter) → take (length stem - k) stem ≡ front ++ x ∷ [] → rolled (take d cycle) k ≡ rest ++ y ∷ [] → x ≢ y
      apart front rest x y is ends =
          let long : length stem - k ≡ length front + 1 = sym stem-short ∙ ap length is ∙ length-append front (x ∷ []) in
          let wide : d ≡ length rest + 1 = sym cycle-short ∙ ap length ends ∙ length-append rest (y ∷ []) in
          let cut : length (take d cycle) ≡ d = length-take-le d cycle round.few in
          let here : length front ≡ length stem - k - 1 = omega (arith, long) in
          let there : length rest ≡ length (take d cycle) - 1 = omega (arith, wide, cut) in
          ends-differ stem (take d cycle) w k (cut-word stem cycle w d whole-word round) shared x y (omega (arith, long))
          (sym (last-of front x empty) ∙ ap (λ xs. letter_of xs (length front)) (sym is) ∙ ap (letter_of (take (length stem - k) stem)) here)
          (sym (last-of rest y empty) ∙ ap (λ xs. letter_of xs (length rest)) (sym ends) ∙ ap (letter_of (rolled (take d cycle) k)) there)
