-- The executions of a net's copies side by side are the tuples of its executions.
use Rattle.std.proofs.Common.{◌≡◌, ℕ, zero, suc, ◌+◌, ◌*◌, ◌/◌, ◌%◌, ◌<◌, ◌≤◌, false, ◌&&◌, List, [], length, IsTrue, inl, inr, refl, sym, ap, ◌∙◌, subst, arith}
use Rattle.std.proofs.Math.Nat.{add-mul-mod_self_right, mod-eq_of_lt, mod-lt, mod-add-div', mul-div_cancel, mul-le-mul_left}
use Rattle.std.proofs.lemmas.Bool.{cases_eq}
use Rattle.hy_base.proofs.Places.{below-row}
use Rattle.aig_net.specs.declared.parts.And.{And}
use Rattle.aig_net.specs.declared.parts.Reset.{Reset}
use Rattle.aig_net.specs.declared.parts.Reset.TheVariants.{Zero}
use Rattle.aig_net.specs.Nets.{Net, no_and, Valuation, Below, literal_value, and_value, reset_at, and_at, literal_at, latch_variable, first_and, variables, IsRight, ResetTo, IsStart, IsStep, AllTrue, AllBelow, AreNames, is_name, IsNet}
use Rattle.aig_net.specs.Copies.{copied}
use Rattle.aig_net.specs.Executions.{Word, IsFair, IsExecution, Recurs}
use Rattle.self_compose.specs.Copies.{place, copy_literal, copy_and, copy_reset, copy_name, compose, copy, joined}
use Rattle.aig_net.proofs.Literals.{value-same, value-under, value-even, below-under, below-even, renumbered}
use Rattle.aig_net.proofs.Copying.{length-copied, each-copied, copied-each}

place-suc : (n c x y : ℕ) → y ≡ suc x → place n c y ≡ suc (x * n + c)
place-suc n c x y e = ap (place n c) e

pub copy-value : (n c : ℕ) (v : Valuation) (l : ℕ) →
    literal_value v (copy_literal n c l) ≡ literal_value (λ u. v (place n c u)) l
copy-value n c v l =
    value-under v (λ u. 2 * place n c u) l
    ∙ value-same (λ u. literal_value v (2 * place n c u)) (λ u. v (place n c u)) l
    (value-even v (place n c (l / 2)))

and-copy : (n c : ℕ) (v : Valuation) (a : And) →
    and_value v (copy_and n c a) ≡ and_value (λ u. v (place n c u)) a
and-copy n c v a =
    ap (λ b. b && literal_value v (copy_literal n c a.right)) (copy-value n c v a.left)
    ∙ ap (λ b. literal_value (λ u. v (place n c u)) a.left && b) (copy-value n c v a.right)

module _ (net : Net) (n : ℕ) (some : 0 < n) where
  abbrev all : Net
  all = compose net n

  many-latches : length all.latches ≡ length net.latches * n
  many-latches = length-copied n (copy_literal n) net.latches

  many-ands : length all.ands ≡ length net.ands * n
  many-ands = length-copied n (copy_and n) net.ands

  latch-place : (c j : ℕ) → latch_variable all (j * n + c) ≡ place n c (latch_variable net j)
  latch-place c j = omega arith

  and-place : (c j : ℕ) → first_and all + (j * n + c) ≡ place n c (first_and net + j)
  and-place c j =
      let e : first_and net + j ≡ suc (net.inputs + length net.latches + j) = omega arith in
      let m : length all.latches ≡ length net.latches * n = many-latches in
      let x : first_and all + (j * n + c) ≡ suc ((net.inputs + length net.latches + j) * n + c) =
      omega (arith, m) in
      x ∙ sym (place-suc n c (net.inputs + length net.latches + j) (first_and net + j) e)

  module _ (word : Word) where
    copy-start : IsNet net → (i : ℕ) → IsStart all (word i) → (c : ℕ) → c < n →
        IsStart net (copy n c word i)
    copy-start good i starts c few j row =
        let P : ℕ → Reset → Type 0 = λ u reset. ResetTo reset (word i (latch_variable all u)) in
        let a : length all.resets ≡ length net.resets * n =
        length-copied n (copy_reset n) net.resets in
        let b : length all.latches ≡ length net.latches * n = many-latches in
        let e : length all.resets ≡ length all.latches = a ∙ ap (λ k. k * n) good.resets ∙ sym b in
        let here : ResetTo (reset_at net.resets j) (word i (latch_variable all (j * n + c))) =
        copied-each n (copy_reset n) net.resets Zero Zero P
        (λ u lt. starts u (omega (arith, lt, e))) c j few (omega (arith, row, good.resets)) in
        let Q : ℕ → Type 0 = λ u. ResetTo (reset_at net.resets j) (word i u) in
        subst Q (latch-place c j) here

    join-start : IsNet net → (i : ℕ) → ((c : ℕ) → c < n → IsStart net (copy n c word i)) →
        IsStart all (word i)
    join-start good i starts u lt =
        let P : ℕ → Reset → Type 0 = λ u reset. ResetTo reset (word i (latch_variable all u)) in
        let a : length all.resets ≡ length net.resets * n =
        length-copied n (copy_reset n) net.resets in
        let b : length all.latches ≡ length net.latches * n = many-latches in
        let e : length all.resets ≡ length all.latches = a ∙ ap (λ k. k * n) good.resets ∙ sym b in
        each-copied n (copy_reset n) net.resets Zero Zero P
        (λ c j few row. let Q : ℕ → Type 0 = λ u. ResetTo (reset_at net.resets j) (word i u) in
        subst Q (sym (latch-place c j)) (starts c few j (omega (arith, row, good.resets))))
        u (omega (arith, lt, e))

    copy-right : (i : ℕ) → IsRight all (word i) → (c : ℕ) → c < n → IsRight net (copy n c word i)
    copy-right i right c few = record {
      constant = right.constant;
      gates = λ j row.
          let P : ℕ → And → Type 0 = λ u a. word i (first_and all + u) ≡ and_value (word i) a in
          let here : word i (first_and all + (j * n + c)) ≡ and_value (word i)
          (copy_and n c (and_at net.ands j)) =
          copied-each n (copy_and n) net.ands no_and no_and P right.gates c j few row in
          ap (word i) (sym (and-place c j)) ∙ here ∙ and-copy n c (word i) (and_at net.ands j);
    }

    join-right : (i : ℕ) → ((c : ℕ) → c < n → IsRight net (copy n c word i)) → IsRight all (word i)
    join-right i right = record {
      constant = (right 0 some).constant;
      gates =
          let P : ℕ → And → Type 0 = λ u a. word i (first_and all + u) ≡ and_value (word i) a in
          each-copied n (copy_and n) net.ands no_and no_and P
          (λ c j few row. ap (word i) (and-place c j) ∙ (right c few).gates j row
          ∙ sym (and-copy n c (word i) (and_at net.ands j)));
    }

    copy-step : (i : ℕ) → IsStep all (word i) (word (suc i)) → (c : ℕ) → c < n →
        IsStep net (copy n c word i) (copy n c word (suc i))
    copy-step i goes c few j row =
        let P : ℕ → ℕ → Type 0 = λ u next. word (suc i) (latch_variable all u) ≡ literal_value
        (word i) next in
        let here : word (suc i) (latch_variable all (j * n + c)) ≡ literal_value (word i)
        (copy_literal n c (literal_at net.latches j)) =
        copied-each n (copy_literal n) net.latches 0 0 P goes c j few row in
        ap (word (suc i)) (sym (latch-place c j)) ∙ here
        ∙ copy-value n c (word i) (literal_at net.latches j)

    join-step : (i : ℕ) → ((c : ℕ) → c < n →
        IsStep net (copy n c word i) (copy n c word (suc i))) → IsStep all (word i) (word (suc i))
    join-step i goes =
        let P : ℕ → ℕ → Type 0 = λ u next. word (suc i) (latch_variable all u) ≡ literal_value
        (word i) next in
        each-copied n (copy_literal n) net.latches 0 0 P
        (λ c j few row. ap (word (suc i)) (latch-place c j) ∙ goes c few j row
        ∙ sym (copy-value n c (word i) (literal_at net.latches j)))

    copy-true : (i : ℕ) (literals : List ℕ) →
        AllTrue (copied n (copy_literal n) literals) (word i) → (c : ℕ) → c < n →
        AllTrue literals (copy n c word i)
    copy-true i literals kept c few j row =
        let P : ℕ → ℕ → Type 0 = λ _ l. IsTrue (literal_value (word i) l) in
        sym (copy-value n c (word i) (literal_at literals j))
        ∙ copied-each n (copy_literal n) literals 0 0 P kept c j few row

    join-true : (i : ℕ) (literals : List ℕ) →
        ((c : ℕ) → c < n → AllTrue literals (copy n c word i)) →
        AllTrue (copied n (copy_literal n) literals) (word i)
    join-true i literals kept =
        let P : ℕ → ℕ → Type 0 = λ _ l. IsTrue (literal_value (word i) l) in
        each-copied n (copy_literal n) literals 0 0 P
        (λ c j few row. copy-value n c (word i) (literal_at literals j) ∙ kept c few j row)

    abbrev Again : ℕ → ℕ → Type 0
    Again _ l = (i : ℕ) → (k : ℕ) × (i ≤ k) × IsTrue (literal_value (word k) l)

    copy-fair : IsFair all word → (c : ℕ) → c < n → IsFair net (copy n c word)
    copy-fair fair c few j row i =
        let (k, from, is) = copied-each n (copy_literal n) net.fairs 0 0 Again fair c j few row i in
        (k, from, sym (copy-value n c (word k) (literal_at net.fairs j)) ∙ is)

    join-fair : ((c : ℕ) → c < n → IsFair net (copy n c word)) → IsFair all word
    join-fair fair =
        each-copied n (copy_literal n) net.fairs 0 0 Again
        (λ c j few row i. let (k, from, is) = fair c few j row i in
        (k, from, copy-value n c (word k) (literal_at net.fairs j) ∙ is))

    pub copy-execution : IsNet net → IsExecution all word → (c : ℕ) → c < n →
        IsExecution net (copy n c word)
    copy-execution good is c few = record {
      run = record {
        starts = copy-start good 0 is.run.starts c few;
        right = λ i. copy-right i (is.run.right i) c few;
        goes = λ i. copy-step i (is.run.goes i) c few;
        kept = λ i. copy-true i net.constraints (is.run.kept i) c few;
      };
      fair = copy-fair is.fair c few;
    }

    pub join-execution : IsNet net → ((c : ℕ) → c < n → IsExecution net (copy n c word)) →
        IsExecution all word
    join-execution good are = record {
      run = record {
        starts = join-start good 0 (λ c few. (are c few).run.starts);
        right = λ i. join-right i (λ c few. (are c few).run.right i);
        goes = λ i. join-step i (λ c few. (are c few).run.goes i);
        kept = λ i. join-true i net.constraints (λ c few. (are c few).run.kept i);
      };
      fair = join-fair (λ c few. (are c few).fair);
    }

  -- ---- the copies are a net

  place-below : (c x m : ℕ) → c < n → x < suc m → place n c x < suc (m * n)
  place-below c zero m few lt = omega arith
  place-below c (suc v) m few lt = omega (arith, below-row n c v m few (omega arith))

  place-lower : (c x y : ℕ) → x < suc y → place n c x < suc (y * n + c)
  place-lower c zero y lt = omega arith
  place-lower c (suc v) y lt = let l : n * suc v ≤ n * y = mul-le-mul_left n (omega arith) in
      omega (arith, l, some)

  pub copy-below : (c l : ℕ) → c < n → Below (variables net) l →
      Below (variables all) (copy_literal n c l)
  copy-below c l few below =
      let a = many-latches in
      let b = many-ands in
      let m : ℕ = net.inputs + length net.latches + length net.ands in
      below-under (variables all) (variables net) (λ v. 2 * place n c v) l
      (λ x lt. below-even (variables all) (place n c x) (let p =
      place-below c x m few (omega arith) in omega (arith, a, b, p))) below

  copy-lower : (c j l : ℕ) → Below (first_and net + j) l →
      Below (first_and all + (j * n + c)) (copy_literal n c l)
  copy-lower c j l below =
      let a = many-latches in
      let y : ℕ = net.inputs + length net.latches + j in
      below-under (first_and all + (j * n + c)) (first_and net + j) (λ v. 2 * place n c v) l
      (λ x lt. below-even (first_and all + (j * n + c)) (place n c x) (let p =
      place-lower c x y (omega arith) in omega (arith, a, p))) below

  copies-below : (literals : List ℕ) → AllBelow (variables net) literals →
      AllBelow (variables all) (copied n (copy_literal n) literals)
  copies-below literals good =
      each-copied n (copy_literal n) literals 0 0 (λ _ l. Below (variables all) l)
      (λ c j few row. copy-below c (literal_at literals j) few (good j row))

  place-grows : (c x y : ℕ) → x < y → place n c x < place n c y
  place-grows c x zero lt = absurd (omega arith)
  place-grows c zero (suc y) lt = omega arith
  place-grows c (suc x) (suc y) lt = let l : n * suc x ≤ n * y = mul-le-mul_left n (omega arith) in
      omega (arith, l, some)

  copy-grows : (c l k : ℕ) → l ≤ k → copy_literal n c l ≤ copy_literal n c k
  copy-grows c l k le =
      let a = renumbered (place n c) l in
      let b = renumbered (place n c) k in
      elim (cases_eq (l / 2) (k / 2)) [
        | inl e ↦
            let same : place n c (l / 2) ≡ place n c (k / 2) = ap (place n c) e in
            omega (arith, a, b, e, le, same)
        | inr apart ↦
            let up : place n c (l / 2) < place n c (k / 2) =
            place-grows c (l / 2) (k / 2) (omega (arith, le, apart)) in
            omega (arith, a, b, up)
      ]

  no-names : (m : ℕ) (names : List (List ℕ)) → length names ≡ m →
      AreNames (m * n) (copied n (copy_name n) names)
  no-names m names e = record {
    many = length-copied n (copy_name n) names ∙ ap (λ k. k * n) e;
    good = each-copied n (copy_name n) names [] [] (λ _ name. IsTrue (is_name name))
        (λ c j few row. refl);
  }

  no-names-of : (m k : ℕ) (names : List (List ℕ)) → k ≡ m * n → length names ≡ m →
      AreNames k (copied n (copy_name n) names)
  no-names-of m k names e many = let P : ℕ → Type 0 =
      λ x. AreNames x (copied n (copy_name n) names) in subst P (sym e) (no-names m names many)

  pub composed-net : IsNet net → IsNet all
  composed-net good = record {
    latches = copies-below net.latches good.latches;
    resets = length-copied n (copy_reset n) net.resets ∙ ap (λ k. k * n) good.resets
        ∙ sym many-latches;
    ordered =
        each-copied n (copy_and n) net.ands no_and no_and (λ u a. Below (first_and all + u) a.left
        × Below (first_and all + u) a.right)
        (λ c j few row. let (l, r) = good.ordered j row in (
          copy-lower c j (and_at net.ands j).left l,
          copy-lower c j
              (and_at net.ands j).right r,
        ));
    turned =
        each-copied n (copy_and n) net.ands no_and no_and (λ _ a. a.right ≤ a.left)
        (λ c j few row. copy-grows c (and_at net.ands j).right (and_at net.ands j).left
        (good.turned j row));
    outputs = copies-below net.outputs good.outputs;
    constraints = copies-below net.constraints good.constraints;
    fairs = copies-below net.fairs good.fairs;
    input_names = no-names net.inputs net.input_names good.input_names.many;
    latch_names = no-names-of (length net.latches)
        (length all.latches) net.latch_names many-latches good.latch_names.many;
    output_names = no-names-of (length net.outputs) (length all.outputs) net.output_names
        (length-copied n (copy_literal n) net.outputs) good.output_names.many;
  }

-- ---- the word of words

pub copy-joined : (n : ℕ) (words : ℕ → Word) (c i : ℕ) → c < n → words c i 0 ≡ false → (v : ℕ) →
    copy n c (joined n words) i v ≡ words c i v
copy-joined n words c i few constant zero = sym constant
copy-joined n words c i few constant (suc v) =
    let turned : v * n + c ≡ c + v * n = omega arith in
    let rest : (v * n + c) % n ≡ c =
    ap (λ x. x % n) turned ∙ add-mul-mod_self_right c v n ∙ mod-eq_of_lt few in
    let whole : (v * n + c) % n + (v * n + c) / n * n ≡ v * n + c = mod-add-div' (v * n + c) n in
    let row : (v * n + c) / n ≡ v =
    same-row n ((v * n + c) / n) v (omega (arith, few)) (omega arith) in
    ap (λ x. words x i (suc ((v * n + c) / n))) rest ∙ ap (λ x. words c i (suc x)) row
  where
    same-row : (n a b : ℕ) → 0 < n → a * n ≡ b * n → a ≡ b
    same-row n a b lt e = sym (mul-div_cancel a lt) ∙ ap (λ x. x / n) e ∙ mul-div_cancel b lt

pub joined-recurs : (n : ℕ) → 0 < n → (words : ℕ → Word) (s p : ℕ) → 0 < p →
    ((c : ℕ) → c < n → Recurs (words c) s p) → Recurs (joined n words) s p
joined-recurs n some words s p lt recur = record { some = lt; same = same }
  where
    same : (i v : ℕ) → s ≤ i → joined n words (i + p) v ≡ joined n words i v
    same i zero le = refl
    same i (suc u) le = (recur (u % n) (mod-lt u some)).same i (suc (u / n)) le

pub copy-recurs : (n : ℕ) (word : Word) (s p c : ℕ) → Recurs word s p → Recurs (copy n c word) s p
copy-recurs n word s p c r = record { some = r.some; same = λ i v le. r.same i (place n c v) le }
