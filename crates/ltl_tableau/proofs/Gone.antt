-- An accepting walk is a fair run, and its lassos of letters have its words.
use Rattle.std.proofs.Common.{◌≡◌, ℕ, zero, suc, ◌+◌, ◌-◌, ◌*◌, ◌%◌, ◌<◌, ◌≤◌, Bool, true, false, ◌&&◌, ◌||◌, cond, nat_eq, List, length, get_or, map, inl, inr, refl, sym, ap, ◌∙◌, subst, arith}
use Rattle.std.specs.FinSet.{empty, insert, contains, contains-empty}
use Rattle.std.specs.FinSet.{contains-insert}
use Rattle.std.specs.Ordering.{nat_cmp}
use Rattle.std.specs.Cmp.{nat_cmp_total, unsigned_tied}
use Rattle.std.proofs.Math.Path.{fun_ext}
use Rattle.std.proofs.Math.Nat.{add-mul-mod_self_right, mod-eq_of_lt, mod-lt, le-mul_of_pos_right}
use Rattle.std.proofs.lemmas.Bool.{cases_lt, false_from_ne_true}
use Rattle.std.proofs.lemmas.List.{get_or_default, get_or_past, get_or-map, length-map}
use Rattle.hy_base.proofs.Truths.{turned-test, and-true, and-false}
use Rattle.hy_formula.specs.Temporal.{endless, Words}
use Rattle.hy_formula.specs.Normals.{Normal, HoldsAt}
use Rattle.hy_formula.specs.Lassos.{Lasso, lasso_at}
use Rattle.hy_bits.specs.Letter.{Letter}
use Rattle.hy_lasso.specs.Words.{no_lasso, lasso_words, AreLassos}
use Rattle.ltl_closure.specs.Nodes.{Node, always, never, literal, and, or, next, weak_next, until, release, node_at, Numbers}
use Rattle.ltl_tableau.specs.Branches.{Members, Has, Branch, is_literal, has_literal, postpones, IsFair, words_of}
use Rattle.ltl_tableau.specs.Walks.{no_branch, gone, IsWalk, IsAccepting}
use Rattle.ltl_tableau.specs.WalkWords.{with_literal, letter_below, letter_of, lasso_of, lassos_from, lassos_of, VariableBelow, VariablesBelow}
use Rattle.hy_lasso.proofs.LassoWords.{in-stem, in-cycle}
use Rattle.ltl_tableau.proofs.Choosing.{literal-some}
use Rattle.ltl_tableau.proofs.Saturating.{literal-node}
use Rattle.ltl_tableau.proofs.Sounding.{sound}

pub accepting-fair : (nodes : List Node) (roots : Members) (walk : Lasso Branch) → IsWalk nodes roots walk → IsAccepting nodes walk → IsFair nodes (gone walk)
accepting-fair nodes roots walk is accepting k i =
    let (b, (q, lt, e), kept) = accepting k in
    at b q lt e kept
  where
    at : (b : Branch) (q : ℕ) → q < length walk.cycle → get_or walk.cycle q b ≡ b → postpones nodes b k ≡ false → (j : ℕ) × (i ≤ j) × (postpones nodes (gone walk j) k ≡ false)
    at b q lt e kept =
        let many : i ≤ i * length walk.cycle = le-mul_of_pos_right i is.some in
        let far : q + i * length walk.cycle ≡ length walk.stem + (q + i * length walk.cycle) - length walk.stem = omega arith in
        let round : (length walk.stem + (q + i * length walk.cycle) - length walk.stem) % length walk.cycle ≡ q =
        ap (λ x. x % length walk.cycle) (sym far) ∙ add-mul-mod_self_right q i (length walk.cycle) ∙ mod-eq_of_lt lt in
        let here : gone walk (length walk.stem + (q + i * length walk.cycle)) ≡ b =
        in-cycle no_branch walk (length walk.stem + (q + i * length walk.cycle)) (omega arith) ∙ ap (λ x. get_or walk.cycle x no_branch) round ∙ get_or_default walk.cycle q no_branch b lt ∙ e in
        let P : Branch → Type 0 = λ x. postpones nodes x k ≡ false in
        (length walk.stem + (q + i * length walk.cycle), omega arith, subst P (sym here) kept)

-- ---- the letters of a branch

contains-with : (s : Letter) (k q : ℕ) → contains (insert s k) q ≡ (nat_eq k q || contains s q)
contains-with s k q = contains-insert nat_cmp_total s k q ∙ ap (λ b. b || contains s q) (unsigned_tied q k ∙ turned-test q k)

literal-added : (v n u name : ℕ) (s : Letter) (b : Bool) → nat_eq u v ≡ b → contains (cond b (insert s n) s) name ≡ ((nat_eq n name && b) || contains s name)
literal-added v n u name s true e = contains-with s n name ∙ ap (λ b. b || contains s name) (sym (and-true (nat_eq n name)))
literal-added v n u name s false e = ap (λ b. b || contains s name) (sym (and-false (nat_eq n name)))

with-has : (v name : ℕ) (node : Node) (s : Letter) → contains (with_literal v node s) name ≡ (is_literal true name v node || contains s name)
with-has v name (literal true n u) s = literal-added v n u name s (nat_eq u v) refl
with-has v name (literal false n u) s = refl
with-has v name always s = refl
with-has v name never s = refl
with-has v name (and g h) s = refl
with-has v name (or g h) s = refl
with-has v name (next g) s = refl
with-has v name (weak_next g) s = refl
with-has v name (until g h) s = refl
with-has v name (release g h) s = refl

letter-has : (nodes : List Node) (now : Members) (v name m : ℕ) → contains (letter_below nodes now v m) name ≡ has_literal nodes now true name v m
letter-has nodes now v name zero = contains-empty nat_cmp name
letter-has nodes now v name (suc m) = step (contains now m) (letter-has nodes now v name m)
  where
    step : (b : Bool) → contains (letter_below nodes now v m) name ≡ has_literal nodes now true name v m → contains (cond b (with_literal v (node_at nodes m) (letter_below nodes now v m)) (letter_below nodes now v m)) name ≡ ((b && is_literal true name v (node_at nodes m)) || has_literal nodes now true name v m)
    step true ih = with-has v name (node_at nodes m) (letter_below nodes now v m) ∙ ap (λ b. is_literal true name v (node_at nodes m) || b) ih
    step false ih = ih

-- ---- the lassos of letters

mapped-at : {A B : Type 0} (f : A → B) (none : A) (other : B) (l : Lasso A) (i : ℕ) → 0 < length l.cycle → lasso_at other (record { stem = map f l.stem; cycle = map f l.cycle }) i ≡ f (lasso_at none l i)
mapped-at {A = A} {B = B} f none other l i some =
    let mapped : Lasso B = record { stem = map f l.stem; cycle = map f l.cycle } in
    let s : length (map f l.stem) ≡ length l.stem = length-map l.stem f in
    let c : length (map f l.cycle) ≡ length l.cycle = length-map l.cycle f in
    elim (cases_lt i (length l.stem)) [
      | inl lt ↦ in-stem other mapped i (omega (arith, s)) ∙ get_or-map f l.stem i none other lt ∙ ap f (sym (in-stem none l i lt))
      | inr le ↦
          in-cycle other mapped i (omega (arith, s))
          ∙ ap (λ x. get_or (map f l.cycle) ((i - x) % length (map f l.cycle)) other) s
          ∙ ap (λ x. get_or (map f l.cycle) ((i - length l.stem) % x) other) c
          ∙ get_or-map f l.cycle ((i - length l.stem) % length l.cycle) none other (mod-lt (i - length l.stem) some)
          ∙ ap f (sym (in-cycle none l i le))
    ]

from-at : (nodes : List Node) (walk : Lasso Branch) (v n x : ℕ) → x < n → get_or (lassos_from nodes walk v n) x no_lasso ≡ lasso_of nodes walk (v + x)
from-at nodes walk v zero x lt = absurd (omega arith)
from-at nodes walk v (suc n) zero lt = ap (λ u. lasso_of nodes walk u) (let e : v ≡ v + 0 = omega arith in e)
from-at nodes walk v (suc n) (suc x) lt = from-at nodes walk (suc v) n x (omega arith) ∙ ap (λ u. lasso_of nodes walk u) (let e : suc v + x ≡ v + suc x = omega arith in e)

from-length : (nodes : List Node) (walk : Lasso Branch) (v n : ℕ) → length (lassos_from nodes walk v n) ≡ n
from-length nodes walk v zero = refl
from-length nodes walk v (suc n) = ap suc (from-length nodes walk (suc v) n)

pub are-lassos : (nodes : List Node) (walk : Lasso Branch) (n : ℕ) → 0 < length walk.cycle → AreLassos (lassos_of nodes walk n)
are-lassos nodes walk n some v lt =
    let l = from-length nodes walk 0 n in
    let c = length-map walk.cycle (letter_of nodes (0 + v)) in
    let P : Lasso Letter → Type 0 = λ x. 0 < length x.cycle in
    let there : 0 < length (map (letter_of nodes (0 + v)) walk.cycle) = omega (arith, c) in
    subst P (sym (from-at nodes walk 0 n v (omega (arith, l)))) there

module _ (nodes : List Node) (walk : Lasso Branch) (some : 0 < length walk.cycle) (n : ℕ) (variables : VariablesBelow n nodes) where
  no-literal : (now : Members) (name v : ℕ) → n ≤ v → has_literal nodes now true name v (length nodes) ≡ false
  no-literal now name v past =
      false_from_ne_true _ (λ is.
      let (k, lt, has, e) = literal-some nodes now true name v (length nodes) is in
      let P : Node → Type 0 = VariableBelow n in
      let below : v < n = subst P (literal-node true name v (node_at nodes k) e) (variables k lt) in
      omega arith)

  same-at : (name v i : ℕ) → lasso_words (lassos_of nodes walk n) name v i ≡ words_of nodes (gone walk) name v i
  same-at name v i =
      elim (cases_lt v n) [
        | inl lt ↦
            ap (λ l. contains (lasso_at empty l i) name) (from-at nodes walk 0 n v lt ∙ ap (λ u. lasso_of nodes walk u) (let e : 0 + v ≡ v = omega arith in e))
            ∙ ap (λ x. contains x name) (mapped-at (letter_of nodes v) no_branch empty walk i some)
            ∙ letter-has nodes ((gone walk i).now) v name (length nodes)
        | inr past ↦
            let l = from-length nodes walk 0 n in
            ap (λ l. contains (lasso_at empty l i) name) (get_or_past (lassos_of nodes walk n) v no_lasso (omega (arith, l)))
            ∙ ap (λ x. contains x name) (in-cycle empty no_lasso i (omega arith))
            ∙ contains-empty nat_cmp name
            ∙ sym (no-literal ((gone walk i).now) name v past)
      ]

  pub same-words : lasso_words (lassos_of nodes walk n) ≡ words_of nodes (gone walk)
  same-words = fun_ext (λ name. fun_ext (λ v. fun_ext (λ i. same-at name v i)))

pub walk-sound : (nodes : List Node) (form : ℕ → Normal) (n : ℕ) → Numbers nodes form → VariablesBelow n nodes → (roots : Members) (walk : Lasso Branch) → IsWalk nodes roots walk → IsAccepting nodes walk → (k : ℕ) → k < length nodes → Has roots k → HoldsAt endless (lasso_words (lassos_of nodes walk n)) (form k) 0
walk-sound nodes form n numbers variables roots walk is accepting k lt root =
    let P : Words → Type 0 = λ words. HoldsAt endless words (form k) 0 in
    subst P (sym (same-words nodes walk is.some n variables))
    (sound nodes form numbers roots (gone walk) is.goes (accepting-fair nodes roots walk is accepting) k lt root)
