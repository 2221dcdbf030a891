-- On the words of a fair run its members hold.
use Rattle.std.proofs.Common.{◌≡◌, ℕ, zero, suc, ◌<◌, ◌≤◌, Bool, true, false, not, ◌&&◌, List, length, inl, inr, refl, subst, arith}
use Rattle.hy_formula.specs.Temporal.{endless}
use Rattle.hy_formula.specs.Normals.{Normal, HoldsAt}
use Rattle.ltl_closure.specs.Nodes.{Node, always, never, literal, and, or, next, weak_next, until, release, node_at, PartsBelow, Numbers, Local}
use Rattle.ltl_tableau.specs.Branches.{Members, Has, Branch, postponed_by, IsRun, IsFair, words_of}
use Rattle.ltl_closure.proofs.Marking.{marked}
use Rattle.ltl_tableau.proofs.Saturating.{letter, saturated}

-- ---- runs

not-postponed : (a b : Bool) → (a && not b) ≡ false → a ≡ true → b ≡ true
not-postponed true true e h = refl
not-postponed true false e h = absurd (cc)
not-postponed false b e h = absurd (cc)

-- what is said of the next position, said of another set
local-later : (T N M : ℕ → Type 0) (letter : ℕ → ℕ → Bool) (n k : ℕ) → k < n → ((q : ℕ) → q < n → N q → M q) → (node : Node) → PartsBelow k node → Local T N letter k node → Local T M letter k node
local-later T N M letter n k lt f always below h = h
local-later T N M letter n k lt f never below h = h
local-later T N M letter n k lt f (literal b name v) below h = h
local-later T N M letter n k lt f (and x y) below h = h
local-later T N M letter n k lt f (or x y) below h = h
local-later T N M letter n k lt f (next x) below h = f x (omega arith) h
local-later T N M letter n k lt f (weak_next x) below h = f x (omega arith) h
local-later T N M letter n k lt f (until x y) below (inl h) = inl h
local-later T N M letter n k lt f (until x y) below (inr (p, h)) = inr (p, f k lt h)
local-later T N M letter n k lt f (release x y) below (q, inl p) = (q, inl p)
local-later T N M letter n k lt f (release x y) below (q, inr h) = (q, inr (f k lt h))

module _ (nodes : List Node) (form : ℕ → Normal) (numbers : Numbers nodes form) (roots : Members) (run : ℕ → Branch) (goes : IsRun nodes roots run) (fair : IsFair nodes run) where
  here-rules : (i k : ℕ) → k < length nodes → Has (run i).now k → Local (Has (run i).now) (Has (run i).later) (letter nodes (run i)) k (node_at nodes k)
  here-rules zero k lt h = (saturated nodes numbers.parts roots (run 0) goes.starts).local k lt h
  here-rules (suc i) k lt h = (saturated nodes numbers.parts (run i).later (run (suc i)) (goes.goes i)).local k lt h

  onward : (i k : ℕ) → k < length nodes → Has (run i).later k → Has (run (suc i)).now k
  onward i k lt h = (saturated nodes numbers.parts (run i).later (run (suc i)) (goes.goes i)).has k lt h

  run-rules : (k i : ℕ) → k < length nodes → Has (run i).now k → Local (Has (run i).now) (Has (run (suc i)).now) (letter nodes (run i)) k (node_at nodes k)
  run-rules k i lt h = local-later _ _ _ _ (length nodes) k lt (onward i) (node_at nodes k) (numbers.parts k lt) (here-rules i k lt h)

  run-ends : (k g h i : ℕ) → node_at nodes k ≡ until g h → (j : ℕ) × (i ≤ j) × (Has (run j).now k → Has (run j).now h)
  run-ends k g h i e =
      let (j, from, kept) = fair k i in
      let P : Node → Type 0 = λ n. postponed_by (run j).now k n ≡ false in
      (j, from, λ here. not-postponed _ _ (subst P e kept) here)

  pub sound : (k : ℕ) → k < length nodes → Has roots k → HoldsAt endless (words_of nodes run) (form k) 0
  sound k lt root =
      marked nodes form numbers (words_of nodes run) (λ q i. Has (run i).now q) run-rules run-ends k lt 0
      ((saturated nodes numbers.parts roots (run 0) goes.starts).has k lt root)
