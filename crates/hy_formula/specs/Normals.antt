-- Negation normal form.
use Rattle.std.specs.Prelude.{◌≡◌, ℕ, ◌+◌, ◌<◌, ◌≤◌, ◌⊎◌, Bool, true, false, not}
use Rattle.hy_formula.specs.Trees as tree
use Rattle.hy_formula.specs.Trees.{Tree}
use Rattle.hy_formula.specs.Temporal.{Span, Within, Words, IsUntil}

pub data Normal : Type 0 where
  always : Normal
  never : Normal
  -- whether it is to hold, the number of a name, and that of a variable
  literal : Bool → ℕ → ℕ → Normal
  and : Normal → Normal → Normal
  or : Normal → Normal → Normal
  next : Normal → Normal
  weak_next : Normal → Normal
  until : Normal → Normal → Normal
  release : Normal → Normal → Normal

-- the normal form of a tree, negated where the value is false
abbrev pub normal_form : Bool → Tree → Normal
normal_form true tree.always = always
normal_form false tree.always = never
normal_form true tree.never = never
normal_form false tree.never = always
normal_form b (tree.atom name variable) = literal b name variable
normal_form b (tree.not f) = normal_form (not b) f
normal_form true (tree.and f g) = and (normal_form true f) (normal_form true g)
normal_form false (tree.and f g) = or (normal_form false f) (normal_form false g)
normal_form true (tree.or f g) = or (normal_form true f) (normal_form true g)
normal_form false (tree.or f g) = and (normal_form false f) (normal_form false g)
normal_form true (tree.implies f g) = or (normal_form false f) (normal_form true g)
normal_form false (tree.implies f g) = and (normal_form true f) (normal_form false g)
normal_form true (tree.iff f g) = or (and (normal_form true f) (normal_form true g)) (and (normal_form false f) (normal_form false g))
normal_form false (tree.iff f g) = or (and (normal_form true f) (normal_form false g)) (and (normal_form false f) (normal_form true g))
normal_form true (tree.next f) = next (normal_form true f)
normal_form false (tree.next f) = weak_next (normal_form false f)
normal_form true (tree.finally g) = until always (normal_form true g)
normal_form false (tree.finally g) = release never (normal_form false g)
normal_form true (tree.globally g) = release never (normal_form true g)
normal_form false (tree.globally g) = until always (normal_form false g)
normal_form true (tree.until f g) = until (normal_form true f) (normal_form true g)
normal_form false (tree.until f g) = release (normal_form false f) (normal_form false g)
normal_form true (tree.release f g) = release (normal_form true f) (normal_form true g)
normal_form false (tree.release f g) = until (normal_form false f) (normal_form false g)
normal_form true (tree.weak f g) = release (normal_form true g) (or (normal_form true f) (normal_form true g))
normal_form false (tree.weak f g) = until (normal_form false g) (and (normal_form false f) (normal_form false g))

-- Q holds at each position from i on, up to the first one, included, at which P holds.
abbrev pub IsHeld : Span → (ℕ → Type 0) → (ℕ → Type 0) → ℕ → Type 0
IsHeld span P Q i = (j : ℕ) → i ≤ j → Within span j → Q j ⊎ ((k : ℕ) × (i ≤ k) × (k < j) × P k)

-- The normal form holds at position i.
abbrev pub HoldsAt : Span → Words → Normal → ℕ → Type 0
HoldsAt span words always i = Unit {0}
HoldsAt span words never i = ⊥
HoldsAt span words (literal b name variable) i = words name variable i ≡ b
HoldsAt span words (and f g) i = HoldsAt span words f i × HoldsAt span words g i
HoldsAt span words (or f g) i = HoldsAt span words f i ⊎ HoldsAt span words g i
HoldsAt span words (next f) i = Within span (i + 1) × HoldsAt span words f (i + 1)
HoldsAt span words (weak_next f) i = Within span (i + 1) → HoldsAt span words f (i + 1)
HoldsAt span words (until f g) i = IsUntil span (HoldsAt span words f) (HoldsAt span words g) i
HoldsAt span words (release f g) i = IsHeld span (HoldsAt span words f) (HoldsAt span words g) i

-- P, or its negation where the value is false
abbrev pub Signed : Bool → Type 0 → Type 0
Signed true P = P
Signed false P = ¬ P
