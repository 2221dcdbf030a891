-- The meaning of a body at a position of joint words, finite or without end.
use Rattle.std.specs.Prelude.{◌≡◌, ℕ, ◌+◌, ◌<◌, ◌≤◌, ◌⊎◌, Bool, IsTrue}
use Rattle.hy_formula.specs.Trees.{Tree, always, never, atom, not, next, finally, globally, and, or, implies, iff, until, release, weak}

-- which positions there are: all, or those below a number
pub data Span : Type 0 where
  endless : Span
  below : ℕ → Span

-- The position is there.
abbrev pub Within : Span → ℕ → Type 0
Within endless i = Unit {0}
Within (below m) i = i < m

-- Words for all variables at once: whether a name, by its number, is in the letter of a variable at a position.
abbrev pub Words : Type 0
Words = ℕ → ℕ → ℕ → Bool

-- Q holds at some position from i on, and P at each position from i up to that one.
abbrev pub IsUntil : Span → (ℕ → Type 0) → (ℕ → Type 0) → ℕ → Type 0
IsUntil span P Q i = (j : ℕ) × (i ≤ j) × Within span j × Q j × ((k : ℕ) → i ≤ k → k < j → P k)

-- `f R g` is `!(!f U !g)`.
abbrev pub IsRelease : Span → (ℕ → Type 0) → (ℕ → Type 0) → ℕ → Type 0
IsRelease span P Q i = ¬ IsUntil span (λ k. ¬ P k) (λ k. ¬ Q k) i

-- The tree holds at position i. `F g` is `true U g`, `G g` is `false R g`, and `f W g` is `g R (f | g)`.
abbrev pub SatisfiesAt : Span → Words → Tree → ℕ → Type 0
SatisfiesAt span words always i = Unit {0}
SatisfiesAt span words never i = ⊥
SatisfiesAt span words (atom name variable) i = IsTrue (words name variable i)
SatisfiesAt span words (not f) i = ¬ SatisfiesAt span words f i
SatisfiesAt span words (next f) i = Within span (i + 1) × SatisfiesAt span words f (i + 1)
SatisfiesAt span words (finally g) i = IsUntil span (λ _. Unit {0}) (SatisfiesAt span words g) i
SatisfiesAt span words (globally g) i = IsRelease span (λ _. ⊥) (SatisfiesAt span words g) i
SatisfiesAt span words (and f g) i = SatisfiesAt span words f i × SatisfiesAt span words g i
SatisfiesAt span words (or f g) i = SatisfiesAt span words f i ⊎ SatisfiesAt span words g i
SatisfiesAt span words (implies f g) i = SatisfiesAt span words f i → SatisfiesAt span words g i
SatisfiesAt span words (iff f g) i =
    (SatisfiesAt span words f i → SatisfiesAt span words g i) × (SatisfiesAt span words g i → SatisfiesAt span words f i)
SatisfiesAt span words (until f g) i = IsUntil span (SatisfiesAt span words f) (SatisfiesAt span words g) i
SatisfiesAt span words (release f g) i = IsRelease span (SatisfiesAt span words f) (SatisfiesAt span words g) i
SatisfiesAt span words (weak f g) i =
    IsRelease span (SatisfiesAt span words g) (λ k. SatisfiesAt span words f k ⊎ SatisfiesAt span words g k) i

-- It is known whether P holds.
abbrev pub Decided : Type 0 → Type 0
Decided P = P ⊎ ¬ P

-- From s on the words repeat after c positions.
pub record Repeats (words : Words) (s c : ℕ) : Type 0 where
  pub some : 0 < c
  pub same : (name variable i : ℕ) → s ≤ i → words name variable (i + c) ≡ words name variable i

-- Each tree is decided at each position.
abbrev pub IsDecided : Span → Words → Type 0
IsDecided span words = (f : Tree) (i : ℕ) → Decided (SatisfiesAt span words f i)
