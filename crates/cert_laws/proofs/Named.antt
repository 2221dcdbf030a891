-- The names of a formula are numbers of a table, and stay so where the table grows.
use Rattle.std.proofs.Common.{ℕ, ◌<◌, ◌≤◌, ◌⊎◌, ◌&&◌, ◌||◌, IsTrue, inl, inr, refl, subst, arith, eqb-true, true≢false, sym}
use Rattle.std.proofs.lemmas.Bool.{and_from, and_parts, lt-ltb, or_cases}
use Rattle.std.proofs.lemmas.Bool.Decides.{Decides-ltb}
use Rattle.hy_formula.specs.Atoms.{has_name}
use Rattle.hy_formula.specs.Trees.{Tree, always, never, atom, not, next, finally, globally, and, or, implies, iff, until, release, weak}
use Rattle.hy_read.specs.Readings.{names_below}
use Rattle.ea_core.specs.Decided.{Mentions}

-- ---- a name that a tree has is mentioned

two-mention : (f g : Tree) (name : ℕ) → (IsTrue (has_name f name) → Mentions f name)
    → (IsTrue (has_name g name) → Mentions g name)
    → IsTrue (has_name f name || has_name g name) → Mentions f name ⊎ Mentions g name
two-mention f g name one two has =
    elim (or_cases (has_name f name) (has_name g name) has) [
      | inl left ↦ inl (one left)
      | inr right ↦ inr (two right)
    ]

has-mentions : (f : Tree) (name : ℕ) → IsTrue (has_name f name) → Mentions f name
has-mentions always name has = true≢false (sym has)
has-mentions never name has = true≢false (sym has)
has-mentions (atom a v) name has = eqb-true a name has
has-mentions (not f) name has = has-mentions f name has
has-mentions (next f) name has = has-mentions f name has
has-mentions (finally f) name has = has-mentions f name has
has-mentions (globally f) name has = has-mentions f name has
has-mentions (and f g) name has =
    two-mention f g name (has-mentions f name) (has-mentions g name) has
has-mentions (or f g) name has =
    two-mention f g name (has-mentions f name) (has-mentions g name) has
has-mentions (implies f g) name has =
    two-mention f g name (has-mentions f name) (has-mentions g name) has
has-mentions (iff f g) name has =
    two-mention f g name (has-mentions f name) (has-mentions g name) has
has-mentions (until f g) name has =
    two-mention f g name (has-mentions f name) (has-mentions g name) has
has-mentions (release f g) name has =
    two-mention f g name (has-mentions f name) (has-mentions g name) has
has-mentions (weak f g) name has =
    two-mention f g name (has-mentions f name) (has-mentions g name) has

-- ---- what is mentioned is below

module _ (n : ℕ) where
  abbrev AllBelow : Tree → Type 0
  AllBelow f = (name : ℕ) → Mentions f name → name < n

  two-below : (f g : Tree) → (IsTrue (names_below n f) → AllBelow f)
      → (IsTrue (names_below n g) → AllBelow g) → IsTrue (names_below n f && names_below n g)
      → (name : ℕ) → Mentions f name ⊎ Mentions g name → name < n
  two-below f g one two below name (inl m) =
      one (and_parts (names_below n f) (names_below n g) below).0 name m
  two-below f g one two below name (inr m) =
      two (and_parts (names_below n f) (names_below n g) below).1 name m

  pub mentioned-below : (f : Tree) → IsTrue (names_below n f) → (name : ℕ) → Mentions f name
      → name < n
  mentioned-below always below name m = absurd m
  mentioned-below never below name m = absurd m
  mentioned-below (atom a v) below name m =
      let P : ℕ → Type 0 = λ k. k < n in subst P m ((Decides-ltb a n).0 below)
  mentioned-below (not f) below name m = mentioned-below f below name m
  mentioned-below (next f) below name m = mentioned-below f below name m
  mentioned-below (finally f) below name m = mentioned-below f below name m
  mentioned-below (globally f) below name m = mentioned-below f below name m
  mentioned-below (and f g) below name m =
      two-below f g (mentioned-below f) (mentioned-below g) below name m
  mentioned-below (or f g) below name m =
      two-below f g (mentioned-below f) (mentioned-below g) below name m
  mentioned-below (implies f g) below name m =
      two-below f g (mentioned-below f) (mentioned-below g) below name m
  mentioned-below (iff f g) below name m =
      two-below f g (mentioned-below f) (mentioned-below g) below name m
  mentioned-below (until f g) below name m =
      two-below f g (mentioned-below f) (mentioned-below g) below name m
  mentioned-below (release f g) below name m =
      two-below f g (mentioned-below f) (mentioned-below g) below name m
  mentioned-below (weak f g) below name m =
      two-below f g (mentioned-below f) (mentioned-below g) below name m

  pub name-below : (f : Tree) → IsTrue (names_below n f) → (name : ℕ) → IsTrue (has_name f name)
      → name < n
  name-below f below name has = mentioned-below f below name (has-mentions f name has)

-- ---- a table that grows

module _ (m n : ℕ) (few : m ≤ n) where
  abbrev Grows : Tree → Type 0
  Grows f = IsTrue (names_below m f) → IsTrue (names_below n f)

  two-grow : (f g : Tree) → Grows f → Grows g → IsTrue (names_below m f && names_below m g)
      → IsTrue (names_below n f && names_below n g)
  two-grow f g one two below =
      let (left, right) = and_parts (names_below m f) (names_below m g) below in
      and_from (names_below n f) (names_below n g) (one left) (two right)

  pub names-grow : (f : Tree) → Grows f
  names-grow always below = refl
  names-grow never below = refl
  names-grow (atom a v) below =
      lt-ltb a n (let lt = (Decides-ltb a m).0 below in omega (arith, lt, few))
  names-grow (not f) below = names-grow f below
  names-grow (next f) below = names-grow f below
  names-grow (finally f) below = names-grow f below
  names-grow (globally f) below = names-grow f below
  names-grow (and f g) below = two-grow f g (names-grow f) (names-grow g) below
  names-grow (or f g) below = two-grow f g (names-grow f) (names-grow g) below
  names-grow (implies f g) below = two-grow f g (names-grow f) (names-grow g) below
  names-grow (iff f g) below = two-grow f g (names-grow f) (names-grow g) below
  names-grow (until f g) below = two-grow f g (names-grow f) (names-grow g) below
  names-grow (release f g) below = two-grow f g (names-grow f) (names-grow g) below
  names-grow (weak f g) below = two-grow f g (names-grow f) (names-grow g) below
