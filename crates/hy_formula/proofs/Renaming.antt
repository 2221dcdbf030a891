-- A renamed tree says of words what the tree says of the words with these variables.
use Rattle.std.proofs.Common.{◌≡◌, ℕ, ◌+◌, ◌⊎◌, ◌↔◌, refl, sym, ap, subst, ap₂, ◌<◌, true, IsTrue}
use Rattle.std.proofs.lemmas.Bool.{ltb-true, and_parts}
use Rattle.hy_formula.specs.Trees.{Tree, always, never, atom, not, next, finally, globally, and, or, implies, iff, until, release, weak, vars_below}
use Rattle.hy_formula.specs.Temporal.{Span, Within, Words, IsUntil, IsRelease, SatisfiesAt}
use Rattle.hy_formula.specs.Renamed.{renamed, with_variables}

module _ (span : Span) (words : Words) (map : ℕ → ℕ) where
  pub renamed-same : (f : Tree) → SatisfiesAt span words (renamed map f) ≡ SatisfiesAt span (with_variables map words) f
  renamed-same always = refl
  renamed-same never = refl
  renamed-same (atom n v) = refl
  renamed-same (not f) = ap (λ (P : ℕ → Type 0). λ (i : ℕ). ¬ P i) (renamed-same f)
  renamed-same (next f) = ap (λ (P : ℕ → Type 0). λ (i : ℕ). Within span (i + 1) × P (i + 1)) (renamed-same f)
  renamed-same (finally f) = ap (IsUntil span (λ _. Unit {0})) (renamed-same f)
  renamed-same (globally f) = ap (IsRelease span (λ _. ⊥)) (renamed-same f)
  renamed-same (and f g) = ap₂ (λ (P Q : ℕ → Type 0). λ (i : ℕ). P i × Q i) (renamed-same f) (renamed-same g)
  renamed-same (or f g) = ap₂ (λ (P Q : ℕ → Type 0). λ (i : ℕ). P i ⊎ Q i) (renamed-same f) (renamed-same g)
  renamed-same (implies f g) = ap₂ (λ (P Q : ℕ → Type 0). λ (i : ℕ). P i → Q i) (renamed-same f) (renamed-same g)
  renamed-same (iff f g) = ap₂ (λ (P Q : ℕ → Type 0). λ (i : ℕ). (P i → Q i) × (Q i → P i)) (renamed-same f) (renamed-same g)
  renamed-same (until f g) = ap₂ (IsUntil span) (renamed-same f) (renamed-same g)
  renamed-same (release f g) = ap₂ (IsRelease span) (renamed-same f) (renamed-same g)
  renamed-same (weak f g) = ap₂ (λ (P Q : ℕ → Type 0). IsRelease span Q (λ k. P k ⊎ Q k)) (renamed-same f) (renamed-same g)

  pub renamed-right : (f : Tree) (i : ℕ) → SatisfiesAt span words (renamed map f) i ↔ SatisfiesAt span (with_variables map words) f i
  renamed-right f i = let P = λ (F : ℕ → Type 0). F i in (λ h. subst P (renamed-same f) h, λ h. subst P (sym (renamed-same f)) h)

-- ---- the tree itself, by its variables

-- Variables below n that are renamed alike: so is the tree.
module _ (n : ℕ) (g h : ℕ → ℕ) (alike : (v : ℕ) → v < n → g v ≡ h v) where
  pub renamed-alike : (f : Tree) → IsTrue (vars_below n f) → renamed g f ≡ renamed h f
  renamed-alike always b = refl
  renamed-alike never b = refl
  renamed-alike (atom a v) b = ap (atom a) (alike v (ltb-true v n b))
  renamed-alike (not f) b = ap not (renamed-alike f b)
  renamed-alike (next f) b = ap next (renamed-alike f b)
  renamed-alike (finally f) b = ap finally (renamed-alike f b)
  renamed-alike (globally f) b = ap globally (renamed-alike f b)
  renamed-alike (and f k) b = let (x, y) = and_parts _ _ b in ap₂ and (renamed-alike f x) (renamed-alike k y)
  renamed-alike (or f k) b = let (x, y) = and_parts _ _ b in ap₂ or (renamed-alike f x) (renamed-alike k y)
  renamed-alike (implies f k) b = let (x, y) = and_parts _ _ b in ap₂ implies (renamed-alike f x) (renamed-alike k y)
  renamed-alike (iff f k) b = let (x, y) = and_parts _ _ b in ap₂ iff (renamed-alike f x) (renamed-alike k y)
  renamed-alike (until f k) b = let (x, y) = and_parts _ _ b in ap₂ until (renamed-alike f x) (renamed-alike k y)
  renamed-alike (release f k) b = let (x, y) = and_parts _ _ b in ap₂ release (renamed-alike f x) (renamed-alike k y)
  renamed-alike (weak f k) b = let (x, y) = and_parts _ _ b in ap₂ weak (renamed-alike f x) (renamed-alike k y)

-- Variables below n that are kept: so is the tree.
module _ (map : ℕ → ℕ) (n : ℕ) (same : (v : ℕ) → v < n → map v ≡ v) where
  pub renamed-kept : (f : Tree) → vars_below n f ≡ true → renamed map f ≡ f
  renamed-kept always b = refl
  renamed-kept never b = refl
  renamed-kept (atom a v) b = ap (atom a) (same v (ltb-true v n b))
  renamed-kept (not f) b = ap not (renamed-kept f b)
  renamed-kept (next f) b = ap next (renamed-kept f b)
  renamed-kept (finally f) b = ap finally (renamed-kept f b)
  renamed-kept (globally f) b = ap globally (renamed-kept f b)
  renamed-kept (and f g) b = let (x, y) = and_parts (vars_below n f) (vars_below n g) b in
      ap₂ and (renamed-kept f x) (renamed-kept g y)
  renamed-kept (or f g) b = let (x, y) = and_parts (vars_below n f) (vars_below n g) b in
      ap₂ or (renamed-kept f x) (renamed-kept g y)
  renamed-kept (implies f g) b = let (x, y) = and_parts (vars_below n f) (vars_below n g) b in
      ap₂ implies (renamed-kept f x) (renamed-kept g y)
  renamed-kept (iff f g) b = let (x, y) = and_parts (vars_below n f) (vars_below n g) b in
      ap₂ iff (renamed-kept f x) (renamed-kept g y)
  renamed-kept (until f g) b = let (x, y) = and_parts (vars_below n f) (vars_below n g) b in
      ap₂ until (renamed-kept f x) (renamed-kept g y)
  renamed-kept (release f g) b = let (x, y) = and_parts (vars_below n f) (vars_below n g) b in
      ap₂ release (renamed-kept f x) (renamed-kept g y)
  renamed-kept (weak f g) b = let (x, y) = and_parts (vars_below n f) (vars_below n g) b in
      ap₂ weak (renamed-kept f x) (renamed-kept g y)
