-- The children of a node of a trie: each has its letter, and what is left behind it of the traces
-- that pass it.
use Rattle.std.specs.Prelude.{◌≡◌, ◌≢◌, ◌<◌, cond, List, [], ◌∷◌, ◌++◌, length, map}
use Rattle.hy_bits.specs.Letter.{Letter}
use Rattle.hy_formula.specs.Quantifiers.{Each}
use Rattle.trace_trie.specs.Numbered.{Numbered, same_letter, led_by}

abbrev pub Kid : Type 0
Kid = Letter × List Numbered

abbrev pub kid_letters : List Kid → List Letter
kid_letters kids = map (λ (k : Kid). k.0) kids

-- the traces that pass a child, each with the child's letter first
abbrev pub spread : List Kid → List Numbered
spread [] = []
spread (k ∷ ks) = led_by k.0 k.1 ++ spread ks

-- Letters differ, and some trace passes each child.
abbrev pub AreKids : List Kid → Type 0
AreKids [] = Unit {0}
AreKids (k ∷ ks) = (0 < length k.1) × Each (λ (other : Kid). other.0 ≢ k.0) ks × AreKids ks

-- what is left behind a letter
abbrev pub behind : Letter → List Kid → List Numbered
behind a [] = []
behind a (k ∷ ks) = cond (same_letter a k.0) k.1 (behind a ks)

-- the child of a letter, where some trace passes it
abbrev pub kid_of : Letter → List Numbered → List Kid
kid_of a [] = []
kid_of a (p ∷ ps) = (a, p ∷ ps) ∷ []

-- Only the child of the letter is another one.
pub record IsSwapped (a : Letter) (held : List Numbered) (old new : List Kid) : Type 0 where
  pub before : List Kid
  pub after : List Kid
  pub apart_before : Each (λ (k : Kid). k.0 ≢ a) before
  pub apart_after : Each (λ (k : Kid). k.0 ≢ a) after
  pub old_is : old ≡ before ++ kid_of a (behind a old) ++ after
  pub new_is : new ≡ before ++ kid_of a held ++ after

-- The second list has one pair more.
pub record IsMore (p : Numbered) (old new : List Numbered) : Type 0 where
  pub before : List Numbered
  pub after : List Numbered
  pub old_is : old ≡ before ++ after
  pub new_is : new ≡ before ++ p ∷ after
