-- What the children of a node are seen as, and what a node is.
use Rattle.std.specs.Prelude.{◌≡◌, ℕ, ◌+◌, ◌^◌, ◌<◌, ◌≤◌, true, false, List, [], ◌∷◌, ◌++◌, length, drop}
use Rattle.std.specs.FinSet.{contains}
use Rattle.hy_bits.specs.Letter.{Letter}
use Rattle.hy_formula.specs.Quantifiers.{Each}
use Rattle.trace_trie.specs.Numbered.{Numbered, ended}
use Rattle.trace_trie.specs.Kids.{Kid, AreKids, spread}
use Rattle.trace_trie.specs.declared.forest.Branch.{Branch}
use Rattle.trace_trie.specs.declared.forest.Branch.TheVariants.{Bare, Child, Tail, Fork}

-- what is left of the traces that pass a node: those that end here, and those that go on to a child
abbrev pub passing : List Numbered → List Kid → List Numbered
passing ends kids = ended ends ++ spread kids

-- the end of a trace that passes alone, where nothing is left of it
abbrev pub ends_alone : ℕ → List Letter → List Numbered
ends_alone n [] = (n, []) ∷ []
ends_alone n (a ∷ t) = []

-- and its child, where it goes on
abbrev pub kids_alone : ℕ → List Letter → List Kid
kids_alone n [] = []
kids_alone n (a ∷ t) = (a, (n, t) ∷ []) ∷ []

-- One trace alone passes, from a place on.
abbrev pub IsAlone : ℕ → List Letter → ℕ → List Numbered → Type 0
IsAlone n t at rests = (at ≤ length t) × (rests ≡ (n, drop at t) ∷ [])

-- the children in their order
abbrev pub kids_of : Branch → List Kid
kids_of Bare = []
kids_of (Child a ends children) = (a, passing ends children.value) ∷ []
kids_of (Tail n t at) = kids_alone n (drop at t.value)
kids_of (Fork name count l r) = l.value ++ r.value

-- The letters of the first part of a fork lack a name, and those of the second have it; the count
-- leaves room for one child more. A tail is not past its trace.
abbrev pub IsForked : Branch → Type 0
IsForked Bare = Unit {0}
IsForked (Child a ends children) = Unit {0}
IsForked (Tail n t at) = at < length t.value
IsForked (Fork name count l r) =
    (name < 64) × (0 < length l.value) × (0 < length r.value)
    × (count ≡ length (l.value ++ r.value))
    × Each (λ (k : Kid). contains k.0 name ≡ false) l.value
    × Each (λ (k : Kid). contains k.0 name ≡ true) r.value
    × (count + 1 < 2 ^ 64)

pub record IsForest (tree : Branch) : Type 0 where
  pub forked : IsForked tree
  pub kids : AreKids (kids_of tree)
