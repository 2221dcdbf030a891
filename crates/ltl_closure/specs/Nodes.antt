-- A closure: normal forms by numbers, each after its parts.
use Rattle.std.specs.Prelude.{◌≡◌, ℕ, suc, ◌<◌, ◌≤◌, ◌⊎◌, IsTrue, Bool, List, length, slice_index_or}
use Rattle.hy_formula.specs.Temporal.{Words}
use Rattle.hy_formula.specs.Normals as normal
use Rattle.hy_formula.specs.Normals.{Normal}

pub data Node : Type 0 where
  always : Node
  never : Node
  literal : Bool → ℕ → ℕ → Node
  and : ℕ → ℕ → Node
  or : ℕ → ℕ → Node
  next : ℕ → Node
  weak_next : ℕ → Node
  until : ℕ → ℕ → Node
  release : ℕ → ℕ → Node

abbrev pub node_at : List Node → ℕ → Node
node_at nodes k = slice_index_or nodes k always

-- the normal form of a node, by those of the members
abbrev pub form_of : (ℕ → Normal) → Node → Normal
form_of form always = normal.always
form_of form never = normal.never
form_of form (literal b name variable) = normal.literal b name variable
form_of form (and g h) = normal.and (form g) (form h)
form_of form (or g h) = normal.or (form g) (form h)
form_of form (next g) = normal.next (form g)
form_of form (weak_next g) = normal.weak_next (form g)
form_of form (until g h) = normal.until (form g) (form h)
form_of form (release g h) = normal.release (form g) (form h)

-- The parts of a node are below a number.
abbrev pub PartsBelow : ℕ → Node → Type 0
PartsBelow k (and g h) = (g < k) × (h < k)
PartsBelow k (or g h) = (g < k) × (h < k)
PartsBelow k (next g) = g < k
PartsBelow k (weak_next g) = g < k
PartsBelow k (until g h) = (g < k) × (h < k)
PartsBelow k (release g h) = (g < k) × (h < k)
PartsBelow k _ = Unit {0}

-- The nodes are those of the forms, each after its parts.
pub record Numbers (nodes : List Node) (form : ℕ → Normal) : Type 0 where
  pub parts : (k : ℕ) → k < length nodes → PartsBelow k (node_at nodes k)
  pub forms : (k : ℕ) → k < length nodes → form k ≡ form_of form (node_at nodes k)

-- What a node says at a position, where T are the members that hold there, N those that hold at the next
-- position, and `letter` the letters.
abbrev pub Local : (T N : ℕ → Type 0) (letter : ℕ → ℕ → Bool) → ℕ → Node → Type 0
Local T N letter k always = Unit {0}
Local T N letter k never = ⊥
Local T N letter k (literal b name variable) = letter name variable ≡ b
Local T N letter k (and g h) = T g × T h
Local T N letter k (or g h) = T g ⊎ T h
Local T N letter k (next g) = N g
Local T N letter k (weak_next g) = N g
Local T N letter k (until g h) = T h ⊎ (T g × N k)
Local T N letter k (release g h) = T h × (T g ⊎ N k)

-- Marks at members and positions keep the rules of their nodes, and no until is marked for ever short of its end.
pub record AreMarks (nodes : List Node) (words : Words) (marks : ℕ → ℕ → Bool) : Type 0 where
  pub local : (k i : ℕ) → k < length nodes → IsTrue (marks k i) → Local (λ q. IsTrue (marks q i)) (λ q. IsTrue (marks q (suc i))) (λ n v. words n v i) k (node_at nodes k)
  pub ends : (k g h i : ℕ) → node_at nodes k ≡ until g h → (j : ℕ) × (i ≤ j) × (IsTrue (marks k j) → IsTrue (marks h j))
