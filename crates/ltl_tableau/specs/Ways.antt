-- The branches of a set, where what is held now and what is to be held is one set, and what follows from it before
-- any choice.
use Rattle.std.specs.Prelude.{◌≡◌, ℕ, zero, suc, ◌<◌, ◌≤◌, Bool, true, false, not, ◌&&◌, ◌||◌, ◌⊎◌, cond, List, [], ◌∷◌, length, Option, Some, None, slice_index, slice_index_or, is_none}
use Rattle.std.specs.FinSet.{insert, contains}
use Rattle.ltl_closure.specs.Nodes.{Node, always, never, literal, and, or, until, release, node_at}
use Rattle.ltl_closure.specs.Numbered.{IsNumberOf}
use Rattle.ltl_tableau.specs.Branches.{Members, Has, Branch, expand}

-- The branches where the members to do are those of `held` below a number, the greatest first.
abbrev pub ways : List Node → ℕ → Members → Members → List Branch
ways nodes zero held later = record { now = held; later = later } ∷ []
ways nodes (suc f) held later =
    cond (contains held f)
    (expand nodes held f (ways nodes f) held later (node_at nodes f))
    (ways nodes f held later)

pub record Within (small big : Members) : Type 0 where
  pub has : (k : ℕ) → Has small k → Has big k

-- No branch has member k beside what is held.
pub record Dies (nodes : List Node) (held : Members) (k : ℕ) : Type 0 where
  pub none : (n : ℕ) (more later : Members) → k < n → Within held more → Has more k → ways nodes n more later ≡ []

pub record AreDead (nodes : List Node) (held dead : Members) : Type 0 where
  pub each : (k : ℕ) → Has dead k → Dies nodes held k

-- With member x too the branches are the same.
pub record Forces (nodes : List Node) (n : ℕ) (held : Members) (x : ℕ) : Type 0 where
  pub same : (more later : Members) → Within held more → ways nodes n more later ≡ ways nodes n (insert more x) later

abbrev pub ForcesSome : List Node → ℕ → Members → Option ℕ → Type 0
ForcesSome nodes n held None = Unit {0}
ForcesSome nodes n held (Some x) = Forces nodes n held x

abbrev pub with_some : Members → Option ℕ → Members
with_some s None = s
with_some s (Some x) = insert s x

abbrev pub has_some : Members → Option ℕ → Bool
has_some s None = false
has_some s (Some x) = contains s x

abbrev pub IsSomeBelow : ℕ → Option ℕ → Type 0
IsSomeBelow n None = Unit {0}
IsSomeBelow n (Some x) = x < n

-- The new set has no number but k that the old one has not.
pub record IsOneMore (old : Members) (k : ℕ) (new : Members) : Type 0 where
  pub only : (q : ℕ) → Has new q → Has old q ⊎ (q ≡ k)

-- ---- opposites

-- the number is that of the opposite of the node, where that is a literal
abbrev pub IsOpposite : List Node → Node → Option ℕ → Type 0
IsOpposite nodes (literal b name variable) o = IsNumberOf nodes (literal (not b) name variable) o
IsOpposite nodes _ o = Unit {0}

abbrev pub opposite_at : List (Option ℕ) → ℕ → Option ℕ
opposite_at list k = slice_index_or list k None

pub record AreOpposites (nodes : List Node) (list : List (Option ℕ)) : Type 0 where
  pub count : length list ≡ length nodes
  pub each : (k : ℕ) → k < length nodes → IsOpposite nodes (node_at nodes k) (opposite_at list k)
  pub within : (k : ℕ) → IsSomeBelow (length nodes) (opposite_at list k)

-- ---- members that need no step

-- Where the set is held the branches are the same without a step at member k.
pub record IsPlain (nodes : List Node) (held : Members) (k : ℕ) : Type 0 where
  pub same : (more later : Members) → Within held more → ways nodes (suc k) more later ≡ ways nodes k more later

-- No member from m on and below b needs a step.
pub record Skip (nodes : List Node) (held : Members) (b m : ℕ) : Type 0 where
  pub lower : m ≤ b
  pub plain : (k : ℕ) → m ≤ k → k < b → IsPlain nodes held k

pub record AreSkips (nodes : List Node) (held : Members) (to : List ℕ) : Type 0 where
  pub count : length to ≡ suc (length nodes)
  pub each : (b : ℕ) → b ≤ length nodes → Skip nodes held b (slice_index to b)

-- whether the node says nothing but what is held
abbrev pub is_plain : Members → Option ℕ → Node → Bool
is_plain held opposite always = true
is_plain held opposite (literal b name variable) = is_none opposite
is_plain held opposite (and g h) = contains held g && contains held h
is_plain held opposite _ = false

-- ---- what a node says, by the members that are held and those that are dead

-- what is held, and the dead operands, rule the node out
abbrev pub fails : Members → Members → Option ℕ → Node → Bool
fails held dead opposite never = true
fails held dead opposite (literal b name variable) = has_some held opposite
fails held dead opposite (and g h) = contains dead g || contains dead h
fails held dead opposite (or g h) = contains dead g && contains dead h
fails held dead opposite (until g h) = contains dead g && contains dead h
fails held dead opposite (release g h) = contains dead h
fails held dead opposite _ = false

abbrev pub some_if : Bool → ℕ → Option ℕ
some_if b x = cond b (Some x) None

-- operands that each way to choose has
abbrev pub first_forced : Members → Node → Option ℕ
first_forced dead (and g h) = Some g
first_forced dead (or g h) = some_if (contains dead g) h
first_forced dead (until g h) = some_if (contains dead g) h
first_forced dead (release g h) = Some h
first_forced dead _ = None

abbrev pub second_forced : Members → Node → Option ℕ
second_forced dead (and g h) = Some h
second_forced dead (or g h) = some_if (contains dead h) g
second_forced dead (until g h) = some_if (contains dead h) g
second_forced dead _ = None
