-- What the states that were met leave of facts.
use Rattle.std.specs.Prelude.{◌≡◌, ℕ, ◌*◌, ◌<◌, ◌^◌, ◌↔◌, Bool, true, false, List, [], ◌∷◌, ◌++◌, length, replicate, slice_index, Contains}
use Rattle.std.specs.List.{filter}
use Rattle.aig_net.specs.Nets.{Net}
use Rattle.hy_base.specs.Rows.{row}
use Rattle.cnf_frames.specs.declared.facts.Fact.{Fact}
use Rattle.cnf_frames.specs.declared.facts.Fact.TheVariants.{Zero, Same}
use Rattle.cnf_frames.specs.Facts.{AllIn, AreAmong, HoldsIn, IsIn, IsInductive, fact_at}
use Rattle.invar_find.specs.declared.seen.Seen.{Seen}
use Rattle.invar_find.specs.Classes.{AreBelow}
use Rattle.invar_find.specs.Parts.{AreThose, IsSublist}

-- The fact says neither that a latch is 0 nor that two are equal.
abbrev pub is_other : Fact → Bool
is_other (Zero j) = false
is_other (Same i j) = false
is_other f = true

abbrev pub others_of : List Fact → List Fact
others_of facts = filter is_other facts

-- it has n latches
pub record IsOf (n : ℕ) (seen : Seen) : Type 0 where
  pub few : n < 2 ^ 31
  pub ones : length seen.ones ≡ n
  pub classes : length seen.classes ≡ n
  pub below : AreBelow n seen.classes
  pub firsts : length seen.firsts ≡ 2 * n
  pub others : AllIn n seen.others
  pub alive : length seen.alive ≡ length seen.others

-- one of the other facts, which held in each state
abbrev pub IsAlive : Seen → Fact → Type 0
IsAlive seen f =
    (k : ℕ) × (k < length seen.others) × (fact_at seen.others k ≡ f) × (row seen.alive k ≡ true)

-- The fact is left.
abbrev pub Stands : Seen → Fact → Type 0
Stands seen (Zero j) = row seen.ones j ≡ false
Stands seen (Same i j) = slice_index seen.classes i ≡ slice_index seen.classes j
Stands seen f = IsAlive seen f

-- the same of a fact that stands at this place if it is one of the others
abbrev pub StandsAt : Seen → ℕ → Fact → Type 0
StandsAt seen place (Zero j) = row seen.ones j ≡ false
StandsAt seen place (Same i j) = slice_index seen.classes i ≡ slice_index seen.classes j
StandsAt seen place f = row seen.alive place ≡ true

-- All facts that are left hold where the latches have these values.
abbrev pub IsKnown : ℕ → Seen → (ℕ → Bool) → Type 0
IsKnown n seen state = (f : Fact) → IsIn n f → Stands seen f → HoldsIn state f

-- A fact was added: it is left, and so is what was.
pub record HasAdded (n : ℕ) (old new : Seen) (fact : Fact) : Type 0 where
  pub still : IsOf n new
  pub others : new.others ≡ old.others ++ others_of (fact ∷ [])
  pub added : Stands new fact
  pub kept : (f : Fact) → IsIn n f → Stands old f → Stands new f

-- A state was met: what is left is what was and holds in it.
pub record HasMet (n : ℕ) (old new : Seen) (state : ℕ → Bool) : Type 0 where
  pub still : IsOf n new
  pub others : new.others ≡ old.others
  pub stands : (f : Fact) → IsIn n f → Stands new f ↔ (Stands old f × HoldsIn state f)

abbrev pub AllStand : Seen → List Fact → Type 0
AllStand seen facts = (f : Fact) → Contains facts f → Stands seen f

-- No more facts are left than were, and each inductive list that was is.
pub record Spares (net : Net) (old new : Seen) : Type 0 where
  pub still : IsOf (length net.latches) new
  pub others : new.others ≡ old.others
  pub fewer : (f : Fact) → IsIn (length net.latches) f → Stands new f → Stands old f
  pub spared : (facts : List Fact) → IsInductive net facts →
      AllIn (length net.latches) facts → AllStand old facts → AllStand new facts

-- All latches may be 0, the first m may be equal, and there are no other facts.
pub record IsFresh (n m : ℕ) (seen : Seen) : Type 0 where
  pub of : IsOf n seen
  pub none : seen.others ≡ []
  pub zeros : (j : ℕ) → j < n → row seen.ones j ≡ false
  pub same : (i j : ℕ) → i < m → j < m →
      slice_index seen.classes i ≡ slice_index seen.classes j

-- ---- lists of facts

-- the values of the latches at the start of a safe net, by place
abbrev pub start_values : Net → ℕ → Bool
start_values net = row (replicate (length net.latches) false)

-- Of some of the facts behind the old ones those for which this holds were added.
abbrev pub AddsThose : (Fact → Type 0) → List Fact → List Fact → List Fact → Type 0
AddsThose P facts old new = (all : List Fact) → AreThose P all old → AreThose P (all ++ facts) new

-- What is left of facts that hold in a state: some of these, and each inductive list among these.
pub record AreLeft (net : Net) (facts : List Fact) (state : ℕ → Bool) (left : List Fact) : Type 0 where
  pub sublist : IsSublist left facts
  pub right : (f : Fact) → Contains left f → HoldsIn state f
  pub spared : (some : List Fact) → IsInductive net some → AreAmong some facts →
      ((f : Fact) → Contains some f → HoldsIn state f) → AreAmong some left
