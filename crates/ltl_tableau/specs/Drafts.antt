-- Branches that are made step by step.
use Rattle.std.specs.Prelude.{◌≡◌, ℕ, suc, ◌<◌, ◌≤◌, Bool, true, false, cond, List, [], ◌++◌, Option, Some, None, length}
use Rattle.std.specs.FinSet.{empty, insert}
use Rattle.ltl_closure.specs.Nodes.{Node}
use Rattle.ltl_tableau.specs.declared.settle.Work.{Work}
use Rattle.ltl_tableau.specs.declared.settle.Draft.{Draft}
use Rattle.ltl_tableau.specs.declared.steps.Side.{Side}
use Rattle.ltl_tableau.specs.declared.steps.Step.{Step}
use Rattle.ltl_tableau.specs.declared.steps.Step.TheVariants.{Ends, Goes, Splits}
use Rattle.ltl_tableau.specs.Branches.{Members, Branch, branches_below}
use Rattle.ltl_tableau.specs.Ways.{ways, Within, AreDead}

-- the branches that the work may become
abbrev pub ways_of : {w : ℕ} → List Node → Work w → List Branch
ways_of nodes work = ways nodes work.below work.held work.next

abbrev pub holding : {w : ℕ} → Draft w → Members → Draft w
holding draft held = record { work = record draft.work { held = held }; dead = draft.dead }

-- The new draft has what follows from the old one, and the same branches come from both.
pub record Settles {w : ℕ} (nodes : List Node) (old new : Draft w) : Type 0 where
  pub below : new.work.below ≡ old.work.below
  pub next : new.work.next ≡ old.work.next
  pub more : Within old.work.held new.work.held
  pub same : (later : Members) → ways nodes old.work.below old.work.held later ≡ ways nodes old.work.below new.work.held later
  pub dead : AreDead nodes new.work.held new.dead

-- No branch comes from what the draft has.
pub record HasNone {w : ℕ} (nodes : List Node) (draft : Draft w) : Type 0 where
  pub none : (later : Members) → ways nodes draft.work.below draft.work.held later ≡ []

abbrev pub Settled : {w : ℕ} → List Node → Draft w → Draft w → Bool → Type 0
Settled nodes old new true = Settles nodes old new
Settled nodes old new false = HasNone nodes old

-- ---- choices

-- what is held, and what is for later, by one way to choose
abbrev pub side_held : {w : ℕ} → Work w → Side → Members
side_held work side = insert (insert work.held side.first) side.second

abbrev pub side_next : {w : ℕ} → Work w → Side → Members
side_next work side = cond side.postpones (insert work.next work.below) work.next

abbrev pub side_work : {w : ℕ} → Work w → Side → Work w
side_work work side = record { below = work.below; held = side_held work side; next = side_next work side }

abbrev pub side_ways : {w : ℕ} → List Node → Work w → Side → List Branch
side_ways nodes work side = ways_of nodes (side_work work side)

abbrev pub SideBelow : ℕ → Side → Type 0
SideBelow n side = (side.first < n) × (side.second < n)

-- the branches that come from a draft, where there is one
abbrev pub some_ways : {w : ℕ} → List Node → Option (Draft w) → List Branch
some_ways nodes None = []
some_ways nodes (Some draft) = ways_of nodes draft.work

abbrev pub held_by : {w : ℕ} → Option (Draft w) → Members
held_by None = empty
held_by (Some draft) = draft.work.held

-- What is to do of the draft stands below a number, it holds the set, and no branch of it has a dead member.
abbrev pub IsReady : {w : ℕ} → List Node → ℕ → Members → Option (Draft w) → Type 0
IsReady nodes n base None = Unit {0}
IsReady nodes n base (Some draft) = (draft.work.below ≤ n) × AreDead nodes draft.work.held draft.dead × Within base draft.work.held

-- What becomes of the draft by this way to choose.
pub record Chosen {w : ℕ} (nodes : List Node) (base : Members) (draft : Draft w) (side : Side) (new : Option (Draft w)) : Type 0 where
  pub same : some_ways nodes new ≡ side_ways nodes draft.work side
  pub ready : IsReady nodes draft.work.below base new

-- ---- steps

-- One step further the same branches come from the draft.
pub record Goes_on {w : ℕ} (nodes : List Node) (old new : Draft w) : Type 0 where
  pub below : new.work.below < old.work.below
  pub same : ways_of nodes old.work ≡ ways_of nodes new.work
  pub dead : AreDead nodes new.work.held new.dead
  pub more : Within old.work.held new.work.held

-- The greatest member that is to do asks for a choice.
pub record IsChoice {w : ℕ} (nodes : List Node) (old new : Draft w) (first second : Side) : Type 0 where
  pub below : new.work.below < old.work.below
  pub same : ways_of nodes old.work ≡ ways nodes (suc new.work.below) new.work.held new.work.next
  pub both : ways nodes (suc new.work.below) new.work.held new.work.next ≡ side_ways nodes new.work first ++ side_ways nodes new.work second
  pub first_below : SideBelow new.work.below first
  pub second_below : SideBelow new.work.below second
  pub dead : AreDead nodes new.work.held new.dead
  pub more : Within old.work.held new.work.held

abbrev pub IsStep : {w : ℕ} → List Node → Draft w → Draft w → Step → Type 0
IsStep nodes old new Ends = ways_of nodes old.work ≡ []
IsStep nodes old new Goes = Goes_on nodes old new
IsStep nodes old new (Splits first second) = IsChoice nodes old new first second

-- Nothing is left to do.
pub record IsDone {w : ℕ} (nodes : List Node) (old new : Draft w) : Type 0 where
  pub below : new.work.below ≡ 0
  pub same : ways_of nodes old.work ≡ ways_of nodes new.work

abbrev pub Runs : {w : ℕ} → List Node → Draft w → Draft w → Step → Type 0
Runs nodes old new Ends = ways_of nodes old.work ≡ []
Runs nodes old new Goes = IsDone nodes old new
Runs nodes old new (Splits first second) = IsChoice nodes old new first second

-- what a choice at one member becomes, where one way may be dead
pub record Takes {w : ℕ} (nodes : List Node) (old new : Draft w) (first second : Side) : Type 0 where
  pub below : new.work.below ≡ old.work.below
  pub same : side_ways nodes old.work first ++ side_ways nodes old.work second ≡ ways_of nodes new.work
  pub dead : AreDead nodes new.work.held new.dead
  pub more : Within old.work.held new.work.held

abbrev pub Chooses : {w : ℕ} → List Node → Draft w → Draft w → Side → Side → Step → Type 0
Chooses nodes old new first second Ends = side_ways nodes old.work first ++ side_ways nodes old.work second ≡ []
Chooses nodes old new first second Goes = Takes nodes old new first second
Chooses nodes old new first second (Splits one other) = (new ≡ old) × (one ≡ first) × (other ≡ second)

-- the draft of a set, from the beginning
pub record Begins {w : ℕ} (nodes : List Node) (set : Members) (start : Option (Draft w)) : Type 0 where
  pub ready : IsReady nodes (length nodes) (held_by start) start
  pub same : some_ways nodes start ≡ branches_below nodes (length nodes) set empty empty
