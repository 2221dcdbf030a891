-- The branches of a set of members, and walks and runs of branches.
use Rattle.std.specs.Prelude.{◌≡◌, ℕ, zero, suc, ◌≤◌, Bool, true, false, not, ◌&&◌, ◌||◌, cond, nat_eq, List, [], ◌∷◌, ◌++◌, length, IsTrue, refl}
use Rattle.std.specs.Bool.{beq}
use Rattle.std.specs.List.{Contains, list_any}
use Rattle.std.specs.Ordering.{nat_cmp}
use Rattle.std.specs.Coded.{Coded, code_by, coded×, coded_ℕ}
use Rattle.std.specs.FinSet.{FinSet, empty, insert, contains, is_subset, code}
use Rattle.hy_formula.specs.Temporal.{Words}
use Rattle.ltl_closure.specs.Nodes.{Node, always, never, literal, and, or, next, weak_next, until, release, node_at}

-- a set of members
abbrev pub Members : Type 0
Members = FinSet nat_cmp

abbrev pub Has : Members → ℕ → Type 0
Has set k = IsTrue (contains set k)

-- what is to hold now, and what at the next position
pub record Branch : Type 0 where
  pub now : Members
  pub later : Members

-- a branch is kept as the pair of its sets
abbrev pub branch_code : Coded Branch
branch_code =
    code_by (Members × Members) (coded× (code coded_ℕ) (code coded_ℕ)) (λ b. (b.now, b.later))
    (λ p. record { now = p.0; later = p.1 }) (λ _. refl)

-- the node is this literal
abbrev pub is_literal : Bool → ℕ → ℕ → Node → Bool
is_literal b name variable (literal c n v) = beq c b && (nat_eq n name && nat_eq v variable)
is_literal b name variable _ = false

-- some member below k is this literal
abbrev pub has_literal : List Node → Members → Bool → ℕ → ℕ → ℕ → Bool
has_literal nodes now b name variable zero = false
has_literal nodes now b name variable (suc k) =
    (contains now k && is_literal b name variable (node_at nodes k)) || has_literal nodes now b name variable k

-- What is done with member f, whose node is given; `rest` goes on with what is to do and what is for later.
abbrev pub expand : List Node → Members → ℕ → (Members → Members → List Branch) → Members → Members → Node → List Branch
expand nodes now f rest todo later always = rest todo later
expand nodes now f rest todo later never = []
expand nodes now f rest todo later (literal b name variable) =
    cond (has_literal nodes now (not b) name variable (length nodes)) [] (rest todo later)
expand nodes now f rest todo later (and g h) = rest (insert (insert todo g) h) later
expand nodes now f rest todo later (or g h) = rest (insert todo g) later ++ rest (insert todo h) later
expand nodes now f rest todo later (next g) = rest todo (insert later g)
expand nodes now f rest todo later (weak_next g) = rest todo (insert later g)
expand nodes now f rest todo later (until g h) = rest (insert todo h) later ++ rest (insert todo g) (insert later f)
expand nodes now f rest todo later (release g h) = rest (insert (insert todo g) h) later ++ rest (insert todo h) (insert later f)

-- The branches where the members to do are those of `todo` below a number, the greatest first.
abbrev pub branches_below : List Node → ℕ → Members → Members → Members → List Branch
branches_below nodes zero todo now later = record { now = now; later = later } ∷ []
branches_below nodes (suc f) todo now later =
    cond (contains todo f)
    (expand nodes now f (λ t l. branches_below nodes f t (insert now f) l) todo later (node_at nodes f))
    (branches_below nodes f todo now later)

abbrev pub same_branch : Branch → Branch → Bool
same_branch a b =
    (is_subset a.now b.now && is_subset b.now a.now) && (is_subset a.later b.later && is_subset b.later a.later)

-- the branch last, where it is new
abbrev pub with_branch : List Branch → Branch → List Branch
with_branch list branch = cond (list_any (same_branch branch) list) list (list ++ branch ∷ [])

abbrev pub with_all : List Branch → List Branch → List Branch
with_all list [] = list
with_all list (b ∷ bs) = with_all (with_branch list b) bs

-- the branches of a set, each once, at its first place
abbrev pub branches : List Node → Members → List Branch
branches nodes set = with_all [] (branches_below nodes (length nodes) set empty empty)

abbrev pub IsBranch : List Node → Members → Branch → Type 0
IsBranch nodes set branch = Contains (branches nodes set) branch

abbrev pub postponed_by : Members → ℕ → Node → Bool
postponed_by now k (until g h) = contains now k && not (contains now h)
postponed_by now k _ = false

-- whether member k is an until that the branch postpones
abbrev pub postpones : List Node → Branch → ℕ → Bool
postpones nodes branch k = postponed_by branch.now k (node_at nodes k)

-- Each branch is one of what the one before left for later, and the first of the roots.
pub record IsRun (nodes : List Node) (roots : Members) (run : ℕ → Branch) : Type 0 where
  pub starts : IsBranch nodes roots (run 0)
  pub goes : (i : ℕ) → IsBranch nodes ((run i).later) (run (suc i))

-- No until is postponed for ever.
abbrev pub IsFair : List Node → (ℕ → Branch) → Type 0
IsFair nodes run = (k i : ℕ) → (j : ℕ) × (i ≤ j) × (postpones nodes (run j) k ≡ false)

-- The words of a run: the names whose literals are in its branches.
abbrev pub words_of : List Node → (ℕ → Branch) → Words
words_of nodes run name variable i = has_literal nodes (run i).now true name variable (length nodes)
