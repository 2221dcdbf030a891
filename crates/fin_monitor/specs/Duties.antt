-- What is left of a body after joint letters. A duty is a set of members of the closure, each marked strong or weak,
-- that are to hold at the next position; a residual is a set of duties of which some one is to be met, and none has
-- another within it.
use Rattle.std.specs.Prelude.{◌≡◌, ◌↔◌, ℕ, zero, suc, ◌<◌, Bool, true, not, ◌&&◌, ◌||◌, cond, nat_eq, List, [], ◌∷◌, ◌++◌, length, map, filter, slice_index_or, refl}
use Rattle.std.specs.Bool.{beq}
use Rattle.std.specs.List.{Contains, list_any, list_all}
use Rattle.std.specs.Coded.{Coded, code_by, coded×, coded_ℕ}
use Rattle.std.specs.FinSet.{empty, insert, contains, union, is_subset, code}
use Rattle.hy_bits.specs.Sets.{NumberSet}
use Rattle.hy_formula.specs.Temporal.{Words}
use Rattle.ltl_closure.specs.Nodes.{Node, always, never, literal, and, or, next, weak_next, until, release, node_at}

-- the members that are to hold at the next position, which is to be there, and those that are to hold there if it is
-- there
pub record Duty : Type 0 where
  pub strong : NumberSet
  pub weak : NumberSet

-- a duty is kept as the pair of its sets
abbrev pub duty_code : Coded Duty
duty_code =
    code_by (NumberSet × NumberSet) (coded× (code coded_ℕ) (code coded_ℕ)) (λ d. (d.strong, d.weak))
    (λ p. record { strong = p.0; weak = p.1 }) (λ _. refl)

abbrev pub no_duty : Duty
no_duty = record { strong = empty; weak = empty }

abbrev pub strongly : ℕ → Duty
strongly k = record { strong = insert empty k; weak = empty }

abbrev pub weakly : ℕ → Duty
weakly k = record { strong = empty; weak = insert empty k }

abbrev pub both : Duty → Duty → Duty
both x y = record { strong = union x.strong y.strong; weak = union x.weak y.weak }

-- each union of one of the first and one of the second
abbrev pub joined : List Duty → List Duty → List Duty
joined [] ys = []
joined (x ∷ xs) ys = map (both x) ys ++ joined xs ys

-- the duties one of which member k leaves after a letter, by those of its parts
abbrev pub after_node : (ℕ → ℕ → Bool) → (ℕ → List Duty) → ℕ → Node → List Duty
after_node letter parts k always = no_duty ∷ []
after_node letter parts k never = []
after_node letter parts k (literal b name variable) = cond (beq (letter name variable) b) (no_duty ∷ []) []
after_node letter parts k (and g h) = joined (parts g) (parts h)
after_node letter parts k (or g h) = parts g ++ parts h
after_node letter parts k (next g) = strongly g ∷ []
after_node letter parts k (weak_next g) = weakly g ∷ []
after_node letter parts k (until g h) = parts h ++ joined (strongly k ∷ []) (parts g)
after_node letter parts k (release g h) = joined (parts h) (parts g) ++ joined (weakly k ∷ []) (parts h)

-- the same for each member below a number, from the least on
abbrev pub after_below : List Node → (ℕ → ℕ → Bool) → ℕ → ℕ → List Duty
after_below nodes letter zero f = []
after_below nodes letter (suc k) f =
    cond (nat_eq f k) (after_node letter (after_below nodes letter k) k (node_at nodes k)) (after_below nodes letter k f)

abbrev pub after : List Node → (ℕ → ℕ → Bool) → ℕ → List Duty
after nodes letter f = after_below nodes letter (length nodes) f

-- the unions that take one duty for each of the members below j
abbrev pub after_members : List Node → (ℕ → ℕ → Bool) → NumberSet → ℕ → List Duty
after_members nodes letter set zero = no_duty ∷ []
after_members nodes letter set (suc j) =
    cond (contains set j) (joined (after nodes letter j) (after_members nodes letter set j)) (after_members nodes letter set j)

abbrev pub after_duty : List Node → (ℕ → ℕ → Bool) → Duty → List Duty
after_duty nodes letter d =
    joined (after_members nodes letter d.strong (length nodes)) (after_members nodes letter d.weak (length nodes))

abbrev pub after_each : List Node → (ℕ → ℕ → Bool) → List Duty → List Duty
after_each nodes letter [] = []
after_each nodes letter (d ∷ ds) = after_duty nodes letter d ++ after_each nodes letter ds

-- the first is a subset of the second
abbrev pub within : Duty → Duty → Bool
within d e = is_subset d.strong e.strong && is_subset d.weak e.weak

-- no duty of the list lies within d, but d itself
abbrev pub is_least : List Duty → Duty → Bool
is_least ds d = list_all (λ (e : Duty). not (within e d) || within d e) ds

-- the duties of the list that have no other one within them
abbrev pub minimal : List Duty → List Duty
minimal ds = filter (is_least ds) ds

abbrev pub residual_step : List Node → (ℕ → ℕ → Bool) → List Duty → List Duty
residual_step nodes letter residual = minimal (after_each nodes letter residual)

-- the residual after the first letters of the words
abbrev pub residual_after : List Node → ℕ → Words → ℕ → List Duty
residual_after nodes root words zero = strongly root ∷ []
residual_after nodes root words (suc i) =
    residual_step nodes (λ name variable. words name variable i) (residual_after nodes root words i)

-- some duty has no strong obligation
abbrev pub accepts : List Duty → Bool
accepts residual = list_any (λ (d : Duty). is_subset d.strong empty) residual

-- Residuals are sets of duties.
abbrev pub Same : List Duty → List Duty → Type 0
Same r s = (d : Duty) → Contains r d ↔ Contains s d

-- the residuals that joint letters lead to, as sets
pub data IsReached : List Node → ℕ → List Duty → Type 0 where
  first : {nodes : List Node} {root : ℕ} {r : List Duty} → Same (strongly root ∷ []) r → IsReached nodes root r
  later : {nodes : List Node} {root : ℕ} {s : List Duty} → (letter : ℕ → ℕ → Bool) (r : List Duty)
      → IsReached nodes root r → Same (residual_step nodes letter r) s → IsReached nodes root s

abbrev pub residual_at : List (List Duty) → ℕ → List Duty
residual_at list q = slice_index_or list q []

-- Residuals that are reached, each once.
pub record SomeReached (nodes : List Node) (root : ℕ) (list : List (List Duty)) : Type 0 where
  pub only : (q : ℕ) → q < length list → IsReached nodes root (residual_at list q)
  pub apart : (p q : ℕ) → p < length list → q < length list → Same (residual_at list p) (residual_at list q) → p ≡ q

-- All residuals that are reached, each once.
pub record AreReached (nodes : List Node) (root : ℕ) (list : List (List Duty)) : Type 0 where
  pub some : SomeReached nodes root list
  pub all : (r : List Duty) → IsReached nodes root r → (q : ℕ) × (q < length list) × Same r (residual_at list q)

-- Each duty of the second has one of the first within it.
abbrev pub Covers : List Duty → List Duty → Type 0
Covers xs ys = (d : Duty) → Contains ys d → (e : Duty) × Contains xs e × (within e d ≡ true)

abbrev pub AreAlike : List Duty → List Duty → Type 0
AreAlike xs ys = Covers xs ys × Covers ys xs
