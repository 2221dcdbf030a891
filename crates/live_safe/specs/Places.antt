-- A safe net by what its making knows: how much the net has, and what stands for its variables.
use Rattle.std.specs.Prelude.{◌≡◌, ℕ, suc, ◌+◌, ◌-◌, ◌*◌, ◌/◌, ◌^◌, ◌<◌, ◌≤◌, Bool, List, [], ◌∷◌, ◌++◌, cond, nat_lt, length}
use Rattle.aig_net.specs.declared.parts.And.{And}
use Rattle.aig_net.specs.declared.parts.Reset.{Reset}
use Rattle.aig_net.specs.declared.maker.Gates.{Gates}
use Rattle.aig_net.specs.Nets.{Net, under, literal_at, reset_at, variables}
use Rattle.aig_net.specs.Wires.{Wire, literal, opposed, both, either, equal, choice, all_of, and_of}
use Rattle.hy_base.specs.Rows.{listed}
use Rattle.live_safe.specs.declared.places.Places.{Places}
use Rattle.live_safe.specs.declared.moved.Moved.{Moved}
use Rattle.live_safe.specs.declared.closing.Nexts.{Nexts}
use Rattle.live_safe.specs.Safe.{count_below, is_free, safe_inputs, safe_first, has_begun, effective_wire, effectives, next_saved, closing, bad, begun_nexts, to_safe}

abbrev pub places_of : Net → Places
places_of net = record {
  inputs = net.inputs;
  latches = length net.latches;
  fairs = length net.fairs;
  safe_inputs = safe_inputs net;
  has_begun = has_begun net;
}

-- There is room for all latches, `begun` too.
abbrev pub HasRoom : Places → Type 0
HasRoom p = suc (p.safe_inputs + suc (p.fairs + (p.latches + p.latches))) < 2 ^ 31

-- ---- literals

abbrev pub take_of : Places → ℕ
take_of p = 2 * suc p.inputs

-- the input of the kth free latch
abbrev pub free_input_of : Places → ℕ → ℕ
free_input_of p k = 2 * suc (p.inputs + suc k)

abbrev pub saved_of : Places → ℕ
saved_of p = 2 * suc (p.safe_inputs + 0)

abbrev pub seen_of : Places → ℕ → ℕ
seen_of p j = 2 * suc (p.safe_inputs + suc j)

abbrev pub latch_of : Places → ℕ → ℕ
latch_of p j = 2 * suc (p.safe_inputs + suc (p.fairs + j))

abbrev pub copy_of : Places → ℕ → ℕ
copy_of p j = 2 * suc (p.safe_inputs + suc (p.fairs + (p.latches + j)))

abbrev pub begun_of : Places → ℕ
begun_of p = 2 * suc (p.safe_inputs + suc (p.fairs + (p.latches + p.latches)))

-- the variable of the first and
abbrev pub first_of : Places → ℕ
first_of p = suc
    (p.safe_inputs + suc (p.fairs + (p.latches + (p.latches + cond p.has_begun 1 0))))

-- ---- what stands for the net's variables

-- the literal that stands for a variable
abbrev pub stand : Moved → ℕ → ℕ
stand m v =
    cond (nat_lt m.inputs v)
    (cond (nat_lt (m.inputs + m.latches) v)
    (2 * (m.first + (m.made + (v - suc (m.inputs + m.latches)))))
    (literal_at m.values (v - suc m.inputs)))
    (2 * v)

abbrev pub moved_literal : Moved → ℕ → ℕ
moved_literal m l = under (stand m) l

abbrev pub moved_and : Moved → And → And
moved_and m a = and_of (moved_literal m a.left) (moved_literal m a.right)

abbrev pub moved_of : Net → Moved
moved_of net = record {
  inputs = net.inputs;
  latches = length net.latches;
  first = safe_first net;
  made = length (effectives net).ands;
  values = (effectives net).literals;
}

-- There is room for what stands for the literal.
abbrev pub Reaches : Moved → ℕ → Type 0
Reaches m l = m.first + (m.made + (l / 2 - suc (m.inputs + m.latches))) < 2 ^ 31

abbrev pub ReachesAnd : Moved → And → Type 0
ReachesAnd m a = Reaches m a.left × Reaches m a.right

-- ---- wires

abbrev pub free_before : List Reset → ℕ → ℕ
free_before resets j = count_below (λ k. is_free (reset_at resets k)) j

-- the effective value of latch j
abbrev pub effective_of : Places → List Reset → ℕ → Wire
effective_of p resets j =
    effective_wire (latch_of p j) (begun_of p) (free_input_of p (free_before resets j))
    (reset_at resets j)

-- `grab`, and the next value of `saved`
abbrev pub saving_of : Places → List Wire
saving_of p = both (literal (take_of p)) (opposed (literal (saved_of p))) ∷ either
    (literal (saved_of p)) (literal (take_of p)) ∷ []

-- the next value of `seen`
abbrev pub seen_next : ℕ → ℕ → ℕ → ℕ → Wire
seen_next next fair saved seen =
    both (literal next) (either (literal fair) (both (literal saved) (literal seen)))

abbrev pub seen_next_of : Places → Moved → ℕ → List ℕ → ℕ → Wire
seen_next_of p m next fairs j =
    seen_next next (moved_literal m (literal_at fairs j)) (saved_of p) (seen_of p j)

-- the next value of the copy of latch j
abbrev pub copy_next_of : Places → ℕ → List ℕ → ℕ → Wire
copy_next_of p grab values j = choice grab (literal_at values j) (copy_of p j)

abbrev pub same_of : Places → ℕ → Wire
same_of p j = equal (literal (latch_of p j)) (literal (copy_of p j))

-- the latches are saved, each `seen` is true, and the latches are as they were saved
abbrev pub bad_of : Places → Wire
bad_of p = all_of (literal (saved_of p))
    (listed 0 p.fairs (λ j. literal (seen_of p j)) ++ listed 0 p.latches (same_of p))

-- ---- the whole

-- There is room for the safe net.
abbrev pub SafeFits : Net → Type 0
SafeFits net = variables (to_safe net).net ≤ 2 ^ 31

-- the gates so far are these
pub record AreGates (net : Net) (made : List And) (gates : Gates) : Type 0 where
  pub first : gates.first ≡ safe_first net
  pub ands : gates.ands ≡ made

-- They are the next values of the safe net's latches, and its bad literal.
pub record AreNexts (net : Net) (nexts : Nexts) : Type 0 where
  pub saved : nexts.saved ≡ next_saved net
  pub seens : nexts.seens ≡ listed 0 (length net.fairs) (literal_at (closing net).literals)
  pub copies : nexts.copies ≡ listed 0 (length net.latches)
      (λ j. literal_at (closing net).literals (length net.fairs + j))
  pub bad : nexts.bad ≡ bad net

-- the next literals of the safe net's latches, where those of the net's latches are given
abbrev pub latches_of : Nexts → List ℕ → Bool → List ℕ
latches_of nexts own has_begun =
    nexts.saved ∷ (nexts.seens ++ (own ++ (nexts.copies ++ begun_nexts has_begun)))

abbrev pub no_names : ℕ → List (List ℕ)
no_names n = listed 0 n (λ _. [])
