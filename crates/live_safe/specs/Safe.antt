-- The safe net of a net: bad is reached where the net has a lasso execution.
use Rattle.std.specs.Prelude.{ℕ, zero, suc, ◌+◌, ◌-◌, ◌*◌, Bool, true, false, nat_lt, cond, List, [], ◌∷◌, ◌++◌, map, length, codes}
use Rattle.aig_net.specs.declared.parts.And.{And}
use Rattle.aig_net.specs.declared.parts.Reset.{Reset}
use Rattle.aig_net.specs.declared.parts.Reset.TheVariants.{Zero, One, Free}
use Rattle.aig_net.specs.Nets.{Net, under, literal_at, reset_at, Valuation, literal_value}
use Rattle.aig_net.specs.Executions.{Word}
use Rattle.aig_net.specs.Wires.{Wire, literal, opposed, both, either, equal, choice, all_of, and_of, MadeAll, made_all}
use Rattle.hy_base.specs.Rows.{listed}
use Rattle.live_safe.specs.declared.safe_net.SafeNet.{SafeNet}

-- how many numbers below one pass the test
abbrev pub count_below : (ℕ → Bool) → ℕ → ℕ
count_below test zero = 0
count_below test (suc k) = cond (test k) (suc (count_below test k)) (count_below test k)

abbrev pub is_free : Reset → Bool
is_free Free = true
is_free _ = false

abbrev pub is_set : Reset → Bool
is_set Zero = false
is_set _ = true

abbrev pub free_at : Net → ℕ → Bool
free_at net j = is_free (reset_at net.resets j)

abbrev pub set_at : Net → ℕ → Bool
set_at net j = is_set (reset_at net.resets j)

-- whether some latch starts otherwise than false
abbrev pub has_begun : Net → Bool
has_begun net = nat_lt 0 (count_below (set_at net) (length net.latches))

-- `take` is one further input, and then there is one for each free latch.
abbrev pub safe_inputs : Net → ℕ
safe_inputs net = net.inputs + suc (count_below (free_at net) (length net.latches))

abbrev pub take : Net → ℕ
take net = 2 * suc net.inputs

abbrev pub free_input : Net → ℕ → ℕ
free_input net j = 2 * suc (net.inputs + suc (count_below (free_at net) j))

-- Latches are `saved`, a `seen` for each fairness literal, the net's, a copy of each, and `begun`.
abbrev pub shape : {A : Type 0} → Net → A → (ℕ → A) → (ℕ → A) → (ℕ → A) → List A → List A
shape net saved seen latch copy begun =
    saved ∷ (listed 0 (length net.fairs) seen
    ++ (listed 0 (length net.latches) latch ++ (listed 0 (length net.latches) copy ++ begun)))

abbrev pub saved : Net → ℕ
saved net = 2 * suc (safe_inputs net + 0)

abbrev pub seen : Net → ℕ → ℕ
seen net j = 2 * suc (safe_inputs net + suc j)

abbrev pub raw : Net → ℕ → ℕ
raw net j = 2 * suc (safe_inputs net + suc (length net.fairs + j))

abbrev pub copied_latch : Net → ℕ → ℕ
copied_latch net j = 2 * suc (safe_inputs net + suc (length net.fairs + (length net.latches + j)))

abbrev pub begun : Net → ℕ
begun net = 2 * suc (safe_inputs net + suc
    (length net.fairs + (length net.latches + length net.latches)))

abbrev pub safe_first : Net → ℕ
safe_first net = suc (safe_inputs net + suc
    (length net.fairs + (length net.latches + (length net.latches + cond (has_begun net) 1 0))))

-- the value of a latch with this literal, at the start its reset; an input gives that of a free one
abbrev pub effective_wire : ℕ → ℕ → ℕ → Reset → Wire
effective_wire latch begun input Zero = literal latch
effective_wire latch begun input One = either (literal latch) (opposed (literal begun))
effective_wire latch begun input Free = choice begun latch input

abbrev pub effective : Net → ℕ → Reset → Wire
effective net j reset = effective_wire (raw net j) (begun net) (free_input net j) reset

abbrev pub effective_at : Net → ℕ → Wire
effective_at net j = effective net j (reset_at net.resets j)

abbrev pub effectives : Net → MadeAll
effectives net = made_all (safe_first net) []
    (listed 0 (length net.latches) (effective_at net))

-- the literal for a variable of the net
abbrev pub safe_variable : Net → ℕ → ℕ
safe_variable net v =
    cond (nat_lt net.inputs v)
    (cond (nat_lt (net.inputs + length net.latches) v)
    (2 * (safe_first net + (length (effectives net).ands +
    (v - suc (net.inputs + length net.latches)))))
    (literal_at (effectives net).literals (v - suc net.inputs)))
    (2 * v)

abbrev pub safe_literal : Net → ℕ → ℕ
safe_literal net l = under (safe_variable net) l

abbrev pub safe_and : Net → And → And
safe_and net a = and_of (safe_literal net a.left) (safe_literal net a.right)

abbrev pub safe_ands : Net → List And
safe_ands net = (effectives net).ands ++ map (safe_and net) net.ands

-- `grab`, and the next value of `saved`
abbrev pub saving_wires : Net → List Wire
saving_wires net = both (literal (take net)) (opposed (literal (saved net))) ∷ either
    (literal (saved net)) (literal (take net)) ∷ []

abbrev pub saving : Net → MadeAll
saving net = made_all (safe_first net) (safe_ands net) (saving_wires net)

abbrev pub grab : Net → ℕ
grab net = literal_at (saving net).literals 0

abbrev pub next_saved : Net → ℕ
next_saved net = literal_at (saving net).literals 1

abbrev pub seen_wire : Net → ℕ → Wire
seen_wire net j =
    both (literal (next_saved net))
    (either (literal (safe_literal net (literal_at net.fairs j)))
    (both (literal (saved net)) (literal (seen net j))))

-- a copy takes the effective value where it is to be saved
abbrev pub copy_wire : Net → ℕ → Wire
copy_wire net j = choice (grab net) (literal_at (effectives net).literals j) (copied_latch net j)

abbrev pub bad_wires : Net → List Wire
bad_wires net =
    listed 0 (length net.fairs) (λ j. literal (seen net j))
    ++ listed 0 (length net.latches)
    (λ j. equal (literal (raw net j)) (literal (copied_latch net j)))

abbrev pub bad_wire : Net → Wire
bad_wire net = all_of (literal (saved net)) (bad_wires net)

abbrev pub closing_wires : Net → List Wire
closing_wires net = listed 0 (length net.fairs) (seen_wire net)
    ++ (listed 0 (length net.latches) (copy_wire net) ++ bad_wire net ∷ [])

abbrev pub closing : Net → MadeAll
closing net = made_all (safe_first net) (saving net).ands (closing_wires net)

-- the next literal of `begun`, where it is there
abbrev pub begun_nexts : Bool → List ℕ
begun_nexts true = 1 ∷ []
begun_nexts false = []

-- the next literals of the latches
abbrev pub safe_latches : Net → List ℕ
safe_latches net =
    shape net (next_saved net) (literal_at (closing net).literals)
    (λ j. safe_literal net (literal_at net.latches j))
    (λ j. literal_at (closing net).literals (length net.fairs + j)) (begun_nexts (has_begun net))

abbrev pub bad : Net → ℕ
bad net = literal_at (closing net).literals (length net.fairs + length net.latches)

-- The safe net shows `bad` as its one output; its variables have no names.
abbrev pub to_safe : Net → SafeNet
to_safe net = record {
  net = record {
    inputs = safe_inputs net;
    latches = safe_latches net;
    resets = map (λ _. Zero) (safe_latches net);
    ands = (closing net).ands;
    outputs = bad net ∷ [];
    constraints = map (safe_literal net) net.constraints;
    fairs = [];
    input_names = listed 0 (safe_inputs net) (λ _. []);
    latch_names = listed 0 (length (safe_latches net)) (λ _. []);
    output_names = codes "bad" ∷ [];
  };
  bad = bad net;
}

-- the valuation of the net that one of its safe net shows
abbrev pub shown : Net → Valuation → Valuation
shown net v u = literal_value v (safe_variable net u)

abbrev pub shown_word : Net → Word → Word
shown_word net path i = shown net (path i)
