-- Rows of values: their inputs and latches by places, starts and steps, and that inputs and latches decide a row.
use Rattle.std.proofs.Common.{◌≡◌, ℕ, zero, suc, ◌+◌, ◌-◌, ◌<◌, Bool, false, List, length, drop, inl, inr, sym, ap, ◌∙◌, subst, arith}
use Rattle.std.proofs.lemmas.Bool.{cases_lt}
use Rattle.std.proofs.lemmas.List.{ext_get_or, get_or-take, get_or-drop, get_or-map, length-take-le, length-drop, length-map}
use Rattle.aig_net.specs.Nets.{Net, variables, first_and, latch_variable, literal_at, literal_value, reset_at, ResetTo, AreOrdered, AllTrue, IsNet, IsRight, IsStart, IsStep}
use Rattle.hy_base.specs.Rows.{row}
use Rattle.aig_net.specs.Rows.{input_row, latch_row}
use Rattle.aig_net.specs.Following.{next_row, IsStartRow, IsState}
use Rattle.aig_net.proofs.Valuations.{valuation-only}

abbrev pub IsFull : Net → List Bool → Type 0
IsFull net values = length values ≡ variables net

pub input-place : (net : Net) (values : List Bool) (j : ℕ) → j < net.inputs →
    row (input_row net values) j ≡ row values (suc j)
input-place net values j lt =
    let at : 1 + j ≡ suc j = omega arith in
    get_or-take net.inputs (drop 1 values) j false lt ∙ get_or-drop 1 values j false
    ∙ ap (row values) at

pub latch-place : (net : Net) (values : List Bool) (j : ℕ) → j < length net.latches →
    row (latch_row net values) j ≡ row values (latch_variable net j)
latch-place net values j lt =
    let at : suc net.inputs + j ≡ latch_variable net j = omega arith in
    get_or-take (length net.latches) (drop (suc net.inputs) values) j false lt
    ∙ get_or-drop (suc net.inputs) values j false ∙ ap (row values) at

pub latch-length : (net : Net) (values : List Bool) → IsFull net values →
    length (latch_row net values) ≡ length net.latches
latch-length net values full =
    let left : length (drop (suc net.inputs) values) ≡ length values - suc net.inputs =
    length-drop (suc net.inputs) values in
    length-take-le (length net.latches) (drop (suc net.inputs) values) (omega (arith, left, full))

pub input-length : (net : Net) (values : List Bool) → IsFull net values →
    length (input_row net values) ≡ net.inputs
input-length net values full =
    let left : length (drop 1 values) ≡ length values - 1 = length-drop 1 values in
    length-take-le net.inputs (drop 1 values) (omega (arith, left, full))

-- ---- inputs and latches decide a row

pub only : (net : Net) → AreOrdered (first_and net) net.ands → (v w : List Bool) → IsFull net v →
    IsFull net w → IsRight net (row v) → IsRight net (row w) → input_row net v ≡ input_row net w →
    latch_row net v ≡ latch_row net w → v ≡ w
only net ordered v w full full' right right' ins lats =
    ext_get_or false v w (full ∙ sym full')
    (λ u lt. valuation-only net (row v) (row w) ordered right right' given u
    (omega (arith, full)))
  where
    given : (u : ℕ) → u < first_and net → row v u ≡ row w u
    given zero lt = right.constant ∙ sym right'.constant
    given (suc x) lt =
        elim (cases_lt x net.inputs) [
          | inl small ↦ sym (input-place net v x small) ∙ ap (λ r. row r x) ins
              ∙ input-place net w x small
          | inr le ↦
              let j : ℕ = x - net.inputs in
              let at : latch_variable net j ≡ suc x = omega arith in
              let few : j < length net.latches = omega arith in
              ap (row v) (sym at) ∙ sym (latch-place net v j few) ∙ ap (λ r. row r j) lats
              ∙ latch-place net w j few ∙ ap (row w) at
        ]

-- Where the one row with right gates breaks a constraint there is no state.
pub no_state : (net : Net) → IsNet net → (before given v : List Bool) → IsFull net v →
    IsRight net (row v) → input_row net v ≡ given → latch_row net v ≡ before →
    ¬ AllTrue net.constraints (row v) → (values : List Bool) → ¬ IsState net before given values
no_state net good before given v full right ins lats broken values is =
    let same : values ≡ v = only net good.ordered values v is.full full is.right right (is.inputs
    ∙ sym ins) (is.latches ∙ sym lats) in
    let P : List Bool → Type 0 = λ x. AllTrue net.constraints (row x) in
    broken (subst P same is.kept)

-- ---- starts and steps

pub start-row : (net : Net) (values : List Bool) → length net.resets ≡ length net.latches →
    IsFull net values → IsStart net (row values) → IsStartRow net.resets (latch_row net values)
start-row net values e full starts = record {
  many = latch-length net values full ∙ sym e;
  starts = λ j lt.
      let few : j < length net.latches = omega (arith, e) in
      let P : Bool → Type 0 = ResetTo (reset_at net.resets j) in
      subst P (sym (latch-place net values j few)) (starts j few);
}

pub row-start : (net : Net) (values : List Bool) → length net.resets ≡ length net.latches →
    IsStartRow net.resets (latch_row net values) → IsStart net (row values)
row-start net values e is j few =
    let P : Bool → Type 0 = ResetTo (reset_at net.resets j) in
    subst P (latch-place net values j few) (is.starts j (omega (arith, e)))

next-place : (net : Net) (values : List Bool) (j : ℕ) → j < length net.latches →
    row (next_row net values) j ≡ literal_value (row values) (literal_at net.latches j)
next-place net values j lt = get_or-map (literal_value (row values)) net.latches j 0 false lt

pub step-row : (net : Net) (v w : List Bool) → IsFull net w → IsStep net (row v) (row w) →
    latch_row net w ≡ next_row net v
step-row net v w full goes =
    let long : length (latch_row net w) ≡ length net.latches = latch-length net w full in
    ext_get_or false (latch_row net w) (next_row net v) (long
    ∙ sym (length-map net.latches (literal_value (row v)))) (λ j lt.
    let few : j < length net.latches = omega (arith, long) in
    latch-place net w j few ∙ goes j few ∙ sym (next-place net v j few))

pub row-step : (net : Net) (v w : List Bool) → latch_row net w ≡ next_row net v →
    IsStep net (row v) (row w)
row-step net v w e j few = sym (latch-place net w j few) ∙ ap (λ r. row r j) e
    ∙ next-place net v j few
