-- A safe net starts with all latches false.
use Rattle.std.proofs.Common.{◌≡◌, ℕ, zero, suc, ◌+◌, ◌<◌, false, List, [], ◌∷◌, map, length, refl, sym, subst}
use Rattle.aig_net.specs.declared.parts.Reset.{Reset}
use Rattle.aig_net.specs.declared.parts.Reset.TheVariants.{Zero}
use Rattle.aig_net.specs.Nets.{Net, Valuation, ResetTo, IsStart, reset_at}
use Rattle.live_safe.specs.Safe.{safe_inputs, safe_latches, to_safe}

pub zero-at : (latches : List ℕ) (j : ℕ) → reset_at (map (λ _. Zero) latches) j ≡ Zero
zero-at [] j = refl
zero-at (l ∷ latches) zero = refl
zero-at (l ∷ latches) (suc j) = zero-at latches j

abbrev pub AllFalse : Net → Valuation → Type 0
AllFalse net v = (j : ℕ) → j < length (safe_latches net) → v (suc (safe_inputs net + j)) ≡ false

pub start-false : (net : Net) (v : Valuation) → IsStart (to_safe net).net v → AllFalse net v
start-false net v starts j lt =
    let P : Reset → Type 0 = λ r. ResetTo r (v (suc (safe_inputs net + j))) in
    subst P (zero-at (safe_latches net) j) (starts j lt)

pub false-start : (net : Net) (v : Valuation) → AllFalse net v → IsStart (to_safe net).net v
false-start net v off j lt =
    let P : Reset → Type 0 = λ r. ResetTo r (v (suc (safe_inputs net + j))) in
    subst P (sym (zero-at (safe_latches net) j)) (off j lt)
