-- How large the places are at which the inputs of free latches stand.
use Rattle.std.proofs.Common.{◌≡◌, ℕ, suc, ◌+◌, ◌*◌, ◌<◌, ◌≤◌, Bool, true, false, List, length, ap, ◌∙◌, arith}
use Rattle.std.proofs.Math.Nat.{mul-le-mul_left}
use mir.Val.{bool_byte}
use Rattle.aig_net.specs.declared.parts.Reset.{Reset}
use Rattle.aig_net.specs.Nets.{reset_at}
use Rattle.live_safe.specs.Safe.{is_free}
use Rattle.live_safe.proofs.Counting.{count-upto, count-within}
use Rattle.live_safe.proofs.Shapes.{count-below}
use Rattle.wit_lasso.specs.PathParts.{free_before, is_free_at}

pub few_free : (resets : List Reset) (j : ℕ) → free_before resets j ≤ j
few_free resets j = count-upto (is_free_at resets) j

-- no more stand before a latch than there are
pub free_within : (resets : List Reset) (j : ℕ) → j ≤ length resets →
    free_before resets j ≤ free_before resets (length resets)
free_within resets j le = count-within (is_free_at resets) (length resets) j le

-- the places of copies before a latch, and that of a free latch
pub free_times : (resets : List Reset) (n j : ℕ) → j ≤ length resets →
    free_before resets j * n ≤ free_before resets (length resets) * n
free_times resets n j le =
    let l : n * free_before resets j ≤ n * free_before resets (length resets) =
    mul-le-mul_left n (free_within resets j le) in
    omega (arith, l)

pub free_place : (resets : List Reset) (n c j : ℕ) → j < length resets →
    is_free (reset_at resets j) ≡ true → c < n →
    free_before resets j * n + c < free_before resets (length resets) * n
free_place resets n c j lt is few =
    let less = count-below (is_free_at resets) (length resets) j lt is in
    let l : n * suc (free_before resets j) ≤ n * free_before resets (length resets) =
    mul-le-mul_left n less in
    omega (arith, l, few)

pub product : (a b f n : ℕ) → a ≡ f → b ≡ n → a * b ≡ f * n
product a b f n e h = ap (λ x. x * b) e ∙ ap (λ y. f * y) h

pub byte-small : (b : Bool) → bool_byte b ≤ 1
byte-small true = omega arith
byte-small false = omega arith
