-- The run of each copy by places of a path's rows: input j of copy c of n stands at place j * n + c,
-- and behind the input that saves stand the inputs of the free latches in the same order.
use Rattle.std.specs.Prelude.{ℕ, suc, ◌+◌, ◌-◌, ◌*◌, ◌^◌, ◌<◌, ◌≤◌, Bool, true, false, List, map, take, drop, length}
use Rattle.aig_net.specs.declared.parts.Reset.{Reset}
use Rattle.aig_net.specs.declared.parts.Reset.TheVariants.{Zero, One, Free}
use Rattle.aig_net.specs.declared.run.Run.{Run}
use Rattle.aig_net.specs.Copies.{own_values}
use Rattle.aig_net.specs.Nets.{Net, reset_at}
use Rattle.hy_base.specs.Rows.{row, listed}
use Rattle.aig_net.specs.Following.{row_at}
use Rattle.live_safe.specs.Safe.{count_below, is_free}

abbrev pub is_free_at : List Reset → ℕ → Bool
is_free_at resets j = is_free (reset_at resets j)

-- how many latches below j are free
abbrev pub free_before : List Reset → ℕ → ℕ
free_before resets j = count_below (is_free_at resets) j

-- the value of a latch at the start, where a free one has the value that is given
abbrev pub start_value : Reset → Bool → Bool
start_value Zero given = false
start_value One given = true
start_value Free given = given

-- the latches of copy c at the start, by the inputs of the free latches
abbrev pub own_latches : List Reset → ℕ → ℕ → List Bool → List Bool
own_latches resets n c free =
    listed 0 (length resets)
    (λ j. start_value (reset_at resets j) (row free (free_before resets j * n + c)))

-- the place of the input that saves, where the safe net has so many inputs
abbrev pub take_place : Net → ℕ → ℕ → ℕ
take_place net n inputs = inputs - suc (free_before net.resets (length net.resets) * n)

-- the run of copy c, whose cycle begins with row `start`
abbrev pub own_run : Net → ℕ → ℕ → List (List Bool) → ℕ → ℕ → Run
own_run net n place rows start c = record {
  first = own_latches net.resets n c (drop (suc place) (row_at rows 0));
  stem = map (own_values net.inputs n c) (take start rows);
  cycle = map (own_values net.inputs n c) (drop start rows);
}

-- Each row, of which there is one at least, has the inputs of the copies before the one that saves,
-- and those of the free latches behind it.
pub record AreRows (net : Net) (n place : ℕ) (rows : List (List Bool)) : Type 0 where
  pub some : 0 < length rows
  pub inputs : net.inputs * n ≤ place
  pub small : free_before net.resets (length net.resets) * n < 2 ^ 32
  pub long : (i : ℕ) → i < length rows →
      free_before net.resets (length net.resets) * n + suc place ≤ length (row_at rows i)
