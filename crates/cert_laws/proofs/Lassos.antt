-- Lassos over the names of a table: what is printed of them says them again.
use Rattle.std.proofs.Common.{◌≡◌, ℕ, ◌+◌, ◌-◌, ◌%◌, ◌<◌, true, IsTrue, List, [], ◌∷◌, length, map, get_or, refl, ap, ◌∙◌, arith}
use Rattle.std.specs.FinSet.{contains, empty}
use Rattle.std.specs.List.{All}
use Rattle.std.proofs.Math.Nat.{mod-eq_of_lt}
use Rattle.std.proofs.lemmas.List.Elements.{All-from_get_or, All-head, All-tail}
use Rattle.hy_bits.specs.Letter.{Letter}
use Rattle.hy_formula.specs.Lassos.{Lasso}
use Rattle.hy_formula.specs.Names.{are_distinct}
use Rattle.hy_text.specs.Sets.{IsOver}
use Rattle.hy_lasso.specs.Printed.{IsLassoOver, spelled_of}
use Rattle.hy_lasso.specs.Words.{letter_at, no_lasso}
use Rattle.hy_lasso.proofs.LassoWords.{in-cycle, in-stem}
use Rattle.hy_lasso.proofs.PrintedLines.{same_lasso}
use Rattle.claim_check.specs.Good.{lassos_over}

module _ (names : List (List ℕ)) where
  -- Each name at a position of the lasso is one of the table.
  abbrev pub IsSeenOver : Lasso Letter → Type 0
  IsSeenOver l = (i name : ℕ) → contains (letter_at l i) name ≡ true → name < length names

  letter-over : (l : Lasso Letter) (i : ℕ) (letter : Letter) → letter_at l i ≡ letter
      → IsSeenOver l → IsOver names letter
  letter-over l i letter at seen name has = seen i name (ap (λ a. contains a name) at ∙ has)

  pub lasso-over : (l : Lasso Letter) → IsSeenOver l → IsLassoOver names l
  lasso-over l seen = record {
    stem = All-from_get_or (IsOver names) l.stem empty
        (λ i lt. letter-over l i (get_or l.stem i empty) (in-stem empty l i lt) seen);
    cycle = All-from_get_or (IsOver names) l.cycle empty (λ i lt. let s = length l.stem in
        let back : s + i - s ≡ i = omega arith in
        let place : (s + i - s) % length l.cycle ≡ i =
        ap (λ k. k % length l.cycle) back ∙ mod-eq_of_lt lt in
        letter-over l (s + i) (get_or l.cycle i empty)
        (in-cycle empty l (s + i) (omega arith) ∙ ap (λ k. get_or l.cycle k empty) place) seen);
  }

  pub lassos-over : (list : List (Lasso Letter))
      → ((v : ℕ) → v < length list → IsSeenOver (get_or list v no_lasso))
      → All (IsLassoOver names) list
  lassos-over list seen =
      All-from_get_or (IsLassoOver names) list no_lasso
      (λ v lt. lasso-over (get_or list v no_lasso) (seen v lt))

  -- Lassos that were printed are the same when their names are numbered again.
  pub lassos-back : IsTrue (are_distinct names) → (list : List (Lasso Letter))
      → All (IsLassoOver names) list → lassos_over names (map (spelled_of names) list) ≡ list
  lassos-back distinct [] over = refl
  lassos-back distinct (l ∷ list) over =
      ap (λ m. m ∷ lassos_over names (map (spelled_of names) list))
      (same_lasso names l distinct (All-head (IsLassoOver names) l list over))
      ∙ ap (λ ls. l ∷ ls) (lassos-back distinct list (All-tail (IsLassoOver names) l list over))
