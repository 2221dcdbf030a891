-- There are at most b to the power n rows of n values below b.
use Rattle.std.proofs.Common.{◌≡◌, ℕ, ◌^◌, ◌<◌, ◌≤◌, List, [], length, get_or, inl, inr, sym, ◌∙◌, arith}
use Rattle.std.proofs.lemmas.Bool.{cases_lt}
use Rattle.std.proofs.lemmas.Grind.{same_number_lists}
use Rattle.std.proofs.lemmas.List.Elements.{Contains-get_or}
use Rattle.hy_base.proofs.RowNumbers.{two-alike}
use Rattle.chain_check.specs.Rows.{IsRow, AreRows, IsWithoutRepeats}

abbrev item : List (List ℕ) → ℕ → ℕ → ℕ
item rows i k = get_or (get_or rows i []) k 0

pub counted-rows : (n b : ℕ) (rows : List (List ℕ)) → AreRows n b rows → IsWithoutRepeats rows →
    length rows ≤ b ^ n
counted-rows n b rows right apart = elim (cases_lt (b ^ n) (length rows))
    [ inr le ↦ le | inl more ↦ absurd (clash more) ]
  where
    of-row : (i : ℕ) → i < length rows → IsRow n b (get_or rows i [])
    of-row i lt = right (get_or rows i []) (Contains-get_or rows i [] lt)

    clash : b ^ n < length rows → ⊥
    clash more =
        let (i, j, lt, le, e) = two-alike b n (item rows) (λ i le k few.
        let row : IsRow n b (get_or rows i []) = of-row i (omega arith) in
        row.below (item rows i k) (Contains-get_or (get_or rows i []) k 0 (omega (arith, row.long, few)))) in
        let one : IsRow n b (get_or rows i []) = of-row i (omega arith) in
        let two : IsRow n b (get_or rows j []) = of-row j (omega arith) in
        apart i j lt (omega arith) (same_number_lists (get_or rows i []) (get_or rows j [])
        (one.long ∙ sym two.long) (λ k few. e k (omega (arith, one.long, few))))
