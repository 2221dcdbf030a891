-- Rows that are joined by semicolons are the first one, and each other one behind a semicolon.
use Rattle.std.proofs.Common.{◌≡◌, Bool, List, [], ◌∷◌, ◌++◌, ap, sym, append-nil}
use Rattle.aig_net.specs.RunTexts.{row_text, rows_text, more_rows}

pub joined_rows : (row : List Bool) (rows : List (List Bool)) → rows_text (row ∷ rows) ≡ row_text row ++ more_rows rows
joined_rows row [] = sym (append-nil (row_text row))
joined_rows row (next ∷ rows) = ap (λ xs. row_text row ++ (59 ∷ xs)) (joined_rows next rows)
