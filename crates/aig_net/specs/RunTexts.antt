-- How runs of a circuit are printed:
--
--     proof runs N
--     a line for each run: the latches of its first step, a space, its stem, a bar, its cycle
--
-- The stem and the cycle are rows of inputs, joined by `;`. A row has a digit for each latch or input; one that has
-- none is a dash.
use Rattle.std.specs.Prelude.{ℕ, Bool, cond, List, [], ◌∷◌, ◌++◌, map, length, codes, decimal}
use Rattle.std.specs.List.{join_with_byte, flat_map}
use Rattle.aig_net.specs.declared.run.Run.{Run}

abbrev pub digit : Bool → ℕ
digit b = cond b 49 48

abbrev pub row_text : List Bool → List ℕ
row_text [] = codes "-"
row_text (b ∷ row) = digit b ∷ map digit row

abbrev pub rows_text : List (List Bool) → List ℕ
rows_text rows = join_with_byte 59 (map row_text rows)

-- rows, each behind a semicolon
abbrev pub more_rows : List (List Bool) → List ℕ
more_rows rows = flat_map (λ row. 59 ∷ row_text row) rows

abbrev pub run_text : Run → List ℕ
run_text run =
    row_text run.first ++ codes " " ++ rows_text run.stem ++ codes "|" ++ rows_text run.cycle ++ codes "\n"

abbrev pub runs_text : List Run → List ℕ
runs_text runs = codes "proof runs " ++ decimal (length runs) ++ codes "\n" ++ flat_map run_text runs
