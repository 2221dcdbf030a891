-- The text of a log: its length, then for each learned clause its literals, and the numbers of its chain.
use Rattle.std.specs.Prelude.{List, ℕ, ◌∷◌, ◌++◌, length, codes, decimal}
use Rattle.std.specs.List.{flat_map}
use Rattle.std.specs.Fmt.{signed_decimal}
use Rattle.chain_check.specs.declared.logs.Learned.{Learned}

abbrev pub entry_text : Learned → List ℕ
entry_text e =
    codes "c" ++ flat_map (λ l. 32 ∷ signed_decimal l) e.clause ++ codes " 0"
    ++ flat_map (λ k. 32 ∷ decimal k) e.chain ++ codes " 0\n"

abbrev pub log_text : List Learned → List ℕ
log_text log = codes "log " ++ decimal (length log) ++ codes "\n" ++ flat_map entry_text log
