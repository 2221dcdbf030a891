use Rattle.std.proofs.Common.{◌≡◌, ◌-◌, ◌<◌, ◌∷◌, ◌++◌, ◌∙◌, List, ℕ, length, drop, decimal, flat_map, ap, subst, arith}
use Rattle.std.proofs.lemmas.List.{take_all, length-drop}
use Rattle.std.specs.Result.{OnOk}
use Rattle.aiger_print.proofs.Listing.{row_line}
use Rattle.aiger_print.proofs.lines.push_row.Goals as goal

pub returns : goal.returns
returns c =
    let P : List ℕ → Type 0 = λ t. OnOk c.push-2.result (c.push-2.new.self ≡ t) in
    let some : 0 < length c.args.row.now = omega (arith, c.in-len1-up.len_at_least) in
    subst P (row_line c.args.text.now c.args.row.now c.extend.new.self c.push_others.new.text some
    (c.in_ok-extend.ensures.added ∙ ap (λ l. c.args.text.now ++ l) (c.as_bytes.ensures.value ∙ c.format.ensures.text)) (c.in_ok-push_others.ensures
    ∙ ap (λ r. c.extend.new.self ++ flat_map (λ m. 32 ∷ decimal m) r) (take_all (length c.args.row.now - 1) (drop 1 c.args.row.now) (omega (arith, length-drop 1 c.args.row.now))))) c.push-2.ensures.added
