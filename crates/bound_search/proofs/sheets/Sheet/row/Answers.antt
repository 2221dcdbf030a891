use Rattle.std.proofs.Common.{[], get_or, length, sym, ap, ◌∙◌, arith}
use Rattle.std.proofs.lemmas.Option.{get_or_from_slice_get}
use Rattle.bound_search.proofs.sheets.Sheet.row.Goals as goal

pub place_among-requires-clause-room : goal.place_among-requires-clause-room
place_among-requires-clause-room c = omega (arith, c.requires.right.many, c.requires.right.few)

pub returns-clause-row : goal.returns-clause-row
returns-clause-row c =
    sym (get_or_from_slice_get c.args.self.now.rows c.place_among.result _ [] c.at.ensures)
    ∙ ap (λ i. get_or c.args.self.now.rows i []) c.place_among.ensures.place

pub returns-clause-long : goal.returns-clause-long
returns-clause-long c =
    let within = c.place_among.ensures.within in
    let is = get_or_from_slice_get c.args.self.now.rows c.place_among.result c.at.result.now
    c.at.result.now c.at.ensures in
    sym (ap length is)
    ∙ c.requires.right.long c.place_among.result c.at.result.now
    (omega (arith, within, c.requires.right.many))
