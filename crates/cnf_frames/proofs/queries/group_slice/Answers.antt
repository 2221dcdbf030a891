use Rattle.std.proofs.Common.{◌-◌, ◌*◌, length, drop, sym, ◌∙◌, arith, length-drop}
use Rattle.std.proofs.lemmas.List.{take_all}
use Rattle.cnf_frames.proofs.queries.group_slice.Goals as goal

pub returns-then-rest-lt64 : goal.returns-then-rest-lt64
returns-then-rest-lt64 c =
    let e = length-drop (64 * c.args.group) c.args.facts.now in
    take_all (length c.args.facts.now - 64 * c.args.group)
    (drop (64 * c.args.group) c.args.facts.now) (omega (arith, e))
    ∙ sym (take_all 64 (drop (64 * c.args.group) c.args.facts.now) (omega (arith, e)))
