use Rattle.std.proofs.Common.{◌≤◌, ◌∙◌, sym, ap, arith, Some}
use Rattle.aig_kind.specs.declared.kind.AigKind.TheVariants.{Delta}
use Rattle.aiger_body.specs.Outcomes.{fault, least, greatest}
use Rattle.aiger_body.proofs.Groups.{group_place, group_is, group_next, group_long, group_ended, group_short, group_value, long_fault, cut_fault, too_small, too_large, just_right}
use Rattle.aiger_body.proofs.deltas.read_delta.Goals as goal
use Rattle.aiger_body.proofs.deltas.read_delta.Goals.{then-value-least-via-then-value-least, then-value-least-via-else-value-least+then-greatest-value}

pub returns-then-is_long : goal.returns-then-is_long
returns-then-is_long c =
    let h = c.args.header.now in
    let bytes = c.args.bytes.now in
    let group = c.piece_at-group.result.now in
    let same = group_is h bytes c.args.base c.args.j c.args.at c.split_at.result.1.now c.requires.base c.requires.number c.split_at.ensures.back group (c.piece_at-group.ensures.piece c.args.j (group_place h bytes c.args.base c.args.j c.args.at c.split_at.result.1.now c.requires.base c.requires.number c.split_at.ensures.back)) in
    long_fault h bytes c.args.j (group_long h bytes c.args.j group same _ c.if-is_long.ensures) ∙ ap (λ b. Some (fault Delta b)) (sym c.requires.number.place)

pub returns-then-not-is_done : goal.returns-then-not-is_done
returns-then-not-is_done c =
    let h = c.args.header.now in
    let bytes = c.args.bytes.now in
    let group = c.piece_at-group.result.now in
    let same = group_is h bytes c.args.base c.args.j c.args.at c.split_at.result.1.now c.requires.base c.requires.number c.split_at.ensures.back group (c.piece_at-group.ensures.piece c.args.j (group_place h bytes c.args.base c.args.j c.args.at c.split_at.result.1.now c.requires.base c.requires.number c.split_at.ensures.back)) in
    cut_fault h bytes c.args.j (group_long h bytes c.args.j group same _ c.if-is_long.ensures) (group_ended h bytes c.args.j group same _ c.if-not-is_done.ensures)

pub value_of-value-requires : goal.value_of-value-requires
value_of-value-requires c =
    let h = c.args.header.now in
    let bytes = c.args.bytes.now in
    let group = c.piece_at-group.result.now in
    let same = group_is h bytes c.args.base c.args.j c.args.at c.split_at.result.1.now c.requires.base c.requires.number c.split_at.ensures.back group (c.piece_at-group.ensures.piece c.args.j (group_place h bytes c.args.base c.args.j c.args.at c.split_at.result.1.now c.requires.base c.requires.number c.split_at.ensures.back)) in
    group_short h bytes c.args.j group same c.if-is_long.ensures

pub returns-then-value-least : goal.returns-then-value-least
returns-then-value-least c =
    let h = c.args.header.now in
    let bytes = c.args.bytes.now in
    let group = c.piece_at-group.result.now in
    let same = group_is h bytes c.args.base c.args.j c.args.at c.split_at.result.1.now c.requires.base c.requires.number c.split_at.ensures.back group (c.piece_at-group.ensures.piece c.args.j (group_place h bytes c.args.base c.args.j c.args.at c.split_at.result.1.now c.requires.base c.requires.number c.split_at.ensures.back)) in
    let at = ap (λ b. Some (fault Delta b)) (sym c.requires.number.place) in
    elim c.then-value-least.branch [
      | then-value-least-via-then-value-least w ↦
          too_small h bytes c.args.j group same c.if-is_long.ensures c.if-not-is_done.ensures c.value_of-value.result c.value_of-value.ensures.value (omega (arith, w.if-value-least.true, c.requires.low)) ∙ at
      | then-value-least-via-else-value-least+then-greatest-value w ↦
          too_large h bytes c.args.j group same c.if-is_long.ensures c.if-not-is_done.ensures c.value_of-value.result c.value_of-value.ensures.value (omega (arith, w.if-value-least.false, c.requires.low)) (omega (arith, w.if-greatest-value.true, c.requires.high)) ∙ at
    ]

pub returns : goal.returns
returns c =
    let h = c.args.header.now in
    let bytes = c.args.bytes.now in
    let group = c.piece_at-group.result.now in
    let same = group_is h bytes c.args.base c.args.j c.args.at c.split_at.result.1.now c.requires.base c.requires.number c.split_at.ensures.back group (c.piece_at-group.ensures.piece c.args.j (group_place h bytes c.args.base c.args.j c.args.at c.split_at.result.1.now c.requires.base c.requires.number c.split_at.ensures.back)) in
    let next = group_next h bytes c.args.base c.args.j c.args.at c.split_at.result.1.now c.requires.base c.requires.number c.split_at.ensures.back group (c.piece_at-group.ensures.next c.args.j (group_place h bytes c.args.base c.args.j c.args.at c.split_at.result.1.now c.requires.base c.requires.number c.split_at.ensures.back)) c.piece_at-group.ensures.within in
    let low : least c.args.j ≤ c.value_of-value.result = omega (arith, c.if-value-least.false, c.requires.low) in
    let high : c.value_of-value.result ≤ greatest h bytes c.args.j = omega (arith, c.if-greatest-value.false, c.requires.high) in
    record {
      clear = just_right h bytes c.args.j group same c.if-is_long.ensures c.if-not-is_done.ensures c.value_of-value.result c.value_of-value.ensures.value low high;
      value_is = c.value_of-value.ensures.value ∙ group_value h bytes c.args.j group same;
      low = low;
      high = high;
      at = next;
    }
