use Rattle.std.proofs.Common.{◌≡◌, ◌+◌, ◌∷◌, ◌++◌, [], ◌<◌, ℕ, length, take, map, get_or, sym, ap, ◌∙◌, arith, append_assoc, append-nil, length-append}
use Rattle.std.proofs.lemmas.List.{take_all, map_more, get_or_append_left}
use Rattle.std.proofs.lemmas.Option.{get_or_from_slice_get}
use Rattle.hy_formula.proofs.Each.{each-place}
use Rattle.fin_monitor.proofs.parts.push_with.Goals as goal

pub loop-i-init : goal.loop-i-init
loop-i-init c = sym (append-nil c.args.parts.now)

pub at-part-requires : goal.at-part-requires
at-part-requires c =
    omega (arith, ap length c.loop-i.invariant, length-append c.args.parts.now (map (λ part. part + c.args.bits) (take c.loop-i.i c.args.parts.now)), c.loop-i-test.true, c.len-i-end.ensures)

pub overflow_add-part : goal.overflow_add-part
overflow_add-part c =
    let lt : c.loop-i.i < length c.args.parts.now = omega (arith, c.loop-i-test.true, c.len-i-end.ensures) in
    let at : get_or c.loop-i.parts c.loop-i.i 0 ≡ c.at-part.result.now = get_or_from_slice_get c.loop-i.parts c.loop-i.i c.at-part.result.now 0 c.at-part.ensures in
    let old : get_or c.loop-i.parts c.loop-i.i 0 ≡ get_or c.args.parts.now c.loop-i.i 0 =
    ap (λ l. get_or l c.loop-i.i 0) c.loop-i.invariant ∙ get_or_append_left c.args.parts.now (map (λ part. part + c.args.bits) (take c.loop-i.i c.args.parts.now)) 0 c.loop-i.i lt in
    omega (arith, at, old, each-place (λ part. part + c.args.bits < 4294967296) c.args.parts.now 0 c.requires c.loop-i.i lt)

pub loop-i-preserved : goal.loop-i-preserved
loop-i-preserved c =
    let lt : c.loop-i.i < length c.args.parts.now = omega (arith, c.loop-i-test.true, c.len-i-end.ensures) in
    let added = λ (part : ℕ). part + c.args.bits in
    let front = map added (take c.loop-i.i c.args.parts.now) in
    let at : get_or c.loop-i.parts c.loop-i.i 0 ≡ c.at-part.result.now = get_or_from_slice_get c.loop-i.parts c.loop-i.i c.at-part.result.now 0 c.at-part.ensures in
    let old : get_or c.loop-i.parts c.loop-i.i 0 ≡ get_or c.args.parts.now c.loop-i.i 0 =
    ap (λ l. get_or l c.loop-i.i 0) c.loop-i.invariant ∙ get_or_append_left c.args.parts.now front 0 c.loop-i.i lt in
    c.in_ok-push.ensures.added ∙ (λ k. c.loop-i.invariant k ++ added ((sym at ∙ old) k) ∷ [])
    ∙ append_assoc c.args.parts.now front (added (get_or c.args.parts.now c.loop-i.i 0) ∷ [])
    ∙ ap (λ l. c.args.parts.now ++ l) (sym (map_more added c.args.parts.now c.loop-i.i 0 lt))

pub returns : goal.returns
returns c =
    c.loop-i.invariant
    ∙ ap (λ l. c.args.parts.now ++ map (λ part. part + c.args.bits) l) (take_all c.loop-i.i c.args.parts.now (omega (arith, c.loop-i-test.false, c.len-i-end.ensures)))
