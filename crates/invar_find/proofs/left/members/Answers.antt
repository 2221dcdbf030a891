use Rattle.std.proofs.Common.{◌≡◌, ℕ, ◌-◌, ◌*◌, List, length, take, drop, min, ap, ◌∙◌, arith, length-drop}
use Rattle.std.proofs.lemmas.List.{take_all, take_min}
use Rattle.cnf_frames.specs.declared.facts.Fact.{Fact}
use Rattle.cnf_frames.specs.Queries.{group_of}
use Rattle.invar_find.proofs.left.members.Goals as goal

first-ones : (all items : List Fact) (g n : ℕ) → items ≡ all →
    n ≡ min (length (take (length items - 64 * g) (drop (64 * g) items))) 64 →
    take n (take (length items - 64 * g) (drop (64 * g) items)) ≡ group_of all g
first-ones all items g n e few =
    let long : length (drop (64 * g) items) ≡ length items - 64 * g = length-drop _ _ in
    let whole : take (length items - 64 * g) (drop (64 * g) items) ≡ drop (64 * g) items =
    take_all _ _ (omega (arith, long)) in
    let at : n ≡ min 64 (length (drop (64 * g) items)) =
    let l = ap length whole in omega (arith, few, l) in
    ap (take n) whole ∙ ap (λ n. take n (drop (64 * g) items)) at
    ∙ take_min 64 (drop (64 * g) items) ∙ ap (λ all. group_of all g) e

pub returns : goal.returns
returns c = first-ones c.args.facts.now c.as_slice.result.now c.args.group c.min.result
    c.as_slice.ensures c.min.ensures
