use Rattle.std.proofs.Common.{◌≡◌, ℕ, ◌+◌, ◌-◌, ◌/◌, ◌%◌, length, get_or, sym, ap, ◌∙◌, subst, arith}
use Rattle.std.specs.Bool.{Decides}
use Rattle.std.proofs.lemmas.Bool.Decides.{Decides-at}
use Rattle.std.proofs.lemmas.Option.{get_or_from_slice_get}
use Rattle.hy_bits.specs.Binary.{has_one}
use Rattle.hy_formula.specs.Trees.{tree_of}
use Rattle.hy_formula.specs.Temporal.{below, SatisfiesAt}
use Rattle.hy_finite.specs.Traces.{picked, trace_words}
use Rattle.hy_finite.proofs.meaning.finite_holds.Goals as goal

pub returns : goal.returns
returns c =
    let m : ℕ = c.judged_length-positions.result in
    let word = get_or_from_slice_get c.fill.new.rows _ c.at.result.now 0 c.at.ensures in
    let told = c.in_ok-fill.ensures.told 0 (m - 1) (omega arith) in
    let tuple = picked c.args.list.now c.args.pick.now in
    let first : length c.new-rows.result + (m - 1) / 64 ≡ (m - 1) / 64 = omega
    (arith, ap length c.new-rows.ensures) in
    let P : ℕ → Type 0 = λ n. Decides c.has_one.result (SatisfiesAt (below n) (trace_words tuple)
    (tree_of c.args.body.now) 0) in
    subst P c.judged_length-positions.ensures.judged
    (Decides-at _ _ (c.has_one.ensures ∙ ap (λ w. has_one w ((m - 1) % 64)) (sym word
    ∙ ap (λ k. get_or c.fill.new.rows k 0) (sym first))) told)
