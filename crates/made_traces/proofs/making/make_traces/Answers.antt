use Rattle.std.proofs.Common.{◌≡◌, ◌+◌, ℕ, suc, [], ◌∷◌, ◌++◌, ap, subst, ◌∙◌, arith}
use Rattle.made_traces.specs.MadeTraces.{letters_before, made_traces}
use Rattle.made_traces.specs.Progress.{HasMade}
use Rattle.made_traces.proofs.making.make_traces.Goals as goal

pub loop-k-preserved : goal.loop-k-preserved
loop-k-preserved c =
    let (has, same) = c.loop-k.invariant in
    let names = c.args.names.now in
    let k = c.loop-k.k in
    let one_more : suc k ≡ k + 1 = omega arith in
    let P : ℕ → Type 0 = λ n. HasMade names (letters_before n) c.next_trace.new.self in
    let made = c.in_ok-next_trace.ensures in (
      subst P one_more (made.made names (letters_before k) has),
      c.in_ok-push.ensures.added ∙ ap (λ traces. traces ++ c.in_ok-next_trace.field-0 ∷ []) same
          ∙ ap (λ trace. made_traces names k ++ trace ∷ []) (made.trace names (letters_before k) has)
          ∙ ap (made_traces names) one_more,
    )
