use Rattle.std.proofs.Common.{◌≡◌, ◌+◌, ℕ, suc, [], ◌∷◌, ◌++◌, ap, subst, ◌∙◌, arith}
use Rattle.std.proofs.lemmas.List.{length-append}
use Rattle.made_traces.specs.MadeTraces.{letters_from}
use Rattle.made_traces.specs.Progress.{HasMade}
use Rattle.made_traces.proofs.generator.Generator.next_trace.Goals as goal

pub loop-letter-preserved : goal.loop-letter-preserved
loop-letter-preserved c =
    let (long, made) = c.loop-letter.invariant in
    let i = c.loop-letter._letter in
    let added = c.in_ok-push.ensures.added in (
      rw added (omega (arith, long, length-append c.loop-letter.letters (c.next.result ∷ []))),
      λ table k has.
          let (before, same) = made table k has in
          let P : ℕ → Type 0 = λ n. HasMade table n c.next.new.self in
          let one_more : suc i ≡ i + 1 = omega arith in
          let place : suc (k + i) ≡ k + (i + 1) = omega arith in (
            subst P place (c.next.ensures.made table (k + i) before),
            added ∙ ap (λ letters. letters ++ c.next.result ∷ []) same
                ∙ ap (λ letter. letters_from table k i ++ letter ∷ []) (c.next.ensures.letter table (k + i) before)
                ∙ ap (letters_from table k) one_more,
          ),
    )

pub returns-clause-made : goal.returns-clause-made
returns-clause-made c table k has =
    let (before, same) = c.loop-letter.invariant.1 table k has in
    let P : ℕ → Type 0 = λ n. HasMade table (k + n) c.loop-letter.self in
    let all : c.loop-letter._letter ≡ c.args.length = omega (arith, c.loop-letter.auto._letter-end, c.loop-letter-test.false) in
    subst P all before
