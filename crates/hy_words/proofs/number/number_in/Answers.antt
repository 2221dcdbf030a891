use Rattle.std.proofs.Common.{◌≡◌, ℕ, ◌<◌, ◌^◌, List, Ok, ◌∙◌, arith, true≢false, Result}
use Rattle.std.specs.Str.Parse.{ParsesUnsigned}
use Rattle.std.proofs.lemmas.Fmt.{parse-decimal}
use Rattle.hy_words.specs.Numbers.{IsNumber}
use Rattle.hy_words.proofs.Numbers.{no_number, that_number, text_same}
use Rattle.hy_words.proofs.number.number_in.Goals as goal
use Rattle.hy_words.proofs.number.number_in.Goals.{then-ne-via-then-ne, then-ne-via-else-ne+then-n-least, then-ne-via-else-ne+else-n-least+then-most-n}

read_back : {E : Type 0} (text : List ℕ) (least most n : ℕ) (r : Result ℕ E) → most < 2 ^ 32 → IsNumber text least most n → ParsesUnsigned 32 10 text r → r ≡ Ok n
read_back text least most n r fits (same, from, to) parsed = parse-decimal 32 n text r (omega arith) (omega arith) same parsed

pub returns-in_err-n-clause-none : goal.returns-in_err-n-clause-none
returns-in_err-n-clause-none c = rw c.from_residual.ensures (λ n is.
    no_number c.parse.result c.ok.result n
    (read_back c.args.text.now c.args.least c.args.most n c.parse.result c.ranges.most.fits is c.parse.ensures.value.0) c.ok.ensures.value c.in_err-n.was)

pub returns-then-ne-clause-none : goal.returns-then-ne-clause-none
returns-then-ne-clause-none c = λ n is.
    let same = that_number c.parse.result c.ok.result n c.in_ok-n.n
    (read_back c.args.text.now c.args.least c.args.most n c.parse.result c.ranges.most.fits is c.parse.ensures.value.0) c.ok.ensures.value c.in_ok-n.was in
    elim c.then-ne.branch [
      | then-ne-via-then-ne w ↦ true≢false (w.if-ne.ensures ∙ text_same c.args.text.now _ n c.in_ok-n.n is.0 c.format.ensures.text same)
      | then-ne-via-else-ne+then-n-least w ↦ let less = w.if-n-least.true in omega (arith, less, is.1, same)
      | then-ne-via-else-ne+else-n-least+then-most-n w ↦ let less = w.if-most-n.true in omega (arith, less, is.2, same)
    ]
