use Rattle.std.proofs.Common.{◌≡◌, ◌+◌, ◌^◌, ◌<◌, ℕ, cond, refl, sym, ap, ◌∙◌, subst, arith, add-one}
use Rattle.std.specs.FinSet.{contains}
use Rattle.fin_monitor.specs.Parts.{low_number}
use Rattle.fin_monitor.proofs.LowParts.{low-lt, low-small}
use Rattle.fin_monitor.proofs.letters.low_number.Goals as goal

pub loop-k-init : goal.loop-k-init
loop-k-init c = refl

pub with_name-number-requires : goal.with_name-number-requires
with_name-number-requires c =
    omega (arith, c.loop-k.invariant, low-small (c.loop-k.k + 1) c.args.letter (omega arith), ap (λ k. low_number k c.args.letter) (add-one c.loop-k.k))

pub loop-k-preserved : goal.loop-k-preserved
loop-k-preserved c =
    c.with_name-number.ensures ∙ ap (λ n. n + cond (contains c.args.letter c.loop-k.k) (2 ^ c.loop-k.k) 0) c.loop-k.invariant
    ∙ sym (ap (λ k. low_number k c.args.letter) (add-one c.loop-k.k))

pub returns-clause-number : goal.returns-clause-number
returns-clause-number c =
    let end : c.loop-k.k ≡ 8 = omega (arith, c.loop-k-test.false, c.loop-k.auto.k-end) in
    c.loop-k.invariant ∙ ap (λ k. low_number k c.args.letter) end

pub returns-clause-within : goal.returns-clause-within
returns-clause-within c =
    let end : c.loop-k.k ≡ 8 = omega (arith, c.loop-k-test.false, c.loop-k.auto.k-end) in
    let number : c.loop-k.number ≡ low_number 8 c.args.letter = c.loop-k.invariant ∙ ap (λ k. low_number k c.args.letter) end in
    let P : ℕ → Type 0 = λ n. n < 256 in
    subst P (sym number) (low-lt 8 c.args.letter)
