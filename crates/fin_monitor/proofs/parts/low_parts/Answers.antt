use Rattle.std.proofs.Common.{◌≡◌, ◌+◌, ◌*◌, ◌<◌, ◌≤◌, ◌∷◌, ◌++◌, [], ℕ, List, sym, ap, ◌∙◌, subst, arith, add-one}
use Rattle.std.specs.FinSet.{empty, insert}
use Rattle.hy_formula.specs.Quantifiers.{Each}
use Rattle.fin_monitor.specs.Parts.{bits_of, AreLowParts}
use Rattle.fin_monitor.proofs.LowParts.{low-start, low-more, each-within, bound-more}
use Rattle.fin_monitor.proofs.parts.low_parts.Goals as goal

pub loop-k-init : goal.loop-k-init
loop-k-init c =
    let P : List ℕ → Type 0 = λ l. AreLowParts l c.args.names.now 0 × Each (λ part. part ≤ 0) l in
    let is : c.push.new.self ≡ 0 ∷ [] = c.in_ok-push.ensures.added ∙ ap (λ l. l ++ 0 ∷ []) c.new-parts.ensures in
    subst P (sym is) (low-start c.args.names.now, (omega arith, tt))

pub push_with-requires : goal.push_with-requires
push_with-requires c =
    let small : c.bits_in-bits.result < 65536 = omega (arith, c.bits_in-bits.ensures, c.requires c.with.result) in
    let (are, bound) = c.loop-k.invariant in
    each-within (λ part. part ≤ c.loop-k.k * 65536) (λ part. part + c.bits_in-bits.result < 4294967296) (λ n le. omega (arith, small, c.loop-k-test.true)) c.loop-k.parts bound

pub loop-k-preserved : goal.loop-k-preserved
loop-k-preserved c =
    let (are, bound) = c.loop-k.invariant in
    let small : c.bits_in-bits.result < 65536 = omega (arith, c.bits_in-bits.ensures, c.requires c.with.result) in
    let bits : c.bits_in-bits.result ≡ bits_of c.args.names.now (insert empty c.loop-k.k) =
    c.bits_in-bits.ensures ∙ ap (bits_of c.args.names.now) (c.with.ensures ∙ ap (λ s. insert s c.loop-k.k) c.empty.ensures) in
    let P : ℕ → Type 0 = λ k. AreLowParts c.push_with.new.parts c.args.names.now k × Each (λ part. part ≤ k * 65536) c.push_with.new.parts in
    subst P (sym (add-one c.loop-k.k)) (
      low-more c.loop-k.parts c.push_with.new.parts c.args.names.now c.loop-k.k c.bits_in-bits.result bits c.in_ok-push_with.ensures are,
      bound-more c.loop-k.parts c.push_with.new.parts c.loop-k.k c.bits_in-bits.result small c.in_ok-push_with.ensures bound,
    )

pub returns : goal.returns
returns c =
    let (are, bound) = c.loop-k.invariant in
    let P : ℕ → Type 0 = AreLowParts c.loop-k.parts c.args.names.now in
    subst P (omega (arith, c.loop-k-test.false, c.loop-k.auto.k-end)) are
