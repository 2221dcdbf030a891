use Rattle.std.proofs.Common.{◌≡◌, sym, subst, rules}
use Rattle.std.proofs.lemmas.Bool.{both_ways}
use Rattle.chain_check.specs.declared.partial.Open.{Open}
use Rattle.chain_check.specs.declared.partial.Open.TheVariants.{One, More}
use Rattle.chain_check.proofs.Opening.{Widens, widens-none, widens-one, widens-two, widens-more}
use Rattle.chain_check.proofs.partial.Open.with.Goals as goal

pub returns-in-Nothing : goal.returns-in-Nothing
returns-in-Nothing c = let P : Open → Type 0 = λ o. Widens c.args.l o (One c.args.l) in
    subst P (sym c.in-Nothing.is) (widens-none c.args.l)

pub returns-then-is : goal.returns-then-is
returns-then-is c =
    let P : Open → Type 0 = λ o. Widens c.args.l o (One c.args.l) in
    let same : c.in-One.m ≡ c.args.l = c.is.ensures.0 (search rules) in
    subst P (sym c.in-One.is) (widens-one c.args.l c.in-One.m same)

pub returns-else-is : goal.returns-else-is
returns-else-is c =
    let P : Open → Type 0 = λ o. Widens c.args.l o More in
    subst P (sym c.in-One.is) (widens-two c.args.l c.in-One.m
    (λ e. both_ways c.is.result c.if-is.false (c.is.ensures.1 e)))

pub returns-in-More : goal.returns-in-More
returns-in-More c = let P : Open → Type 0 = λ o. Widens c.args.l o More in
    subst P (sym c.in-More.is) (widens-more c.args.l)
