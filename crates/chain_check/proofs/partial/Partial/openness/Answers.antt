use Rattle.std.proofs.Common.{◌≡◌, ◌+◌, List, sym, subst, take, ◌++◌, ◌∷◌, [], get_or}
use Rattle.std.specs.Prelude.{ℤ}
use Rattle.std.proofs.lemmas.Bool.{both_ways}
use Rattle.std.proofs.lemmas.List.{take_more, take_all}
use Rattle.chain_check.specs.declared.partial.Open.{Open}
use Rattle.chain_check.specs.declared.partial.Open.TheVariants.{More}
use Rattle.chain_check.specs.Chains.{IsFalseIn}
use Rattle.chain_check.specs.Opens.{IsOpenness}
use Rattle.chain_check.proofs.Opening.{openness-false, openness-front}
use Rattle.chain_check.proofs.partial.Partial.openness.Goals as goal
use Rattle.chain_check.proofs.partial.Partial.openness.Goals.{then-not-is_false+in_default, else-not-is_false}

pub returns-in-More : goal.returns-in-More
returns-in-More c =
    let more : take (c.loop-l.l-index + 1) c.args.clause.now ≡ take c.loop-l.l-index
    c.args.clause.now ++ get_or c.args.clause.now c.loop-l.l-index c.l-item.result ∷ [] =
    take_more c.args.clause.now c.loop-l.l-index c.l-item.result c.loop-l-test.true in
    let Q : ℤ → Type 0 = λ l. IsOpenness c.args.self.now.literals
    (take c.loop-l.l-index c.args.clause.now ++ l ∷ []) More in
    let P : List ℤ → Type 0 = λ d. IsOpenness c.args.self.now.literals d More in
    let open' : ¬ IsFalseIn c.args.self.now.literals c.l-item.result =
    λ h. both_ways c.is_false.result c.if-not-is_false.true (c.is_false.ensures.1 h) in
    openness-front c.args.self.now.literals c.args.clause.now (c.loop-l.l-index + 1)
    (subst P (sym more) (subst Q c.l-item.is
    (c.in-More.ensures c.args.self.now.literals
    (take c.loop-l.l-index c.args.clause.now) open' c.loop-l.invariant)))

pub loop-l-preserved : goal.loop-l-preserved
loop-l-preserved c =
    let more : take (c.loop-l.l-index + 1) c.args.clause.now ≡ take c.loop-l.l-index
    c.args.clause.now ++ get_or c.args.clause.now c.loop-l.l-index c.l-item.result ∷ [] =
    take_more c.args.clause.now c.loop-l.l-index c.l-item.result c.loop-l-test.true in
    let Q : ℤ → Type 0 = λ l. IsOpenness c.args.self.now.literals
    (take c.loop-l.l-index c.args.clause.now ++ l ∷ []) c.if-not-is_false.open in
    let P : List ℤ → Type 0 = λ d. IsOpenness c.args.self.now.literals d c.if-not-is_false.open in
    let R : Open → Type 0 = λ o. IsOpenness c.args.self.now.literals
    (take c.loop-l.l-index c.args.clause.now ++ c.l-item.result ∷ []) o in
    subst P (sym more) (subst Q c.l-item.is (elim c.if-not-is_false.branch [
      | then-not-is_false+in_default w ↦ subst R (sym w.open-is)
          (w.with-open.ensures c.args.self.now.literals (take c.loop-l.l-index c.args.clause.now)
          (λ h. both_ways c.is_false.result w.if-not-is_false.true (c.is_false.ensures.1 h))
          c.loop-l.invariant)
      | else-not-is_false w ↦ subst R (sym w.open-is)
          (openness-false c.args.self.now.literals
          (take c.loop-l.l-index c.args.clause.now) c.l-item.result c.loop-l.open
          (c.is_false.ensures.0 w.if-not-is_false.false) c.loop-l.invariant)
    ]))

pub returns : goal.returns
returns c =
    let P : List ℤ → Type 0 = λ d. IsOpenness c.args.self.now.literals d c.loop-l.open in
    subst P (take_all c.loop-l.l-index c.args.clause.now c.loop-l-test.false) c.loop-l.invariant
