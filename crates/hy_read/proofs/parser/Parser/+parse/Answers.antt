use Rattle.std.proofs.Common.{ℕ, suc, ◌+◌, ◌-◌, ◌<◌, ◌∷◌, List, Ok, Err, refl, sym, subst, ap, ◌∙◌, arith, add-one}
use Rattle.std.proofs.lemmas.Result.{err_from_is_err_and}
use Rattle.hy_formula.specs.Trees.{always}
use Rattle.hy_read.specs.declared.build_error.BuildError.TheVariants.{TooHigh}
use Rattle.hy_read.specs.Parses.{means, AreLeft, Builds, IsOperator, HasNoOperator}
use Rattle.hy_read.specs.Scans.{plain}
use Rattle.hy_read.specs.Tokens.{Token}
use Rattle.hy_read.proofs.Building.{height_some, left_refused, left_alone, left_high, right_refused, both_parsed, prefixed_refused, prefixed_parsed, group_refused, group_open, group_parsed, constant_parts, leaf_parsed, no_operand, no_variable, no_nothing}
use Rattle.hy_read.proofs.Stepping.{stands_left, none_left}
use Rattle.hy_read.proofs.parser.Parser.+parse.Goals as goal

pub expression-returns-in_err-left-clause-built : goal.expression-returns-in_err-left-clause-built
expression-returns-in_err-left-clause-built t c = λ tokens s.
    let p = err_from_is_err_and c.from_residual.result c.from_residual.ensures.1 in
    let at : ℕ → Type 0 = λ r. Builds (means c.args.self.now) c.args.self.now.text.now c.args.parens r c.args.high tokens (Err c.in_err-left.field-0.0) in
    rw (p.1, p.2) (subst at (sym c.in-Some.ensures)
    (left_refused (means c.args.self.now) c.args.self.now.text.now c.args.parens _ c.args.high tokens c.in_err-left.field-0.0 (c.in_err-left.ensures.built tokens s)))

pub expression-returns-in_default-operator-clause-built : goal.expression-returns-in_default-operator-clause-built
expression-returns-in_default-operator-clause-built t c = λ tokens s.
    let at : ℕ → Type 0 = λ r. Builds (means c.args.self.now) c.args.self.now.text.now c.args.parens r c.args.high tokens (Ok c.in_ok-left.left) in
    let none = subst (λ r. HasNoOperator r c.in_ok-left.left.follow) c.in-Some.ensures c.in_default-operator.ensures in
    subst at (sym c.in-Some.ensures)
    (left_alone (means c.args.self.now) c.args.self.now.text.now c.args.parens _ c.args.high tokens c.in_ok-left.left (c.in_ok-left.ensures.built tokens s) none)

pub expression-returns-then-left-high-clause-built : goal.expression-returns-then-left-high-clause-built
expression-returns-then-left-high-clause-built t c = λ tokens s.
    let at : ℕ → Type 0 = λ r. Builds (means c.args.self.now) c.args.self.now.text.now c.args.parens r c.args.high tokens (Err TooHigh) in
    let op = subst (λ r. IsOperator r c.in_ok-left.left.follow c.in-Some-operator.operator c.in-Some-operator.behind) c.in-Some.ensures c.in-Some-operator.ensures in
    subst at (sym c.in-Some.ensures)
    (left_high (means c.args.self.now) c.args.self.now.text.now c.args.parens _ c.args.high tokens c.in_ok-left.left c.in-Some-operator.operator c.in-Some-operator.behind (c.in_ok-left.ensures.built tokens s) op c.if-left-high.true)

pub expression-returns-in_err-right-clause-built : goal.expression-returns-in_err-right-clause-built
expression-returns-in_err-right-clause-built t c = λ tokens s.
    let p = err_from_is_err_and c.from_residual-in_err-right.result c.from_residual-in_err-right.ensures.1 in
    let at : ℕ → Type 0 = λ r. Builds (means c.args.self.now) c.args.self.now.text.now c.args.parens r c.args.high tokens (Err c.in_err-right.field-0.0) in
    let op = subst (λ r. IsOperator r c.in_ok-left.left.follow c.in-Some-operator.operator c.in-Some-operator.behind) c.in-Some.ensures c.in-Some-operator.ensures in
    let some : 0 < c.args.high = omega arith in
    let right = subst (λ r. (more : List Token) → AreLeft c.args.self.now.text.now c.in-Some-operator.behind more → Builds (means c.args.self.now) c.args.self.now.text.now c.args.parens r (c.args.high - 1) more (Err c.in_err-right.field-0.0)) c.in-Some.ensures c.in_err-right.ensures.built in
    rw (p.1, p.2) (subst at (sym c.in-Some.ensures)
    (right_refused (means c.args.self.now) c.args.self.now.text.now c.args.parens _ c.args.high tokens c.in_ok-left.left c.in-Some-operator.operator c.in-Some-operator.behind c.in_err-right.field-0.0 some (c.in_ok-left.ensures.built tokens s) op right))

pub expression-returns-clause-built : goal.expression-returns-clause-built
expression-returns-clause-built t c = λ tokens s.
    let at : ℕ → Type 0 = λ r. Builds (means c.args.self.now) c.args.self.now.text.now c.args.parens r c.args.high tokens (Ok record { body = c.in_ok-body.body; height = c.max-height.result + 1; follow = c.in_ok-right.right.follow }) in
    let op = subst (λ r. IsOperator r c.in_ok-left.left.follow c.in-Some-operator.operator c.in-Some-operator.behind) c.in-Some.ensures c.in-Some-operator.ensures in
    let right = subst (λ r. (more : List Token) → AreLeft c.args.self.now.text.now c.in-Some-operator.behind more → Builds (means c.args.self.now) c.args.self.now.text.now c.args.parens r (c.args.high - 1) more (Ok c.in_ok-right.right)) c.in-Some.ensures c.in_ok-right.ensures.built in
    subst at (sym c.in-Some.ensures)
    (both_parsed (means c.args.self.now) c.args.self.now.text.now c.args.parens _ c.args.high tokens c.in_ok-left.left c.in_ok-right.right _ c.in-Some-operator.operator c.in-Some-operator.behind (c.in_ok-left.ensures.built tokens s) op right c.in_ok-body.ensures (add-one c.max-height.result ∙ ap suc c.max-height.ensures) refl)

pub operand-returns-then-high-eq0-clause-built : goal.operand-returns-then-high-eq0-clause-built
operand-returns-then-high-eq0-clause-built t c = λ tokens s tree rest d stops. let some = height_some tree in omega arith

pub operand-returns-in_default-clause-built : goal.operand-returns-in_default-clause-built
operand-returns-in_default-clause-built t c = λ tokens s.
    let built : List Token → Type 0 = λ x. Builds (means c.args.self.now) c.args.self.now.text.now c.args.parens 0 c.args.high x (Err TooHigh) in
    subst built (sym (none_left c.args.self.now.text.now c.args.at tokens c.in_default.ensures s))
    (λ tree rest d stops. absurd (no_operand (means c.args.self.now) d))

pub operand-returns-in-Symbol-clause-built : goal.operand-returns-in-Symbol-clause-built
operand-returns-in-Symbol-clause-built t c = λ tokens s.
    let built : List Token → Type 0 = λ x. Builds (means c.args.self.now) c.args.self.now.text.now c.args.parens 0 c.args.high x c.behind_symbol.result in
    let (more, is, left) = stands_left c.args.self.now.text.now c.args.at c.in-Some.next tokens c.in-Some.ensures s in
    subst built (sym (is ∙ ap (λ x. plain x ∷ more) c.in-Symbol.is)) (c.behind_symbol.ensures.built more left)

pub operand-returns-in-Atom-clause-built : goal.operand-returns-in-Atom-clause-built
operand-returns-in-Atom-clause-built t c = λ tokens s.
    let built : List Token → Type 0 = λ x. Builds (means c.args.self.now) c.args.self.now.text.now c.args.parens 0 c.args.high x c.atom.result in
    let (more, is, left) = stands_left c.args.self.now.text.now c.args.at c.in-Some.next tokens c.in-Some.ensures s in
    subst built (sym (is ∙ ap (λ x. plain x ∷ more) c.in-Atom.is)) (c.atom.ensures.built c.args.parens c.args.high more left)

pub operand-returns-in-Variable-clause-built : goal.operand-returns-in-Variable-clause-built
operand-returns-in-Variable-clause-built t c = λ tokens s.
    let built : List Token → Type 0 = λ x. Builds (means c.args.self.now) c.args.self.now.text.now c.args.parens 0 c.args.high x (Err TooHigh) in
    let (more, is, left) = stands_left c.args.self.now.text.now c.args.at c.in-Some.next tokens c.in-Some.ensures s in
    subst built (sym (is ∙ ap (λ x. plain x ∷ more) c.in-Variable.is))
    (λ tree rest d stops. absurd (no_variable (means c.args.self.now) d))

pub operand-returns-in-Nothing-clause-built : goal.operand-returns-in-Nothing-clause-built
operand-returns-in-Nothing-clause-built t c = λ tokens s.
    let built : List Token → Type 0 = λ x. Builds (means c.args.self.now) c.args.self.now.text.now c.args.parens 0 c.args.high x (Err TooHigh) in
    let (more, is, left) = stands_left c.args.self.now.text.now c.args.at c.in-Some.next tokens c.in-Some.ensures s in
    subst built (sym (is ∙ ap (λ x. plain x ∷ more) c.in-Nothing.is))
    (λ tree rest d stops. absurd (no_nothing (means c.args.self.now) d))

pub behind_symbol-returns-in-True-clause-built : goal.behind_symbol-returns-in-True-clause-built
behind_symbol-returns-in-True-clause-built t c = λ tokens s tree rest d stops.
    let (same, left) = constant_parts (means c.args.self.now) (rw c.in-True.is refl) d in
    leaf_parsed (means c.args.self.now) c.args.self.now.text.now tree always rest tokens c.leaf.result (rw c.leaf.ensures.body refl) same refl c.leaf.ensures.height left (c.leaf.ensures.followed tokens s)

pub prefixed-returns-in_err-operand-clause-built : goal.prefixed-returns-in_err-operand-clause-built
prefixed-returns-in_err-operand-clause-built t c = λ s tokens u left.
    let p = err_from_is_err_and c.from_residual.result c.from_residual.ensures.1 in
    rw (p.1, p.2)
    (prefixed_refused (means c.args.self.now) c.args.self.now.text.now c.args.parens c.args.high tokens s c.args.operator c.in_err-operand.field-0.0 c.requires.high u (c.in_err-operand.ensures.built tokens left))

pub prefixed-returns-clause-built : goal.prefixed-returns-clause-built
prefixed-returns-clause-built t c = λ s tokens u left.
    prefixed_parsed (means c.args.self.now) c.args.self.now.text.now c.args.parens c.args.high tokens s c.args.operator c.in_ok-operand.operand _ u (c.in_ok-operand.ensures.built tokens left) c.in_ok-body.ensures (add-one c.in_ok-operand.operand.height) refl

pub group-returns-in_err-inner-clause-built : goal.group-returns-in_err-inner-clause-built
group-returns-in_err-inner-clause-built t c = λ tokens s.
    let p = err_from_is_err_and c.from_residual.result c.from_residual.ensures.1 in
    rw (p.1, p.2)
    (group_refused (means c.args.self.now) c.args.self.now.text.now c.args.parens c.args.high tokens c.in_err-inner.field-0.0 (c.in_err-inner.ensures.built tokens s))

pub group-returns-in-None-clause-built : goal.group-returns-in-None-clause-built
group-returns-in-None-clause-built t c = λ tokens s.
    group_open (means c.args.self.now) c.args.self.now.text.now c.args.parens c.args.high tokens c.in_ok-inner.inner TooHigh (c.in_ok-inner.ensures.built tokens s) c.in-None.ensures

pub group-returns-in-Some-clause-built : goal.group-returns-in-Some-clause-built
group-returns-in-Some-clause-built t c = λ tokens s.
    group_parsed (means c.args.self.now) c.args.self.now.text.now c.args.parens c.args.high tokens c.in_ok-inner.inner _ c.in-Some.behind (c.in_ok-inner.ensures.built tokens s) c.in-Some.ensures c.what_follows.ensures.followed refl refl
