use Rattle.std.proofs.Common.{[], ◌∷◌, ◌++◌, sym, ◌∙◌, arith, length-append}
use Rattle.std.proofs.lemmas.Result.{on_err_weaker}
use Rattle.hy_text.specs.Names.{spelled}
use Rattle.hy_text.proofs.Fronts.{on_err, front_none, front_behind, spelled_some, quoted_front}
use Rattle.hy_text.proofs.names.push_name.Goals as goal

pub returns-then-is_plain-clause-refused : goal.returns-then-is_plain-clause-refused
returns-then-is_plain-clause-refused c =
    on_err_weaker c.extend.result
    (front_none c.args.out.now c.extend.new.self (spelled c.args.name.now) (spelled_some c.args.name.now))
    c.extend.ensures.refused

-- the first quote
pub returns-in_err-push-clause-refused : goal.returns-in_err-push-clause-refused
returns-in_err-push-clause-refused c =
    on_err c.from_residual.result
    (front_none c.args.out.now c.push.new.self (spelled c.args.name.now)
    (spelled_some c.args.name.now) c.in_err-push.ensures.refused)

-- what stands between the quotes
pub returns-in_err-extend-clause-refused : goal.returns-in_err-extend-clause-refused
returns-in_err-extend-clause-refused c =
    let plain = sym c.is_plain.ensures ∙ c.if-is_plain.false in
    on_err c.from_residual-in_err-extend.result
    (quoted_front c.args.out.now c.push.new.self c.extend-2.new.self c.args.name.now plain
    c.in_ok-push.ensures.added
    (front_none c.push.new.self c.extend-2.new.self (c.args.name.now ++ 34 ∷ [])
    (omega (arith, length-append c.args.name.now (34 ∷ [])))
    c.in_err-extend.ensures.refused))

-- the last quote
pub returns-clause-refused : goal.returns-clause-refused
returns-clause-refused c =
    let plain = sym c.is_plain.ensures ∙ c.if-is_plain.false in
    on_err_weaker c.push-2.result
    (λ same. quoted_front c.args.out.now c.push.new.self c.push-2.new.self c.args.name.now plain
    c.in_ok-push.ensures.added
    (front_behind c.push.new.self c.extend-2.new.self c.push-2.new.self c.args.name.now (34 ∷ [])
    c.in_ok-extend.ensures.added
    (front_none c.extend-2.new.self c.push-2.new.self (34 ∷ []) (omega arith) same)))
    c.push-2.ensures.refused
