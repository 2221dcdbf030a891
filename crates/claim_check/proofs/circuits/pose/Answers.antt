use Rattle.std.proofs.Common.{◌<◌, ◌≤◌, Bool, Err, ap, inl, length, subst}
use Rattle.std.proofs.lemmas.Result.{err_from_is_err_and}
use Rattle.hy_formula.specs.Formulas.{plain_formula}
use Rattle.hy_formula.specs.Trees.{tree_of}
use Rattle.ltl_closure.specs.Bodies.{body_nodes}
use Rattle.ltl_closure.specs.declared.closure_error.ClosureError.{ClosureError}
use Rattle.rank_proofs.specs.Counts.{most_members}
use Rattle.claim_check.specs.Claims.{circuit}
use Rattle.claim_check.specs.Counting.{IsWithin}
use Rattle.claim_check.proofs.Counted.{closure_stops, joint_stops, names_stop}
use Rattle.claim_check.proofs.circuits.pose.Goals as goal

pub returns-in_err-closure-clause-stopped : goal.returns-in_err-closure-clause-stopped
returns-in_err-closure-clause-stopped c =
    let p = err_from_is_err_and c.from_residual.result c.from_residual.ensures.1 in
    let Large : Bool → Type 0 = λ b. most_members < length (body_nodes (tree_of c.args.f.now.body) b) in
    rw (p.1, p.2)
    (closure_stops c.args.names.now (circuit c.args.net.now (plain_formula c.args.f.now))
    c.args.list.now c.in_err-closure.field-0.0 c.requires.taken tt
    (λ is. inl (subst Large c.requires.kind (c.in_err-closure.ensures.limit (ap (λ (e : ClosureError). Err e) is)))))

pub returns-then-not-are_judged-clause-stopped : goal.returns-then-not-are_judged-clause-stopped
returns-then-not-are_judged-clause-stopped c =
    let Small : Bool → Type 0 = λ b. length (body_nodes (tree_of c.args.f.now.body) b) ≤ most_members in
    rw c.joint.ensures
    (joint_stops c.args.names.now (circuit c.args.net.now (plain_formula c.args.f.now))
    c.args.list.now c.are_judged.result c.requires.taken tt
    (subst Small c.requires.kind c.in_ok-closure.ensures.few, tt) c.are_judged.ensures
    c.if-not-are_judged.true)

pub returns-in_err-signals-clause-stopped : goal.returns-in_err-signals-clause-stopped
returns-in_err-signals-clause-stopped c =
    let p = err_from_is_err_and c.from_residual-in_err-signals.result
    c.from_residual-in_err-signals.ensures.1 in
    let Small : Bool → Type 0 = λ b. length (body_nodes (tree_of c.args.f.now.body) b) ≤ most_members in
    let within : IsWithin (circuit c.args.net.now (plain_formula c.args.f.now)) c.args.list.now =
    record {
      taken = c.requires.taken;
      instances = tt;
      members = (subst Small c.requires.kind c.in_ok-closure.ensures.few, tt);
      positions = c.are_judged.ensures.0 c.if-not-are_judged.false;
    } in
    rw (p.1, p.2)
    (names_stop c.args.names.now c.args.net.now (plain_formula c.args.f.now) c.args.list.now
    c.in_err-signals.field-0.0 within c.in_err-signals.ensures.refused)
