use Rattle.std.proofs.Common.{ℕ, List, Option, sym, subst, ◌≤◌, length, IfSome}
use denote.Ref.{Bor}
use Rattle.ltl_tableau.specs.Tasks.{set_of}
use Rattle.rank_judge.specs.Judged.{IsJudgedAt}
use Rattle.rank_judge.specs.Kept.{IsProofRead}
use Rattle.rank_judge.proofs.Keeping.{judged_left, left_shorter}
use Rattle.rank_judge.proofs.judge.judge_wide.Goals as goal

pub returns-in_default-clause-judged : goal.returns-in_default-clause-judged
returns-in_default-clause-judged g c said rest some first =
    let P : Option (Bor (List ℕ)) → Type 0 =
    IsProofRead c.args.c.now.nodes said rest c.read_proof.new.proof in
    let none = subst P c.in_default.is (c.in_ok-left.ensures.read said rest some first) in
    none (set_of c.args.c.now.roots)

pub returns-clause-judged : goal.returns-clause-judged
returns-clause-judged g c said rest some first =
    let P : Option (Bor (List ℕ)) → Type 0 =
    IsJudgedAt c.args.c.now.nodes (set_of c.args.c.now.roots) said rest in
    subst P (sym c.then_some.ensures)
    (judged_left c.args.c.now.nodes c.root_set-roots.result (set_of c.args.c.now.roots) said rest
    c.read_proof.new.proof c.in_ok-left.field-0 c.in-Some.left c.in_ok-is_proof.is_proof
    (c.in_ok-left.ensures.read said rest some first) c.in-Some.is c.root_set-roots.ensures
    c.in_ok-is_proof.ensures)

pub returns-clause-shorter : goal.returns-clause-shorter
returns-clause-shorter g c =
    let P : Option (Bor (List ℕ)) → Type 0 =
    λ o. IfSome o (λ left. length left.now ≤ length c.args.text.now) in
    subst P (sym c.then_some.ensures)
    (left_shorter c.in_ok-is_proof.is_proof c.in-Some.left (length c.args.text.now)
    (subst P c.in-Some.is c.in_ok-left.ensures.shorter))
