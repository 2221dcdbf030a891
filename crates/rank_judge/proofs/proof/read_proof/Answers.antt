use Rattle.std.proofs.Common.{◌≢◌, ℕ, List, [], ◌++◌, Option, sym, subst}
use Rattle.std.proofs.lemmas.Result.{IfOk-weaker}
use denote.Ref.{Bor}
use Rattle.ltl_tableau.specs.Ranks.{Ranked}
use Rattle.rank_judge.specs.Kept.{AreOf, AreEntriesRead}
use Rattle.rank_judge.proofs.Keeping.{no_proof_entries, proof_read}
use Rattle.rank_judge.proofs.Walking.{no_append}
use Rattle.rank_judge.proofs.proof.read_proof.Goals as goal

pub returns-in_default-clause-read : goal.returns-in_default-clause-read
returns-in_default-clause-read g c said rest some first =
    absurd (c.in_default.ensures.head said rest some first)

pub returns-in_default-2-clause-read : goal.returns-in_default-2-clause-read
returns-in_default-2-clause-read g c said rest some first =
    let head = c.in-Some.ensures.head said rest some first in
    let more : head.reasons ++ rest ≢ [] = λ e. some (no_append head.reasons rest e) in
    let P : Option (Bor (List ℕ)) → Type 0 =
    AreEntriesRead c.args.c.now.nodes c.in-Some.ranks said.branches (head.reasons ++ rest)
    c.read_entries.new.proof.entries in
    no_proof_entries c.args.c.now.nodes c.in-Some.ranks said head.ranks_many
    (subst P c.in_default-2.is
    (c.in_ok-left.ensures.entries said.branches (head.reasons ++ rest) head.branches_many more
    head.entries))

pub returns-clause-read : goal.returns-clause-read
returns-clause-read g c =
    IfOk-weaker c.read_reasons.result _ _ (λ left read said rest some first.
    let head = c.in-Some.ensures.head said rest some first in
    let more : head.reasons ++ rest ≢ [] = λ e. some (no_append head.reasons rest e) in
    let P : Option (Bor (List ℕ)) → Type 0 =
    AreEntriesRead c.args.c.now.nodes c.in-Some.ranks said.branches (head.reasons ++ rest)
    c.read_entries.new.proof.entries in
    let both = subst P c.in-Some-2.is
    (c.in_ok-left.ensures.entries said.branches (head.reasons ++ rest) head.branches_many more
    head.entries) in
    let Q : List Ranked → Type 0 = AreOf said.branches in
    proof_read c.args.c.now.nodes said rest c.read_reasons.new.proof left
    (subst Q (sym c.read_reasons.ensures.entries) both.0)
    (read said.reasons rest head.ranks_many some
    (record { lines = head.reasons; parts = both.1; said = head.ranks_said })))
    c.read_reasons.ensures.reasons
