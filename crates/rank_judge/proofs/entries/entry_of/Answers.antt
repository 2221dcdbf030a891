use Rattle.std.proofs.Common.{ℕ, List, Option, MatchOption, subst}
use Rattle.cert_text.specs.Lines.{Speaks}
use Rattle.cert_text.specs.RankLines.{SaysBranch}
use Rattle.rank_judge.proofs.Keeping.{entry_said}
use Rattle.rank_judge.proofs.entries.entry_of.Goals as goal

-- what is said of the rank that was read
abbrev Said : List ℕ → List ℕ → List ℕ → Option ℕ → Type 0
Said line now next read =
    MatchOption read (¬ Speaks SaysBranch line)
    (λ rank. SaysBranch line (record { rank = rank; now = now; next = next }))

pub returns-in_default : goal.returns-in_default
returns-in_default g c branch says =
    let none =
    subst (Said c.args.line.now c.read_branch.new.now c.read_branch.new.next) c.in_default.is
    c.in_ok-rank.ensures in
    absurd (none (branch, says))

pub returns : goal.returns
returns g c branch says =
    entry_said c.args.c.now.nodes c.args.ranks c.args.line.now branch c.in-Some.rank
    c.read_branch.new.now c.read_branch.new.next c.as_slice-members.result.now
    c.as_slice-later.result.now c.read_entry.result
    (subst (Said c.args.line.now c.read_branch.new.now c.read_branch.new.next) c.in-Some.is
    c.in_ok-rank.ensures)
    c.as_slice-members.ensures c.as_slice-later.ensures says c.read_entry.ensures
