use Rattle.std.proofs.Common.{◌∙◌, refl, ap, subst, arith}
use Rattle.std.specs.Option.{option_copied}
use Rattle.hy_text.specs.Lines.{left_len}
use Rattle.rank_proofs.specs.Proofs.{ranked_of}
use Rattle.rank_proofs.specs.Readings.{MayBeEntry, IsEntryRead}
use Rattle.cert_text.specs.RankLines.{SaysBranch}
use Rattle.rank_judge.specs.Kept.{AreOf}
use Rattle.rank_judge.proofs.Keeping.{no_entries, entry_is, more_entries, not_all}
use Rattle.rank_judge.proofs.Walking.{walk_begins, walk_cut, next_ends, walk_more, walk_ends}
use Rattle.rank_judge.proofs.entries.read_entries.Goals as goal

pub loop-branch-init : goal.loop-branch-init
loop-branch-init g c = record {
  read = λ branches rest many some first.
      walk_begins SaysBranch (λ front. AreOf front c.args.proof.now.entries) c.args.text.now
      branches rest first (no_entries c.args.proof.now.entries c.requires.empty);
  reasons = refl;
  shorter = omega arith;
}

pub returns-in_default-clause-entries : goal.returns-in_default-clause-entries
returns-in_default-clause-entries g c branches rest many some first =
    absurd (next_ends SaysBranch _ branches rest _ c.split_line.result.0.now some
    (walk_cut SaysBranch many c.loop-branch-test.true (c.loop-branch.invariant.read branches rest many some first)
    c.split_line.ensures.lines c.in_default.is))

pub returns-in_default-2-clause-entries : goal.returns-in_default-2-clause-entries
returns-in_default-2-clause-entries g c branches rest many some first =
    let next =
    walk_cut SaysBranch many c.loop-branch-test.true (c.loop-branch.invariant.read branches rest many some first)
    c.split_line.ensures.lines c.in-Some.is in
    not_all (MayBeEntry c.args.c.now.nodes c.args.ranks) ranked_of branches next.front next.back
    next.value next.parts
    (subst (IsEntryRead c.args.c.now.nodes c.args.ranks next.value) c.in_default-2.is
    (c.in_ok-entry.ensures next.value next.says))

pub loop-branch-preserved : goal.loop-branch-preserved
loop-branch-preserved g c = record {
  read = λ branches rest many some first.
      let next =
      walk_cut SaysBranch many c.loop-branch-test.true (c.loop-branch.invariant.read branches rest many some first)
      c.split_line.ensures.lines c.in-Some.is in
      walk_more SaysBranch _ _ branches rest _ c.split_line.result.0.now c.in-Some.behind.now next
      (more_entries next.front next.value c.loop-branch.proof.entries c.add.new.self.entries
      c.in-Some-2.entry next.done
      (entry_is c.args.c.now.nodes c.args.ranks next.value c.in-Some-2.entry
      (subst (IsEntryRead c.args.c.now.nodes c.args.ranks next.value) c.in-Some-2.is
      (c.in_ok-entry.ensures next.value next.says)))
      c.in_ok-add.ensures.entries);
  reasons = c.in_ok-add.ensures.reasons ∙ c.loop-branch.invariant.reasons;
  shorter =
      let shorter = ap (λ o. left_len (option_copied o)) c.in-Some.is in
      omega (arith, shorter, c.split_line.ensures.fewer, c.loop-branch.invariant.shorter);
}

pub returns-clause-entries : goal.returns-clause-entries
returns-clause-entries g c branches rest many some first =
    walk_ends SaysBranch _ branches rest _ c.loop-branch.left.now
    (c.loop-branch.invariant.read branches rest many some first)
    (omega (arith, many, c.loop-branch-test.false))
