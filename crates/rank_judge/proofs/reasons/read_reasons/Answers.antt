use Rattle.std.proofs.Common.{◌≡◌, ◌∷◌, ◌++◌, ◌∙◌, [], refl, ap, arith}
use Rattle.std.specs.Option.{ForSome, option_copied}
use Rattle.hy_text.specs.Lines.{left_len}
use Rattle.ltl_tableau.specs.Ranks.{IsUntilNode}
use Rattle.cert_text.specs.RankLines.{SaysReason}
use Rattle.rank_judge.proofs.Keeping.{not_each}
use Rattle.rank_judge.proofs.Walking.{walk_begins, walk_cut, next_ends, walk_more, walk_ends}
use Rattle.rank_judge.proofs.reasons.read_reasons.Goals as goal

pub loop-rank-init : goal.loop-rank-init
loop-rank-init g c = record {
  read = λ reasons rest many some first.
      walk_begins SaysReason (λ front. c.args.proof.now.reasons ≡ front) c.args.text.now
      reasons rest first c.requires;
  entries = refl;
  shorter = omega arith;
}

pub returns-in_default-clause-reasons : goal.returns-in_default-clause-reasons
returns-in_default-clause-reasons g c reasons rest many some first =
    absurd (next_ends SaysReason _ reasons rest _ c.split_line.result.0.now some
    (walk_cut SaysReason many c.loop-rank-test.true (c.loop-rank.invariant.read reasons rest many some first)
    c.split_line.ensures.lines c.in_default.is))

pub returns-in_default-reason_of-clause-reasons : goal.returns-in_default-reason_of-clause-reasons
returns-in_default-reason_of-clause-reasons g c reasons rest many some first =
    let next =
    walk_cut SaysReason many c.loop-rank-test.true (c.loop-rank.invariant.read reasons rest many some first)
    c.split_line.ensures.lines c.in-Some.is in
    not_each (λ reason. ForSome reason (IsUntilNode c.args.c.now.nodes)) reasons next.front
    next.back next.value next.parts (c.in_default-reason_of.ensures next.value next.says)

pub loop-rank-preserved : goal.loop-rank-preserved
loop-rank-preserved g c = record {
  read = λ reasons rest many some first.
      let next =
      walk_cut SaysReason many c.loop-rank-test.true (c.loop-rank.invariant.read reasons rest many some first)
      c.split_line.ensures.lines c.in-Some.is in
      let same = c.in-Some-reason_of.ensures next.value next.says in
      walk_more SaysReason _ _ reasons rest _ c.split_line.result.0.now c.in-Some.behind.now next
      (c.in_ok-add_reason.ensures.reasons ∙ ap (λ l. l ++ c.in-Some-reason_of.reason ∷ []) next.done
      ∙ ap (λ r. next.front ++ r ∷ []) same);
  entries = c.in_ok-add_reason.ensures.entries ∙ c.loop-rank.invariant.entries;
  shorter =
      let shorter = ap (λ o. left_len (option_copied o)) c.in-Some.is in
      omega (arith, shorter, c.split_line.ensures.fewer, c.loop-rank.invariant.shorter);
}

pub returns-clause-reasons : goal.returns-clause-reasons
returns-clause-reasons g c reasons rest many some first =
    walk_ends SaysReason _ reasons rest _ c.loop-rank.left.now
    (c.loop-rank.invariant.read reasons rest many some first)
    (omega (arith, many, c.loop-rank-test.false))
