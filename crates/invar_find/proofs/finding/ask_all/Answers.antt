use Rattle.std.proofs.Common.{◌≡◌, ◌+◌, ◌*◌, ◌<◌, Option, List, length, sym, ap, subst, ◌∙◌, arith}
use Rattle.std.specs.Prelude.{MatchOption}
use Rattle.std.proofs.lemmas.Result.{err_from_is_err_and}
use Rattle.chain_check.specs.declared.logs.Learned.{Learned}
use Rattle.cnf_frames.specs.declared.facts.Fact.{Fact}
use Rattle.cnf_frames.specs.declared.queries.Asked.TheVariants.{Keep}
use Rattle.cnf_frames.specs.Fronts.{IsKeepFront}
use Rattle.cnf_frames.specs.Queries.{IsWithin}
use Rattle.cnf_frames.specs.Proofs.{IsRefuted}
use Rattle.invar_find.proofs.Settled.{AreSettled}
use Rattle.invar_find.proofs.Searching.{settled-more, stopped}
use Rattle.invar_find.proofs.finding.ask_all.Goals as goal

pub returns-in_err-front-clause-refused : goal.returns-in_err-front-clause-refused
returns-in_err-front-clause-refused c =
    let p = err_from_is_err_and c.from_residual.result
    c.from_residual.ensures.1 in
    rw (p.1, p.2)
    (stopped c.args.trial.now.safe.now c.args.trial.now.candidates.now c.groups.facts 0
    c.in_err-front.field-0.0 c.groups.invariant.searching.starting
    (omega (arith, c.groups-test.true, c.len.ensures)) c.in_err-front.ensures.refused)

pub groups-preserved-in-Some : goal.groups-preserved-in-Some
groups-preserved-in-Some c =
    let R : Option (List Learned) → Type 0 = λ found. MatchOption found
    (length c.ask_group.new.facts < length c.groups.facts) (λ log.
    (c.ask_group.new.facts ≡ c.groups.facts)
    × IsRefuted c.args.trial.now.safe.now (Keep c.groups.facts c.groups.group) log
    × IsWithin c.args.trial.now.safe.now (Keep c.groups.facts c.groups.group)) in
    let reply = subst R c.in-Some.is c.in_ok-log.ensures.reply in
    let same : length c.ask_group.new.facts ≡ length c.groups.facts = ap length reply.0 in
    let test : 64 * c.groups.group < length c.groups.facts = omega (arith, c.len.ensures) in
    record {
      searching = c.in_ok-log.ensures.searching;
      fewer = let before = c.groups.invariant.fewer in omega (arith, before, same);
      settled = λ e.
          let S : List Fact → Type 0 = λ facts.
          AreSettled c.args.trial.now.safe.now facts (c.groups.group + 1) c.push.new.self in
          subst S (sym reply.0) (settled-more c.args.trial.now.safe.now c.groups.facts c.groups.group
          c.groups.logs c.push.new.self c.in-Some.log (c.groups.invariant.settled (sym same ∙ e))
          test reply.1 reply.2 c.in_ok-push-in-Some.ensures.added);
      front =
          let F : List Fact → Type 0 = λ facts.
          IsKeepFront c.args.trial.now.safe.now facts c.in_ok-front.front in
          subst F (sym reply.0) c.in_ok-front.ensures.front;
      small = let few = c.groups.invariant.searching.few in omega (arith, few, test);
    }
