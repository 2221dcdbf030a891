use Rattle.std.proofs.Common.{◌≡◌, ℕ, false, inl, inr, ap, ◌∙◌, subst, arith}
use Rattle.std.proofs.lemmas.Bool.{cases_lt}
use Rattle.std.proofs.lemmas.Option.{get_or_from_slice_get}
use Rattle.fin_monitor.specs.Machines.{Machine}
use Rattle.fin_monitor.specs.Seen.{machine_of}
use Rattle.fin_monitor.specs.Tables.{flag_at}
use Rattle.dominance.specs.Telling.{MayStay}
use Rattle.dominance.proofs.rejecting.Moves.are_closed.Goals as goal
use Rattle.dominance.proofs.rejecting.Moves.are_closed.Goals.{else-at-via-then-at+else-not-may_stay, else-at-via-else-at}

pub loop-q-preserved : goal.loop-q-preserved
loop-q-preserved g c = λ q lt flag.
    let m : Machine = machine_of c.args.self.now.monitor.now in
    elim (cases_lt q c.loop-q.q) [
      | inl less ↦ c.loop-q.invariant q less flag
      | inr ge ↦
          let same : c.loop-q.q ≡ q = omega arith in
          let P : ℕ → Type 0 = MayStay m c.args.self.now.parts.now c.args.self.now.codes.now
          c.args.among.now in
          let is = get_or_from_slice_get c.args.among.now c.loop-q.q c.at.result.now false
          c.at.ensures in
          elim c.else-at.branch [
            | else-at-via-then-at+else-not-may_stay w ↦
                subst P same (w.may_stay.ensures w.if-not-may_stay.false)
            | else-at-via-else-at w ↦
                let off = w.if-at.false in
                let on = ap (flag_at c.args.among.now) same ∙ flag in
                absurd (cc)
          ]
    ]
