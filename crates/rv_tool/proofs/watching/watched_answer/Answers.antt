use Rattle.std.proofs.Common.{◌∙◌, Err, inl, inr, sym, ap, subst}
use Rattle.rv_core.specs.Held.{specs_of}
use Rattle.rv_core.specs.Seen.{held}
use Rattle.rv_tool.specs.Monitoring.{RvAnswer, EventsCome, event_refusal}
use Rattle.rv_tool.specs.Watching.{AreLeft, IsWatched}
use Rattle.rv_tool.specs.declared.watching.Watched.{Watched}
use Rattle.rv_tool.proofs.EventSteps.{or-memory, through-comes}
use Rattle.rv_tool.proofs.watching.watched_answer.Goals as goal

pub returns-in-Through : goal.returns-in-Through
returns-in-Through c source is =
    let m = held c.args.rv.now in
    let P : Watched → Type 0 = IsWatched m.rule m.drop (specs_of m) source m in
    or-memory (through-comes m.rule m.drop (specs_of m) source m c.clean_answer.result (subst P c.in-Through.is is)) c.clean_answer.ensures

pub returns-in-Refused : goal.returns-in-Refused
returns-in-Refused c source is =
    let m = held c.args.rv.now in
    let P : Watched → Type 0 = IsWatched m.rule m.drop (specs_of m) source m in
    let Q : RvAnswer → Type 0 = EventsCome m.rule m.drop (specs_of m) (AreLeft source) in
    elim (subst P c.in-Refused.is is) [
      | inl memory ↦ inl (ap Err (c.event_refusal.ensures ∙ ap (event_refusal c.in-Refused.line) memory))
      | inr come ↦ inr (subst Q (ap Err (sym c.event_refusal.ensures)) come)
    ]

pub returns-in-Violated : goal.returns-in-Violated
returns-in-Violated c source is =
    let m = held c.args.rv.now in
    let P : Watched → Type 0 = IsWatched m.rule m.drop (specs_of m) source m in
    inr (subst P c.in-Violated.is is)
