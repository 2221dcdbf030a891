use Rattle.std.proofs.Common.{true, [], refl}
use Rattle.rv_watch.specs.Runs.{unspecified}
use Rattle.rv_tool.proofs.FirstSpecs.{few-quantifiers, read-few}
use Rattle.rv_watch.proofs.Commands.{monitored-follows, unmonitored-follows}
use Rattle.rv_watch.proofs.monitoring.monitor.Goals as goal

pub returns-in-Err-clause-follows : goal.returns-in-Err-clause-follows
returns-in-Err-clause-follows g c =
    rw c.file_refusal.ensures ([], unspecified c.in-Err.fault (rw c.requires at c.in-Err.ensures.failed), refl)

pub new-requires-clause-quantifiers : goal.new-requires-clause-quantifiers
new-requires-clause-quantifiers g c =
    rw c.as_slice.ensures (few-quantifiers c.in-Ok.specs (read-few true 4 _ _ _ _ c.in-Ok.ensures.taken.is).1)

pub returns-in-Ok-new-clause-follows : goal.returns-in-Ok-new-clause-follows
returns-in-Ok-new-clause-follows g c =
    let (said, watches, heard) = c.watch_on.ensures.2 in (
      said,
      monitored-follows g.S.Shelf _ _ _ _ c.in-Ok.specs _ (rw c.requires at c.in-Ok.ensures.taken) _ said _ _
          (rw c.as_slice.ensures at c.in-Ok-new.ensures.universal) (rw c.as_slice.ensures at c.in-Ok-new.ensures.taken)
          (rw c.as_slice.ensures at c.in-Ok-new.ensures.specs) watches,
      heard,
    )

pub returns-clause-follows : goal.returns-clause-follows
returns-clause-follows g c =
    rw c.new_refusal.ensures (
      [],
      unmonitored-follows g.S.Shelf _ _ _ _ c.in-Ok.specs _ (rw c.requires at c.in-Ok.ensures.taken) c.in-Err-new.error
          (rw c.as_slice.ensures at c.in-Err-new.ensures.refused),
      refl,
    )
