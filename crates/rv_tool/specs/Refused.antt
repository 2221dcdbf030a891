-- How a tool that monitors answers what a monitor refuses.
use Rattle.hy_base.specs.Limits.{most}
use Rattle.hy_run.specs.declared.refusal.Refusal.{Refusal}
use Rattle.hy_run.specs.declared.refusal.Refusal.TheVariants.{Prefix, Limit, Own, Memory}
use Rattle.rv_core.specs.declared.rv_error.RvError.{RvError}
use Rattle.rv_core.specs.declared.rv_error.RvError.TheVariants as errors
use Rattle.rv_core.specs.declared.rv_error.RvNewError.{RvNewError}
use Rattle.rv_core.specs.declared.rv_error.RvNewError.TheVariants as new_errors

-- why an event is refused, where this says that its session is not open, or that nothing is put aside
abbrev pub event_refused : {F : Type 0} → F → RvError → Refusal F
event_refused session errors.NoLetter = Own session
event_refused session errors.NoSave = Own session
event_refused session (errors.Limit kind) = Limit kind (most kind)
event_refused session errors.Memory = Memory

-- why formulas are refused that are not monitored
abbrev pub new_refused : {F : Type 0} → RvNewError → Refusal F
new_refused (new_errors.Prefix spec class) = Prefix 0 class
new_refused (new_errors.Limit kind) = Limit kind (most kind)
new_refused new_errors.Memory = Memory
