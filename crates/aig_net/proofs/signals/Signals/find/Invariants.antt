use Rattle.std.proofs.Common.{◌≡◌, drop}
use Rattle.aig_net.specs.Signals.{literal_of}
use Rattle.aig_net.proofs.signals.Signals.find.Given as goal

-- the literal is that of a later signal, if any
abbrev pub invariant-loop-signal : goal.invariant-loop-signal
invariant-loop-signal l = literal_of l.self l.name l.var ≡ literal_of
    (drop l.signal-index l.self) l.name l.var
