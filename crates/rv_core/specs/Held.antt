-- What a monitor holds, and the histories that it stands for.
use Rattle.std.specs.Prelude.{◌≡◌, ℕ, ◌≤◌, Bool, true, if◌then◌else◌, List, [], ◌∷◌, length, map}
use Rattle.std.specs.Coded.{×_prop, Unit-prop}
use Rattle.hy_formula.specs.Quantifiers.{Each}
use Rattle.hy_finite.specs.declared.lengths.Lengths.{Lengths}
use Rattle.hy_finite.specs.Traces.{Trace}
use Rattle.fin_monitor.specs.Machines.{Machine}
use Rattle.trace_trie.specs.Numbered.{Numbered}
use Rattle.dominance.specs.Dominance.{IsTrace}
use Rattle.rv_core.specs.declared.saved.Saved.{Saved}
use Rattle.rv_core.specs.Opened.{Open, letters_in}
use Rattle.rv_core.specs.Histories.{Session, Present, History, letters_of}
use Rattle.rv_core.specs.Endings.{Spec, IsQuiet}
use Rattle.rv_core.specs.Keeping.{AreKept, AreBelow, AreBelow-prop, kept_at}

pub record Held : Type 0 where
  pub rule : Lengths
  -- dominated traces are dropped
  pub drop : Bool
  -- for each spec the monitor of its body
  pub machines : List Machine
  -- how many traces have arrived
  pub arrived : ℕ
  -- for each spec the traces that are kept, by number
  pub kept : List (List Numbered)
  pub sessions : Open
  -- the last save first
  pub saves : List Saved
  -- no violation was found
  pub clean : Bool

abbrev pub spec_of : Machine → Spec
spec_of m = record { variables = m.variables; body = m.body }

-- the specs that are watched
abbrev pub specs_of : Held → List Spec
specs_of m = map spec_of m.machines

-- how many traces are said to be kept for a spec, by its number
abbrev pub kept_count : Held → ℕ → ℕ
kept_count m s = if m.drop then length (kept_at m.kept s) else m.arrived

-- Sessions are given by different numbers.
abbrev pub AreApart : List Session → Type 0
AreApart [] = Unit {0}
AreApart (s ∷ ss) = Each (λ (t : Session). ¬ (s.number ≡ t.number)) ss × AreApart ss

-- The open sessions are these, in some order.
pub record AreSessions (sessions : Open) (ss : List Session) : Type 0 where
  pub letters : (n : ℕ) → letters_in n sessions ≡ letters_of n ss
  pub count : length sessions ≡ length ss
  pub apart : AreApart ss

-- A save stands for a pair: it has the traces that arrived, what is kept of them, and the open
-- sessions. They are at most as many traces as arrived later.
pub record IsSave (rule : Lengths) (drop : Bool) (specs : List Spec) (later : List Trace)
    (s : Saved) (p : Present) : Type 0 where
  pub fewer : length p.arrived ≤ length later
  pub some : Each IsTrace p.arrived
  pub count : s.arrived ≡ length p.arrived
  pub kept : AreKept rule drop specs p.arrived s.kept
  pub sessions : AreSessions s.sessions p.sessions

-- The saves stand for pairs, each of which goes on from the next one.
abbrev pub AreSaves : Lengths → Bool → List Spec → List Trace → List Saved → List Present → Type 0
AreSaves rule drop specs later [] [] = Unit {0}
AreSaves rule drop specs later [] (p ∷ ps) = ⊥
AreSaves rule drop specs later (s ∷ ss) [] = ⊥
AreSaves rule drop specs later (s ∷ ss) (p ∷ ps) =
    IsSave rule drop specs later s p × AreSaves rule drop specs p.arrived ss ps

-- The monitor stands for a history: it has the traces that arrived, each of some letters, what is
-- kept of them, the open sessions and the saves, and no list of arrived traces violates a spec.
pub record StandsFor (m : Held) (h : History) : Type 0 where
  pub clean : m.clean ≡ true
  pub some : Each IsTrace h.present.arrived
  pub count : m.arrived ≡ length h.present.arrived
  pub kept : AreKept m.rule m.drop (specs_of m) h.present.arrived m.kept
  pub sessions : AreSessions m.sessions h.present.sessions
  pub saves : AreSaves m.rule m.drop (specs_of m) h.present.arrived m.saves h.saves
  pub quiet : IsQuiet m.rule (specs_of m) h

-- At each save traces were kept for so many specs, by numbers below that of the arrived ones.
abbrev pub AreWithin : ℕ → List Saved → Type 0
AreWithin specs saves = Each (λ (s : Saved). AreBelow specs s.arrived s.kept) saves

pub AreWithin-prop : (specs : ℕ) (saves : List Saved) → IsProp (AreWithin specs saves)
AreWithin-prop specs [] = Unit-prop
AreWithin-prop specs (s ∷ ss) =
    ×_prop (AreBelow-prop specs s.arrived s.kept) (AreWithin-prop specs ss)
