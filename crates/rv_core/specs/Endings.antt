-- Which specs a list of traces violates, and how a run of events ends: at the first event that is
-- refused or brings a trace after which the traces that arrived violate a spec, or behind the last
-- event.
use Rattle.std.specs.Prelude.{◌≡◌, ℕ, suc, ◌<◌, ◌⊎◌, Bool, true, false, List, [], ◌∷◌, length, slice_index_or}
use Rattle.hy_formula.specs.Trees.{Tree, always}
use Rattle.hy_formula.specs.Quantifiers.{Each}
use Rattle.hy_finite.specs.declared.event.Event.{Event}
use Rattle.hy_finite.specs.declared.event.Event.TheVariants as event
use Rattle.hy_finite.specs.declared.lengths.Lengths.{Lengths}
use Rattle.hy_finite.specs.Traces.{Trace, Violates}
use Rattle.rv_core.specs.Histories.{Present, History, Refusal, Step, refused, goes, step, arrives}

-- a universal formula: how many variables it has, and its body
pub record Spec : Type 0 where
  pub variables : ℕ
  pub body : Tree

abbrev pub spec_at : List Spec → ℕ → Spec
spec_at specs s = slice_index_or specs s (record { variables = 0; body = always })

abbrev pub ViolatesSpec : Lengths → List Trace → Spec → Type 0
ViolatesSpec rule list spec = Violates rule spec.variables spec.body list

-- The list violates no spec.
abbrev pub IsClean : Lengths → List Spec → List Trace → Type 0
IsClean rule specs list = (s : ℕ) → s < length specs → ¬ ViolatesSpec rule list (spec_at specs s)

-- The spec is the first one that the list violates.
pub record FirstViolated (rule : Lengths) (specs : List Spec) (list : List Trace)
    (s : ℕ) : Type 0 where
  pub there : s < length specs
  pub violated : ViolatesSpec rule list (spec_at specs s)
  pub before : (r : ℕ) → r < s → ¬ ViolatesSpec rule list (spec_at specs r)

-- how a run ends: behind its last event, with what came of all; at an event that is refused, by its
-- number; or at an arrival, by its number, with the first spec that is violated and what came of
-- the events up to it
pub data Ending : Type 0 where
  clean : History → Ending
  refusal : ℕ → Refusal → Ending
  violation : ℕ → ℕ → History → Ending

-- what comes of event k, where `Rest` says how the run ends from the next history
abbrev pub Comes : Lengths → List Spec → ℕ → Bool → Step → (History → Type 0) → Ending → Type 0
Comes rule specs k arriving (refused r) Rest ending = ending ≡ refusal k r
Comes rule specs k false (goes h) Rest ending = Rest h
Comes rule specs k true (goes h) Rest ending =
    ((s : ℕ) × FirstViolated rule specs h.present.arrived s × (ending ≡ violation k s h))
    ⊎ (IsClean rule specs h.present.arrived × Rest h)

-- how events end from a history, the first of them being event k
abbrev pub Ends : Lengths → List Spec → ℕ → History → List Event → Ending → Type 0
Ends rule specs k h [] ending = ending ≡ clean h
Ends rule specs k h (e ∷ es) ending =
    Comes rule specs k (arrives e) (step h e)
    (λ next. Ends rule specs (suc k) next es ending) ending

-- Each back has its save among the events, of which n are before them, and each save its back.
abbrev pub Matched : ℕ → List Event → Type 0
Matched n [] = n ≡ 0
Matched n (event.Save ∷ es) = Matched (suc n) es
Matched n (event.Back ∷ es) = (m : ℕ) × (n ≡ suc m) × Matched m es
Matched n (event.Whole t ∷ es) = Matched n es
Matched n (event.Letter s a ∷ es) = Matched n es
Matched n (event.End s ∷ es) = Matched n es

-- No list of arrived traces violates a spec, neither the present one nor a saved one.
pub record IsQuiet (rule : Lengths) (specs : List Spec) (h : History) : Type 0 where
  pub now : IsClean rule specs h.present.arrived
  pub saved : Each (λ (p : Present). IsClean rule specs p.arrived) h.saves
