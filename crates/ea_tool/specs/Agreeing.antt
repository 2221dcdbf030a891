-- When two answers to a question say the same.
use Rattle.std.specs.Prelude.{◌≡◌, ◌≢◌, ◌⊎◌, ℕ, List, Ok, Err}
use Rattle.hy_bits.specs.Letter.{Letter}
use Rattle.hy_formula.specs.Lassos.{Lasso}
use Rattle.rank_proofs.specs.declared.rank_proof.RankProof.{RankProof}
use Rattle.mc_core.specs.QueryLimits.{IsQueryLimit}
use Rattle.hy_run.specs.Runs.{Answer}
use Rattle.hy_run.specs.declared.refusal.Refusal.TheVariants.{Limit}
use Rattle.ea_tool.specs.declared.verdict.CircuitVerdict.TheVariants as circuit
use Rattle.ea_tool.specs.declared.verdict.EaFault.{EaFault}
use Rattle.ea_tool.specs.declared.verdict.EaVerdict.{EaVerdict}
use Rattle.ea_tool.specs.declared.verdict.EaVerdict.TheVariants.{Sat, Unsat, NoneWithin, Spent, Implied, NotImplied, Equivalent, NotEquivalent, ByCircuit}

-- What a search within a bound answers where its question is not too large.
abbrev pub IsOfSearch : EaVerdict → Type 0
IsOfSearch (Sat list) = Unit {0}
IsOfSearch (NoneWithin log) = Unit {0}
IsOfSearch (Spent conflicts log) = Unit {0}
IsOfSearch _ = ⊥

-- One says that the formula is satisfied within the bound, and the other that it is not.
abbrev pub Deny : EaVerdict → EaVerdict → Type 0
Deny (Sat list) (NoneWithin log) = Unit {0}
Deny (NoneWithin log) (Sat list) = Unit {0}
Deny _ _ = ⊥

-- What is answered by a free circuit where plans are counted.
abbrev pub IsOfCircuit : Answer EaVerdict EaFault → Type 0
IsOfCircuit (Ok (Sat list)) = Unit {0}
IsOfCircuit (Ok (NotImplied list)) = Unit {0}
IsOfCircuit (Ok (NotEquivalent side list)) = Unit {0}
IsOfCircuit (Ok (ByCircuit verdict)) = Unit {0}
IsOfCircuit (Err (Limit kind limit)) = IsQueryLimit kind
IsOfCircuit _ = ⊥

-- It gives lassos that show the verdict.
abbrev pub HasList : Answer EaVerdict EaFault → Type 0
HasList (Ok (Sat list)) = Unit {0}
HasList (Ok (NotImplied list)) = Unit {0}
HasList (Ok (NotEquivalent side list)) = Unit {0}
HasList _ = ⊥

-- It says by a proof that there are none.
abbrev pub IsRefuted : Answer EaVerdict EaFault → Type 0
IsRefuted (Ok (ByCircuit (circuit.Unsat proof))) = Unit {0}
IsRefuted (Ok (ByCircuit (circuit.Implied proof))) = Unit {0}
IsRefuted (Ok (ByCircuit (circuit.Equivalent first second))) = Unit {0}
IsRefuted _ = ⊥

-- Its lassos satisfy the formula of this side alone.
abbrev pub IsSide : Answer EaVerdict EaFault → ℕ → Type 0
IsSide (Ok (NotEquivalent side list)) other = side ≡ other
IsSide _ other = ⊥

-- One gives lassos, and the other says that there are none; or they give some for different sides.
abbrev pub DenyByCircuit : Answer EaVerdict EaFault → Answer EaVerdict EaFault → Type 0
DenyByCircuit a b =
    (HasList a × IsRefuted b) ⊎ (IsRefuted a × HasList b)
    ⊎ ((side other : ℕ) × IsSide a side × IsSide b other × (side ≢ other))

-- Two answers say the same. Those that give lassos or proofs as evidence may give different ones, and a search, or a free
-- circuit, may give up where another goes on, but no two deny each other.
pub data Agree : Answer EaVerdict EaFault → Answer EaVerdict EaFault → Type 0 where
  same : (answer : Answer EaVerdict EaFault) → Agree answer answer
  other_model : (list other : List (Lasso Letter)) → Agree (Ok (Sat list)) (Ok (Sat other))
  other_proof : (proof other : RankProof) → Agree (Ok (Unsat proof)) (Ok (Unsat other))
  other_implied : (proof other : RankProof) → Agree (Ok (Implied proof)) (Ok (Implied other))
  other_proofs : (first second third fourth : RankProof) → Agree (Ok (Equivalent first second)) (Ok (Equivalent third fourth))
  other_witness : (list other : List (Lasso Letter)) → Agree (Ok (NotImplied list)) (Ok (NotImplied other))
  other_search : (a b : EaVerdict) → IsOfSearch a → IsOfSearch b → ¬ Deny a b → Agree (Ok a) (Ok b)
  other_side : (side : ℕ) (list other : List (Lasso Letter)) → Agree (Ok (NotEquivalent side list)) (Ok (NotEquivalent side other))
  other_circuit : (a b : Answer EaVerdict EaFault) → IsOfCircuit a → IsOfCircuit b → ¬ DenyByCircuit a b → Agree a b
