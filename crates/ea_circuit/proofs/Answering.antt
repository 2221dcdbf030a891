-- From what is found of plans to what is said of formulas.
use Rattle.std.proofs.Common.{◌≡◌, ◌≢◌, List, length, IsTrue, IfOk, Result, inl, inr, subst}
use Rattle.hy_formula.specs.Classes.{class_of}
use Rattle.hy_formula.specs.Trees.{Tree, vars_below}
use Rattle.hy_formula.specs.declared.classes.Class.TheVariants.{Other}
use Rattle.hy_formula.specs.declared.prefix.Quant.{Quant}
use Rattle.ea_reduce.specs.Fulfilled.{IsOfOneKind}
use Rattle.ea_reduce.specs.Plans.{PlainPlan, implication, reduction}
use Rattle.ea_reduce.proofs.Reducing.{satisfiable-reduced}
use Rattle.ea_core.specs.declared.decision.Decision.TheVariants as core
use Rattle.ea_core.proofs.Searching.{formula-decided, implication-decided, nothing-implied}
use Rattle.mc_core.specs.declared.ask.Ask.{Ask}
use Rattle.invar_find.proofs.Starting.{if-ok-map}
use Rattle.ea_circuit.specs.declared.circuit_error.CircuitError.{CircuitError}
use Rattle.ea_circuit.specs.declared.found.Found.{Found}
use Rattle.ea_circuit.specs.declared.found.Found.TheVariants.{Sat, Unsat, Unknown}
use Rattle.ea_circuit.specs.declared.found.FoundBoth.{FoundBoth}
use Rattle.ea_circuit.specs.declared.found.FoundBoth.TheVariants as both
use Rattle.ea_circuit.specs.Found.{AreFound, Decides, DecidesEquivalence, DecidesImplication, IsFound}

module _ (prefix : List Quant) (body : Tree) (bound : IsTrue (vars_below (length prefix) body))
    (taken : class_of prefix ≢ Other) (ask : Ask) where
  formula-found : (found : Found) → IsFound (reduction prefix body) ask found →
      Decides prefix body ask found
  formula-found (Sat list) s = formula-decided prefix body bound taken (core.Sat list) s
  formula-found (Unsat proof) (none, is) =
      (λ s. none (satisfiable-reduced prefix body bound taken s), is)
  formula-found (Unknown unknown) h = h

  pub formula-answer : (plan : PlainPlan) → plan ≡ reduction prefix body →
      (r : Result Found CircuitError) → IfOk r (IsFound plan ask) → IfOk r (Decides prefix body ask)
  formula-answer plan same r is =
      if-ok-map r _ _ is (λ found h.
      formula-found found (subst (λ p. IsFound p ask found) same h))

module _ (first : List Quant) (body : Tree) (second : List Quant) (other : Tree)
    (bound : IsTrue (vars_below (length first) body))
    (below : IsTrue (vars_below (length second) other)) (one : IsOfOneKind first)
    (two : IsOfOneKind second) (ask : Ask) where
  implication-found : (found : Found) → IsFound (implication first body second other) ask found →
      DecidesImplication first body second other ask found
  implication-found (Sat list) s =
      implication-decided first body second other bound below one two (core.Sat list) s
  implication-found (Unsat proof) (none, is) =
      (nothing-implied first body second other bound below one two none, is)
  implication-found (Unknown unknown) h = h

  pub implication-answer : (plan : PlainPlan) → plan ≡ implication first body second other →
      (r : Result Found CircuitError) → IfOk r (IsFound plan ask) →
      IfOk r (DecidesImplication first body second other ask)
  implication-answer plan same r is =
      if-ok-map r _ _ is (λ found h.
      implication-found found (subst (λ p. IsFound p ask found) same h))

pub equivalence-answer : (first : List Quant) (body : Tree) (second : List Quant) (other : Tree) →
    IsTrue (vars_below (length first) body) → IsTrue (vars_below (length second) other) →
    IsOfOneKind first → IsOfOneKind second → (ask : Ask) → (plan converse : PlainPlan) →
    plan ≡ implication first body second other → converse ≡ implication second other first body →
    (r : Result FoundBoth CircuitError) → IfOk r (AreFound plan converse ask) →
    IfOk r (DecidesEquivalence first body second other ask)
equivalence-answer first body second other bound below one two ask plan converse same also r is =
    if-ok-map r _ _ is (λ found h.
    at found (subst (λ q. AreFound (implication first body second other) q ask found) also
    (subst (λ p. AreFound p converse ask found) same h)))
  where
    there : (found : Found) → IsFound (implication first body second other) ask found →
        DecidesImplication first body second other ask found
    there = implication-found first body second other bound below one two ask

    back : (found : Found) → IsFound (implication second other first body) ask found →
        DecidesImplication second other first body ask found
    back = implication-found second other first body below bound two one ask

    at : (found : FoundBoth) →
        AreFound (implication first body second other) (implication second other first body) ask found →
        DecidesEquivalence first body second other ask found
    at (both.Same proof proof') (p, q) = (there (Unsat proof) p, back (Unsat proof') q)
    at (both.First list) p = there (Sat list) p
    at (both.Second list) (none, q) =
        (nothing-implied first body second other bound below one two none, back (Sat list) q)
    at (both.Unknown unknown) (inl p) = inl p
    at (both.Unknown unknown) (inr (none, q)) =
        inr (nothing-implied first body second other bound below one two none, q)
