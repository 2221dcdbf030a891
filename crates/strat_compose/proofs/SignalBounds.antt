-- The literals of signals are of the net's variables, and the variables of atoms of the formula's.
use Rattle.std.proofs.Common.{ℕ, All, map, zero, suc, ◌<◌, Bool, true, false, cond, Some, unwrap_or, List, [], ◌∷◌, get_or, length, inl, inr, sym, subst, arith}
use Rattle.std.proofs.lemmas.List.{get_or_default}
use Rattle.aig_net.specs.declared.signals.Signal.{Signal}
use Rattle.aig_net.specs.Nets.{Below, IsNet, Net, variables}
use Rattle.aig_net.specs.Signals.{is_for, literal_of}
use Rattle.hy_formula.specs.declared.atom.Atom.{Atom}
use Rattle.hy_formula.specs.Trees.{Tree}
use Rattle.net_names.specs.Names.{AreSignals, HasLiteral, name_at}
use Rattle.strat_compose.specs.AtomNumbers.{atom_at}
use Rattle.hy_formula.specs.Atoms.{plain_atom}
use Rattle.strat_compose.specs.Driving.{AreInside, signal_of}

pub own_signal : (net : Net) (signals : List Signal) → AreInside net signals → (name : ℕ) →
    Below (variables net) (signal_of signals name)
own_signal net [] own name = omega arith
own_signal net (s ∷ signals) own name =
    at (is_for name 0 s) (own 0 s (omega arith))
    (own_signal net signals (λ k d lt. own (suc k) d (omega arith)) name)
  where
    at : (b : Bool) → Below (variables net) s.literal →
        Below (variables net) (signal_of signals name) →
        Below (variables net) (unwrap_or (cond b (Some s.literal) (literal_of signals name 0)) 0)
    at true here rest = here
    at false here rest = rest

-- a literal that has a name; it stands in formula_nets, too
literal-inside : (net : Net) → IsNet net → (name : List ℕ) (l : ℕ) → HasLiteral net name l →
    Below (variables net) l
literal-inside net good name l (_, has) = elim has [
  | inl (j, (lt, _), is) ↦ let m = good.input_names.many in omega (arith, m, lt, is)
  | inr more ↦ elim more [
    | inl (j, (lt, _), is) ↦ let m = good.latch_names.many in omega (arith, m, lt, is)
    | inr (j, (lt, _), is) ↦
        let m = good.output_names.many in
        let P : ℕ → Type 0 = Below (variables net) in
        subst P (sym is) (good.outputs j (omega (arith, m, lt)))
  ]
]

-- The literals of a body's names are of the net's variables.
pub own_signals : (net : Net) (names : List (List ℕ)) (body : Tree) (signals : List Signal) →
    IsNet net → AreSignals net names body signals → AreInside net signals
own_signals net names body signals good are k d lt =
    let (_, only) = are.each (get_or signals k d)
    (k, lt, get_or_default signals k (get_or signals k d) d lt) in
    literal-inside net good (name_at names (get_or signals k d).name)
    (get_or signals k d).literal only.has

pub plain-bound : (n : ℕ) (atoms : List Atom) → All (λ a. a.var < n) atoms → (k : ℕ) →
    k < length (map plain_atom atoms) → (atom_at (map plain_atom atoms) k).variable < n
plain-bound n [] all k lt = absurd (omega arith)
plain-bound n (a ∷ atoms) all zero lt = all 0 a (omega arith)
plain-bound n (a ∷ atoms) all (suc k) lt =
    plain-bound n atoms (λ j d small. all (suc j) d (omega arith)) k (omega arith)
