-- A body's closure, atoms and settled automaton make its monitor.
use Rattle.std.proofs.Common.{◌≡◌, ◌^◌, ◌≤◌, ℕ, List, length, map, IsTrue, sym, ap, ◌∙◌, subst, arith, true}
use Rattle.std.proofs.lemmas.List.{length-map}
use Rattle.hy_formula.specs.declared.atom.Atom.{Atom}
use Rattle.hy_formula.specs.Trees.{Tree, vars_below}
use Rattle.ltl_closure.specs.Nodes.{Node}
use Rattle.fin_monitor.specs.declared.automaton.Automaton.{Automaton}
use Rattle.fin_monitor.specs.declared.monitor_error.MonitorError.{MonitorError}
use Rattle.hy_formula.specs.Atoms.{IndexedAtom, plain_atom, atoms_of}
use Rattle.ltl_closure.specs.Bodies.{body_nodes, body_root}
use Rattle.fin_monitor.specs.Limits.{HasSmallClosure, HasFewAtoms, IsTaken, IsRefusal}
use Rattle.fin_monitor.specs.Machines.{Machine, IsMonitor}
use Rattle.fin_monitor.specs.Tables.{row_of, IsAutomaton, IsTableOf, IsTableRefusal, IsSettling}
use Rattle.fin_monitor.proofs.Exploring.{small-row, row-power}
use Rattle.fin_monitor.proofs.Refusals.{table-refused}
use Rattle.fin_monitor.proofs.Running.{table-of, is-monitor, small-table}

module _ (body : Tree) (nodes : List Node) (root : ℕ) (atoms : List Atom) (same-nodes : nodes ≡ body_nodes body true) (same-root : root ≡ body_root body true) (same-atoms : map plain_atom atoms ≡ atoms_of body) (few : length atoms ≤ 16) where
  few-of : HasFewAtoms body
  few-of = let P : List IndexedAtom → Type 0 = λ l. length l ≤ 16 in subst P same-atoms (omega (arith, few, length-map atoms plain_atom))

  pub table-on : HasSmallClosure body → (e : MonitorError) → IsTableRefusal nodes root (map plain_atom atoms) e → IsRefusal body e
  table-on small e refused =
      table-refused body small few-of e
      (subst (λ l. IsTableRefusal (body_nodes body true) (body_root body true) l e) same-atoms
      (subst (λ k. IsTableRefusal (body_nodes body true) k (map plain_atom atoms) e) same-root
      (subst (λ ns. IsTableRefusal ns root (map plain_atom atoms) e) same-nodes refused)))

  module _ (a : Automaton) (is : IsAutomaton nodes root (map plain_atom atoms) a) where
    automaton-on : IsAutomaton (body_nodes body true) (body_root body true) (atoms_of body) a
    automaton-on =
        subst (λ l. IsAutomaton (body_nodes body true) (body_root body true) l a) same-atoms
        (subst (λ k. IsAutomaton (body_nodes body true) k (map plain_atom atoms) a) same-root
        (subst (λ ns. IsAutomaton ns root (map plain_atom atoms) a) same-nodes is))

    pub table-is : IsTableOf a (2 ^ length atoms)
    table-is = subst (IsTableOf a) (row-power atoms) (table-of nodes root (map plain_atom atoms) a is)

    pub is-taken : HasSmallClosure body → IsTaken body
    is-taken small = record { closure = small; atoms = few-of; table = small-table body a automaton-on }

    pub made-monitor : (variables : ℕ) (b : Automaton) (tree : Tree) → IsTrue (vars_below variables body) → variables ≤ 4 → IsSettling a (2 ^ length atoms) b → tree ≡ body
        → IsMonitor (record { body = tree; variables = variables; atoms = map plain_atom atoms; table = b.table; accepting = b.accepting })
    made-monitor variables b tree bound vars set e =
        let machine : Tree → List IndexedAtom → Machine = λ t l. record { body = t; variables = variables; atoms = l; table = b.table; accepting = b.accepting } in
        let rows : 2 ^ length atoms ≡ row_of (atoms_of body) = sym (row-power atoms) ∙ ap row_of same-atoms in
        is-monitor body variables a b bound vars few-of (subst (λ l. row_of l ≤ 65536) same-atoms (small-row atoms few)) automaton-on (subst (λ w. IsSettling a w b) rows set)
        (machine tree (map plain_atom atoms)) (ap (λ t. machine t (map plain_atom atoms)) e ∙ ap (machine body) same-atoms)
