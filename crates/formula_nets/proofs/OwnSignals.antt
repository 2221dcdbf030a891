-- Signals of the names of a body are for literals of the net.
use Rattle.std.proofs.Common.{ℕ, List, get_or, inl, inr, sym, subst, arith}
use Rattle.std.proofs.lemmas.List.{get_or_default}
use Rattle.hy_formula.specs.Trees.{Tree}
use Rattle.aig_net.specs.declared.signals.Signal.{Signal}
use Rattle.aig_net.specs.Nets.{Below, IsNet, Net, variables}
use Rattle.net_names.specs.Names.{AreSignals, HasLiteral, name_at}
use Rattle.wit_lasso.specs.FormulaNets.{AreOwn}

-- the literal of a name is one of the net
literal-below : (net : Net) → IsNet net → (name : List ℕ) (l : ℕ) → HasLiteral net name l →
    Below (variables net) l
literal-below net good name l (_, has) = elim has [
  | inl (j, (lt, _), is) ↦ let m = good.input_names.many in omega (arith, m, lt, is)
  | inr more ↦ elim more [
    | inl (j, (lt, _), is) ↦ let m = good.latch_names.many in omega (arith, m, lt, is)
    | inr (j, (lt, _), is) ↦
        let m = good.output_names.many in
        let P : ℕ → Type 0 = Below (variables net) in
        subst P (sym is) (good.outputs j (omega (arith, m, lt)))
  ]
]

pub own-signals : (net : Net) (names : List (List ℕ)) (body : Tree) (signals : List Signal) →
    IsNet net → AreSignals net names body signals → AreOwn net signals
own-signals net names body signals good are = record {
  own = are.own;
  within = λ k d lt.
      let (_, only) = are.each (get_or signals k d)
      (k, lt, get_or_default signals k (get_or signals k d) d lt) in
      literal-below net good (name_at names (get_or signals k d).name)
      (get_or signals k d).literal only.has;
}
