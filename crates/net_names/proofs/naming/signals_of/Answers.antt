use Rattle.std.proofs.Common.{◌≡◌, ℕ, ◌+◌, List, true, false, refl, sym, ap, ◌∙◌, subst}
use Rattle.std.specs.FinSet.{contains}
use Rattle.hy_formula.specs.Trees.{tree_of}
use Rattle.aig_net.specs.declared.signals.Signal.{Signal}
use Rattle.net_names.specs.Meanings.{AreBelow}
use Rattle.hy_formula.specs.Atoms.{has_name}
use Rattle.net_names.specs.Names.{IsOnly}
use Rattle.net_names.proofs.SignalTables.{below_push, below_skip, first_none, first_several, fresh_name, literal_only}
use Rattle.net_names.proofs.naming.signals_of.Goals as goal
use Rattle.net_names.proofs.naming.signals_of.Goals.{then-has+in-Literal+in_ok-push, else-has}

pub returns-in-Nothing-clause-refused : goal.returns-in-Nothing-clause-refused
returns-in-Nothing-clause-refused c =
    let on : has_name (tree_of c.args.body.now) c.loop-k.k ≡ true =
    sym (c.names_of-used.ensures c.loop-k.k)
    ∙ ap (contains c.names_of-used.result) (sym c.from.ensures) ∙ sym c.has.ensures
    ∙ c.if-has.true in
    first_none c.args.net.now c.args.names.now (tree_of c.args.body.now) c.loop-k.k
    c.loop-k.signals c.meaning_of.result c.text.result.now c.text.ensures c.loop-k.invariant
    on c.meaning_of.ensures c.in-Nothing.is

pub returns-in-Several-clause-refused : goal.returns-in-Several-clause-refused
returns-in-Several-clause-refused c =
    let on : has_name (tree_of c.args.body.now) c.loop-k.k ≡ true =
    sym (c.names_of-used.ensures c.loop-k.k)
    ∙ ap (contains c.names_of-used.result) (sym c.from.ensures) ∙ sym c.has.ensures
    ∙ c.if-has.true in
    first_several c.args.net.now c.args.names.now (tree_of c.args.body.now) c.loop-k.k
    c.loop-k.signals c.meaning_of.result c.text.result.now c.text.ensures c.loop-k.invariant
    on c.meaning_of.ensures c.in-Several.is

pub push-requires-clause-new : goal.push-requires-clause-new
push-requires-clause-new c =
    fresh_name c.args.net.now c.args.names.now (tree_of c.args.body.now) c.loop-k.k
    c.loop-k.signals c.loop-k.invariant

pub loop-k-preserved : goal.loop-k-preserved
loop-k-preserved c =
    elim c.if-has.branch [
      | then-has+in-Literal+in_ok-push w ↦
          let on : has_name (tree_of c.args.body.now) c.loop-k.k ≡ true =
          sym (c.names_of-used.ensures c.loop-k.k)
          ∙ ap (contains c.names_of-used.result) (sym c.from.ensures) ∙ sym c.has.ensures
          ∙ w.if-has.true in
          let P : List ℕ → Type 0 = λ name. IsOnly c.args.net.now name w.in-Literal.literal in
          below_push c.args.net.now c.args.names.now (tree_of c.args.body.now) c.loop-k.k
          c.loop-k.signals c.if-has.signals
          (record { name = c.loop-k.k; var = 0; literal = w.in-Literal.literal }) on refl refl
          (subst P w.text.ensures
          (literal_only c.args.net.now c.args.names.now (tree_of c.args.body.now)
          w.text.result.now w.meaning_of.result w.in-Literal.literal w.meaning_of.ensures
          w.in-Literal.is))
          c.loop-k.invariant (w.signals-is ∙ w.in_ok-push.ensures.added)
      | else-has w ↦
          let off : has_name (tree_of c.args.body.now) c.loop-k.k ≡ false =
          sym (c.names_of-used.ensures c.loop-k.k)
          ∙ ap (contains c.names_of-used.result) (sym c.from.ensures) ∙ sym c.has.ensures
          ∙ w.if-has.false in
          let P : List Signal → Type 0 = AreBelow c.args.net.now c.args.names.now
          (tree_of c.args.body.now) (c.loop-k.k + 1) in
          subst P (sym w.signals-is)
          (below_skip c.args.net.now c.args.names.now (tree_of c.args.body.now) c.loop-k.k
          c.loop-k.signals off c.loop-k.invariant)
    ]
