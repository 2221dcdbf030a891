use Rattle.std.proofs.Common.{List, ◌++◌, ◌∷◌, [], map, take, sym, ap, ◌∙◌, subst}
use Rattle.std.specs.Prelude.{replicate}
use Rattle.std.proofs.lemmas.Bool.{ne_eqb}
use Rattle.std.proofs.lemmas.List.{take_all}
use Rattle.hy_formula.specs.Atoms.{IndexedAtom, plain_atom}
use Rattle.fin_monitor.specs.Seen.{machine_of}
use Rattle.dominance.specs.Choices.{Row, AreRows}
use Rattle.dominance.proofs.Asking.{rows-none, rows-same, rows-double, atom-taken, atom-small}
use Rattle.dominance.proofs.rows.rows.Goals as goal
use Rattle.dominance.proofs.rows.rows.Goals.{then-a-place+in_ok-double, else-a-place}

pub loop-a-init : goal.loop-a-init
loop-a-init c =
    let P : List Row → Type 0 = λ l. AreRows [] c.args.place l in
    subst P (sym (c.in_ok-push.ensures.added
    ∙ ap (λ l. l ++ replicate 4 c.empty.result ∷ []) c.new-rows.ensures))
    (rows-none c.args.place (replicate 4 c.empty.result)
    (ap (λ q. replicate 4 q) c.empty.ensures))

pub double-requires : goal.double-requires
double-requires c =
    atom-small c.atoms-a-items.result.now c.loop-a.a-index c.a-item.result c.loop-a-test.true
    c.a-item.is (machine_of c.args.m.now) c.args.m.now.right c.atoms-a-items.ensures.atoms

pub loop-a-preserved : goal.loop-a-preserved
loop-a-preserved c =
    let a = c.a-item.result in
    let before : List IndexedAtom =
    map plain_atom (take c.loop-a.a-index c.atoms-a-items.result.now) in
    let e = atom-taken c.atoms-a-items.result.now c.loop-a.a-index a c.loop-a-test.true c.a-item.is
    in
    let P : List IndexedAtom → Type 0 = λ l. AreRows l c.args.place c.if-a-place.rows in
    let Q : List Row → Type 0 = AreRows (before ++ plain_atom a ∷ []) c.args.place in
    subst P (sym e) (elim c.if-a-place.branch [
      | then-a-place+in_ok-double w ↦
          subst Q (sym (w.rows-is ∙ w.in_ok-double.ensures))
          (rows-double before (plain_atom a) c.args.place c.loop-a.rows c.loop-a.invariant
          (ne_eqb _ _ w.if-a-place.true)
          (atom-small c.atoms-a-items.result.now c.loop-a.a-index a c.loop-a-test.true c.a-item.is
          (machine_of c.args.m.now) c.args.m.now.right c.atoms-a-items.ensures.atoms))
      | else-a-place w ↦ subst Q (sym w.rows-is)
          (rows-same before
          (plain_atom a) c.args.place c.loop-a.rows c.loop-a.invariant w.if-a-place.false)
    ])

pub returns : goal.returns
returns c =
    let P : List IndexedAtom → Type 0 = λ l. AreRows l c.args.place c.loop-a.rows in
    let all = take_all c.loop-a.a-index c.atoms-a-items.result.now c.loop-a-test.false in
    subst P (ap (λ l. map plain_atom l) all ∙ c.atoms-a-items.ensures.atoms) c.loop-a.invariant
