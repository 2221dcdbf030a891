use Rattle.std.proofs.Common.{[], Bool, map, ap, inl, inr, subst}
use Rattle.hy_formula.specs.Trees.{tree_of}
use Rattle.hy_formula.specs.declared.body.Body.{Body}
use Rattle.hy_formula.specs.Atoms.{plain_atom, with_atoms, AreAdded}
use Rattle.hy_formula.proofs.AtomLists.{many-first}
use Rattle.hy_formula.proofs.atoms.+add_atoms.Goals as goal

pub returns-then-not-branch-clause-atoms : goal.returns-then-not-branch-clause-atoms
returns-then-not-branch-clause-atoms t c =
    let P : Body → Type 0 = λ b. AreAdded c.args.most (tree_of b) (map plain_atom c.args.atoms.now) (map plain_atom c.add_atoms.new.atoms) c.in_ok-add_atoms-in-And.field-0 in
    let Q : Bool → Type 0 = AreAdded c.args.most (tree_of c.in-And.f.value) (map plain_atom c.args.atoms.now) (map plain_atom c.add_atoms.new.atoms) in
    many-first c.args.most (tree_of c.args.body.now) (tree_of c.in-And.f.value) (tree_of c.in-And.g.value) (λ known. elim c.in-And.is [
      | inl e ↦ ap (λ b. with_atoms (tree_of b) known) e
      | inr (inl e) ↦ ap (λ b. with_atoms (tree_of b) known) e
      | inr (inr (inl e)) ↦ ap (λ b. with_atoms (tree_of b) known) e
      | inr (inr (inr (inl e))) ↦ ap (λ b. with_atoms (tree_of b) known) e
      | inr (inr (inr (inr (inl e)))) ↦ ap (λ b. with_atoms (tree_of b) known) e
      | inr (inr (inr (inr (inr (inl e))))) ↦ ap (λ b. with_atoms (tree_of b) known) e
      | inr (inr (inr (inr (inr (inr e))))) ↦ ap (λ b. with_atoms (tree_of b) known) e
    ])
    (map plain_atom c.args.atoms.now) (map plain_atom c.add_atoms.new.atoms) [] (subst Q c.if-not-branch.true (subst P c.deref.ensures c.in_ok-add_atoms-in-And.ensures.atoms))
