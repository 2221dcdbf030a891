use Rattle.std.proofs.Common.{◌≡◌, ◌-◌, ℕ, List, arith, length, sym, subst, set, ◌++◌, ◌∷◌, []}
use Rattle.std.specs.Prelude.{ℤ, unsigned_abs}
use Rattle.std.proofs.lemmas.List.{length-set}
use Rattle.chain_check.specs.Clauses.{IsLiteral}
use Rattle.chain_check.specs.Chains.{IsFalseIn}
use Rattle.chain_check.specs.Store.{Trues, AreMarks}
use Rattle.chain_check.proofs.Marking.{marked-more}
use Rattle.chain_check.proofs.partial.Partial.make_true.Goals as goal

pub invariant_of-self-2 : goal.invariant_of-self-2
invariant_of-self-2 c =
    let shown : Trues = record {
      variables = length c.self.inside.marks.items - 1;
      literals =
          c.self.inside.literals.items;
    } in
    let view : c.args.self.now ≡ shown = sym c.self.view_is in
    let place : c.variable.result ≡ unsigned_abs c.args.l = c.variable.ensures in
    let more : c.push.new.self.items ≡ c.self.inside.literals.items ++ c.args.l ∷ [] =
    c.in_ok-push.ensures.items in
    let P : ℕ → Type 0 = λ k. AreMarks (set c.self.inside.marks.items k c.args.l)
    (c.self.inside.literals.items ++ c.args.l ∷ []) in
    let Q : List ℤ → Type 0 = AreMarks (set c.self.inside.marks.items c.variable.result c.args.l) in
    let R : Trues → Type 0 = λ t. IsLiteral t.variables c.args.l in
    let S : Trues → Type 0 = λ t. ¬ IsFalseIn t.literals c.args.l in
    let made : P (unsigned_abs c.args.l) = marked-more c.self.inside.marks.items
    c.self.inside.literals.items c.args.l c.self.invariant.0 c.self.invariant.2
    (subst R view c.requires.right) (subst S view c.requires.not_false) in
    let long : length (set c.self.inside.marks.items c.variable.result c.args.l) ≡ length
    c.self.inside.marks.items = length-set c.self.inside.marks.items c.variable.result c.args.l
    in (
      omega (arith, long, c.self.invariant.0),
      omega (arith, long, c.self.invariant.1),
      subst Q (sym more) (subst P (sym place) made),
    )
