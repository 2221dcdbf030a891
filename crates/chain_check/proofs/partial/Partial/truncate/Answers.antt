use Rattle.std.proofs.Common.{◌≡◌, ◌<◌, ◌-◌, ℕ, List, arith, length, ◌∙◌, refl, sym, subst, set, take, ◌++◌, ◌∷◌, []}
use Rattle.std.specs.Prelude.{ℤ, unsigned_abs, pos}
use Rattle.std.proofs.lemmas.List.{length-set}
use Rattle.chain_check.specs.Store.{Trues, AreMarks, IsFresh}
use Rattle.chain_check.proofs.Marking.{marks-less, fresh-last, fresh-front, front-less}
use Rattle.chain_check.proofs.partial.Partial.truncate.Goals as goal

pub loop-self-init : goal.loop-self-init
loop-self-init c =
    let P : Trues → Type 0 = λ t. IsFresh t.literals in
    let shown : Trues = record {
      variables = length c.self.inside.marks.items - 1;
      literals =
          c.self.inside.literals.items;
    } in
    let view : c.args.self.now ≡ shown = sym c.self.view_is in
    (refl, c.self.invariant.2, subst P view c.requires, refl)

pub loop-self-preserved-in-Some : goal.loop-self-preserved-in-Some
loop-self-preserved-in-Some c =
    let none : c.new.result ≡ pos 0 = c.new.ensures in
    let place : c.variable.result ≡ unsigned_abs c.in-Some.l = c.variable.ensures in
    let less : c.loop-self.self-inside.literals.items ≡ c.pop.new.self.items ++ c.in-Some.l ∷ [] =
    c.in-Some.ensures.items in
    let P : ℕ → Type 0 = λ k. AreMarks (set c.loop-self.self-inside.marks.items k (pos 0))
    c.pop.new.self.items in
    let R : ℤ → Type 0 = λ z. AreMarks (set c.loop-self.self-inside.marks.items c.variable.result z)
    c.pop.new.self.items in
    let Q : List ℤ → Type 0 = AreMarks c.loop-self.self-inside.marks.items in
    let S : List ℤ → Type 0 = λ xs. take c.args.n xs ≡ take c.args.n c.self.inside.literals.items in
    let T : List ℤ → Type 0 = λ xs. c.args.n < length xs in
    let some : 0 < length c.loop-self.self-inside.marks.items =
    omega (arith, c.loop-self.invariant.0, c.self.invariant.0) in
    let before : Q (c.pop.new.self.items ++ c.in-Some.l ∷ []) =
    subst Q less c.loop-self.invariant.1 in
    let fresh : IsFresh (c.pop.new.self.items ++ c.in-Some.l ∷ []) =
    subst IsFresh less c.loop-self.invariant.2 in
    let made : P (unsigned_abs c.in-Some.l) =
    marks-less c.loop-self.self-inside.marks.items c.pop.new.self.items c.in-Some.l some before
    (fresh-last c.pop.new.self.items c.in-Some.l fresh) in
    let past : c.args.n < length c.loop-self.self-inside.literals.items =
    omega (arith, c.loop-self-test.true, c.len.ensures, c.loop-self.self-inside.literals.ok.0)
    in (
      length-set c.loop-self.self-inside.marks.items c.variable.result c.new.result ∙
          c.loop-self.invariant.0,
      subst R (sym none) (subst P (sym place) made),
      fresh-front c.pop.new.self.items c.in-Some.l fresh,
      front-less c.args.n c.self.inside.literals.items c.pop.new.self.items c.in-Some.l
          (subst T less past) (subst S less c.loop-self.invariant.3),
    )
