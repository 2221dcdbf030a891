use Rattle.std.proofs.Common.{◌≡◌, ◌<◌, ℕ, List, arith, length, ◌∙◌, sym, subst, set, ◌++◌, ◌∷◌, []}
use Rattle.std.specs.Prelude.{ℤ, unsigned_abs, pos}
use Rattle.std.proofs.lemmas.List.{length-set}
use Rattle.chain_check.proofs.Marking.{AreListed, listed-less}
use Rattle.chain_check.proofs.partial.Partial.clear.Goals as goal

pub loop-l-preserved : goal.loop-l-preserved
loop-l-preserved c =
    let none : c.new.result ≡ pos 0 = c.new.ensures in
    let place : c.variable.result ≡ unsigned_abs c.in-Some.l = c.variable.ensures in
    let less : c.loop-l.self-inside.literals.items ≡ c.pop.new.self.items ++ c.in-Some.l ∷ [] =
    c.in-Some.ensures.items in
    let P : ℕ → Type 0 = λ k. AreListed (set c.loop-l.self-inside.marks.items k (pos 0))
    c.pop.new.self.items in
    let R : ℤ → Type 0 = λ z. AreListed (set c.loop-l.self-inside.marks.items c.variable.result z)
    c.pop.new.self.items in
    let Q : List ℤ → Type 0 = AreListed c.loop-l.self-inside.marks.items in
    let some : 0 < length c.loop-l.self-inside.marks.items =
    omega (arith, c.loop-l.invariant.0, c.self.invariant.0) in
    let before : Q (c.pop.new.self.items ++ c.in-Some.l ∷ []) = subst Q less c.loop-l.invariant.1 in
    let made : P (unsigned_abs c.in-Some.l) =
    listed-less c.loop-l.self-inside.marks.items c.pop.new.self.items c.in-Some.l some before in (
      length-set c.loop-l.self-inside.marks.items c.variable.result c.new.result ∙
          c.loop-l.invariant.0,
      subst R (sym none) (subst P (sym place) made),
    )
