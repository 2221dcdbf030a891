use Rattle.std.proofs.Common.{◌≡◌, ◌+◌, ◌++◌, ◌∷◌, [], ℕ, List, length, slice_index_or, take, sym, ap, ◌∙◌, subst, arith}
use Rattle.std.proofs.Math.Seq.{take-length}
use Rattle.std.specs.FinSet.{intersection}
use Rattle.hy_bits.specs.Letter.{Letter}
use Rattle.rv_core.specs.Masks.{AreListed}
use Rattle.rv_core.proofs.Naming.{AreFound, found-start, found-more, found-less, found-all, name-at, name-below}
use Rattle.rv_core.proofs.Places.{take-next}
use Rattle.rv_core.proofs.names.Names.of_letter.Goals.{then-has, else-has}
use Rattle.rv_core.proofs.names.Names.of_letter.Goals as goal

pub loop-name-init : goal.loop-name-init
loop-name-init c =
    let P : Letter → Type 0 = AreFound c.args.letter [] in
    subst P (sym c.empty-found.ensures) (found-start c.args.letter)

pub has-requires : goal.has-requires
has-requires c =
    name-below _ c.deref-name-items.result.now c.self.inside.all c.deref-name-items.ensures.value
    c.self.invariant c.names_below.ensures c.loop-name.name-index c.loop-name-test.true

pub with-found-requires : goal.with-found-requires
with-found-requires c =
    name-below _ c.deref-name-items.result.now c.self.inside.all c.deref-name-items.ensures.value
    c.self.invariant c.names_below.ensures c.loop-name.name-index c.loop-name-test.true

pub loop-name-preserved : goal.loop-name-preserved
loop-name-preserved c =
    let items = c.deref-name-items.result.now in
    let i = c.loop-name.name-index in
    let n = slice_index_or items i 0 in
    let letter = c.args.letter in
    let next : take (i + 1) items ≡ take i items ++ n ∷ [] =
    take-next items i n (name-at items i c.loop-name-test.true) in
    let P : List ℕ → Type 0 = λ names. AreFound letter names c.if-has.found in
    let Q : Letter → Type 0 = AreFound letter (take i items ++ n ∷ []) in
    subst P (sym next) (elim c.if-has.branch [
      | then-has w ↦
          subst Q (sym (w.found-is ∙ w.with-found.ensures))
          (found-more letter (take i items) c.loop-name.found c.loop-name.invariant n
          (sym c.has.ensures ∙ w.if-has.true))
      | else-has w ↦
          subst Q (sym w.found-is)
          (found-less letter (take i items) c.loop-name.found c.loop-name.invariant n
          (sym c.has.ensures ∙ w.if-has.false))
    ])

pub returns : goal.returns
returns c =
    let items = c.deref-name-items.result.now in
    let i = c.loop-name.name-index in
    let end : i ≡ length items =
    omega (arith, c.loop-name-test.false, c.loop-name.auto.name-index-end) in
    let whole : take i items ≡ items = ap (λ k. take k items) end ∙ take-length items in
    let P : List ℕ → Type 0 = λ names. AreListed names c.self.inside.all in
    let Q : List ℕ → Type 0 = λ names. AreFound c.args.letter names c.loop-name.found in
    let R : Letter → Type 0 = λ all. c.loop-name.found ≡ intersection c.args.letter all in
    subst R c.self.view_is
    (found-all c.args.letter c.self.inside.all c.loop-name.found items
    (subst P (sym c.deref-name-items.ensures.value) c.self.invariant)
    (subst Q whole c.loop-name.invariant))
