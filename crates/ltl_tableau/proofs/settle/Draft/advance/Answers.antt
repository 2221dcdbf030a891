use Rattle.std.proofs.Common.{◌≡◌, ℕ, suc, ◌-◌, true, inl, inr, sym, ap, ◌∙◌, arith}
use Rattle.std.specs.FinSet.{insert, contains}
use Rattle.std.proofs.lemmas.Bool.{cases_lt}
use Rattle.ltl_tableau.specs.declared.settle.Work.{Work}
use Rattle.ltl_tableau.specs.Ways.{ways}
use Rattle.ltl_tableau.proofs.Collecting.{skipped}
use Rattle.ltl_tableau.proofs.Stepping.{literal-ends, literal-goes, and-goes, side-below, step-choice, or-both, until-both, release-both}
use Rattle.ltl_tableau.proofs.WaysLemmas.{within-itself}
use Rattle.ltl_tableau.proofs.settle.Draft.advance.Goals as goal

pub returns-then-not-has : goal.returns-then-not-has
returns-then-not-has g c =
    record {
      below = omega (arith, c.last_to_do-self.ensures.lower);
      same = skipped c.args.c.now.nodes c.args.self.now.work.held c.args.self.now.work.next c.last_to_do-self.result c.args.self.now.work.below (omega (arith, c.last_to_do-self.ensures.lower))
          (λ k from lt.
          elim (cases_lt k (c.args.self.now.work.below - 1)) [
            | inl low ↦ c.last_to_do-self.ensures.none k from low
            | inr top ↦
                let at : k ≡ c.from-f.result = omega arith in
                ap (contains c.args.self.now.work.held) at ∙ sym c.has.ensures ∙ c.if-not-has.true
          ]);
      dead = c.requires.dead;
      more = within-itself c.args.self.now.work.held;
    }

pub returns-then-clashes : goal.returns-then-clashes
returns-then-clashes g c =
    let f : ℕ = c.args.self.now.work.below - 1 in
    let at : f ≡ c.from-f.result = omega arith in
    let has : contains c.args.self.now.work.held f ≡ true = ap (contains c.args.self.now.work.held) at ∙ sym c.has.ensures ∙ c.if-not-has.false in
    literal-ends c.args.c.now.nodes c.args.self.now.work.below f c.args.self.now.work.held c.args.self.now.work.next c.in-Lit.positive
    c.in-Lit.atom.name c.in-Lit.atom.var _ (omega arith) has (sym c.in-Lit.ensures.node) (c.requires.links.each f (omega arith))
    (sym c.clashes.ensures ∙ c.if-clashes.true)

pub returns-else-clashes : goal.returns-else-clashes
returns-else-clashes g c =
    let f : ℕ = c.args.self.now.work.below - 1 in
    let at : f ≡ c.from-f.result = omega arith in
    let has : contains c.args.self.now.work.held f ≡ true = ap (contains c.args.self.now.work.held) at ∙ sym c.has.ensures ∙ c.if-not-has.false in
    record {
      below = omega arith;
      same = literal-goes c.args.c.now.nodes c.args.self.now.work.below f c.args.self.now.work.held c.args.self.now.work.next c.in-Lit.positive
          c.in-Lit.atom.name c.in-Lit.atom.var _ (omega arith) has (sym c.in-Lit.ensures.node) (c.requires.links.each f (omega arith))
          (sym c.clashes.ensures ∙ c.if-clashes.false);
      dead = c.requires.dead;
      more = within-itself c.args.self.now.work.held;
    }

pub returns-in-And : goal.returns-in-And
returns-in-And g c =
    let f : ℕ = c.args.self.now.work.below - 1 in
    let at : f ≡ c.from-f.result = omega arith in
    let has : contains c.args.self.now.work.held f ≡ true = ap (contains c.args.self.now.work.held) at ∙ sym c.has.ensures ∙ c.if-not-has.false in
    and-goes c.args.c.now.nodes c.args.self.now c.hold-in-And.new.self f c.in-And.g c.in-And.h (omega arith) has (sym c.in-And.ensures.node)
    c.requires.dead
    (c.hold-in-And.ensures ∙ ap (λ (x : Work _). let made : Work _ = record x { held = insert x.held c.in-And.h } in made) c.hold.ensures)

pub returns-in-Or : goal.returns-in-Or
returns-in-Or g c =
    let f : ℕ = c.args.self.now.work.below - 1 in
    let at : f ≡ c.from-f.result = omega arith in
    let has : contains c.args.self.now.work.held f ≡ true = ap (contains c.args.self.now.work.held) at ∙ sym c.has.ensures ∙ c.if-not-has.false in
    let top : c.args.self.now.work.below ≡ suc f = omega arith in
    let work : Work _ = record { below = f; held = c.args.self.now.work.held; next = c.args.self.now.work.next } in
    step-choice c.args.c.now.nodes c.args.self.now (record { work = work; dead = c.args.self.now.dead }) c.choose.new.self c.of.result
    c.of-in-Or.result c.choose.result (omega arith) (ap (λ n. ways c.args.c.now.nodes n work.held work.next) top)
    (or-both c.args.c.now.nodes work has c.in-Or.g c.in-Or.h c.of.result c.of-in-Or.result (sym c.in-Or.ensures.node) c.of.ensures c.of-in-Or.ensures)
    (side-below f _ _ _ _ c.of.ensures c.in-Or.ensures.operands.0 c.in-Or.ensures.operands.0)
    (side-below f _ _ _ _ c.of-in-Or.ensures c.in-Or.ensures.operands.1 c.in-Or.ensures.operands.1) c.requires.dead (within-itself c.args.self.now.work.held) c.choose.ensures

pub returns-in-Until : goal.returns-in-Until
returns-in-Until g c =
    let f : ℕ = c.args.self.now.work.below - 1 in
    let at : f ≡ c.from-f.result = omega arith in
    let has : contains c.args.self.now.work.held f ≡ true = ap (contains c.args.self.now.work.held) at ∙ sym c.has.ensures ∙ c.if-not-has.false in
    let top : c.args.self.now.work.below ≡ suc f = omega arith in
    let work : Work _ = record { below = f; held = c.args.self.now.work.held; next = c.args.self.now.work.next } in
    step-choice c.args.c.now.nodes c.args.self.now (record { work = work; dead = c.args.self.now.dead }) c.choose-in-Until.new.self
    c.of-in-Until.result c.of-in-Until-2.result c.choose-in-Until.result (omega arith)
    (ap (λ n. ways c.args.c.now.nodes n work.held work.next) top)
    (until-both c.args.c.now.nodes work has c.in-Until.g c.in-Until.h c.of-in-Until.result c.of-in-Until-2.result (sym c.in-Until.ensures.node)
    c.of-in-Until.ensures c.of-in-Until-2.ensures)
    (side-below f _ _ _ _ c.of-in-Until.ensures c.in-Until.ensures.operands.1 c.in-Until.ensures.operands.1)
    (side-below f _ _ _ _ c.of-in-Until-2.ensures c.in-Until.ensures.operands.0 c.in-Until.ensures.operands.0) c.requires.dead (within-itself c.args.self.now.work.held) c.choose-in-Until.ensures

pub returns-in-Release : goal.returns-in-Release
returns-in-Release g c =
    let f : ℕ = c.args.self.now.work.below - 1 in
    let at : f ≡ c.from-f.result = omega arith in
    let has : contains c.args.self.now.work.held f ≡ true = ap (contains c.args.self.now.work.held) at ∙ sym c.has.ensures ∙ c.if-not-has.false in
    let top : c.args.self.now.work.below ≡ suc f = omega arith in
    let work : Work _ = record { below = f; held = c.args.self.now.work.held; next = c.args.self.now.work.next } in
    step-choice c.args.c.now.nodes c.args.self.now (record { work = work; dead = c.args.self.now.dead }) c.choose-in-Release.new.self
    c.of-in-Release.result c.of-in-Release-2.result c.choose-in-Release.result (omega arith)
    (ap (λ n. ways c.args.c.now.nodes n work.held work.next) top)
    (release-both c.args.c.now.nodes work has c.in-Release.g c.in-Release.h c.of-in-Release.result c.of-in-Release-2.result
    (sym c.in-Release.ensures.node) c.of-in-Release.ensures c.of-in-Release-2.ensures)
    (side-below f _ _ _ _ c.of-in-Release.ensures c.in-Release.ensures.operands.0 c.in-Release.ensures.operands.1)
    (side-below f _ _ _ _ c.of-in-Release-2.ensures c.in-Release.ensures.operands.1 c.in-Release.ensures.operands.1) c.requires.dead (within-itself c.args.self.now.work.held) c.choose-in-Release.ensures
