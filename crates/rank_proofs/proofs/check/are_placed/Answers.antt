use Rattle.std.proofs.Common.{◌≡◌, length, get_or, List, refl, sym, ◌∙◌, subst, arith}
use Rattle.std.specs.List.{All, Contains}
use Rattle.std.proofs.lemmas.Bool.{false≢true}
use Rattle.std.proofs.lemmas.List.{take_all}
use Rattle.std.proofs.lemmas.List.Elements.{All-nil, All-more, All-contains}
use Rattle.ltl_tableau.specs.Ranks.{Ranked}
use Rattle.rank_proofs.specs.Edges.{IsPlaced}
use Rattle.rank_proofs.proofs.Checking.{refused, found-all, found-missing}
use Rattle.rank_proofs.proofs.check.are_placed.Goals as goal

pub returns-then-is_none : goal.returns-then-is_none
returns-then-is_none g c =
    let entries = c.args.proof.now.entries in
    let missing =
    found-missing c.args.c.now.nodes entries c.args.roots.now c.in_ok-of.field-0
    c.if-is_none.ensures (c.in_ok-of.ensures entries c.requires.knows).top in
    refused _ refl (λ are. missing are.begins)

pub loop-entry-init : goal.loop-entry-init
loop-entry-init g c = record {
  knows = (c.in_ok-of.ensures c.args.proof.now.entries c.requires.knows).knows;
  placed = All-nil (IsPlaced c.args.c.now.nodes c.args.proof.now);
}

pub loop-entry-preserved : goal.loop-entry-preserved
loop-entry-preserved g c =
    let d = c.entry-item.result in
    let i = c.loop-entry.entry-index in
    let entries = c.args.proof.now.entries in
    let P : Ranked → Type 0 = IsPlaced c.args.c.now.nodes c.args.proof.now in
    let list : c.as_slice-entry-items.result.now ≡ entries =
    c.as_slice-entry-items.ensures.keys ∙ (λ j. (c.proof.view_is j).entries) in
    let at : d ≡ get_or entries i d = c.entry-item.is ∙ (λ j. get_or (list j) i d) in
    let count : length c.as_slice-entry-items.result.now ≡ length entries = λ j. length (list j) in
    record {
      knows = c.in_ok-is_placed.ensures.knows;
      placed =
          All-more P entries i d (omega (arith, c.loop-entry-test.true))
          c.loop-entry.invariant.placed
          (subst P at (c.in_ok-is_placed.ensures.placed.0 c.if-not-branch.false));
    }

pub returns-then-not-branch : goal.returns-then-not-branch
returns-then-not-branch g c =
    let d = c.entry-item.result in
    let P : Ranked → Type 0 = IsPlaced c.args.c.now.nodes c.args.proof.now in
    let list : c.as_slice-entry-items.result.now ≡ c.args.proof.now.entries =
    c.as_slice-entry-items.ensures.keys ∙ (λ j. (c.proof.view_is j).entries) in
    let Q : List Ranked → Type 0 = All P in
    let there : Contains c.as_slice-entry-items.result.now d =
    (c.loop-entry.entry-index, c.loop-entry-test.true, sym c.entry-item.is) in
    refused _ refl (λ are.
    let placed : P d =
    All-contains P c.as_slice-entry-items.result.now d (subst Q (sym list) are.placed) there in
    false≢true (sym c.if-not-branch.true ∙ c.in_ok-is_placed.ensures.placed.1 placed))

pub returns : goal.returns
returns g c =
    let entries = c.args.proof.now.entries in
    let i = c.loop-entry.entry-index in
    let list : c.as_slice-entry-items.result.now ≡ entries =
    c.as_slice-entry-items.ensures.keys ∙ (λ j. (c.proof.view_is j).entries) in
    let count : length c.as_slice-entry-items.result.now ≡ length entries = λ j. length (list j) in
    let whole = take_all i entries (omega (arith, c.loop-entry-test.false)) in
    let Q : List Ranked → Type 0 = All (IsPlaced c.args.c.now.nodes c.args.proof.now) in (
      (λ _. record {
        begins =
            found-all c.args.c.now.nodes entries c.args.roots.now c.in_ok-of.field-0
            c.if-is_none.ensures (c.in_ok-of.ensures entries c.requires.knows).top;
        placed = subst Q whole c.loop-entry.invariant.placed;
      }),
      (λ _. refl),
    )
