use Rattle.std.proofs.Common.{◌≡◌, ℕ, ◌<◌, Bool, true, false, List, length, subst}
use Rattle.hy_base.specs.Rows.{row}
use Rattle.cnf_frames.specs.declared.facts.Fact.{Fact}
use Rattle.cnf_frames.specs.Facts.{HoldsIn, fact_at}
use Rattle.invar_find.specs.Classes.{AreConstant}
use Rattle.invar_find.proofs.Standings.{known-of}
use Rattle.invar_find.proofs.seen.Seen.is_known.Goals as goal

pub returns : goal.returns
returns c h =
    let Z : List Bool → Type 0 = λ ones. (j : ℕ) → j < length c.args.state.now →
    row ones j ≡ false → row c.args.state.now j ≡ false in
    let C : List ℕ → Type 0 = λ classes. AreConstant classes (row c.args.state.now) in
    let F : List Fact → Type 0 = λ facts. (k : ℕ) → k < length facts →
    row c.as_slice-4.result.now k ≡ true → HoldsIn (row c.args.state.now) (fact_at facts k) in
    let A : List Bool → Type 0 = λ alive. (k : ℕ) → k < length c.args.self.now.others →
    row alive k ≡ true → HoldsIn (row c.args.state.now) (fact_at c.args.self.now.others k) in
    known-of c.args.self.now c.args.state.now c.requires
    (subst Z c.as_slice.ensures (c.are_zeros.ensures c.if-not-are_zeros.false))
    (subst C c.as_slice-2.ensures (c.differ.ensures c.if-differ.false))
    (subst A c.as_slice-4.ensures (subst F c.as_slice-3.ensures (c.all_hold.ensures h)))
