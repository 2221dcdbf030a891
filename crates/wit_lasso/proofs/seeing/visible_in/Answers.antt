use Rattle.std.proofs.Common.{◌≡◌, ℕ, ◌<◌, Bool, false, List, length, sym, ap, ◌∙◌, subst, arith}
use Rattle.std.proofs.lemmas.List.{length-map}
use Rattle.std.specs.FinSet.{contains}
use Rattle.hy_bits.specs.Letter.{Letter}
use Rattle.aig_net.specs.Following.{row_at}
use Rattle.hy_base.specs.Rows.{row}
use Rattle.sym_tableau.specs.Places.{AreWithin}
use Rattle.wit_lasso.specs.Seeing.{AreSeen}
use Rattle.wit_lasso.proofs.Letters.{shows-rows, sound-cycle, sound-stem}
use Rattle.wit_lasso.proofs.seeing.visible_in.Goals as goal

pub letters_of-requires-clause-within : goal.letters_of-requires-clause-within
letters_of-requires-clause-within c =
    let (net, run, is, within) = c.requires in
    let sound = sound-stem net c.args.signals.now run c.args.values.now is within in
    let P : List (List Bool) → Type 0 = λ rows. (i : ℕ) → i < length rows →
    AreWithin (length (row_at rows i)) c.args.signals.now in
    subst P (sym c.as_slice.ensures) sound.within

pub letters_of-requires-clause-constant : goal.letters_of-requires-clause-constant
letters_of-requires-clause-constant c =
    let (net, run, is, within) = c.requires in
    let sound = sound-stem net c.args.signals.now run c.args.values.now is within in
    let P : List (List Bool) → Type 0 = λ rows. (i : ℕ) → i < length rows →
    row (row_at rows i) 0 ≡ false in
    subst P (sym c.as_slice.ensures) sound.constant

pub letters_of-requires-2-clause-within : goal.letters_of-requires-2-clause-within
letters_of-requires-2-clause-within c =
    let (net, run, is, within) = c.requires in
    let sound = sound-cycle net c.args.signals.now run c.args.values.now is within in
    let P : List (List Bool) → Type 0 = λ rows. (i : ℕ) → i < length rows →
    AreWithin (length (row_at rows i)) c.args.signals.now in
    subst P (sym c.as_slice-2.ensures) sound.within

pub letters_of-requires-2-clause-constant : goal.letters_of-requires-2-clause-constant
letters_of-requires-2-clause-constant c =
    let (net, run, is, within) = c.requires in
    let sound = sound-cycle net c.args.signals.now run c.args.values.now is within in
    let P : List (List Bool) → Type 0 = λ rows. (i : ℕ) → i < length rows →
    row (row_at rows i) 0 ≡ false in
    subst P (sym c.as_slice-2.ensures) sound.constant

pub returns-clause-shows : goal.returns-clause-shows
returns-clause-shows c =
    let (net, run, is, within) = c.requires in
    let A : List (List Bool) → List Letter → Type 0 = AreSeen c.args.signals.now in
    let S : List (List Bool) → Type 0 = λ rows. A rows c.in_ok-stem.stem in
    let C : List (List Bool) → Type 0 = λ rows. A rows c.in_ok-cycle.cycle in
    let T : List Letter → Type 0 = A c.args.values.now.stem in
    let D : List Letter → Type 0 = A c.args.values.now.cycle in
    let stem : T c.in-Some.lasso.stem = subst T (sym c.in-Some.ensures.made.0)
    (subst S c.as_slice.ensures c.in_ok-stem.ensures) in
    let cycle : D c.in-Some.lasso.cycle = subst D (sym c.in-Some.ensures.made.1)
    (subst C c.as_slice-2.ensures c.in_ok-cycle.ensures) in
    let many = length-map c.args.values.now.cycle row in
    let some : 0 < length c.args.values.now.cycle = omega (arith, many, is.execution.some) in
    λ i name. ap (λ (l : Letter). contains l name) (c.shorten.ensures.word i)
    ∙ shows-rows c.args.signals.now c.args.values.now c.in-Some.lasso stem cycle some i name
