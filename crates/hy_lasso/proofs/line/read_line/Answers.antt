use Rattle.std.proofs.Common.{Option, Bool, true, ℕ, List, [], subst}
use denote.Ref.{Bor}
use Rattle.hy_text.specs.Bytes.{past_blanks}
use Rattle.hy_text.specs.Words.{SpellsWord}
use Rattle.hy_lasso.specs.LassoLines.{SpellsStem}
use Rattle.hy_lasso.specs.LineParts.{IsStemFound, IsCycleFound}
use Rattle.hy_lasso.proofs.ReadingLassos.{no_cycle, no_lasso, lasso_found}
use Rattle.hy_lasso.proofs.line.read_line.Goals as goal

-- no stem
pub returns-in_default : goal.returns-in_default
returns-in_default c =
    let P : Option (Bor (List ℕ)) → Type 0 =
    IsStemFound c.args.names.now c.past_blanks.result.now c.read_stem.new.letters in
    let none = subst P c.in_default.is c.in_ok-rest.ensures in
    let Q : List ℕ → Type 0 = λ t.
    (sets : List (List (List ℕ))) (rest : List ℕ) → ¬ SpellsStem t sets rest in
    no_lasso c.args.line.now (subst Q c.past_blanks.ensures.behind none)

-- a stem and no word behind it
pub returns-then-not-branch : goal.returns-then-not-branch
returns-then-not-branch c =
    let P : Option (Bor (List ℕ)) → Type 0 =
    IsStemFound c.args.names.now c.past_blanks.result.now c.read_stem.new.letters in
    let (sets, stem, e) = subst P c.in-Some.is c.in_ok-rest.ensures in
    let Q : Bool → Type 0 =
    IsCycleFound c.args.names.now c.past_blanks-2.result.now c.read_cycle.new.letters in
    let none = subst Q c.if-not-branch.true c.in_ok-read_cycle.ensures in
    let R : List ℕ → Type 0 = λ t. (cycle : List (List (List ℕ))) → ¬ SpellsWord t cycle [] in
    let S : List ℕ → Type 0 = λ t. SpellsStem t sets c.in-Some.rest.now in
    no_cycle (past_blanks c.args.line.now) sets c.in-Some.rest.now
    (subst S c.past_blanks.ensures.behind stem)
    (subst R c.past_blanks-2.ensures.behind none)

-- a stem and a cycle
pub returns : goal.returns
returns c =
    let P : Option (Bor (List ℕ)) → Type 0 =
    IsStemFound c.args.names.now c.past_blanks.result.now c.read_stem.new.letters in
    let (sets, stem, e) = subst P c.in-Some.is c.in_ok-rest.ensures in
    let Q : Bool → Type 0 =
    IsCycleFound c.args.names.now c.past_blanks-2.result.now c.read_cycle.new.letters in
    let cycle = subst Q c.if-not-branch.false c.in_ok-read_cycle.ensures in
    let R : List ℕ → Type 0 = λ t. IsCycleFound c.args.names.now t c.read_cycle.new.letters true in
    let S : List ℕ → Type 0 = λ t. SpellsStem t sets c.in-Some.rest.now in
    lasso_found c.args.names.now c.args.line.now c.read_stem.new.letters c.read_cycle.new.letters
    sets c.in-Some.rest.now c.new.result (subst S c.past_blanks.ensures.behind stem) e
    (subst R c.past_blanks-2.ensures.behind cycle) c.new.ensures.made c.new.ensures.refused
