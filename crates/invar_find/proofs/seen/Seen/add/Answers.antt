use Rattle.std.proofs.Common.{refl, sym, subst, length}
use Rattle.cnf_frames.specs.declared.facts.Fact.{Fact}
use Rattle.cnf_frames.specs.Facts.{IsIn}
use Rattle.invar_find.specs.Standing.{HasAdded}
use Rattle.invar_find.proofs.Standings.{added-zero, added-same}
use Rattle.invar_find.proofs.seen.Seen.add.Goals as goal

pub returns-in-Zero : goal.returns-in-Zero
returns-in-Zero c =
    let I : Fact → Type 0 = IsIn (length c.args.self.now.ones) in
    let A : Fact → Type 0 = HasAdded (length c.args.self.now.ones) c.args.self.now _ in
    subst A (sym c.in-Zero.is) (added-zero _ _ c.args.self.now _ c.requires.of
    (subst I c.in-Zero.is c.requires.inside) c.set.ensures refl refl refl refl)

pub returns-in-Same : goal.returns-in-Same
returns-in-Same c =
    let A : Fact → Type 0 = HasAdded (length c.args.self.now.ones) c.args.self.now _ in
    subst A (sym c.in-Same.is) (added-same _ _ _ c.args.self.now _ c.requires.of
    c.join.ensures refl refl refl refl)
