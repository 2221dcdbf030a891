use Rattle.std.proofs.Common.{length, subst, sym}
use Rattle.cnf_frames.specs.declared.facts.Fact.{Fact}
use Rattle.cnf_frames.specs.Facts.{IsIn}
use Rattle.invar_find.proofs.Sublists.{in-at}
use Rattle.invar_find.proofs.sifting.Sifter.try_other.Goals as goal

pub try_breaking-requires-clause-inside : goal.try_breaking-requires-clause-inside
try_breaking-requires-clause-inside c =
    let P : Fact → Type 0 = IsIn (length c.args.safe.now.net.latches) in
    subst P (sym c.in_ok-fact.ensures)
    (in-at _ c.args.seen.now.others c.args.k _ c.requires.of.others c.at.ensures)
