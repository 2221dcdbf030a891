use Rattle.std.proofs.Common.{◌≡◌, ℕ, ◌<◌, ◌↔◌, true, List, length, refl, subst}
use Rattle.hy_base.specs.Rows.{row}
use Rattle.cnf_frames.specs.declared.facts.Fact.{Fact}
use Rattle.cnf_frames.specs.Facts.{HoldsIn, fact_at}
use Rattle.invar_find.proofs.Standings.{met-known, met-of}
use Rattle.invar_find.proofs.seen.Seen.meet.Goals as goal

pub returns-then-is_known : goal.returns-then-is_known
returns-then-is_known c =
    met-known _ _ _ c.requires (c.is_known.ensures c.if-is_known.true)

pub returns : goal.returns
returns c =
    let N : List Fact → Type 0 = λ facts. (k : ℕ) → k < length facts →
    (row c.note_failing.new.alive k ≡ true) ↔ ((row c.args.self.now.alive k ≡ true)
    × HoldsIn (row c.args.state.now) (fact_at facts k)) in
    met-of c.args.state.now c.args.self.now _ c.requires refl c.note_ones.ensures.noted
    c.split.ensures.split (subst N c.as_slice.ensures c.note_failing.ensures.noted)
    c.note_ones.ensures.many c.split.ensures.room c.note_failing.ensures.many
