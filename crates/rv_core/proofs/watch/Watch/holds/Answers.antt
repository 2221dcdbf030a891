use Rattle.std.proofs.Common.{◌≡◌, [], length, refl, subst}
use mathlib.Core.Logic.Iff as iff
use Rattle.std.proofs.lemmas.Option.{slice_get_read}
use Rattle.hy_bits.specs.Letter.{Letter}
use Rattle.trace_trie.specs.Numbered.{under}
use Rattle.trace_trie.specs.Cursors.{rests_at}
use Rattle.rv_core.specs.Held.{spec_of}
use Rattle.rv_core.specs.Seen.{watched}
use Rattle.rv_core.proofs.Looking.{down-next, none-down, down-end, first-held}
use Rattle.rv_core.proofs.watch.Watch.holds.Goals as goal

pub returns-in-None : goal.returns-in-None
returns-in-None c =
    let t = c.args.trace.now in
    let i = c.loop-letter.letter-index in
    let a = c.letter-item.result in
    let rests = rests_at c.loop-letter.cursor in
    let at = slice_get_read t (length t) i a refl c.loop-letter-test.true c.letter-item.is in
    let P : Letter → Type 0 = λ x. under x rests ≡ [] in (
      λ e. absurd (cc),
      λ held. absurd (none-down (spec_of (watched c.args.self.now)) t c.args.kept.now i rests
          c.loop-letter.invariant a at (subst P c.masked_letter.ensures c.in-None.ensures.none)
          held),
    )

pub loop-letter-preserved : goal.loop-letter-preserved
loop-letter-preserved c =
    let t = c.args.trace.now in
    let i = c.loop-letter.letter-index in
    let a = c.letter-item.result in
    let rests = rests_at c.loop-letter.cursor in
    let child = rests_at c.in-Some.child in
    let at = slice_get_read t (length t) i a refl c.loop-letter-test.true c.letter-item.is in
    let P : Letter → Type 0 = λ x. child ≡ under x rests in
    down-next (spec_of (watched c.args.self.now)) t c.args.kept.now i rests
    c.loop-letter.invariant a child at (subst P c.masked_letter.ensures c.in-Some.ensures.some)

pub returns : goal.returns
returns c =
    let rests = rests_at c.loop-letter.cursor in
    iff.trans
    (first-held c.first.result c.is_some.result rests c.is_some.ensures c.first.ensures.some
    c.first.ensures.none)
    (iff.symm (down-end (spec_of (watched c.args.self.now)) c.args.trace.now c.args.kept.now
    c.loop-letter.letter-index rests c.loop-letter.invariant c.loop-letter-test.false))
