use Rattle.std.proofs.Common.{[], arith, ◌++◌, map, drop, ◌+◌, nat_eq, true, sym, ap, ◌∙◌, refl, subst, append-nil, List, ℕ}
use Rattle.hy_base.specs.Pieces.{GaveFront}
use Rattle.hy_text.specs.Joined.{piece, pieces}
use Rattle.hy_text.specs.Sets.{printed_set}
use Rattle.hy_text.proofs.Fronts.{on_err, made_more, pieces_front}
use Rattle.hy_text.proofs.Printing.{sets_printed, set_next, set_printed, joined_pieces}
use Rattle.hy_text.proofs.words.push_word.Goals as goal

pub loop-i-init : goal.loop-i-init
loop-i-init c = ([], sym (append-nil c.args.out.now), refl)

pub loop-i-preserved : goal.loop-i-preserved
loop-i-preserved c =
    let (made, is, left) = c.loop-i.invariant in
    let added = piece (nat_eq c.loop-i.i 0) 59 (printed_set c.args.names.now c.index-letters-i.result) in (
      made ++ added,
      made_more c.args.out.now c.loop-i.out c.push_next.new.out made added is
          c.in_ok-push_next.ensures.added,
      set_printed (printed_set c.args.names.now) c.args.letters.now c.loop-i.i c.index-letters-i.result
          made _ c.loop-i-test.true c.index-letters-i.is left,
    )

pub returns-clause-added : goal.returns-clause-added
returns-clause-added c =
    let (made, is, left) = c.loop-i.invariant in
    is ∙ ap (λ l. c.args.out.now ++ l)
    (sets_printed (printed_set c.args.names.now) c.args.letters.now c.loop-i.i _ made _ (omega arith) left
    ∙ sym (joined_pieces 59 (map (printed_set c.args.names.now) c.args.letters.now)))

-- a set
pub returns-in_err-push_next-clause-refused : goal.returns-in_err-push_next-clause-refused
returns-in_err-push_next-clause-refused c =
    let f = printed_set c.args.names.now in
    let (made, is, left) = c.loop-i.invariant in
    let P : List ℕ → Type 0 = GaveFront c.args.out.now c.push_next.new.out in
    on_err c.from_residual.result (subst P (sym (joined_pieces 59 (map f c.args.letters.now)))
    (pieces_front 59 (nat_eq c.loop-i.i 0) c.args.out.now c.loop-i.out c.push_next.new.out made
    (f c.index-letters-i.result) (map f (drop (c.loop-i.i + 1) c.args.letters.now))
    (pieces true 59 (map f c.args.letters.now)) is
    (set_next f c.args.letters.now c.loop-i.i c.index-letters-i.result made _ c.loop-i-test.true
    c.index-letters-i.is left)
    c.in_err-push_next.ensures.refused))
