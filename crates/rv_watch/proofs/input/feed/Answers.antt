use Rattle.std.proofs.Common.{◌≡◌, ◌++◌, ◌≤◌, ◌<◌, ◌∷◌, [], length, refl, arith, length-append}
use Rattle.hy_base.specs.declared.reading.TheConstants.{BYTES_LIMIT}
use Rattle.hy_text.specs.Lines.{lines_of}
use Rattle.rv_watch.specs.Courses.{most_lines}
use Rattle.rv_watch.proofs.Feeding.{passing-first, passing-more, passing-stopped, passing-large, passing-kept, room-last, room-on, taken-few}
use Rattle.rv_watch.proofs.input.feed.Goals as goal

pub loop-line-init : goal.loop-line-init
loop-line-init g c = record {
  keeps = record { tells = λ t. t; faults = omega arith };
  passing = λ specs from bytes b.
      passing-first c.args.terms.now specs g.E.Sink from c.args.err.now c.args.watcher.now c.args.front.now bytes c.args.piece.now b;
  room = omega arith;
}

pub overflow_sub-len : goal.overflow_sub-len
overflow_sub-len g c =
    let (specs, from, bytes, behind) = c.requires in
    let small = (c.loop-line.invariant.passing specs from bytes behind).small in
    omega (arith, small, c.len.ensures)

pub returns-then-len-line-clause-fed : goal.returns-then-len-line-clause-fed
returns-then-len-line-clause-fed g c specs from bytes b =
    let p = c.loop-line.invariant.passing specs from bytes b in
    let line = c.split_line.result.0.now in
    let long : BYTES_LIMIT < length (c.loop-line.front ++ line) =
    omega (arith, length-append c.loop-line.front line, c.if-len-line.true, c.len.ensures, p.small) in
    passing-large c.args.terms.now specs g.E.Sink from c.loop-line.err c.loop-line.watcher c.loop-line.front bytes c.args.piece.now
    c.loop-line.left.now line p _ _ c.split_line.ensures.lines long refl

pub returns-in_default-clause-fed : goal.returns-in_default-clause-fed
returns-in_default-clause-fed g c specs from bytes b =
    let p = c.loop-line.invariant.passing specs from bytes b in
    let line = c.split_line.result.0.now in
    let small : length (c.loop-line.front ++ line) ≤ BYTES_LIMIT =
    omega (arith, length-append c.loop-line.front line, c.if-len-line.false, c.len.ensures, p.small) in
    let last : lines_of c.loop-line.left.now ≡ line ∷ [] = rw c.in_default.is at c.split_line.ensures.lines in
    passing-kept c.args.terms.now specs g.E.Sink from c.loop-line.err c.loop-line.watcher c.loop-line.front bytes c.args.piece.now
    c.loop-line.left.now line p last c.keep.new.front c.keep.result small c.keep.ensures.kept c.keep.ensures.refused

pub returns-in_default-clause-room : goal.returns-in_default-clause-room
returns-in_default-clause-room g c =
    let (specs, from, bytes, behind) = c.requires in
    let p = c.loop-line.invariant.passing specs from bytes behind in
    let line = c.split_line.result.0.now in
    let small : length (c.loop-line.front ++ line) ≤ BYTES_LIMIT =
    omega (arith, length-append c.loop-line.front line, c.if-len-line.false, c.len.ensures, p.small) in
    let last : lines_of c.loop-line.left.now ≡ line ∷ [] = rw c.in_default.is at c.split_line.ensures.lines in
    room-last c.loop-line.watcher.lines (length c.args.piece.now) _ c.loop-line.front c.keep.new.front line c.loop-line.left.now c.keep.result small
    last c.loop-line.invariant.room c.keep.ensures.kept

pub take_ended-stopped-requires-clause-small : goal.take_ended-stopped-requires-clause-small
take_ended-stopped-requires-clause-small g c =
    let (specs, from, bytes, behind) = c.requires in
    let p = c.loop-line.invariant.passing specs from bytes behind in
    omega (arith, length-append c.loop-line.front c.split_line.result.0.now, c.if-len-line.false, c.len.ensures, p.small)

pub take_ended-stopped-requires-clause-at : goal.take_ended-stopped-requires-clause-at
take_ended-stopped-requires-clause-at g c =
    let (specs, from, bytes, behind) = c.requires in
    let p = c.loop-line.invariant.passing specs from bytes behind in
    (specs, from, p.course, p.at)

pub returns-in-Some-stopped-clause-fed : goal.returns-in-Some-stopped-clause-fed
returns-in-Some-stopped-clause-fed g c specs from bytes b =
    let p = c.loop-line.invariant.passing specs from bytes b in
    let line = c.split_line.result.0.now in
    let lines : lines_of c.loop-line.left.now ≡ line ∷ lines_of c.in-Some.rest.now = rw c.in-Some.is at c.split_line.ensures.lines in
    passing-stopped c.args.terms.now specs g.E.Sink from c.loop-line.err c.loop-line.watcher c.loop-line.front bytes c.args.piece.now
    c.loop-line.left.now line p c.in-Some.rest.now lines c.take_ended-stopped.new.err c.take_ended-stopped.new.watcher c.in-Some-stopped.answer
    (c.in-Some-stopped.ensures.taken specs from p.course p.at)

pub loop-line-preserved : goal.loop-line-preserved
loop-line-preserved g c =
    let line = c.split_line.result.0.now in
    let lines : lines_of c.loop-line.left.now ≡ line ∷ lines_of c.in-Some.rest.now = rw c.in-Some.is at c.split_line.ensures.lines in
    let before = c.loop-line.invariant in
    let made = c.in_default-stopped.ensures in
    record {
      keeps = record {
        tells = λ t. made.keeps.tells (before.keeps.tells t);
        faults = omega (arith, made.keeps.faults, before.keeps.faults);
      };
      passing = λ specs from bytes b.
          let p = before.passing specs from bytes b in
          passing-more c.args.terms.now specs g.E.Sink from c.loop-line.err c.loop-line.watcher c.loop-line.front bytes c.args.piece.now
          c.loop-line.left.now line p c.in-Some.rest.now lines c.take_ended-stopped.new.err c.take_ended-stopped.new.watcher
          c.take_ended-stopped.new.front made.empty (made.taken specs from p.course p.at);
      room =
          let (specs, from, bytes, behind) = c.requires in
          let p = before.passing specs from bytes behind in
          let small : length (c.loop-line.front ++ line) ≤ BYTES_LIMIT =
          omega (arith, length-append c.loop-line.front line, c.if-len-line.false, c.len.ensures, p.small) in
          let took = made.taken specs from p.course p.at in
          let few : p.course.lines < most_lines =
          taken-few c.args.terms.now.question.lengths specs c.args.terms.now.names.now c.args.terms.now.question.every p.course took.0
          (c.loop-line.front ++ line) took.1 in
          room-on c.loop-line.watcher.lines c.take_ended-stopped.new.watcher.lines (length c.args.piece.now) _ c.loop-line.front
          c.take_ended-stopped.new.front line c.in-Some.rest.now c.loop-line.left.now (omega (arith, few, p.at.lines)) small lines made.more made.empty
          before.room;
    }
