use Rattle.std.proofs.Common.{◌<◌, ◌++◌, [], length, take, refl, sym, true≢false, ◌∙◌, arith, rules}
use Rattle.rv_watch.proofs.Watching.{behind-first, given-first, given-more, whole-last, watched-unopened, watched-unread, watched-stopped, watched-whole}
use Rattle.rv_watch.proofs.input.watch_input.Goals as goal

pub returns-in_default-clause-watched : goal.returns-in_default-clause-watched
returns-in_default-clause-watched g c =
    watched-unopened c.args.terms.now _ g.E.Sink c.args.err.now c.args.err.now g.S.Shelf c.args.shelf.now c.open_file.new.self _ refl
    (record {
      said = c.in_default.ensures.refused;
      counted = c.in_default.ensures.counted;
      closed = λ t. (c.in_default.ensures.closed t).0;
      lacks = c.in_default.ensures.lacks;
    }) c.input_fault.ensures

pub loop-front-init : goal.loop-front-init
loop-front-init g c =
    let open_is = c.in-Ok.ensures in
    record {
      keeps_shelf = record {
        tells = open_is.tells;
        files = open_is.files;
        sound = open_is.sound;
        open_faults = open_is.open_faults;
        read_faults = omega (arith, open_is.read_faults);
      };
      keeps_err = record { tells = λ t. t; faults = omega arith };
      bytes = [];
      given = given-first g.S.Shelf c.args.shelf.now c.open_file.new.self open_is.called open_is.whole;
      behind =
          behind-first c.args.terms.now g.E.Sink c.args.err.now c.args.rv _ _ c.new-watcher.ensures c.new-front.ensures c.requires;
    }

pub returns-in-Err-clause-watched : goal.returns-in-Err-clause-watched
returns-in-Err-clause-watched g c =
    let before = c.loop-front.invariant in
    watched-unread c.args.terms.now _ g.E.Sink c.args.err.now c.loop-front.err g.S.Shelf c.args.shelf.now c.loop-front.watcher c.loop-front.front
    before.bytes c.loop-front.shelf c.read.new.self _ before.behind before.given c.in-Err.ensures.refused
    (λ last. let rose = c.in-Err.ensures.counted last in omega (arith, rose, before.keeps_shelf.read_faults))
    (λ sound. true≢false (sym (c.in-Err.ensures.succeeds (before.keeps_shelf.sound sound)))) c.input_fault-in-Err.ensures

pub returns-in-Ok-eq0-clause-watched : goal.returns-in-Ok-eq0-clause-watched
returns-in-Ok-eq0-clause-watched g c =
    let before = c.loop-front.invariant in
    let some : 0 < length c.loop-front.buffer = search rules in
    let whole = whole-last g.S.Shelf c.args.shelf.now c.loop-front.shelf c.read.new.self before.bytes before.given (c.in-Ok-eq0.ensures.at_end some c.in-Ok-eq0.field-0-test)
    (λ t. c.in-Ok-eq0.ensures.ended (before.keeps_shelf.tells t) some c.in-Ok-eq0.field-0-test) in
    watched-whole c.args.terms.now _ g.E.Sink c.args.err.now c.finish.new.err g.S.Shelf c.args.shelf.now before.bytes c.read.new.self _ whole
    (rw c.as_slice.ensures at c.finish.ensures.finished _ c.args.err.now before.bytes before.behind)

pub returns-in-Some-clause-watched : goal.returns-in-Some-clause-watched
returns-in-Some-clause-watched g c =
    let before = c.loop-front.invariant in
    let piece = take c.in-Ok-read.count c.read.new.buf in
    let called = c.in-Ok-read.ensures.called (search rules) in
    watched-stopped c.args.terms.now _ g.E.Sink c.args.err.now c.feed-fed.new.err g.S.Shelf c.args.shelf.now before.bytes piece c.loop-front.shelf
    c.read.new.self c.in-Some.answer before.given called
    (given-more g.S.Shelf c.args.shelf.now c.loop-front.shelf c.read.new.self before.bytes piece before.given called
    (λ t. c.in-Ok-read.ensures.moved (before.keeps_shelf.tells t)))
    (c.in-Some.ensures.fed _ c.args.err.now before.bytes before.behind)

pub loop-front-preserved : goal.loop-front-preserved
loop-front-preserved g c =
    let before = c.loop-front.invariant in
    let piece = take c.in-Ok-read.count c.read.new.buf in
    let called = c.in-Ok-read.ensures.called (search rules) in
    let made = c.in_default-fed.ensures in
    record {
      keeps_shelf = record {
        tells = λ t. c.read.ensures.tells (before.keeps_shelf.tells t);
        files = c.read.ensures.files ∙ before.keeps_shelf.files;
        sound = λ s. c.read.ensures.sound (before.keeps_shelf.sound s);
        open_faults = omega (arith, c.read.ensures.open_faults, before.keeps_shelf.open_faults);
        read_faults = omega (arith, c.read.ensures.read_faults, before.keeps_shelf.read_faults);
      };
      keeps_err = record {
        tells = λ t. made.keeps.tells (before.keeps_err.tells t);
        faults = omega (arith, made.keeps.faults, before.keeps_err.faults);
      };
      bytes = before.bytes ++ piece;
      given =
          given-more g.S.Shelf c.args.shelf.now c.loop-front.shelf c.read.new.self before.bytes piece before.given called
          (λ t. c.in-Ok-read.ensures.moved (before.keeps_shelf.tells t));
      behind = made.fed _ c.args.err.now before.bytes before.behind;
    }
