use Rattle.std.proofs.Common.{length, take, ◌++◌, ap, ◌≡◌, ◌<◌, ◌+◌, arith, rules, length-append, sym, min, ◌∙◌}
use Rattle.std.proofs.lemmas.Grind.{common_steps}
use Rattle.std.proofs.lemmas.List.{length-take}
use Rattle.hy_base.specs.declared.reading.TheConstants.{BYTES_LIMIT}
use Rattle.hy_base.specs.Shelf.{Gave, more}
use Rattle.hy_base.proofs.Readings.{gave_nothing, gave_more, said_short, rest_read}
use Rattle.hy_base.proofs.reading.read_rest.Goals as goal

pub loop-text-init : goal.loop-text-init
loop-text-init g c =
    let given = gave_nothing g.S.Shelf c.args.shelf.now c.new-text.result c.new-text.ensures in
    search rules

-- the reads went past the limit
pub returns-then-len-count-clause-said : goal.returns-then-len-count-clause-said
returns-then-len-count-clause-said g c =
    let said = c.in-Ok.ensures.called (search rules) in
    let count = length-take c.in-Ok.count c.read.new.buf in
    let within = c.in-Ok.ensures.within in (
      c.loop-text.text ++ take c.in-Ok.count c.read.new.buf,
      more _ _ _ _ c.loop-text.invariant.given said,
      omega (arith, length-append c.loop-text.text (take c.in-Ok.count c.read.new.buf), count, within, c.len.ensures, c.if-len-count.true),
    )

pub loop-text-preserved : goal.loop-text-preserved
loop-text-preserved g c = record {
  keeps = record {
    tells = λ t. c.read.ensures.tells (c.loop-text.invariant.keeps.tells t);
    files = c.read.ensures.files ∙ c.loop-text.invariant.keeps.files;
    sound = λ s. c.read.ensures.sound (c.loop-text.invariant.keeps.sound s);
    open_faults = omega (arith, c.read.ensures.open_faults, c.loop-text.invariant.keeps.open_faults);
    read_faults = omega (arith, c.read.ensures.read_faults, c.loop-text.invariant.keeps.read_faults);
  };
  opened = λ t. c.read.ensures.opened (c.loop-text.invariant.keeps.tells t) ∙ c.loop-text.invariant.opened t;
  open_faults = c.read.ensures.open_faults ∙ c.loop-text.invariant.open_faults;
  given =
      gave_more g.S.Shelf _ _ _ _ _ _ c.loop-text.invariant.given (c.in-Ok.ensures.called (search rules))
      c.in_ok-extend-in-Ok.ensures.added;
  within =
      omega (
        arith,
        ap length c.in_ok-extend-in-Ok.ensures.added,
        length-append c.loop-text.text (take c.in-Ok.count c.read.new.buf),
        length-take c.in-Ok.count c.read.new.buf,
        c.if-len-count.false,
        c.len.ensures,
        c.loop-text.invariant.within,
      );
  front = λ t.
      rest_read _ _ _ _ _ _ (c.loop-text.invariant.front t)
      (c.in-Ok.ensures.moved (c.loop-text.invariant.keeps.tells t)) c.in_ok-extend-in-Ok.ensures.added;
}

pub returns-in_err-extend-in-Ok-clause-said : goal.returns-in_err-extend-in-Ok-clause-said
returns-in_err-extend-in-Ok-clause-said g c =
    let said = c.in-Ok.ensures.called (search rules) in
    said_short g.S.Shelf _ _ _ _ _ _ (search rules) c.loop-text.invariant.given said
