use Rattle.std.proofs.Common.{length, refl, sym, ◌∙◌}
use Rattle.std.proofs.lemmas.Option.{slice_get_read}
use Rattle.rv_core.proofs.build.all_universal.Goals as goal

pub returns-in_default : goal.returns-in_default
returns-in_default c =
    let list = c.args.formulas.now in
    record {
      universal = tt;
      refused = record {
        formula = c.index-formulas-i.result;
        there = slice_get_read list
            (length list) c.loop-i.i c.index-formulas-i.result refl c.loop-i-test.true
            c.index-formulas-i.is;
        class = sym c.class.ensures;
        other = λ universal. c.in_default.not-Forall (c.class.ensures ∙ universal);
        before = λ j f below at. c.loop-i.invariant j f below at;
      };
    }
