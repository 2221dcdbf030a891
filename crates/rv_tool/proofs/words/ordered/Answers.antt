use Rattle.std.proofs.Common.{length, List, sym, ap, subst, ◌∙◌}
use Rattle.hy_run.specs.Names.{Text}
use Rattle.hy_words.specs.Found.{listed_slice}
use Rattle.rv_tool.specs.Words.{IsRule}
use Rattle.rv_tool.proofs.Asking.{one_file}
use Rattle.rv_tool.proofs.words.ordered.Goals as goal

pub returns-in_ok-count-in-len1-Some-clause-some : goal.returns-in_ok-count-in-len1-Some-clause-some
returns-in_ok-count-in-len1-Some-clause-some c = λ items tells.
    let lengths = tells.options.0 ∙ sym c.value.ensures in
    let P : List Text → Type 0 = λ vs. IsRule vs c.in_ok-lengths.lengths in (
      c.in-len1-Some.given.now,
      record {
        files =
            tells.files ∙ sym c.requires ∙ one_file c.args.files.now _ c.in-len1-Some.len_at_least c.in-len1-Some.len_below ∙ sym c.one.ensures;
        make = tells.options.1.0 ∙ sym c.value-2.ensures ∙ ap listed_slice c.in-len1-Some.is-1;
        rule = subst P (sym lengths) c.in_ok-lengths.ensures.some;
        drops = c.has-drop.ensures ∙ sym tells.flags.0;
      },
      c.in_ok-count-in-len1-Some.ensures.some,
      ap length c.one.ensures,
    )
