use Rattle.std.proofs.Common.{◌≡◌, sym, ap, subst, ◌∙◌}
use Rattle.std.proofs.lemmas.Result.{IfOk-weaker}
use Rattle.clap.specs.Faults.{fault_of, is_simple_and_free}
use Rattle.clap.specs.Kinds.{HasKind, Kinds}
use Rattle.clap.specs.Simple.{app_of, is_simple, matches_of}
use Rattle.hy_words.specs.Parsers.{parser_of}
use Rattle.hy_words.specs.Words.{syntax_of, texts}
use Rattle.hy_words.proofs.Names.{simple, simple_and_free}
use Rattle.hy_words.proofs.Finding.{found_is, found_told, found_none, none_of, refused_none, texts_utf8}
use Rattle.hy_words.proofs.found.found_in.Goals as goal

pub returns-in-Ok-clause-some : goal.returns-in-Ok-clause-some
returns-in-Ok-clause-some c =
    let syntax = syntax_of c.args.syntax in
    let words = texts c.args.words.now in
    let is : app_of c.in_ok-parser.parser ≡ parser_of syntax = c.in_ok-parser.ensures in
    let passes = c.in-Ok.ensures.kinds (ap is_simple_and_free is ∙ simple_and_free syntax) in
    let same = (c.in-Ok.ensures.matches (ap is_simple is ∙ simple syntax)).0 in
    found_is syntax c.requires words _ (same ∙ ap (λ a. matches_of a words) is) c.proper.result (texts_utf8 c.args.words.now)
    (sym (ap (λ a. fault_of a words) is) ∙ passes) c.proper.ensures.some

pub returns-in-Ok-clause-told : goal.returns-in-Ok-clause-told
returns-in-Ok-clause-told c =
    let syntax = syntax_of c.args.syntax in
    let words = texts c.args.words.now in
    let is : app_of c.in_ok-parser.parser ≡ parser_of syntax = c.in_ok-parser.ensures in
    let same = (c.in-Ok.ensures.matches (ap is_simple is ∙ simple syntax)).0 in
    found_told syntax c.requires words _ (same ∙ ap (λ a. matches_of a words) is) c.proper.result c.proper.ensures.some

pub returns-in-Ok-clause-none : goal.returns-in-Ok-clause-none
returns-in-Ok-clause-none c =
    let syntax = syntax_of c.args.syntax in
    let words = texts c.args.words.now in
    let is : app_of c.in_ok-parser.parser ≡ parser_of syntax = c.in_ok-parser.ensures in
    let same = (c.in-Ok.ensures.matches (ap is_simple is ∙ simple syntax)).0 in
    found_none syntax c.requires words _ (same ∙ ap (λ a. matches_of a words) is) c.proper.result c.proper.ensures.none

pub returns-in-Err-clause-none : goal.returns-in-Err-clause-none
returns-in-Err-clause-none c =
    let syntax = syntax_of c.args.syntax in
    let words = texts c.args.words.now in
    let is : app_of c.in_ok-parser.parser ≡ parser_of syntax = c.in_ok-parser.ensures in
    let kinds = c.in-Err.ensures.kinds (ap is_simple_and_free is ∙ simple_and_free syntax) in
    let P : Kinds → Type 0 = λ ks. HasKind ks c.in-Err.error in
    IfOk-weaker c.refused.result _ _ (λ found refuses. none_of found _ refuses.0
    (refused_none syntax c.requires words c.in-Err.error (subst P (ap (λ a. fault_of a words) is) kinds)
    (λ e. refuses.1 (c.kind.ensures ∙ e)))) c.refused.ensures
