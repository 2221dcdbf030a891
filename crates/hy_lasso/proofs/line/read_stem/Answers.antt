use Rattle.std.proofs.Common.{Option, subst, length}
use Rattle.hy_text.specs.declared.words.WordRead.{WordRead}
use Rattle.hy_text.specs.Found.{IsWordHere}
use Rattle.hy_lasso.proofs.Lengths.{word_long}
use Rattle.hy_lasso.proofs.ReadingLassos.{all_kept, no_stem, stem_found}
use Rattle.hy_lasso.proofs.line.read_stem.Goals as goal

-- no bar and no word
pub returns-in_default-2 : goal.returns-in_default-2
returns-in_default-2 c =
    let P : Option WordRead → Type 0 = IsWordHere c.args.names.now (length c.args.text.now)
    c.args.letters.now c.read_word.new.letters c.args.text.now in
    no_stem c.args.text.now c.in_default.ensures.found
    (subst P c.in_default-2.is c.in_ok-word.ensures.found.0)

-- a word, and a bar or none
pub returns : goal.returns
returns c =
    let P : Option WordRead → Type 0 = IsWordHere c.args.names.now (length c.args.text.now)
    c.args.letters.now c.read_word.new.letters c.args.text.now in
    let (sets, word, count, kept) = subst P c.in-Some-2.is c.in_ok-word.ensures.found.0 in
    stem_found c.args.names.now c.args.text.now c.read_word.new.letters sets
    c.in-Some-2.word.rest.now c.past_byte-2.result c.in_default.ensures.found word
    (all_kept c.args.names.now sets (length c.args.text.now) c.args.letters.now
    c.read_word.new.letters c.requires (word_long c.args.text.now sets c.in-Some-2.word.rest.now word) kept) c.past_byte-2.ensures.found
