use Rattle.std.proofs.Common.{Option, subst, length}
use Rattle.hy_text.specs.declared.words.WordRead.{WordRead}
use Rattle.hy_text.specs.Found.{IsWordHere}
use Rattle.hy_lasso.proofs.Lengths.{word_long}
use Rattle.hy_lasso.proofs.ReadingLassos.{all_kept, cycle_found}
use Rattle.hy_lasso.proofs.line.read_cycle.Goals as goal

pub returns : goal.returns
returns c =
    let P : Option WordRead → Type 0 = IsWordHere c.args.names.now (length c.args.text.now)
    c.args.letters.now c.read_word.new.letters c.args.text.now in
    let (sets, word, count, kept) = subst P c.in-Some.is c.in_ok-word.ensures.found.0 in
    cycle_found c.args.names.now c.args.text.now c.read_word.new.letters sets
    c.in-Some.word.rest.now c.is_empty.result c.is_empty.ensures word
    (all_kept c.args.names.now sets (length c.args.text.now) c.args.letters.now
    c.read_word.new.letters c.requires (word_long c.args.text.now sets c.in-Some.word.rest.now word) kept)
