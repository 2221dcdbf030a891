use Rattle.std.proofs.Common.{◌≡◌, List, ◌++◌, sym, ap, ◌∙◌, arith, append_assoc}
use Rattle.hy_bits.specs.Letter.{Letter}
use Rattle.hy_text.specs.Bytes.{past_blanks}
use Rattle.hy_text.specs.Words.{NoSemicolon}
use Rattle.hy_text.proofs.ReadingWords.{sets_more, sets_all, sets_lack}
use Rattle.hy_text.proofs.words.read_sets.Goals as goal

more_of : (old letters new added : List Letter) → (more : List Letter) × (letters ≡ old ++ more) → new ≡ letters ++ added → (more : List Letter) × (new ≡ old ++ more)
more_of old letters new added (more, is) e = (more ++ added, e ∙ ap (λ l. l ++ added) is ∙ append_assoc old more added)

-- no set stands here
pub returns-in_default-clause-found : goal.returns-in_default-clause-found
returns-in_default-clause-found c =
    sets_lack _ _ _ _ _ _ _ c.loop-set.invariant.read c.in_default.ensures.found

pub returns-in_err-keep_letter-clause-kept : goal.returns-in_err-keep_letter-clause-kept
returns-in_err-keep_letter-clause-kept c = rw c.in_err-keep_letter.ensures.refused c.loop-set.invariant.more

-- the last set
pub returns-in_default-past_byte-clause-found : goal.returns-in_default-past_byte-clause-found
returns-in_default-past_byte-clause-found c =
    let set = c.in-Some.ensures.found in
    let bare : NoSemicolon (past_blanks c.in-Some.set.rest.now) = λ next e. c.in_default-past_byte.ensures.found next (c.past_blanks-rest.ensures.behind ∙ e) in
    rw (c.past_blanks-rest.ensures.behind, c.in_ok-keep_letter.ensures.added)
    (sets_all c.args.names.now c.args.most c.args.letters.now c.args.text.now c.loop-set.here.now c.loop-set.sets c.loop-set.letters set.0 c.in-Some.set.letter c.in-Some.set.rest.now c.loop-set.invariant.read set.1 set.2 bare)

pub returns-in_default-past_byte-clause-kept : goal.returns-in_default-past_byte-clause-kept
returns-in_default-past_byte-clause-kept c =
    more_of _ _ _ _ c.loop-set.invariant.more c.in_ok-keep_letter.ensures.added

-- a semicolon
pub loop-set-preserved : goal.loop-set-preserved
loop-set-preserved c =
    let set = c.in-Some.ensures.found in
    let semicolon = sym c.past_blanks-rest.ensures.behind ∙ c.in-Some-past_byte.ensures.found in
    let read = sets_more c.args.names.now c.args.most c.args.letters.now c.args.text.now c.loop-set.here.now c.loop-set.sets c.loop-set.letters set.0 c.in-Some.set.letter c.in-Some.set.rest.now c.in-Some-past_byte.next.now c.loop-set.invariant.read set.1 set.2 semicolon in
    record {
      read = rw (c.past_blanks-here.ensures.behind, c.in_ok-keep_letter.ensures.added) read;
      more = more_of _ _ _ _ c.loop-set.invariant.more c.in_ok-keep_letter.ensures.added;
      within = omega (arith, c.past_blanks-here.ensures.within, c.in-Some-past_byte.ensures.within, c.past_blanks-rest.ensures.within, c.in-Some.ensures.within);
    }
