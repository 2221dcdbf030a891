use Rattle.std.proofs.Common.{◌≡◌, ℕ, ◌+◌, false, List, [], ◌∷◌, ◌++◌, nat_lt, if◌then◌else◌, sym, refl, subst, ◌∙◌, arith}
use Rattle.std.proofs.lemmas.Bool.Decides.{nat_tests}
use Rattle.hy_bits.specs.Letter.{Letter}
use Rattle.hy_text.specs.Bytes.{past_blanks}
use Rattle.hy_text.specs.Words.{NoSemicolon}
use Rattle.hy_text.proofs.ReadingWords.{SetsRead, sets_more, sets_all, sets_lack}
use Rattle.hy_text.proofs.words.skip_word.Goals as goal

-- no letter is wanted
none_kept : (read : ℕ) (letter : Letter) → [] ++ (if nat_lt read 0 then letter ∷ [] else []) ≡ []
none_kept read letter = let test : nat_lt read 0 ≡ false = grind (arith, nat_tests) in rw test refl

-- no set stands here
pub returns-in_default : goal.returns-in_default
returns-in_default c = sets_lack _ _ _ _ _ _ _ c.loop-set.invariant.read c.in_default.ensures.found

-- the last set
pub returns-in_default-past_byte : goal.returns-in_default-past_byte
returns-in_default-past_byte c =
    let set = c.in-Some.ensures.found in
    let bare : NoSemicolon (past_blanks c.in-Some.set.rest.now) = λ next e.
    c.in_default-past_byte.ensures.found next (c.past_blanks-rest.ensures.behind ∙ e) in
    let whole = sets_all c.args.names.now 0 [] c.args.text.now c.loop-set.here.now c.loop-set.sets
    [] set.0 c.in-Some.set.letter c.in-Some.set.rest.now c.loop-set.invariant.read set.1 set.2
    bare in
    rw c.past_blanks-rest.ensures.behind
    (whole.0, whole.1, whole.2, sym (none_kept c.loop-set.sets c.in-Some.set.letter) ∙ whole.3)

-- a semicolon
pub loop-set-preserved : goal.loop-set-preserved
loop-set-preserved c =
    let set = c.in-Some.ensures.found in
    let semicolon = sym c.past_blanks-rest.ensures.behind ∙ c.in-Some-past_byte.ensures.found in
    let read = sets_more c.args.names.now 0 [] c.args.text.now c.loop-set.here.now c.loop-set.sets
    [] set.0 c.in-Some.set.letter c.in-Some.set.rest.now c.in-Some-past_byte.next.now
    c.loop-set.invariant.read set.1 set.2 semicolon in
    let P : List Letter → Type 0 = SetsRead c.args.names.now 0 [] c.args.text.now
    (past_blanks c.in-Some-past_byte.next.now) (c.loop-set.sets + 1) in
    record {
      read =
          rw c.past_blanks-here.ensures.behind (subst P
          (none_kept c.loop-set.sets c.in-Some.set.letter) read);
      within =
          omega (
            arith,
            c.past_blanks-here.ensures.within,
            c.in-Some-past_byte.ensures.within,
            c.past_blanks-rest.ensures.within,
            c.in-Some.ensures.within,
          );
    }
