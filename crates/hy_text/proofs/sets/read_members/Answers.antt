use Rattle.std.proofs.Common.{sym, ◌∙◌, arith}
use Rattle.hy_text.proofs.ReadingSets.{names_more, names_all, names_lack, names_break}
use Rattle.hy_text.proofs.sets.read_members.Goals as goal

-- no name stands here
pub returns-in_default-clause-found : goal.returns-in_default-clause-found
returns-in_default-clause-found c =
    names_lack c.args.names.now c.args.text.now c.loop-name.here.now c.loop-name.letter c.loop-name.invariant.read (sym c.in_default.ensures.found)

-- the closing brace
pub returns-in-Some-past_byte-clause-found : goal.returns-in-Some-past_byte-clause-found
returns-in-Some-past_byte-clause-found c =
    let close = sym c.past_blanks-tail.ensures.behind ∙ c.in-Some-past_byte.ensures.found in
    let all = names_all c.args.names.now c.args.text.now c.loop-name.here.now c.loop-name.letter c.in-Some.name.now c.in-Some.behind.now c.in-Some-past_byte.rest.now c.loop-name.invariant.read (sym c.in-Some.ensures.found) close in
    (all.0, all.1, c.with_member-letter.ensures ∙ all.2)

-- neither a comma nor the closing brace
pub returns-in_default-past_byte-2-clause-found : goal.returns-in_default-past_byte-2-clause-found
returns-in_default-past_byte-2-clause-found c =
    names_break c.args.names.now c.args.text.now c.loop-name.here.now c.loop-name.letter c.in-Some.name.now c.in-Some.behind.now c.loop-name.invariant.read (sym c.in-Some.ensures.found)
    (λ next e. c.in_default-past_byte.ensures.found next (c.past_blanks-tail.ensures.behind ∙ e))
    (λ next e. c.in_default-past_byte-2.ensures.found next (c.past_blanks-tail.ensures.behind ∙ e))

-- a comma
pub loop-name-preserved : goal.loop-name-preserved
loop-name-preserved c =
    let comma = sym c.past_blanks-tail.ensures.behind ∙ c.in-Some-past_byte-2.ensures.found in
    let more = names_more c.args.names.now c.args.text.now c.loop-name.here.now c.loop-name.letter c.in-Some.name.now c.in-Some.behind.now c.in-Some-past_byte-2.next.now c.loop-name.invariant.read (sym c.in-Some.ensures.found) comma in
    record {
      read = rw (c.past_blanks-here.ensures.behind, c.with_member-letter.ensures) more;
      within = omega (arith, c.past_blanks-here.ensures.within, c.in-Some-past_byte-2.ensures.within, c.past_blanks-tail.ensures.within, c.in-Some.ensures.within);
    }
