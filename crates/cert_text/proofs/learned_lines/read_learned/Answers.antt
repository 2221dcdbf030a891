use Rattle.std.proofs.Common.{ℕ, List, subst, Option}
use denote.Ref.{Bor}
use Rattle.cert_text.specs.Shortened.{IsClauseRead}
use Rattle.cert_text.proofs.Kept.{learned_read}
use Rattle.cert_text.proofs.Learned.{no_learned, no_clause}
use Rattle.cert_text.proofs.learned_lines.read_learned.Goals as goal

pub returns-in_default : goal.returns-in_default
returns-in_default c = no_learned c.args.line.now c.in_default.ensures

pub returns-in_default-2 : goal.returns-in_default-2
returns-in_default-2 c =
    let P : Option (Bor (List ℕ)) → Type 0 =
    λ o. IsClauseRead c.in-Some.entry.now o c.read_clause.new.clause in
    no_clause c.args.line.now c.in-Some.entry.now c.in-Some.ensures
    (subst P c.in_default-2.is c.in_ok-rest.ensures)

pub returns : goal.returns
returns c =
    let P : Option (Bor (List ℕ)) → Type 0 =
    λ o. IsClauseRead c.in-Some.entry.now o c.read_clause.new.clause in
    let (clause, said, same) = subst P c.in-Some-2.is c.in_ok-rest.ensures in
    learned_read c.args.line.now c.in-Some.entry.now c.in-Some-2.rest.now
    c.in_ok-is_chain.is_chain c.read_clause.new.clause c.read_chain.new.chain clause
    c.in-Some.ensures said same c.in_ok-is_chain.ensures
