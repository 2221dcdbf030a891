use Rattle.std.proofs.Common.{◌∙◌, pos, neg_ℤ, rules, SFits, w32}
use Rattle.std.proofs.lemmas.Int.{to_z-of_z}
use Rattle.cert_text.proofs.Kept.{opposite_said}
use Rattle.cert_text.proofs.NumbersRead.{literal_minus}
use Rattle.cert_text.proofs.literals.read_literal.Goals as goal

pub returns-in-None-count : goal.returns-in-None-count
returns-in-None-count c = λ says.
    let (n, counts) = (literal_minus c.args.word.now c.in-Some.variable.now
    c.in-Some.ensures.found).1 says in
    c.in-None-count.ensures.said n counts

pub returns-in-Some-count : goal.returns-in-Some-count
returns-in-Some-count c =
    let fits : SFits w32 c.opposite.result = search rules in (
      neg_ℤ (pos c.in-Some-count.n),
      opposite_said c.args.word.now c.in-Some.variable.now c.in-Some-count.n
          c.in-Some.ensures.found c.in-Some-count.ensures.said,
      to_z-of_z w32 c.opposite.result fits ∙ c.opposite.ensures,
    )
