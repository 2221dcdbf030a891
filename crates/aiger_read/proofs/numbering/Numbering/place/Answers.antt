use Rattle.std.proofs.Common.{◌≤◌, ◌^◌, subst, ℕ, arith}
use Rattle.std.proofs.lemmas.List.{get_or_past}
use Rattle.aiger_read.proofs.numbering.Numbering.place.Goals as goal

pub returns-else-v-len-clause-small : goal.returns-else-v-len-clause-small
returns-else-v-len-clause-small c =
    let P : ℕ → Type 0 = λ n. n ≤ 2 ^ 30 in
    subst P (get_or_past c.args.self.now.places c.args.v c.args.self.now.count (omega (arith, c.if-v-len.false, c.len.ensures))) (c.args.self.now.small c.args.v)
