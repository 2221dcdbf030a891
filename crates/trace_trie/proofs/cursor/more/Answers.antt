use Rattle.std.proofs.Common.{◌≡◌, ◌<◌, List, length, slice_get, Some, refl, sym, ap, arith}
use Rattle.std.proofs.lemmas.Option.{slice_get_read}
use Rattle.hy_bits.specs.Letter.{Letter}
use Rattle.trace_trie.specs.Numbered.{under}
use Rattle.trace_trie.specs.Points.{rests_of}
use Rattle.trace_trie.proofs.Beside.{taken}
use Rattle.trace_trie.proofs.cursor.more.Goals as goal

pub returns-in-Some-clause-more : goal.returns-in-Some-clause-more
returns-in-Some-clause-more c =
    let rest : List Letter = c.args.rest.now in
    let rests = rests_of c.args.point.now in
    let a = c.index-rest-0.result in
    let some : 0 < length rest = grind (arith, c.if-is_empty.false, c.is_empty.ensures) in
    let at : slice_get rest 0 ≡ Some a =
    slice_get_read rest (length rest) 0 a refl some c.index-rest-0.is in
    let passed : 0 < length (under a rests) =
    omega (arith, ap length c.in-Some.ensures.some, c.in-Some.ensures.passed) in
    sym (ap length (taken rests rest a at passed))
