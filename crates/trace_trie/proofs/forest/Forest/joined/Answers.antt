use Rattle.std.proofs.Common.{◌≡◌, ◌<◌, ◌+◌, ◌^◌, ◌++◌, length, length-append, ap, ◌∙◌, subst, arith}
use Rattle.trace_trie.specs.Kids.{AreKids}
use Rattle.trace_trie.proofs.Kids.{kids-append}
use Rattle.trace_trie.proofs.forest.Forest.joined.Goals as goal

pub invariant_of-result : goal.invariant_of-result
invariant_of-result c =
    let before : c.len-before.result ≡ length c.args.first.value = c.len-before.ensures ∙ ap length c.deref.ensures in
    let after : c.len-after.result ≡ length c.args.second.value = c.len-after.ensures ∙ ap length c.deref-2.ensures in
    let kids : AreKids c.args.first.value = subst AreKids c.deref-3.ensures c.kids_differ.ensures in
    let others : AreKids c.args.second.value = subst AreKids c.deref-4.ensures c.kids_differ-2.ensures in
    let some : 0 < length c.args.first.value = omega (arith, before, c.if-before-eq0.false) in
    let more : 0 < length c.args.second.value = omega (arith, after, c.if-after-eq0.false) in
    let sum : c.in-Some.count ≡ c.len-before.result + c.len-after.result = c.in-Some.ensures.1 in
    let count : c.in-Some.count ≡ length (c.args.first.value ++ c.args.second.value) =
    omega (arith, length-append c.args.first.value c.args.second.value, before, after, sum) in
    let few : c.in-Some.count + 1 < 2 ^ 64 = omega arith in
    record {
      forked = (c.requires.name, some, more, count, c.requires.lack, c.requires.have, few);
      kids = kids-append c.args.name c.args.first.value c.args.second.value kids others c.requires.lack c.requires.have;
    }
