use Rattle.std.proofs.Common.{◌≡◌, ◌≤◌, List, [], ◌∷◌, ◌++◌, length, sym, ap, ◌∙◌, subst, arith}
use Rattle.hy_bits.specs.Letter.{Letter}
use Rattle.hy_formula.proofs.Each.{each-append}
use Rattle.trace_trie.specs.Numbered.{Numbered}
use Rattle.trace_trie.specs.Versions.{IsVersion}
use Rattle.trace_trie.proofs.Ascending.{ascending-push}
use Rattle.trace_trie.proofs.version.Version.insert.Goals as goal

pub invariant_of-result : goal.invariant_of-result
invariant_of-result c =
    let all : List Numbered = c.args.self.now in
    let trace : List Letter = c.in_ok-trace.trace.value in
    let new : Numbered = (c.args.number, trace) in
    let same : trace ≡ c.args.trace.now = c.in_ok-trace.ensures.ok ∙ c.in_ok-remake.ensures in
    let some : 1 ≤ length trace =
    omega (arith, ap length same, c.len.ensures.len, c.len.ensures.some) in
    let few : length trace ≤ 1024 =
    omega (arith, ap length same, c.len.ensures.len, c.len.ensures.few) in
    let P : List Numbered → Type 0 = λ l. IsVersion (l ++ new ∷ []) in
    let before : IsVersion all = subst IsVersion c.self.view_is c.self.invariant in
    subst P (sym c.in_ok-base.ensures) record {
      ascending = ascending-push all new before.ascending c.requires;
      traces =
          each-append (λ (p : Numbered). (1 ≤ length p.1) × (length p.1 ≤ 1024)) all (new ∷ [])
          before.traces ((some, few), tt);
    }
