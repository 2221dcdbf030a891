use Rattle.std.proofs.Common.{◌≡◌, ◌≤◌, not, eqb, List, ◌++◌, length, sym, ap, ◌∙◌, subst}
use Rattle.hy_formula.specs.Quantifiers.{Each}
use Rattle.hy_formula.proofs.Each.{each-left, each-filter}
use Rattle.trace_trie.specs.Numbered.{Numbered, with_number, without_number}
use Rattle.trace_trie.specs.Newests.{waiting}
use Rattle.trace_trie.specs.Versions.{IsVersion}
use Rattle.trace_trie.proofs.Ascending.{ascending-filter, only-number, without-none}
use Rattle.trace_trie.proofs.Numbering.{without-append}
use Rattle.trace_trie.proofs.version.Version.without.Goals as goal

pub returns-in-None : goal.returns-in-None
returns-in-None c =
    rw (without-none c.args.number c.args.self.now c.in-None.ensures.none) c.share.ensures

pub without-requires : goal.without-requires
without-requires c =
    let base : List Numbered = c.self.inside.base.value in
    let P : Numbered → Type 0 = λ p. p.0 ≡ c.args.number → p.1 ≡ c.in-Some.trace.now in
    let Q : List Numbered → Type 0 = Each P in
    subst Q (sym c.deref.ensures)
    (each-left P base (waiting c.self.inside.newest)
    (only-number c.args.number c.in-Some.trace.now (base ++ waiting c.self.inside.newest)
    c.self.invariant.ascending
    (ap (with_number c.args.number) c.self.view_is ∙ c.in-Some.ensures.some)))

pub invariant_of-result : goal.invariant_of-result
invariant_of-result c =
    let n = c.args.number in
    let base : List Numbered = c.self.inside.base.value in
    let last : List Numbered = waiting c.self.inside.newest in
    let made : c.in_ok-base-in-Some.base.value ≡ without_number n base =
    c.in_ok-base-in-Some.ensures.ok ∙ c.in_ok-without-in-Some.ensures
    ∙ ap (without_number n) c.deref.ensures in
    let whole : c.in_ok-base-in-Some.base.value ++ waiting c.in_ok-newest-in-Some.newest
    ≡ without_number n (base ++ last) =
    ap (λ l. l ++ waiting c.in_ok-newest-in-Some.newest) made
    ∙ ap (λ l. without_number n base ++ l) c.in_ok-newest-in-Some.ensures.same
    ∙ sym (without-append n base last) in
    subst IsVersion (sym whole) record {
      ascending =
          ascending-filter (λ (p : Numbered). not (eqb p.0 n)) (base ++ last)
          c.self.invariant.ascending;
      traces =
          each-filter (λ (p : Numbered). (1 ≤ length p.1) × (length p.1 ≤ 1024))
          (λ (p : Numbered). not (eqb p.0 n)) (base ++ last) c.self.invariant.traces;
    }
