-- What is learned at the one place of the level through which a conflict goes.
use Rattle.std.proofs.Common.{◌≡◌, ◌≢◌, ℕ, ◌-◌, ◌<◌, ◌≤◌, List, length, get_or, map, take, inl, inr, sym, ap, ◌∙◌, subst, arith}
use Rattle.std.specs.Prelude.{ℤ, pos, neg_ℤ, unsigned_abs}
use Rattle.std.specs.List.{Contains}
use Rattle.std.proofs.lemmas.Bool.{cases_lt}
use Rattle.std.proofs.lemmas.List.{length-take-le, get_or_default, get_or-take}
use Rattle.std.proofs.lemmas.List.Elements.{Contains-get_or}
use Rattle.hy_base.proofs.Members.{from-take}
use Rattle.sat_core.specs.declared.solver.Solver.{Solver}
use Rattle.chain_check.specs.Clauses.{Clause, IsLiteral, AreLiterals, IsApart, IsNew}
use Rattle.chain_check.specs.Chains.{IsFalseIn, IsUnit, Refutes, Follows}
use Rattle.sat_core.specs.Trails.{IsOpenIn, IsSettled, AreSettled}
use Rattle.sat_core.specs.Solvers.{IsReady}
use Rattle.sat_core.specs.Points.{IsTopped}
use Rattle.chain_check.proofs.Literals.{twice, opposite-literal}
use Rattle.sat_core.proofs.Trailing.{learned-new, apart-places, at-front}
use Rattle.sat_core.proofs.Resolving.{consistent-trail}

front-place : (trail : List ℤ) (q : ℕ) (z : ℤ) → q ≤ length trail → Contains (take q trail) z →
    (k : ℕ) × (k < q) × (get_or trail k (pos 0) ≡ z)
front-place trail q z le (k, lt, e) =
    let small : k < q = omega (arith, length-take-le q trail le) in (
      k,
      small,
      sym (get_or-take q trail k (pos 0) small) ∙
          get_or_default (take q trail) k (pos 0) z lt ∙ e,
    )

module _ (s : Solver) (start p : ℕ) (learned : Clause) (highest : ℕ) (ready : IsReady s)
    (some : 0 < length s.limits.items) (last : start ≡ get_or s.limits.items
    (length s.limits.items - 1) 0) (topped : IsTopped s.partial.literals start p learned highest)
  where
    abbrev pub top : ℤ
    top = get_or s.partial.literals p (pos 0)

    not-before : (q i : ℕ) → q ≤ i → i < length s.partial.literals →
        ¬ Contains (take q s.partial.literals) (get_or s.partial.literals i (pos 0))
    not-before q i le lt there =
        let (k, less, e) = front-place s.partial.literals q _ (omega arith) there in
        apart-places s.partial.variables s.clauses s.partial.literals s.reasons.items s.limits.items
        ready.trail k i (omega arith) lt (ap unsigned_abs e)

    member : (m : ℤ) → Contains learned m → (i : ℕ) × (i < length s.partial.literals) ×
        (get_or s.partial.literals i (pos 0) ≡ neg_ℤ m)
    member m there =
        elim (topped.others m there) [
          | inr (i, b, c, e) ↦ (i, omega (arith, b, topped.level, topped.inside), e)
          | inl same ↦ (p, topped.inside, sym (twice top) ∙ ap neg_ℤ (sym same))
        ]

    on-trail : (m : ℤ) → Contains learned m → Contains s.partial.literals (neg_ℤ m)
    on-trail m there = let (i, lt, e) = member m there in let P : ℤ → Type 0 =
        Contains s.partial.literals in subst P e (Contains-get_or s.partial.literals i (pos 0) lt)

    pub literals : AreLiterals s.partial.variables learned
    literals m there =
        let (i, lt, e) = member m there in
        let P : ℤ → Type 0 = IsLiteral s.partial.variables in
        subst P (twice m) (opposite-literal s.partial.variables (neg_ℤ m)
        (subst P e (ready.trail.steps i lt).right))

    apart : IsApart learned
    apart m there there' = consistent-trail s ready (neg_ℤ m) (on-trail m there)
        (on-trail (neg_ℤ m) there')

    pub learned-follows : (chain : List ℕ) → Refutes s.clauses (map neg_ℤ learned) chain →
        Follows s.partial.variables s.clauses learned chain
    learned-follows chain refuted = record { literals = literals; apart = apart; refuted = refuted }

    -- The highest place of the others is below the level.
    pub highest-below : highest ≤ start
    highest-below = elim (cases_lt 0 highest) [
      | inl more ↦ let (i, e, lt, c) = topped.reached more in omega (arith, e, lt)
      | inr none ↦
          omega arith
    ]

    -- Back where the others are still false, the top's opposite is all that is left.
    pub learned-unit : (q : ℕ) → highest ≤ q → q ≤ p →
        IsUnit (take q s.partial.literals) learned (neg_ℤ top)
    learned-unit q above le = record {
      there = topped.top;
      open_yet =
          open';
      others = others;
    }
      where
        open' : ¬ IsFalseIn (take q s.partial.literals) (neg_ℤ top)
        open' there = let P : ℤ → Type 0 = Contains (take q s.partial.literals) in
            not-before q p le topped.inside (subst P (twice top) there)

        others : (m : ℤ) → Contains learned m → m ≢ neg_ℤ top →
            IsFalseIn (take q s.partial.literals) m
        others m there apart' =
            elim (topped.others m there) [
              | inr (i, b, c, e) ↦
                  let P : ℤ → Type 0 = Contains (take q s.partial.literals) in
                  subst P e (at-front s.partial.literals i q (pos 0) (omega (arith, c))
                  (omega (arith, topped.inside)))
              | inl same ↦ absurd (apart' same)
            ]

    pub top-open : (q : ℕ) → q ≤ p → IsOpenIn (take q s.partial.literals) (neg_ℤ top)
    top-open q le =
        let P : ℤ → Type 0 = Contains (take q s.partial.literals) in (
          λ h. consistent-trail s ready top (Contains-get_or s.partial.literals p
              (pos 0) topped.inside)
              (from-take s.partial.literals q (neg_ℤ top) h),
          λ h. not-before q p le topped.inside (subst P (twice top) h),
        )

    pub learned-is-new : IsNew s.clauses learned
    learned-is-new =
        learned-new s.clauses (take start s.partial.literals) learned (neg_ℤ top) settled
        (λ l h k. consistent-trail s ready l (from-take s.partial.literals start l h)
        (from-take s.partial.literals start (neg_ℤ l) k))
        (learned-unit start highest-below topped.level) (top-open start topped.level).0
      where
        settled : AreSettled s.clauses (take start s.partial.literals)
        settled = let P : ℕ → Type 0 = λ q. AreSettled s.clauses (take q s.partial.literals) in
            subst P (sym last) (ready.trail.complete (length s.limits.items - 1) (omega arith))

    -- Before an earlier decision it has two literals that are open.
    pub learned-settled : (q : ℕ) → q < highest → IsSettled (take q s.partial.literals) learned
    learned-settled q below =
        let (i, e, lt, low) = topped.reached (omega arith) in
        let inside : i < length s.partial.literals = omega
        (arith, lt, topped.level, topped.inside) in
        let l : ℤ = get_or s.partial.literals i (pos 0) in
        let P : ℤ → Type 0 = Contains (take q s.partial.literals) in
        inr (
          neg_ℤ l,
          neg_ℤ top,
          record {
            first = low;
            second = topped.top;
            differ = λ same. let clash : l ≡ top = sym (twice l) ∙ ap neg_ℤ same ∙ twice top in
                apart-places s.partial.variables s.clauses s.partial.literals s.reasons.items
                s.limits.items ready.trail i p (omega (arith, lt, topped.level)) topped.inside
                (ap unsigned_abs clash);
            open_first = λ h. not-before q i (omega (arith, e)) inside (subst P (twice l) h);
            open_second = λ h. not-before q p (omega (arith, e, lt, topped.level)) topped.inside
                (subst P (twice top) h);
          },
        )
