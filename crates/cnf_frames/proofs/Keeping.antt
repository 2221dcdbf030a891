-- The clauses of a keep query say that an assignment is a step after which a fact of the group fails.
use Rattle.std.proofs.Common.{◌≡◌, ℕ, ◌+◌, ◌*◌, ◌<◌, ◌↔◌, Bool, true, false, ◌||◌, List, [], ◌∷◌, ◌++◌, map, length, refl, sym, ap, ◌∙◌}
use Rattle.std.specs.Prelude.{neg_ℤ}
use Rattle.std.proofs.lemmas.List.Elements.{Contains-get_or}
use Rattle.std.proofs.lemmas.Bool.{true_from_ne_false, false_from_ne_true}
use Rattle.aig_net.specs.Nets.{Net, Valuation, variables}
use Rattle.live_safe.specs.Paths.{IsPath}
use Rattle.chain_check.specs.Clauses.{Clause}
use Rattle.cnf_frames.specs.declared.facts.Fact.{Fact}
use Rattle.cnf_frames.specs.declared.facts.Fact.TheVariants.{Zero, One, Same, Differ, AnyOf}
use Rattle.cnf_frames.specs.Facts.{FactHolds, AllHold, any_true, fact_at}
use Rattle.cnf_frames.specs.Queries.{literal_in, frames, failing_clauses, facts_clauses, fails_clauses, keep_clauses}
use Rattle.chain_check.specs.FewClauses.{for_each, some_further}
use Rattle.cnf_frames.specs.QueryPaths.{IsKeepPath}
use Rattle.chain_check.proofs.Values.{met-append, met-each, each-met}
use Rattle.chain_check.specs.Values.{Assignment, AllMet}
use Rattle.cnf_frames.proofs.Meanings.{path_of, literal-means}
use Rattle.chain_check.proofs.FewMeanings.{alone-met, opposite-met, same-met, differ-met, guarded-met}
use Rattle.cnf_frames.proofs.FramePaths.{frames-met}
use Rattle.cnf_frames.proofs.Distinct.{state, latch-means, facts-met, some-met}

is-same : (a b : Bool) → ((a ≡ b → ⊥) → ⊥) → a ≡ b
is-same true true n = refl
is-same true false n = absurd (n (λ e. cc))
is-same false true n = absurd (n (λ e. cc))
is-same false false n = refl

-- a fact holds where it does not fail
pub holds-of : (net : Net) (v : Valuation) (fact : Fact) → ¬ (¬ FactHolds net v fact) →
    FactHolds net v fact
holds-of net v (Zero j) n = is-same _ _ n
holds-of net v (One j) n = is-same _ _ n
holds-of net v (Same i j) n = is-same _ _ n
holds-of net v (Differ i j) n = λ e. n (λ h. h e)
holds-of net v (AnyOf ls) n = is-same _ _ n

both-false : (x y : Bool) → x ≡ false → y ≡ false → (x || y) ≡ false
both-false x y e f = ap (λ b. b || y) e ∙ f

parts-false : (x y : Bool) → (x || y) ≡ false → (x ≡ false) × (y ≡ false)
parts-false true y e = absurd (cc)
parts-false false y e = (refl, e)

module _ (net : Net) (a : Assignment) where
  none-met : (j : ℕ) (ls : List ℕ) →
      AllMet a (map (λ l. neg_ℤ (literal_in net j l) ∷ []) ls)
      ↔ (any_true (state net a j) ls ≡ false)
  none-met j [] = (λ _. refl, λ _. tt)
  none-met j (l ∷ ls) =
      let here = opposite-met a _ _ (literal-means net a j l) in
      let rest = none-met j ls in (
        λ (h, more). both-false _ _ (here.0 (h, tt)) (rest.0 more),
        λ e. let (p, q) = parts-false _ _ e in ((here.1 p).0, rest.1 q),
      )

  -- the clauses of a fact that fails
  failing-met : (j : ℕ) (fact : Fact) → AllMet a (failing_clauses net j fact)
      ↔ (¬ FactHolds net (path_of (variables net) a j) fact)
  failing-met j (Zero x) =
      let m = alone-met a _ _ (latch-means net a j x) in (
        λ h e. let clash : true ≡ false = sym (m.0 h) ∙ e in (cc),
        λ n. m.1 (true_from_ne_false _ n),
      )
  failing-met j (One x) =
      let m = opposite-met a _ _ (latch-means net a j x) in (
        λ h e. let clash : true ≡ false = sym e ∙ m.0 h in (cc),
        λ n. m.1 (false_from_ne_true _ n),
      )
  failing-met j (Same x y) =
      differ-met a _ _ _ _ (latch-means net a j x) (latch-means net a j y)
  failing-met j (Differ x y) =
      let m = same-met a _ _ _ _ (latch-means net a j x) (latch-means net a j y) in
      (λ h n. n (m.0 h), λ n. m.1 (is-same _ _ n))
  failing-met j (AnyOf ls) =
      let m = none-met j ls in (
        λ h e. let clash : true ≡ false = sym e ∙ m.0 h in (cc),
        λ n. m.1 (false_from_ne_true _ n),
      )

module _ (net : Net) (facts group : List Fact) (a : Assignment) where
  abbrev V : ℕ
  V = variables net

  fails-met : (i : ℕ) → AllMet a (fails_clauses net group i) ↔ (a (2 * V + i) ≡ true →
      ¬ FactHolds net (path_of V a 1) (fact_at group i))
  fails-met i =
      let guard = guarded-met a (2 * V + i) (failing_clauses net 1 (fact_at group i)) in
      let inner = failing-met net a 1 (fact_at group i) in (
        λ h e. inner.0 (guard.0 h e),
        λ f. guard.1 (λ e. inner.1 (f e)),
      )

  -- the parts of the query
  abbrev pub KeepParts : Type 0
  KeepParts =
      IsPath net 1 (path_of V a) × (AllHold net facts (path_of V a 0)
      × (((i : ℕ) → i < length group → a (2 * V + i) ≡ true →
      ¬ FactHolds net (path_of V a 1) (fact_at group i))
      × ((i : ℕ) × (i < length group) × (a (2 * V + i) ≡ true))))

  pub keep-met : AllMet a (keep_clauses net facts group) ↔ KeepParts
  keep-met =
      let fails : List Clause = for_each (fails_clauses net group) (length group) in
      let some : List Clause = some_further (2 * V) (length group) in
      let one = met-append a (frames net 1) (facts_clauses net 0 facts ++ (fails ++ some)) in
      let two = met-append a (facts_clauses net 0 facts) (fails ++ some) in
      let three = met-append a fails some in (
        λ h.
            let (f, more) = one.0 h in
            let (g, rest) = two.0 more in
            let (e, d) = three.0 rest in (
              (frames-met net a 1).0 f,
              (
                (facts-met net a 0 facts).0 g,
                (
                  λ i lt. (fails-met i).0
                      (met-each a (fails_clauses net group) (length group) e i lt),
                  (some-met net a (2 * V) (length group)).0 d,
                ),
              ),
            ),
        λ (f, (g, (e, d))). one.1 (
          (frames-met net a 1).1 f,
          two.1 (
            (facts-met net a 0 facts).1 g,
            three.1 (
              each-met a (fails_clauses net group) (length group)
                  (λ i lt. (fails-met i).1 (e i lt)),
              (some-met net a (2 * V) (length group)).1 d,
            ),
          ),
        ),
      )

  pub keep-right : AllMet a (keep_clauses net facts group) →
      IsKeepPath net facts group (path_of V a)
  keep-right h =
      let (f, (g, (e, (i, lt, is)))) = keep-met.0 h in
      record {
        along = f;
        known = g;
        fails = (
          fact_at group i,
          Contains-get_or group i (Zero 0) lt,
          e i lt is,
        );
      }
