-- A step after which a fact of the group fails gives an assignment of the keep query.
use Rattle.std.proofs.Common.{◌≡◌, ℕ, ◌+◌, ◌*◌, ◌<◌, ◌≤◌, true, nat_eq, List, length, refl, sym, ◌∙◌, subst, arith}
use Rattle.std.proofs.lemmas.Bool.Decides.{Decides-eqb}
use Rattle.std.proofs.lemmas.List.{get_or_default}
use Rattle.std.proofs.lemmas.List.Elements.{Contains-get_or}
use Rattle.hy_base.proofs.Places.{below-row}
use Rattle.aig_net.specs.Nets.{Net, IsNet, latch_variable, variables}
use Rattle.aig_net.specs.Executions.{Word}
use Rattle.cnf_frames.specs.declared.facts.Fact.{Fact}
use Rattle.cnf_frames.specs.declared.facts.Fact.TheVariants.{Zero}
use Rattle.cnf_frames.specs.Facts.{FactHolds, AllIn, fact_at}
use Rattle.cnf_frames.specs.Queries.{keep_clauses}
use Rattle.cnf_frames.specs.QueryPaths.{IsKeepPath}
use Rattle.chain_check.specs.Values.{Assignment, AllMet}
use Rattle.cnf_frames.proofs.Meanings.{path_of}
use Rattle.cnf_frames.proofs.Keeping.{keep-met}
use Rattle.cnf_frames.proofs.Likeness.{path-alike}
use Rattle.cnf_frames.proofs.Choosing.{chosen, chosen-path, chosen-extra}
use Rattle.cnf_frames.proofs.DistinctChosen.{fact-alike}

module _ (net : Net) (good : IsNet net) (facts group : List Fact)
    (inside : AllIn (length net.latches) facts) (group-inside : AllIn (length net.latches) group)
    (path : Word) (is : IsKeepPath net facts group path) where
  abbrev V : ℕ
  V = variables net

  -- the place of the fact that fails
  abbrev place : ℕ
  place = is.fails.1.0

  abbrev failing : Fact
  failing = fact_at group place

  is-failing : failing ≡ is.fails.0
  is-failing = sym (get_or_default group place is.fails.0 (Zero 0) is.fails.1.1)
      ∙ is.fails.1.2

  -- The fact that fails is marked.
  a : Assignment
  a = chosen V (2 * V) path (λ i. nat_eq i place)

  abbrev W : Word
  W = path_of V a

  a-path : (i v : ℕ) → i ≤ 1 → v < V → W i v ≡ path i v
  unfolding a
  a-path i v le lt = chosen-path V (2 * V) path (λ i. nat_eq i place) i v lt
      (below-row V v i 2 lt (omega arith))

  a-mark : (i : ℕ) → a (2 * V + i) ≡ nat_eq i place
  unfolding a
  a-mark i = chosen-extra V (2 * V) path (λ i. nat_eq i place) i

  latch-same : (i j : ℕ) → i ≤ 1 → j < length net.latches →
      path i (latch_variable net j) ≡ W i (latch_variable net j)
  latch-same i j le lt = sym (a-path i (latch_variable net j) le (omega arith))

  fails-there : ¬ FactHolds net (W 1) failing
  fails-there holds =
      let P : Fact → Type 0 = λ f. ¬ FactHolds net (path 1) f in
      subst P (sym is-failing) is.fails.2
      (fact-alike net (W 1) (path 1) (λ j lt. sym (latch-same 1 j (omega arith) lt)) failing
      (group-inside failing (Contains-get_or group place (Zero 0) is.fails.1.1)) holds)

  marked : (i : ℕ) → i < length group → a (2 * V + i) ≡ true →
      ¬ FactHolds net (W 1) (fact_at group i)
  marked i lt on =
      let e : i ≡ place = (Decides-eqb i place).0 (sym (a-mark i) ∙ on) in
      let P : ℕ → Type 0 = λ i. ¬ FactHolds net (W 1) (fact_at group i) in
      subst P (sym e) fails-there

  pub keep-exists : (a : Assignment) × AllMet a (keep_clauses net facts group)
  keep-exists = (
    a,
    (keep-met net facts group a).1 (
      path-alike net good 1 path W (λ i le u lt. sym (a-path i u le lt)) is.along,
      (
        λ f there. fact-alike net (path 0) (W 0) (λ j lt. latch-same 0 j (omega arith) lt) f
            (inside f there) (is.known f there),
        (marked, (place, is.fails.1.1, a-mark place ∙ (Decides-eqb place place).1 refl)),
      ),
    ),
  )
