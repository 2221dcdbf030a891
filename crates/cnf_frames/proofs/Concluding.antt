-- What refuted queries show.
use Rattle.std.proofs.Common.{◌≡◌, ℕ, zero, suc, ◌<◌, ◌≤◌, false, cond, nat_eq, List, [], ◌∷◌, ◌++◌, length, refl, sym, ap, ◌∙◌, subst, arith}
use Rattle.std.specs.List.{Contains}
use Rattle.std.proofs.lemmas.Bool.{eq-eqb, ne_eqb}
use Rattle.std.proofs.lemmas.List.{map-append}
use Rattle.std.proofs.lemmas.List.Elements.{Contains-push}
use Rattle.aig_net.specs.Nets.{Net, Valuation, IsNet, latch_variable, IsRight, IsStart, IsStep, AllTrue}
use Rattle.aig_net.specs.Executions.{Word}
use Rattle.aig_net.proofs.Valuations.{valuation-some}
use Rattle.chain_check.specs.declared.logs.Learned.{Learned}
use Rattle.chain_check.specs.Clauses.{Clause}
use Rattle.chain_check.specs.Logs.{clauses_of as clauses_of_log, EndsEmpty}
use Rattle.chain_check.proofs.Passing.{unsatisfied}
use Rattle.live_safe.specs.declared.safe_net.SafeNet.{SafeNet}
use Rattle.live_safe.specs.Paths.{IsBadPath}
use Rattle.cnf_frames.specs.declared.facts.Fact.{Fact}
use Rattle.cnf_frames.specs.declared.queries.Asked.{Asked}
use Rattle.cnf_frames.specs.declared.queries.Asked.TheVariants.{Base, Step, Keep}
use Rattle.cnf_frames.specs.declared.inductions.InductionProof.{InductionProof}
use Rattle.cnf_frames.specs.Facts.{FactHolds, AllHold, AllIn, IsInductive, IsSafe}
use Rattle.cnf_frames.specs.Queries.{clauses_of, variables_of, groups, group_of}
use Rattle.cnf_frames.specs.QueryPaths.{Answers, CanAsk, IsKeepPath}
use Rattle.cnf_frames.specs.Proofs.{IsRefuted, AreKept, IsInductionProof}
use Rattle.cnf_frames.proofs.Answering.{asked-values}
use Rattle.cnf_frames.proofs.Ranges.{in-range}
use Rattle.cnf_frames.proofs.Keeping.{holds-of}
use Rattle.cnf_frames.proofs.DistinctChosen.{fact-alike}
use Rattle.cnf_frames.proofs.Groups.{in-group}
use Rattle.cnf_frames.proofs.Inducing.{never-bad}

-- the empty clause of a log is one of its clauses
empty-there : (log : List Learned) → EndsEmpty log → Contains (clauses_of_log log) []
empty-there log ends =
    let P : List Clause → Type 0 = λ cs. Contains cs [] in
    let Q : Clause → Type 0 = λ c. Contains (clauses_of_log ends.front ++ c ∷ []) [] in
    let e : clauses_of_log log ≡ clauses_of_log ends.front ++ ends.last.clause ∷ [] =
    ap clauses_of_log ends.parts ∙ map-append (λ e. e.clause) ends.front (ends.last ∷ []) in
    subst P (sym e) (subst Q (sym ends.empty) (Contains-push (clauses_of_log ends.front) []))

pub none-answers : (safe : SafeNet) (asked : Asked) (log : List Learned) → IsSafe safe →
    CanAsk safe asked → IsRefuted safe asked log → (word : Word) → ¬ Answers safe asked word
none-answers safe asked log good can refuted word is =
    let (values, _, all) = asked-values safe asked word good can is in
    unsatisfied (variables_of safe asked) (clauses_of safe asked) log values
    (in-range safe asked good can) refuted.passes
    (empty-there log refuted.ends) all

-- ---- inductive facts

-- a path of one step
two_steps : Valuation → Valuation → Word
two_steps v w i = cond (nat_eq i 0) v w

abbrev latches-same : Net → Valuation → Valuation → Type 0
latches-same net v w = (j : ℕ) → j < length net.latches →
    v (latch_variable net j) ≡ w (latch_variable net j)

module _ (net : Net) (good : IsNet net) (facts : List Fact)
    (inside : AllIn (length net.latches) facts)
    (none : (g : ℕ) → g < groups facts → (word : Word) →
    ¬ IsKeepPath net facts (group_of facts g) word) where
  -- no step to right gates breaks a fact
  unbroken : (v w : Valuation) → IsRight net v → AllTrue net.constraints v → IsStep net v w →
      AllHold net facts v → IsRight net w → (f : Fact) → Contains facts f → ¬ (¬ FactHolds net w f)
  unfolding two_steps
  unbroken v w right kept goes known next-right f there fails =
      let (g, few, in_group) = in-group facts f there in
      none g few (two_steps v w) (record {
        along = record { right = rights; kept = keeps; goes = steps };
        known = known;
        fails = (f, in_group, fails);
      })
    where
      rights : (i : ℕ) → i ≤ 1 → IsRight net (cond (nat_eq i 0) v w)
      rights zero le = right
      rights (suc i) le = let S : Valuation → Type 0 = IsRight net in
          subst S (sym (ap (λ b. cond b v w) (ne_eqb (suc i) 0 (omega arith)))) next-right

      keeps : (i : ℕ) → i < 1 → AllTrue net.constraints (cond (nat_eq i 0) v w)
      keeps zero lt = kept
      keeps (suc i) lt = absurd (omega arith)

      steps : (i : ℕ) → i < 1 → IsStep net (cond (nat_eq i 0) v w) (cond (nat_eq (suc i) 0) v w)
      steps zero lt = goes
      steps (suc i) lt = absurd (omega arith)

  stays : (v w : Valuation) → IsRight net v → AllTrue net.constraints v → IsStep net v w →
      AllHold net facts v → AllHold net facts w
  stays v w right kept goes known f there =
      let clear : Valuation = λ u. cond (nat_eq u 0) false (w u) in
      let (next, next-right, given) =
      valuation-some net clear good.ordered (ap (λ b. cond b false (w 0)) (eq-eqb 0 0 refl)) in
      let like : latches-same net next w = λ i few.
      given (latch_variable net i) (omega arith)
      ∙ ap (λ b. cond b false (w (latch_variable net i)))
      (ne_eqb (latch_variable net i) 0 (omega arith)) in
      holds-of net w f (λ fails.
      unbroken v next right kept (λ i few. like i few ∙ goes i few) known next-right f there
      (λ h. fails (fact-alike net next w like f (inside f there) h)))

pub kept-inductive : (safe : SafeNet) (facts : List Fact) (logs : List (List Learned)) →
    IsSafe safe → AllIn (length safe.net.latches) facts →
    ((v : Valuation) → IsStart safe.net v → AllHold safe.net facts v) →
    AreKept safe facts logs → IsInductive safe.net facts
kept-inductive safe facts logs good inside starts kept = record {
  starts = starts;
  stays = stays safe.net good.net facts inside (λ g few word is.
      none-answers safe (Keep facts g) _ good (inside, few) (kept.each g few) word is);
}

pub proved : (safe : SafeNet) (proof : InductionProof) → IsSafe safe →
    IsInductionProof safe proof → (n : ℕ) (word : Word) → ¬ IsBadPath safe n word
proved safe proof good is =
    never-bad safe proof.inv (kept-inductive safe proof.inv proof.keep good is.inside is.starts is.keeps)
    proof.depth
    (λ i le word bad. none-answers safe (Base i) _ good tt (is.bases.each i le) word bad)
    (λ word step. none-answers safe (Step proof.inv proof.depth) _ good is.inside is.step word step)
