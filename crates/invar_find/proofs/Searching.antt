-- The steps of the search: facts that a step breaks, and groups that were spent.
use Rattle.std.proofs.Common.{◌≡◌, ℕ, ◌+◌, ◌*◌, ◌<◌, Bool, List, [], ◌∷◌, ◌++◌, length, drop, inl, inr, sym, ap, ◌∙◌, subst, arith, length-drop, length-append}
use Rattle.std.specs.Prelude.{Contains}
use Rattle.std.proofs.Math.Seq.{get_or-append_seam}
use Rattle.std.proofs.lemmas.Bool.{cases_eq}
use Rattle.std.proofs.lemmas.List.{get_or_append_left, length-take}
use Rattle.std.proofs.lemmas.List.Elements.{Contains-append_left, Contains-get_or, Contains-push, Contains-push_cases}
use Rattle.aig_net.specs.Nets.{latch_variable}
use Rattle.hy_base.specs.Rows.{row}
use Rattle.aig_net.specs.Executions.{Word}
use Rattle.chain_check.specs.declared.clauses.Cnf.{Cnf}
use Rattle.chain_check.specs.declared.logs.Learned.{Learned}
use Rattle.chain_check.specs.Clauses.{Clause, SatisfiesAll}
use Rattle.live_safe.specs.declared.safe_net.SafeNet.{SafeNet}
use Rattle.live_safe.specs.Paths.{IsPath}
use Rattle.sat_core.specs.declared.solving.Outcome.TheVariants.{Satisfied, Spent as SpentOutcome}
use Rattle.sat_core.specs.Outcomes.{IsOutcome}
use Rattle.cnf_frames.specs.declared.facts.Fact.{Fact}
use Rattle.cnf_frames.specs.declared.queries.Asked.TheVariants.{Keep}
use Rattle.cnf_frames.specs.declared.queries.FrameError.{FrameError}
use Rattle.cnf_frames.specs.declared.queries.FrameError.TheVariants.{Limit, Memory}
use Rattle.cnf_frames.specs.Facts.{AllHold, IsSafe, fact_at}
use Rattle.cnf_frames.specs.Queries.{IsRefusal, IsWithin, clauses_of, group_of, groups, variables_of}
use Rattle.cnf_frames.specs.QueryPaths.{IsKeepPath, word_of}
use Rattle.cnf_frames.specs.Proofs.{AreKeepsWithin, AreKept, IsRefuted, log_at}
use Rattle.cnf_frames.proofs.Answering.{answered}
use Rattle.cnf_frames.proofs.Concluding.{kept-inductive}
use Rattle.cnf_frames.proofs.Groups.{of-group}
use Rattle.cnf_frames.proofs.Surviving.{survives}
use Rattle.invar_find.specs.declared.kept.SpentGroup.{SpentGroup}
use Rattle.invar_find.specs.Kepts.{AreStarting, IsKeptOf, IsSpentGroup, IsStoppedAt}
use Rattle.invar_find.specs.Parts.{AreThose, IsOutside, IsSublist}
use Rattle.invar_find.specs.Searches.{IsKeepQuery, IsSearching}
use Rattle.invar_find.specs.Standing.{AreLeft}
use Rattle.invar_find.proofs.Sublists.{sublist-among, sublist-length, sublist-shorter, sublist-trans}
use Rattle.invar_find.proofs.Starting.{holds-alike}
use Rattle.invar_find.proofs.Settled.{AreSettled}

-- ---- groups

pub group-some : (facts : List Fact) (g : ℕ) → g < groups facts →
    Contains (group_of facts g) (fact_at (group_of facts g) 0)
group-some facts g lt =
    let a = length-take 64 (drop (64 * g) facts) in
    let b = length-drop (64 * g) facts in
    Contains-get_or (group_of facts g) 0 _ (omega (arith, a, b, lt))

part-starting : (safe : SafeNet) (tried facts left : List Fact) → AreStarting safe tried facts →
    IsSublist left facts → AreStarting safe tried left
part-starting safe tried facts left starting part = record {
  sublist = sublist-trans part starting.sublist;
  inside = λ f has. starting.inside f (sublist-among _ _ part f has);
  starts = λ v start f has. starting.starts v start f (sublist-among _ _ part f has);
}

part-spent : (safe : SafeNet) (tried : List Fact) (conflicts : ℕ) (facts left : List Fact)
    (s : SpentGroup) → IsSublist left facts → IsSpentGroup safe tried conflicts facts s →
    IsSpentGroup safe tried conflicts left s
part-spent safe tried conflicts facts left s part was = record {
  starting = was.starting;
  among = λ f has. was.among f (sublist-among _ _ part f has);
  group = was.group;
  spent = was.spent;
}

-- ---- facts that a step breaks

-- facts that are left of those that hold after a step from a state with all facts
step-left : (safe : SafeNet) (tried : List Fact) (conflicts : ℕ) (facts left : List Fact)
    (gone : List SpentGroup) (state : List Bool) (word : Word) →
    IsSearching safe tried conflicts facts gone → IsPath safe.net 1 word →
    AllHold safe.net facts (word 0) →
    ((j : ℕ) → j < length safe.net.latches → row state j ≡ word 1 (latch_variable safe.net j)) →
    AreLeft safe.net facts (row state) left → IsSearching safe tried conflicts left gone
step-left safe tried conflicts facts left gone state word search along known same those = record {
  starting = part-starting safe tried facts left search.starting those.sublist;
  unspent = λ f has. search.unspent f (sublist-among _ _ those.sublist f has);
  greatest = λ some inductive opens.
      let among = search.greatest some inductive opens in
      those.spared some inductive among (λ f has.
      (holds-alike safe.net (word 1) (length safe.net.latches) (row state) same f
      (search.starting.inside f (among f has))).1
      (survives safe.net facts some inductive among word along known f has));
  spent = λ s has. part-spent safe tried conflicts facts left s those.sublist (search.spent s has);
  few =
      let less = sublist-length those.sublist in
      let few = search.few in
      omega (arith, less, few);
}

broken-left : (safe : SafeNet) (tried : List Fact) (conflicts group : ℕ) (facts left : List Fact)
    (gone : List SpentGroup) (state : List Bool) (word : Word) →
    IsSearching safe tried conflicts facts gone →
    IsKeepPath safe.net facts (group_of facts group) word →
    ((j : ℕ) → j < length safe.net.latches → row state j ≡ word 1 (latch_variable safe.net j)) →
    AreLeft safe.net facts (row state) left →
    IsSearching safe tried conflicts left gone × (length left < length facts)
broken-left safe tried conflicts group facts left gone state word search path same those = (
  step-left safe tried conflicts facts left gone state word search path.along path.known same those,
  let (f, among, fails) = path.fails in
      let here = of-group facts group f among in
      sublist-shorter left facts f those.sublist here (λ has. fails
      ((holds-alike safe.net (word 1) (length safe.net.latches) (row state) same f
      (search.starting.inside f here)).0 (those.right f has))),
)

-- An assignment of a group's query is such a step.
pub satisfied-left : (safe : SafeNet) (tried : List Fact) (conflicts group : ℕ) (facts left : List Fact)
    (gone : List SpentGroup) (state values : List Bool) (cnf : Cnf) → IsSafe safe →
    IsSearching safe tried conflicts facts gone → IsKeepQuery safe facts group cnf →
    IsOutcome cnf.variables cnf.clauses conflicts (Satisfied values) →
    ((j : ℕ) → j < length safe.net.latches →
    row state j ≡ word_of safe values 1 (latch_variable safe.net j)) →
    AreLeft safe.net facts (row state) left →
    IsSearching safe tried conflicts left gone × (length left < length facts)
satisfied-left safe tried conflicts group facts left gone state values cnf is search right outcome same
    those =
    let C : List Clause → Type 0 = SatisfiesAll values in
    broken-left safe tried conflicts group facts left gone state (word_of safe values) search
    (answered safe (Keep facts group) values is (subst C right.clauses outcome.1)) same those

-- ---- groups that were spent

pub spent-left : (safe : SafeNet) (tried : List Fact) (conflicts group : ℕ) (facts left : List Fact)
    (gone more : List SpentGroup) (log : List Learned) → IsSearching safe tried conflicts facts gone →
    group < groups facts → IsOutcome (variables_of safe (Keep facts group))
    (clauses_of safe (Keep facts group)) conflicts (SpentOutcome log) →
    AreThose (IsOutside facts group) facts left →
    more ≡ gone ++ (record { facts = facts; group = group; log = log }) ∷ [] →
    IsSearching safe tried conflicts left more × (length left < length facts)
spent-left safe tried conflicts group facts left gone more log search within outcome those e =
    let S : List SpentGroup → Type 0 = λ more.
    IsSearching safe tried conflicts left more × (length left < length facts) in
    subst S (sym e) (now, fewer)
  where
    fewer : length left < length facts
    fewer =
        let f = group-some facts group within in
        sublist-shorter left facts _ those.sublist (of-group facts group _ f)
        (λ has. those.right _ has f)

    now : IsSearching safe tried conflicts left
        (gone ++ (record { facts = facts; group = group; log = log }) ∷ [])
    now = record {
      starting = part-starting safe tried facts left search.starting those.sublist;
      unspent = λ f has (s, among, member). elim (Contains-push_cases gone _ s among) [
        | inl before ↦
            search.unspent f (sublist-among _ _ those.sublist f has) (s, before, member)
        | inr same ↦
            let P : SpentGroup → Type 0 = λ s. Contains (group_of s.facts s.group) f in
            those.right f has (subst P (sym same) member)
      ];
      greatest = λ some inductive opens f has. those.whole f
          (search.greatest some inductive (λ f has. record {
            candidate = (opens f has).candidate;
            unspent = λ (s, among, member). (opens f has).unspent
                (s, Contains-append_left gone _ s among, member);
          }) f has)
          (λ member. (opens f has).unspent (_, Contains-push gone _, member));
      spent = λ s among. elim (Contains-push_cases gone _ s among) [
        | inl before ↦
            part-spent safe tried conflicts facts left s those.sublist (search.spent s before)
        | inr same ↦
            let P : SpentGroup → Type 0 = IsSpentGroup safe tried conflicts left in
            subst P same (record {
              starting = search.starting;
              among = sublist-among _ _ those.sublist;
              group = within;
              spent = outcome;
            })
      ];
      few =
          let less = sublist-length those.sublist in
          let few = search.few in
          omega (arith, less, few);
    }

pub spent-pushed : (safe : SafeNet) (tried : List Fact) (conflicts group : ℕ) (facts asked left now : List Fact)
    (gone more : List SpentGroup) (log : List Learned) (cnf : Cnf) →
    IsSearching safe tried conflicts facts gone → group < groups facts →
    IsKeepQuery safe facts group cnf →
    IsOutcome cnf.variables cnf.clauses conflicts (SpentOutcome log) →
    AreThose (IsOutside facts group) facts left → asked ≡ facts → now ≡ left →
    more ≡ gone ++ (record { facts = asked; group = group; log = log }) ∷ [] →
    IsSearching safe tried conflicts now more × (length now < length facts)
spent-pushed safe tried conflicts group facts asked left now gone more log cnf search within right
    outcome those same after e =
    let V : ℕ → Type 0 = λ n. IsOutcome n cnf.clauses conflicts (SpentOutcome log) in
    let C : List Clause → Type 0 = λ clauses.
    IsOutcome (variables_of safe (Keep facts group)) clauses conflicts (SpentOutcome log) in
    let N : List Fact → Type 0 = λ now.
    IsSearching safe tried conflicts now more × (length now < length facts) in
    subst N (sym after) (spent-left safe tried conflicts group facts left gone more log search within
    (subst C right.clauses (subst V right.variables outcome)) those
    (e ∙ ap (λ facts. gone ++ (record { facts = facts; group = group; log = log }) ∷ []) same))

-- ---- a query that is past a limit

pub stopped : (safe : SafeNet) (tried facts : List Fact) (group : ℕ) (e : FrameError) →
    AreStarting safe tried facts → group < groups facts → IsRefusal safe (Keep facts group) e →
    IsStoppedAt safe tried e
stopped safe tried facts group (Limit limit) starting within (past, most) =
    (facts, group, starting, within, past, most)
stopped safe tried facts group Memory starting within refused = tt

-- ---- groups that no step breaks

pub settled-more : (safe : SafeNet) (facts : List Fact) (group : ℕ)
    (logs more : List (List Learned)) (log : List Learned) → AreSettled safe facts group logs →
    64 * group < length facts → IsRefuted safe (Keep facts group) log →
    IsWithin safe (Keep facts group) → more ≡ logs ++ log ∷ [] →
    AreSettled safe facts (group + 1) more
settled-more safe facts group logs more log settled lt refuted within e =
    let S : List (List Learned) → Type 0 = AreSettled safe facts (group + 1) in
    subst S (sym e) (record {
      within = omega (arith, lt);
      many =
          let a : length (logs ++ log ∷ []) ≡ length logs + 1 = length-append _ _ in
          let b = settled.many in
          omega (arith, a, b);
      each = each;
      made = made;
    })
  where
    made : (g : ℕ) → g < group + 1 → IsWithin safe (Keep facts g)
    made g less =
        let P : ℕ → Type 0 = λ g. IsWithin safe (Keep facts g) in
        elim (cases_eq g group) [
          | inl same ↦ subst P (sym same) within
          | inr apart ↦ settled.made g (omega arith)
        ]

    each : (g : ℕ) → g < group + 1 → IsRefuted safe (Keep facts g) (log_at (logs ++ log ∷ []) g)
    each g less =
        elim (cases_eq g group) [
          | inl same ↦
              let here : log ≡ log_at (logs ++ log ∷ []) g = sym (get_or-append_seam logs log [] [])
              ∙ ap (log_at (logs ++ log ∷ [])) (settled.many ∙ sym same) in
              let P : ℕ → Type 0 = λ g. IsRefuted safe (Keep facts g) log in
              let Q : List Learned → Type 0 = IsRefuted safe (Keep facts g) in
              subst Q here (subst P (sym same) refuted)
          | inr apart ↦
              let many = settled.many in
              let Q : List Learned → Type 0 = IsRefuted safe (Keep facts g) in
              subst Q (sym (get_or_append_left logs (log ∷ []) [] g (omega (arith, many, less))))
              (settled.each g (omega arith))
        ]

pub kept : (safe : SafeNet) (tried : List Fact) (conflicts : ℕ) (facts : List Fact)
    (logs : List (List Learned)) (gone : List SpentGroup) → IsSafe safe →
    IsSearching safe tried conflicts facts gone →
    AreKept safe facts logs × AreKeepsWithin safe facts →
    IsKeptOf safe tried conflicts (record { inv = facts; logs = logs; spent = gone })
kept safe tried conflicts facts logs gone is search (logged, within) = record {
  inside = search.starting.inside;
  inductive = kept-inductive safe facts logs is search.starting.inside
      search.starting.starts logged;
  starting = search.starting;
  unspent = search.unspent;
  greatest = search.greatest;
  logs = logged;
  within = within;
  spent = search.spent;
}
