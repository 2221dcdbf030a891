-- What stops the counting is the answer, and so is what is found of the evidence where nothing stops it.
use Rattle.std.proofs.Common.{◌≡◌, ◌↔◌, ℕ, Bool, true, false, IsTrue, List, Result, Ok, Err, inl, inr, refl, sym, ◌∙◌, subst, true≢false}
use Rattle.hy_base.specs.declared.limit.Limit.{Limit as Past}
use Rattle.hy_bits.specs.Letter.{Letter}
use Rattle.hy_formula.specs.Formulas.{Plain}
use Rattle.hy_formula.specs.Lassos.{Lasso}
use Rattle.hy_formula.specs.Quantifiers.{Each}
use Rattle.hy_formula.specs.declared.prefix.Quant.{Quant}
use Rattle.hy_formula.specs.declared.classes.Class.{Class}
use Rattle.hy_lasso.specs.Joint.{IsJudged}
use Rattle.hy_lasso.specs.Limits.{joint_limit}
use Rattle.ltl_closure.specs.declared.closure_error.ClosureError.{ClosureError}
use Rattle.ltl_closure.specs.declared.closure_error.ClosureError.TheVariants as closures
use Rattle.ea_reduce.specs.Fulfilled.{IsOfOneKind}
use Rattle.ea_reduce.specs.Refused as plans
use Rattle.ea_reduce.specs.Refused.{HasFewMaps, RefusesImplication, RefusesReduction}
use Rattle.ea_reduce.specs.declared.reduce_error.ReduceError.{ReduceError}
use Rattle.ea_reduce.specs.declared.reduce_error.ReduceError.TheVariants.{Prefix as OfPrefix, Limit as OfLimit, Memory as OfMemory}
use Rattle.ea_reduce.specs.Plans.{PlainPlan}
use Rattle.rank_proofs.specs.Counts.{HasFewMembers, HasManyMembers, RefusesClosure}
use Rattle.aig_net.specs.Nets.{Net}
use Rattle.net_names.specs.Names.{IsNameRefusal}
use Rattle.net_names.specs.declared.name_error.NameError.{NameError}
use Rattle.net_names.specs.declared.name_error.NameError.TheVariants as bad_names
use Rattle.cert_text.specs.Certificates.{Certificate}
use Rattle.claim_check.specs.declared.error.CertError.{CertError}
use Rattle.claim_check.specs.declared.error.CertError.TheVariants.{Prefix, Limit, Name, Text, Memory}
use Rattle.claim_check.specs.Claims.{Claim, formula, equivalence, circuit}
use Rattle.claim_check.specs.Counting.{IsPast, IsWeighed, IsWithin, Stops, StopsPlan, many_instances, many_members, many_positions}
use Rattle.claim_check.specs.Errors.{of_closure, of_names, of_plan}
use Rattle.claim_check.specs.Good.{lassos_over, plan_against, reduction}
use Rattle.claim_check.specs.Refuting.{HasFreeNet}
use Rattle.claim_check.specs.Verdicts as verdicts
use Rattle.claim_check.specs.Verdicts.{AnyOf, AreNamed, AreTaken, IsCounted, IsJudgement, IsLarge, IsSmall, PassesLimit, closures_of, large_query, plans_of, spelled_in}

-- ---- plans

-- plans of formulas within their limit have nets
pub formula_net : (f : Plain) (plan : PlainPlan) → plan ≡ reduction f → HasFewMaps (reduction f)
    → HasFreeNet plan
formula_net f plan is few =
    let P : PlainPlan → Type 0 = HasFreeNet in
    subst P (sym is) (record { formulas = inl (f.prefix, f.body, refl); few = few })

pub against_net : (f g : Plain) (plan : PlainPlan) → plan ≡ plan_against f g
    → HasFewMaps (plan_against f g) → HasFreeNet plan
against_net f g plan is few =
    let P : PlainPlan → Type 0 = HasFreeNet in
    subst P (sym is)
    (record { formulas = inr (f.prefix, f.body, g.prefix, g.body, refl); few = few })

pub reduction_stops : (names : List (List ℕ)) (f : Plain) (list : List (Lasso Letter))
    (e : ReduceError) → RefusesReduction f.prefix (reduction f) e
    → Stops names (formula f) list (of_plan e)
reduction_stops names f list (OfPrefix second found) refused = refused
reduction_stops names f list (OfLimit limit) (taken, is, many) =
    let P : Past → Type 0 = λ l. IsPast (formula f) list l in
    subst P (sym is) (many_instances taken (inl many))
reduction_stops names f list OfMemory refused = tt

-- the plan of one formula against another is one of the claim's
module _ (names : List (List ℕ)) (claim : Claim) (list : List (Lasso Letter)) (f g : Plain)
    (among : plans.HasManyMaps (plan_against f g) → AnyOf plans.HasManyMaps (plans_of claim)) where
  pub implication_stops : (e : ReduceError)
      → ((second : Bool) (found : Class) → plans.RefusesClass f.prefix g.prefix second found
      → verdicts.RefusesClass claim second found)
      → (IsOfOneKind f.prefix → IsOfOneKind g.prefix → AreTaken claim)
      → RefusesImplication f.prefix g.prefix (plan_against f g) e
      → Stops names claim list (of_plan e)
  implication_stops (OfPrefix second found) class taken refused = class second found refused
  implication_stops (OfLimit limit) class taken (one, two, is, many) =
      let P : Past → Type 0 = λ l. IsPast claim list l in
      subst P (sym is) (many_instances (taken one two) (among many))
  implication_stops OfMemory class taken refused = tt

both-taken : (p q : List Quant) (which : Bool) (found : Class) → IsOfOneKind p → IsOfOneKind q
    → ¬ plans.RefusesClass p q which found
both-taken p q false found one two (is, none) = none one
both-taken p q true found one two (also, is, none) = none two

pub back_stops : (names : List (List ℕ)) (f g : Plain) (list : List (Lasso Letter))
    (e : ReduceError) → IsOfOneKind f.prefix → IsOfOneKind g.prefix
    → RefusesImplication g.prefix f.prefix (plan_against g f) e
    → Stops names (equivalence f g) list (of_plan e)
back_stops names f g list e one two refused =
    implication_stops names (equivalence f g) list g f (λ many. inr (inl many)) e
    (λ second found bad. absurd (both-taken g.prefix f.prefix second found two one bad))
    (λ _ _. (one, two)) refused

-- ---- closures

pub closure_stops : (names : List (List ℕ)) (claim : Claim) (list : List (Lasso Letter))
    (e : ClosureError) → AreTaken claim → Each HasFewMaps (plans_of claim)
    → (e ≡ closures.Limit → AnyOf IsLarge (closures_of claim))
    → Stops names claim list (of_closure e)
closure_stops names claim list closures.Limit taken few large = many_members taken few (large refl)
closure_stops names claim list closures.Memory taken few large = tt

-- the closure of a plan that is one of the claim's, and lassos
module _ (names : List (List ℕ)) (claim : Claim) (list : List (Lasso Letter)) (plan : PlainPlan)
    (taken : AreTaken claim) (few : Each HasFewMaps (plans_of claim))
    (large : HasManyMembers plan → AnyOf IsLarge (closures_of claim)) where
  pub planned_stops : (e : ClosureError) → RefusesClosure plan e → Stops names claim list (of_closure e)
  planned_stops closures.Limit many = many_members taken few (large many)
  planned_stops closures.Memory refused = tt

  pub plan_stops : (HasFewMembers plan → Each IsSmall (closures_of claim)) → (e : CertError)
      → StopsPlan plan list e → Stops names claim list e
  plan_stops small (Prefix second found) stops = absurd stops
  plan_stops small (Limit limit) stops =
      let P : Past → Type 0 = λ l. IsPast claim list l in
      elim stops [
        | inl (many, is) ↦ subst P (sym is) (many_members taken few (large many))
        | inr (members, none, is) ↦ subst P (sym is) (many_positions taken few (small members) none)
      ]
  plan_stops small (Name name twice) stops = absurd stops
  plan_stops small (Text line) stops = absurd stops
  plan_stops small Memory stops = tt

pub closure_stops_plan : (plan : PlainPlan) (list : List (Lasso Letter)) (e : ClosureError)
    → RefusesClosure plan e → StopsPlan plan list (of_closure e)
closure_stops_plan plan list closures.Limit many = inl (many, refl)
closure_stops_plan plan list closures.Memory refused = tt

-- ---- lassos and names

not_judged : (list : List (Lasso Letter)) (judged : Bool) → IsTrue judged ↔ IsJudged list
    → judged ≡ false → ¬ IsJudged list
not_judged list judged exactly none is = true≢false (sym (exactly.1 is) ∙ none)

pub lassos_stop_plan : (plan : PlainPlan) (list : List (Lasso Letter)) (judged : Bool)
    → HasFewMembers plan → IsTrue judged ↔ IsJudged list → judged ≡ false
    → StopsPlan plan list (Limit joint_limit)
lassos_stop_plan plan list judged few exactly none =
    inr (few, not_judged list judged exactly none, refl)

pub joint_stops : (names : List (List ℕ)) (claim : Claim) (list : List (Lasso Letter))
    (judged : Bool) → AreTaken claim → Each HasFewMaps (plans_of claim)
    → Each IsSmall (closures_of claim) → IsTrue judged ↔ IsJudged list → judged ≡ false
    → Stops names claim list (Limit joint_limit)
joint_stops names claim list judged taken few small exactly none =
    many_positions taken few small (not_judged list judged exactly none)

pub names_stop : (names : List (List ℕ)) (net : Net) (f : Plain) (list : List (Lasso Letter))
    (e : NameError) → IsWithin (circuit net f) list → IsNameRefusal net names f.body e
    → Stops names (circuit net f) list (of_names e)
names_stop names net f list (bad_names.Bad name twice) within bad = (within, bad)
names_stop names net f list bad_names.Memory within refused = tt

-- ---- answers

module _ (names : List (List ℕ)) (claim : Claim) (c : Certificate) (list : List (Lasso Letter))
    (over : list ≡ lassos_over names (spelled_in c)) where
  counted : IsWithin claim list → IsCounted names claim c
  counted within =
      let P : List (Lasso Letter) → Type 0 = λ l. IsJudged l in
      record {
        taken = within.taken;
        instances = within.instances;
        members = within.members;
        positions = subst P over within.positions;
      }

  past : (limit : Past) → IsPast claim list limit → PassesLimit names claim c limit
  past _ (many_instances taken many) = verdicts.many_instances taken many
  past _ (many_members taken few large) = verdicts.many_members taken few large
  past _ (many_positions taken few small none) =
      let P : List (Lasso Letter) → Type 0 = λ l. ¬ IsJudged l in
      verdicts.many_positions taken few small (subst P over none)

  pub stopped_judged : (e : CertError) → Stops names claim list e
      → IsJudgement names claim c (Err e)
  stopped_judged (Prefix which found) stops = stops
  stopped_judged (Limit limit) stops = past limit stops
  stopped_judged (Name name twice) (within, bad) = (counted within, bad)
  stopped_judged (Text line) stops = absurd stops
  stopped_judged Memory stops = tt

  pub weighed_judged : (result : Result Bool CertError) → IsWithin claim list
      → AreNamed names claim → IsWeighed names claim c result → IsJudgement names claim c result
  weighed_judged (Ok good) within named exactly = (counted within, named, exactly)
  weighed_judged (Err (Prefix which found)) within named none = absurd none
  weighed_judged (Err (Limit limit)) within named refused = large_query (counted within) refused
  weighed_judged (Err (Name name twice)) within named none = absurd none
  weighed_judged (Err (Text line)) within named none = absurd none
  weighed_judged (Err Memory) within named none = tt
