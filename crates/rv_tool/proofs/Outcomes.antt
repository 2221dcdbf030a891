-- Formulas come to one answer on events of which there is one list.
use Rattle.std.proofs.Common.{◌≡◌, ◌⊎◌, ◌^◌, ℕ, Bool, true, List, length, Ok, Err, inl, inr, refl, sym, ap, subst, ◌∙◌, arith}
use Rattle.std.proofs.Math.Nat.{mul-le-mul_right}
use Rattle.hy_base.specs.Limits.{most}
use Rattle.hy_base.specs.declared.limit.Kind.{Kind}
use Rattle.hy_base.specs.declared.limit.Kind.TheVariants.{Closure, Atoms, Table}
use Rattle.hy_formula.specs.Atoms.{atoms_of}
use Rattle.hy_formula.specs.Formulas.{Plain}
use Rattle.hy_formula.specs.Trees.{Tree}
use Rattle.hy_formula.proofs.Each.{each-at}
use Rattle.hy_finite.specs.Traces.{Trace}
use Rattle.hy_finite.specs.declared.event.Placed.{Placed}
use Rattle.hy_finite.specs.declared.lengths.Lengths.{Lengths}
use Rattle.ltl_closure.specs.Bodies.{body_nodes, body_root}
use Rattle.fin_monitor.specs.Limits.{HasLargeClosure, HasSmallClosure, HasManyAtoms, HasFewAtoms, HasLargeTable, HasSmallTable, IsTaken}
use Rattle.fin_monitor.proofs.Counting.{reached-most}
use Rattle.rv_core.specs.Endings.{Spec, Ending, clean, refusal, violation}
use Rattle.rv_core.specs.Histories.{History, empty_history}
use Rattle.rv_core.proofs.Ending.{ends-one}
use Rattle.hy_run.specs.Classes.{by_class, is_universal}
use Rattle.hy_run.specs.declared.refusal.Refusal.TheVariants.{Prefix, Limit, Memory}
use Rattle.hy_run.proofs.Classes.{untaken_once, untaken_or_taken}
use Rattle.rv_tool.specs.Agreeing.{Agree, same, other_tuple, AgreeUncounted, counted_alike, counted_otherwise}
use Rattle.rv_tool.specs.Monitoring.{RvAnswer, AreTooLarge, AreUniversal, Brings, ComesTo, EachPlain, EventsCome, IsNoViolation, IsOutcome, IsViolation, SomePlain, done, events_of, spent, specs_of, too_large, untaken}
use Rattle.rv_tool.specs.declared.verdict.RvVerdict.TheVariants.{NoViolation, Violation}
use Rattle.rv_tool.proofs.Counting.{clean-once}

-- Events that are so are so by another measure too.
pub outcome-by : {A B : List Placed → Type 0} (lengths : Lengths) (drop : Bool) (formulas : List Plain) (a : RvAnswer) → ((es : List Placed) → A es → B es)
    → IsOutcome lengths drop formulas A a → IsOutcome lengths drop formulas B a
outcome-by lengths drop formulas _ f (untaken place class first) = untaken place class first
outcome-by lengths drop formulas _ f (too_large kind universal large) = too_large kind universal large
outcome-by lengths drop formulas a f (done _ universal taken (es, so, comes)) = done a universal taken (es, f es so, comes)
outcome-by lengths drop formulas _ f spent = spent

-- ---- two verdicts on events

agree : {a b : RvAnswer} → a ≡ b → Agree a b
agree {a} e = subst (Agree a) e (same a)

violations-agree : (lengths : Lengths) (specs : List Spec) (list : List Trace) (s : ℕ) (a b : RvAnswer) → IsViolation lengths specs list s a
    → IsViolation lengths specs list s b → Agree a b
violations-agree lengths specs list s a b one two =
    let trace : one.trace ≡ two.trace = let p = one.found.last in let q = two.found.last in omega (arith, p, q) in
    let P : RvAnswer → Type 0 = λ x. Agree x b in
    let Q : RvAnswer → Type 0 = λ y. Agree (Ok (Violation s one.trace one.tuple)) y in
    let T : ℕ → Type 0 = λ t. Agree (Ok (Violation s one.trace one.tuple)) (Ok (Violation s t two.tuple)) in
    subst P (sym one.answered) (subst Q (sym two.answered) (subst T trace (other_tuple s one.trace one.tuple two.tuple)))

-- What one ending brings in two ways is the same.
brought-agree : (lengths : Lengths) (drop : Bool) (specs : List Spec) (events : List Placed) (x : Ending) (a b : RvAnswer)
    → Brings lengths drop specs events x a → Brings lengths drop specs events x b → Agree a b
brought-agree lengths drop specs events (clean h) a b one two = agree (clean-once lengths drop specs h a b one two)
brought-agree lengths drop specs events (refusal k r) a b one two = agree (one ∙ sym two)
brought-agree lengths drop specs events (violation k s h) a b one two =
    violations-agree lengths specs h.present.arrived s a b one two

module _ (lengths : Lengths) (one_way other_way : Bool) (specs : List Spec) (events : List Placed) (a b : RvAnswer)
    (one : ComesTo lengths one_way specs events a) (two : ComesTo lengths other_way specs events b) where
  -- Events end in one way, whatever is dropped.
  ending-same : Brings lengths one_way specs events two.ending a
  ending-same =
      let P : Ending → Type 0 = λ x. Brings lengths one_way specs events x a in
      subst P (ends-one lengths specs 0 empty_history (events_of events) one.ending two.ending one.ends two.ends) one.brings

events-agree : (lengths : Lengths) (drop : Bool) (specs : List Spec) (events : List Placed) (a b : RvAnswer)
    → ComesTo lengths drop specs events a → ComesTo lengths drop specs events b → Agree a b
events-agree lengths drop specs events a b one two =
    brought-agree lengths drop specs events two.ending a b (ending-same lengths drop drop specs events a b one two) two.brings

no-violations-agree : (lengths : Lengths) (one_way other_way : Bool) (specs : List Spec) (h : History) (a b : RvAnswer)
    → IsNoViolation lengths one_way specs h a → IsNoViolation lengths other_way specs h b → AgreeUncounted a b
no-violations-agree lengths one_way other_way specs h a b one two =
    let traces = length h.present.arrived in
    let live = length h.present.sessions in
    let P : RvAnswer → Type 0 = λ x. AgreeUncounted x b in
    let Q : RvAnswer → Type 0 = λ y. AgreeUncounted (Ok (NoViolation traces one.kept live)) y in
    subst P (sym one.answered) (subst Q (sym two.answered) (counted_otherwise traces live one.kept two.kept))

brought-uncounted : (lengths : Lengths) (one_way other_way : Bool) (specs : List Spec) (events : List Placed) (x : Ending) (a b : RvAnswer)
    → Brings lengths one_way specs events x a → Brings lengths other_way specs events x b → AgreeUncounted a b
brought-uncounted lengths one_way other_way specs events (clean h) a b one two =
    no-violations-agree lengths one_way other_way specs h a b one two
brought-uncounted lengths one_way other_way specs events (refusal k r) a b one two = counted_alike a b (agree (one ∙ sym two))
brought-uncounted lengths one_way other_way specs events (violation k s h) a b one two =
    counted_alike a b (violations-agree lengths specs h.present.arrived s a b one two)

-- With dropping and without it events come to the same but for the counts.
pub dropping-agrees : (lengths : Lengths) (one_way other_way : Bool) (specs : List Spec) (events : List Placed)
    (a b : RvAnswer) → ComesTo lengths one_way specs events a
    → ComesTo lengths other_way specs events b → AgreeUncounted a b
dropping-agrees lengths one_way other_way specs events a b one two =
    brought-uncounted lengths one_way other_way specs events two.ending a b
    (ending-same lengths one_way other_way specs events a b one two) two.brings

-- ---- formulas that are too large

closures_apart : (body : Tree) → HasSmallClosure body → ¬ HasLargeClosure body
closures_apart body small large = omega (arith, small, large)

atoms_apart : (body : Tree) → HasFewAtoms body → ¬ HasManyAtoms body
atoms_apart body few many = omega (arith, few, many)

tables_apart : (body : Tree) → HasSmallTable body → ¬ HasLargeTable body
tables_apart body small large =
    let most = reached-most (body_nodes body true) (body_root body true) large.list small.list large.reached small.reached in
    let times = mul-le-mul_right (2 ^ length (atoms_of body)) most in
    omega (arith, times, small.few, large.many)

-- Where it holds of each body, a contrary fact holds of none.
no-body : (Q R : Tree → Type 0) → ((body : Tree) → R body → ¬ Q body) → (formulas : List Plain) → EachPlain R formulas → ¬ SomePlain Q formulas
no-body Q R apart formulas each (f, there, is) = apart f.body (each-at (λ (g : Plain). R g.body) formulas f each there) is

module _ (formulas : List Plain) where
  small-closures : EachPlain HasSmallClosure formulas → ¬ SomePlain HasLargeClosure formulas
  small-closures = no-body HasLargeClosure HasSmallClosure closures_apart formulas

  few-atoms : EachPlain HasFewAtoms formulas → ¬ SomePlain HasManyAtoms formulas
  few-atoms = no-body HasManyAtoms HasFewAtoms atoms_apart formulas

  too_large-once : (kind other : Kind) → AreTooLarge formulas kind → AreTooLarge formulas other → kind ≡ other
  too_large-once Closure Closure one two = refl
  too_large-once Closure Atoms one (small, two) = absurd (small-closures small one)
  too_large-once Closure Table one (small, few, two) = absurd (small-closures small one)
  too_large-once Atoms Closure (small, one) two = absurd (small-closures small two)
  too_large-once Atoms Atoms one two = refl
  too_large-once Atoms Table (small, one) (also, few, two) = absurd (few-atoms few one)
  too_large-once Table Closure (small, few, one) two = absurd (small-closures small two)
  too_large-once Table Atoms (small, few, one) (also, two) = absurd (few-atoms few two)
  too_large-once Table Table one two = refl
  too_large-once Closure _ one two = absurd two
  too_large-once Atoms _ one two = absurd two
  too_large-once Table _ one two = absurd two
  too_large-once _ other one two = absurd one

  taken-small : (kind : Kind) → EachPlain IsTaken formulas → ¬ AreTooLarge formulas kind
  taken-small Closure taken large = no-body HasLargeClosure IsTaken (λ body is. closures_apart body is.closure) formulas taken large
  taken-small Atoms taken (small, many) = no-body HasManyAtoms IsTaken (λ body is. atoms_apart body is.atoms) formulas taken many
  taken-small Table taken (small, few, large) =
      no-body HasLargeTable IsTaken (λ body is. tables_apart body is.table) formulas taken large
  taken-small _ taken none = none

-- ---- outcomes

module _ (lengths : Lengths) (drop : Bool) (formulas : List Plain) (AreSo : List Placed → Type 0) where
  -- Where formulas are monitored the events say what they come to, or memory ran out.
  pub monitored : (a : RvAnswer) → AreUniversal formulas → EachPlain IsTaken formulas → IsOutcome lengths drop formulas AreSo a
      → (a ≡ Err Memory) ⊎ EventsCome lengths drop (specs_of formulas) AreSo a
  monitored _ universal taken (untaken place class first) =
      absurd (untaken_or_taken (by_class is_universal) formulas place class first universal)
  monitored _ universal taken (too_large kind also large) = absurd (taken-small formulas kind taken large)
  monitored a universal taken (done _ also small comes) = inr comes
  monitored _ universal taken spent = inl refl

  come-agree : (a b : RvAnswer) → ((events others : List Placed) → AreSo events → AreSo others → events ≡ others)
      → EventsCome lengths drop (specs_of formulas) AreSo a → EventsCome lengths drop (specs_of formulas) AreSo b → Agree a b
  come-agree a b once (events, said, one) (others, also, two) =
      let P : List Placed → Type 0 = λ es. ComesTo lengths drop (specs_of formulas) es a in
      events-agree lengths drop (specs_of formulas) others a b (subst P (once events others said also) one) two

  -- So there is one outcome, up to the tuple.
  pub outcomes-agree : (a b : RvAnswer) → ((events others : List Placed) → AreSo events → AreSo others → events ≡ others)
      → IsOutcome lengths drop formulas AreSo a → IsOutcome lengths drop formulas AreSo b
      → (a ≡ Err Memory) ⊎ (b ≡ Err Memory) ⊎ Agree a b
  outcomes-agree _ b once spent two = inl refl
  outcomes-agree a _ once one spent = inr (inl refl)
  outcomes-agree _ _ once (untaken place class first) (untaken other next also) =
      inr (inr (agree (ap (λ c. Err (Prefix 0 c))
      (untaken_once (by_class is_universal) formulas place other class next first also).1)))
  outcomes-agree _ _ once (untaken place class first) (too_large kind universal large) =
      absurd (untaken_or_taken (by_class is_universal) formulas place class first universal)
  outcomes-agree _ b once (untaken place class first) (done _ universal taken comes) =
      absurd (untaken_or_taken (by_class is_universal) formulas place class first universal)
  outcomes-agree _ _ once (too_large kind universal large) (untaken place class first) =
      absurd (untaken_or_taken (by_class is_universal) formulas place class first universal)
  outcomes-agree _ _ once (too_large kind universal large) (too_large other also more) =
      inr (inr (agree (ap (λ k. Err (Limit k (most k))) (too_large-once formulas kind other large more))))
  outcomes-agree _ b once (too_large kind universal large) (done _ also taken comes) =
      absurd (taken-small formulas kind taken large)
  outcomes-agree a _ once (done _ universal taken comes) (untaken place class first) =
      absurd (untaken_or_taken (by_class is_universal) formulas place class first universal)
  outcomes-agree a _ once (done _ universal taken comes) (too_large kind also large) =
      absurd (taken-small formulas kind taken large)
  outcomes-agree a b once (done _ universal taken one) (done _ also small two) = inr (inr (come-agree a b once one two))
