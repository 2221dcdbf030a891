-- Where a strategy wins, the circuit satisfies the formula.
use Rattle.std.proofs.Common.{◌≡◌, ℕ, zero, suc, ◌+◌, ◌-◌, ◌<◌, Bool, true, IsTrue, List, [], ◌∷◌, ◌++◌, length, get_or, inl, inr, refl, sym, ap, ◌∙◌, subst, arith}
use Rattle.std.proofs.lemmas.Bool.{cases_lt}
use Rattle.std.proofs.lemmas.List.{get_or_append_left, get_or-append_right}
use Rattle.hy_base.proofs.Listed.{at-listed, length-listed}
use Rattle.hy_base.proofs.Truths.{cond-above, cond-below}
use Rattle.hy_base.specs.Rows.{listed}
use Rattle.hy_formula.specs.Quantifiers.{Each, IsTuple, Quantified, repeated}
use Rattle.hy_formula.specs.Temporal.{SatisfiesAt, endless}
use Rattle.hy_formula.specs.Trees.{Tree, vars_below}
use Rattle.hy_formula.specs.declared.prefix.Quant.{Quant}
use Rattle.hy_formula.specs.declared.prefix.Quant.TheVariants.{Exists, Forall}
use Rattle.hy_formula.proofs.Tuples.{some-tuple}
use Rattle.aig_net.specs.declared.signals.Signal.{Signal}
use Rattle.aig_net.specs.Executions.{IsLassoExecution, Lasso, Word, gone, lasso_of, no_lasso}
use Rattle.aig_net.specs.Nets.{IsNet, Net, literal_value}
use Rattle.aig_net.specs.Signals.{visible}
use Rattle.aig_net.proofs.Closings.{recurring-execution}
use Rattle.aig_net.proofs.Periods.{Repeats}
use Rattle.aig_net.proofs.Rounds.{gone-recurs, recurring}
use Rattle.wit_lasso.specs.Satisfaction.{IsVisible, Meets, Satisfies, Trace, no_trace, trace_words}
use Rattle.wit_lasso.proofs.Bodies.{body-same}
use Rattle.wit_lasso.proofs.Checking.{at-each}
use Rattle.strat_compose.specs.Completions.{AreRight, Wins, shown_words}
use Rattle.strat_compose.specs.Driving.{IsStrategy, signal_of}
use Rattle.strat_compose.specs.Prefixes.{IsForallExists}
use Rattle.strat_compose.proofs.Prefixes.{shape-length}
use Rattle.strat_core.specs.Questions.{IsAsked}
use Rattle.strat_core.proofs.Completed.{RunsRecur, completed, made, made-recurs, player, settled-execution}

-- What holds behind each tuple of members holds behind as many universal quantifiers.
every-first : {A : Type 0} (Member : A → Type 0) (Body : List A → Type 0) (n : ℕ)
    (rest : List Quant) → ((tuple : List A) → IsTuple Member n tuple →
    Quantified Member (λ more. Body (tuple ++ more)) rest) →
    Quantified Member Body (repeated Forall n ++ rest)
every-first Member Body zero rest all = all [] (record { count = refl; members = tt })
every-first Member Body (suc n) rest all =
    λ x is. every-first Member (λ tuple. Body (x ∷ tuple)) n rest
    (λ tuple t. all (x ∷ tuple)
    (record { count = ap suc t.count; members = (is, t.members) }))

module _ (net : Net) (signals : List Signal) where
  -- the executions of a tuple of traces
  owns : (tuple : List Trace) → Each (IsVisible net signals) tuple → ℕ → Lasso
  owns [] all c = no_lasso
  owns (x ∷ xs) (p, all) zero = p.lasso
  owns (x ∷ xs) (p, all) (suc c) = owns xs all c

  owns-are : (tuple : List Trace) (all : Each (IsVisible net signals) tuple) (c : ℕ) →
      c < length tuple → IsLassoExecution net (owns tuple all c)
  unfolding owns
  owns-are [] all c lt = absurd (omega arith)
  owns-are (x ∷ xs) (p, all) zero lt = p.execution
  owns-are (x ∷ xs) (p, all) (suc c) lt = owns-are xs all c (omega arith)

  owns-seen : (tuple : List Trace) (all : Each (IsVisible net signals) tuple) (c : ℕ) →
      c < length tuple → get_or tuple c no_trace ≡ visible signals (gone (owns tuple all c))
  unfolding owns
  owns-seen [] all c lt = absurd (omega arith)
  owns-seen (x ∷ xs) (p, all) zero lt = p.seen
  owns-seen (x ∷ xs) (p, all) (suc c) lt = owns-seen xs all c (omega arith)

module _ (recur : RunsRecur) (net strategy : Net) (m e : ℕ) (signals : List Signal) (body : Tree)
    (good : IsNet net) (fine : IsNet strategy) (shape : IsStrategy net strategy m e)
    (some : 0 < m) (bound : vars_below (m + e) body ≡ true)
    (wins : Wins net strategy m e (signal_of signals) body) where
  abbrev Seen : Trace → Type 0
  Seen = IsVisible net signals

  module _ (tuple : List Trace) (is : IsTuple Seen m tuple) where
    abbrev lassos : ℕ → Lasso
    lassos = owns net signals tuple is.members

    executions : (c : ℕ) → c < m → IsLassoExecution net (lassos c)
    executions c few = owns-are net signals tuple is.members c (omega (arith, few, is.count))

    abbrev given : ℕ → Word
    given c = gone (lassos c)

    abbrev answer : ℕ → Word
    answer = made net strategy m e good fine shape some given

    again : (c : ℕ) → c < m → Repeats (given c)
    again c few = (
      length (lassos c).stem,
      length (lassos c).cycle,
      gone-recurs (lassos c) (executions c few).some,
    )

    right : AreRight net e answer
        × SatisfiesAt endless (shown_words (signal_of signals) m given answer) body 0
    right = wins lassos (player net strategy m e good fine shape some given) answer executions
        (completed net strategy m e good fine shape some given)

    -- the traces of the existential executions
    abbrev traces : List Trace
    traces = listed 0 e (λ d. visible signals (answer d))

    trace-at : (d : ℕ) → d < e → get_or traces d no_trace ≡ visible signals (answer d)
    trace-at d few =
        let plain : 0 + d ≡ d = omega arith in
        at-listed 0 e (λ d. visible signals (answer d)) no_trace d few
        ∙ ap (λ k. visible signals (answer k)) plain

    answer-seen : (d : ℕ) → d < e → Seen (visible signals (answer d))
    answer-seen d few =
        let (s, p, recurs) = made-recurs net strategy m e good fine shape some given recur again d in
        let same : gone (lasso_of (answer d) s p) ≡ answer d =
        λ x. λ i v. recurring (answer d) s p recurs i v x in
        record {
          lasso = lasso_of (answer d) s p;
          execution = recurring-execution net (answer d) s p recurs
              (settled-execution net e d answer good few
              ((completed net strategy m e good fine shape some given).copies d few) right.0);
          seen = ap (visible signals) (sym same);
        }

    long : length traces ≡ e
    long = length-listed 0 e (λ d. visible signals (answer d))

    -- what the tuple of both shows
    shown : (name v i : ℕ) → v < m + e →
        shown_words (signal_of signals) m given answer name v i
        ≡ trace_words (tuple ++ traces) name v i
    shown name v i lt =
        let value : Word → Bool = λ w. literal_value (w i) (signal_of signals name) in
        let at : Trace → Bool = λ t. t name i in
        let many = is.count in
        elim (cases_lt v m) [
          | inl small ↦
              ap value (cond-below v m (given v) (answer (v - m)) small)
              ∙ ap at (sym (owns-seen net signals tuple is.members v (omega (arith, small, many)))
              ∙ sym (get_or_append_left tuple traces no_trace v (omega (arith, small, many))))
          | inr large ↦
              let few : v - m < e = omega (arith, lt, large) in
              ap value (cond-above v m (given v) (answer (v - m)) large)
              ∙ ap at (sym (trace-at (v - m) few)
              ∙ sym (get_or-append_right tuple traces m v no_trace many large))
        ]

    behind : Quantified Seen (λ more. Meets body (tuple ++ more)) (repeated Exists e)
    behind = (some-tuple Seen (λ more. Meets body (tuple ++ more)) e).1 (
      traces,
      record {
        count = long;
        members = at-each Seen traces no_trace (λ d lt.
            let few : d < e = omega (arith, lt, long) in
            subst Seen (sym (trace-at d few)) (answer-seen d few));
      },
      body-same (m + e) (omega (arith, some))
          (shown_words (signal_of signals) m given answer) (trace_words (tuple ++ traces)) shown
          body bound 0 right.1,
    )

  pub every : Satisfies net signals (repeated Forall m ++ repeated Exists e) body
  every = every-first Seen (Meets body) m (repeated Exists e) behind

pub satisfied : RunsRecur → (net strategy : Net) (prefix : List Quant) (body : Tree)
    (names : List (List ℕ)) (m e : ℕ) (signals : List Signal) → IsNet net → IsNet strategy →
    IsTrue (vars_below (length prefix) body) →
    IsAsked net strategy prefix body names m e signals →
    Wins net strategy m e (signal_of signals) body → Satisfies net signals prefix body
satisfied recur net strategy prefix body names m e signals good fine bound asked wins =
    let is : IsForallExists prefix m e = asked.shaped.prefix_is in
    let B : ℕ → Type 0 = λ n. vars_below n body ≡ true in
    let S : List Quant → Type 0 = λ quants. Satisfies net signals quants body in
    subst S (sym is.is) (every recur net strategy m e signals body good fine
    asked.shaped.strategy_is is.some_universal (subst B (shape-length prefix m e is) bound) wins)
