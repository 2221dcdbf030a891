-- What the check of a driven net says of the strategy.
use Rattle.std.proofs.Common.{◌≡◌, ℕ, ◌+◌, ◌<◌, ◌↔◌, Bool, true, false, List, [], ◌∷◌, length, Option, Ok, get_or, inl, inr, refl, sym, ap, ap₂, ◌∙◌, subst, arith}
use Rattle.hy_base.specs.Rows.{listed}
use Rattle.hy_base.specs.declared.limit.Kind.{Kind}
use Rattle.hy_base.specs.declared.limit.Kind.TheVariants as kinds
use Rattle.hy_base.specs.declared.limit.Limit.{Limit as Past}
use Rattle.hy_base.proofs.Listed.{at-listed, length-listed}
use Rattle.hy_bits.specs.Letter.{Letter}
use Rattle.hy_formula.specs.Atoms.{atoms_of, has_name}
use Rattle.hy_formula.specs.Lassos as letters
use Rattle.hy_formula.specs.Temporal.{SatisfiesAt, Words, endless}
use Rattle.hy_formula.specs.Trees.{Tree, tree_of}
use Rattle.hy_formula.specs.declared.prefix.Quant.{Quant}
use Rattle.hy_lasso.specs.Words as words
use Rattle.hy_lasso.specs.Words.{no_lasso}
use Rattle.aig_net.specs.declared.run.Run.{Run}
use Rattle.aig_net.specs.declared.run.ValueLasso.{ValueLasso}
use Rattle.aig_net.specs.declared.signals.Signal.{Signal}
use Rattle.aig_net.specs.Executions.{IsLassoExecution, Lasso, Word, gone, lasso_of}
use Rattle.aig_net.specs.Nets.{IsNet, Net}
use Rattle.aig_net.specs.Signals.{visible}
use Rattle.aig_net.specs.Simulations.{IsExecutionOf, IsRunOf, valuations}
use Rattle.aig_net.proofs.Rounds.{recurring}
use Rattle.net_names.specs.Names.{AreSignals, IsBadName, IsFirstBad, IsOnly, name_at}
use Rattle.wit_lasso.specs.Satisfaction.{Satisfies, Trace, trace_words}
use Rattle.wit_lasso.specs.Seeing.{IsTraceOf}
use Rattle.wit_lasso.specs.Unfoldings.{run_at, no_run}
use Rattle.strat_compose.specs.declared.question.Driven.{Driven}
use Rattle.strat_compose.specs.Completions.{IsCompletion, Wins}
use Rattle.strat_compose.specs.Driving.{IsStrategy, parts_of, signal_of}
use Rattle.strat_compose.specs.Formulas.{driven_body, output_words}
use Rattle.strat_compose.specs.Refusals.{IsDriven}
use Rattle.strat_compose.specs.Runs.{HasCopies, universal_run}
use Rattle.strat_compose.specs.Winning.{Fulfils, Succeeds, driven_for, existential_words, player_word, universal_words}
use Rattle.strat_compose.proofs.PartRuns.{has-copies, own-execution, own-run}
use Rattle.strat_compose.proofs.Winning.{fails as failed, part-recurs}
use Rattle.live_safe.specs.declared.safe_net.SafeNet.{SafeNet}
use Rattle.cnf_frames.specs.declared.queries.Asked.{Asked}
use Rattle.cnf_frames.specs.declared.queries.Asked.TheVariants.{Keep}
use Rattle.cnf_frames.specs.declared.inductions.InductionProof.{InductionProof}
use Rattle.cnf_frames.specs.Queries.{IsPast}
use Rattle.formula_nets.specs.Witnesses.{AreTraces, AreWitnesses}
use Rattle.mc_core.specs.declared.ask.Ask.{Ask}
use Rattle.mc_core.specs.declared.checked.Checked.TheVariants.{Holds, Violated}
use Rattle.mc_core.specs.declared.mc_error.McError.{McError}
use Rattle.mc_core.specs.declared.mc_error.McError.TheVariants as checks
use Rattle.mc_core.specs.Answers.{IsAnswer, IsRefused}
use Rattle.strat_core.specs.declared.refusal.StrategyError.{StrategyError}
use Rattle.strat_core.specs.declared.refusal.StrategyError.TheVariants.{Facts}
use Rattle.strat_core.specs.Answers.{AreFailing, IsStrategyRefused, closure_limit}
use Rattle.strat_core.specs.Questions.{IsAsked, IsPut, driven_by, driven_names, driven_safe, one_forall}
use Rattle.strat_core.specs.Refusing.{CanCome, of_check, of_limit}
use Rattle.strat_core.proofs.Readings.{one-shape, one-signal}

-- ---- a verdict on the driven net

module _ (net strategy : Net) (m e : ℕ) (signals : List Signal) (body : Tree)
    (own : List Signal) where
  abbrev all : Net
  all = driven_by net strategy m e signals body

  abbrev asked : Tree
  asked = driven_body net e body

  -- `driven_names_are_outputs` of strat_compose
  abbrev pub Shows : Type 0
  Shows = (word : Word) (told : Words) → ((name i : ℕ) → told name 0 i ≡ visible own word name i) →
      SatisfiesAt endless told asked 0
      ↔ SatisfiesAt endless (output_words net strategy (parts_of net strategy m e)
      (signal_of signals) (atoms_of body) word) asked 0

  -- Where the driven net satisfies the driven formula, each lasso execution fulfils it.
  pub fulfils : Shows → Satisfies all own one_forall asked → (lasso : Lasso) →
      IsLassoExecution all lasso → Fulfils net strategy m e (signal_of signals) body lasso
  fulfils shows holds lasso is =
      let trace : Trace = visible own (gone lasso) in
      (shows (gone lasso) (trace_words (trace ∷ [])) (λ name i. refl)).0
      (holds trace (record { lasso = lasso; execution = is; seen = refl }))

  -- ---- a run that fails

  module _ (good : IsNet net) (fine : IsNet strategy) (shape : IsStrategy net strategy m e)
      (shows : Shows) (traces : List (letters.Lasso Letter)) (runs : List Run)
      (shown : AreWitnesses all own 1 asked false traces runs) where
    abbrev pub run : Run
    run = run_at runs 0

    trace : IsTraceOf all own run (get_or traces 0 no_lasso)
    trace = shown.each 0 (omega arith)

    abbrev values : ValueLasso
    values = trace.values

    abbrev lasso : Lasso
    lasso = valuations values

    unfulfilled : ¬ Fulfils net strategy m e (signal_of signals) body lasso
    unfulfilled holds =
        shown.says ((shows (gone lasso) (words.lasso_words traces)
        (λ name i. trace.shows i name)).1 holds)

    abbrev given : ℕ → Word
    given = universal_words net strategy m e (gone lasso)

    -- the executions of the universal copies
    abbrev lassos : ℕ → Lasso
    lassos c = lasso_of (given c) (length lasso.stem) (length lasso.cycle)

    gone-given : (λ (c : ℕ). gone (lassos c)) ≡ given
    gone-given = λ x. λ c i v. recurring (given c) (length lasso.stem) (length lasso.cycle)
        (part-recurs net (parts_of net strategy m e).universal c lasso trace.execution.execution.some)
        i v x

    executions : (c : ℕ) → c < m → IsLassoExecution net (lassos c)
    executions = own-execution net strategy m e (signal_of signals) (atoms_of body) good fine run
        values trace.execution

    runs-are : (c : ℕ) → c < m → IsRunOf net (lassos c) (universal_run net m run c)
    runs-are = own-run net strategy m e (signal_of signals) (atoms_of body) good fine run values
        trace.execution

    pub copies : HasCopies net m run
    copies = has-copies net strategy m e (signal_of signals) (atoms_of body) run values
        trace.execution

    -- The run of each copy is that of an execution; `runs_are_executions` of aig_net says so.
    pub universal-execution : ((lasso : Lasso) (run : Run) → IsLassoExecution net lasso →
        IsRunOf net lasso run → (values : ValueLasso) × IsExecutionOf net run values) →
        (c : ℕ) → c < m → (values : ValueLasso)
        × IsExecutionOf net (universal_run net m run c) values
    universal-execution simulated c few =
        simulated (lassos c) (universal_run net m run c) (executions c few) (runs-are c few)

    pub failing : (found : List Run) (seen : List (letters.Lasso Letter)) →
        found ≡ listed 0 m (universal_run net m run) → AreTraces net signals found seen →
        AreFailing net strategy m e signals body seen found
    failing found seen is traced =
        let P : (ℕ → Word) → Type 0 = λ u. IsCompletion net strategy m e u
        (player_word net strategy m e (gone lasso)) (existential_words net strategy m e (gone lasso)) in
        let Q : (ℕ → Word) → Type 0 = λ u. ¬ Succeeds net m e (signal_of signals) body u
        (existential_words net strategy m e (gone lasso)) in
        let (_, completion, unmet) = failed net strategy m e (signal_of signals) body lasso good fine
        shape trace.execution.execution unfulfilled in
        record {
          lassos = lassos;
          executions = executions;
          many = ap length is ∙ length-listed 0 m (universal_run net m run);
          runs_are = λ c few.
              let plain : 0 + c ≡ c = omega arith in
              let at : run_at found c ≡ universal_run net m run c =
              ap (λ (l : List Run). run_at l c) is
              ∙ at-listed 0 m (universal_run net m run) no_run c few
              ∙ ap (universal_run net m run) plain in
              let R : Run → Type 0 = IsRunOf net (lassos c) in
              subst R (sym at) (runs-are c few);
          traces_are = traced;
          player = player_word net strategy m e (gone lasso);
          made = existential_words net strategy m e (gone lasso);
          completion = subst P (sym gone-given) completion;
          fails = subst Q (sym gone-given) unmet;
        }

-- ---- two answers

pub denied : (net strategy : Net) (prefix : List Quant) (body : Tree) (names : List (List ℕ))
    (m e n k : ℕ) (a b : List Signal) (traces : List (letters.Lasso Letter)) (runs : List Run) →
    IsAsked net strategy prefix body names m e a → IsAsked net strategy prefix body names n k b →
    Wins net strategy m e (signal_of a) body →
    ¬ AreFailing net strategy n k b body traces runs
denied net strategy prefix body names m e n k a b traces runs one two wins fails =
    let (many, more) = one-shape prefix m e n k one.shaped.prefix_is two.shaped.prefix_is in
    let same = one-signal net names body a b one.named two.named in
    let M : ℕ → Type 0 = λ m. Wins net strategy m e (signal_of a) body in
    let E : ℕ → Type 0 = λ e. Wins net strategy n e (signal_of a) body in
    let S : (ℕ → ℕ) → Type 0 = λ signal. Wins net strategy n k signal body in
    let all = subst S same (subst E more (subst M many wins)) in
    fails.fails (all fails.lassos fails.player fails.made fails.executions fails.completion)

-- ---- the question of a driven net

module _ (net strategy : Net) (prefix : List Quant) (body : Tree) (names : List (List ℕ))
    (made : Driven) (is : IsDriven net strategy prefix body names made) (signals : List Signal)
    (named : AreSignals net names body signals) where
  abbrev pub many : ℕ
  many = is.universal

  abbrev pub more : ℕ
  more = is.existential

  pub asked-so : IsAsked net strategy prefix body names many more signals
  asked-so = record { shaped = is.shaped; few = is.few; named = named }

  net-is : made.net ≡ driven_by net strategy many more signals body
  net-is = is.is.net_is ∙ ap (λ (signal : ℕ → ℕ). driven_for net strategy many more signal body)
      (one-signal net names body is.signals signals is.named named)

  -- what is said of the net and the formula that were made, and of their definitions
  module _ (P : Net → List (List ℕ) → List Quant → Tree → Type 0) where
    abbrev OfNet : Net → Type 0
    OfNet n = P n made.names made.formula.prefix (tree_of made.formula.body)

    abbrev OfNames : List (List ℕ) → Type 0
    OfNames n = P (driven_by net strategy many more signals body) n made.formula.prefix
        (tree_of made.formula.body)

    abbrev OfPrefix : List Quant → Type 0
    OfPrefix q = P (driven_by net strategy many more signals body) (driven_names net more body) q
        (tree_of made.formula.body)

    abbrev OfBody : Tree → Type 0
    OfBody f = P (driven_by net strategy many more signals body) (driven_names net more body)
        one_forall f

    pub of-made : OfNet made.net → OfBody (driven_body net more body)
    of-made told = subst OfBody is.is.body_is (subst OfPrefix is.is.prefix_is
        (subst OfNames is.is.names_are (subst OfNet net-is told)))

    pub to-made : OfBody (driven_body net more body) → OfNet made.net
    to-made told = subst OfNet (sym net-is) (subst OfNames (sym is.is.names_are)
        (subst OfPrefix (sym is.is.prefix_is) (subst OfBody (sym is.is.body_is) told)))

  -- ---- its verdicts

  abbrev Put : List Signal → Type 0
  Put own = IsPut net strategy many more signals body own

  pub held : (ask : Ask) (traces : List (letters.Lasso Letter)) (runs : List Run)
      (proof : Option InductionProof) →
      IsAnswer made.net made.names made.formula.prefix (tree_of made.formula.body) ask
      (Ok (Holds traces runs proof)) →
      (own : List Signal) × Put own
      × Satisfies (driven_by net strategy many more signals body) own one_forall
      (driven_body net more body)
  held ask traces runs proof told =
      let (own, put, (holds, _)) =
      of-made (λ n k p b. IsAnswer n k p b ask (Ok (Holds traces runs proof))) told in
      (own, put, holds)

  pub violated : (ask : Ask) (traces : List (letters.Lasso Letter)) (runs : List Run)
      (proof : Option InductionProof) →
      IsAnswer made.net made.names made.formula.prefix (tree_of made.formula.body) ask
      (Ok (Violated traces runs proof)) →
      (own : List Signal) × Put own
      × AreWitnesses (driven_by net strategy many more signals body) own 1
      (driven_body net more body) false traces runs
  violated ask traces runs proof told =
      let (own, put, (_, (shown, _))) =
      of-made (λ n k p b. IsAnswer n k p b ask (Ok (Violated traces runs proof))) told in
      (own, put, shown)

  -- ---- its refusals

  -- `driven_names_are_outputs` of strat_compose
  abbrev pub AreNamed : Type 0
  AreNamed = (name : ℕ) → has_name (driven_body net more body) name ≡ true →
      (l : ℕ) × IsOnly (driven_by net strategy many more signals body)
      (name_at (driven_names net more body) name) l

  not-bad : AreNamed → (name : ℕ) (twice : Bool) →
      ¬ IsFirstBad (driven_by net strategy many more signals body) (driven_names net more body)
      (driven_body net more body) name twice
  not-bad own name twice bad = let (l, only) = own name bad.there in by l only twice bad.bad
    where
      by : (l : ℕ) → IsOnly (driven_by net strategy many more signals body)
          (name_at (driven_names net more body) name) l → (twice : Bool) →
          ¬ IsBadName (driven_by net strategy many more signals body)
          (name_at (driven_names net more body) name) twice
      by l only false none = none l only.has
      by l only true (x, y, has-x, has-y, apart) =
          apart (only.only x has-x ∙ sym (only.only y has-y))

  abbrev Refused : Ask → McError → Type 0
  Refused ask e = IsRefused (driven_by net strategy many more signals body)
      (driven_names net more body) one_forall (driven_body net more body) ask e

  pub can-come : AreNamed → (ask : Ask) (e : McError) → Refused ask e → CanCome e
  can-come own ask (checks.Prefix class) (_, untaken) = untaken (inr refl)
  can-come own ask (checks.Limit limit) refused = tt
  can-come own ask (checks.CnfLimit kind limit kept) refused = tt
  can-come own ask (checks.Name name twice) (_, _, bad) = not-bad own name twice bad
  can-come own ask checks.Memory refused = tt

  abbrev Answered : Ask → StrategyError → Type 0
  Answered ask e = IsStrategyRefused net strategy prefix body names ask e

  -- A query is past no limit but its own two.
  of-query : (ask : Ask) (limit : Past) (safe : SafeNet) (query : Asked) (kind : Kind) →
      IsPast safe query kind → Answered ask (Facts limit) → Answered ask (of_limit kind limit)
  of-query ask limit safe query kinds.CnfVariables past found = found
  of-query ask limit safe query kinds.CnfLiterals past found = found
  of-query ask limit safe query _ past found = absurd past

  pub refused-so : AreNamed → (ask : Ask) (e : McError) → Refused ask e → Answered ask (of_check e)
  refused-so own ask (checks.Prefix class) refused =
      absurd (can-come own ask (checks.Prefix class) refused)
  refused-so own-names ask (checks.Limit limit) (inl (_, (large, kind-is, limit-is))) =
      let whole : limit ≡ closure_limit =
      ap₂ (λ (k : Kind) (n : ℕ). record { kind = k; limit = n }) kind-is limit-is in
      let P : Kind → Type 0 = λ k. Answered ask (of_limit k limit) in
      subst P (sym kind-is) (whole, many, more, signals, asked-so, large)
  refused-so own-names ask (checks.Limit limit) (inr (own, put, (plain, stopped))) =
      let (facts, group, _, _, past, _) = stopped in
      of-query ask limit (driven_safe net strategy many more signals body own) (Keep facts group)
      limit.kind past (many, more, signals, own, asked-so, put, (plain, stopped))
  refused-so own-names ask (checks.CnfLimit kind limit kept) (own, put, work) =
      (many, more, signals, own, asked-so, put, work)
  refused-so own ask (checks.Name name twice) refused =
      absurd (can-come own ask (checks.Name name twice) refused)
  refused-so own ask checks.Memory refused = tt
