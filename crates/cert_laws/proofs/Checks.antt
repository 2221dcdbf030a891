-- What is printed of checks of circuits is good evidence.
use Rattle.std.proofs.Common.{◌≡◌, ℕ, zero, ◌<◌, ◌≤◌, ◌++◌, Bool, true, false, not, List, [], ◌∷◌, length, map, Option, Some, None, refl, sym, ap, ◌∙◌, subst, arith, append-nil, length-append, true≢false}
use Rattle.std.specs.Prelude.{codes, is_some, unwrap_or}
use Rattle.std.proofs.lemmas.List.{length-map}
use Rattle.std.proofs.lemmas.List.Elements.{All-from_get_or}
use Rattle.hy_base.specs.Limits.{most}
use Rattle.hy_base.specs.Rows.{row}
use Rattle.hy_base.specs.declared.limit.Kind.{Kind}
use Rattle.hy_base.specs.declared.limit.Kind.TheVariants.{CnfVariables, CnfLiterals}
use Rattle.hy_base.specs.declared.limit.Limit.{Limit as Past}
use Rattle.hy_bits.specs.Letter.{Letter}
use Rattle.hy_formula.specs.Formulas.{Plain}
use Rattle.hy_formula.specs.Lassos.{Lasso}
use Rattle.hy_lasso.specs.NormalForms.{IsNormal}
use Rattle.hy_lasso.specs.Printed.{printed_lassos, spelled_of}
use Rattle.hy_lasso.specs.Words.{AreLassos}
use Rattle.aig_net.specs.declared.run.Run.{Run}
use Rattle.aig_net.specs.declared.signals.Signal.{Signal}
use Rattle.aig_net.specs.Executions.{gone}
use Rattle.aig_net.specs.Nets.{Net, Valuation, literal_value}
use Rattle.aig_net.specs.Rows.{input_row}
use Rattle.aig_net.specs.RunTexts.{runs_text}
use Rattle.aig_net.specs.Signals.{literal_of, shown}
use Rattle.aig_net.specs.Simulations.{valuations}
use Rattle.aig_net.proofs.Closings.{gone-execution}
use Rattle.net_names.specs.Names.{AreSignals}
use Rattle.live_safe.specs.Safe.{to_safe}
use Rattle.live_safe.specs.declared.safe_net.SafeNet.{SafeNet}
use Rattle.wit_lasso.specs.FormulaNets.{formula_net}
use Rattle.wit_lasso.specs.Seeing.{IsTraceOf}
use Rattle.wit_lasso.specs.Unfoldings.{no_run}
use Rattle.cnf_frames.specs.Proofs.{AreQueriesWithin, IsInductionProof}
use Rattle.cnf_frames.specs.Queries.{IsPastBy, IsWithin}
use Rattle.cnf_frames.specs.ProofTexts.{kind_text, proof_text}
use Rattle.cnf_frames.specs.declared.facts.Fact.{Fact}
use Rattle.cnf_frames.specs.declared.inductions.InductionProof.{InductionProof}
use Rattle.cnf_frames.specs.declared.queries.Asked.{Asked}
use Rattle.cnf_frames.specs.declared.queries.Asked.TheVariants.{Base, Keep, Step}
use Rattle.cnf_frames.specs.declared.queries.FrameError.TheVariants as frame
use Rattle.formula_nets.specs.Posed.{is_existential}
use Rattle.mc_core.specs.Answers.{IsChecked, IsEvidence}
use Rattle.mc_core.specs.declared.ask.Ask.{Ask}
use Rattle.mc_core.specs.declared.checked.Checked.TheVariants as checks
use Rattle.mc_tool.specs.Texts.{checked_text, evidence_text}
use Rattle.cert_text.specs.Certificates.{holds_line, induction, runs}
use Rattle.cert_text.specs.Printed.{IsPrintableRun}
use Rattle.cert_text.proofs.Printable.{printable_induction, printable_runs}
use Rattle.cert_text.proofs.PrintedInductions.{printed_induction}
use Rattle.cert_text.proofs.PrintedRuns.{printed_runs}
use Rattle.induction_judge.specs.Good.{IsAskedOf, IsRefusedInduction, most_depth}
use Rattle.claim_check.specs.Claims.{circuit}
use Rattle.claim_check.specs.Good.{AreGoodRuns, WantsInduction, WantsRuns, safe_net}
use Rattle.claim_check.proofs.SameNets.{name-known, same-net}
use Rattle.cert_laws.specs.GoodTexts.{IsFormulaOver, IsShort, IsTable}
use Rattle.cert_laws.proofs.Lassos.{IsSeenOver, lassos-back, lassos-over}
use Rattle.cert_laws.proofs.Named.{name-below}
use Rattle.cert_laws.proofs.Shown.{IsShown}

-- A safe net has a latch, that which says whether a state was saved.
pub safe-latch : (net : Net) → 0 < length (to_safe net).net.latches
safe-latch net = omega arith

-- The cycle of a normal form is not empty.
normal-some : {A : Type 0} (l : Lasso A) → IsNormal l → 0 < length l.cycle
normal-some {A} l normal = by l.cycle refl
  where
    by : (cycle : List A) → l.cycle ≡ cycle → 0 < length cycle
    by [] e = let none : zero ≡ 1 = normal.primitive [] 0 e in absurd (omega (arith, none))
    by (a ∷ cycle) e = omega arith

-- ---- queries within their limits

never-past : (variables literals : ℕ) → variables ≤ most CnfVariables → literals ≤ most CnfLiterals → (kind : Kind)
    → ¬ IsPastBy variables literals kind
never-past variables literals few low CnfVariables past = omega (arith, few, past)
never-past variables literals few low CnfLiterals (least, past) = omega (arith, low, past)
never-past variables literals few low _ past = past

asked-within : (safe : SafeNet) (proof : InductionProof) → AreQueriesWithin safe proof → (asked : Asked)
    → IsAskedOf proof.inv proof.depth asked → IsWithin safe asked
asked-within safe proof within (Keep inv group) (same, lt) =
    let P : List Fact → Type 0 = λ facts. IsWithin safe (Keep facts group) in
    subst P (sym same) (within.keeps group lt)
asked-within safe proof within (Base k) few = within.bases k few
asked-within safe proof within (Step inv k) (same, deep) =
    let P : List Fact → Type 0 = λ facts. IsWithin safe (Step facts k) in
    let Q : ℕ → Type 0 = λ d. IsWithin safe (Step proof.inv d) in
    subst P (sym same) (subst Q (sym deep) within.step)

-- A proof whose queries can be made is refused for none.
pub never-refused : (safe : SafeNet) (proof : InductionProof) → AreQueriesWithin safe proof → (limit : Past)
    → ¬ IsRefusedInduction safe proof (frame.Limit limit)
never-refused safe proof within limit (asked, is, (past, least)) =
    let fits = asked-within safe proof within asked is in
    never-past _ _ fits.few_variables fits.few_literals limit.kind past

-- ---- what is seen of a run

-- Where variable 0 is false, a name that is seen of a valuation has a literal.
seen-literal : (signals : List Signal) (v : Valuation) (name : ℕ) → v 0 ≡ false
    → shown signals v name 0 ≡ true → (l : ℕ) × (literal_of signals name 0 ≡ Some l)
seen-literal signals v name constant seen = by (literal_of signals name 0) refl
  where
    by : (o : Option ℕ) → literal_of signals name 0 ≡ o
        → (l : ℕ) × (literal_of signals name 0 ≡ Some l)
    by None e =
        let on : v 0 ≡ true = sym (ap (λ o. literal_value v (unwrap_or o 0)) e) ∙ seen in
        absurd (true≢false (sym on ∙ constant))
    by (Some l) e = (l, e)

module _ (net : Net) (signals : List Signal) where
  run-cycle : (run : Run) (trace : Lasso Letter) → IsTraceOf net signals run trace
      → 0 < length run.cycle
  run-cycle run trace is =
      let some = is.execution.execution.some in
      let rows = length-map is.values.cycle row in
      let steps = length-map is.values.cycle (input_row net) in
      let same = ap length is.execution.cycle in
      omega (arith, some, rows, steps, same)

  module _ (names : List (List ℕ)) (f : Plain) (over : IsFormulaOver names f)
      (are : AreSignals net names f.body signals) where
    trace-seen : (run : Run) (trace : Lasso Letter) → IsTraceOf net signals run trace
        → IsSeenOver names trace
    trace-seen run trace is i name has =
        let word = gone (valuations is.values) in
        let going = gone-execution net (valuations is.values) is.execution.execution in
        let (l, at) = seen-literal signals (word i) name (going.run.right i).constant
        (sym (is.shows i name) ∙ has) in
        name-below (length names) f.body over.named name
        (name-known net names f.body signals are name l at).0

-- ---- certificates of circuits

module _ (names : List (List ℕ)) (table : IsTable names) (net : Net) (signals : List Signal)
    (f : Plain) (over : IsFormulaOver names f) (are : AreSignals net names f.body signals) where
  -- what is printed behind the line of a verdict
  abbrev shown_text : Bool → List (Lasso Letter) → List ℕ → List ℕ
  shown_text holds traces evidence =
      holds_line holds ++ codes "\n" ++ printed_lassos names traces ++ evidence

  abbrev IsGoodFor : List (Lasso Letter) → List ℕ → Type 0
  IsGoodFor traces text = IsShown names (circuit net f) traces text

  runs-good : (holds : Bool) (traces : List (Lasso Letter)) (tuple : List Run)
      → AreGoodRuns net signals f traces tuple → WantsRuns f holds
      → IsShort (shown_text holds traces (runs_text tuple))
      → IsGoodFor traces (shown_text holds traces (runs_text tuple))
  runs-good holds traces tuple good wants short =
      let front = holds_line holds ++ codes "\n" ++ printed_lassos names traces in
      let long = length-append front (runs_text tuple) in
      let few : length traces ≡ length f.prefix = good.many_traces in
      let many : length tuple ≡ length f.prefix = good.many_runs in
      let cycles = All-from_get_or IsPrintableRun tuple no_run
      (λ c lt. run-cycle net signals _ _ (good.each c (omega (arith, lt, many)))) in
      let lassos : AreLassos traces =
      λ c lt. normal-some _ (good.each c (omega (arith, lt, few))).normal in
      let fits = lassos-over names traces
      (λ c lt. trace-seen net signals names f over are _ _ (good.each c (omega (arith, lt, few)))) in
      let back = lassos-back names table.distinct traces fits in
      let P : List (Lasso Letter) → Type 0 = λ ls. AreGoodRuns net signals f ls tuple in
      record {
        certificate = runs holds (map (spelled_of names) traces) tuple;
        spelled =
            printed_runs names holds traces tuple table.are (omega (arith, few, over.some)) lassos
            (printable_runs tuple cycles (omega (arith, short, long)));
        good =
            (wants, (signals, are, subst P (sym back) good));
        shown = back;
        unrefused = λ limit refused. refused;
      }

  induction-good : (holds : Bool) (proof : InductionProof)
      → IsInductionProof (safe_net net signals f) proof
      → AreQueriesWithin (safe_net net signals f) proof → proof.depth ≤ most_depth
      → WantsInduction f holds → IsShort (holds_line holds ++ codes "\n" ++ proof_text proof)
      → IsGoodFor [] (holds_line holds ++ codes "\n" ++ proof_text proof)
  induction-good holds proof is within deep wants short =
      let long = length-append (holds_line holds ++ codes "\n") (proof_text proof) in
      record {
        certificate = induction holds proof;
        spelled =
            printed_induction holds proof
            (printable_induction (kind_text proof.inv) (safe_net net signals f) proof is within (safe-latch
            (formula_net net signals (length f.prefix) f.body (is_existential f.prefix)))
            (omega (arith, short, long)));
        good = (wants, (signals, are, (is, deep)));
        shown = refl;
        unrefused = λ limit refused. let (wanted, (others, also, past)) = refused in
            let P : SafeNet → Type 0 = λ safe. IsRefusedInduction safe proof (frame.Limit limit) in
            never-refused (safe_net net signals f) proof within limit (subst P (same-net net names f others signals also are) past);
      }

  -- Evidence of whichever kind is good where the verdict is one that wants this kind.
  evidence-good : (holds b : Bool) (ask : Ask) (traces : List (Lasso Letter)) (tuple : List Run)
      (proof : Option InductionProof)
      → IsEvidence b net signals f.prefix f.body ask traces tuple proof
      → (b ≡ true → WantsRuns f holds) → (b ≡ false → WantsInduction f holds)
      → ask.depth ≤ most_depth → IsShort (shown_text holds traces (evidence_text tuple proof))
      → IsGoodFor traces (shown_text holds traces (evidence_text tuple proof))
  evidence-good holds true ask traces tuple None (good, none) shows proves deep short =
      runs-good holds traces tuple good (shows refl) short
  evidence-good holds true ask traces tuple (Some proof) (good, none) shows proves deep short =
      absurd (true≢false (ap is_some none))
  evidence-good holds false ask traces tuple None (none, empty, is) shows proves deep short =
      absurd is
  evidence-good holds false ask traces tuple (Some proof) (none, empty, is) shows proves deep short =
      let P : List (Lasso Letter) → Type 0 = λ ls.
      IsShort (shown_text holds ls (proof_text proof))
      → IsGoodFor ls (shown_text holds ls (proof_text proof)) in
      let front = holds_line holds ++ codes "\n" in
      let Q : List ℕ → Type 0 = λ line.
      IsShort (line ++ proof_text proof) → IsGoodFor [] (line ++ proof_text proof) in
      subst P (sym none) (subst Q (sym (append-nil front))
      (induction-good holds proof is.right is.within
      (let low = is.low in omega (arith, low, deep)) (proves refl))) short

  module _ (ask : Ask) (deep : ask.depth ≤ most_depth) (traces : List (Lasso Letter))
      (tuple : List Run) (proof : Option InductionProof) where
    pub holds-good : IsChecked net signals f.prefix f.body ask (checks.Holds traces tuple proof)
        → IsShort (checked_text true names (checks.Holds traces tuple proof))
        → IsGoodFor traces (checked_text true names (checks.Holds traces tuple proof))
    holds-good (says, evidence) short =
        evidence-good true (is_existential f.prefix) ask traces tuple proof evidence
        (λ e. sym e) (λ e. sym (ap not e)) deep short

    pub violated-good : IsChecked net signals f.prefix f.body ask
        (checks.Violated traces tuple proof)
        → IsShort (checked_text true names (checks.Violated traces tuple proof))
        → IsGoodFor traces (checked_text true names (checks.Violated traces tuple proof))
    violated-good (says, evidence) short =
        evidence-good false (not (is_existential f.prefix)) ask traces tuple proof evidence
        (turned (is_existential f.prefix)) (λ e. sym e) deep short
      where
        turned : (b : Bool) → not b ≡ true → false ≡ b
        turned true e = e
        turned false e = refl
