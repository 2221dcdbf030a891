-- What a check by a strategy comes to: that it is what the code answers, that the work answers where nothing stands before
-- it, and that no two answers say other things.
use Rattle.std.proofs.Common.{◌≡◌, ◌*◌, ◌≤◌, ◌<◌, ◌⊎◌, ◌&&◌, nat_lt, nat_eq, ℕ, Bool, true, false, List, length, Ok, Err, inl, inr, refl, sym, ap, subst, ◌∙◌, true≢false, arith, eqb-true}
use Rattle.std.proofs.lemmas.Bool.{lt-ltb, ltb-true}
use Rattle.hy_base.specs.Limits.{most}
use Rattle.hy_base.specs.declared.limit.Kind.{Kind}
use Rattle.hy_base.specs.declared.limit.Kind.TheVariants as kinds
use Rattle.hy_base.specs.declared.limit.Limit.{Limit as Past}
use Rattle.hy_formula.specs.Atoms.{atoms_of}
use Rattle.hy_formula.specs.Classes.{behind, class_of}
use Rattle.hy_formula.specs.Formulas.{Plain}
use Rattle.hy_formula.specs.declared.classes.Class.{Class}
use Rattle.hy_formula.specs.declared.prefix.Quant.{Quant}
use Rattle.hy_formula.specs.declared.prefix.Quant.TheVariants as quant
use Rattle.aig_net.specs.Nets.{Net}
use Rattle.aig_net.specs.declared.signals.Signal.{Signal}
use Rattle.net_names.specs.Names.{IsFirstBad, name_at}
use Rattle.strat_compose.specs.Driving.{IsStrategy, name_count}
use Rattle.strat_compose.specs.Prefixes.{IsForallExists}
use Rattle.strat_compose.specs.Refusals.{AreShaped}
use Rattle.strat_compose.proofs.Prefixes.{counted, counts-are}
use Rattle.mc_core.specs.Evidence.{Denies}
use Rattle.mc_core.specs.declared.ask.Ask.{Ask}
use Rattle.mc_core.proofs.QueryLimits.{stopped_facts, stopped_paths}
use Rattle.mc_core.specs.declared.checked.Checked.{Checked}
use Rattle.mc_core.specs.declared.checked.Checked.TheVariants as checks
use Rattle.strat_core.specs.Answers.{IsOpen, IsStrategyAnswer, IsStrategyChecked, IsStrategyRefused}
use Rattle.strat_core.specs.Questions.{IsAsked, driven_members, driven_safe}
use Rattle.strat_core.specs.declared.checked.StrategyChecked.{StrategyChecked}
use Rattle.strat_core.specs.declared.refusal.StrategyError.TheVariants as errors
use Rattle.strat_core.proofs.Judging.{denied}
use Rattle.strat_core.proofs.Readings.{one-shape}
use Rattle.hy_run.specs.Classes.{is_forall_exists}
use Rattle.hy_run.specs.Laws.{AgreeOrShort}
use Rattle.hy_run.specs.declared.refusal.Refusal.{Refusal}
use Rattle.hy_run.specs.declared.refusal.Refusal.TheVariants.{Prefix, Limit, Own, Memory}
use Rattle.mc_tool.specs.Checking.{StandForOne}
use Rattle.mc_tool.specs.Driving.{DrivesBy, wins, fails, undecided, facts_stop, paths_stop, IsDrivable, IsDriveWork, IsDrive, untaken, misshapen, many_names, bad_name, large_closure, done, spent}
use Rattle.mc_tool.specs.Rules.{other_driving, Deny, IsOfDriving, mc_rules}
use Rattle.mc_tool.specs.declared.verdict.McFault.{McFault}
use Rattle.mc_tool.specs.declared.verdict.McFault.TheVariants.{Name, Strategy, CnfLimit}
use Rattle.mc_tool.proofs.Checking.{Said, equal, first_bad_once, none-bad, stand-for-one, unless_short}
use Rattle.mc_tool.proofs.Turns.{Turn, turn_once}

-- ---- prefixes

forall-exists : (prefix : List Quant) (m e : ℕ) → IsForallExists prefix m e → is_forall_exists prefix ≡ true
forall-exists prefix m e shape =
    let (some, more, last, a, b) = counts-are prefix m e shape in
    rw (lt-ltb (length (behind quant.Forall prefix)) (length prefix) some, lt-ltb 0 (length (behind quant.Forall prefix)) more, last) refl

not-forall-exists : (prefix : List Quant) → ((m e : ℕ) → ¬ IsForallExists prefix m e) → is_forall_exists prefix ≡ false
not-forall-exists prefix other =
    by (nat_lt (length rest) (length prefix)) (nat_lt 0 (length rest)) (nat_eq (length (behind quant.Exists rest)) 0) refl refl refl
  where
    rest : List Quant
    rest = behind quant.Forall prefix

    by : (a b c : Bool) → nat_lt (length rest) (length prefix) ≡ a → nat_lt 0 (length rest) ≡ b
        → nat_eq (length (behind quant.Exists rest)) 0 ≡ c → a && b && c ≡ false
    by false b c f g h = refl
    by true false c f g h = refl
    by true true false f g h = refl
    by true true true f g h =
        absurd (other _ _ (counted prefix (ltb-true (length rest) (length prefix) f) (ltb-true 0 (length rest) g) (eqb-true (length (behind quant.Exists rest)) 0 h)))

-- ---- what the check by a strategy says

module _ (net player : Net) (names : List (List ℕ)) (f : Plain) (ask : Ask) where
  pub drive-found : (c : StrategyChecked) (a : Said)
      → ((m e : ℕ) (signals own : List Signal) → IsStrategyChecked net player m e signals f.body own ask c → DrivesBy net player m e signals f own ask a)
      → IsStrategyAnswer net player f.prefix f.body names ask (Ok c) → IsDrive net player names f ask a
  drive-found c a by (m, e, signals, own, asked, put, is) =
      done a (record { m = m; e = e; signals = signals; own = own; asked = asked; put = put; comes = by m e signals own is })

  pub drive-prefix : (class : Class) → IsStrategyRefused net player f.prefix f.body names ask (errors.Prefix class)
      → IsDrive net player names f ask (Err (Prefix 1 class))
  drive-prefix class (other, is) = untaken class (sym is) (not-forall-exists f.prefix other)

  pub drive-shape : (inputs outputs : ℕ) → IsStrategyRefused net player f.prefix f.body names ask (errors.Shape inputs outputs)
      → IsDrive net player names f ask (Err (Own (Strategy inputs outputs)))
  drive-shape inputs outputs (m, e, prefix, other, ins, outs) = rw (ins, outs) (misshapen m e prefix other)

  pub drive-names : (limit : Past) → IsStrategyRefused net player f.prefix f.body names ask (errors.Names limit)
      → IsDrive net player names f ask (Err (Limit limit.kind limit.limit))
  drive-names limit (is, m, e, shaped, many) =
      let P : Past → Type 0 = λ l. IsDrive net player names f ask (Err (Limit l.kind l.limit)) in
      subst P (sym is) (many_names m e shaped many)

  pub drive-name : (name : ℕ) (twice : Bool) (r : Refusal McFault) → IsStrategyRefused net player f.prefix f.body names ask (errors.Name name twice)
      → (r ≡ Own (Name (name_at names name) twice)) ⊎ (r ≡ Memory) → IsDrive net player names f ask (Err r)
  drive-name name twice r (m, e, shaped, few, bad) (inl is) = rw is (bad_name m e shaped few name twice bad)
  drive-name name twice r refused (inr is) = rw is spent

  pub drive-closure : (limit : Past) → IsStrategyRefused net player f.prefix f.body names ask (errors.Closure limit)
      → IsDrive net player names f ask (Err (Limit limit.kind limit.limit))
  drive-closure limit (is, m, e, signals, asked, many) =
      let P : Past → Type 0 = λ l. IsDrive net player names f ask (Err (Limit l.kind l.limit)) in
      subst P (sym is) (large_closure m e signals asked many)

  pub drive-facts : (limit : Past) → IsStrategyRefused net player f.prefix f.body names ask (errors.Facts limit)
      → IsDrive net player names f ask (Err (Limit limit.kind limit.limit))
  drive-facts limit (m, e, signals, own, asked, put, stopped) =
      done _ (record { m = m; e = e; signals = signals; own = own; asked = asked; put = put; comes = facts_stop limit stopped })

  pub drive-paths : (kind : Kind) (limit : ℕ) (kept : _) → IsStrategyRefused net player f.prefix f.body names ask (errors.CnfLimit kind limit kept)
      → IsDrive net player names f ask (Err (Own (CnfLimit kind limit kept)))
  drive-paths kind limit kept (m, e, signals, own, asked, put, stopped) =
      done _ (record { m = m; e = e; signals = signals; own = own; asked = asked; put = put; comes = paths_stop kind limit kept stopped })

-- ---- two works

-- What no check decides denies nothing.
open_silent : (checked other : Checked) → IsOpen checked → ¬ Denies checked other
open_silent (checks.Holds traces runs proof) other is deny = is
open_silent (checks.Violated traces runs proof) other is deny = is
open_silent (checks.UnknownDepth depth kept path) other is deny = deny
open_silent (checks.UnknownConflicts conflicts k step kept log) other is deny = deny

module _ (net player : Net) (names : List (List ℕ)) (f : Plain) (ask : Ask) where
  -- Whether a check by a strategy found something or stopped, it answers as such checks do.
  of_driving : (m e : ℕ) (signals own : List Signal) (a : Said) → DrivesBy net player m e signals f own ask a → IsOfDriving a
  of_driving m e signals own _ (wins is) = tt
  of_driving m e signals own _ (fails traces runs is) = tt
  of_driving m e signals own _ (undecided checked is) = is.0
  of_driving m e signals own _ (facts_stop limit stopped) =
      stopped_facts (driven_safe net player m e signals f.body own) limit stopped.1
  of_driving m e signals own _ (paths_stop kind limit kept stopped) =
      stopped_paths (driven_safe net player m e signals f.body own) kept.inv ask.depth kind limit stopped.1

  no_denial : (m e n k : ℕ) (s t own other : List Signal) → IsAsked net player f.prefix f.body names m e s → IsAsked net player f.prefix f.body names n k t
      → (a b : Said) → DrivesBy net player m e s f own ask a → DrivesBy net player n k t f other ask b → ¬ Deny a b
  no_denial m e n k s t own other one two _ _ (wins is) (fails traces runs also) =
      λ deny. denied net player f.prefix f.body names m e n k s t traces runs one two is also
  no_denial m e n k s t own other one two _ _ (fails traces runs is) (wins also) =
      λ deny. denied net player f.prefix f.body names n k m e t s traces runs two one also is
  no_denial m e n k s t own other one two _ _ (wins is) (wins also) = λ deny. deny
  no_denial m e n k s t own other one two _ _ (wins is) (undecided checked also) = λ deny. deny
  no_denial m e n k s t own other one two _ _ (wins is) (facts_stop limit p) = λ deny. deny
  no_denial m e n k s t own other one two _ _ (wins is) (paths_stop kind limit kept p) = λ deny. deny
  no_denial m e n k s t own other one two _ _ (fails traces runs is) (fails others walks also) = λ deny. deny
  no_denial m e n k s t own other one two _ _ (fails traces runs is) (undecided checked also) = λ deny. deny
  no_denial m e n k s t own other one two _ _ (fails traces runs is) (facts_stop limit p) = λ deny. deny
  no_denial m e n k s t own other one two _ _ (fails traces runs is) (paths_stop kind limit kept p) = λ deny. deny
  no_denial m e n k s t own other one two _ _ (undecided checked is) (wins also) = λ deny. deny
  no_denial m e n k s t own other one two _ _ (undecided checked is) (fails others walks also) = λ deny. deny
  no_denial m e n k s t own other one two _ _ (undecided checked is) (undecided more also) = open_silent checked more is.0
  no_denial m e n k s t own other one two _ _ (undecided checked is) (facts_stop limit p) = λ deny. deny
  no_denial m e n k s t own other one two _ _ (undecided checked is) (paths_stop kind limit kept p) = λ deny. deny
  no_denial m e n k s t own other one two _ _ (facts_stop limit p) b = λ deny. deny
  no_denial m e n k s t own other one two _ _ (paths_stop kind limit kept p) b = λ deny. deny

  one_work : (a b : Said) → IsDriveWork net player names f ask a → IsDriveWork net player names f ask b → AgreeOrShort mc_rules a b
  one_work a b one two =
      inr (inr (other_driving a b (of_driving one.m one.e one.signals one.own a one.comes) (of_driving two.m two.e two.signals two.own b two.comes)
      (no_denial one.m one.e two.m two.e one.signals two.signals one.own two.own one.asked two.asked a b one.comes two.comes)))

-- ---- one check

module _ (net player : Net) (names : List (List ℕ)) (f : Plain) (ask : Ask) where
  -- ---- its causes, in turn

  abbrev IsUntaken : Said → Type 0
  IsUntaken a = (class : Class) × (class_of f.prefix ≡ class) × (is_forall_exists f.prefix ≡ false) × (a ≡ Err (Prefix 1 class))

  abbrev IsTaken : Type 0
  IsTaken = is_forall_exists f.prefix ≡ true

  abbrev IsMisshapen : Said → Type 0
  IsMisshapen a =
      (m e : ℕ) × IsForallExists f.prefix m e × (¬ IsStrategy net player m e) × (a ≡ Err (Own (Strategy (net.inputs * m) (net.inputs * e))))

  abbrev IsShaped : Type 0
  IsShaped = (m e : ℕ) × AreShaped net player f.prefix m e

  abbrev HasManyNames : Said → Type 0
  HasManyNames a =
      (m e : ℕ) × AreShaped net player f.prefix m e × (most kinds.StrategyNames < name_count net e (atoms_of f.body))
      × (a ≡ Err (Limit kinds.StrategyNames (most kinds.StrategyNames)))

  abbrev HasFewNames : Type 0
  HasFewNames = (m e : ℕ) × AreShaped net player f.prefix m e × (name_count net e (atoms_of f.body) ≤ most kinds.StrategyNames)

  abbrev IsMisnamed : Said → Type 0
  IsMisnamed a = (name : ℕ) × (twice : Bool) × IsFirstBad net names f.body name twice × (a ≡ Err (Own (Name (name_at names name) twice)))

  abbrev IsLarge : Said → Type 0
  IsLarge a =
      (m e : ℕ) × AreShaped net player f.prefix m e × (most kinds.Closure < driven_members net e f.body)
      × (a ≡ Err (Limit kinds.Closure (most kinds.Closure)))

  abbrev IsFew : Type 0
  IsFew = (m e : ℕ) × AreShaped net player f.prefix m e × (driven_members net e f.body ≤ most kinds.Closure)

  abbrev Members : Said → Type 0
  Members = Turn IsLarge IsFew (IsDriveWork net player names f ask)

  abbrev Names : Said → Type 0
  Names = Turn IsMisnamed (StandForOne net names f.body) Members

  abbrev Counts : Said → Type 0
  Counts = Turn HasManyNames HasFewNames Names

  abbrev Shapes : Said → Type 0
  Shapes = Turn IsMisshapen IsShaped Counts

  abbrev InTurn : Said → Type 0
  InTurn = Turn IsUntaken IsTaken Shapes

  behind_shape : (m e : ℕ) → AreShaped net player f.prefix m e → (a : Said) → Counts a → (a ≡ Err Memory) ⊎ InTurn a
  behind_shape m e shaped a rest = inr (inr (forall-exists f.prefix m e shaped.prefix_is, inr ((m, e, shaped), rest)))

  behind_names : (m e : ℕ) (signals : List Signal) → IsAsked net player f.prefix f.body names m e signals → (a : Said) → Members a
      → (a ≡ Err Memory) ⊎ InTurn a
  behind_names m e signals asked a rest =
      behind_shape m e asked.shaped a (inr ((m, e, asked.shaped, asked.few), inr (stand-for-one net names f.body signals asked.named, rest)))

  in_turn : (a : Said) → IsDrive net player names f ask a → (a ≡ Err Memory) ⊎ InTurn a
  in_turn _ (untaken class is other) = inr (inl (class, is, other, refl))
  in_turn _ (misshapen m e prefix other) = inr (inr (forall-exists f.prefix m e prefix, inl (m, e, prefix, other, refl)))
  in_turn _ (many_names m e shaped many) = behind_shape m e shaped _ (inl (m, e, shaped, many, refl))
  in_turn _ (bad_name m e shaped few name twice bad) =
      behind_shape m e shaped _ (inr ((m, e, shaped, few), inl (name, twice, bad, refl)))
  in_turn _ (large_closure m e signals asked many) = behind_names m e signals asked _ (inl (m, e, asked.shaped, many, refl))
  in_turn a (done _ work) =
      behind_names work.m work.e work.signals work.asked a (inr ((work.m, work.e, work.asked.shaped, work.put.few), work))
  in_turn _ spent = inl refl

  -- ---- the work answers where nothing stands before it

  one_prefix : (m e n k : ℕ) → IsForallExists f.prefix m e → IsForallExists f.prefix n k → (m ≡ n) × (e ≡ k)
  one_prefix = one-shape f.prefix

  untaken_or_taken : (a : Said) → IsUntaken a → ¬ IsTaken
  untaken_or_taken a (class, is, other, answered) taken = true≢false (sym taken ∙ other)

  misshapen_or_shaped : (a : Said) → IsMisshapen a → ¬ IsShaped
  misshapen_or_shaped a (m, e, prefix, other, answered) (n, k, shaped) =
      let (ms, es) = one_prefix n k m e shaped.prefix_is prefix in
      let P : ℕ → Type 0 = λ x. IsStrategy net player x k in
      let Q : ℕ → Type 0 = λ x. IsStrategy net player m x in
      other (subst Q es (subst P ms shaped.strategy_is))

  -- What is counted for one number of existential quantifiers is counted for the other.
  one_count : (count : ℕ → ℕ) (most m e n k : ℕ) → IsForallExists f.prefix m e → IsForallExists f.prefix n k → most < count e → ¬ (count k ≤ most)
  one_count count most m e n k one two many few =
      let is : count e ≡ count k = ap count (one_prefix m e n k one two).1 in omega (arith, many, few, is)

  many_or_few_names : (a : Said) → HasManyNames a → ¬ HasFewNames
  many_or_few_names a (m, e, shaped, many, answered) (n, k, also, few) =
      one_count (λ e. name_count net e (atoms_of f.body)) (most kinds.StrategyNames) m e n k shaped.prefix_is also.prefix_is many few

  misnamed_or_named : (a : Said) → IsMisnamed a → ¬ StandForOne net names f.body
  misnamed_or_named a (name, twice, bad, answered) stand = none-bad net names f.body stand name twice bad

  large_or_few : (a : Said) → IsLarge a → ¬ IsFew
  large_or_few a (m, e, shaped, many, answered) (n, k, also, few) =
      one_count (λ e. driven_members net e f.body) (most kinds.Closure) m e n k shaped.prefix_is also.prefix_is many few

  works : IsDrivable net player names f → (a : Said) → InTurn a → IsDriveWork net player names f ask a
  works ready a (inl met) =
      absurd (untaken_or_taken a met (forall-exists f.prefix ready.m ready.e ready.shaped.prefix_is))
  works ready a (inr (taken, inl met)) = absurd (misshapen_or_shaped a met (ready.m, ready.e, ready.shaped))
  works ready a (inr (taken, inr (shaped, inl met))) =
      absurd (many_or_few_names a met (ready.m, ready.e, ready.shaped, ready.few_names))
  works ready a (inr (taken, inr (shaped, inr (few, inl met)))) = absurd (misnamed_or_named a met ready.named)
  works ready a (inr (taken, inr (shaped, inr (few, inr (stand, inl met))))) =
      absurd (large_or_few a met (ready.m, ready.e, ready.shaped, ready.few_members))
  works ready a (inr (taken, inr (shaped, inr (few, inr (stand, inr (small, work)))))) = work

  pub drive_works : (a : Said) → IsDrivable net player names f → IsDrive net player names f ask a
      → (a ≡ Err Memory) ⊎ IsDriveWork net player names f ask a
  drive_works a ready is = elim (in_turn a is) [ inl short ↦ inl short | inr turn ↦ inr (works ready a turn) ]

  -- ---- two checks

  one_untaken : (a b : Said) → IsUntaken a → IsUntaken b → AgreeOrShort mc_rules a b
  one_untaken a b (class, is, other, one) (more, also, none, two) =
      let alike : class ≡ more = sym is ∙ also in equal a b (one ∙ ap (λ c. Err (Prefix 1 c)) alike ∙ sym two)

  one_misshapen : (a b : Said) → IsMisshapen a → IsMisshapen b → AgreeOrShort mc_rules a b
  one_misshapen a b (m, e, prefix, other, one) (n, k, also, none, two) =
      let (ms, es) = one_prefix m e n k prefix also in
      equal a b (one ∙ (λ i. Err (Own (Strategy (net.inputs * ms i) (net.inputs * es i)))) ∙ sym two)

  one_many : (a b : Said) → HasManyNames a → HasManyNames b → AgreeOrShort mc_rules a b
  one_many a b (m, e, shaped, many, one) (n, k, also, more, two) = equal a b (one ∙ sym two)

  one_misnamed : (a b : Said) → IsMisnamed a → IsMisnamed b → AgreeOrShort mc_rules a b
  one_misnamed a b (j, x, bad, one) (k, y, also, two) =
      let (name, twice) = first_bad_once net names f.body j k x y bad also in
      equal a b (one ∙ (λ i. Err (Own (Name (name_at names (name i)) (twice i)))) ∙ sym two)

  one_large : (a b : Said) → IsLarge a → IsLarge b → AgreeOrShort mc_rules a b
  one_large a b (m, e, shaped, many, one) (n, k, also, more, two) = equal a b (one ∙ sym two)

  one_turn : (a b : Said) → InTurn a → InTurn b → AgreeOrShort mc_rules a b
  one_turn =
      let R : Said → Said → Type 0 = AgreeOrShort mc_rules in
      let Work : Said → Type 0 = IsDriveWork net player names f ask in
      let members = turn_once IsLarge IsFew Work R one_large large_or_few (λ few. one_work net player names f ask) in
      let found = turn_once IsMisnamed (StandForOne net names f.body) Members R one_misnamed misnamed_or_named (λ stand. members) in
      let counts = turn_once HasManyNames HasFewNames Names R one_many many_or_few_names (λ few. found) in
      let shapes = turn_once IsMisshapen IsShaped Counts R one_misshapen misshapen_or_shaped (λ shaped. counts) in
      turn_once IsUntaken IsTaken Shapes R one_untaken untaken_or_taken (λ taken. shapes)

  pub drives_agree : (a b : Said) → IsDrive net player names f ask a → IsDrive net player names f ask b → AgreeOrShort mc_rules a b
  drives_agree a b one two = unless_short a b (one_turn a b) (in_turn a one) (in_turn b two)
