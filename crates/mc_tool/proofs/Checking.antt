-- What a check comes to: that it is what the code answers, that the work answers where nothing stands before it, and that
-- no two answers say other things.
use Rattle.std.proofs.Common.{◌≡◌, ◌≤◌, ◌<◌, ◌⊎◌, ℕ, Bool, true, false, List, [], ◌∷◌, length, map, Ok, Err, inl, inr, refl, sym, ap, subst, ◌∙◌, cond, ◌&&◌, nat_eq, Some, is_some, true≢false, eqb-true, arith}
use Rattle.std.specs.Bool.{IsTrue}
use Rattle.std.specs.List.{Contains}
use Rattle.std.proofs.lemmas.Bool.{cases_lt}
use Rattle.std.proofs.lemmas.List.{length-map}
use Rattle.hy_base.specs.Limits.{most}
use Rattle.hy_base.specs.declared.limit.Kind.{Kind}
use Rattle.hy_base.specs.declared.limit.Kind.TheVariants as kinds
use Rattle.hy_base.specs.declared.limit.Limit.{Limit as Past}
use Rattle.hy_base.proofs.Members.{contains-here, contains-later}
use Rattle.hy_formula.specs.Classes.{class_of}
use Rattle.hy_formula.specs.Formulas.{Plain}
use Rattle.hy_formula.specs.Trees.{Tree}
use Rattle.hy_formula.specs.declared.classes.Class.{Class}
use Rattle.hy_formula.specs.declared.classes.Class.TheVariants as classes
use Rattle.hy_read.specs.Answers.{plain_of}
use Rattle.hy_read.specs.Grammar.{Read}
use Rattle.hy_read.specs.Results.{largest}
use Rattle.hy_read.proofs.ReadFormulas.{taken_of}
use Rattle.hy_files.specs.Contents.{IsFormula}
use Rattle.aig_net.specs.Nets.{Net}
use Rattle.aig_net.specs.Signals.{has_signal, literal_of}
use Rattle.aig_net.specs.declared.signals.Signal.{Signal}
use Rattle.net_names.specs.Names.{AreSignals, IsBadName, IsFirstBad, IsOnly, name_at}
use Rattle.formula_nets.specs.Posed.{checked_safe, members}
use Rattle.formula_nets.proofs.SameSignals.{same-satisfaction}
use Rattle.live_safe.specs.declared.safe_net.SafeNet.{SafeNet}
use Rattle.mc_core.specs.Answers.{IsAnswer, IsChecked, IsRefused as IsUnchecked}
use Rattle.mc_core.specs.Evidence.{Denies}
use Rattle.mc_core.specs.declared.ask.Ask.{Ask}
use Rattle.mc_core.proofs.QueryLimits.{stopped_facts, stopped_paths}
use Rattle.mc_core.specs.declared.checked.Checked.{Checked}
use Rattle.mc_core.specs.declared.checked.Checked.TheVariants as checked
use Rattle.mc_core.specs.declared.mc_error.McError.{McError}
use Rattle.mc_core.specs.declared.mc_error.McError.TheVariants as errors
use Rattle.hy_run.specs.Classes.{is_of_one_kind}
use Rattle.hy_run.specs.Laws.{AgreeOrShort}
use Rattle.hy_run.specs.Runs.{Answer}
use Rattle.hy_run.specs.declared.refusal.Refusal.{Refusal}
use Rattle.hy_run.specs.declared.refusal.Refusal.TheVariants.{Prefix, Limit, Own, Memory}
use Rattle.mc_tool.specs.Checking.{ComesBy, found, facts_stop, paths_stop, IsCheck, untaken, large_closure, bad_name, done, spent, IsCheckable, IsWork, StandForOne}
use Rattle.mc_tool.specs.Rules.{Agree, same, other_check, Deny, IsOfCheck, mc_rules}
use Rattle.mc_tool.specs.declared.verdict.McFault.{McFault}
use Rattle.mc_tool.specs.declared.verdict.McFault.TheVariants.{Name, CnfLimit}
use Rattle.mc_tool.specs.declared.verdict.McVerdict.{McVerdict}
use Rattle.mc_tool.specs.declared.verdict.McVerdict.TheVariants as verdicts
use Rattle.mc_tool.proofs.Turns.{Turn, turn_once}

abbrev pub Said : Type 0
Said = Answer McVerdict McFault

-- ---- formulas that were read

few-read : (reads : List Read) (f : Plain) → f ∷ [] ≡ map plain_of reads → largest (map (λ (r : Read). length r.quantifiers) reads) ≤ 4 → length f.prefix ≤ 4
few-read [] f e le = absurd cc
few-read (r ∷ reads) f e le = let is : f ≡ plain_of r = cc in rw is (rw length-map (omega (arith, le)))

-- A formula that was read as one of at most four quantifiers has no more.
pub few_quantifiers : (old : List (List ℕ)) (bytes : List ℕ) (f : Plain) (new : List (List ℕ)) → IsFormula 4 old bytes f new → length f.prefix ≤ 4
few_quantifiers old bytes f new is =
    let taken = taken_of false 4 old bytes (f ∷ []) new is in few-read taken.reads f taken.formulas_are taken.few.1.0

-- ---- what the check says

taken-kind : (c : Class) → (c ≡ classes.Exists) ⊎ (c ≡ classes.Forall) → is_of_one_kind c ≡ true
taken-kind c (inl e) = ap is_of_one_kind e
taken-kind c (inr e) = ap is_of_one_kind e

untaken-kind : (c : Class) → ¬ ((c ≡ classes.Exists) ⊎ (c ≡ classes.Forall)) → is_of_one_kind c ≡ false
untaken-kind classes.Exists other = absurd (other (inl refl))
untaken-kind classes.Forall other = absurd (other (inr refl))
untaken-kind classes.ExistsForall other = refl
untaken-kind classes.Other other = refl

module _ (net : Net) (names : List (List ℕ)) (f : Plain) (ask : Ask) where
  pub check-found : (c : Checked) → IsAnswer net names f.prefix f.body ask (Ok c) → IsCheck net names f ask (Ok (verdicts.Checked c))
  check-found c (signals, posed, is) =
      done (Ok (verdicts.Checked c)) (taken-kind (class_of f.prefix) posed.taken) (signals, posed, found c is)

  pub check-prefix : (c : Class) → IsUnchecked net names f.prefix f.body ask (errors.Prefix c) → IsCheck net names f ask (Err (Prefix 1 c))
  check-prefix c (e, other) = untaken c (sym e) (ap is_of_one_kind e ∙ untaken-kind (class_of f.prefix) other)

  pub check-limit : (limit : Past) → IsUnchecked net names f.prefix f.body ask (errors.Limit limit) → IsCheck net names f ask (Err (Limit limit.kind limit.limit))
  check-limit limit (inl (taken, (many, kind, number))) =
      rw (kind, number) (large_closure (taken-kind (class_of f.prefix) taken) many)
  check-limit limit (inr (signals, posed, (facts, stopped))) =
      done _ (taken-kind (class_of f.prefix) posed.taken) (signals, posed, facts_stop limit facts stopped)

  pub check-cnf : (error : McError) (kind : _) (limit : ℕ) (kept : _) → error ≡ errors.CnfLimit kind limit kept → IsUnchecked net names f.prefix f.body ask error
      → IsCheck net names f ask (Err (Own (CnfLimit kind limit kept)))
  check-cnf error kind limit kept e is =
      let P : McError → Type 0 = λ x. IsUnchecked net names f.prefix f.body ask x in
      let (signals, posed, (keeps, stopped)) = subst P e is in
      done _ (taken-kind (class_of f.prefix) posed.taken) (signals, posed, paths_stop kind limit kept keeps stopped)

  pub check-name : (name : ℕ) (twice : Bool) (r : Refusal McFault) → IsUnchecked net names f.prefix f.body ask (errors.Name name twice)
      → (r ≡ Own (Name (name_at names name) twice)) ⊎ (r ≡ Memory) → IsCheck net names f ask (Err r)
  check-name name twice r (taken, few, bad) (inl is) = rw is (bad_name (taken-kind (class_of f.prefix) taken) few name twice bad)
  check-name name twice r refused (inr is) = rw is spent

-- ---- names

signal-there : (signals : List Signal) (name : ℕ) → IsTrue (has_signal signals name 0) → (s : Signal) × Contains signals s × (s.name ≡ name)
signal-there [] name there = absurd (true≢false (sym there))
signal-there (s ∷ signals) name there = by (nat_eq s.name name) (nat_eq s.var 0) refl there (signal-there signals name)
  where
    by : (a b : Bool) → nat_eq s.name name ≡ a → IsTrue (is_some (cond (a && b) (Some s.literal) (literal_of signals name 0)))
        → (IsTrue (has_signal signals name 0) → (r : Signal) × Contains signals r × (r.name ≡ name)) → (r : Signal) × Contains (s ∷ signals) r × (r.name ≡ name)
    by true true e known behind = (s, contains-here s signals, eqb-true s.name name e)
    by true false e known behind = let (r, more, is) = behind known in (r, contains-later s r signals more, is)
    by false b e known behind = let (r, more, is) = behind known in (r, contains-later s r signals more, is)

module _ (net : Net) (names : List (List ℕ)) (body : Tree) where
  -- Where signals stand for the names of a body, each of these stands for one literal.
  pub stand-for-one : (signals : List Signal) → AreSignals net names body signals → StandForOne net names body
  stand-for-one signals are name there =
      let (s, among, is) = signal-there signals name (are.every name there) in
      let P : ℕ → Type 0 = λ n. IsOnly net (name_at names n) s.literal in
      (s.literal, subst P is (are.each s among).1)

  -- A name that stands for one literal is not bad.
  only-not-bad : (name : List ℕ) (l : ℕ) (twice : Bool) → IsOnly net name l → ¬ IsBadName net name twice
  only-not-bad name l false only bad = bad l only.has
  only-not-bad name l true only (m, n, one, two, other) = other (only.only m one ∙ sym (only.only n two))

  pub none-bad : StandForOne net names body → (name : ℕ) (twice : Bool) → ¬ IsFirstBad net names body name twice
  none-bad stand name twice bad = let (l, only) = stand name bad.there in only-not-bad (name_at names name) l twice only bad.bad

  bad_once : (name : List ℕ) (a b : Bool) → IsBadName net name a → IsBadName net name b → a ≡ b
  bad_once name false false one two = refl
  bad_once name true true one two = refl
  bad_once name false true one (l, m, has, also, other) = absurd (one l has)
  bad_once name true false (l, m, has, also, other) two = absurd (two l has)

  -- One name is the first bad one.
  pub first_bad_once : (j k : ℕ) (a b : Bool) → IsFirstBad net names body j a → IsFirstBad net names body k b → (j ≡ k) × (a ≡ b)
  first_bad_once j k a b one two =
      let is : j ≡ k = elim (cases_lt j k) [
        | inl lt ↦ let (l, only) = two.first j lt one.there in absurd (only-not-bad (name_at names j) l a only one.bad)
        | inr from ↦
            elim (cases_lt k j) [
              | inl lt ↦ let (l, only) = one.first k lt two.there in absurd (only-not-bad (name_at names k) l b only two.bad)
              | inr to ↦ omega arith
            ]
      ] in
      let P : ℕ → Type 0 = λ n. IsBadName net (name_at names n) a in
      (is, bad_once (name_at names k) a b (subst P is one.bad) two.bad)

-- ---- two works

module _ (net : Net) (names : List (List ℕ)) (f : Plain) (ask : Ask) (s t : List Signal) (one : AreSignals net names f.body s) (two : AreSignals net names f.body t) where
  not_denied : (c d : Checked) → IsChecked net s f.prefix f.body ask c → IsChecked net t f.prefix f.body ask d → ¬ Denies c d
  not_denied (checked.Holds traces runs proof) (checked.Violated others walks evidence) is also deny = also.0 (same-satisfaction net names f.prefix f.body s t one two is.0)
  not_denied (checked.Violated traces runs proof) (checked.Holds others walks evidence) is also deny = is.0 (same-satisfaction net names f.prefix f.body t s two one also.0)
  not_denied (checked.Holds traces runs proof) (checked.Holds others walks evidence) is also deny = deny
  not_denied (checked.Holds traces runs proof) (checked.UnknownDepth depth kept path) is also deny = deny
  not_denied (checked.Holds traces runs proof) (checked.UnknownConflicts conflicts k step kept log) is also deny = deny
  not_denied (checked.Violated traces runs proof) (checked.Violated others walks evidence) is also deny = deny
  not_denied (checked.Violated traces runs proof) (checked.UnknownDepth depth kept path) is also deny = deny
  not_denied (checked.Violated traces runs proof) (checked.UnknownConflicts conflicts k step kept log) is also deny = deny
  not_denied (checked.UnknownDepth depth kept path) d is also deny = deny
  not_denied (checked.UnknownConflicts conflicts k step kept log) d is also deny = deny

  -- Whether a check found something or stopped, it answers as checks do.
  of_check : (r : List Signal) (a : Said) → ComesBy net r f ask a → IsOfCheck a
  of_check r _ (found c is) = tt
  of_check r _ (facts_stop limit plain stopped) = stopped_facts (checked_safe net r f.prefix f.body) limit stopped
  of_check r _ (paths_stop kind limit kept keeps stopped) =
      stopped_paths (checked_safe net r f.prefix f.body) kept.inv ask.depth kind limit stopped

  no_denial : (a b : Said) → ComesBy net s f ask a → ComesBy net t f ask b → ¬ Deny a b
  no_denial _ _ (found c is) (found d also) = not_denied c d is also
  no_denial _ _ (found c is) (facts_stop limit p q) = λ deny. deny
  no_denial _ _ (found c is) (paths_stop kind limit kept p q) = λ deny. deny
  no_denial _ _ (facts_stop limit p q) other = λ deny. deny
  no_denial _ _ (paths_stop kind limit kept p q) other = λ deny. deny

  comes_agree : (a b : Said) → ComesBy net s f ask a → ComesBy net t f ask b → Agree a b
  comes_agree a b first second = other_check a b (of_check s a first) (of_check t b second) (no_denial a b first second)

-- ---- one check

pub equal : (a b : Said) → a ≡ b → AgreeOrShort mc_rules a b
equal a b e = inr (inr (subst (Agree a) e (same a)))

-- What is not want of memory agrees as it does.
pub unless_short : {P Q : Type 0} (a b : Said) → (P → Q → AgreeOrShort mc_rules a b) → (a ≡ Err Memory) ⊎ P → (b ≡ Err Memory) ⊎ Q → AgreeOrShort mc_rules a b
unless_short a b agree (inl short) two = inl short
unless_short a b agree (inr one) (inl short) = inr (inl short)
unless_short a b agree (inr one) (inr two) = agree one two

module _ (net : Net) (names : List (List ℕ)) (f : Plain) (ask : Ask) where
  -- ---- its causes, in turn

  abbrev IsUntaken : Said → Type 0
  IsUntaken a = (class : Class) × (class_of f.prefix ≡ class) × (is_of_one_kind class ≡ false) × (a ≡ Err (Prefix 1 class))

  abbrev IsTaken : Type 0
  IsTaken = is_of_one_kind (class_of f.prefix) ≡ true

  abbrev IsLarge : Said → Type 0
  IsLarge a = (most kinds.Closure < members f.prefix f.body) × (a ≡ Err (Limit kinds.Closure (most kinds.Closure)))

  abbrev IsFew : Type 0
  IsFew = members f.prefix f.body ≤ most kinds.Closure

  abbrev IsMisnamed : Said → Type 0
  IsMisnamed a = (name : ℕ) × (twice : Bool) × IsFirstBad net names f.body name twice × (a ≡ Err (Own (Name (name_at names name) twice)))

  abbrev Names : Said → Type 0
  Names = Turn IsMisnamed (StandForOne net names f.body) (IsWork net names f ask)

  abbrev Counts : Said → Type 0
  Counts = Turn IsLarge IsFew Names

  abbrev InTurn : Said → Type 0
  InTurn = Turn IsUntaken IsTaken Counts

  in_turn : (a : Said) → IsCheck net names f ask a → (a ≡ Err Memory) ⊎ InTurn a
  in_turn _ (untaken class is other) = inr (inl (class, is, other, refl))
  in_turn _ (large_closure taken many) = inr (inr (taken, inl (many, refl)))
  in_turn _ (bad_name taken few name twice bad) = inr (inr (taken, inr (few, inl (name, twice, bad, refl))))
  in_turn a (done _ taken (signals, posed, comes)) =
      inr (inr (taken, inr (posed.few, inr (stand-for-one net names f.body signals posed.signals_are, (signals, posed, comes)))))
  in_turn _ spent = inl refl

  -- ---- the work answers where nothing stands before it

  untaken_or_taken : (a : Said) → IsUntaken a → ¬ IsTaken
  untaken_or_taken a (class, is, other, answered) taken = true≢false (sym taken ∙ ap is_of_one_kind is ∙ other)

  large_or_few : (a : Said) → IsLarge a → ¬ IsFew
  large_or_few a (many, answered) few = omega (arith, many, few)

  misnamed_or_named : (a : Said) → IsMisnamed a → ¬ StandForOne net names f.body
  misnamed_or_named a (name, twice, bad, answered) stand = none-bad net names f.body stand name twice bad

  works : IsCheckable net names f → (a : Said) → InTurn a → IsWork net names f ask a
  works ready a (inl met) = absurd (untaken_or_taken a met ready.taken)
  works ready a (inr (taken, inl met)) = absurd (large_or_few a met ready.few)
  works ready a (inr (taken, inr (few, inl met))) = absurd (misnamed_or_named a met ready.named)
  works ready a (inr (taken, inr (few, inr (stand, work)))) = work

  pub check_works : (a : Said) → IsCheckable net names f → IsCheck net names f ask a → (a ≡ Err Memory) ⊎ IsWork net names f ask a
  check_works a ready is = elim (in_turn a is) [ inl short ↦ inl short | inr turn ↦ inr (works ready a turn) ]

  -- ---- two checks

  one_untaken : (a b : Said) → IsUntaken a → IsUntaken b → AgreeOrShort mc_rules a b
  one_untaken a b (class, is, other, one) (more, also, none, two) =
      let alike : class ≡ more = sym is ∙ also in equal a b (one ∙ ap (λ c. Err (Prefix 1 c)) alike ∙ sym two)

  one_large : (a b : Said) → IsLarge a → IsLarge b → AgreeOrShort mc_rules a b
  one_large a b (many, one) (more, two) = equal a b (one ∙ sym two)

  one_misnamed : (a b : Said) → IsMisnamed a → IsMisnamed b → AgreeOrShort mc_rules a b
  one_misnamed a b (j, x, bad, one) (k, y, also, two) =
      let (name, twice) = first_bad_once net names f.body j k x y bad also in
      equal a b (one ∙ (λ i. Err (Own (Name (name_at names (name i)) (twice i)))) ∙ sym two)

  one_work : (a b : Said) → IsWork net names f ask a → IsWork net names f ask b → AgreeOrShort mc_rules a b
  one_work a b (s, posed, one) (t, also, two) =
      inr (inr (comes_agree net names f ask s t posed.signals_are also.signals_are a b one two))

  one_turn : (a b : Said) → InTurn a → InTurn b → AgreeOrShort mc_rules a b
  one_turn =
      let R : Said → Said → Type 0 = AgreeOrShort mc_rules in
      let names_once = turn_once IsMisnamed (StandForOne net names f.body) (IsWork net names f ask) R one_misnamed misnamed_or_named (λ stand. one_work) in
      let counts_once = turn_once IsLarge IsFew Names R one_large large_or_few (λ few. names_once) in
      turn_once IsUntaken IsTaken Counts R one_untaken untaken_or_taken (λ taken. counts_once)

  pub checks_agree : (a b : Said) → IsCheck net names f ask a → IsCheck net names f ask b → AgreeOrShort mc_rules a b
  checks_agree a b one two = unless_short a b (one_turn a b) (in_turn a one) (in_turn b two)
