-- Formulas that were read keep to their limits, and what is said of them as formulas is said of what they mean.
use Rattle.std.proofs.Common.{◌≡◌, ℕ, zero, suc, ◌≤◌, Bool, true, false, List, [], ◌∷◌, length, map, Some, None, Err, nat_lt, if◌then◌else◌, All, inl, inr, refl, ap, sym, subst, arith}
use Rattle.std.proofs.lemmas.Bool.Decides.{nat_tests}
use Rattle.std.proofs.lemmas.List.{length-map}
use Rattle.hy_base.specs.Limits.{most as most_of}
use Rattle.hy_base.specs.declared.limit.Kind.{Kind}
use Rattle.hy_base.specs.declared.limit.Kind.TheVariants as kinds
use Rattle.hy_base.proofs.Members.{contains-here, contains-later}
use Rattle.hy_formula.specs.declared.formula.Formula.{Formula}
use Rattle.hy_formula.specs.Classes.{class_of}
use Rattle.hy_formula.specs.declared.classes.Class.{Class}
use Rattle.hy_formula.specs.declared.classes.Class.TheVariants as classes
use Rattle.hy_formula.specs.Quantifiers.{Each}
use Rattle.hy_formula.specs.Trees.{Tree}
use Rattle.hy_finite.specs.declared.event.Placed.{Placed}
use Rattle.hy_finite.specs.declared.lengths.Lengths.{Lengths}
use Rattle.hy_formula.specs.Formulas.{Plain}
use Rattle.hy_read.specs.Answers.{Answers, read_as, plain_of, tokens_of, located}
use Rattle.hy_read.specs.Scanning.{Span}
use Rattle.hy_read.specs.Tokens.{Token}
use Rattle.hy_formula.specs.Formulas.{plain_formula, plain_formulas}
use Rattle.hy_read.specs.Grammar.{Read}
use Rattle.hy_read.specs.Results.{Count, specs, quantifiers, parens, heights, names, in_order, largest, most, count_of, first_past, Result, fault, unbound, past, taken, Reads}
use Rattle.fin_monitor.specs.Limits.{HasLargeClosure, HasSmallClosure, HasManyAtoms, HasFewAtoms, HasLargeTable, IsTaken}
use Rattle.rv_core.specs.Built.{HasFewQuantifiers, IsUniversal, SomeBody, EachBody, FirstOther, IsNewRefusal, IsTooLarge, spec_of_formula}
use Rattle.rv_core.specs.Built.{AreUniversal as AllUniversal}
use Rattle.rv_core.specs.Endings.{Spec}
use Rattle.rv_core.specs.declared.rv_error.RvNewError.{RvNewError}
use Rattle.rv_core.specs.declared.rv_error.RvNewError.TheVariants as new_errors
use Rattle.hy_run.specs.Classes.{by_class, is_universal, FirstUntaken}
use Rattle.hy_run.specs.declared.refusal.Refusal.TheVariants.{Prefix, Limit}
use Rattle.rv_tool.specs.Refused.{new_refused}
use Rattle.rv_tool.specs.Monitoring.{RvAnswer, AreTooLarge, AreUniversal, SomePlain, EachPlain, EventsCome, IsOutcome, untaken, too_large, done, spent, specs_of}
use Rattle.rv_tool.specs.Watching.{OrMemory}

-- ---- how many quantifiers and formulas there are

module _ (limit count : Count → ℕ) where
  not-past : (c : Count) (cs : List Count) → first_past limit count (c ∷ cs) ≡ None
      → (count c ≤ limit c) × (first_past limit count cs ≡ None)
  not-past c cs e = by-test (nat_lt (limit c) (count c)) refl e
    where
      by-test : (b : Bool) → nat_lt (limit c) (count c) ≡ b → (if b then Some c else first_past limit count cs) ≡ None
          → (count c ≤ limit c) × (first_past limit count cs ≡ None)
      by-test true t none = absurd (cc)
      by-test false t none = (grind (arith, nat_tests), none)

  none-past : first_past limit count in_order ≡ None → (count specs ≤ limit specs) × (count quantifiers ≤ limit quantifiers)
  none-past e =
      let (few, later) = not-past specs (quantifiers ∷ parens ∷ heights ∷ names ∷ []) e in
      (few, (not-past quantifiers (parens ∷ heights ∷ names ∷ []) later).0)

each-largest : (n : ℕ) (formulas : List Read) → largest (map (λ (f : Read). length f.quantifiers) formulas) ≤ n
    → Each (λ (f : Plain). length f.prefix ≤ n) (map plain_of formulas)
each-largest n [] le = tt
each-largest n (f ∷ formulas) le =
    (rw length-map (omega (arith, le)), each-largest n formulas (omega (arith, le)))

module _ (many : Bool) (limit : ℕ) (old : List (List ℕ)) (bytes : List ℕ) (formulas : List Plain) (new : List (List ℕ)) where
  as-read : (result : Result) (tokens : List Token) → Reads many limit old tokens result → (at : List Span)
      → read_as formulas new ≡ located limit bytes at result
      → (length formulas ≤ 16) × Each (λ (f : Plain). length f.prefix ≤ limit) formulas
  as-read (fault k) tokens reads at e = absurd (cc)
  as-read (unbound k) tokens reads at e = absurd (cc)
  as-read (past c) tokens reads at e = absurd (cc)
  as-read (taken fs all_names) tokens (are, within, known) at e =
      let same : formulas ≡ map plain_of fs = cc in
      let (few, short) = none-past (most limit) (count_of old tokens fs) within in
      (rw same (rw length-map few), rw same (each-largest limit fs short))

  -- Formulas that were read are at most sixteen, and have at most so many quantifiers.
  pub read-few : Answers many limit old bytes (read_as formulas new)
      → (length formulas ≤ 16) × Each (λ (f : Plain). length f.prefix ≤ limit) formulas
  read-few answer = as-read answer.result (tokens_of answer.spans) answer.reads answer.spans answer.is

pub few-quantifiers : (formulas : List Formula) → Each (λ (f : Plain). length f.prefix ≤ 4) (plain_formulas formulas)
    → All HasFewQuantifiers formulas
few-quantifiers [] few i d lt = absurd (omega (arith, lt))
few-quantifiers (f ∷ formulas) (few, later) zero d lt = few
few-quantifiers (f ∷ formulas) (few, later) (suc i) d lt = few-quantifiers formulas later i d (omega (arith, lt))

-- ---- classes

universal-class : (c : Class) → is_universal c ≡ true → c ≡ classes.Forall
universal-class classes.Exists e = absurd (cc)
universal-class classes.Forall e = refl
universal-class classes.ExistsForall e = absurd (cc)
universal-class classes.Other e = absurd (cc)

other-class : (c : Class) → (c ≡ classes.Forall → ⊥) → is_universal c ≡ false
other-class classes.Exists apart = refl
other-class classes.Forall apart = absurd (apart refl)
other-class classes.ExistsForall apart = refl
other-class classes.Other apart = refl

pub are-universal : (formulas : List Formula) → AllUniversal formulas → AreUniversal (plain_formulas formulas)
are-universal [] all = tt
are-universal (f ∷ formulas) all = (ap is_universal (all 0 f refl), are-universal formulas (λ j g there. all (suc j) g there))

-- The first formula that is not universal is the first whose class is not taken.
pub first-untaken : (formulas : List Formula) (k : ℕ) (c : Class) → FirstOther formulas k c
    → FirstUntaken (by_class is_universal) (plain_formulas formulas) k c
first-untaken [] k c first = absurd (let none : None ≡ Some first.formula = first.there in cc)
first-untaken (f ∷ formulas) zero c first =
    let same : f ≡ first.formula = cc in
    let P : Formula → Type 0 = λ g. class_of g.prefix ≡ c in
    let Q : Formula → Type 0 = λ g. ¬ IsUniversal g in
    let is = subst P (sym same) first.class in
    (is, other-class (class_of f.prefix) (subst Q (sym same) first.other))
first-untaken (f ∷ formulas) (suc k) c first = (
  ap is_universal (first.before 0 f (omega arith) refl),
  first-untaken formulas k c (record {
    formula = first.formula;
    there = first.there;
    class = first.class;
    other = first.other;
    before = λ j g lt there. first.before (suc j) g (omega (arith, lt)) there;
  }),
)

-- ---- bodies

pub some-plain : (Q : Tree → Type 0) (formulas : List Formula) → SomeBody Q formulas → SomePlain Q (plain_formulas formulas)
some-plain Q [] some = absurd some
some-plain Q (f ∷ formulas) (inl here) =
    (plain_formula f, contains-here (plain_formula f) (plain_formulas formulas), here)
some-plain Q (f ∷ formulas) (inr later) =
    let (g, in_rest, is) = some-plain Q formulas later in
    (g, contains-later (plain_formula f) g (plain_formulas formulas) in_rest, is)

pub each-plain : (Q : Tree → Type 0) (formulas : List Formula) → EachBody Q formulas → EachPlain Q (plain_formulas formulas)
each-plain Q [] each = tt
each-plain Q (f ∷ formulas) (is, each) = (is, each-plain Q formulas each)

-- ---- why formulas are not monitored

pub are-too-large : (formulas : List Formula) (kind : Kind) → IsTooLarge formulas kind → AreTooLarge (plain_formulas formulas) kind
are-too-large formulas kinds.Closure some = some-plain HasLargeClosure formulas some
are-too-large formulas kinds.Atoms (small, some) =
    (each-plain HasSmallClosure formulas small, some-plain HasManyAtoms formulas some)
are-too-large formulas kinds.Table (small, few, some) =
    (each-plain HasSmallClosure formulas small, each-plain HasFewAtoms formulas few, some-plain HasLargeTable formulas some)
are-too-large formulas _ none = absurd none

prefix-outcome : (lengths : Lengths) (drop : Bool) (formulas : List Formula) (AreSo : List Placed → Type 0) (k : ℕ) (c : Class)
    → FirstOther formulas k c → IsOutcome lengths drop (plain_formulas formulas) AreSo (Err (Prefix 0 c))
prefix-outcome lengths drop formulas AreSo k c first = untaken k c (first-untaken formulas k c first)

limit-outcome : (lengths : Lengths) (drop : Bool) (formulas : List Formula) (AreSo : List Placed → Type 0) (kind : Kind)
    → AllUniversal formulas → IsTooLarge formulas kind → IsOutcome lengths drop (plain_formulas formulas) AreSo (Err (Limit kind (most_of kind)))
limit-outcome lengths drop formulas AreSo kind universal large =
    too_large kind (are-universal formulas universal) (are-too-large formulas kind large)

pub refused-outcome : (lengths : Lengths) (drop : Bool) (formulas : List Formula) (AreSo : List Placed → Type 0) (error : RvNewError)
    → IsNewRefusal formulas error → IsOutcome lengths drop (plain_formulas formulas) AreSo (Err (new_refused error))
refused-outcome lengths drop formulas AreSo (new_errors.Prefix k c) first = prefix-outcome lengths drop formulas AreSo k c first
refused-outcome lengths drop formulas AreSo (new_errors.Limit kind) (universal, large) =
    limit-outcome lengths drop formulas AreSo kind universal large
refused-outcome lengths drop formulas AreSo new_errors.Memory h = spent

-- ---- what they come to

pub specs-same : (formulas : List Formula) → map spec_of_formula formulas ≡ specs_of (plain_formulas formulas)
specs-same [] = refl
specs-same (f ∷ formulas) = ap (λ specs. spec_of_formula f ∷ specs) (specs-same formulas)

module _ (lengths : Lengths) (drop : Bool) (formulas : List Formula) (AreSo : List Placed → Type 0) (a : RvAnswer) (universal : AllUniversal formulas) (small : EachBody IsTaken formulas) where
  outcome-of : OrMemory a (EventsCome lengths drop (map spec_of_formula formulas) AreSo a) → IsOutcome lengths drop (plain_formulas formulas) AreSo a
  outcome-of (inl e) = let P : RvAnswer → Type 0 = λ b. IsOutcome lengths drop (plain_formulas formulas) AreSo b in subst P (sym e) spent
  outcome-of (inr come) =
      let P : List Spec → Type 0 = λ specs. EventsCome lengths drop specs AreSo a in
      done a (are-universal formulas universal) (each-plain IsTaken formulas small) (subst P (specs-same formulas) come)

pub monitored-outcome : (lengths : Lengths) (drop : Bool) (formulas read : List Formula) (AreSo : List Placed → Type 0) (a : RvAnswer) (specs : List Spec)
    → read ≡ formulas → AllUniversal read → EachBody IsTaken read → specs ≡ map spec_of_formula read
    → OrMemory a (EventsCome lengths drop specs AreSo a) → IsOutcome lengths drop (plain_formulas formulas) AreSo a
monitored-outcome lengths drop formulas read AreSo a monitored same universal small e come =
    let P : List Spec → Type 0 = λ s. OrMemory a (EventsCome lengths drop s AreSo a) in
    let Q : List Formula → Type 0 = λ fs. IsOutcome lengths drop (plain_formulas fs) AreSo a in
    subst Q same (outcome-of lengths drop read AreSo a universal small (subst P e come))
