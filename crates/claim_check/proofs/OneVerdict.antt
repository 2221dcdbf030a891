-- Bytes have one answer, but for those that are free.
use Rattle.std.proofs.Common.{◌≡◌, ℕ, ◌≤◌, ◌⊎◌, Bool, true, false, IsTrue, cond, ◌&&◌, nat_eq, List, [], ◌∷◌, length, Result, Ok, Err, inl, inr, refl, sym, ap, ◌∙◌, subst, arith, true≢false, eqb-true}
use Rattle.std.specs.Prelude.{Some, is_some}
use Rattle.std.specs.List.{Contains}
use Rattle.std.proofs.lemmas.Bool.{cases_lt}
use Rattle.hy_base.proofs.Members.{contains-here, contains-later}
use Rattle.hy_base.proofs.Truths.{same-truth}
use Rattle.hy_base.specs.declared.limit.Kind.{Kind}
use Rattle.hy_base.specs.declared.limit.Kind.TheVariants.{CnfVariables, CnfLiterals}
use Rattle.hy_base.specs.declared.limit.Limit.{Limit as Past}
use Rattle.hy_formula.specs.Quantifiers.{Each}
use Rattle.hy_formula.specs.declared.classes.Class.{Class}
use Rattle.hy_formula.specs.declared.prefix.Quant.{Quant}
use Rattle.ea_reduce.specs.Fulfilled.{IsOfOneKind}
use Rattle.ea_reduce.specs.Plans.{PlainJob, PlainPlan}
use Rattle.ea_reduce.specs.Refused as plans
use Rattle.ea_reduce.specs.Refused.{HasFewMaps, HasManyMaps, most_maps}
use Rattle.aig_net.specs.declared.signals.Signal.{Signal}
use Rattle.aig_net.specs.Nets.{Net}
use Rattle.aig_net.specs.Signals.{has_signal, literal_of}
use Rattle.net_names.specs.Names.{IsBadName, IsOnly, name_at}
use Rattle.cnf_frames.specs.Queries.{IsPastBy}
use Rattle.cert_text.specs.Certificates.{Certificate, Refutation, model, ranks, free, refuted, both, induction, runs}
use Rattle.cert_text.specs.Texts.{IsFaultAt, IsText}
use Rattle.claim_check.specs.declared.error.CertError.{CertError}
use Rattle.claim_check.specs.declared.error.CertError.TheVariants.{Prefix, Limit, Name, Text, Memory}
use Rattle.claim_check.specs.Claims.{Claim, formula, implication, equivalence, circuit, question_of}
use Rattle.claim_check.specs.Good.{plan_against, reduction}
use Rattle.claim_check.specs.Truths.{IsFree}
use Rattle.claim_check.specs.Verdicts.{AnyOf, AreNamed, AreTaken, IsAnswered, IsCounted, IsJudgement, IsLarge, IsSmall, IsVerdict, PassesLimit, RefusesClass, RefusesIn, RefusesName, RefusesQuery, closures_of, large_query, many_instances, many_members, many_positions, plans_of}

-- ---- classes

two-taken : (p q : List Quant) (which : Bool) (found : Class) → IsOfOneKind p → IsOfOneKind q
    → ¬ plans.RefusesClass p q which found
two-taken p q false found one two (is, none) = none one
two-taken p q true found one two (also, is, none) = none two

pub class-taken : (claim : Claim) (which : Bool) (found : Class) → AreTaken claim
    → ¬ RefusesClass claim which found
class-taken (formula f) which found taken (first, other, is) = taken is
class-taken (implication f g) which found (one, two) refused =
    two-taken f.prefix g.prefix which found one two refused
class-taken (equivalence f g) which found (one, two) refused =
    two-taken f.prefix g.prefix which found one two refused
class-taken (circuit net f) which found taken (first, is, none) = none taken

two-once : (p q : List Quant) (w v : Bool) (x y : Class) → plans.RefusesClass p q w x
    → plans.RefusesClass p q v y → (w ≡ v) × (x ≡ y)
two-once p q false false x y (is, _) (are, _) = (refl, sym is ∙ are)
two-once p q false true x y (_, none) (one, _, _) = absurd (none one)
two-once p q true false x y (one, _, _) (_, none) = absurd (none one)
two-once p q true true x y (_, is, _) (_, are, _) = (refl, sym is ∙ are)

class-once : (claim : Claim) (w v : Bool) (x y : Class) → RefusesClass claim w x
    → RefusesClass claim v y → (w ≡ v) × (x ≡ y)
class-once (formula f) w v x y (a, b, _) (d, e, _) = (a ∙ sym d, b ∙ sym e)
class-once (implication f g) w v x y one two = two-once f.prefix g.prefix w v x y one two
class-once (equivalence f g) w v x y one two = two-once f.prefix g.prefix w v x y one two
class-once (circuit net f) w v x y (a, is, _) (d, are, _) = (a ∙ sym d, sym is ∙ are)

-- ---- counts

each-not-any : {A : Type 0} (P Q : A → Type 0) → ((x : A) → P x → ¬ Q x) → (xs : List A)
    → Each P xs → ¬ AnyOf Q xs
each-not-any P Q apart [] all any = any
each-not-any P Q apart (x ∷ xs) (here, all) any = elim any [
  | inl one ↦ apart x here one
  | inr more ↦ each-not-any P Q apart xs all more
]

few-not-many : (plan : PlainPlan) → HasFewMaps plan → ¬ HasManyMaps plan
few-not-many plan few (job, (k, lt, is), more) =
    let P : PlainJob → Type 0 = λ job. length job.maps ≤ most_maps in
    let most : length job.maps ≤ most_maps = subst P is (few k job lt) in
    omega (arith, most, more)

few-maps : (claim : Claim) → Each HasFewMaps (plans_of claim)
    → ¬ AnyOf HasManyMaps (plans_of claim)
few-maps claim = each-not-any HasFewMaps HasManyMaps few-not-many (plans_of claim)

small-closures : (claim : Claim) → Each IsSmall (closures_of claim)
    → ¬ AnyOf IsLarge (closures_of claim)
small-closures claim =
    each-not-any IsSmall IsLarge (λ nodes few many. omega (arith, few, many)) (closures_of claim)

-- ---- queries

past-kind : (variables literals : ℕ) (kind : Kind) → IsPastBy variables literals kind
    → (kind ≡ CnfVariables) ⊎ (kind ≡ CnfLiterals)
past-kind v l CnfVariables past = inl refl
past-kind v l CnfLiterals past = inr refl
past-kind v l _ past = absurd past

-- A query of a proof about a formula, which only those over a free net have.
proof-free : (plan : PlainPlan) (proof : Refutation) (limit : Past) → RefusesIn plan proof limit
    → IsFree (Err (Limit limit))
proof-free plan (ranks proof) limit refused = absurd refused
proof-free plan (free proof) limit (asked, is, (past, most)) = past-kind _ _ limit.kind past

query-free : (names : List (List ℕ)) (claim : Claim) (c : Certificate) (limit : Past)
    → RefusesQuery names claim c limit → IsFree (Err (Limit limit))
query-free names (formula f) (model side lassos) limit refused = absurd refused
query-free names (formula f) (refuted proof) limit refused =
    proof-free (reduction f) proof limit refused
query-free names (formula f) (both one two) limit refused = absurd refused
query-free names (formula f) (induction holds proof) limit refused = absurd refused
query-free names (formula f) (runs holds lassos tuple) limit refused = absurd refused
query-free names (implication f g) (model side lassos) limit refused = absurd refused
query-free names (implication f g) (refuted proof) limit refused =
    proof-free (plan_against f g) proof limit refused
query-free names (implication f g) (both one two) limit refused = absurd refused
query-free names (implication f g) (induction holds proof) limit refused = absurd refused
query-free names (implication f g) (runs holds lassos tuple) limit refused = absurd refused
query-free names (equivalence f g) (model side lassos) limit refused = absurd refused
query-free names (equivalence f g) (refuted proof) limit refused = absurd refused
query-free names (equivalence f g) (both one two) limit (inl refused) =
    proof-free (plan_against f g) one limit refused
query-free names (equivalence f g) (both one two) limit (inr refused) =
    proof-free (plan_against g f) two limit refused
query-free names (equivalence f g) (induction holds proof) limit refused = absurd refused
query-free names (equivalence f g) (runs holds lassos tuple) limit refused = absurd refused
query-free names (circuit net f) (model side lassos) limit refused = absurd refused
query-free names (circuit net f) (refuted proof) limit refused = absurd refused
query-free names (circuit net f) (both one two) limit refused = absurd refused
query-free names (circuit net f) (induction holds proof) limit refused =
    let (wants, (signals, are, (asked, is, (past, most)))) = refused in
    past-kind _ _ limit.kind past
query-free names (circuit net f) (runs holds lassos tuple) limit refused = absurd refused

-- ---- limits

module _ (names : List (List ℕ)) (claim : Claim) (c : Certificate) where
  limit-taken : (limit : Past) → PassesLimit names claim c limit → AreTaken claim
  limit-taken _ (many_instances taken many) = taken
  limit-taken _ (many_members taken few many) = taken
  limit-taken _ (many_positions taken few small past) = taken
  limit-taken _ (large_query counted refused) = counted.taken

  limit-counted : (limit : Past) → ¬ IsFree (Err (Limit limit))
      → PassesLimit names claim c limit → ¬ IsCounted names claim c
  limit-counted _ firm (many_instances taken many) counted = few-maps claim counted.instances many
  limit-counted _ firm (many_members taken few many) counted =
      small-closures claim counted.members many
  limit-counted _ firm (many_positions taken few small past) counted = past counted.positions
  limit-counted limit firm (large_query also refused) counted =
      firm (query-free names claim c limit refused)

  limit-once : (l m : Past) → ¬ IsFree (Err (Limit l)) → ¬ IsFree (Err (Limit m))
      → PassesLimit names claim c l → PassesLimit names claim c m → l ≡ m
  limit-once l m firm also (large_query counted refused) two =
      absurd (firm (query-free names claim c l refused))
  limit-once l m firm also one (large_query counted refused) =
      absurd (also (query-free names claim c m refused))
  limit-once _ _ firm also (many_instances taken many) (many_instances _ _) = refl
  limit-once _ _ firm also (many_instances taken many) (many_members _ few _) =
      absurd (few-maps claim few many)
  limit-once _ _ firm also (many_instances taken many) (many_positions _ few _ _) =
      absurd (few-maps claim few many)
  limit-once _ _ firm also (many_members taken few many) (many_instances _ maps) =
      absurd (few-maps claim few maps)
  limit-once _ _ firm also (many_members taken few many) (many_members _ _ _) = refl
  limit-once _ _ firm also (many_members taken few many) (many_positions _ _ small _) =
      absurd (small-closures claim small many)
  limit-once _ _ firm also (many_positions taken few small past) (many_instances _ maps) =
      absurd (few-maps claim few maps)
  limit-once _ _ firm also (many_positions taken few small past) (many_members _ _ many) =
      absurd (small-closures claim small many)
  limit-once _ _ firm also (many_positions taken few small past) (many_positions _ _ _ _) = refl

-- ---- names

only-not-bad : (net : Net) (name : List ℕ) (l : ℕ) (twice : Bool) → IsOnly net name l
    → ¬ IsBadName net name twice
only-not-bad net name l false only bad = bad l only.has
only-not-bad net name l true only (m, n, one, two, other) =
    other (only.only m one ∙ sym (only.only n two))

signal-there : (signals : List Signal) (name : ℕ) → IsTrue (has_signal signals name 0)
    → (s : Signal) × Contains signals s × (s.name ≡ name)
signal-there [] name there = absurd (true≢false (sym there))
signal-there (s ∷ signals) name there =
    by (nat_eq s.name name) (nat_eq s.var 0) refl there (signal-there signals name)
  where
    by : (a b : Bool) → nat_eq s.name name ≡ a
        → IsTrue (is_some (cond (a && b) (Some s.literal) (literal_of signals name 0)))
        → (IsTrue (has_signal signals name 0)
        → (r : Signal) × Contains signals r × (r.name ≡ name))
        → (r : Signal) × Contains (s ∷ signals) r × (r.name ≡ name)
    by true true e known behind = (s, contains-here s signals, eqb-true s.name name e)
    by true false e known behind =
        let (r, more, same) = behind known in (r, contains-later s r signals more, same)
    by false b e known behind =
        let (r, more, same) = behind known in (r, contains-later s r signals more, same)

pub name-named : (names : List (List ℕ)) (claim : Claim) (name : ℕ) (twice : Bool)
    → RefusesName names claim name twice → ¬ AreNamed names claim
name-named names (circuit net f) name twice bad (signals, are) =
    let (s, there, same) = signal-there signals name (are.every name bad.there) in
    let P : ℕ → Type 0 = λ n. IsOnly net (name_at names n) s.literal in
    only-not-bad net (name_at names name) s.literal twice (subst P same (are.each s there).1)
    bad.bad
name-named names (formula f) name twice bad named = bad
name-named names (implication f g) name twice bad named = bad
name-named names (equivalence f g) name twice bad named = bad

bad-once : (net : Net) (name : List ℕ) (a b : Bool) → IsBadName net name a
    → IsBadName net name b → a ≡ b
bad-once net name false false one two = refl
bad-once net name true true one two = refl
bad-once net name false true one (l, m, has, also, other) = absurd (one l has)
bad-once net name true false (l, m, has, also, other) two = absurd (two l has)

name-once : (names : List (List ℕ)) (claim : Claim) (j k : ℕ) (a b : Bool)
    → RefusesName names claim j a → RefusesName names claim k b → (j ≡ k) × (a ≡ b)
name-once names (circuit net f) j k a b one two =
    let same : j ≡ k = elim (cases_lt j k) [
      | inl lt ↦
          let (l, only) = two.first j lt one.there in
          absurd (only-not-bad net (name_at names j) l a only one.bad)
      | inr from ↦ elim (cases_lt k j) [
        | inl lt ↦
            let (l, only) = one.first k lt two.there in
            absurd (only-not-bad net (name_at names k) l b only two.bad)
        | inr to ↦ omega arith
      ]
    ] in
    let P : ℕ → Type 0 = λ n. IsBadName net (name_at names n) a in
    (same, bad-once net (name_at names k) a b (subst P same one.bad) two.bad)
name-once names (formula f) j k a b one two = absurd one
name-once names (implication f g) j k a b one two = absurd one
name-once names (equivalence f g) j k a b one two = absurd one

-- ---- answers

abbrev Answer : Type 0
Answer = Result Bool CertError

module _ (names : List (List ℕ)) (claim : Claim) (c : Certificate) where
  abbrev Is : Answer → Type 0
  Is a = IsJudgement names claim c a

  one-judgement : (a b : Answer) → ¬ IsFree a → ¬ IsFree b → Is a → Is b → a ≡ b
  one-judgement (Ok a) (Ok b) firm also (_, _, is) (_, _, are) =
      ap (λ t. Ok t) (same-truth a b (λ h. are.1 (is.0 h)) (λ h. is.1 (are.0 h)))
  one-judgement (Ok a) (Err (Prefix w x)) firm also (counted, _, _) refused =
      absurd (class-taken claim w x counted.taken refused)
  one-judgement (Ok a) (Err (Limit l)) firm also (counted, _, _) past =
      absurd (limit-counted names claim c l also past counted)
  one-judgement (Ok a) (Err (Name k t)) firm also (_, named, _) (_, bad) =
      absurd (name-named names claim k t bad named)
  one-judgement (Err (Prefix w x)) (Ok b) firm also refused (counted, _, _) =
      absurd (class-taken claim w x counted.taken refused)
  one-judgement (Err (Prefix w x)) (Err (Prefix v y)) firm also one two =
      let (which, class) = class-once claim w v x y one two in
      ap (λ v. Err (Prefix v x)) which ∙ ap (λ y. Err (Prefix v y)) class
  one-judgement (Err (Prefix w x)) (Err (Limit l)) firm also refused past =
      absurd (class-taken claim w x (limit-taken names claim c l past) refused)
  one-judgement (Err (Prefix w x)) (Err (Name k t)) firm also refused (counted, _) =
      absurd (class-taken claim w x counted.taken refused)
  one-judgement (Err (Limit l)) (Ok b) firm also past (counted, _, _) =
      absurd (limit-counted names claim c l firm past counted)
  one-judgement (Err (Limit l)) (Err (Prefix v y)) firm also past refused =
      absurd (class-taken claim v y (limit-taken names claim c l past) refused)
  one-judgement (Err (Limit l)) (Err (Limit m)) firm also one two =
      ap (λ l. Err (Limit l)) (limit-once names claim c l m firm also one two)
  one-judgement (Err (Limit l)) (Err (Name k t)) firm also past (counted, _) =
      absurd (limit-counted names claim c l firm past counted)
  one-judgement (Err (Name j s)) (Ok b) firm also (_, bad) (_, named, _) =
      absurd (name-named names claim j s bad named)
  one-judgement (Err (Name j s)) (Err (Prefix v y)) firm also (counted, _) refused =
      absurd (class-taken claim v y counted.taken refused)
  one-judgement (Err (Name j s)) (Err (Limit m)) firm also (counted, _) past =
      absurd (limit-counted names claim c m also past counted)
  one-judgement (Err (Name j s)) (Err (Name k t)) firm also (_, bad) (_, worse) =
      let (name, twice) = name-once names claim j k s t bad worse in
      ap (λ k. Err (Name k s)) name ∙ ap (λ t. Err (Name k t)) twice
  one-judgement (Err (Text k)) b firm also one two = absurd one
  one-judgement (Err Memory) b firm also one two = absurd (firm tt)
  one-judgement a (Err (Text k)) firm also one two = absurd two
  one-judgement a (Err Memory) firm also one two = absurd (also tt)

-- ---- bytes

module _ (names : List (List ℕ)) (claim : Claim) (bytes : List ℕ) where
  -- The bytes are a text, and this is the answer to it; or they are none.
  data Sort (a : Answer) : Type 0 where
    answered : IsAnswered names claim bytes a → Sort a
    faulty : (line : ℕ) → a ≡ Err (Text line) → IsFaultAt (question_of claim) bytes line → Sort a

  sort-of : (a : Answer) → ¬ IsFree a → IsVerdict names claim bytes a → Sort a
  sort-of (Ok good) firm is = answered is
  sort-of (Err (Prefix w x)) firm is = answered is
  sort-of (Err (Limit l)) firm is = answered is
  sort-of (Err (Name k t)) firm is = answered is
  sort-of (Err (Text line)) firm is = faulty line refl is
  sort-of (Err Memory) firm is = absurd (firm tt)

  module _ (one-text : (c d : Certificate) → IsText (question_of claim) bytes c
      → IsText (question_of claim) bytes d → c ≡ d)
      (one-fault : (k m : ℕ) → IsFaultAt (question_of claim) bytes k
      → IsFaultAt (question_of claim) bytes m → k ≡ m)
      (no-text : (k : ℕ) (c : Certificate) → IsFaultAt (question_of claim) bytes k
      → ¬ IsText (question_of claim) bytes c) where
    sorts-agree : (a b : Answer) → ¬ IsFree a → ¬ IsFree b → Sort a → Sort b → a ≡ b
    sorts-agree a b firm also (answered (c, text, is)) (answered (d, other, are)) =
        let P : Certificate → Type 0 = λ c. IsJudgement names claim c a in
        one-judgement names claim d a b firm also (subst P (one-text c d text other) is) are
    sorts-agree a b firm also (answered (c, text, is)) (faulty line e at) =
        absurd (no-text line c at text)
    sorts-agree a b firm also (faulty line e at) (answered (d, other, are)) =
        absurd (no-text line d at other)
    sorts-agree a b firm also (faulty k e at) (faulty m d there) =
        e ∙ ap (λ (k : ℕ). Err (Text k)) (one-fault k m at there) ∙ sym d

    pub one-verdict : (a b : Answer) → ¬ IsFree a → ¬ IsFree b → IsVerdict names claim bytes a
        → IsVerdict names claim bytes b → a ≡ b
    one-verdict a b firm also one two =
        sorts-agree a b firm also (sort-of a firm one) (sort-of b also two)
