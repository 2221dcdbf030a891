-- From the counts of a text and what is built of it to the answer.
use Rattle.std.proofs.Common.{◌≡◌, ℕ, zero, suc, ◌<◌, ◌≤◌, List, [], ◌∷◌, ◌++◌, length, length-append, map, Bool, false, nat_lt, Option, Some, None, Result, Ok, Err, refl, ap, sym, subst, ◌∙◌, arith}
use Rattle.hy_formula.specs.declared.formula.Formula.{Formula}
use Rattle.hy_read.specs.declared.build_error.BuildError.{BuildError}
use Rattle.hy_read.specs.declared.build_error.BuildError.TheVariants as refusals
use Rattle.hy_read.specs.declared.counts.Counts.{Counts}
use Rattle.hy_read.specs.declared.error.ReadError.{ReadError}
use Rattle.hy_read.specs.declared.error.ReadError.TheVariants.{Syntax, Unbound, Limit, Memory}
use Rattle.hy_formula.specs.Formulas.{Plain}
use Rattle.hy_read.specs.Answers.{Answers, over, read_as, located, plain_of, tokens_of}
use Rattle.hy_formula.specs.Formulas.{plain_formula, plain_formulas}
use Rattle.hy_read.specs.Builds.{AreBuilt, meaning_in, most_of_heights, most_of_quantifiers}
use Rattle.hy_read.specs.Contract.{IsAnswer}
use Rattle.hy_formula.specs.Trees.{Tree}
use Rattle.std.proofs.lemmas.List.{length-map}
use Rattle.std.proofs.lemmas.Bool.{lt-ltb, le-ltb}
use Rattle.hy_read.specs.Grammar.{AreFormulas, Quantifier, Read}
use Rattle.hy_read.specs.Judged.{HasNames, HasTooManyNames, IsJudged, IsLate, IsLateAndNamed, IsMeasured, IsPastCount, IsWithinCounts}
use Rattle.hy_read.specs.Parses.{AreLeft}
use Rattle.hy_read.specs.Results.{Bound, Count, specs, quantifiers, parens, heights, names, Result as Answered, fault, unbound, past, taken, Reads, count_of, first_past, in_order, most, most_open, names_of}
use Rattle.hy_read.specs.Scanning.{Span}
use Rattle.hy_read.specs.Surveys.{IsSound, IsSurveyed}
use Rattle.hy_read.specs.Tokens.{Token}
use Rattle.hy_read.proofs.Collecting.{named-all}
use Rattle.hy_read.proofs.CountingFormulas.{formulas_ended, formulas_quantified}
use Rattle.hy_read.proofs.FlatFormulas.{flat_text}
use Rattle.hy_read.proofs.Rebinding.{bind-formulas}

-- what the first pass refuses
pub survey_refused : {F : Type 0} (plain : F → List Plain) (many : Bool) (limit : ℕ) (old table : List (List ℕ)) (bytes : List ℕ) (e : ReadError) → IsSurveyed many limit old bytes (Err e) → IsAnswer plain many limit old table bytes (Err e)
survey_refused plain many limit old table bytes (Syntax token byte) h = h
survey_refused plain many limit old table bytes (Unbound byte) h = h
survey_refused plain many limit old table bytes (Limit l) h = absurd h
survey_refused plain many limit old table bytes Memory h = tt

-- ---- the formulas of a text, and their counts

pub record Formulas (many : Bool) (old : List (List ℕ)) (bytes : List ℕ) (c : Counts) (spans : List Span) : Type 0 where
  pub fs : List Read
  pub are : AreFormulas (Bound (names_of old (tokens_of spans))) many fs (tokens_of spans)
  pub long : length fs ≡ suc c.semicolons
  pub quantified : most_of_quantifiers fs ≡ c.most_quantifiers

pub formulas_of : (many : Bool) (old : List (List ℕ)) (bytes : List ℕ) (c : Counts) (s : IsSound many bytes c) → Formulas many old bytes c s.spans
formulas_of many old bytes c s =
    let tokens : List Token = tokens_of s.spans in
    let (fs, are) = bind-formulas (names_of old tokens) many s.text.0 tokens s.text.1 (named-all tokens old) s.bound in
    let long = formulas_ended (Bound (names_of old tokens)) many fs tokens zero are in
    let ends = s.ends in
    record {
      fs = fs;
      are = are;
      long = omega arith;
      quantified = sym (formulas_quantified (Bound (names_of old tokens)) many fs tokens are) ∙ sym s.words;
    }

module _ (many : Bool) (limit : ℕ) (old : List (List ℕ)) (bytes : List ℕ) (c : Counts) (s : IsSound many bytes c) (f : Formulas many old bytes c s.spans) where
  abbrev tokens : List Token
  tokens = tokens_of s.spans

  abbrev First : Option Count → Type 0
  First o = first_past (most limit) (count_of old tokens f.fs) in_order ≡ o

  refused : (k : Count) → First (Some k) → Answers many limit old bytes (over k (most limit k))
  refused k e = record {
    spans = s.spans;
    result = past k;
    split = s.split;
    reads = (f.fs, f.are, e);
    is = refl;
  }

  few_specs : suc c.semicolons ≤ 16 → nat_lt 16 (length f.fs) ≡ false
  few_specs h = let long = f.long in le-ltb 16 (length f.fs) (omega arith)

  few_quantifiers : c.most_quantifiers ≤ limit → nat_lt limit (most_of_quantifiers f.fs) ≡ false
  few_quantifiers h = let quantified = f.quantified in le-ltb limit (most_of_quantifiers f.fs) (omega arith)

  few_parens : c.most_parens ≤ 200 → nat_lt 200 (most_open zero tokens) ≡ false
  few_parens h = let opens = s.opens in le-ltb 200 (most_open zero tokens) (omega arith)

  past_specs : 16 < suc c.semicolons → First (Some specs)
  past_specs h = let long = f.long in rw (lt-ltb 16 (length f.fs) (omega arith)) refl

  past_quantifiers : suc c.semicolons ≤ 16 → limit < c.most_quantifiers → First (Some quantifiers)
  past_quantifiers g h =
      let quantified = f.quantified in
      rw (few_specs g, lt-ltb limit (most_of_quantifiers f.fs) (omega arith)) refl

  past_parens : suc c.semicolons ≤ 16 → c.most_quantifiers ≤ limit → 200 < c.most_parens → First (Some parens)
  past_parens g h k =
      let opens = s.opens in
      rw (few_specs g, few_quantifiers h, lt-ltb 200 (most_open zero tokens) (omega arith)) refl

  past_heights : IsWithinCounts limit c → 200 < most_of_heights f.fs → First (Some heights)
  past_heights w h =
      rw (few_specs w.few_specs, few_quantifiers w.few_quantifiers, few_parens w.few_parens, lt-ltb 200 (most_of_heights f.fs) h) refl

  past_names : IsWithinCounts limit c → most_of_heights f.fs ≤ 200 → 64 < length (names_of old tokens) → First (Some names)
  past_names w h k =
      rw (few_specs w.few_specs, few_quantifiers w.few_quantifiers, few_parens w.few_parens, le-ltb 200 (most_of_heights f.fs) h, lt-ltb 64 (length (names_of old tokens)) k) refl

  past_none : IsWithinCounts limit c → most_of_heights f.fs ≤ 200 → length (names_of old tokens) ≤ 64 → First None
  past_none w h k =
      rw (few_specs w.few_specs, few_quantifiers w.few_quantifiers, few_parens w.few_parens, le-ltb 200 (most_of_heights f.fs) h, le-ltb 64 (length (names_of old tokens)) k) refl

  past_count : (k : Count) → IsPastCount limit c k → First (Some k)
  past_count specs h = past_specs h
  past_count quantifiers (g, h) = past_quantifiers g h
  past_count parens (g, h, k) = past_parens g h k
  past_count heights h = absurd h
  past_count names h = absurd h

  pub count_refused : {F : Type 0} (plain : F → List Plain) (table : List (List ℕ)) (e : ReadError) → IsJudged limit c (Err e) → IsAnswer plain many limit old table bytes (Err e)
  count_refused plain table (Syntax token byte) h = absurd h
  count_refused plain table (Unbound byte) h = absurd h
  count_refused plain table (Limit l) (k, kind, number, h) = (k, kind, number, refused k (past_count k h))
  count_refused plain table Memory h = absurd h

  left_all : AreLeft bytes 0 tokens
  left_all = (s.spans, s.split, refl)

  taken_as : (table : List (List ℕ)) (formulas : List Formula) → IsWithinCounts limit c → HasNames old table bytes → AreBuilt f.fs (Ok formulas) → Answers many limit old bytes (read_as (plain_formulas formulas) table)
  taken_as table formulas w has (same, low) =
      let (is, few) = has tokens left_all in
      let long = ap length is in
      record {
        spans = s.spans;
        result = taken f.fs (names_of old tokens);
        split = s.split;
        reads = (f.are, past_none w low (omega arith), refl);
        is = ap (λ x. read_as x table) same ∙ ap (λ x. read_as (map plain_of f.fs) x) is;
      }

  pub built_late : (table : List (List ℕ)) (r : Result (List Formula) BuildError) → IsWithinCounts limit c → HasNames old table bytes → AreBuilt f.fs r → IsLate many limit old table bytes r
  built_late table (Ok formulas) w has built = taken_as table formulas w has built
  built_late table (Err refusals.TooHigh) w has built = refused heights (past_heights w built)
  built_late table (Err refusals.Memory) w has built = tt

  pub built_and_named : (gs : List Read) (r : Result (List Formula) BuildError) → IsWithinCounts limit c → HasTooManyNames old bytes → most_of_heights gs ≡ most_of_heights f.fs → AreBuilt gs r → IsLateAndNamed many limit old bytes r
  built_and_named gs (Ok formulas) w has tall (same, low) = refused names (past_names w (omega arith) (has tokens left_all))
  built_and_named gs (Err refusals.TooHigh) w has tall built = refused heights (past_heights w (omega arith))
  built_and_named gs (Err refusals.Memory) w has tall built = tt

-- ---- what is built is the answer

pub late : (many : Bool) (limit : ℕ) (old table : List (List ℕ)) (bytes : List ℕ) (count : ℕ) (r : Result (List Formula) BuildError) → IsMeasured many limit bytes count → HasNames old table bytes → ((many : Bool) (fs : List Read) (tokens : List Token) → AreLeft bytes 0 tokens → AreFormulas (meaning_in (Some table)) many fs tokens → length fs ≡ count → most_of_quantifiers fs ≤ 8 → most_open zero tokens ≤ 200 → AreBuilt fs r) → IsLate many limit old table bytes r
late many limit old table bytes count r m has built =
    let f = formulas_of many old bytes m.counts m.sound in
    let here : AreLeft bytes 0 (tokens_of m.sound.spans) = (m.sound.spans, m.sound.split, refl) in
    let is = (has (tokens_of m.sound.spans) here).0 in
    let are = subst (λ x. AreFormulas (Bound x) many f.fs (tokens_of m.sound.spans)) (sym is) f.are in
    let few = m.few in
    let quantified = f.quantified in
    let within = m.within.few_quantifiers in
    let opens = m.sound.opens in
    let parens_within = m.within.few_parens in
    built_late many limit old bytes m.counts m.sound f table r m.within has
    (built many f.fs (tokens_of m.sound.spans) here are (f.long ∙ m.is) (omega arith) (omega arith))

pub late_and_named : (many : Bool) (limit : ℕ) (old : List (List ℕ)) (bytes : List ℕ) (count : ℕ) (r : Result (List Formula) BuildError) → IsMeasured many limit bytes count → HasTooManyNames old bytes → ((many : Bool) (fs : List Read) (tokens : List Token) → AreLeft bytes 0 tokens → AreFormulas (meaning_in None) many fs tokens → length fs ≡ count → most_of_quantifiers fs ≤ 8 → most_open zero tokens ≤ 200 → AreBuilt fs r) → IsLateAndNamed many limit old bytes r
late_and_named many limit old bytes count r m has built =
    let f = formulas_of many old bytes m.counts m.sound in
    let here : AreLeft bytes 0 (tokens_of m.sound.spans) = (m.sound.spans, m.sound.split, refl) in
    let g = flat_text (names_of old (tokens_of m.sound.spans)) many f.fs (tokens_of m.sound.spans) f.are in
    let few = m.few in
    let quantified = g.quantifiers ∙ f.quantified in
    let within = m.within.few_quantifiers in
    let opens = m.sound.opens in
    let parens_within = m.within.few_parens in
    built_and_named many limit old bytes m.counts m.sound f g.gs r m.within has g.tall
    (built many g.gs (tokens_of m.sound.spans) here g.are (g.long ∙ f.long ∙ m.is) (omega arith) (omega arith))

-- ---- where one formula may stand

one_formula : (Means : List Quantifier → List ℕ → List ℕ → Tree → Type 0) (fs : List Read) (tokens : List Token) → AreFormulas Means false fs tokens → length fs ≡ 1
one_formula Means [] tokens are = absurd are
one_formula Means (f ∷ []) tokens are = refl
one_formula Means (f ∷ g ∷ fs) tokens (m, rest) = absurd cc

one_taken : (limit : ℕ) (old table : List (List ℕ)) (bytes : List ℕ) (spans : List Span) (r : Answered) (ps : List Plain) → Reads false limit old (tokens_of spans) r → read_as ps table ≡ located limit bytes spans r → length ps ≡ 1
one_taken limit old table bytes spans (fault k) ps reads is = absurd cc
one_taken limit old table bytes spans (unbound k) ps reads is = absurd cc
one_taken limit old table bytes spans (past c) ps reads is = absurd cc
one_taken limit old table bytes spans (taken fs t) ps reads is =
    let same : ps ≡ map plain_of fs = cc in
    ap length same ∙ length-map fs plain_of ∙ one_formula (Bound (names_of old (tokens_of spans))) fs (tokens_of spans) reads.0

pub one_answer : (limit : ℕ) (old table : List (List ℕ)) (bytes : List ℕ) (ps : List Plain) → Answers false limit old bytes (read_as ps table) → length ps ≡ 1
one_answer limit old table bytes ps a = one_taken limit old table bytes a.spans a.result ps a.reads a.is

only : (xs : List Formula) (x : Formula) → length (plain_formulas (xs ++ x ∷ [])) ≡ 1 → plain_formulas (xs ++ x ∷ []) ≡ plain_formula x ∷ []
only [] x e = refl
only (y ∷ ys) x e = absurd (omega (arith, e, length-map (ys ++ x ∷ []) plain_formula, length-append ys (x ∷ [])))

pub last_is_only : (limit : ℕ) (old table : List (List ℕ)) (bytes : List ℕ) (all xs : List Formula) (x : Formula) → all ≡ xs ++ x ∷ [] → Answers false limit old bytes (read_as (plain_formulas all) table) → Answers false limit old bytes (read_as (plain_formula x ∷ []) table)
last_is_only limit old table bytes all xs x e a =
    let moved = subst (λ l. Answers false limit old bytes (read_as (plain_formulas l) table)) e a in
    subst (λ ps. Answers false limit old bytes (read_as ps table)) (only xs x (one_answer limit old table bytes (plain_formulas (xs ++ x ∷ [])) moved)) moved
