-- A bound as it is given: one digit for each number, with a comma between two.
use Rattle.std.proofs.Common.{◌≡◌, ℕ, ◌+◌, ◌<◌, ◌≤◌, [], ◌∷◌, length, slice_index_or, refl, sym, ap, ◌∙◌, arith}
use Rattle.std.proofs.lemmas.Fmt.{decimal_digit}
use Rattle.bound_search.specs.declared.bound.Bound.{Bound}
use Rattle.bound_search.specs.Bounds.{IsBound}
use Rattle.hy_words.specs.Words.{Text}
use Rattle.ea_tool.specs.Words.{bound_text}

-- A bound as it is given has one digit for each number.
pub bound-digits : (bound : Bound) → IsBound bound
    → bound_text bound ≡ (48 + bound.traces) ∷ 44 ∷ (48 + bound.stem) ∷ 44 ∷ (48 + bound.cycle) ∷ []
bound-digits bound range =
    rw (decimal_digit bound.traces (omega (arith, range.few_traces)), decimal_digit bound.stem (omega (arith, range.short_stem)), decimal_digit bound.cycle (omega (arith, range.short_cycle))) refl

-- A bound as it is given is one bound.
pub same-bound : (a b : Bound) → IsBound a → IsBound b → bound_text a ≡ bound_text b → a ≡ b
same-bound a b one two e =
    let texts : (48 + a.traces) ∷ 44 ∷ (48 + a.stem) ∷ 44 ∷ (48 + a.cycle) ∷ [] ≡ (48 + b.traces) ∷ 44 ∷ (48 + b.stem) ∷ 44 ∷ (48 + b.cycle) ∷ [] =
    sym (bound-digits a one) ∙ e ∙ bound-digits b two in
    let first : 48 + a.traces ≡ 48 + b.traces = cc in
    let second : 48 + a.stem ≡ 48 + b.stem = cc in
    let third : 48 + a.cycle ≡ 48 + b.cycle = cc in
    let traces : a.traces ≡ b.traces = omega (arith, first) in
    let stem : a.stem ≡ b.stem = omega (arith, second) in
    let cycle : a.cycle ≡ b.cycle = omega (arith, third) in
    λ i. record { traces = traces i; stem = stem i; cycle = cycle i }

five-bytes : (bytes : Text) (d : ℕ) → 5 ≤ length bytes → length bytes < 6
    → bytes ≡ slice_index_or bytes 0 d ∷ slice_index_or bytes 1 d ∷ slice_index_or bytes 2 d ∷ slice_index_or bytes 3 d ∷ slice_index_or bytes 4 d ∷ []
five-bytes [] d some few = absurd (omega arith)
five-bytes (a ∷ []) d some few = absurd (omega arith)
five-bytes (a ∷ b ∷ []) d some few = absurd (omega arith)
five-bytes (a ∷ b ∷ e ∷ []) d some few = absurd (omega arith)
five-bytes (a ∷ b ∷ e ∷ f ∷ []) d some few = absurd (omega arith)
five-bytes (a ∷ b ∷ e ∷ f ∷ g ∷ []) d some few = refl
five-bytes (a ∷ b ∷ e ∷ f ∷ g ∷ h ∷ bytes) d some few = absurd (omega arith)

-- Five bytes are a bound where each is what stands there.
pub spells-bound : (bytes : Text) (bound : Bound) → IsBound bound → 5 ≤ length bytes → length bytes < 6
    → slice_index_or bytes 0 0 ≡ 48 + bound.traces → slice_index_or bytes 1 0 ≡ 44 → slice_index_or bytes 2 0 ≡ 48 + bound.stem
    → slice_index_or bytes 3 0 ≡ 44 → slice_index_or bytes 4 0 ≡ 48 + bound.cycle → bytes ≡ bound_text bound
spells-bound bytes bound range some few a b e f g =
    five-bytes bytes 0 some few ∙ (λ i. a i ∷ b i ∷ e i ∷ f i ∷ g i ∷ []) ∙ sym (bound-digits bound range)

-- The bytes of a bound by their places.
pub record HasDigits (bytes : Text) (bound : Bound) : Type 0 where
  pub long : length bytes ≡ 5
  pub traces : slice_index_or bytes 0 0 ≡ 48 + bound.traces
  pub first : slice_index_or bytes 1 0 ≡ 44
  pub stem : slice_index_or bytes 2 0 ≡ 48 + bound.stem
  pub second : slice_index_or bytes 3 0 ≡ 44
  pub cycle : slice_index_or bytes 4 0 ≡ 48 + bound.cycle

pub digits-of : (bytes : Text) (bound : Bound) → IsBound bound → bytes ≡ bound_text bound → HasDigits bytes bound
digits-of bytes bound range e =
    let same = e ∙ bound-digits bound range in
    record {
      long = ap length same;
      traces = ap (λ bs. slice_index_or bs 0 0) same;
      first = ap (λ bs. slice_index_or bs 1 0) same;
      stem = ap (λ bs. slice_index_or bs 2 0) same;
      second = ap (λ bs. slice_index_or bs 3 0) same;
      cycle = ap (λ bs. slice_index_or bs 4 0) same;
    }
