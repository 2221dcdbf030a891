-- How many of the traces that arrived are kept for each formula.
use Rattle.std.proofs.Common.{◌≡◌, ℕ, suc, ◌<◌, Bool, true, false, List, [], ◌∷◌, length, get_or, Ok, refl, sym, ap, ◌∙◌, arith}
use Rattle.hy_finite.specs.declared.lengths.Lengths.{Lengths}
use Rattle.hy_finite.specs.Traces.{Trace}
use Rattle.dominance.specs.Dominance.{Dominates}
use Rattle.dominance.proofs.Ascending.{leaders-one}
use Rattle.rv_core.specs.Endings.{Spec, spec_at}
use Rattle.rv_core.specs.Histories.{History}
use Rattle.rv_core.specs.Keeping.{IsKeptCount}
use Rattle.rv_tool.specs.Monitoring.{RvAnswer, AreKeptCounts, IsNoViolation}
use Rattle.rv_tool.specs.declared.verdict.RvVerdict.TheVariants.{NoViolation}

module _ (lengths : Lengths) (drop : Bool) (arrived : List Trace) where
  -- Counts that are right at each place are right in turn.
  pub counts-in-turn : (specs : List Spec) (counts : List ℕ) → length counts ≡ length specs
      → ((s : ℕ) → s < length specs
      → IsKeptCount lengths drop (spec_at specs s) arrived (get_or counts s 0))
      → AreKeptCounts lengths drop specs arrived counts
  counts-in-turn [] [] long right = tt
  counts-in-turn [] (n ∷ ns) long right = absurd (omega (arith, long))
  counts-in-turn (spec ∷ specs) [] long right = absurd (omega (arith, long))
  counts-in-turn (spec ∷ specs) (n ∷ ns) long right = (
    right 0 (omega arith),
    counts-in-turn specs ns (omega (arith, long)) (λ s lt. right (suc s) (omega (arith, lt))),
  )

-- A list has one number of leaders.
count-once : (lengths : Lengths) (drop : Bool) (spec : Spec) (arrived : List Trace) (n m : ℕ)
    → IsKeptCount lengths drop spec arrived n → IsKeptCount lengths drop spec arrived m → n ≡ m
count-once lengths false spec arrived n m one two = one ∙ sym two
count-once lengths true spec arrived n m (kept, are, n_is) (others, also, m_is) =
    n_is
    ∙ ap length (leaders-one (Dominates lengths spec.variables spec.body) arrived kept others are also)
    ∙ sym m_is

pub counts-once : (lengths : Lengths) (drop : Bool) (arrived : List Trace) (specs : List Spec)
    (counts others : List ℕ) → AreKeptCounts lengths drop specs arrived counts
    → AreKeptCounts lengths drop specs arrived others → counts ≡ others
counts-once lengths drop arrived [] [] [] one two = refl
counts-once lengths drop arrived [] (n ∷ ns) others one two = absurd one
counts-once lengths drop arrived [] counts (m ∷ ms) one two = absurd two
counts-once lengths drop arrived (spec ∷ specs) [] others one two = absurd one
counts-once lengths drop arrived (spec ∷ specs) counts [] one two = absurd two
counts-once lengths drop arrived (spec ∷ specs) (n ∷ ns) (m ∷ ms) (one, more) (two, also) =
    let here : n ≡ m = count-once lengths drop spec arrived n m one two in
    let later : ns ≡ ms = counts-once lengths drop arrived specs ns ms more also in
    (λ i. here i ∷ later i)

-- So one answer says that no formula was violated.
pub clean-once : (lengths : Lengths) (drop : Bool) (specs : List Spec) (h : History) (a b : RvAnswer)
    → IsNoViolation lengths drop specs h a → IsNoViolation lengths drop specs h b → a ≡ b
clean-once lengths drop specs h a b one two =
    one.answered
    ∙ ap (λ kept. Ok (NoViolation (length h.present.arrived) kept (length h.present.sessions)))
    (counts-once lengths drop h.present.arrived specs one.kept two.kept one.counts two.counts)
    ∙ sym two.answered
