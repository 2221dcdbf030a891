use Rattle.std.proofs.Common.{inl, inr, sym, ◌∙◌, arith}
use Rattle.bound_search.specs.declared.bound.Bound.{Bound}
use Rattle.bound_search.specs.Bounds.{IsBound}
use Rattle.ea_tool.proofs.BoundTexts.{digits-of, spells-bound}
use Rattle.ea_tool.proofs.bounds.bound_in.Goals as goal

pub returns-in_default-clause-none : goal.returns-in_default-clause-none
returns-in_default-clause-none c = λ bound range e.
    omega (arith, (digits-of c.as_bytes.result.now bound range (c.as_bytes.ensures.value ∙ e)).long, c.in_default.len_below)

pub returns-in_default-2-clause-none : goal.returns-in_default-2-clause-none
returns-in_default-2-clause-none c = λ bound range e.
    omega (arith, (digits-of c.as_bytes.result.now bound range (c.as_bytes.ensures.value ∙ e)).long, c.in_default.len_at_least)

pub returns-then-first-ne44-clause-none : goal.returns-then-first-ne44-clause-none
returns-then-first-ne44-clause-none c = λ bound range e.
    let digits = digits-of c.as_bytes.result.now bound range (c.as_bytes.ensures.value ∙ e) in
    elim c.then-first-ne44.either [
      | inl other ↦ other digits.first
      | inr (is, other) ↦ other digits.second
    ]

pub returns-in_err-traces-clause-none : goal.returns-in_err-traces-clause-none
returns-in_err-traces-clause-none c = rw c.from_residual.ensures (λ bound range e.
    let digits = digits-of c.as_bytes.result.now bound range (c.as_bytes.ensures.value ∙ e) in
    c.in_err-traces.ensures.none bound.traces range.some_traces range.few_traces digits.traces)

pub returns-in_err-stem-clause-none : goal.returns-in_err-stem-clause-none
returns-in_err-stem-clause-none c = rw c.from_residual-in_err-stem.ensures (λ bound range e.
    let digits = digits-of c.as_bytes.result.now bound range (c.as_bytes.ensures.value ∙ e) in
    c.in_err-stem.ensures.none bound.stem (omega arith) range.short_stem digits.stem)

pub returns-in_err-cycle-clause-none : goal.returns-in_err-cycle-clause-none
returns-in_err-cycle-clause-none c = rw c.from_residual-in_err-cycle.ensures (λ bound range e.
    let digits = digits-of c.as_bytes.result.now bound range (c.as_bytes.ensures.value ∙ e) in
    c.in_err-cycle.ensures.none bound.cycle range.some_cycle range.short_cycle digits.cycle)

pub returns-clause-some : goal.returns-clause-some
returns-clause-some c =
    let bound : Bound = record { traces = c.in_ok-traces.traces; stem = c.in_ok-stem.stem; cycle = c.in_ok-cycle.cycle } in
    let traces = c.in_ok-traces.ensures.some in
    let stem = c.in_ok-stem.ensures.some in
    let cycle = c.in_ok-cycle.ensures.some in
    let range : IsBound bound = record { some_traces = traces.1; few_traces = traces.2; short_stem = stem.2; some_cycle = cycle.1; short_cycle = cycle.2 } in
    (sym c.as_bytes.ensures.value ∙ spells-bound c.as_bytes.result.now bound range c.in-len5.len_at_least c.in-len5.len_below traces.0 c.if-first-ne44.false stem.0 c.if-second-ne44.false cycle.0, range)
