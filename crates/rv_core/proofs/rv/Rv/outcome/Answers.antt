use Rattle.std.proofs.Common.{◌≡◌, IfOk, sym, subst}
use Rattle.hy_finite.specs.Traces.{Trace}
use Rattle.trace_trie.specs.Numbered.{IsHeld}
use Rattle.tuple_walk.specs.Finds.{traces_of}
use Rattle.rv_core.specs.Arrivals.{AreHeld, IsOutcome}
use Rattle.rv_core.specs.Held.{spec_of}
use Rattle.rv_core.specs.Keeping.{kept_at}
use Rattle.rv_core.specs.Masks.{masked}
use Rattle.rv_core.specs.Seen.{watched, watched_by}
use Rattle.rv_core.specs.StepBounds.{IsSpecBound}
use Rattle.rv_core.proofs.Outcomes.{held-stays, not-held, seen-by}
use Rattle.rv_core.proofs.Seeing.{seen-at, kept-there}
use Rattle.rv_core.proofs.rv.Rv.outcome.Goals as goal

pub returns-then-is_held-clause-outcome : goal.returns-then-is_held-clause-outcome
returns-then-is_held-clause-outcome g c m there =
    let rv = c.args.self.now in
    let t = c.args.trace.now in
    let old = kept_at rv.kept c.args.spec in
    let P : Trace → Type 0 = λ u. IsHeld (masked (spec_of m) u) old in
    held-stays rv.rule m rv.traces (masked (spec_of m) t) old rv.drop_dominated
    (subst P c.as_slice-letters.ensures ((c.is_held.ensures m there).0 c.if-is_held.true))

-- ---- a trace that the spec sees whole

pub new_outcome-requires-clause-absent : goal.new_outcome-requires-clause-absent
new_outcome-requires-clause-absent g c version at =
    let rv = c.args.self.now in
    let w = c.at-watch.result.now in
    let spec = spec_of (watched w) in
    let P : Trace → Type 0 = λ u. masked spec u ≡ u in
    not-held c.is_held.result c.as_slice-letters.result.now c.args.trace.now c.args.trace.now spec
    (kept_at rv.kept c.args.spec) version
    (c.is_held.ensures (watched w) (seen-at rv.watches c.args.spec w c.at-watch.ensures))
    c.as_slice-letters.ensures (kept-there rv.kept c.args.spec version at)
    (sym (subst P c.as_slice-letters.ensures (c.sees_all.ensures c.if-sees_all.true)))
    c.if-is_held.false

pub is_held-requires-clause-not_all : goal.is_held-requires-clause-not_all
is_held-requires-clause-not_all g c =
    let rv = c.args.self.now in
    let P : Trace → Type 0 = λ t. ¬ AreHeld (watched_by rv.watches) t rv.kept in
    subst P (sym c.as_slice-letters.ensures) c.requires.not_all

pub returns-then-sees_all-clause-outcome : goal.returns-then-sees_all-clause-outcome
returns-then-sees_all-clause-outcome g c m there =
    let rv = c.args.self.now in
    let t = c.args.trace.now in
    let w = c.at-watch.result.now in
    let P : Trace → Type 0 = λ u. masked (spec_of (watched w)) u ≡ u in
    let Q : Trace → Type 0 = λ u. IfOk c.new_outcome.result
    (IsOutcome rv.rule rv.drop_dominated m u rv.traces (kept_at rv.kept c.args.spec)) in
    let whole = subst P c.as_slice-letters.ensures (c.sees_all.ensures c.if-sees_all.true) in
    subst Q
    (seen-by rv.watches c.args.spec w m c.at-watch.ensures there t t (sym whole))
    (c.new_outcome.ensures.outcome m there)

pub returns-then-sees_all-clause-bounded : goal.returns-then-sees_all-clause-bounded
returns-then-sees_all-clause-bounded g c m bound there b =
    let rv = c.args.self.now in
    let t = c.args.trace.now in
    let w = c.at-watch.result.now in
    let P : Trace → Type 0 = λ u. masked (spec_of (watched w)) u ≡ u in
    let Q : Trace → Type 0 =
    λ u. IsSpecBound rv.rule m (traces_of (kept_at rv.kept c.args.spec)) u bound in
    let whole = subst P c.as_slice-letters.ensures (c.sees_all.ensures c.if-sees_all.true) in
    c.new_outcome.ensures.bounded m bound there
    (subst Q (sym (seen-by rv.watches c.args.spec w m c.at-watch.ensures there t t (sym whole))) b)

-- ---- a trace that is masked

pub new_outcome-requires-2-clause-absent : goal.new_outcome-requires-2-clause-absent
new_outcome-requires-2-clause-absent g c version at =
    let rv = c.args.self.now in
    let w = c.at-watch.result.now in
    not-held c.is_held.result c.as_slice-letters.result.now c.args.trace.now
    c.in_ok-masked.masked (spec_of (watched w)) (kept_at rv.kept c.args.spec) version
    (c.is_held.ensures (watched w) (seen-at rv.watches c.args.spec w c.at-watch.ensures))
    c.as_slice-letters.ensures (kept-there rv.kept c.args.spec version at)
    c.in_ok-masked.ensures c.if-is_held.false

pub returns-clause-outcome : goal.returns-clause-outcome
returns-clause-outcome g c m there =
    let rv = c.args.self.now in
    let w = c.at-watch.result.now in
    let Q : Trace → Type 0 = λ u. IfOk c.new_outcome-2.result
    (IsOutcome rv.rule rv.drop_dominated m u rv.traces (kept_at rv.kept c.args.spec)) in
    subst Q
    (seen-by rv.watches c.args.spec w m c.at-watch.ensures there c.args.trace.now
    c.in_ok-masked.masked c.in_ok-masked.ensures)
    (c.new_outcome-2.ensures.outcome m there)

pub returns-clause-bounded : goal.returns-clause-bounded
returns-clause-bounded g c m bound there b =
    let rv = c.args.self.now in
    let w = c.at-watch.result.now in
    let Q : Trace → Type 0 =
    λ u. IsSpecBound rv.rule m (traces_of (kept_at rv.kept c.args.spec)) u bound in
    c.new_outcome-2.ensures.bounded m bound there
    (subst Q (sym (seen-by rv.watches c.args.spec w m c.at-watch.ensures there c.args.trace.now
    c.in_ok-masked.masked c.in_ok-masked.ensures)) b)
