-- What comes of a trace for one spec.
use Rattle.std.proofs.Common.{◌≡◌, ◌↔◌, ◌≤◌, ◌<◌, ◌+◌, ℕ, Bool, true, false, IsTrue, List, [], ◌∷◌, ◌++◌, slice_get, Some, inl, inr, refl, sym, ap, ◌∙◌, subst}
use Rattle.std.specs.List.{Contains}
use Rattle.std.proofs.lemmas.List.{length-map}
use Rattle.std.proofs.lemmas.Option.{same_Some}
use Rattle.hy_base.proofs.Members.{contains-here, contains-later}
use Rattle.hy_formula.specs.Quantifiers.{Each}
use Rattle.hy_formula.proofs.Each.{each-from}
use Rattle.hy_finite.specs.declared.lengths.Lengths.{Lengths}
use Rattle.hy_finite.specs.Traces.{Trace}
use Rattle.fin_monitor.specs.Machines.{Machine}
use Rattle.trace_trie.specs.Numbered.{Numbered, IsHeld}
use Rattle.tuple_walk.specs.Finds.{AllMeet, traces_of}
use Rattle.rv_core.specs.declared.arrival.Outcome.{Outcome}
use Rattle.rv_core.specs.declared.arrival.Outcome.TheVariants.{Stays, Passes}
use Rattle.rv_core.specs.declared.rv.Rv.{Rv}
use Rattle.rv_core.specs.declared.watch.Watch.{Watch}
use Rattle.rv_core.specs.Arrivals.{IsPassed, IsOver, AreLeft, none, stays, IsNext, over, last, IsOutcome, AreHeld, AreNext}
use Rattle.rv_core.specs.Endings.{Spec}
use Rattle.rv_core.specs.Held.{spec_of}
use Rattle.rv_core.specs.Keeping.{is_dropping, kept_at}
use Rattle.rv_core.specs.Masks.{masked}
use Rattle.rv_core.specs.Seen.{watched, watched_by}
use Rattle.rv_core.specs.StepBounds.{IsBound, IsSpecBound}
use Rattle.rv_core.proofs.Keepings.{covers-itself, covers-equal, traces-from, traces-push}
use Rattle.rv_core.proofs.Places.{each-at}
use Rattle.rv_core.proofs.Seeing.{seen-at, same-watched, kept-there}

module _ (rule : Lengths) (m : Machine) (n : ℕ) (t : Trace) (old : List Numbered) where
  -- an equal one is kept
  pub held-stays : (drop : Bool) → IsHeld t old → IsOutcome rule drop m t n old Stays
  held-stays drop (k, c) =
      (inl (k, c), over (k, t) c (covers-itself rule drop (spec_of m) t) refl)

  meets : AllMeet m rule (traces_of (old ++ (n, t) ∷ [])) t → IsPassed rule m t old
  meets all =
      let P : List Trace → Type 0 = λ us. AllMeet m rule us t in
      inr (subst P (traces-push old (n, t)) all)

  -- dominated ones are dropped
  pub leaders-pass : (all new : List Numbered) → AllMeet m rule (traces_of all) t
      → all ≡ old ++ (n, t) ∷ [] → IsNext rule true m t n old new
      → IsOutcome rule true m t n old (Passes new)
  leaders-pass all new meet added next =
      let P : List Numbered → Type 0 = λ ps. AllMeet m rule (traces_of ps) t in
      (meets (subst P added meet), next)

  -- no equal one is kept
  module _ (absent : ¬ IsHeld t old) where
    differ : (p : Numbered) → Contains old p → ¬ (p.1 ≡ t)
    differ p c e = let P : Trace → Type 0 = λ u. Contains old (p.0, u) in absent (p.0, subst P e c)

    module _ (drop : Bool) (equal : is_dropping drop (spec_of m) ≡ false) where
      no-over : Each (λ (p : Numbered). ¬ IsOver rule drop m t p) old
      no-over =
          each-from (λ (p : Numbered). ¬ IsOver rule drop m t p) old (λ p c o.
          differ p c (covers-equal rule (is_dropping drop (spec_of m)) (spec_of m) p.1 t equal o))

      left-all : (ps : List Numbered) → ((p : Numbered) → Contains ps p → ¬ (p.1 ≡ t))
          → AreLeft rule drop m t ps ps
      left-all [] e = none
      left-all (p ∷ ps) e =
          stays p ps ps
          (λ o. e p (contains-here p ps)
          (sym (covers-equal rule (is_dropping drop (spec_of m)) (spec_of m) t p.1 equal o)))
          (left-all ps (λ q c. e q (contains-later p q ps c)))

      pub all-pass : (new : List Numbered) → AllMeet m rule (traces_of new) t
          → new ≡ old ++ (n, t) ∷ [] → IsOutcome rule drop m t n old (Passes new)
      all-pass new all added =
          let P : List Numbered → Type 0 = λ ps. AllMeet m rule (traces_of ps) t in
          (meets (subst P added all), last old no-over (left-all old differ) added)

    walk-bound : (bound : ℕ) → IsSpecBound rule m (traces_of old) t bound
        → IsBound rule m (traces_of (old ++ (n, t) ∷ [])) t bound
    walk-bound bound (inl (c, e)) = let (k, d) = traces-from old t c in absurd (absent (k, d))
    walk-bound bound (inr b) =
        let P : List Trace → Type 0 = λ us. IsBound rule m us t bound in
        subst P (sym (traces-push old (n, t))) b

    -- steps of a walk, by the same letters
    pub walk-steps : (all : List Numbered) (u : Trace) (start end : ℕ) → all ≡ old ++ (n, t) ∷ []
        → u ≡ t
        → ((bound : ℕ) → IsBound rule m (traces_of all) u bound → end ≤ start + bound)
        → (bound : ℕ) → IsSpecBound rule m (traces_of old) t bound → end ≤ start + bound
    walk-steps all u start end added same steps bound b =
        let P : Trace → Type 0 = λ v. IsBound rule m (traces_of all) v bound in
        let Q : List Numbered → Type 0 = λ ps. IsBound rule m (traces_of ps) t bound in
        steps bound (subst P (sym same) (subst Q (sym added) (walk-bound bound b)))

-- What the watch of a spec sees of a trace, the spec does.
pub seen-by : (watches : List Watch) (s : ℕ) (w : Watch) (m : Machine)
    → slice_get watches s ≡ Some w → slice_get (watched_by watches) s ≡ Some m → (t x : Trace)
    → x ≡ masked (spec_of (watched w)) t → x ≡ masked (spec_of m) t
seen-by watches s w m at there t x e =
    e ∙ ap (λ (q : Machine). masked (spec_of q) t) (same-watched watches s w m at there)

-- Where the look-up fails, the trace as the spec sees it is not kept.
pub not-held : (b : Bool) (u t x : Trace) (spec : Spec) (old kept : List Numbered)
    → IsTrue b ↔ IsHeld (masked spec u) old → u ≡ t → old ≡ kept → x ≡ masked spec t → b ≡ false
    → ¬ IsHeld x kept
not-held b u t x spec old kept holds same is seen is_false held =
    let P : Trace → Type 0 = λ v. IsHeld (masked spec v) old in
    let Q : List Numbered → Type 0 = IsHeld (masked spec t) in
    let R : Trace → Type 0 = λ v. IsHeld v kept in
    let yes : b ≡ true = holds.1 (subst P (sym same) (subst Q (sym is) (subst R seen held))) in
    absurd (cc)

-- ---- the spec with a number

-- the traces that are kept for it have arrived
pub numbers-below : (rv : Rv) (s : ℕ) (old : List Numbered) → slice_get rv.kept s ≡ Some old
    → Each (λ (p : Numbered). p.0 < rv.traces) old
numbers-below rv s old is =
    each-at (λ (list : List Numbered). Each (λ (p : Numbered). p.0 < rv.traces) list) rv.kept s old
    rv.below.1 is

module _ (rv : Rv) (t : Trace) (s : ℕ) (w : Watch) (old : List Numbered)
    (at : slice_get rv.watches s ≡ Some w) (is : slice_get rv.kept s ≡ Some old) where
  module _ (m : Machine) (there : slice_get (watched_by rv.watches) s ≡ Some m) where
    same : watched w ≡ m
    same = same_Some _ _ (sym (seen-at rv.watches s w at) ∙ there)

    pub outcome-at : (outcome : Outcome)
        → IsOutcome rv.rule rv.drop_dominated (watched w) t rv.traces old outcome
        → IsOutcome rv.rule rv.drop_dominated m t rv.traces (kept_at rv.kept s) outcome
    outcome-at outcome o =
        let P : Machine → Type 0 =
        λ q. IsOutcome rv.rule rv.drop_dominated q t rv.traces (kept_at rv.kept s) outcome in
        let Q : List Numbered → Type 0 =
        λ ps. IsOutcome rv.rule rv.drop_dominated (watched w) t rv.traces ps outcome in
        subst P same (subst Q (sym (kept-there rv.kept s old is)) o)

    pub bound-at : (bound : ℕ) → IsSpecBound rv.rule m (traces_of (kept_at rv.kept s)) t bound
        → IsSpecBound rv.rule (watched w) (traces_of old) t bound
    bound-at bound b =
        let P : Machine → Type 0 = λ q. IsSpecBound rv.rule q (traces_of old) t bound in
        let Q : List Numbered → Type 0 = λ ps. IsSpecBound rv.rule m (traces_of ps) t bound in
        subst P (sym same) (subst Q (kept-there rv.kept s old is) b)

  -- steps of a walk over what is kept and the trace
  pub walk-at : ((version : List Numbered) → slice_get rv.kept s ≡ Some version → ¬ IsHeld t version)
      → (all : List Numbered) (u : Trace) (start end : ℕ) → all ≡ old ++ (rv.traces, t) ∷ [] → u ≡ t
      → ((bound : ℕ) → IsBound rv.rule (watched w) (traces_of all) u bound → end ≤ start + bound)
      → (m : Machine) (bound : ℕ) → slice_get (watched_by rv.watches) s ≡ Some m
      → IsSpecBound rv.rule m (traces_of (kept_at rv.kept s)) t bound → end ≤ start + bound
  walk-at absent all u start end added same_letters steps m bound there b =
      walk-steps rv.rule (watched w) rv.traces t old (absent old is) all u start end added
      same_letters steps bound (bound-at m there bound b)

-- ---- all specs

-- an equal one is kept for each
pub all-known : (rv : Rv) (t u : Trace) → u ≡ t → AreHeld (watched_by rv.watches) u rv.kept
    → AreNext rv.rule rv.drop_dominated (watched_by rv.watches) rv.traces t rv.kept rv.kept
all-known rv t u same held = record {
  long = rv.below.0 ∙ sym (length-map rv.watches watched);
  passed = λ s m there. (passes s m there).0;
  right = λ s m there. (passes s m there).1;
}
  where
    passes : (s : ℕ) (m : Machine) → slice_get (watched_by rv.watches) s ≡ Some m
        → IsOutcome rv.rule rv.drop_dominated m (masked (spec_of m) t) rv.traces
        (kept_at rv.kept s) Stays
    passes s m there =
        let P : Trace → Type 0 = λ v. AreHeld (watched_by rv.watches) v rv.kept in
        held-stays rv.rule m rv.traces (masked (spec_of m) t) (kept_at rv.kept s) rv.drop_dominated
        (subst P same held s m there)

-- Where the look-up fails, not for each is an equal one kept, by the same lists.
pub not-known : (ms : List Machine) (t u : Trace) (kept later : List (List Numbered)) (b : Bool)
    → IsTrue b ↔ AreHeld ms u kept → b ≡ false → u ≡ t → later ≡ kept → ¬ AreHeld ms t later
not-known ms t u kept later b known off e f all =
    let P : Trace → Type 0 = λ v. AreHeld ms v kept in
    let yes = known.1 (subst P (sym e) (subst (AreHeld ms t) f all)) in
    absurd (cc (yes, off))
