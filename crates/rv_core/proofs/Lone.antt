-- Specs of one variable: a trace is judged by itself, and one that is kept does as well as any other.
use Rattle.std.proofs.Common.{◌≡◌, ℕ, ◌+◌, ◌≤◌, Bool, true, false, nat_eq, List, [], ◌∷◌, ◌++◌, length, slice_get, Some, inl, inr, refl, sym, ◌∙◌, subst, arith}
use Rattle.std.specs.List.{Contains}
use Rattle.std.proofs.lemmas.Bool.{eq-eqb}
use Rattle.std.proofs.lemmas.List.Elements.{Contains-push}
use Rattle.hy_base.proofs.Members.{contains-here, contains-cases, contains-none}
use Rattle.hy_formula.specs.Quantifiers.{Each, IsTuple}
use Rattle.hy_finite.specs.declared.lengths.Lengths.{Lengths}
use Rattle.hy_finite.specs.Traces.{Trace, Meets}
use Rattle.fin_monitor.specs.Machines.{Machine}
use Rattle.trace_trie.specs.Numbered.{Numbered, IsHeld, rest_from}
use Rattle.dominance.specs.Dominance.{Dominates}
use Rattle.tuple_walk.specs.Finds.{AreViolating, AllMeet, traces_of}
use Rattle.tuple_walk.specs.JointPrefixes.{Row, IsJointPrefix}
use Rattle.rv_core.specs.declared.arrival.Outcome.TheVariants.{Stays, Passes, Violates}
use Rattle.rv_core.specs.declared.rv.Rv.{Rv}
use Rattle.rv_core.specs.declared.watch.Watch.{Watch}
use Rattle.rv_core.specs.Arrivals.{IsOver, none, IsNext, over, last, IsOutcome}
use Rattle.rv_core.specs.Held.{spec_of}
use Rattle.rv_core.specs.Keeping.{is_dropping, kept_at, CoversIf}
use Rattle.rv_core.specs.Seen.{watched, watched_by}
use Rattle.rv_core.specs.StepBounds.{IsBound, by_joint, by_first, IsSpecBound}
use Rattle.rv_core.proofs.Bounding.{bound-fewer, within-times}
use Rattle.rv_core.proofs.Keepings.{traces-from}
use Rattle.rv_core.proofs.Outcomes.{bound-at}
use Rattle.rv_core.proofs.Seeing.{seen-at}
use Rattle.rv_core.proofs.Sifting.{rest-start}

-- members of a list of one are that one
of-one : {A : Type 0} (x y : A) (list : List A) → Contains list x → Contains (x ∷ []) y
    → Contains list y
of-one {A} x y list has c = elim (contains-cases x y [] c) [
  | inl e ↦ let P : A → Type 0 = Contains list in subst P e has
  | inr later ↦ absurd (contains-none y later)
]

each-of-one : {A : Type 0} (x : A) (ys list : List A) → Contains list x
    → Each (Contains (x ∷ [])) ys → Each (Contains list) ys
each-of-one x [] list has e = tt
each-of-one x (y ∷ ys) list has (here, e) = (of-one x y list has here, each-of-one x ys list has e)

tuple-of-one : {A : Type 0} (x : A) (n : ℕ) (ys list : List A) → Contains list x
    → IsTuple (Contains (x ∷ [])) n ys → IsTuple (Contains list) n ys
tuple-of-one x n ys list has is = record {
  count = is.count;
  members = each-of-one x ys list has is.members;
}

module _ (rule : Lengths) (m : Machine) (t : Trace) (one : m.variables ≡ 1) where
  -- steps of a search for the one tuple
  pub lone-steps : (list : List Trace) (old new : ℕ)
      → ((prefixes : List (List Row))
      → ((rows : List Row) → IsJointPrefix rule list t m.variables rows → Contains prefixes rows)
      → new ≤ old + length prefixes)
      → (bound : ℕ) → IsBound rule m list t bound → new ≤ old + bound
  lone-steps list old new joint bound (by_joint prefixes all) =
      within-times m.variables (length prefixes) old new (omega (arith, one)) (joint prefixes all)
  lone-steps list old new joint bound (by_first prefixes same all) =
      absurd (omega (arith, one, same.two))

  -- steps of the walk, where no equal one is kept
  pub lone-walk : (old : List Numbered) (u : Trace) (start end : ℕ) → u ≡ t → (¬ IsHeld t old)
      → ((bound : ℕ) → IsBound rule m (u ∷ []) u bound → end ≤ start + bound)
      → (bound : ℕ) → IsSpecBound rule m (traces_of old) t bound → end ≤ start + bound
  lone-walk old u start end same absent steps bound (inl (c, e)) =
      let (k, d) = traces-from old t c in absurd (absent (k, d))
  lone-walk old u start end same absent steps bound (inr b) =
      let P : Trace → Type 0 = λ v. IsBound rule m (v ∷ []) v bound in
      let whole = traces_of old ++ t ∷ [] in
      let has = Contains-push (traces_of old) t in
      steps bound (subst P (sym same)
      (bound-fewer rule m t (t ∷ []) whole (λ v c. of-one t v whole has c) bound b))

  -- the one tuple meets the body, among whatever traces
  pub lone-meets : AllMeet m rule (t ∷ []) t → (list : List Trace) → AllMeet m rule list t
  lone-meets meet list [] is c = absurd (contains-none t c)
  lone-meets meet list (u ∷ []) is c =
      elim (contains-cases u t [] c) [
        | inl e ↦
            let P : Trace → Type 0 = λ v. Contains (v ∷ []) u in
            meet (u ∷ []) (record {
              count = is.count;
              members = (subst P e (contains-here u []), tt);
            }) c
        | inr later ↦ absurd (contains-none t later)
      ]
  lone-meets meet list (u ∷ v ∷ us) is c = absurd (omega (arith, one, is.count))

  meets-alone : AllMeet m rule (t ∷ []) t → Meets rule m.body (t ∷ [])
  meets-alone meet =
      meet (t ∷ []) (record { count = sym one; members = (contains-here t [], tt) })
      (contains-here t [])

  -- a trace that satisfies the body is dominated by any other
  lone-dominates : AllMeet m rule (t ∷ []) t → (u : Trace) → Dominates rule m.variables m.body u t
  lone-dominates meet u [] [] some_before some_after count fails = absurd (fails (meets-alone meet))
  lone-dominates meet u (x ∷ before) after some_before some_after count fails =
      absurd (omega (arith, count, one))
  lone-dominates meet u [] (x ∷ after) some_before some_after count fails =
      absurd (omega (arith, count, one))

  lone-over : AllMeet m rule (t ∷ []) t → (drop : Bool) (p : Numbered) → IsOver rule drop m t p
  lone-over meet drop p =
      let P : Bool → Type 0 = λ b. CoversIf b rule (spec_of m) p.1 t in
      subst P (sym (dropped drop (eq-eqb m.variables 1 one))) (lone-dominates meet p.1)
    where
      dropped : (drop : Bool) → nat_eq m.variables 1 ≡ true → is_dropping drop (spec_of m) ≡ true
      dropped true e = refl
      dropped false e = e

  module _ (drop : Bool) (n : ℕ) (old : List Numbered) where
    pub lone-violates : (tuple : List ℕ) → AreViolating m rule ((n, t) ∷ []) tuple
        → IsOutcome rule drop m t n old (Violates tuple)
    lone-violates tuple v =
        let x : Numbered = (n, t) in
        record {
          pairs = v.pairs;
          members = tuple-of-one x m.variables v.pairs (old ++ x ∷ []) (Contains-push old x) v.members;
          same = v.same;
          violates = v.violates;
        }

    pub lone-stays : AllMeet m rule (t ∷ []) t → (p : Numbered) (more : List Numbered)
        → rest_from 0 old ≡ p ∷ more → IsOutcome rule drop m t n old Stays
    lone-stays meet p more e =
        let P : List Numbered → Type 0 = λ list. Contains list p in (
          inr (lone-meets meet (traces_of old ++ t ∷ [])),
          over p (subst P (sym e ∙ rest-start old) (contains-here p more)) (lone-over meet drop p)
              refl,
        )

    pub lone-first : AllMeet m rule (t ∷ []) t → rest_from 0 old ≡ [] → (new : List Numbered)
        → new ≡ old ++ (n, t) ∷ [] → IsOutcome rule drop m t n old (Passes new)
    lone-first meet e new added = (
      inr (lone-meets meet (traces_of old ++ t ∷ [])),
      first old (sym (rest-start old) ∙ e) added,
    )
      where
        first : (list : List Numbered) → list ≡ [] → new ≡ list ++ (n, t) ∷ []
            → IsNext rule drop m t n list new
        first [] none_kept f = last [] tt none f
        first (p ∷ ps) none_kept f = absurd (cc)

-- ---- the spec with a number, which has one variable

module _ (rv : Rv) (t : Trace) (s : ℕ) (w : Watch) (old : List Numbered)
    (at : slice_get rv.watches s ≡ Some w) (is : slice_get rv.kept s ≡ Some old)
    (one : (m : Machine) → slice_get (watched_by rv.watches) s ≡ Some m → m.variables ≡ 1) where
  pub one-at : (watched w).variables ≡ 1
  one-at = one (watched w) (seen-at rv.watches s w at)

  pub lone-at : ((version : List Numbered) → slice_get rv.kept s ≡ Some version → ¬ IsHeld t version)
      → (u : Trace) (start end : ℕ) → u ≡ t
      → ((bound : ℕ) → IsBound rv.rule (watched w) (u ∷ []) u bound → end ≤ start + bound)
      → (m : Machine) (bound : ℕ) → slice_get (watched_by rv.watches) s ≡ Some m
      → IsSpecBound rv.rule m (traces_of (kept_at rv.kept s)) t bound → end ≤ start + bound
  lone-at absent u start end same steps m bound there b =
      lone-walk rv.rule (watched w) t one-at old u start end same (absent old is) steps bound
      (bound-at rv t s w old at is m there bound b)
