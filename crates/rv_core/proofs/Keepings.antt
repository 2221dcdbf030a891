-- What is kept of a list is of it, and covers it.
use Rattle.std.proofs.Common.{◌≡◌, ℕ, ◌<◌, Bool, true, false, nat_eq, List, [], ◌∷◌, ◌++◌, length, map, if◌then◌else◌, inl, inr, refl, sym, ap, ◌∙◌, subst}
use Rattle.std.specs.List.{Contains}
use Rattle.std.proofs.lemmas.List.{length-map}
use Rattle.hy_base.proofs.Members.{contains-here, contains-later, contains-cases, contains-none, map-of}
use Rattle.hy_formula.specs.Quantifiers.{Each}
use Rattle.hy_formula.proofs.Each.{each-from}
use Rattle.hy_finite.specs.declared.lengths.Lengths.{Lengths}
use Rattle.hy_finite.specs.Traces.{Trace}
use Rattle.trace_trie.specs.Numbered.{Numbered}
use Rattle.dominance.specs.Dominance.{Dominates}
use Rattle.dominance.specs.Leaders.{IsAt, numbered}
use Rattle.dominance.specs.Leaders as leaders
use Rattle.dominance.proofs.Leaderships.{kept-apart}
use Rattle.dominance.proofs.Replacements.{over-itself, over-through}
use Rattle.dominance.proofs.Replacements as replaced
use Rattle.tuple_walk.specs.Finds.{traces_of}
use Rattle.rv_core.specs.Endings.{Spec, spec_at}
use Rattle.rv_core.specs.Held.{Held, specs_of, StandsFor, kept_count}
use Rattle.rv_core.specs.Histories.{History}
use Rattle.rv_core.specs.Keeping.{is_dropping, CoversIf, Covers, members_of, IsKept, IsKeptCount, kept_at}
use Rattle.rv_core.specs.Masks.{masked, masked_list}
use Rattle.rv_core.proofs.Masking.{dominates-masked}
use Rattle.rv_core.proofs.Unmasking.{member, unmasked-leaders}

-- ---- pairs and their traces

pub traces-push : (kept : List Numbered) (p : Numbered)
    → traces_of (kept ++ p ∷ []) ≡ traces_of kept ++ p.1 ∷ []
traces-push [] p = refl
traces-push (q ∷ qs) p = ap (λ ts. q.1 ∷ ts) (traces-push qs p)

pub traces-from : (kept : List Numbered) (t : Trace) → Contains (traces_of kept) t
    → (n : ℕ) × Contains kept (n, t)
traces-from [] t c = absurd (contains-none t c)
traces-from (p ∷ ps) t c =
    elim (contains-cases p.1 t (traces_of ps) c) [
      | inl e ↦
          let P : Trace → Type 0 = λ q. Contains (p ∷ ps) (p.0, q) in
          (p.0, subst P e (contains-here p ps))
      | inr later ↦
          let (n, d) = traces-from ps t later in (n, contains-later p (n, t) ps d)
    ]

pub traces-of : (kept : List Numbered) (p : Numbered) → Contains kept p
    → Contains (traces_of kept) p.1
traces-of [] p c = absurd (contains-none p c)
traces-of (q ∷ qs) p c =
    elim (contains-cases q p qs c) [
      | inl e ↦
          let P : Numbered → Type 0 = λ r. Contains (traces_of (q ∷ qs)) r.1 in
          subst P e (contains-here q.1 (traces_of qs))
      | inr later ↦ contains-later q.1 p.1 (traces_of qs) (traces-of qs p later)
    ]

pub member-of : (kept : List Numbered) (p : Numbered) → Contains kept p
    → Contains (members_of kept) (numbered p.0 p.1)
member-of [] p c = absurd (contains-none p c)
member-of (q ∷ qs) p c =
    elim (contains-cases q p qs c) [
      | inl e ↦
          let P : Numbered → Type 0 =
          λ r. Contains (members_of (q ∷ qs)) (numbered r.0 r.1) in
          subst P e (contains-here (numbered q.0 q.1) (members_of qs))
      | inr later ↦
          contains-later (numbered q.0 q.1) (numbered p.0 p.1) (members_of qs)
          (member-of qs p later)
    ]

pub member-from : (kept : List Numbered) (x : leaders.Numbered Trace)
    → Contains (members_of kept) x → Contains kept (x.number, x.item)
member-from [] x c = absurd (contains-none x c)
member-from (q ∷ qs) x c =
    elim (contains-cases (numbered q.0 q.1) x (members_of qs) c) [
      | inl e ↦
          let P : leaders.Numbered Trace → Type 0 =
          λ y. Contains (q ∷ qs) (y.number, y.item) in
          subst P e (contains-here q qs)
      | inr later ↦ contains-later q (x.number, x.item) qs (member-from qs x later)
    ]

-- ---- what covers a trace

module _ (rule : Lengths) where
  itself-if : (b : Bool) (spec : Spec) (t : Trace) → CoversIf b rule spec t t
  itself-if false spec t = refl
  itself-if true spec t = over-itself rule spec.variables spec.body t

  pub covers-itself : (drop : Bool) (spec : Spec) (t : Trace) → Covers rule drop spec t t
  covers-itself drop spec t = itself-if (is_dropping drop spec) spec t

  through-if : (b : Bool) (spec : Spec) (t u v : Trace) → CoversIf b rule spec t u
      → CoversIf b rule spec u v → CoversIf b rule spec t v
  through-if false spec t u v e f = e ∙ f
  through-if true spec t u v p q = over-through rule spec.variables spec.body t u v p q

  pub covers-through : (drop : Bool) (spec : Spec) (t u v : Trace) → Covers rule drop spec t u
      → Covers rule drop spec u v → Covers rule drop spec t v
  covers-through drop spec t u v p q = through-if (is_dropping drop spec) spec t u v p q

  dominates-if : (b : Bool) (spec : Spec) (t u : Trace) → CoversIf b rule spec t u
      → Dominates rule spec.variables spec.body t u
  dominates-if false spec t u e =
      let P : Trace → Type 0 = Dominates rule spec.variables spec.body t in
      subst P e (over-itself rule spec.variables spec.body t)
  dominates-if true spec t u o = o

  dominates : (drop : Bool) (spec : Spec) (t u : Trace) → Covers rule drop spec t u
      → Dominates rule spec.variables spec.body t u
  dominates drop spec t u o = dominates-if (is_dropping drop spec) spec t u o

  -- where dominated ones are not dropped, what covers a trace equals it
  pub covers-equal : (b : Bool) (spec : Spec) (t u : Trace) → b ≡ false
      → CoversIf b rule spec t u → t ≡ u
  covers-equal false spec t u e same = same
  covers-equal true spec t u e o = absurd (cc)

pub not-dropping : (drop : Bool) (spec : Spec) → drop ≡ false → nat_eq spec.variables 1 ≡ false
    → is_dropping drop spec ≡ false
not-dropping false spec e f = f
not-dropping true spec e f = absurd (cc)

-- ---- what is kept is of the list, and covers it

module _ (rule : Lengths) (drop : Bool) (spec : Spec) (list : List Trace) (kept : List Numbered)
    (is : IsKept rule drop spec list kept) where
  pub kept-at : (p : Numbered) → Contains kept p → IsAt list p.0 p.1
  kept-at p c = ((is.exact p.0 p.1).0 (member-of kept p c)).there

  pub kept-among : Each (Contains list) (traces_of kept)
  kept-among =
      each-from (Contains list) (traces_of kept) (λ t c.
      let (n, d) = traces-from kept t c in let (lt, at) = kept-at (n, t) d in (n, lt, at))

  covered : (t : Trace) → Contains list t
      → (u : Trace) × Contains (traces_of kept) u × Covers rule drop spec u t
  covered t (k, lt, e) =
      let (x, c, o) = is.covers k t (lt, e) in
      (x.item, traces-of kept (x.number, x.item) (member-from kept x c), o)

  pub kept-covers : replaced.Covers rule spec.variables spec.body (traces_of kept) list
  kept-covers t c =
      let (u, d, o) = covered t c in (u, d, dominates rule drop spec u t o)

-- ---- what a monitor keeps

module _ (m : Held) (h : History) (s : ℕ) (stands : StandsFor m h)
    (lt : s < length (specs_of m)) where
  pub keeps-count : IsKeptCount m.rule m.drop (spec_at (specs_of m) s) h.present.arrived
      (kept_count m s)
  keeps-count =
      by m.drop (spec_at (specs_of m) s) h.present.arrived (stands.kept.right s lt) stands.count
    where
      by : (b : Bool) (spec : Spec) (list : List Trace)
          → IsKept m.rule b spec (masked_list spec list) (kept_at m.kept s)
          → m.arrived ≡ length list
          → IsKeptCount m.rule b spec list (if b then length (kept_at m.kept s) else m.arrived)
      by false spec list is count = count
      by true spec list is count =
          let kept = members_of (kept_at m.kept s) in (
            map (member list) kept,
            unmasked-leaders (masked spec) (Dominates m.rule spec.variables spec.body)
                (dominates-masked m.rule spec) list kept is,
            sym (length-map kept (member list)
                ∙ length-map (kept_at m.kept s) (λ (p : Numbered). numbered p.0 p.1)),
          )

  pub keeps-apart : (p q : Numbered) → Contains (kept_at m.kept s) p → Contains (kept_at m.kept s) q
      → Covers m.rule m.drop (spec_at (specs_of m) s) p.1 q.1 → p ≡ q
  keeps-apart p q in_p in_q over =
      let spec = spec_at (specs_of m) s in
      let kept = kept_at m.kept s in
      ap (λ (x : leaders.Numbered Trace). (x.number, x.item))
      (kept-apart (Covers m.rule m.drop spec) (covers-itself m.rule m.drop spec)
      (covers-through m.rule m.drop spec) (masked_list spec h.present.arrived) (members_of kept)
      (stands.kept.right s lt) (numbered p.0 p.1) (numbered q.0 q.1) (member-of kept p in_p)
      (member-of kept q in_q) over)

  pub keeps-covers : (t : Trace) → Contains h.present.arrived t
      → (u : Trace) × Contains (traces_of (kept_at m.kept s)) u
      × Covers m.rule m.drop (spec_at (specs_of m) s) u (masked (spec_at (specs_of m) s) t)
  keeps-covers t c =
      let spec = spec_at (specs_of m) s in
      let list = h.present.arrived in
      covered m.rule m.drop spec (masked_list spec list) (kept_at m.kept s)
      (stands.kept.right s lt) (masked spec t) (map-of (masked spec) list t c)
