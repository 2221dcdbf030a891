-- What a duty says at a position, and what members leave after a letter.
use Rattle.std.proofs.Common.{◌≡◌, ℕ, zero, suc, ◌+◌, ◌<◌, ◌≤◌, ◌⊎◌, ◌↔◌, Bool, true, false, cond, List, [], ◌∷◌, ◌++◌, length, map, inl, inr, refl, sym, ap, ◌∙◌, subst, arith}
use Rattle.std.specs.Bool.{beq}
use Rattle.std.specs.List.{Contains}
use Rattle.std.specs.FinSet.{empty, contains}
use Rattle.std.proofs.lemmas.Bool.{cases_eq, eq-eqb, ne_eqb}
use Rattle.hy_base.proofs.Members.{contains-here, contains-later, contains-cases, contains-none}
use Rattle.hy_bits.specs.Sets.{NumberSet}
use Rattle.hy_formula.specs.Temporal.{Span, Within, Words, IsDecided}
use Rattle.hy_formula.specs.Normals.{Normal, HoldsAt}
use Rattle.hy_formula.specs.Quantifiers.{Each}
use Rattle.hy_formula.proofs.Unrolling.{until_step, release_step}
use Rattle.ltl_closure.specs.Nodes.{Node, always, never, literal, and, or, next, weak_next, until, release, node_at, form_of, PartsBelow, Numbers}
use Rattle.fin_monitor.specs.Duties.{Duty, no_duty, strongly, weakly, both, joined, after_node, after_below, after, after_members, after_duty, after_each}
use Rattle.fin_monitor.proofs.Sets.{Has, has-new, has-cases, has-none, has-union}

module _ (span : Span) (words : Words) (form : ℕ → Normal) (j : ℕ) where
  -- the obligations of a duty hold at position j
  pub record IsDone (d : Duty) : Type 0 where
    pub strong : (k : ℕ) → Has d.strong k → Within span j × HoldsAt span words (form k) j
    pub weak : (k : ℕ) → Has d.weak k → Within span j → HoldsAt span words (form k) j

  -- those of some duty do
  abbrev pub SomeDone : List Duty → Type 0
  SomeDone [] = ⊥
  SomeDone (d ∷ ds) = IsDone d ⊎ SomeDone ds

  pub some-done : (ds : List Duty) (d : Duty) → Contains ds d → IsDone d → SomeDone ds
  some-done [] d c h = absurd (contains-none d c)
  some-done (x ∷ xs) d c h = elim (contains-cases x d xs c) [ inl e ↦ inl (let P : Duty → Type 0 = IsDone in subst P (sym e) h) | inr later ↦ inr (some-done xs d later h) ]

  pub done-one : (ds : List Duty) → SomeDone ds → (d : Duty) × Contains ds d × IsDone d
  done-one [] h = absurd h
  done-one (x ∷ xs) (inl h) = (x, contains-here x xs, h)
  done-one (x ∷ xs) (inr h) = let (d, c, done) = done-one xs h in (d, contains-later x d xs c, done)

  pub done-nothing : IsDone no_duty
  done-nothing = record { strong = λ k h. absurd (has-none k h); weak = λ k h. absurd (has-none k h) }

  pub done-strongly : (k : ℕ) → IsDone (strongly k) ↔ (Within span j × HoldsAt span words (form k) j)
  done-strongly k = (
    λ d. d.strong k (has-new empty k),
    λ h. record {
      strong = λ q has. elim (has-cases empty k q has) [ inl e ↦ (let P : ℕ → Type 0 = λ x. Within span j × HoldsAt span words (form x) j in subst P (sym e) h) | inr in_none ↦ absurd (has-none q in_none) ];
      weak = λ q has. absurd (has-none q has);
    },
  )

  pub done-weakly : (k : ℕ) → IsDone (weakly k) ↔ (Within span j → HoldsAt span words (form k) j)
  done-weakly k = (
    λ d. d.weak k (has-new empty k),
    λ h. record {
      strong = λ q has. absurd (has-none q has);
      weak = λ q has. elim (has-cases empty k q has) [ inl e ↦ (let P : ℕ → Type 0 = λ x. Within span j → HoldsAt span words (form x) j in subst P (sym e) h) | inr in_none ↦ absurd (has-none q in_none) ];
    },
  )

  done-both : (x y : Duty) → IsDone (both x y) ↔ (IsDone x × IsDone y)
  done-both x y = (
    λ d. (
      record { strong = λ k h. d.strong k ((has-union x.strong y.strong k).1 (inl h)); weak = λ k h. d.weak k ((has-union x.weak y.weak k).1 (inl h)) },
      record { strong = λ k h. d.strong k ((has-union x.strong y.strong k).1 (inr h)); weak = λ k h. d.weak k ((has-union x.weak y.weak k).1 (inr h)) },
    ),
    λ (d, e). record {
      strong = λ k h. elim ((has-union x.strong y.strong k).0 h) [ inl a ↦ d.strong k a | inr b ↦ e.strong k b ];
      weak = λ k h. elim ((has-union x.weak y.weak k).0 h) [ inl a ↦ d.weak k a | inr b ↦ e.weak k b ];
    },
  )

  pub some-append : (xs ys : List Duty) → SomeDone (xs ++ ys) ↔ (SomeDone xs ⊎ SomeDone ys)
  some-append [] ys = (λ h. inr h, λ h. elim h [ inl x ↦ absurd x | inr y ↦ y ])
  some-append (x ∷ xs) ys =
      let rest = some-append xs ys in (
        λ h. elim h [ inl a ↦ inl (inl a) | inr more ↦ elim (rest.0 more) [ inl b ↦ inl (inr b) | inr c ↦ inr c ] ],
        λ h. elim h [ inl (inl a) ↦ inl a | inl (inr b) ↦ inr (rest.1 (inl b)) | inr c ↦ inr (rest.1 (inr c)) ],
      )

  some-with : (x : Duty) (ys : List Duty) → SomeDone (map (both x) ys) ↔ (IsDone x × SomeDone ys)
  some-with x [] = (λ h. absurd h, λ h. h.1)
  some-with x (y ∷ ys) =
      let here = done-both x y in
      let rest = some-with x ys in (
        λ h. elim h [ inl a ↦ ((here.0 a).0, inl (here.0 a).1) | inr b ↦ ((rest.0 b).0, inr (rest.0 b).1) ],
        λ (a, h). elim h [ inl b ↦ inl (here.1 (a, b)) | inr c ↦ inr (rest.1 (a, c)) ],
      )

  pub some-joined : (xs ys : List Duty) → SomeDone (joined xs ys) ↔ (SomeDone xs × SomeDone ys)
  some-joined [] ys = (λ h. absurd h, λ h. h.0)
  some-joined (x ∷ xs) ys =
      let split = some-append (map (both x) ys) (joined xs ys) in
      let here = some-with x ys in
      let rest = some-joined xs ys in (
        λ h. elim (split.0 h) [ inl a ↦ (inl (here.0 a).0, (here.0 a).1) | inr b ↦ (inr (rest.0 b).0, (rest.0 b).1) ],
        λ (h, u). elim h [ inl a ↦ split.1 (inl (here.1 (a, u))) | inr b ↦ split.1 (inr (rest.1 (b, u))) ],
      )

  some-literal : (a b : Bool) → SomeDone (cond (beq a b) (no_duty ∷ []) []) ↔ (a ≡ b)
  some-literal true true = (λ h. refl, λ e. inl done-nothing)
  some-literal true false = (λ h. absurd h, λ e. cc)
  some-literal false true = (λ h. absurd h, λ e. cc)
  some-literal false false = (λ h. refl, λ e. inl done-nothing)

  one-with : (x : Duty) (ys : List Duty) → SomeDone (joined (x ∷ []) ys) ↔ (IsDone x × SomeDone ys)
  one-with x ys =
      let r = some-joined (x ∷ []) ys in
      (λ h. let (a, b) = r.0 h in (elim a [ inl d ↦ d | inr n ↦ absurd n ], b), λ (a, b). r.1 (inl a, b))

module _ (span : Span) (words : Words) (d : IsDecided span words) (i : ℕ) (there : Within span i) (form : ℕ → Normal) where
  abbrev Leaves : List Duty → ℕ → Type 0
  Leaves ds f = SomeDone span words form (i + 1) ds ↔ HoldsAt span words (form f) i

  -- a member by its parts
  by-node : (parts : ℕ → List Duty) (k : ℕ) (node : Node) → PartsBelow k node → ((f : ℕ) → f < k → Leaves (parts f) f) → form k ≡ form_of form node
      → SomeDone span words form (i + 1) (after_node (λ n v. words n v i) parts k node) ↔ HoldsAt span words (form_of form node) i
  by-node parts k always b ih e = (λ h. tt, λ h. inl (done-nothing span words form (i + 1)))
  by-node parts k never b ih e = (λ h. h, λ h. h)
  by-node parts k (literal c n v) b ih e = some-literal span words form (i + 1) (words n v i) c
  by-node parts k (and g h) (bg, bh) ih e =
      let r = some-joined span words form (i + 1) (parts g) (parts h) in
      (λ x. ((ih g bg).0 (r.0 x).0, (ih h bh).0 (r.0 x).1), λ (x, y). r.1 ((ih g bg).1 x, (ih h bh).1 y))
  by-node parts k (or g h) (bg, bh) ih e =
      let r = some-append span words form (i + 1) (parts g) (parts h) in
      (λ x. elim (r.0 x) [ inl a ↦ inl ((ih g bg).0 a) | inr b ↦ inr ((ih h bh).0 b) ], λ x. elim x [ inl a ↦ r.1 (inl ((ih g bg).1 a)) | inr b ↦ r.1 (inr ((ih h bh).1 b)) ])
  by-node parts k (next g) b ih e =
      let r = done-strongly span words form (i + 1) g in
      (λ x. elim x [ inl a ↦ r.0 a | inr n ↦ absurd n ], λ x. inl (r.1 x))
  by-node parts k (weak_next g) b ih e =
      let r = done-weakly span words form (i + 1) g in
      (λ x. elim x [ inl a ↦ r.0 a | inr n ↦ absurd n ], λ x. inl (r.1 x))
  by-node parts k (until g h) (bg, bh) ih e =
      let r = some-append span words form (i + 1) (parts h) (joined (strongly k ∷ []) (parts g)) in
      let o = one-with span words form (i + 1) (strongly k) (parts g) in
      let s = done-strongly span words form (i + 1) k in
      let P : Normal → Type 0 = λ x. Within span (i + 1) × HoldsAt span words x (i + 1) in
      let u = until_step span words d (form g) (form h) i there in (
        λ x. u.1 (elim (r.0 x) [ inl a ↦ inl ((ih h bh).0 a) | inr b ↦ inr ((ih g bg).0 (o.0 b).1, subst P e (s.0 (o.0 b).0)) ]),
        λ x. elim (u.0 x) [ inl a ↦ r.1 (inl ((ih h bh).1 a)) | inr (b, y) ↦ r.1 (inr (o.1 (s.1 (subst P (sym e) y), (ih g bg).1 b))) ],
      )
  by-node parts k (release g h) (bg, bh) ih e =
      let r = some-append span words form (i + 1) (joined (parts h) (parts g)) (joined (weakly k ∷ []) (parts h)) in
      let q = some-joined span words form (i + 1) (parts h) (parts g) in
      let o = one-with span words form (i + 1) (weakly k) (parts h) in
      let s = done-weakly span words form (i + 1) k in
      let P : Normal → Type 0 = λ x. Within span (i + 1) → HoldsAt span words x (i + 1) in
      let u = release_step span words d (form g) (form h) i there in (
        λ x. u.1 (elim (r.0 x) [ inl a ↦ ((ih h bh).0 (q.0 a).0, inl ((ih g bg).0 (q.0 a).1)) | inr c ↦ ((ih h bh).0 (o.0 c).1, inr (subst P e (s.0 (o.0 c).0))) ]),
        λ x. let (now, rest) = u.0 x in elim rest [ inl a ↦ r.1 (inl (q.1 ((ih h bh).1 now, (ih g bg).1 a))) | inr y ↦ r.1 (inr (o.1 (s.1 (subst P (sym e) y), (ih h bh).1 now))) ],
      )

  module _ (nodes : List Node) (numbers : Numbers nodes form) where
    by-number : (k : ℕ) → k ≤ length nodes → (f : ℕ) → f < k → Leaves (after_below nodes (λ n v. words n v i) k f) f
    by-number zero le f lt = absurd (omega arith)
    by-number (suc k) le f lt = step (λ f lt. by-number k (omega arith) f lt)
      where
        step : ((f : ℕ) → f < k → Leaves (after_below nodes (λ n v. words n v i) k f) f) → Leaves (after_below nodes (λ n v. words n v i) (suc k) f) f
        step ih =
            let P : Bool → Type 0 = λ b. Leaves (cond b (after_node (λ n v. words n v i) (after_below nodes (λ n v. words n v i) k) k (node_at nodes k)) (after_below nodes (λ n v. words n v i) k f)) f in
            elim (cases_eq f k) [
              | inl e ↦
                  let known : form k ≡ form_of form (node_at nodes k) = numbers.forms k (omega arith) in
                  let here = by-node (after_below nodes (λ n v. words n v i) k) k (node_at nodes k) (numbers.parts k (omega arith)) ih known in
                  let Q : Normal → Type 0 = λ x. SomeDone span words form (i + 1) (after_node (λ n v. words n v i) (after_below nodes (λ n v. words n v i) k) k (node_at nodes k)) ↔ HoldsAt span words x i in
                  subst P (sym (eq-eqb f k e)) (subst Q (sym known ∙ ap form (sym e)) here)
              | inr apart ↦ subst P (sym (ne_eqb f k apart)) (ih f (omega arith))
            ]

    pub after-right : (f : ℕ) → f < length nodes → SomeDone span words form (i + 1) (after nodes (λ n v. words n v i) f) ↔ HoldsAt span words (form f) i
    after-right f lt = by-number (length nodes) (omega arith) f lt

    members-right : (set : NumberSet) (j : ℕ) → j ≤ length nodes
        → SomeDone span words form (i + 1) (after_members nodes (λ n v. words n v i) set j) ↔ ((k : ℕ) → k < j → Has set k → HoldsAt span words (form k) i)
    members-right set zero le = (λ h k lt. absurd (omega arith), λ h. inl (done-nothing span words form (i + 1)))
    members-right set (suc j) le = step (contains set j) refl (members-right set j (omega arith))
      where
        step : (b : Bool) → contains set j ≡ b
            → (SomeDone span words form (i + 1) (after_members nodes (λ n v. words n v i) set j) ↔ ((k : ℕ) → k < j → Has set k → HoldsAt span words (form k) i))
            → SomeDone span words form (i + 1) (cond b (joined (after nodes (λ n v. words n v i) j) (after_members nodes (λ n v. words n v i) set j)) (after_members nodes (λ n v. words n v i) set j))
            ↔ ((k : ℕ) → k < suc j → Has set k → HoldsAt span words (form k) i)
        step true has ih =
            let r = some-joined span words form (i + 1) (after nodes (λ n v. words n v i) j) (after_members nodes (λ n v. words n v i) set j) in
            let a = after-right j (omega arith) in (
              λ h k lt hk. let P : ℕ → Type 0 = λ q. HoldsAt span words (form q) i in elim (cases_eq j k) [ inl e ↦ subst P e (a.0 (r.0 h).0) | inr apart ↦ ih.0 (r.0 h).1 k (omega arith) hk ],
              λ all. r.1 (a.1 (all j (omega arith) has), ih.1 (λ k lt hk. all k (omega arith) hk)),
            )
        step false has ih = (
          λ h k lt hk. elim (cases_eq j k) [ inl e ↦ absurd (let f : contains set j ≡ true = ap (contains set) e ∙ hk in cc) | inr apart ↦ ih.0 h k (omega arith) hk ],
          λ all. ih.1 (λ k lt hk. all k (omega arith) hk),
        )

    -- a duty whose members are of the closure
    abbrev pub DutyBelow : Duty → Type 0
    DutyBelow x = (k : ℕ) → (Has x.strong k ⊎ Has x.weak k) → k < length nodes

    duty-right : (x : Duty) → DutyBelow x → SomeDone span words form (i + 1) (after_duty nodes (λ n v. words n v i) x) ↔ IsDone span words form i x
    duty-right x b =
        let r = some-joined span words form (i + 1) (after_members nodes (λ n v. words n v i) x.strong (length nodes)) (after_members nodes (λ n v. words n v i) x.weak (length nodes)) in
        let s = members-right x.strong (length nodes) (omega arith) in
        let w = members-right x.weak (length nodes) (omega arith) in (
          λ h. record { strong = λ k has. (there, s.0 (r.0 h).0 k (b k (inl has)) has); weak = λ k has _. w.0 (r.0 h).1 k (b k (inr has)) has },
          λ done. r.1 (s.1 (λ k lt has. (done.strong k has).1), w.1 (λ k lt has. done.weak k has there)),
        )

    pub each-right : (ds : List Duty) → Each DutyBelow ds → SomeDone span words form (i + 1) (after_each nodes (λ n v. words n v i) ds) ↔ SomeDone span words form i ds
    each-right [] b = (λ h. h, λ h. h)
    each-right (x ∷ xs) (here, b) =
        let r = some-append span words form (i + 1) (after_duty nodes (λ n v. words n v i) x) (after_each nodes (λ n v. words n v i) xs) in
        let p = duty-right x here in
        let q = each-right xs b in
        (λ h. elim (r.0 h) [ inl a ↦ inl (p.0 a) | inr c ↦ inr (q.0 c) ], λ h. elim h [ inl a ↦ r.1 (inl (p.1 a)) | inr c ↦ r.1 (inr (q.1 c)) ])
