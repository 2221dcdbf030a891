-- Until and release at a position, by what they say at the next.
use Rattle.std.proofs.Common.{ℕ, ◌+◌, ◌≤◌, ◌⊎◌, ◌↔◌, true, false, inl, inr, sym, subst, arith}
use Rattle.std.proofs.lemmas.Bool.{cases_eq, false_from_ne_true}
use Rattle.hy_formula.specs.Trees as tree
use Rattle.hy_formula.specs.Temporal.{Span, endless, below, Within, Words, IsUntil, SatisfiesAt, Decided, IsDecided}
use Rattle.hy_formula.specs.Normals.{Normal, always, never, literal, and, or, next, weak_next, until, release, IsHeld, HoldsAt}
use Rattle.hy_formula.proofs.Deciding.{decided-like}
use Rattle.hy_formula.proofs.Normalising.{Same, until-right, release-right}

-- what lies before a position that is there is there
pub within-down : (span : Span) (i j : ℕ) → i ≤ j → Within span j → Within span i
within-down endless i j le within = tt
within-down (below m) i j le within = omega arith

module _ (span : Span) (P Q : ℕ → Type 0) (i : ℕ) where
  pub until-unrolled : Within span i → IsUntil span P Q i ↔ (Q i ⊎ (P i × (Within span (i + 1) × IsUntil span P Q (i + 1))))
  until-unrolled there = (open_up, close)
    where
      open_up : IsUntil span P Q i → Q i ⊎ (P i × (Within span (i + 1) × IsUntil span P Q (i + 1)))
      open_up (j, from, within, here, all) =
          elim (cases_eq i j) [
            | inl e ↦ inl (subst Q (sym e) here)
            | inr apart ↦
                inr (all i (omega arith) (omega arith), (within-down span (i + 1) j (omega arith) within, (j, omega arith, within, here, λ k le lt. all k (omega arith) lt)))
          ]

      close : Q i ⊎ (P i × (Within span (i + 1) × IsUntil span P Q (i + 1))) → IsUntil span P Q i
      close (inl here) = (i, omega arith, there, here, λ k le lt. absurd (omega arith))
      close (inr (now, (_, (j, from, within, here, all)))) =
          (j, omega arith, within, here, λ k le lt. elim (cases_eq i k) [ inl e ↦ subst P e now | inr apart ↦ all k (omega arith) lt ])

  pub held-unrolled : Within span i → Decided (P i) → IsHeld span P Q i ↔ (Q i × (P i ⊎ (Within span (i + 1) → IsHeld span P Q (i + 1))))
  held-unrolled there known = (λ held. (now held, later held known), close)
    where
      now : IsHeld span P Q i → Q i
      now held = elim (held i (omega arith) there) [ inl here ↦ here | inr (k, le, lt, p) ↦ absurd (omega arith) ]

      later : IsHeld span P Q i → Decided (P i) → P i ⊎ (Within span (i + 1) → IsHeld span P Q (i + 1))
      later held (inl p) = inl p
      later held (inr not_p) =
          inr (λ _ j from within.
          elim (held j (omega arith) within) [
            | inl here ↦ inl here
            | inr (k, le, lt, p) ↦ elim (cases_eq i k) [ inl e ↦ absurd (not_p (subst P (sym e) p)) | inr apart ↦ inr (k, omega arith, lt, p) ]
          ])

      close : Q i × (P i ⊎ (Within span (i + 1) → IsHeld span P Q (i + 1))) → IsHeld span P Q i
      close (here, rest) j from within =
          elim (cases_eq i j) [
            | inl e ↦ inl (subst Q e here)
            | inr apart ↦
                elim rest [
                  | inl p ↦ inr (i, omega arith, omega arith, p)
                  | inr held ↦ elim (held (within-down span (i + 1) j (omega arith) within) j (omega arith) within) [ inl q ↦ inl q | inr (k, le, lt, p) ↦ inr (k, omega arith, lt, p) ]
                ]
          ]

-- ---- normal forms are decided where trees are

-- a tree that says the same
abbrev pub plain : Normal → tree.Tree
plain always = tree.always
plain never = tree.never
plain (literal true n v) = tree.atom n v
plain (literal false n v) = tree.not (tree.atom n v)
plain (and f g) = tree.and (plain f) (plain g)
plain (or f g) = tree.or (plain f) (plain g)
plain (next f) = tree.next (plain f)
plain (weak_next f) = tree.not (tree.next (tree.not (plain f)))
plain (until f g) = tree.until (plain f) (plain g)
plain (release f g) = tree.release (plain f) (plain g)

module _ (span : Span) (words : Words) (d : IsDecided span words) where
  pub plain-right : (f : Normal) → Same (HoldsAt span words f) (SatisfiesAt span words (plain f))
  plain-right always i = (λ h. h, λ h. h)
  plain-right never i = (λ h. h, λ h. h)
  plain-right (literal true n v) i = (λ h. h, λ h. h)
  plain-right (literal false n v) i = (λ e h. cc, λ h. false_from_ne_true _ h)
  plain-right (and f g) i =
      let p : Same (HoldsAt span words f) (SatisfiesAt span words (plain f)) = plain-right f in
      let q : Same (HoldsAt span words g) (SatisfiesAt span words (plain g)) = plain-right g in
      (λ (a, b). ((p i).0 a, (q i).0 b), λ (a, b). ((p i).1 a, (q i).1 b))
  plain-right (or f g) i =
      let p : Same (HoldsAt span words f) (SatisfiesAt span words (plain f)) = plain-right f in
      let q : Same (HoldsAt span words g) (SatisfiesAt span words (plain g)) = plain-right g in
      (λ h. elim h [ inl a ↦ inl ((p i).0 a) | inr b ↦ inr ((q i).0 b) ], λ h. elim h [ inl a ↦ inl ((p i).1 a) | inr b ↦ inr ((q i).1 b) ])
  plain-right (next f) i =
      let p : Same (HoldsAt span words f) (SatisfiesAt span words (plain f)) = plain-right f in
      (λ (w, h). (w, (p (i + 1)).0 h), λ (w, h). (w, (p (i + 1)).1 h))
  plain-right (weak_next f) i =
      let p : Same (HoldsAt span words f) (SatisfiesAt span words (plain f)) = plain-right f in (
        λ h (w, n). n ((p (i + 1)).0 (h w)),
        λ n w. (p (i + 1)).1 (elim (d (plain f) (i + 1)) [ inl s ↦ s | inr no_s ↦ absurd (n (w, no_s)) ]),
      )
  plain-right (until f g) i = until-right span _ _ _ _ i (plain-right f) (plain-right g)
  plain-right (release f g) i = release-right span _ _ _ _ i (plain-right f) (plain-right g) (d (plain f)) (d (plain g))

  pub decided-normal : (f : Normal) (i : ℕ) → Decided (HoldsAt span words f i)
  decided-normal f i = let p = plain-right f i in decided-like p.1 p.0 (d (plain f) i)

  pub until_step : (f g : Normal) (i : ℕ) → Within span i → HoldsAt span words (until f g) i ↔ HoldsAt span words (or g (and f (next (until f g)))) i
  until_step f g i = until-unrolled span (HoldsAt span words f) (HoldsAt span words g) i

  pub release_step : (f g : Normal) (i : ℕ) → Within span i → HoldsAt span words (release f g) i ↔ HoldsAt span words (and g (or f (weak_next (release f g)))) i
  release_step f g i there = held-unrolled span (HoldsAt span words f) (HoldsAt span words g) i there (decided-normal f i)
