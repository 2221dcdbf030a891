-- Words that agree below the judged length.
use Rattle.std.proofs.Common.{◌≡◌, ℕ, zero, suc, ◌+◌, ◌<◌, ◌↔◌, List, [], ◌∷◌, length, map, inl, inr, refl, sym, ap, ◌∙◌, subst, arith, get_or}
use Rattle.std.specs.FinSet.{empty, contains}
use Rattle.std.proofs.lemmas.Bool.{cases_lt}
use Rattle.std.proofs.lemmas.List.{get_or-map, length-map, get_or_past}
use Rattle.hy_formula.specs.Trees.{Tree, always, never, atom, not, next, finally, globally, and, or, implies, iff, until, release, weak}
use Rattle.hy_formula.specs.Temporal.{below, Words, IsUntil, IsRelease, SatisfiesAt}
use Rattle.hy_finite.specs.declared.lengths.Lengths.{Lengths}
use Rattle.hy_finite.specs.declared.lengths.Lengths.TheVariants.{Min, Pad}
use Rattle.hy_finite.specs.Traces.{Trace, of_two, judged, trace_words, Meets, fit}

module _ (m : ℕ) where
  abbrev pub SameBelow : (ℕ → Type 0) → (ℕ → Type 0) → Type 0
  SameBelow P Q = (i : ℕ) → i < m → P i ↔ Q i

  until-there : (P P' Q Q' : ℕ → Type 0) → SameBelow P P' → SameBelow Q Q' → (i : ℕ)
      → IsUntil (below m) P Q i → IsUntil (below m) P' Q' i
  until-there P P' Q Q' p q i (j, le, lt, here, all) =
      (j, le, lt, (q j lt).0 here, λ k from upto. (p k (omega arith)).0 (all k from upto))

  back : (P P' : ℕ → Type 0) → SameBelow P P' → SameBelow P' P
  back P P' p i lt = ((p i lt).1, (p i lt).0)

  nots : (P P' : ℕ → Type 0) → SameBelow P P' → SameBelow (λ i. ¬ P i) (λ i. ¬ P' i)
  nots P P' p i lt = (λ n h. n ((p i lt).1 h), λ n h. n ((p i lt).0 h))

  until-same : (P P' Q Q' : ℕ → Type 0) → SameBelow P P' → SameBelow Q Q'
      → SameBelow (IsUntil (below m) P Q) (IsUntil (below m) P' Q')
  until-same P P' Q Q' p q i lt =
      (until-there P P' Q Q' p q i, until-there P' P Q' Q (back P P' p) (back Q Q' q) i)

  release-same : (P P' Q Q' : ℕ → Type 0) → SameBelow P P' → SameBelow Q Q'
      → SameBelow (IsRelease (below m) P Q) (IsRelease (below m) P' Q')
  release-same P P' Q Q' p q = nots _ _ (until-same _ _ _ _ (nots P P' p) (nots Q Q' q))

module _ (m : ℕ) (words others : Words) (same : (name variable i : ℕ) → i < m → words name variable
    i ≡ others name variable i) where
  abbrev Agrees : Tree → Type 0
  Agrees f = SameBelow m (SatisfiesAt (below m) words f) (SatisfiesAt (below m) others f)

  pub agrees : (f : Tree) → Agrees f
  agrees always i lt = (λ h. h, λ h. h)
  agrees never i lt = (λ h. h, λ h. h)
  agrees (atom n v) i lt = (λ h. sym (same n v i lt) ∙ h, λ h. same n v i lt ∙ h)
  agrees (not f) i lt = let p : Agrees f = agrees f in nots m _ _ p i lt
  agrees (next f) i lt =
      let p : Agrees f = agrees f in (
        λ (there, h). (there, (p (i + 1) there).0 h),
        λ (there, h).
            (there, (p (i + 1) there).1 h),
      )
  agrees (finally g) i lt =
      let q : Agrees g = agrees g in until-same m _ _ _ _ (λ k _. (λ h. h, λ h. h)) q i lt
  agrees (globally g) i lt =
      let q : Agrees g = agrees g in release-same m _ _ _ _ (λ k _. (λ h. h, λ h. h)) q i lt
  agrees (and f g) i lt =
      let p : Agrees f = agrees f in
      let q : Agrees g = agrees g in
      (λ (a, b). ((p i lt).0 a, (q i lt).0 b), λ (a, b). ((p i lt).1 a, (q i lt).1 b))
  agrees (or f g) i lt =
      let p : Agrees f = agrees f in
      let q : Agrees g = agrees g in (
        λ h. elim h [
          | inl a ↦ inl ((p i lt).0 a)
          | inr b ↦ inr
              ((q i lt).0 b)
        ],
        λ h. elim h [ inl a ↦ inl ((p i lt).1 a) | inr b ↦ inr ((q i lt).1 b) ],
      )
  agrees (implies f g) i lt =
      let p : Agrees f = agrees f in
      let q : Agrees g = agrees g in
      (λ h a. (q i lt).0 (h ((p i lt).1 a)), λ h a. (q i lt).1 (h ((p i lt).0 a)))
  agrees (iff f g) i lt =
      let p : Agrees f = agrees f in
      let q : Agrees g = agrees g in (
        λ (h, u). (λ a. (q i lt).0 (h ((p i lt).1 a)), λ a. (p i lt).0 (u ((q i lt).1 a))),
        λ (h, u). (λ a. (q i lt).1 (h ((p i lt).0 a)), λ a. (p i lt).1 (u ((q i lt).0 a))),
      )
  agrees (until f g) i lt =
      let p : Agrees f = agrees f in
      let q : Agrees g = agrees g in until-same m _ _ _ _ p q i lt
  agrees (release f g) i lt =
      let p : Agrees f = agrees f in
      let q : Agrees g = agrees g in release-same m _ _ _ _ p q i lt
  agrees (weak f g) i lt =
      let p : Agrees f = agrees f in
      let q : Agrees g = agrees g in
      release-same m _ _ _ _ q
      (λ k within. (
        λ h. elim h [ inl a ↦ inl ((p k within).0 a) | inr b ↦ inr ((q k within).0 b) ],
        λ h. elim h [ inl a ↦ inl ((p k within).1 a) | inr b ↦ inr ((q k within).1 b) ],
      )) i lt

-- ---- a tuple and its traces, each cut or filled up to the judged length

pub length-fit : (m : ℕ) (t : Trace) → length (fit m t) ≡ m
length-fit zero t = refl
length-fit (suc m) [] = ap suc (length-fit m [])
length-fit (suc m) (a ∷ t) = ap suc (length-fit m t)

pub fit-at : (m : ℕ) (t : Trace) (i : ℕ) → i < m → get_or (fit m t) i empty ≡ get_or t i empty
fit-at zero t i lt = absurd (omega arith)
fit-at (suc m) [] zero lt = refl
fit-at (suc m) [] (suc i) lt = fit-at m [] i (omega arith)
fit-at (suc m) (a ∷ t) zero lt = refl
fit-at (suc m) (a ∷ t) (suc i) lt = fit-at m t i (omega arith)

of_two-same : (lengths : Lengths) (m : ℕ) → of_two lengths m m ≡ m
of_two-same Min m = omega arith
of_two-same Pad m = omega arith

pub judged-fit : (lengths : Lengths) (m : ℕ) (t : Trace) (ts : List Trace)
    → judged lengths (map (fit m) (t ∷ ts)) ≡ m
judged-fit lengths m t [] = length-fit m t
judged-fit lengths m t (u ∷ us) =
    ap (λ x. of_two lengths x (judged lengths (map (fit m) (u ∷ us)))) (length-fit m t)
    ∙ ap (of_two lengths m) (judged-fit lengths m u us) ∙ of_two-same lengths m

words-fit : (m : ℕ) (tuple : List Trace) (n v i : ℕ) → i < m
    → trace_words (map (fit m) tuple) n v i ≡ trace_words tuple n v i
words-fit m tuple n v i lt =
    elim (cases_lt v (length tuple)) [
      | inl there ↦ ap (λ t. contains (get_or t i empty) n) (get_or-map
          (fit m) tuple v [] [] there) ∙ ap (λ a. contains a n) (fit-at m (get_or tuple v []) i lt)
      | inr past ↦
          let l = length-map tuple (fit m) in
          ap (λ t. contains (get_or t i empty) n) (get_or_past (map (fit m) tuple) v [] (omega
          (arith, l)) ∙ sym (get_or_past tuple v [] past))
    ]

-- A tuple is judged as its traces of the judged length are.
pub fitted : (lengths : Lengths) (body : Tree) (tuple : List Trace) → 0 < judged lengths tuple
    → Meets lengths body tuple ↔ Meets lengths body (map (fit (judged lengths tuple)) tuple)
fitted lengths body [] some = absurd (omega arith)
fitted lengths body (t ∷ ts) some =
    let tuple : List Trace = t ∷ ts in
    let m : ℕ = judged lengths tuple in
    let e : judged lengths (map (fit m) tuple) ≡ m = judged-fit lengths m t ts in
    let a = agrees m (trace_words tuple) (trace_words (map (fit m) tuple)) (λ n v i lt. sym
    (words-fit m tuple n v i lt)) body 0 some in
    let P : ℕ → Type 0 = λ k. SatisfiesAt (below k) (trace_words (map (fit m) tuple)) body 0 in
    (λ h. subst P (sym e) (a.0 h), λ h. a.1 (subst P e h))
