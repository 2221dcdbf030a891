-- How a run ends: in one way; and what lies between a save and its back leaves no trace.
use Rattle.std.proofs.Common.{◌≡◌, ℕ, zero, suc, ◌+◌, ◌<◌, ◌≤◌, ◌⊎◌, ◌↔◌, Bool, true, false, List, [], ◌∷◌, ◌++◌, length, inl, inr, refl, sym, ap, ◌∙◌, subst, arith}
use Rattle.std.proofs.lemmas.Bool.{cases_eq, cases_lt}
use Rattle.hy_bits.specs.Letter.{Letter}
use Rattle.hy_formula.specs.Quantifiers.{Each}
use Rattle.hy_finite.specs.Traces.{Trace}
use Rattle.hy_finite.specs.declared.event.Event.{Event}
use Rattle.hy_finite.specs.declared.event.Event.TheVariants as event
use Rattle.hy_finite.specs.declared.lengths.Lengths.{Lengths}
use Rattle.hy_finite.proofs.Violating.{decided-violates}
use Rattle.rv_core.specs.Histories.{Present, History, Step, refused, goes, step, back_step, arrives}
use Rattle.rv_core.specs.Endings.{Spec, spec_at, ViolatesSpec, IsClean, FirstViolated, Ending, clean, refusal, violation, Comes, Ends, Matched, IsQuiet}
use Rattle.rv_core.proofs.Stepping.{step-whole, step-letter, step-end, step-save, step-back}

module _ (rule : Lengths) (specs : List Spec) where
  pub first-one : (list : List Trace) (s r : ℕ) → FirstViolated rule specs list s
      → FirstViolated rule specs list r → s ≡ r
  first-one list s r p q =
      elim (cases_lt s r) [
        | inl lt ↦ absurd (q.before s lt p.violated)
        | inr le ↦
            elim (cases_lt r s)
            [ inl lt ↦ absurd (p.before r lt q.violated) | inr ge ↦ omega arith ]
      ]

  -- the first below n, or none
  search-first : (list : List Trace) (n : ℕ) → n ≤ length specs
      → ((s : ℕ) × FirstViolated rule specs list s)
      ⊎ ((s : ℕ) → s < n → ¬ ViolatesSpec rule list (spec_at specs s))
  search-first list zero le = inr (λ s lt. absurd (omega arith))
  search-first list (suc n) le =
      elim (search-first list n (omega arith)) [
        | inl found ↦ inl found
        | inr none ↦
            elim (decided-violates rule (spec_at specs n).variables (spec_at specs n).body list) [
              | inl v ↦ inl (n, record { there = omega arith; violated = v; before = none })
              | inr no_v ↦
                  inr (λ s lt.
                  elim (cases_eq n s) [
                    | inl e ↦ let P : ℕ
                        → Type 0 = λ q. ¬ ViolatesSpec rule list (spec_at specs q) in subst P e no_v
                    | inr apart ↦ none s (omega arith)
                  ])
            ]
      ]

  pub judged-list : (list : List Trace)
      → ((s : ℕ) × FirstViolated rule specs list s) ⊎ IsClean rule specs list
  judged-list list = search-first list (length specs) (omega arith)

  -- ---- a run ends in one way, and it ends

  comes-one : (k : ℕ) (arriving : Bool) (s : Step) (P Q : History → Type 0) (x y : Ending)
      → ((h : History) → P h → Q h → x ≡ y)
      → Comes rule specs k arriving s P x → Comes rule specs k arriving s Q y → x ≡ y
  comes-one k true (refused r) P Q x y rest p q = p ∙ sym q
  comes-one k false (refused r) P Q x y rest p q = p ∙ sym q
  comes-one k false (goes h) P Q x y rest p q = rest h p q
  comes-one k true (goes h) P Q x y rest (inl (s, f, e)) (inl (s', f', e')) = e
      ∙ ap (λ n. violation k n h) (first-one h.present.arrived s s' f f') ∙ sym e'
  comes-one k true (goes h) P Q x y rest (inl (s, f, e)) (inr (c, q)) =
      absurd (c s f.there f.violated)
  comes-one k true (goes h) P Q x y rest (inr (c, p)) (inl (s, f, e)) =
      absurd (c s f.there f.violated)
  comes-one k true (goes h) P Q x y rest (inr (c, p)) (inr (c', q)) = rest h p q

  pub ends-one : (k : ℕ) (h : History) (es : List Event) (x y : Ending) → Ends rule specs k h es x
      → Ends rule specs k h es y → x ≡ y
  ends-one k h [] x y p q = p ∙ sym q
  ends-one k h (e ∷ es) x y p q =
      comes-one k (arrives e) (step h e) (λ next. Ends rule specs (suc k) next es x)
      (λ next. Ends rule specs (suc k) next es y) x y
      (λ next p q. ends-one (suc k) next es x y p q) p q

  comes-some : (k : ℕ) (arriving : Bool) (s : Step) (P : Ending → History → Type 0)
      → ((h : History) → (x : Ending) × P x h)
      → (x : Ending) × Comes rule specs k arriving s (P x) x
  comes-some k true (refused r) P rest = (refusal k r, refl)
  comes-some k false (refused r) P rest = (refusal k r, refl)
  comes-some k false (goes h) P rest = rest h
  comes-some k true (goes h) P rest =
      elim (judged-list h.present.arrived) [
        | inl (s, f) ↦ (violation k s h, inl (s, f, refl))
        | inr c ↦ let (x, p) = rest h in (x, inr (c, p))
      ]

  pub ends-some : (k : ℕ) (h : History) (es : List Event) → (x : Ending) × Ends rule specs k h es x
  ends-some k h [] = (clean h, refl)
  ends-some k h (e ∷ es) =
      comes-some k (arrives e) (step h e) (λ x next. Ends rule specs (suc k) next es x)
      (λ next. ends-some (suc k) next es)

  -- ---- clean steps

  abbrev Goes : Bool → Step → History → Type 0
  Goes arriving s next =
      (s ≡ goes next) × (arriving ≡ true → IsClean rule specs next.present.arrived)

  comes-clean : (k : ℕ) (arriving : Bool) (s : Step) (P : History → Type 0) (h' : History)
      → Comes rule specs k arriving s P (clean h')
      → (next : History) × Goes arriving s next × P next
  comes-clean k true (refused r) P h' e = absurd (cc)
  comes-clean k false (refused r) P h' e = absurd (cc)
  comes-clean k false (goes h) P h' p = (h, (refl, λ e. absurd (cc)), p)
  comes-clean k true (goes h) P h' (inl (s, f, e)) = absurd (cc)
  comes-clean k true (goes h) P h' (inr (c, p)) = (h, (refl, λ e. c), p)

  goes-on : (k : ℕ) (arriving : Bool) (s : Step) (P : History → Type 0) (x : Ending)
      (next : History) → Goes arriving s next → Comes rule specs k arriving s P x ↔ P next
  goes-on k arriving s P x next (e, c) = through s e
    where
      here : (b : Bool) → (b ≡ true → IsClean rule specs next.present.arrived)
          → Comes rule specs k b (goes next) P x ↔ P next
      here false c = (λ p. p, λ p. p)
      here true c = (
        λ h. elim h [ inl (s, f, e) ↦ absurd (c refl s f.there f.violated) | inr (_, p) ↦ p ],
        λ p. inr (c refl, p),
      )

      through : (s : Step) → s ≡ goes next → Comes rule specs k arriving s P x ↔ P next
      through s e = let Q : Step
          → Type 0 =
          λ s. Comes rule specs k arriving s P x ↔ P next in subst Q (sym e) (here arriving c)

  -- where the first events are clean, the run ends as the later ones do
  pub ends-after : (k : ℕ) (h : History) (es fs : List Event) (h' : History) (x : Ending)
      → Ends rule specs k h es (clean h')
      → Ends rule specs k h (es ++ fs) x ↔ Ends rule specs (k + length es) h' fs x
  ends-after k h [] fs h' x e =
      let same : h ≡ h' = cc in
      let P : History → Type 0 = λ q. Ends rule specs k h fs x ↔ Ends rule specs (k + 0) q fs x in
      let Q : ℕ → Type 0 = λ q. Ends rule specs k h fs x ↔ Ends rule specs q h fs x in
      let zero : k ≡ k + 0 = omega arith in
      subst P same (subst Q zero (λ p. p, λ p. p))
  ends-after k h (e ∷ es) fs h' x p =
      let (next, g, rest) =
      comes-clean k (arrives e) (step h e)
      (λ next. Ends rule specs (suc k) next es (clean h')) h' p in
      let on = goes-on k (arrives e) (step h e)
      (λ next. Ends rule specs (suc k) next (es ++ fs) x) x next g in
      let more = ends-after (suc k) next es fs h' x rest in
      let add : suc k + length es ≡ k + suc (length es) = omega arith in
      let Q : ℕ → Type 0 = λ q. Ends rule specs q h' fs x in
      (λ q. subst Q add (more.0 (on.0 q)), λ q. on.1 (more.1 (subst Q (sym add) q)))

  -- ---- what lies between a save and its back

  -- the saves of a history are n of its own on those of the base
  abbrev pub OnBase : ℕ → List Present → History → Type 0
  OnBase n base h = (own : List Present) × (length own ≡ n) × (h.saves ≡ own ++ base)

  letter-saves : (h : History) (n : ℕ) (a : Letter) (next : History)
      → step h (event.Letter n a) ≡ goes next → h.saves ≡ next.saves
  letter-saves h n a next e = sym (ap (λ (q : History). q.saves) (step-letter h n a next e))

  end-saves : (h : History) (n : ℕ) (next : History) → step h (event.End n) ≡ goes next
      → h.saves ≡ next.saves
  end-saves h n next e = let (word, known, same) =
      step-end h n next e in sym (ap (λ (q : History). q.saves) same)

  whole-saves : (h : History) (t : Trace) (next : History) → step h (event.Whole t) ≡ goes next
      → h.saves ≡ next.saves
  whole-saves h t next e = sym (ap (λ (q : History). q.saves) (step-whole h t next e))

  save-saves : (h next : History) → step h event.Save ≡ goes next → next.saves ≡ h.present ∷ h.saves
  save-saves h next e = ap (λ (q : History). q.saves) (step-save h next e)

  back-next : (h next : History) (p : Present) (ps : List Present) → h.saves ≡ p ∷ ps
      → step h event.Back ≡ goes next → next ≡ record { present = p; saves = ps }
  back-next h next p ps s e = let P : List Present
      → Type 0 = λ q. back_step q ≡ goes next in let f : back_step (p ∷ ps) ≡ goes next =
      subst P s e in cc

  back-saves : (h next : History) (p : Present) (ps : List Present) → h.saves ≡ p ∷ ps
      → step h event.Back ≡ goes next → next.saves ≡ ps
  back-saves h next p ps s e = ap (λ (q : History). q.saves) (back-next h next p ps s e)

  on-same : (n : ℕ) (base : List Present) (h next : History) → h.saves ≡ next.saves
      → OnBase n base h → OnBase n base next
  on-same n base h next e (own, l, f) = (own, l, sym e ∙ f)

  on-back : (m n : ℕ) (base : List Present) (h next : History) → n ≡ suc m
      → step h event.Back ≡ goes next → OnBase n base h → OnBase m base next
  on-back m n base h next e f ([], l, s) = absurd (omega arith)
  on-back m n base h next e f (p ∷ own, l, s) =
      (own, omega arith, back-saves h next p (own ++ base) s f)

  -- Matched events that are clean leave the saves as they were.
  pub base-kept : (k : ℕ) (es : List Event) (n : ℕ) (base : List Present) (h h' : History)
      → Matched n es → OnBase n base h → Ends rule specs k h es (clean h') → h'.saves ≡ base
  base-kept k [] n base h h' m on e = last n on m
    where
      last : (n : ℕ) → OnBase n base h → n ≡ 0 → h'.saves ≡ base
      last n ([], l, s) z = let same : h' ≡ h = cc in ap (λ (q : History). q.saves) same ∙ s
      last n (p ∷ own, l, s) z = absurd (omega arith)
  base-kept k (e ∷ es) n base h h' m on p =
      let (next, g, rest) =
      comes-clean k (arrives e) (step h e)
      (λ next. Ends rule specs (suc k) next es (clean h')) h' p in
      let (q, mq, onq) = moved e m next g.0 in
      base-kept (suc k) es q base next h' mq onq rest
    where
      moved : (e : Event) → Matched n (e ∷ es) → (next : History) → step h e ≡ goes next
          → (q : ℕ) × Matched q es × OnBase q base next
      moved (event.Whole t) m next g = (n, m, on-same n base h next (whole-saves h t next g) on)
      moved (event.Letter s a) m next g =
          (n, m, on-same n base h next (letter-saves h s a next g) on)
      moved (event.End s) m next g = (n, m, on-same n base h next (end-saves h s next g) on)
      moved event.Save m next g =
          let (own, l, s) =
          on in (
            suc n,
            m,
            (h.present ∷ own, ap suc l, save-saves h next g ∙ ap (λ ps. h.present ∷ ps) s),
          )
      moved event.Back (q, e, m) next g = (q, m, on-back q n base h next e g on)

  -- The events before others end clean where all do.
  pub clean-front : (k : ℕ) (h : History) (es fs : List Event) (h' : History)
      → Ends rule specs k h (es ++ fs) (clean h')
      → (mid : History) × Ends rule specs k h es (clean mid)
  clean-front k h [] fs h' p = (h, refl)
  clean-front k h (e ∷ es) fs h' p =
      let (next, g, rest) =
      comes-clean k (arrives e) (step h e)
      (λ next. Ends rule specs (suc k) next (es ++ fs) (clean h')) h' p in
      let (mid, all) = clean-front (suc k) next es fs h' rest in (
        mid,
        (goes-on k (arrives e) (step h e) (λ next. Ends rule specs (suc k) next es (clean mid))
            (clean mid) next g).1 all,
      )

  -- A save, events that are clean and matched, and a back lead back to where they began.
  pub returned : (k : ℕ) (h : History) (es : List Event) → Matched 0 es → (h' : History)
      → Ends rule specs k h (event.Save ∷ es ++ event.Back ∷ []) (clean h') → h' ≡ h
  returned k h es m h' e =
      let (saved, g, rest) =
      comes-clean k false (step h event.Save)
      (λ next. Ends rule specs (suc k) next (es ++ event.Back ∷ []) (clean h')) h' e in
      let (mid, all) = clean-front (suc k) saved es (event.Back ∷ []) h' rest in
      let at = (ends-after (suc k) saved es (event.Back ∷ []) mid (clean h') all).0 rest in
      let (next, f, done) =
      comes-clean (suc k + length es) false (step mid event.Back)
      (λ next. clean h' ≡ clean next) h' at in
      let base =
      base-kept (suc k) es 0 (h.present ∷ h.saves) saved mid m
      ([], refl, save-saves h saved g.0) all in
      ends-there next done (back-next mid next h.present h.saves base f.0)
    where
      ends-there : (next : History) → clean h' ≡ clean next
          → next ≡ record { present = h.present; saves = h.saves } → h' ≡ h
      ends-there next d n = let same : h' ≡ next = cc in same ∙ n

  -- So what comes later ends as it does without them.
  pub no-trace : (k : ℕ) (h : History) (es fs : List Event) → Matched 0 es → (h' : History)
      → Ends rule specs k h (event.Save ∷ es ++ event.Back ∷ []) (clean h')
      → (x : Ending)
      → Ends rule specs k h ((event.Save ∷ es ++ event.Back ∷ []) ++ fs) x ↔ Ends rule specs
      (k + length (event.Save ∷ es ++ event.Back ∷ [])) h fs x
  no-trace k h es fs m h' e x =
      let P : History → Type 0 =
      λ q. Ends rule specs k h ((event.Save ∷ es ++ event.Back ∷ []) ++ fs) x ↔ Ends rule specs
      (k + length (event.Save ∷ es ++ event.Back ∷ [])) q fs x in
      subst P (returned k h es m h' e)
      (ends-after k h (event.Save ∷ es ++ event.Back ∷ []) fs h' x e)

  -- ---- clean steps keep clean lists

  pub quiet-step : (h : History) (e : Event) (next : History) → IsQuiet rule specs h
      → step h e ≡ goes next → (arrives e ≡ true → IsClean rule specs next.present.arrived)
      → IsQuiet rule specs next
  quiet-step h (event.Whole t) next q e c =
      let P : List Present → Type 0 = Each (λ (p : Present). IsClean rule specs p.arrived) in
      record { now = c refl; saved = subst P (whole-saves h t next e) q.saved }
  quiet-step h (event.End s) next q e c =
      let P : List Present → Type 0 = Each (λ (p : Present). IsClean rule specs p.arrived) in
      record { now = c refl; saved = subst P (end-saves h s next e) q.saved }
  quiet-step h (event.Letter s a) next q e c =
      let P : History → Type 0 = IsQuiet rule specs in
      subst P (sym (step-letter h s a next e)) (record { now = q.now; saved = q.saved })
  quiet-step h event.Save next q e c =
      let P : History → Type 0 = IsQuiet rule specs in
      subst P (sym (step-save h next e)) (record { now = q.now; saved = (q.now, q.saved) })
  quiet-step h event.Back next q e c =
      let (p, ps, known, same) = step-back h next e in
      let P : History → Type 0 = IsQuiet rule specs in
      let Q : List Present → Type 0 = Each (λ (p : Present). IsClean rule specs p.arrived) in
      subst P (sym same) (popped p ps (subst Q known q.saved))
    where
      popped : (p : Present) (ps : List Present)
          → Each (λ (p : Present). IsClean rule specs p.arrived) (p ∷ ps)
          → IsQuiet rule specs (record { present = p; saves = ps })
      popped p ps (here, all) = record { now = here; saved = all }
