-- Loops that rewrite a row place by place.
use Rattle.std.proofs.Common.{◌≡◌, ℕ, suc, ◌+◌, ◌-◌, ◌<◌, ◌≤◌, ◌⊎◌, ◌↔◌, Bool, true, false, not, ◌&&◌, ◌||◌, List, length, set, EachIndex, refl, sym, ap, ◌∙◌, inl, inr, subst, arith}
use Rattle.std.specs.Bool.{Decides}
use Rattle.std.proofs.lemmas.Bool.{cases_eq}
use Rattle.std.proofs.lemmas.Bool.Decides.{Decides-at, Decides-like, Decides-not, Decides-or}
use Rattle.std.proofs.lemmas.List.{get_or-set_same, get_or-set_other}
use Rattle.std.proofs.Math.ListN.{length-set}
use Rattle.hy_base.proofs.Truths.{decides-itself}
use Rattle.hy_formula.specs.Temporal.{endless, below, IsUntil, IsRelease}
use Rattle.hy_formula.proofs.Repeating.{Steady, until-near, steady-until}
use Rattle.hy_formula.proofs.Unrolling.{until-unrolled}
use Rattle.hy_lasso.specs.Rows.{value_at, place, around, Says, Tells}
use Rattle.hy_lasso.proofs.Places.{place-within, says-steady, tells-everywhere, around-first, around-round}

-- The row holds new values below place i, and the old ones from there on.
pub record Rewritten (old new : List Bool) (f : ℕ → Bool) (i : ℕ) : Type 0 where
  pub long : length new ≡ length old
  pub below : (k : ℕ) → k < i → value_at new k ≡ f k
  pub above : (k : ℕ) → i ≤ k → value_at new k ≡ value_at old k

-- until at a position, by what its sides say there and until at the next
pub unrolled-by : (P Q : ℕ → Type 0) (U V : Type 0) (p q later : Bool) (i : ℕ) → V ↔ (Q i ⊎ (P i × U)) → Decides p (P i) → Decides q (Q i) → Decides later U → Decides (q || (p && later)) V
unrolled-by P Q U V p true later i step dp dq dl = (λ _. step.1 (inl (dq.0 refl)), λ _. refl)
unrolled-by P Q U V true false later i step dp dq dl =
    (λ e. step.1 (inr (dp.0 refl, dl.0 e)), λ v. elim (step.0 v) [ inl q ↦ absurd (differ (dq.1 q)) | inr (p, u) ↦ dl.1 u ])
  where
    differ : false ≡ true → ⊥
    differ e = cc
unrolled-by P Q U V false false later i step dp dq dl =
    (λ e. absurd (cc), λ v. elim (step.0 v) [ inl q ↦ dq.1 q | inr (p, u) ↦ dp.1 p ])

until-next : (P Q : ℕ → Type 0) (i : ℕ) → IsUntil endless P Q i ↔ (Q i ⊎ (P i × IsUntil endless P Q (i + 1)))
until-next P Q i =
    let u = until-unrolled endless P Q i tt in (
      λ h. elim (u.0 h) [ inl q ↦ inl q | inr (p, (_, later)) ↦ inr (p, later) ],
      λ h. elim h [ inl q ↦ u.1 (inl q) | inr (p, later) ↦ u.1 (inr (p, (tt, later))) ],
    )

until-next_below : (m : ℕ) (P Q : ℕ → Type 0) (i : ℕ) → i < m → IsUntil (below m) P Q i ↔ (Q i ⊎ (P i × IsUntil (below m) P Q (i + 1)))
until-next_below m P Q i lt =
    let u = until-unrolled (below m) P Q i lt in (
      λ h. elim (u.0 h) [ inl q ↦ inl q | inr (p, (_, later)) ↦ inr (p, later) ],
      λ h. elim h [ inl q ↦ u.1 (inl q) | inr (p, (j, from, within, here, all)) ↦ u.1 (inr (p, (omega arith, (j, from, within, here, all)))) ],
    )

-- the value at a place decides what the row says there
pub says-at : (s : ℕ) (row : List Bool) → s < length row → (i : ℕ) → i < length row → Decides (value_at row i) (Says s row i)
says-at s row some i lt = Decides-at _ _ (sym (around-first s (length row) row some refl i lt)) (decides-itself (around s row i))

-- ---- once round the cycle, from its end to the place s

module _ (s : ℕ) (P : ℕ → Type 0) (row : List Bool) where
  pub seam-more : (q p later v : Bool) (i j : ℕ) → s < length row → Decides later (IsUntil (below (length row)) P (Says s row) j) → suc i ≡ j → i < length row → q ≡ value_at row i → Decides p (P i) → v ≡ (q || (p && later)) → Decides v (IsUntil (below (length row)) P (Says s row) i)
  seam-more q p later v i j some here next lt dq dp e =
      let later_here : Decides later (IsUntil (below (length row)) P (Says s row) (i + 1)) =
      let F : ℕ → Type 0 = λ k. Decides later (IsUntil (below (length row)) P (Says s row) k) in let same : j ≡ i + 1 = omega (arith, next) in subst F same here
      in
      Decides-at _ _ e (
      unrolled-by P (Says s row) _ _ p q later i (until-next_below (length row) P (Says s row) i lt) dp
      (Decides-at _ _ dq (says-at s row some i lt))
      later_here
      )

  pub seam-end : (later : Bool) → s < length row → Steady s (length row - s) P → Decides later (IsUntil (below (length row)) P (Says s row) s) → Decides later (IsUntil endless P (Says s row) s)
  seam-end later some steady here =
      let near = until-near s (length row - s) (length row) (omega arith) P (Says s row) steady (says-steady s row) s (omega arith) (omega arith) in
      Decides-like _ near.1 near.0 here

-- ---- the row, from its end to its first place

-- From place i on the row says where U holds, and `later` says whether it holds at place i.
pub record Told (U : ℕ → Type 0) (old new : List Bool) (later : Bool) (i : ℕ) : Type 0 where
  pub long : length new ≡ length old
  pub before : (k : ℕ) → k < i → value_at new k ≡ value_at old k
  pub here : Decides later (U i)
  pub told : (k : ℕ) → i ≤ k → k < length old → Decides (value_at new k) (U k)

-- one place more, with the value that is written there
told-write : (U : ℕ → Type 0) (old new : List Bool) (later v : Bool) (i : ℕ) → Told U old new later (suc i) → i < length new → Decides v (U i) → Told U old (set new i v) v i
told-write U old new later v i t lt d = record { long = length-set new i v ∙ t.long; before = before; here = d; told = told }
  where
    before : (k : ℕ) → k < i → value_at (set new i v) k ≡ value_at old k
    before k within = get_or-set_other new i k v false (λ same. absurd (omega arith)) ∙ t.before k (omega arith)

    told : (k : ℕ) → i ≤ k → k < length old → Decides (value_at (set new i v) k) (U k)
    told k le within =
        elim (cases_eq k i) [
          | inl same ↦
              let F : ℕ → Type 0 = λ j. Decides (value_at (set new i v) j) (U j) in
              subst F (sym same) (Decides-at _ _ (get_or-set_same new i v false lt) d)
          | inr apart ↦ Decides-at _ _ (get_or-set_other new i k v false apart) (t.told k (omega arith) within)
        ]

module _ (s : ℕ) (P : ℕ → Type 0) (row : List Bool) (some : s < length row) where
  abbrev U : ℕ → Type 0
  U i = IsUntil endless P (Says s row) i

  pub told-begin : (later : Bool) → Steady s (length row - s) P → Decides later (U s) → Told U row row later (length row)
  told-begin later steady d =
      let round = steady-until s (length row - s) P (Says s row) steady (says-steady s row) s (omega arith) in
      let e : s + (length row - s) ≡ length row = omega arith in
      let F : ℕ → Type 0 = λ k. Decides later (U k) in
      record {
        long = refl;
        before = λ k lt. refl;
        here = subst F e (Decides-like _ round.1 round.0 d);
        told = λ k le lt. absurd (omega arith);
      }

  -- one place more, where p says whether P holds there
  pub told-more : (new result : List Bool) (q p later v : Bool) (j i : ℕ) → Told U row new later j → suc i ≡ j → i < length row → q ≡ value_at new i → Decides p (P i) → v ≡ (q || (p && later)) → result ≡ set new i v → Told U row result v i
  told-more new result q p later v j i t next lt dq dp told written =
      let t' : Told U row new later (suc i) = rw (sym next) at t in
      let e : suc i ≡ i + 1 = omega arith in
      let F : ℕ → Type 0 = λ k. Decides later (U k) in
      rw written (
      told-write U row new later v i t' (omega (arith, lt, t'.long)) (
      Decides-at _ _ told (
      unrolled-by P (Says s row) (U (i + 1)) (U i) p q later i (until-next P (Says s row) i) dp
      (Decides-at _ _ (dq ∙ t'.before i (omega arith)) (says-at s row some i lt))
      (subst F e t'.here)
      )
      )
      )

  pub told-end : (new : List Bool) (later : Bool) → Steady s (length row - s) P → Told U row new later 0 → Tells s (length row) new U
  told-end new later steady t =
      tells-everywhere s (length row) new U some t.long (steady-until s (length row - s) P (Says s row) steady (says-steady s row)) (λ i lt. t.told i (omega arith) lt)

-- ---- next

pub next-told : (s : ℕ) (old mid new : List Bool) (last : ℕ) → s < length old → last + 1 ≡ length old → Rewritten old mid (λ k. value_at old (k + 1)) last → new ≡ set mid last (value_at old s) → Tells s (length old) new (λ i. Says s old (i + 1))
next-told s old mid new last some end t written =
    tells-everywhere s (length old) new (λ i. Says s old (i + 1)) some (let e = length-set mid last (value_at old s) in rw written (e ∙ t.long)) steady right
  where
    steady : Steady s (length old - s) (λ i. Says s old (i + 1))
    steady i le =
        let e : i + (length old - s) + 1 ≡ i + 1 + (length old - s) = omega arith in
        let F : ℕ → Type 0 = Says s old in
        let h = says-steady s old (i + 1) (omega arith) in
        (λ x. h.0 (subst F e x), λ x. subst F (sym e) (h.1 x))

    right : (i : ℕ) → i < length old → Decides (value_at new i) (Says s old (i + 1))
    right i lt =
        elim (cases_eq i last) [
          | inl same ↦
              let value : value_at new i ≡ value_at old s = rw (written, same) (get_or-set_same mid last (value_at old s) false (omega (arith, t.long))) in
              let round = around-round s old some in
              let e : length old ≡ i + 1 = omega (arith, same, end) in
              Decides-at _ _ (value ∙ sym round ∙ ap (around s old) e) (decides-itself (around s old (i + 1)))
          | inr apart ↦
              let value : value_at new i ≡ value_at old (i + 1) = rw written (get_or-set_other mid last i (value_at old s) false apart ∙ t.below i (omega arith)) in
              Decides-at _ _ value (says-at s old some (i + 1) (omega arith))
        ]

-- a row as long as another
pub steady-even : (s : ℕ) (left right : List Bool) → length left ≡ length right → Steady s (length right - s) (Says s left)
steady-even s left right even = let F : ℕ → Type 0 = λ n. Steady s (n - s) (Says s left) in subst F even (says-steady s left)

-- ---- release, by until of the negations

-- until of facts that hold at the same positions
pub until-like : (P Q P' Q' : ℕ → Type 0) → ((k : ℕ) → P k → P' k) → ((k : ℕ) → Q k → Q' k) → (i : ℕ) → IsUntil endless P Q i → IsUntil endless P' Q' i
until-like P Q P' Q' f g i (j, from, within, here, all) = (j, from, within, g j here, λ k le lt. f k (all k le lt))

pub tells-like : (s m : ℕ) (row : List Bool) (P Q : ℕ → Type 0) → Tells s m row P → ((i : ℕ) → P i ↔ Q i) → Tells s m row Q
tells-like s m row P Q t same = record { some = t.some; long = t.long; right = λ i. Decides-like _ (same i).0 (same i).1 (t.right i) }

pub tells-long : (s n m : ℕ) (row : List Bool) (P : ℕ → Type 0) → n ≡ m → Tells s n row P → Tells s m row P
tells-long s n m row P e t = let lt = t.some in record { some = omega (arith, lt, e); long = t.long ∙ e; right = t.right }

pub around-not : (s : ℕ) (old new : List Bool) → s < length old → length new ≡ length old → EachIndex old (λ i. value_at new i ≡ not (value_at old i)) → (i : ℕ) → around s new i ≡ not (around s old i)
around-not s old new some long values i =
    ap (λ n. value_at new (place s (n - s) i)) long
    ∙ values (place s (length old - s) i) (let lt = place-within s (length old - s) i (omega arith) in omega (arith, lt))

pub tells-not : (s m : ℕ) (old new : List Bool) (P : ℕ → Type 0) → Tells s m old P → length new ≡ length old → EachIndex old (λ i. value_at new i ≡ not (value_at old i)) → Tells s m new (λ i. ¬ P i)
tells-not s m old new P t long values =
    record {
      some = t.some;
      long = long ∙ t.long;
      right = λ i. Decides-at _ _ (around-not s old new (let lt = t.some in omega (arith, lt, t.long)) long values i) (Decides-not _ (t.right i));
    }

pub release-told : (s m : ℕ) (P Q P' Q' : ℕ → Type 0) (some_until new : List Bool) → ((k : ℕ) → P' k ↔ (¬ P k)) → ((k : ℕ) → Q' k ↔ (¬ Q k)) → Tells s m some_until (IsUntil endless P' Q') → length new ≡ length some_until → EachIndex some_until (λ i. value_at new i ≡ not (value_at some_until i)) → Tells s m new (IsRelease endless P Q)
release-told s m P Q P' Q' u new p q t long values =
    tells-not s m u new _
    (tells-like s m u _ _ t (λ i. (until-like _ _ _ _ (λ k. (p k).0) (λ k. (q k).0) i, until-like _ _ _ _ (λ k. (p k).1) (λ k. (q k).1) i)))
    long
    values

-- what a negated row says
pub says-not : (s : ℕ) (old new : List Bool) → s < length old → length new ≡ length old → EachIndex old (λ i. value_at new i ≡ not (value_at old i)) → (k : ℕ) → Says s new k ↔ (¬ Says s old k)
says-not s old new some long values k = Decides-at _ _ (around-not s old new some long values k) (Decides-not _ (decides-itself (around s old k)))

-- what the row of either says
pub around-or : (s : ℕ) (left right either : List Bool) → s < length left → length left ≡ length right → length either ≡ length left → EachIndex left (λ i. value_at either i ≡ (value_at left i || value_at right i)) → (k : ℕ) → around s either k ≡ (around s left k || around s right k)
around-or s left right either some even long values k =
    ap (λ n. value_at either (place s (n - s) k)) long
    ∙ values (place s (length left - s) k) (let lt = place-within s (length left - s) k (omega arith) in omega (arith, lt))
    ∙ ap (λ n. value_at left (place s (length left - s) k) || value_at right (place s (n - s) k)) even

pub either-says : (s : ℕ) (left right either : List Bool) → s < length left → length left ≡ length right → length either ≡ length left → EachIndex left (λ i. value_at either i ≡ (value_at left i || value_at right i)) → (k : ℕ) → Says s either k ↔ (Says s left k ⊎ Says s right k)
either-says s left right either some even long values k =
    Decides-at _ _ (around-or s left right either some even long values k) (Decides-or _ _ (decides-itself (around s left k)) (decides-itself (around s right k)))

-- release of facts that hold at the same positions
pub release-like : (P Q P' Q' : ℕ → Type 0) → ((k : ℕ) → P k ↔ P' k) → ((k : ℕ) → Q k ↔ Q' k) → (i : ℕ) → IsRelease endless P Q i ↔ IsRelease endless P' Q' i
release-like P Q P' Q' p q i = (
  λ n u. n (until-like _ _ _ _ (λ k h x. h ((p k).0 x)) (λ k h x. h ((q k).0 x)) i u),
  λ n u. n (until-like _ _ _ _ (λ k h x. h ((p k).1 x)) (λ k h x. h ((q k).1 x)) i u),
)
