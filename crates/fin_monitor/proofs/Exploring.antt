-- Residuals are explored, entry by entry.
use Rattle.std.proofs.Common.{◌≡◌, ◌⊎◌, ◌+◌, ◌*◌, ◌/◌, ◌%◌, ◌^◌, ◌<◌, ◌≤◌, ℕ, zero, suc, Bool, true, false, cond, List, [], ◌∷◌, ◌++◌, length, map, get_or, Vec, Result, Ok, Err, IfOk, OnOk, inl, inr, refl, sym, ap, ◌∙◌, subst, arith, bit_and, length-append}
use Rattle.std.proofs.Math.Nat.{div-lt_iff_lt-mul, mul-le-mul_right}
use Rattle.std.proofs.Math.Pow.{pow_mono}
use Rattle.std.proofs.lemmas.Nat.{div-mul-add, mod-mul-add, pow_pos, and_le_l}
use Rattle.std.proofs.Math.Arith.{lt_of_le-ne}
use Rattle.std.proofs.lemmas.Bool.{cases_lt}
use Rattle.std.proofs.lemmas.List.{get_or_append_left, length-map}
use Rattle.hy_formula.specs.declared.atom.Atom.{Atom}
use Rattle.ltl_closure.specs.Nodes.{Node}
use Rattle.hy_formula.specs.Atoms.{IndexedAtom, plain_atom}
use Rattle.fin_monitor.specs.Codes.{letter_of}
use Rattle.fin_monitor.specs.Duties.{Duty, strongly, after_each, minimal, residual_step, Same, IsReached, first, SomeReached, residual_at}
use Rattle.fin_monitor.specs.Lefts.{IsFamily, AreLefts, AreAsked, IsAskedAll, IsStepOf, kept_lists}
use Rattle.fin_monitor.specs.Reductions.{LeaveAlike}
use Rattle.fin_monitor.specs.Tables.{row_of, AreAllLefts, Puts, Follows, IsEntry, IsExplored, IsPutRefusal, IsTableRefusal}
use Rattle.fin_monitor.specs.declared.monitor_error.MonitorError.{MonitorError}
use Rattle.fin_monitor.specs.declared.monitor_error.MonitorError.TheVariants.{Limit, Memory}
use Rattle.hy_base.proofs.Places.{last-of}
use Rattle.fin_monitor.proofs.FamilySteps.{family-minimal, family-single, same-family}
use Rattle.fin_monitor.proofs.Outdoing.{alike-both_ways, step-alike}
use Rattle.fin_monitor.proofs.Stepping.{kept-length}
use Rattle.fin_monitor.proofs.CodeBits.{masked-agrees}
use Rattle.fin_monitor.proofs.Unrolled.{each-asked}

pub same-back : (r s : List Duty) → Same r s → Same s r
same-back r s p d = ((p d).1, (p d).0)

pub same-through : (r s t : List Duty) → Same r s → Same s t → Same r t
same-through r s t p q d = (λ h. (q d).0 ((p d).0 h), λ h. (p d).1 ((q d).1 h))

pub same-itself : (r : List Duty) → Same r r
same-itself r d = (λ h. h, λ h. h)

pub row-some : (atoms : List IndexedAtom) → 0 < row_of atoms
row-some atoms = pow_pos (length atoms)

module _ (nodes : List Node) (root : ℕ) (atoms : List IndexedAtom) where
  -- ---- one residual alone

  pub explored-start : (old list : List (List Duty)) (r : List Duty) (n : ℕ) (table : List ℕ) → old ≡ [] → r ≡ strongly root ∷ [] → Puts old r list n → length table ≡ 0 → row_of atoms ≤ 4194304 → IsExplored nodes root atoms list table
  explored-start old list r n table none is puts empty few = step puts.is_new puts.list
    where
      first-there : (new : List (List Duty)) → new ≡ r ∷ [] → IsExplored nodes root atoms new table
      first-there new e =
          let P : List (List Duty) → Type 0 = λ l. IsExplored nodes root atoms l table in
          let Q : List Duty → Type 0 = λ x. IsExplored nodes root atoms (x ∷ []) table in
          subst P (sym e)
          (subst Q (sym is)
          (record {
            some = omega arith;
            first = same-itself (strongly root ∷ []);
            families = one;
            reached = record { only = reach; apart = λ p q lt lt' same. omega arith };
            entries = λ p lt. absurd (omega arith);
            filled = omega arith;
            few = omega arith;
          }))
        where
          one : (q : ℕ) → q < 1 → IsFamily (residual_at ((strongly root ∷ []) ∷ []) q)
          one zero lt = family-single (strongly root)
          one (suc q) lt = absurd (omega arith)

          reach : (q : ℕ) → q < 1 → IsReached nodes root (residual_at ((strongly root ∷ []) ∷ []) q)
          reach zero lt = first (same-itself (strongly root ∷ []))
          reach (suc q) lt = absurd (omega arith)

      step : (b : Bool) → list ≡ cond b (old ++ r ∷ []) old → IsExplored nodes root atoms list table
      step true e = first-there list (e ∙ ap (λ l. l ++ r ∷ []) none)
      step false e = absurd (let l = ap length (e ∙ none) in let lt = puts.within in omega arith)

  -- ---- a residual that is put

  module _ (old new : List (List Duty)) (r : List Duty) (n : ℕ) (table : List ℕ) (puts : Puts old r new n) (is : IsExplored nodes root atoms old table) (family : IsFamily r) (reach : IsReached nodes root r) where
    pub stays : (b : Bool) → new ≡ cond b (old ++ r ∷ []) old → (q : ℕ) → q < length old → residual_at new q ≡ residual_at old q
    stays true e q lt = ap (λ l. residual_at l q) e ∙ get_or_append_left old (r ∷ []) [] q lt
    stays false e q lt = ap (λ l. residual_at l q) e

    pub longer : (b : Bool) → new ≡ cond b (old ++ r ∷ []) old → length old ≤ length new
    longer true e = omega (arith, ap length e, length-append old (r ∷ []))
    longer false e = omega (arith, ap length e)

    -- a residual of the new list is one of the old one, or the one that is put last
    which : (b : Bool) → puts.is_new ≡ b → new ≡ cond b (old ++ r ∷ []) old → (q : ℕ) → q < length new
        → ((q < length old) × (residual_at new q ≡ residual_at old q)) ⊎ ((q ≡ length old) × (residual_at new q ≡ r) × (puts.is_new ≡ true))
    which true new_is e q lt =
        elim (cases_lt q (length old)) [
          | inl less ↦ inl (less, stays true e q less)
          | inr more ↦
              let l : length new ≡ length old + 1 = ap length e ∙ length-append old (r ∷ []) in
              let here : q ≡ length old = omega (arith, l) in
              inr (here, ap (λ l. residual_at l q) e ∙ ap (residual_at (old ++ r ∷ [])) here ∙ last-of old r [], new_is)
        ]
    which false new_is e q lt = inl (omega (arith, ap length e), stays false e q (omega (arith, ap length e)))

    pub put-families : (q : ℕ) → q < length new → IsFamily (residual_at new q)
    put-families q lt =
        let P : List Duty → Type 0 = IsFamily in
        elim (which puts.is_new refl puts.list q lt) [ inl (less, e) ↦ subst P (sym e) (is.families q less) | inr (at, e, new_is) ↦ subst P (sym e) family ]

    put-only : (q : ℕ) → q < length new → IsReached nodes root (residual_at new q)
    put-only q lt =
        let P : List Duty → Type 0 = IsReached nodes root in
        elim (which puts.is_new refl puts.list q lt) [ inl (less, e) ↦ subst P (sym e) (is.reached.only q less) | inr (at, e, new_is) ↦ subst P (sym e) reach ]

    clash : (p : ℕ) → p < length old → puts.is_new ≡ true → Same (residual_at old p) r → ⊥
    clash p lt new_is same = puts.was new_is p lt (same-family (residual_at old p) r (is.families p lt) family same)

    put-apart : (p q : ℕ) → p < length new → q < length new → Same (residual_at new p) (residual_at new q) → p ≡ q
    put-apart p q lt lt' same = cases (which puts.is_new refl puts.list p lt) (which puts.is_new refl puts.list q lt')
      where
        cases : ((p < length old) × (residual_at new p ≡ residual_at old p)) ⊎ ((p ≡ length old) × (residual_at new p ≡ r) × (puts.is_new ≡ true))
            → ((q < length old) × (residual_at new q ≡ residual_at old q)) ⊎ ((q ≡ length old) × (residual_at new q ≡ r) × (puts.is_new ≡ true)) → p ≡ q
        cases (inl (less, e)) (inl (less', e')) =
            let A : List Duty → Type 0 = λ x. Same x (residual_at new q) in
            let B : List Duty → Type 0 = λ y. Same (residual_at old p) y in
            is.reached.apart p q less less' (subst B e' (subst A e same))
        cases (inl (less, e)) (inr (at, e', new_is)) =
            let A : List Duty → Type 0 = λ x. Same x (residual_at new q) in
            let B : List Duty → Type 0 = λ y. Same (residual_at old p) y in
            absurd (clash p less new_is (subst B e' (subst A e same)))
        cases (inr (at, e, new_is)) (inl (less', e')) =
            let A : List Duty → Type 0 = λ x. Same x (residual_at new q) in
            let B : List Duty → Type 0 = λ y. Same r y in
            absurd (clash q less' new_is (same-back r (residual_at old q) (subst B e' (subst A e same))))
        cases (inr (at, e, new_is)) (inr (at', e', new_is')) = at ∙ sym at'

    pub put-reached : SomeReached nodes root new
    put-reached = record { only = put-only; apart = put-apart }

    pub entry-kept : (p : ℕ) → IsEntry nodes atoms old table p → p / row_of atoms < length old → IsEntry nodes atoms new table p
    entry-kept p entry lt =
        let w : ℕ = row_of atoms in
        let grow = longer puts.is_new puts.list in
        let A : List Duty → Type 0 = λ x. Same (residual_step nodes (letter_of atoms (p % w)) x) (residual_at new (get_or table p 0)) in
        let B : List Duty → Type 0 = λ y. Same (residual_step nodes (letter_of atoms (p % w)) (residual_at old (p / w))) y in
        record {
          inside = omega (arith, entry.inside, grow);
          follows = subst A (sym (stays puts.is_new puts.list (p / w) lt)) (subst B (sym (stays puts.is_new puts.list (get_or table p 0) entry.inside)) entry.follows);
        }

    -- the residual that follows one after a code, where it is put
    pub follows-put : (row code : ℕ) → row < length old → length new * row_of atoms ≤ 4194304
        → Same r (residual_step nodes (letter_of atoms code) (residual_at old row)) → Follows nodes root atoms old new table row code n
    follows-put row code lt few same =
        let grow = longer puts.is_new puts.list in
        let kept = stays puts.is_new puts.list in
        let A : List Duty → Type 0 = λ x. Same (strongly root ∷ []) x in
        let B : List Duty → Type 0 = λ x. Same (residual_step nodes (letter_of atoms code) x) (residual_at new n) in
        let C : List Duty → Type 0 = λ y. Same (residual_step nodes (letter_of atoms code) (residual_at old row)) y in
        record {
          explored = record {
            some = omega (arith, is.some, grow);
            first = subst A (sym (kept 0 is.some)) is.first;
            families = put-families;
            reached = put-reached;
            entries = λ p less. entry-kept p (is.entries p less) ((div-lt_iff_lt-mul (row-some atoms)).1 (omega (arith, is.filled, less)));
            filled = omega (arith, is.filled, mul-le-mul_right (row_of atoms) grow);
            few = few;
          };
          more = grow;
          stays = kept;
          inside = puts.within;
          follows = subst B (sym (kept row lt)) (subst C (sym puts.at) (same-back r _ same));
        }

  -- ---- what follows by the families of members

  pub step-same : (code : ℕ) (lists : List (List Duty)) (residual left : List Duty) → AreAllLefts nodes atoms code lists → IsFamily left → IsStepOf lists code residual left
      → Same left (residual_step nodes (letter_of atoms code) residual)
  step-same code lists residual left all family step = family-minimal left (after_each nodes (letter_of atoms code) residual) family (step nodes atoms (sym all.long) all.lefts)

  -- ---- one entry more

  pub entry-push : (list : List (List Duty)) (table : List ℕ) (row code next : ℕ) → length table ≡ row * row_of atoms + code → code < row_of atoms → next < length list
      → Same (residual_step nodes (letter_of atoms code) (residual_at list row)) (residual_at list next)
      → ((p : ℕ) → p < length table → IsEntry nodes atoms list table p) → (p : ℕ) → p < length (table ++ next ∷ []) → IsEntry nodes atoms list (table ++ next ∷ []) p
  entry-push list table row code next long lt inside follows entries p less =
      elim (cases_lt p (length table)) [
        | inl old ↦
            let e : get_or (table ++ next ∷ []) p 0 ≡ get_or table p 0 = get_or_append_left table (next ∷ []) 0 p old in
            let entry = entries p old in
            let A : ℕ → Type 0 = λ x. x < length list in
            let B : ℕ → Type 0 = λ x. Same (residual_step nodes (letter_of atoms (p % row_of atoms)) (residual_at list (p / row_of atoms))) (residual_at list x) in
            record { inside = subst A (sym e) entry.inside; follows = subst B (sym e) entry.follows }
        | inr more ↦
            let l : length (table ++ next ∷ []) ≡ length table + 1 = length-append table (next ∷ []) in
            let here : p ≡ length table = omega (arith, l) in
            let e : get_or (table ++ next ∷ []) p 0 ≡ next = ap (λ q. get_or (table ++ next ∷ []) q 0) here ∙ last-of table next 0 in
            let quotient : p / row_of atoms ≡ row = ap (λ x. x / row_of atoms) (here ∙ long) ∙ div-mul-add row (row_of atoms) code lt in
            let rest : p % row_of atoms ≡ code = ap (λ x. x % row_of atoms) (here ∙ long) ∙ mod-mul-add row (row_of atoms) code lt in
            let A : ℕ → Type 0 = λ x. x < length list in
            let B : ℕ → ℕ → ℕ → Type 0 = λ x y z. Same (residual_step nodes (letter_of atoms x) (residual_at list y)) (residual_at list z) in
            record {
              inside = subst A (sym e) inside;
              follows = subst (λ x. B x (p / row_of atoms) (get_or (table ++ next ∷ []) p 0)) (sym rest) (subst (λ y. B code y (get_or (table ++ next ∷ []) p 0)) (sym quotient) (subst (λ z. B code row z) (sym e) follows));
            }
      ]

pub small-row : (atoms : List Atom) → length atoms ≤ 16 → row_of (map plain_atom atoms) ≤ 65536
small-row atoms few = let few' : length (map plain_atom atoms) ≤ 16 = omega (arith, length-map atoms plain_atom) in let h : 2 ^ length (map plain_atom atoms) ≤ 2 ^ 16 = pow_mono few' in omega (arith, h)

pub row-power : (atoms : List Atom) → row_of (map plain_atom atoms) ≡ 2 ^ length atoms
row-power atoms = ap (λ n. 2 ^ n) (length-map atoms plain_atom)

pub all-lefts : {A : Type 0} (nodes : List Node) (atoms : List IndexedAtom) (code : ℕ) (lists : List (Vec Duty A)) → length lists ≡ length nodes → AreLefts nodes atoms code (kept_lists lists) (length lists) → AreAllLefts nodes atoms code (kept_lists lists)
all-lefts nodes atoms code lists long lefts =
    let P : ℕ → Type 0 = λ n. AreLefts nodes atoms code (kept_lists lists) n in
    record { long = kept-length lists ∙ long; lefts = subst P (sym (kept-length lists)) lefts }

pub plain-lefts : {A : Type 0} (nodes : List Node) (atoms : List IndexedAtom) (code : ℕ) (lists : List (Vec Duty A)) → AreAllLefts nodes atoms code (kept_lists lists) → (length lists ≡ length nodes) × AreLefts nodes atoms code (kept_lists lists) (length lists)
plain-lefts nodes atoms code lists all =
    let P : ℕ → Type 0 = λ n. AreLefts nodes atoms code (kept_lists lists) n in
    (sym (kept-length lists) ∙ all.long, subst P (kept-length lists) all.lefts)

-- no more residuals than entries
pub few-rows : (n w : ℕ) → 0 < w → n * w ≤ 4194304 → n ≤ 4194304
few-rows n zero some le = absurd (omega arith)
few-rows n (suc v) some le = omega (arith, le)

-- more residuals than fit in the table
pub many-entries : (a n w : ℕ) → 0 < w → a / w < n → a < n * w
many-entries a n w some lt = (div-lt_iff_lt-mul some).0 lt

-- ---- results

pub ok-both : {T E A : Type 0} (P Q : T → Type 0) (r : Result T E) → OnOk r A → IfOk r P → ((x : T) → A → P x → Q x) → IfOk r Q
ok-both P Q (Ok x) a p f = f x a p
ok-both P Q (Err e) a p f = tt

pub on-ok : {T E : Type 0} (A : Type 0) (r : Result T E) → A → OnOk r A
on-ok A (Ok x) a = a
on-ok A (Err e) a = tt

pub on-ok-map : {T E A B : Type 0} (r : Result T E) → OnOk r A → (A → B) → OnOk r B
on-ok-map (Ok x) a f = f a
on-ok-map (Err e) a f = tt

-- a residual that is too many where it is put is reached
pub put-refusal : (nodes : List Node) (root : ℕ) (atoms : List IndexedAtom) (old : List (List Duty)) (r : List Duty) (table : List ℕ) (bits : ℕ) → 2 ^ bits ≡ row_of atoms → IsExplored nodes root atoms old table → IsFamily r → IsReached nodes root r
    → (e : MonitorError) → IsPutRefusal old r bits e → IsTableRefusal nodes root atoms e
put-refusal nodes root atoms old r table bits same is family reach (Limit kind) (past, new, n, puts, many) =
    let P : ℕ → Type 0 = λ w. 4194304 < length new * w in
    (past, new, put-reached nodes root atoms old new r n table puts is family reach, subst P same many)
put-refusal nodes root atoms old r table bits same is family reach Memory h = tt

-- ---- the rows of the table

-- what is known before an entry is pushed
pub record Ready (nodes : List Node) (root : ℕ) (atoms : List IndexedAtom) (list : List (List Duty)) (table : List ℕ) (row code next : ℕ) (residual : List Duty) (Kept : Type 0) : Type 0 where
  pub explored : IsExplored nodes root atoms list table
  pub long : length table ≡ row * row_of atoms + code
  pub there : row < length list
  pub same : LeaveAlike nodes residual (residual_at list row)
  pub inside : next < length list
  pub follows : Same (residual_step nodes (letter_of atoms code) (residual_at list row)) (residual_at list next)
  pub lefts : Kept

pub explored-push : (nodes : List Node) (root : ℕ) (atoms : List IndexedAtom) (list : List (List Duty)) (table : List ℕ) (row code next : ℕ) (residual : List Duty) (Kept : Type 0) → code < row_of atoms
    → Ready nodes root atoms list table row code next residual Kept → IsExplored nodes root atoms list (table ++ next ∷ [])
explored-push nodes root atoms list table row code next residual Kept lt ready =
    let is = ready.explored in
    let l : length (table ++ next ∷ []) ≡ length table + 1 = length-append table (next ∷ []) in
    let m : suc row * row_of atoms ≤ length list * row_of atoms = mul-le-mul_right (row_of atoms) ready.there in
    let e : suc row * row_of atoms ≡ row * row_of atoms + row_of atoms = omega arith in
    record {
      some = is.some;
      first = is.first;
      families = is.families;
      reached = is.reached;
      entries = entry-push nodes root atoms list table row code next ready.long lt ready.inside ready.follows is.entries;
      filled = omega (arith, l, m, e, ready.long);
      few = is.few;
    }

-- an entry that is copied, from a code that agrees where the residual asks
pub copied : (nodes : List Node) (root : ℕ) (atoms : List IndexedAtom) (masks : List ℕ) (list : List (List Duty)) (table : List ℕ) (row code mask next : ℕ) (residual : List Duty) → length masks ≡ length nodes → AreAsked nodes atoms masks (length nodes)
    → IsExplored nodes root atoms list table → length table ≡ row * row_of atoms + code → code < row_of atoms → LeaveAlike nodes residual (residual_at list row) → IsAskedAll masks residual mask → (bit_and code mask ≡ code → ⊥)
    → get_or table (row * row_of atoms + bit_and code mask) 0 ≡ next
    → (next < length list) × Same (residual_step nodes (letter_of atoms code) (residual_at list row)) (residual_at list next)
copied nodes root atoms masks list table row code mask next residual long asked is filled lt same all other at =
    let w : ℕ = row_of atoms in
    let low : ℕ = bit_and code mask in
    let less : low < code = lt_of_le-ne (and_le_l code mask) other in
    let below : low < w = omega arith in
    let p : ℕ = row * w + low in
    let entry = is.entries p (omega (arith, filled, less)) in
    let A : ℕ → Type 0 = λ x. x < length list in
    let B : ℕ → ℕ → ℕ → Type 0 = λ x y z. Same (residual_step nodes (letter_of atoms x) (residual_at list y)) (residual_at list z) in
    let here = subst (λ x. B x row next) (mod-mul-add row w low below) (subst (λ y. B (p % w) y next) (div-mul-add row w low below) (subst (λ z. B (p % w) (p / w) z) at entry.follows)) in
    let e : after_each nodes (letter_of atoms code) residual ≡ after_each nodes (letter_of atoms low) residual =
    each-asked nodes atoms masks long asked mask code low (sym (masked-agrees code mask)) residual all in
    let inside = subst A at entry.inside in
    let family = is.families next inside in
    let s = residual_at list row in
    let t = residual_at list next in
    let C : List Duty → Type 0 = λ r. Same t (minimal r) in
    let back = step-alike nodes (letter_of atoms low) s residual t family (alike-both_ways nodes residual s same) (same-back _ t here) in
    (inside, same-back t _ (step-alike nodes (letter_of atoms code) residual s t family same (subst C (sym e) back)))

-- a row that is copied for a residual that leaves the same
pub copied-row : (nodes : List Node) (root : ℕ) (atoms : List IndexedAtom) (list : List (List Duty)) (table : List ℕ) (row earlier code next : ℕ) → IsExplored nodes root atoms list table → earlier * row_of atoms + code < length table → code < row_of atoms
    → LeaveAlike nodes (residual_at list earlier) (residual_at list row) → get_or table (earlier * row_of atoms + code) 0 ≡ next
    → (next < length list) × Same (residual_step nodes (letter_of atoms code) (residual_at list row)) (residual_at list next)
copied-row nodes root atoms list table row earlier code next is within lt alike at =
    let w : ℕ = row_of atoms in
    let p : ℕ = earlier * w + code in
    let entry = is.entries p within in
    let A : ℕ → Type 0 = λ x. x < length list in
    let B : ℕ → ℕ → ℕ → Type 0 = λ x y z. Same (residual_step nodes (letter_of atoms x) (residual_at list y)) (residual_at list z) in
    let here = subst (λ x. B x earlier next) (mod-mul-add earlier w code lt) (subst (λ y. B (p % w) y next) (div-mul-add earlier w code lt) (subst (λ z. B (p % w) (p / w) z) at entry.follows)) in
    let inside = subst A at entry.inside in
    let t = residual_at list next in
    (inside, same-back t _ (step-alike nodes (letter_of atoms code) (residual_at list earlier) (residual_at list row) t (is.families next inside) alike (same-back _ t here)))
