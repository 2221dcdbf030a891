-- The signals of the copies, one more at a time: each is new.
use Rattle.std.proofs.Common.{◌≡◌, ℕ, zero, suc, ◌+◌, ◌<◌, ◌≤◌, Bool, true, false, not, ◌&&◌, cond, nat_eq, nat_lt, List, [], ◌∷◌, ◌++◌, take, slice_get, IsTrue, Option, Some, None, is_some, All, refl, sym, ap, ◌∙◌, subst, arith}
use Rattle.std.specs.Option.{option_map}
use Rattle.std.proofs.lemmas.Bool.Decides.{Decides-eqb}
use Rattle.std.proofs.lemmas.Bool.{false_from_ne_true, and_parts, not-true}
use Rattle.hy_base.proofs.Truths.{and-false}
use Rattle.aig_net.specs.declared.signals.Signal.{Signal}
use Rattle.aig_net.specs.Signals.{are_signals, has_signal, is_for, literal_of}
use Rattle.hy_base.specs.Rows.{listed}
use Rattle.self_compose.specs.Copies.{copy_literal}
use Rattle.wit_lasso.specs.FormulaNets.{copy_signal, copy_signals}
use Rattle.wit_lasso.proofs.CopySignals.{literal-copied}

-- what a list lacks and another lacks, both lack
lacks-both : (xs ys : List Signal) (name var : ℕ) → has_signal xs name var ≡ false →
    has_signal ys name var ≡ false → has_signal (xs ++ ys) name var ≡ false
lacks-both [] ys name var a b = b
lacks-both (x ∷ xs) ys name var a b = at (is_for name var x) a (lacks-both xs ys name var)
  where
    at : (t : Bool) → is_some (cond t (Some x.literal) (literal_of xs name var)) ≡ false →
        (has_signal xs name var ≡ false → has_signal ys name var ≡ false →
        has_signal (xs ++ ys) name var ≡ false) →
        is_some (cond t (Some x.literal) (literal_of (xs ++ ys) name var)) ≡ false
    at true a rec = absurd (cc)
    at false a rec = rec a b

-- The signals before one are not for the same.
before : (signals : List Signal) (i : ℕ) (s : Signal) → IsTrue (are_signals signals) →
    slice_get signals i ≡ Some s → has_signal (take i signals) s.name s.var ≡ false
before [] i s are e = absurd (cc)
before (x ∷ signals) zero s are e = refl
before (x ∷ signals) (suc i) s are e =
    at (is_for s.name s.var x) refl (before signals i s (and_parts _ _ are).1 e)
  where
    fresh : has_signal signals x.name x.var ≡ false
    fresh =
        let (front, _) = and_parts (nat_lt x.name 64 && not (has_signal signals x.name x.var))
        (are_signals signals) are in
        let (_, new) = and_parts (nat_lt x.name 64) (not (has_signal signals x.name x.var)) front in
        not-true (has_signal signals x.name x.var) new

    there : (signals : List Signal) (i : ℕ) → slice_get signals i ≡ Some s →
        has_signal signals s.name s.var ≡ true
    there [] i e = absurd (cc)
    there (y ∷ signals) zero e =
        let same : y ≡ s = cc in
        let P : Signal → Type 0 = λ y. has_signal (y ∷ signals) s.name s.var ≡ true in
        let here : is_for s.name s.var s ≡ true = own s in
        subst P (sym same) (ap (λ b. is_some (cond b (Some s.literal)
        (literal_of signals s.name s.var))) here)
      where
        own : (s : Signal) → is_for s.name s.var s ≡ true
        own s = ap (λ b. b && nat_eq s.var s.var) ((Decides-eqb s.name s.name).1 refl)
            ∙ (Decides-eqb s.var s.var).1 refl
    there (y ∷ signals) (suc i) e = at (is_for s.name s.var y) (there signals i e)
      where
        at : (b : Bool) → has_signal signals s.name s.var ≡ true →
            is_some (cond b (Some y.literal) (literal_of signals s.name s.var)) ≡ true
        at true h = refl
        at false h = h

    at : (b : Bool) → is_for s.name s.var x ≡ b →
        has_signal (take i signals) s.name s.var ≡ false →
        is_some (cond b (Some x.literal) (literal_of (take i signals) s.name s.var)) ≡ false
    at false is rest = rest
    at true is rest =
        let (n, v) = and_parts _ _ is in
        let e1 : x.name ≡ s.name = (Decides-eqb x.name s.name).0 n in
        let e2 : x.var ≡ s.var = (Decides-eqb x.var s.var).0 v in
        let yes : has_signal signals x.name x.var ≡ true =
        ap (λ n. has_signal signals n x.var) e1 ∙ ap (λ v. has_signal signals s.name v) e2
        ∙ there signals i e in
        absurd (let f = fresh in cc)

-- the copies so far of one signal are not that of the next copy
own-lacks : (n : ℕ) (s : Signal) (c m a : ℕ) → a + m ≤ c →
    has_signal (listed a m (λ c. copy_signal n c s)) s.name c ≡ false
own-lacks n s c zero a le = refl
own-lacks n s c (suc m) a le =
    let no : nat_eq a c ≡ false = false_from_ne_true _ (λ h. omega (arith, (Decides-eqb a c).0 h, le)) in
    let off : is_for s.name c (copy_signal n a s) ≡ false =
    ap (λ b. nat_eq s.name s.name && b) no ∙ and-false (nat_eq s.name s.name) in
    ap (λ b. is_some (cond b (Some (copy_literal n a s.literal))
    (literal_of (listed (suc a) m (λ c. copy_signal n c s)) s.name c))) off
    ∙ own-lacks n s c m (suc a) (omega arith)

-- The signal of a copy is new after those of the signals before it, and of the copies before.
pub copy_new : (n : ℕ) (signals made : List Signal) (i c : ℕ) (s : Signal) →
    IsTrue (are_signals signals) → All (λ s. s.var ≡ 0) signals → slice_get signals i ≡ Some s →
    c < n → made ≡ copy_signals n (take i signals) ++ listed 0 c (λ c. copy_signal n c s) →
    has_signal made s.name c ≡ false
copy_new n signals made i c s are own e few is =
    ap (λ l. has_signal l s.name c) is
    ∙ lacks-both (copy_signals n (take i signals)) (listed 0 c (λ c. copy_signal n c s)) s.name c
    (ap is_some (literal-copied n s.name c few (take i signals)
    (λ k d lt. own-take signals i own k d lt))
    ∙ mapped (literal_of (take i signals) s.name 0)
    ∙ ap (λ v. has_signal (take i signals) s.name v) (sym (own-at signals i own e))
    ∙ before signals i s are e)
    (own-lacks n s c c 0 (omega arith))
  where
    mapped : (o : Option ℕ) → is_some (option_map (copy_literal n c) o) ≡ is_some o
    mapped (Some l) = refl
    mapped None = refl

    own-at : (signals : List Signal) (i : ℕ) → All (λ s. s.var ≡ 0) signals →
        slice_get signals i ≡ Some s → s.var ≡ 0
    own-at [] i own e = absurd (cc)
    own-at (y ∷ signals) zero own e =
        let same : y ≡ s = cc in
        let P : Signal → Type 0 = λ y. y.var ≡ 0 in
        subst P same (own 0 y (omega arith))
    own-at (y ∷ signals) (suc i) own e =
        own-at signals i (λ k d lt. own (suc k) d (omega arith)) e

    own-take : (signals : List Signal) (i : ℕ) → All (λ s. s.var ≡ 0) signals →
        All (λ s. s.var ≡ 0) (take i signals)
    own-take [] zero own k d lt = absurd (omega arith)
    own-take [] (suc i) own k d lt = absurd (omega arith)
    own-take (y ∷ signals) zero own k d lt = absurd (omega arith)
    own-take (y ∷ signals) (suc i) own zero d lt = own 0 d (omega arith)
    own-take (y ∷ signals) (suc i) own (suc k) d lt =
        own-take signals i (λ k d lt. own (suc k) d (omega arith)) k d (omega arith)
