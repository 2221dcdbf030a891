-- One more signal, and signals looked through one after the other.
use Rattle.std.proofs.Common.{◌≡◌, ℕ, ◌+◌, ◌<◌, Bool, true, false, cond, not, ◌&&◌, nat_eq, nat_lt, List, [], ◌∷◌, ◌++◌, length, get_or, drop, Some, None, is_some, refl, sym, ap, ◌∙◌, IsTrue}
use Rattle.std.proofs.lemmas.List.{drop_more}
use Rattle.std.proofs.lemmas.Bool.{and_parts, not-true}
use Rattle.std.proofs.lemmas.Bool.Decides.{Decides-ltb}
use Rattle.hy_base.proofs.Truths.{turned-test}
use Rattle.aig_net.specs.declared.signals.Signal.{Signal}
use Rattle.aig_net.specs.Signals.{is_for, literal_of, has_signal, are_signals}

-- what is not there, and is not the last, is not there with the last
has-more : (signals : List Signal) (s : Signal) (name var : ℕ) →
    has_signal signals name var ≡ false → is_for name var s ≡ false →
    has_signal (signals ++ s ∷ []) name var ≡ false
has-more [] s name var none other = ap (λ b. is_some (cond b (Some s.literal) None)) other
has-more (t ∷ signals) s name var none other =
    at (is_for name var t) none (λ e. has-more signals s name var e other)
  where
    at : (b : Bool) → is_some (cond b (Some t.literal) (literal_of signals name var)) ≡ false →
        (has_signal signals name var ≡ false → has_signal (signals ++ s ∷ []) name var ≡ false) →
        is_some (cond b (Some t.literal) (literal_of (signals ++ s ∷ []) name var)) ≡ false
    at true e more = absurd (cc)
    at false e more = more e

-- what is not in a list is neither its first nor in the rest
has-parts : (t : Signal) (signals : List Signal) (name var : ℕ) →
    has_signal (t ∷ signals) name var ≡ false →
    (is_for name var t ≡ false) × (has_signal signals name var ≡ false)
has-parts t signals name var none = at (is_for name var t) none
  where
    at : (b : Bool) → is_some (cond b (Some t.literal) (literal_of signals name var)) ≡ false →
        (b ≡ false) × (has_signal signals name var ≡ false)
    at true e = absurd (cc)
    at false e = (refl, e)

is-for-turned : (s t : Signal) → is_for s.name s.var t ≡ is_for t.name t.var s
is-for-turned s t = ap (λ b. b && nat_eq t.var s.var) (turned-test t.name s.name)
    ∙ ap (λ b. nat_eq s.name t.name && b) (turned-test t.var s.var)

pub are_more : (signals : List Signal) (s : Signal) → IsTrue (are_signals signals) → s.name < 64 →
    has_signal signals s.name s.var ≡ false → IsTrue (are_signals (signals ++ s ∷ []))
are_more [] s good small none =
    ap (λ b. b && not (has_signal [] s.name s.var) && are_signals [])
    ((Decides-ltb s.name 64).1 small)
are_more (t ∷ signals) s good small none =
    let (here, rest) = and_parts (nat_lt t.name 64 && not (has_signal signals t.name t.var))
    (are_signals signals) good in
    let (low, apart) = and_parts (nat_lt t.name 64) (not (has_signal signals t.name t.var)) here in
    let (other, new) = has-parts t signals s.name s.var none in
    let still : has_signal (signals ++ s ∷ []) t.name t.var ≡ false =
    has-more signals s t.name t.var (not-true (has_signal signals t.name t.var) apart)
    (sym (is-for-turned s t) ∙ other) in
    ap (λ b. b && not (has_signal (signals ++ s ∷ []) t.name t.var) && are_signals
    (signals ++ s ∷ [])) low
    ∙ ap (λ b. not b && are_signals (signals ++ s ∷ [])) still
    ∙ are_more signals s rest small new

pub literal_more : (signals : List Signal) (d : Signal) (i name var : ℕ) → i < length signals →
    literal_of (drop i signals) name var ≡ cond (is_for name var (get_or signals i d))
    (Some (get_or signals i d).literal) (literal_of (drop (i + 1) signals) name var)
literal_more signals d i name var lt = ap (λ l. literal_of l name var) (drop_more signals i d lt)
