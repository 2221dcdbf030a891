-- A look-up letter by letter: the masked trace is kept where what is left of it is, behind the
-- letters so far.
use Rattle.std.proofs.Common.{◌≡◌, ◌↔◌, ℕ, zero, suc, ◌+◌, ◌<◌, ◌≤◌, Bool, List, [], ◌∷◌, ◌++◌, length, take, drop, slice_get, Option, Some, None, is_some, IfSome, IfNone, IsTrue, refl, sym, ap, ◌∙◌, subst, arith}
use Rattle.std.proofs.lemmas.List.{map-append}
use mathlib.Core.Logic.Iff as iff
use Rattle.std.specs.List.{Contains}
use Rattle.hy_base.proofs.Members.{contains-none}
use Rattle.hy_base.proofs.Places.{drop-at}
use Rattle.hy_bits.specs.Letter.{Letter}
use Rattle.hy_formula.specs.Quantifiers.{Each}
use Rattle.hy_formula.proofs.Each.{each-at}
use Rattle.hy_finite.specs.Traces.{Trace}
use Rattle.trace_trie.specs.Numbered.{Numbered, IsHeld, under}
use Rattle.trace_trie.proofs.Walking.{under-held}
use Rattle.rv_core.specs.Endings.{Spec}
use Rattle.rv_core.specs.Masks.{masked_letter, masked}
use Rattle.rv_core.proofs.Places.{take-next}

-- the first letters with the next one
pub masked-next : (spec : Spec) (t : Trace) (i : ℕ) (a : Letter) → slice_get t i ≡ Some a
    → masked spec (take (i + 1) t) ≡ masked spec (take i t) ++ masked_letter spec a ∷ []
masked-next spec t i a at =
    ap (masked spec) (take-next t i a at) ∙ map-append (masked_letter spec) (take i t) (a ∷ [])

pub record IsDown (spec : Spec) (t : Trace) (kept : List Numbered) (i : ℕ)
    (rests : List Numbered) : Type 0 where
  pub held : IsHeld (masked spec t) kept ↔ IsHeld (masked spec (drop i t)) rests

module _ (spec : Spec) (t : Trace) (kept : List Numbered) (i : ℕ) (rests : List Numbered)
    (down : IsDown spec t kept i rests) where
  pub down-next : (a : Letter) (child : List Numbered) → slice_get t i ≡ Some a
      → child ≡ under (masked_letter spec a) rests → IsDown spec t kept (i + 1) child
  down-next a child at is =
      let P : Trace → Type 0 = λ u. IsHeld (masked spec t) kept ↔ IsHeld (masked spec u) rests in
      let Q : List Numbered → Type 0 = IsDown spec t kept (i + 1) in
      subst Q (sym is) record {
        held =
            iff.trans (subst P (drop-at t i a at) down.held)
            (under-held (masked_letter spec a) rests (masked spec (drop (i + 1) t)));
      }

  pub none-down : (a : Letter) → slice_get t i ≡ Some a → under (masked_letter spec a) rests ≡ []
      → ¬ IsHeld (masked spec t) kept
  none-down a at none held =
      let (n, c) = (down-next a [] at (sym none)).held.0 held in
      contains-none (n, masked spec (drop (i + 1) t)) c

  ended : length t ≤ i → drop i t ≡ []
  ended le = by t i le
    where
      by : (u : Trace) (k : ℕ) → length u ≤ k → drop k u ≡ []
      by [] zero le = refl
      by [] (suc k) le = refl
      by (a ∷ u) zero le = absurd (omega arith)
      by (a ∷ u) (suc k) le = by u k (omega arith)

  pub down-end : length t ≤ i → IsHeld (masked spec t) kept ↔ IsHeld [] rests
  down-end le =
      let P : Trace → Type 0 = λ u. IsHeld (masked spec t) kept ↔ IsHeld (masked spec u) rests in
      subst P (ended le) down.held

none-ends : (rests : List Numbered) → Each (λ (p : Numbered). 0 < length p.1) rests
    → ¬ IsHeld [] rests
none-ends rests some (n, c) =
    let lt : 0 < 0 = each-at (λ (p : Numbered). 0 < length p.1) rests (n, []) some c in
    absurd (omega arith)

pub first-held : (first : Option ℕ) (b : Bool) (rests : List Numbered) → b ≡ is_some first
    → IfSome first (λ n. Contains rests (n, []))
    → IfNone first (Each (λ (p : Numbered). 0 < length p.1) rests) → IsTrue b ↔ IsHeld [] rests
first-held (Some n) b rests is some none = (λ e. (n, some), λ held. is)
first-held None b rests is some none =
    (λ e. absurd (cc), λ held. absurd (none-ends rests none held))
