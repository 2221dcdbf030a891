-- A small net that is safe.
use Rattle.std.proofs.Common.{◌≡◌, ℕ, zero, suc, List, [], ◌∷◌, ◌++◌, length, inl, inr, refl, sym, ap, ◌∙◌, subst, arith}
use Rattle.std.proofs.lemmas.List.Elements.{Contains-push_cases}
use Rattle.aig_net.specs.declared.parts.Reset.TheVariants.{Zero as ResetZero}
use Rattle.aig_net.specs.Nets.{Net, IsNet, reset_at, latch_variable}
use Rattle.cnf_frames.specs.declared.facts.Fact.{Fact}
use Rattle.cnf_frames.specs.declared.facts.Fact.TheVariants.{Zero, Same}
use Rattle.cnf_frames.specs.Facts.{AllIn, IsIn, IsSafe}

one-zero : (j : ℕ) → reset_at (ResetZero ∷ []) j ≡ ResetZero
one-zero zero = refl
one-zero (suc j) = refl

-- one input, one latch, which is bad
pub example-safe : (net : Net) → IsNet net → net.fairs ≡ [] → net.resets ≡ ResetZero ∷ [] →
    net.inputs ≡ 1 → length net.latches ≡ 1 → IsSafe (record { net = net; bad = 4 })
example-safe net good fairs resets inputs latches = record {
  net = good;
  fairs = fairs;
  zero = λ j. ap (λ l. reset_at l j) resets ∙ one-zero j;
  bad = omega (arith, inputs, latches);
  latches = λ v w _ _ same.
      let at : latch_variable net 0 ≡ 2 = omega (arith, inputs) in
      ap v (sym at) ∙ same 0 (omega (arith, latches)) ∙ ap w at;
}

none-in : (n : ℕ) (facts : List Fact) → facts ≡ [] → AllIn n facts
none-in n facts e =
    let P : List Fact → Type 0 = AllIn n in
    subst P (sym e) (λ f (k, lt, is). absurd (omega arith))

more-in : (n : ℕ) (facts more : List Fact) (x : Fact) → AllIn n facts → IsIn n x →
    more ≡ facts ++ x ∷ [] → AllIn n more
more-in n facts more x all here e =
    let P : List Fact → Type 0 = AllIn n in
    subst P (sym e) (λ f there. elim (Contains-push_cases facts x f there)
    [ inl h ↦ all f h | inr same ↦ let Q : Fact → Type 0 = IsIn n in subst Q same here ])

pub one-in : (n : ℕ) (none facts : List Fact) → n ≡ 1 → none ≡ [] → facts ≡ none ++ Zero 0 ∷ [] →
    AllIn n facts
one-in n none facts e f g = more-in n none facts (Zero 0) (none-in n none f) (omega arith) g

pub two-in : (n : ℕ) (none one facts : List Fact) → n ≡ 1 → none ≡ [] → one ≡ none ++ Zero 0 ∷ [] →
    facts ≡ one ++ Same 0 0 ∷ [] → AllIn n facts
two-in n none one facts e f g h =
    more-in n one facts (Same 0 0) (one-in n none one e f g) (omega arith, omega arith) h
