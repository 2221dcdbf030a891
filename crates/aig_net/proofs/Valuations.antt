-- Given the values of inputs and latches there is one valuation with right gates.
use Rattle.std.proofs.Common.{◌≡◌, ℕ, zero, suc, ◌+◌, ◌-◌, ◌<◌, ◌≤◌, ◌/◌, Bool, true, false, cond, nat_eq, length, List, [], ◌∷◌, refl, inl, inr, sym, ap, ◌∙◌, arith}
use Rattle.std.proofs.lemmas.Bool.{cases_lt, cond-false, ne_eqb}
use Rattle.std.proofs.lemmas.Bool.Decides.{Decides-eqb}
use Rattle.aig_net.specs.declared.parts.And.{And}
use Rattle.aig_net.specs.Nets.{Net, Valuation, and_value, and_at, AreRight, IsRight, AreOrdered, first_and, variables}
use Rattle.aig_net.proofs.GateLemmas.{and-same}

abbrev with_value : Valuation → ℕ → Bool → Valuation
with_value v k b u = cond (nat_eq u k) b (v u)

-- the valuation with the ands filled in, one after the other
abbrev pub filled : ℕ → List And → Valuation → Valuation
filled k [] v = v
filled k (a ∷ ands) v = filled (suc k) ands (with_value v k (and_value v a))

with-same : (v : Valuation) (k : ℕ) (b : Bool) → with_value v k b k ≡ b
with-same v k b = rw ((Decides-eqb k k).1 refl) refl

with-other : (v : Valuation) (k : ℕ) (b : Bool) (u : ℕ) → u < k → with_value v k b u ≡ v u
with-other v k b u lt = at (nat_eq u k) (λ e. omega (arith, (Decides-eqb u k).0 e))
  where
    at : (c : Bool) → (c ≡ true → ⊥) → cond c b (v u) ≡ v u
    at true n = absurd (n refl)
    at false n = refl

-- What is below the first and stays.
pub filled-below : (k : ℕ) (ands : List And) (v : Valuation) (u : ℕ) → u < k →
    filled k ands v u ≡ v u
filled-below k [] v u lt = refl
filled-below k (a ∷ ands) v u lt =
    filled-below (suc k) ands (with_value v k (and_value v a)) u (omega arith)
    ∙ with-other v k (and_value v a) u lt

-- What is behind the last and stays.
pub filled-behind : (k : ℕ) (ands : List And) (v : Valuation) (u : ℕ) → k + length ands ≤ u →
    filled k ands v u ≡ v u
filled-behind k [] v u le = refl
filled-behind k (a ∷ ands) v u le =
    filled-behind (suc k) ands (with_value v k (and_value v a)) u (omega arith)
    ∙ cond-false (nat_eq u k) (and_value v a) (v u) (ne_eqb u k (omega arith))

ordered-rest : (k : ℕ) (a : And) (ands : List And) → AreOrdered k (a ∷ ands) →
    AreOrdered (suc k) ands
ordered-rest k a ands good j lt = let (l, r) = good (suc j) (omega arith) in
    (omega (arith, l), omega (arith, r))

pub filled-right : (k : ℕ) (ands : List And) (v : Valuation) → AreOrdered k ands →
    AreRight k ands (filled k ands v)
filled-right k [] v good j lt = absurd (omega arith)
filled-right k (a ∷ ands) v good zero lt =
    let (l, r) = good zero (omega arith) in
    let w : Valuation = with_value v k (and_value v a) in
    let stays : (u : ℕ) → u < k → filled (suc k) ands w u ≡ v u =
    λ u lt. filled-below (suc k) ands w u (omega arith) ∙ with-other v k (and_value v a) u lt in
    let here : filled (suc k) ands w k ≡ and_value v a =
    filled-below (suc k) ands w k (omega arith) ∙ with-same v k (and_value v a) in
    let at : k + zero ≡ k = omega arith in
    ap (filled (suc k) ands w) at ∙ here
    ∙ sym (and-same (filled (suc k) ands w) v a (stays (a.left / 2) (omega (arith, l)))
    (stays (a.right / 2) (omega (arith, r))))
filled-right k (a ∷ ands) v good (suc j) lt =
    let w : Valuation = with_value v k (and_value v a) in
    let at : k + suc j ≡ suc k + j = omega arith in
    ap (filled (suc k) ands w) at ∙ filled-right (suc k) ands w (ordered-rest k a ands good) j
    (omega arith)

-- Two valuations with right gates that agree below the first and agree below the last.
pub right-same : (first : ℕ) (ands : List And) (v w : Valuation) → AreOrdered first ands →
    AreRight first ands v → AreRight first ands w → ((u : ℕ) → u < first → v u ≡ w u) → (n u : ℕ) →
    u < n → u < first + length ands → v u ≡ w u
right-same first ands v w good rv rw' same zero u few lt = absurd (omega arith)
right-same first ands v w good rv rw' same (suc n) u few lt =
    elim (cases_lt u first) [
      | inl before ↦ same u before
      | inr past ↦
          let j : ℕ = u - first in
          let at : first + j ≡ u = omega arith in
          let lj : j < length ands = omega arith in
          let (l, r) = good j lj in
          let lower : (x : ℕ) → x < first + j → v x ≡ w x =
          λ x below. right-same first ands v w good rv rw' same n x (omega arith)
          (omega arith) in
          ap v (sym at) ∙ rv j lj ∙ and-same v w (and_at ands j) (lower _ l) (lower _ r)
          ∙ sym (rw' j lj) ∙ ap w at
    ]

pub valuation-only : (net : Net) (v w : Valuation) → AreOrdered (first_and net) net.ands →
    IsRight net v → IsRight net w → ((u : ℕ) → u < first_and net → v u ≡ w u) → (u : ℕ) →
    u < variables net → v u ≡ w u
valuation-only net v w good rv rw' same u lt =
    right-same (first_and net) net.ands v w good rv.gates rw'.gates same (suc u) u (omega arith) lt

pub valuation-right : (net : Net) (given : Valuation) → AreOrdered (first_and net) net.ands →
    given 0 ≡ false → IsRight net (filled (first_and net) net.ands given)
valuation-right net given good constant = record {
  constant = filled-below (first_and net) net.ands given 0 (omega arith) ∙ constant;
  gates = filled-right (first_and net) net.ands given good;
}

pub valuation-given : (net : Net) (given : Valuation) (u : ℕ) → u < first_and net →
    filled (first_and net) net.ands given u ≡ given u
valuation-given net given = filled-below (first_and net) net.ands given

pub valuation-some : (net : Net) (given : Valuation) → AreOrdered (first_and net) net.ands →
    given 0 ≡ false → (v : Valuation) × IsRight net v ×
    ((u : ℕ) → u < first_and net → v u ≡ given u)
valuation-some net given good constant = (
  filled (first_and net) net.ands given,
  valuation-right net given good constant,
  valuation-given net given,
)
