-- Gates look back only, so for given values of the variables before them there is exactly one way
-- to fill them; and what their clauses say.
use Rattle.std.proofs.Common.{◌≡◌, ℕ, zero, suc, ◌+◌, ◌<◌, ◌↔◌, Bool, true, false, not, ◌&&◌, cond, nat_eq, List, [], ◌∷◌, length, inl, inr, refl, sym, ap, ◌∙◌, subst, arith}
use Rattle.std.specs.Prelude.{ℤ, pos, negsuc}
use Rattle.std.proofs.lemmas.Bool.{cases_eq}
use Rattle.std.proofs.lemmas.Bool.Decides.{Decides-eqb}
use Rattle.hy_base.proofs.Truths.{not-not}
use Rattle.chain_check.specs.Clauses.{IsLiteral}
use Rattle.chain_check.specs.FewClauses.{further, and_clauses}
use Rattle.chain_check.specs.Values.{Assignment, number_value, AllMet, Means}
use Rattle.chain_check.proofs.Values.{met-append}
use Rattle.chain_check.proofs.FewMeanings.{further-means, and-met}
use Rattle.bound_search.specs.Drawings.{Gate, gate_clauses}
use Rattle.bound_search.proofs.RightGates.{gate_value, AreRight}

-- Each gate joins literals of variables before its own; that of the first one is given.
abbrev pub AreOrdered : ℕ → List Gate → Type 0
AreOrdered from [] = Unit {0}
AreOrdered from (g ∷ gates) =
    IsLiteral from g.left × IsLiteral from g.right × AreOrdered (suc from) gates

abbrev with_value : Assignment → ℕ → Bool → Assignment
with_value a k b u = cond (nat_eq u k) b (a u)

-- the assignment with the gates filled in, one after the other
abbrev pub filled : ℕ → List Gate → Assignment → Assignment
filled from [] a = a
filled from (g ∷ gates) a = filled (suc from) gates (with_value a from (gate_value a g))

with-same : (a : Assignment) (k : ℕ) (b : Bool) → with_value a k b k ≡ b
with-same a k b = rw ((Decides-eqb k k).1 refl) refl

with-other : (a : Assignment) (k : ℕ) (b : Bool) (u : ℕ) → u < k → with_value a k b u ≡ a u
with-other a k b u lt = at (nat_eq u k) (λ e. omega (arith, (Decides-eqb u k).0 e))
  where
    at : (c : Bool) → (c ≡ true → ⊥) → cond c b (a u) ≡ a u
    at true n = absurd (n refl)
    at false n = refl

-- a literal's value looks at its variable alone
value-same : (n : ℕ) (a b : Assignment) → ((u : ℕ) → u < n → a u ≡ b u) → (l : ℤ) →
    IsLiteral n l → number_value a l ≡ number_value b l
value-same n a b same (pos zero) (some, few) = absurd (omega arith)
value-same n a b same (pos (suc x)) (some, few) = same x (omega arith)
value-same n a b same (negsuc x) (some, few) = ap not (same x (omega arith))

gate-same : (n : ℕ) (a b : Assignment) → ((u : ℕ) → u < n → a u ≡ b u) → (g : Gate) →
    IsLiteral n g.left → IsLiteral n g.right → gate_value a g ≡ gate_value b g
gate-same n a b same g l r =
    ap (λ x. x && number_value a g.right) (value-same n a b same g.left l)
    ∙ ap (λ x. number_value b g.left && x) (value-same n a b same g.right r)

-- What is before the first gate stays.
pub filled-before : (from : ℕ) (gates : List Gate) (a : Assignment) (u : ℕ) → u < from →
    filled from gates a u ≡ a u
filled-before from [] a u lt = refl
filled-before from (g ∷ gates) a u lt =
    filled-before (suc from) gates (with_value a from (gate_value a g)) u (omega arith)
    ∙ with-other a from (gate_value a g) u lt

pub filled-right : (from : ℕ) (gates : List Gate) (a : Assignment) → AreOrdered from gates →
    AreRight (filled from gates a) from gates
filled-right from [] a good = tt
filled-right from (g ∷ gates) a (l, r, more) =
    let b : Assignment = with_value a from (gate_value a g) in
    let stays : (u : ℕ) → u < from → filled (suc from) gates b u ≡ a u =
    λ u lt. filled-before (suc from) gates b u (omega arith) ∙ with-other a from
    (gate_value a g) u lt in
    let here : filled (suc from) gates b from ≡ gate_value a g =
    filled-before (suc from) gates b from (omega arith) ∙ with-same a from (gate_value a g) in (
      here ∙ sym (gate-same from (filled (suc from) gates b) a stays g l r),
      filled-right (suc from) gates b more,
    )

-- Two assignments with right gates that agree before the first one agree on all.
pub right-same : (from : ℕ) (gates : List Gate) (a b : Assignment) → AreOrdered from gates →
    AreRight a from gates → AreRight b from gates → ((u : ℕ) → u < from → a u ≡ b u) → (u : ℕ) →
    u < from + length gates → a u ≡ b u
right-same from [] a b good p q same u lt = same u (omega arith)
right-same from (g ∷ gates) a b (l, r, more) (here, p) (there, q) same u lt =
    let e : a from ≡ b from = here ∙ gate-same from a b same g l r ∙ sym there in
    right-same (suc from) gates a b more p q
    (λ v few. elim (cases_eq v from) [
      | inl at ↦ let P : ℕ → Type 0 = λ n. a n ≡ b n in subst P (sym at) e
      | inr apart ↦ same v (omega arith)
    ])
    u (omega arith)

-- ---- what the clauses of gates say

pub literal-means : (a : Assignment) (n : ℕ) (l : ℤ) → IsLiteral n l → Means a l (number_value a l)
literal-means a n (pos zero) (some, few) = absurd (omega arith)
literal-means a n (pos (suc x)) h = record { is = refl; other = refl }
literal-means a n (negsuc x) h = record { is = refl; other = sym (not-not (a x)) }

pub gates-met : (a : Assignment) (from : ℕ) (gates : List Gate) → AreOrdered from gates →
    AllMet a (gate_clauses from gates) ↔ AreRight a from gates
gates-met a from [] good = (λ h. h, λ h. h)
gates-met a from (g ∷ gates) (l, r, more) =
    let whole =
    met-append a (and_clauses (further from) g.left g.right) (gate_clauses (suc from) gates) in
    let here = and-met a (further from) g.left g.right (a from) _ _ (further-means a from)
    (literal-means a from g.left l) (literal-means a from g.right r) in
    let rest = gates-met a (suc from) gates more in (
      λ h. let (p, q) = whole.0 h in (here.0 p, rest.0 q),
      λ (p, q). whole.1 (here.1 p, rest.1 q),
    )
