-- A body looks at its own variables alone.
use Rattle.std.proofs.Common.{◌≡◌, ℕ, ◌<◌, Bool, true, false, cond, nat_lt, inl, inr, sym, subst}
use Rattle.std.proofs.Math.Path.{fun_ext}
use Rattle.std.proofs.lemmas.Bool.{cases_lt}
use Rattle.hy_base.proofs.Truths.{cond-below, cond-above}
use Rattle.hy_formula.specs.Trees.{Tree, vars_below}
use Rattle.hy_formula.specs.Temporal.{endless, Words, SatisfiesAt}
use Rattle.hy_formula.specs.Normals.{Signed}
use Rattle.hy_formula.specs.Renamed.{renamed, with_variables}
use Rattle.hy_formula.proofs.Renaming.{renamed-right, renamed-kept}

-- What a body says of words that agree on the variables below n.
pub body-same : (n : ℕ) → 0 < n → (words words' : Words) →
    ((a v i : ℕ) → v < n → words a v i ≡ words' a v i) → (f : Tree) → vars_below n f ≡ true →
    (i : ℕ) → SatisfiesAt endless words f i → SatisfiesAt endless words' f i
body-same n some words words' same f below i h =
    let map : ℕ → ℕ = λ v. cond (nat_lt v n) v 0 in
    let S : ℕ → Type 0 = λ x. x < n in
    let small : (v : ℕ) → map v < n = λ v. elim (cases_lt v n) [
      | inl lt ↦ subst S (sym (cond-below v n v 0 lt)) lt
      | inr le ↦ subst S (sym (cond-above v n v 0 le)) some
    ] in
    let own : renamed map f ≡ f =
    renamed-kept map n (λ v lt. cond-below v n v 0 lt) f below in
    let words-same : with_variables map words ≡ with_variables map words' =
    fun_ext (λ a. fun_ext (λ v. fun_ext (λ i. same a (map v) i (small v)))) in
    let P : Tree → Type 0 = λ f. SatisfiesAt endless words f i in
    let P' : Tree → Type 0 = λ f. SatisfiesAt endless words' f i in
    let Q : Words → Type 0 = λ x. SatisfiesAt endless x f i in
    subst P' own ((renamed-right endless words' map f i).1 (subst Q words-same
    ((renamed-right endless words map f i).0 (subst P (sym own) h))))

pub signed-like : (b : Bool) {P Q : Type 0} → (P → Q) → (Q → P) → Signed b P → Signed b Q
signed-like true f g h = f h
signed-like false f g h = λ q. h (g q)

-- the same of a body, or of its negation
pub signed-same : (b : Bool) (n : ℕ) → 0 < n → (words words' : Words) →
    ((a v i : ℕ) → v < n → words a v i ≡ words' a v i) → (f : Tree) → vars_below n f ≡ true →
    Signed b (SatisfiesAt endless words f 0) → Signed b (SatisfiesAt endless words' f 0)
signed-same b n some words words' same f below =
    signed-like b (body-same n some words words' same f below 0)
    (body-same n some words' words (λ a v i lt. sym (same a v i lt)) f below 0)
