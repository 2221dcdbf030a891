-- What a name stands for, in parts and together.
use Rattle.std.proofs.Common.{◌≡◌, ◌≢◌, ℕ, zero, suc, ◌+◌, ◌*◌, ◌<◌, ◌⊎◌, Bool, true, false, cond, nat_eq, List, [], ◌∷◌, length, get_or, inl, inr, refl, sym, ap, ◌∙◌, subst, arith}
use Rattle.std.proofs.lemmas.Bool.{cases_eq, false_from_ne_true}
use Rattle.std.proofs.lemmas.Slice.Eq.{bytes_eq-Decides}
use Rattle.std.specs.Str.{bytes_eq}
use Rattle.std.proofs.lemmas.Bool.Decides.{Decides-eqb}
use Rattle.aig_net.specs.Nets.{Net, literal_at}
use Rattle.net_names.specs.declared.meaning.Meaning.{Meaning}
use Rattle.net_names.specs.declared.meaning.Meaning.TheVariants.{Nothing, Literal, Several}
use Rattle.net_names.specs.Meanings.{Means, merged}
use Rattle.net_names.specs.Names.{HasLiteral, NamesLiteral, NamesVariable, name_at}

means-like : (P Q : ℕ → Type 0) → ((l : ℕ) → P l → Q l) → ((l : ℕ) → Q l → P l) → (m : Meaning) →
    Means P m → Means Q m
means-like P Q to from Nothing none = λ l q. none l (from l q)
means-like P Q to from (Literal l) (p, only) = (to l p, λ m q. only m (from m q))
means-like P Q to from Several (l, m, p, q, apart) = (l, m, to l p, to m q, apart)

module _ (P Q : ℕ → Type 0) where
  left : (m : Meaning) → ((l : ℕ) → ¬ Q l) → Means P m → Means (λ l. P l ⊎ Q l) m
  left m none = means-like P (λ l. P l ⊎ Q l) (λ l p. inl p)
      (λ l h. elim h [ inl p ↦ p | inr q ↦ absurd (none l q) ]) m

  right : (m : Meaning) → ((l : ℕ) → ¬ P l) → Means Q m → Means (λ l. P l ⊎ Q l) m
  right m none = means-like Q (λ l. P l ⊎ Q l) (λ l q. inr q)
      (λ l h. elim h [ inl p ↦ absurd (none l p) | inr q ↦ q ]) m

  pub means-merged : (a b : Meaning) → Means P a → Means Q b →
      Means (λ l. P l ⊎ Q l) (merged a b)
  means-merged Nothing b none q = right b none q
  means-merged (Literal l) Nothing p none = left (Literal l) none p
  means-merged Several Nothing p none = left Several none p
  means-merged (Literal l) (Literal m) (p, only) (q, alone) =
      let R : Meaning → Type 0 = Means (λ l. P l ⊎ Q l) in
      elim (cases_eq l m) [
        | inl e ↦
            let yes : nat_eq l m ≡ true = (Decides-eqb l m).1 e in
            subst R (sym (ap (λ b. cond b (Literal l) Several) yes)) (
              inl p,
              λ x h. elim h [ inl p' ↦ only x p' | inr q' ↦ alone x q' ∙ sym e ],
            )
        | inr apart ↦
            let no : nat_eq l m ≡ false = false_from_ne_true _ (λ h. apart ((Decides-eqb l m).0 h)) in
            subst R (sym (ap (λ b. cond b (Literal l) Several) no)) (l, m, inl p, inr q, apart)
      ]
  means-merged (Literal l) Several p (x, y, q, r, apart) = (x, y, inr q, inr r, apart)
  means-merged Several (Literal m) (x, y, q, r, apart) p = (x, y, inl q, inl r, apart)
  means-merged Several Several (x, y, q, r, apart) p = (x, y, inl q, inl r, apart)

-- ---- places of a list, one more at a time

-- a place below i has the name: its literal
abbrev pub Below : List (List ℕ) → List ℕ → (ℕ → ℕ) → ℕ → ℕ → Type 0
Below names name f i l = (j : ℕ) × (j < i) × (name_at names j ≡ name) × (l ≡ f j)

module _ (names : List (List ℕ)) (name : List ℕ) (f : ℕ → ℕ) where
  pub below-none : Means (Below names name f 0) Nothing
  below-none l (j, lt, _, _) = omega (arith, lt)

  pub below-other : (i : ℕ) (m : Meaning) → (name_at names i ≡ name → ⊥) →
      Means (Below names name f i) m → Means (Below names name f (i + 1)) m
  below-other i m apart =
      means-like (Below names name f i) (Below names name f (i + 1))
      (λ l (j, lt, e, is). (j, omega (arith, lt), e, is))
      (λ l (j, lt, e, is). elim (cases_eq j i) [
        | inl same ↦ absurd (apart (ap (name_at names) (sym same) ∙ e))
        | inr less ↦ (j, omega (arith, lt, less), e, is)
      ]) m

  pub below-same : (i x : ℕ) (m : Meaning) → name_at names i ≡ name → x ≡ f i →
      Means (Below names name f i) m → Means (Below names name f (i + 1)) (merged m (Literal x))
  below-same i x m e is means =
      means-like (λ l. Below names name f i l ⊎ (l ≡ x)) (Below names name f (i + 1))
      (λ l h. elim h [
        | inl (j, lt, h, at) ↦ (j, omega (arith, lt), h, at)
        | inr at ↦ (i, omega arith, e, at ∙ is)
      ])
      (λ l (j, lt, h, at). elim (cases_eq j i) [
        | inl same ↦ inr (at ∙ ap f same ∙ sym is)
        | inr less ↦ inl (j, omega (arith, lt, less), h, at)
      ]) (merged m (Literal x))
      (means-merged (Below names name f i) (λ l. l ≡ x) m (Literal x) means (refl, λ y e. e))

pub variables-mean : (names : List (List ℕ)) (name : List ℕ) (first : ℕ) (m : Meaning) →
    Means (Below names name (λ j. 2 * (first + j)) (length names)) m →
    Means (NamesVariable names name first) m
variables-mean names name first m =
    means-like (Below names name (λ j. 2 * (first + j)) (length names))
    (NamesVariable names name first)
    (λ l (j, lt, e, is). (j, (lt, e), is)) (λ l (j, (lt, e), is). (j, lt, e, is)) m

pub literals-mean : (names : List (List ℕ)) (name literals : List ℕ) (m : Meaning) →
    Means (Below names name (literal_at literals) (length names)) m →
    Means (NamesLiteral names name literals) m
literals-mean names name literals m =
    means-like (Below names name (literal_at literals) (length names))
    (NamesLiteral names name literals)
    (λ l (j, lt, e, is). (j, (lt, e), is)) (λ l (j, (lt, e), is). (j, lt, e, is)) m

-- ---- a net

pub nothing-named : (net : Net) (name : List ℕ) → name ≡ [] → Means (HasLiteral net name) Nothing
nothing-named net name e l (some, _) = some e

pub all-mean : (net : Net) (name : List ℕ) (a b c : Meaning) → name ≢ [] →
    Means (NamesVariable net.input_names name 1) a →
    Means (NamesVariable net.latch_names name (1 + net.inputs)) b →
    Means (NamesLiteral net.output_names name net.outputs) c →
    Means (HasLiteral net name) (merged a (merged b c))
all-mean net name a b c some p q r =
    let I : ℕ → Type 0 = NamesVariable net.input_names name 1 in
    let L : ℕ → Type 0 = NamesVariable net.latch_names name (1 + net.inputs) in
    let O : ℕ → Type 0 = NamesLiteral net.output_names name net.outputs in
    means-like (λ l. I l ⊎ (L l ⊎ O l)) (HasLiteral net name) (λ l h. (some, h)) (λ l (_, h). h)
    (merged a (merged b c))
    (means-merged I (λ l. L l ⊎ O l) a (merged b c) p (means-merged L O b c q r))

-- ---- one place more, by the test of names

get-any : (names : List (List ℕ)) (i : ℕ) → i < length names → (d : List ℕ) →
    name_at names i ≡ get_or names i d
get-any [] i lt d = absurd (omega arith)
get-any (n ∷ names) zero lt d = refl
get-any (n ∷ names) (suc i) lt d = get-any names i (omega arith) d

pub next-same : (names : List (List ℕ)) (name own item : List ℕ) (f : ℕ → ℕ) (i x : ℕ)
    (test : Bool) (m found later : Meaning) → test ≡ bytes_eq own name → test ≡ true → own ≡ item →
    item ≡ get_or names i item → i < length names → x ≡ f i → Means (Below names name f i) m →
    found ≡ merged m (Literal x) → later ≡ found → Means (Below names name f (i + 1)) later
next-same names name own item f i x test m found later is on at place lt value means made same =
    let e : name_at names i ≡ name =
    get-any names i lt item ∙ sym (at ∙ place) ∙ (bytes_eq-Decides own name).0 (sym is ∙ on) in
    let P : Meaning → Type 0 = Means (Below names name f (i + 1)) in
    subst P (sym (same ∙ made)) (below-same names name f i x m e value means)

pub next-other : (names : List (List ℕ)) (name own item : List ℕ) (f : ℕ → ℕ) (i : ℕ)
    (test : Bool) (m later : Meaning) → test ≡ bytes_eq own name → test ≡ false → own ≡ item →
    item ≡ get_or names i item → i < length names → Means (Below names name f i) m → later ≡ m →
    Means (Below names name f (i + 1)) later
next-other names name own item f i test m later is off at place lt means same =
    let apart : name_at names i ≡ name → ⊥ = λ e.
    (let same : bytes_eq own name ≡ true =
    (bytes_eq-Decides own name).1 (at ∙ place ∙ sym (get-any names i lt item) ∙ e) in
    let clash : true ≡ false = sym same ∙ sym is ∙ off in cc) in
    let P : Meaning → Type 0 = Means (Below names name f (i + 1)) in
    subst P (sym same) (below-other names name f i m apart means)

pub not-empty : (name : List ℕ) (b : Bool) → b ≡ nat_eq (length name) 0 → b ≡ false → name ≢ []
not-empty name b is off e =
    let zero' : nat_eq (length name) 0 ≡ true = ap (λ n. nat_eq (length n) 0) e in
    let clash : true ≡ false = sym zero' ∙ sym is ∙ off in
    cc

pub all-together : (net : Net) (name : List ℕ) (ins lats outs : List (List ℕ)) (lits : List ℕ)
    (inputs : ℕ) (a b c d e : Meaning) → ins ≡ net.input_names → lats ≡ net.latch_names →
    outs ≡ net.output_names → lits ≡ net.outputs → inputs ≡ net.inputs → name ≢ [] →
    Means (NamesVariable ins name 1) a → Means (NamesVariable lats name (1 + inputs)) b →
    Means (NamesLiteral outs name lits) c → d ≡ merged b c → e ≡ merged a d →
    Means (HasLiteral net name) e
all-together net name ins lats outs lits inputs a b c d e is-ins is-lats is-outs is-lits is some p q
    r made whole =
    let I : List (List ℕ) → Type 0 = λ x. Means (NamesVariable x name 1) a in
    let L : List (List ℕ) → Type 0 = λ x. Means (NamesVariable x name (1 + net.inputs)) b in
    let N : ℕ → Type 0 = λ x. Means (NamesVariable lats name (1 + x)) b in
    let O : List (List ℕ) → Type 0 = λ x. Means (NamesLiteral x name net.outputs) c in
    let V : List ℕ → Type 0 = λ x. Means (NamesLiteral outs name x) c in
    let R : Meaning → Type 0 = Means (HasLiteral net name) in
    subst R (sym (whole ∙ ap (merged a) made))
    (all-mean net name a b c some (subst I is-ins p) (subst L is-lats (subst N is q))
    (subst O is-outs (subst V is-lits r)))
