-- The names of a closure's literals.
use Rattle.std.proofs.Common.{◌≡◌, ℕ, zero, suc, ◌+◌, ◌*◌, ◌<◌, ◌≤◌, Bool, true, false, ◌&&◌, ◌||◌, cond, nat_eq, List, [], ◌∷◌, ◌++◌, length, Option, Some, None, is_some, unwrap_or, ◌⊎◌, inl, inr, refl, sym, ap, ◌∙◌, subst, arith, length-append}
use Rattle.std.proofs.lemmas.Bool.{cases_eq, or_cases, or_left, or_right}
use Rattle.std.proofs.lemmas.Bool.Decides.{Decides-eqb}
use Rattle.std.proofs.lemmas.List.Folds.{list_any-append}
use Rattle.ltl_closure.specs.Nodes as node
use Rattle.ltl_closure.specs.Nodes.{Node, node_at}
use Rattle.aig_net.specs.Signals.{has_signal, literal_of}
use Rattle.free_net.specs.FreeNets.{HasName, free_signals, is_among, name_in, names_below, names_of, with_name, with_some}

-- ---- one name more

name-new : (name : ℕ) (names : List ℕ) → is_among (with_name name names) name ≡ true
name-new name names = at (is_among names name) refl
  where
    at : (b : Bool) → is_among names name ≡ b →
        is_among (cond b names (names ++ name ∷ [])) name ≡ true
    at true e = e
    at false e =
        list_any-append (λ x. nat_eq x name) names (name ∷ [])
        ∙ or_right (is_among names name) (is_among (name ∷ []) name)
        (ap (λ b. b || false) ((Decides-eqb name name).1 refl))

name-kept : (name other : ℕ) (names : List ℕ) → is_among names other ≡ true →
    is_among (with_name name names) other ≡ true
name-kept name other names h = at (is_among names name)
  where
    at : (b : Bool) → is_among (cond b names (names ++ name ∷ [])) other ≡ true
    at true = h
    at false =
        list_any-append (λ x. nat_eq x other) names (name ∷ [])
        ∙ or_left (is_among names other) (is_among (name ∷ []) other) h

name-from : (name other : ℕ) (names : List ℕ) → is_among (with_name name names) other ≡ true →
    (is_among names other ≡ true) ⊎ (name ≡ other)
name-from name other names = at (is_among names name)
  where
    at : (b : Bool) → is_among (cond b names (names ++ name ∷ [])) other ≡ true →
        (is_among names other ≡ true) ⊎ (name ≡ other)
    at true h = inl h
    at false h =
        elim (or_cases (is_among names other) (is_among (name ∷ []) other)
        (sym (list_any-append (λ x. nat_eq x other) names (name ∷ [])) ∙ h)) [
          | inl old ↦ inl old
          | inr new ↦ elim (or_cases (nat_eq name other) false new) [
            | inl e ↦ inr ((Decides-eqb name other).0 e)
            | inr wrong ↦ absurd (cc)
          ]
        ]

-- ---- the nodes below a number

some-kept : (o : Option ℕ) (names : List ℕ) (other : ℕ) → is_among names other ≡ true →
    is_among (with_some o names) other ≡ true
some-kept (Some name) names other h = name-kept name other names h
some-kept None names other h = h

there-below : (nodes : List Node) (m k a : ℕ) → k < m → name_in (node_at nodes k) ≡ Some a →
    is_among (names_below nodes m) a ≡ true
there-below nodes zero k a lt e = absurd (omega arith)
there-below nodes (suc m) k a lt e =
    elim (cases_eq k m) [
      | inl same ↦
          let P : ℕ → Type 0 = λ m. is_among (with_some (name_in (node_at nodes m))
          (names_below nodes m)) a ≡ true in
          subst P same (ap (λ o. is_among (with_some o (names_below nodes k)) a) e
          ∙ name-new a (names_below nodes k))
      | inr apart ↦
          some-kept (name_in (node_at nodes m)) (names_below nodes m) a
          (there-below nodes m k a (omega (arith, lt, apart)) e)
    ]

pub name-there : (nodes : List Node) (k a v : ℕ) (b : Bool) → k < length nodes →
    node_at nodes k ≡ node.literal b a v → is_among (names_of nodes) a ≡ true
name-there nodes k a v b lt e = there-below nodes (length nodes) k a lt (ap name_in e)

literal-in : (x : Node) (name : ℕ) → name_in x ≡ Some name →
    (b : Bool) × (v : ℕ) × (x ≡ node.literal b name v)
literal-in (node.literal b a v) name e = (b, v, ap (λ a. node.literal b a v) (ap (λ o. unwrap_or o 0) e))
literal-in node.always name e = absurd (cc)
literal-in node.never name e = absurd (cc)
literal-in (node.and f g) name e = absurd (cc)
literal-in (node.or f g) name e = absurd (cc)
literal-in (node.next f) name e = absurd (cc)
literal-in (node.weak_next f) name e = absurd (cc)
literal-in (node.until f g) name e = absurd (cc)
literal-in (node.release f g) name e = absurd (cc)

from-below : (nodes : List Node) (m name : ℕ) → is_among (names_below nodes m) name ≡ true →
    (k : ℕ) × (k < m) × (name_in (node_at nodes k) ≡ Some name)
from-below nodes zero name h = absurd (cc)
from-below nodes (suc m) name h =
    at (name_in (node_at nodes m)) refl h
    (λ old. let (k, lt, e) = from-below nodes m name old in (k, omega (arith, lt), e))
  where
    at : (o : Option ℕ) → name_in (node_at nodes m) ≡ o →
        is_among (with_some o (names_below nodes m)) name ≡ true →
        (is_among (names_below nodes m) name ≡ true →
        (k : ℕ) × (k < suc m) × (name_in (node_at nodes k) ≡ Some name)) →
        (k : ℕ) × (k < suc m) × (name_in (node_at nodes k) ≡ Some name)
    at None e h behind = behind h
    at (Some a) e h behind =
        elim (name-from a name (names_below nodes m) h) [
          | inl old ↦ behind old
          | inr same ↦ (m, omega arith, e ∙ ap Some same)
        ]

pub name-from_nodes : (nodes : List Node) (name : ℕ) → is_among (names_of nodes) name ≡ true →
    HasName nodes name
name-from_nodes nodes name h =
    let (k, lt, e) = from-below nodes (length nodes) name h in
    let (b, v, is) = literal-in (node_at nodes k) name e in
    record { place = k; variable = v; sign = b; below = lt; is = is }

pub names-few : (nodes : List Node) (m : ℕ) → length (names_below nodes m) ≤ m
names-few nodes zero = omega arith
names-few nodes (suc m) = at (name_in (node_at nodes m)) (names-few nodes m)
  where
    more : (b : Bool) (a : ℕ) (names : List ℕ) → length names ≤ m →
        length (cond b names (names ++ a ∷ [])) ≤ suc m
    more true a names le = omega (arith, le)
    more false a names le = let l = length-append names (a ∷ []) in omega (arith, l, le)

    at : (o : Option ℕ) → length (names_below nodes m) ≤ m →
        length (with_some o (names_below nodes m)) ≤ suc m
    at (Some a) le = more (is_among (names_below nodes m) a) a (names_below nodes m) le
    at None le = omega (arith, le)

-- ---- the signals, one more

pub signals-more : (j : ℕ) (names : List ℕ) (name : ℕ) →
    free_signals j (names ++ name ∷ [])
    ≡ free_signals j names ++ record { name = name; var = 0; literal = 2 * suc (j + length names) } ∷ []
signals-more j [] name =
    let plain : j ≡ j + 0 = omega arith in
    ap (λ n. record { name = name; var = 0; literal = 2 * suc n } ∷ []) plain
signals-more j (x ∷ names) name =
    let plain : suc j + length names ≡ j + suc (length names) = omega arith in
    ap (λ l. record { name = x; var = 0; literal = 2 * suc j } ∷ l) (signals-more (suc j) names name
    ∙ ap (λ n. free_signals (suc j) names ++ record { name = name; var = 0; literal = 2 * suc n } ∷ [])
    plain)

pub signals-many : (j : ℕ) (names : List ℕ) → length (free_signals j names) ≡ length names
signals-many j [] = refl
signals-many j (x ∷ names) = ap suc (signals-many (suc j) names)

pub has-input : (j : ℕ) (names : List ℕ) (name : ℕ) →
    has_signal (free_signals j names) name 0 ≡ is_among names name
has-input j [] name = refl
has-input j (x ∷ names) name = at (nat_eq x name) (has-input (suc j) names name)
  where
    at : (b : Bool) → has_signal (free_signals (suc j) names) name 0 ≡ is_among names name →
        is_some (cond (b && nat_eq 0 0) (Some (2 * suc j))
        (literal_of (free_signals (suc j) names) name 0)) ≡ (b || is_among names name)
    at true rest = refl
    at false rest = rest
