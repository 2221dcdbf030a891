-- There is one answer to each list of tokens.
use Rattle.std.proofs.Common.{◌≡◌, ℕ, zero, ◌⊎◌, inl, inr, List, [], Bool, Option, Some, None, refl, ap, sym, ◌∙◌}
use Rattle.hy_formula.specs.Trees.{Tree}
use Rattle.hy_read.specs.Tokens.{Token}
use Rattle.hy_read.specs.Grammar.{Quantifier, Read, AreFormulas, IsText}
use Rattle.hy_formula.specs.Names.{place_of}
use Rattle.hy_read.specs.Places.{Place, start, operator, place_after, IsAllowed}
use Rattle.hy_read.specs.Results.{names_of, last_place_of, variables_of, Bound, unbound_at, Count, count_of, most, in_order, first_past, Result, fault, unbound, past, taken, Reads}
use Rattle.hy_formula.specs.Trees.{atom as atom_tree}
use Rattle.hy_read.proofs.Running.{formulas-run, text-runs}
use Rattle.hy_read.proofs.Deriving.{allowed-text}
use Rattle.hy_read.proofs.Viable.{longest-one, longest-once}
use Rattle.hy_read.proofs.Once.{formulas-once}
use Rattle.hy_read.proofs.Collecting.{named-all}
use Rattle.hy_read.proofs.Rebinding.{bind-formulas, bound-formulas}
use Rattle.hy_read.proofs.Building.{some_is}

same_atoms : (a b : Tree) (n m p q : ℕ) → a ≡ atom_tree n p → b ≡ atom_tree m q → n ≡ m → p ≡ q → a ≡ b
same_atoms a b n m p q h k e f = cc

-- an atom means one tree
bound_once : (names : List (List ℕ)) (quantifiers : List Quantifier) (name bound : List ℕ) (a b : Tree) → Bound names quantifiers name bound a → Bound names quantifiers name bound b → a ≡ b
bound_once names quantifiers name bound a b h k =
    same_atoms a b h.number k.number h.place k.place h.is_atom k.is_atom
    (some_is (place_of name names) h.number k.number h.has_number k.has_number)
    (some_is (last_place_of bound (variables_of quantifiers)) h.place k.place h.has_place k.has_place)

pub one-list : (names : List (List ℕ)) (many : Bool) (fs gs : List Read) (tokens : List Token) → AreFormulas (Bound names) many fs tokens → AreFormulas (Bound names) many gs tokens → fs ≡ gs
one-list names many fs gs tokens h k = formulas-once (Bound names) (bound_once names) many fs gs tokens h k

is-end : (o : Option Place) → (o ≡ Some (operator zero)) ⊎ (o ≡ Some (operator zero) → ⊥)
is-end (Some (operator zero)) = inl refl
is-end _ = inr (λ e. cc)

bound-text : (names : List (List ℕ)) (many : Bool) (fs : List Read) (tokens : List Token) → AreFormulas (Bound names) many fs tokens → IsText many tokens
bound-text names many fs tokens h = allowed-text many tokens (formulas-run (Bound names) many fs tokens h)

module _ (many : Bool) (limit : ℕ) (old : List (List ℕ)) (tokens : List Token) where
  abbrev Answered : Type 0
  Answered = (r : Result) × Reads many limit old tokens r

  counted : (fs : List Read) → AreFormulas (Bound (names_of old tokens)) many fs tokens → (o : Option Count) → first_past (most limit) (count_of old tokens fs) in_order ≡ o → Answered
  counted fs h None e = (taken fs (names_of old tokens), (h, e, refl))
  counted fs h (Some c) e = (past c, (fs, h, e))

  all-bound : (fs : List Read) → AreFormulas (Bound (names_of old tokens)) many fs tokens → Answered
  all-bound fs h = counted fs h (first_past (most limit) (count_of old tokens fs) in_order) refl

  allowed : IsText many tokens → (o : Option ℕ) → unbound_at [] tokens ≡ o → Answered
  allowed text (Some k) e = (unbound k, (text, e))
  allowed (fs, are) None e =
      let (gs, bound) = bind-formulas (names_of old tokens) many fs tokens are (named-all tokens old) e in
      all-bound gs bound

  broken : (IsAllowed many tokens → ⊥) → Answered
  broken h = let (k, longest) = longest-one many tokens in (fault k, (λ text. h (text-runs many tokens text), longest))

  pub answered : Answered
  answered = elim (is-end (place_after many start tokens)) [
    | inl e ↦ allowed (allowed-text many tokens e) (unbound_at [] tokens) refl
    | inr h ↦ broken h
  ]

  same-count : (fs gs : List Read) (c d : Option Count) → fs ≡ gs → first_past (most limit) (count_of old tokens fs) in_order ≡ c → first_past (most limit) (count_of old tokens gs) in_order ≡ d → c ≡ d
  same-count fs gs c d e h k = sym h ∙ ap (λ x. first_past (most limit) (count_of old tokens x) in_order) e ∙ k

  abbrev is-text : (fs : List Read) → AreFormulas (Bound (names_of old tokens)) many fs tokens → IsText many tokens
  is-text fs h = bound-text (names_of old tokens) many fs tokens h

  bound-or-not : (fs : List Read) (k : ℕ) → AreFormulas (Bound (names_of old tokens)) many fs tokens → unbound_at [] tokens ≡ Some k → ⊥
  bound-or-not fs k h e = let n = bound-formulas (names_of old tokens) many fs tokens h in cc

  pub answered-once : (r s : Result) → Reads many limit old tokens r → Reads many limit old tokens s → r ≡ s
  answered-once (fault j) (fault k) h g = ap fault (longest-once many tokens j k h.1 g.1)
  answered-once (fault j) (unbound k) h g = absurd (h.0 g.0)
  answered-once (fault j) (past c) h (fs, are, e) = absurd (h.0 (is-text fs are))
  answered-once (fault j) (taken fs table) h g = absurd (h.0 (is-text fs g.0))
  answered-once (unbound j) (fault k) h g = absurd (g.0 h.0)
  answered-once (unbound j) (unbound k) (t, e) (u, f) = cc
  answered-once (unbound j) (past c) (t, e) (fs, are, f) = absurd (bound-or-not fs j are e)
  answered-once (unbound j) (taken fs table) (t, e) g = absurd (bound-or-not fs j g.0 e)
  answered-once (past c) (fault k) (fs, are, e) g = absurd (g.0 (is-text fs are))
  answered-once (past c) (unbound k) (fs, are, e) (t, f) = absurd (bound-or-not fs k are f)
  answered-once (past c) (past d) (fs, h, e) (gs, g, f) =
      let same = same-count fs gs (Some c) (Some d) (one-list (names_of old tokens) many fs gs tokens h g) e f in
      let counts : c ≡ d = cc in
      ap past counts
  answered-once (past c) (taken gs table) (fs, h, e) (g, f, t) =
      let same = same-count fs gs (Some c) None (one-list (names_of old tokens) many fs gs tokens h g) e f in
      absurd cc
  answered-once (taken fs table) (fault k) h g = absurd (g.0 (is-text fs h.0))
  answered-once (taken fs table) (unbound k) h (t, e) = absurd (bound-or-not fs k h.0 e)
  answered-once (taken fs table) (past d) (h, e, t) (gs, g, f) =
      let same = same-count fs gs None (Some d) (one-list (names_of old tokens) many fs gs tokens h g) e f in
      absurd cc
  answered-once (taken fs table) (taken gs other) (h, e, t) (g, f, u) =
      let lists = one-list (names_of old tokens) many fs gs tokens h g in
      cc
