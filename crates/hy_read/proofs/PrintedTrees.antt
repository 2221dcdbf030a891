-- The tokens of a printed formula derive it, and open few parentheses.
use Rattle.std.proofs.Common.{◌≡◌, ℕ, zero, suc, max, ◌+◌, ◌^◌, ◌<◌, ◌≤◌, false, ◌&&◌, if◌then◌else◌, IsTrue, List, [], ◌∷◌, ◌++◌, length, map, slice_index_or, decimal, Some, None, refl, sym, ap, subst, ◌∙◌, arith}
use Rattle.std.specs.Str.{bytes_eq}
use Rattle.std.proofs.lemmas.Bool.{and_parts, ltb-true, false_from_ne_true}
use Rattle.std.proofs.lemmas.Fmt.{decimal_injective}
use Rattle.std.proofs.lemmas.Option.{slice_get-get_or}
use Rattle.hy_base.proofs.Truths.{bytes-themselves, same-bytes}
use Rattle.hy_formula.specs.declared.prefix.Quant.{Quant}
use Rattle.hy_formula.specs.declared.prefix.Quant.TheVariants as quants
use Rattle.hy_formula.specs.Names.{are_distinct, place_of}
use Rattle.hy_formula.specs.Trees.{Tree, always, never, atom as atom_tree, not, next, finally, globally, and, or, implies, iff, until, release, weak, height, vars_below}
use Rattle.hy_formula.proofs.Names.{get-place_of}
use Rattle.hy_read.specs.declared.symbol.Symbol.{Symbol}
use Rattle.hy_read.specs.declared.symbol.Symbol.TheVariants as signs
use Rattle.hy_read.specs.Grammar.{Derives, Quantifier, alone, joined, constant, prefixed, named, grouped, binary_of, loosest, quantifier_tokens, quantifier_word}
use Rattle.hy_read.specs.Printing.{variable_at}
use Rattle.hy_read.specs.Readings.{names_below}
use Rattle.hy_read.specs.Results.{IsBound, last_place_of, later_or, most_open, opened, variables_of}
use Rattle.hy_read.specs.Tokens.{Token, symbol, variable}
use Rattle.hy_read.proofs.PrintedTokens.{between, between_first, printed_heads, printed_tokens}

-- ---- the place of a printed variable is its own

apart_variables : (k m : ℕ) → k < m → m + 1 < 2 ^ 64 → bytes_eq (variable_at m) (variable_at k) ≡ false
apart_variables k m less small = false_from_ne_true (bytes_eq (variable_at m) (variable_at k)) (λ e. other (same-bytes (variable_at m) (variable_at k) e))
  where
    tail : (a b : List ℕ) → 120 ∷ a ≡ 120 ∷ b → a ≡ b
    tail a b e = cc

    other : variable_at m ≡ variable_at k → ⊥
    other e =
        let same : m + 1 ≡ k + 1 = decimal_injective (m + 1) (k + 1) small (omega arith) (tail (decimal (m + 1)) (decimal (k + 1)) e) in
        omega arith

no_later : (k m : ℕ) (qs : List Quant) → k < m → m + length qs < 2 ^ 64 → last_place_of (variable_at k) (variables_of (printed_heads m qs)) ≡ None
no_later k m [] less small = refl
no_later k m (q ∷ qs) less small =
    ap (λ o. later_or o (if bytes_eq (variable_at m) (variable_at k) then Some 0 else None)) (no_later k (suc m) qs (omega arith) (omega arith))
    ∙ ap (λ c. if c then Some 0 else None) (apart_variables k m less (omega arith))

own_place : (j m : ℕ) (qs : List Quant) → j < length qs → m + length qs < 2 ^ 64 → last_place_of (variable_at (m + j)) (variables_of (printed_heads m qs)) ≡ Some j
own_place j m [] less small = absurd (omega arith)
own_place zero m (q ∷ qs) less small =
    let here : m + zero ≡ m = omega arith in
    ap (λ k. last_place_of (variable_at k) (variables_of (printed_heads m (q ∷ qs)))) here
    ∙ ap (λ o. later_or o (if bytes_eq (variable_at m) (variable_at m) then Some 0 else None)) (no_later m (suc m) qs (omega arith) (omega arith))
    ∙ ap (λ c. if c then Some 0 else None) (bytes-themselves (variable_at m))
own_place (suc j) m (q ∷ qs) less small =
    let moved : m + suc j ≡ suc m + j = omega arith in
    ap (λ k. last_place_of (variable_at k) (variables_of (printed_heads m (q ∷ qs)))) moved
    ∙ ap (λ o. later_or o (if bytes_eq (variable_at m) (variable_at (suc m + j)) then Some 0 else None)) (own_place j (suc m) qs (omega arith) (omega arith))

pub heads_long : (m : ℕ) (qs : List Quant) → length (printed_heads m qs) ≡ length qs
heads_long m [] = refl
heads_long m (q ∷ qs) = ap suc (heads_long (suc m) qs)

pub heads_quants : (m : ℕ) (qs : List Quant) → map (λ q. q.quant) (printed_heads m qs) ≡ qs
heads_quants m [] = refl
heads_quants m (q ∷ qs) = ap (λ l. q ∷ l) (heads_quants (suc m) qs)

-- ---- the tokens derive the tree

module _ (Means : List ℕ → List ℕ → Tree → Type 0) where
  pub lifted : (k : ℕ) {tokens rest : List Token} {tree : Tree} → Derives Means 0 tokens tree rest → Derives Means k tokens tree rest
  lifted zero d = d
  lifted (suc k) d = alone (lifted k d)

  raised : (k : ℕ) (tokens rest : List Token) (tree : Tree) (j : ℕ) → Derives Means j tokens tree rest → Derives Means (k + j) tokens tree rest
  raised zero tokens rest tree j d = subst (λ n. Derives Means n tokens tree rest) (omega arith) d
  raised (suc k) tokens rest tree j d = subst (λ n. Derives Means n tokens tree rest) (omega arith) (alone (raised k tokens rest tree j d))

  -- an operator between operands, in parentheses
  joined_between : (s : Symbol) (k more : ℕ) (join : Tree → Tree → Tree) (f g : Tree) (left right ts : List Token) → binary_of s ≡ Some (suc k, join) → more + suc k ≡ loosest
      → ((rest : List Token) → Derives Means 0 (left ++ rest) f rest) → ((rest : List Token) → Derives Means 0 (right ++ rest) g rest) → Derives Means 0 (between s left right ++ ts) (join f g) ts
  joined_between s k more join f g left right ts binds high one two =
      let end : List Token = symbol signs.CloseParen ∷ ts in
      let both : Derives Means (suc k) (left ++ (symbol s ∷ (right ++ end))) (join f g) end = joined binds (lifted k (one (symbol s ∷ (right ++ end)))) (lifted (suc k) (two end)) in
      let inner : Derives Means loosest (left ++ (symbol s ∷ (right ++ end))) (join f g) end =
      subst (λ n. Derives Means n (left ++ (symbol s ∷ (right ++ end))) (join f g) end) high (raised more (left ++ (symbol s ∷ (right ++ end))) end (join f g) (suc k) both) in
      subst (λ l. Derives Means 0 l (join f g) ts) (sym (between_first s left right ts)) (grouped inner)

module _ (table : List (List ℕ)) (distinct : IsTrue (are_distinct table)) (qs : List Quant) (small : length qs < 2 ^ 64) where
  abbrev variables : List (List ℕ)
  variables = variables_of (printed_heads 0 qs)

  abbrev Is : List ℕ → List ℕ → Tree → Type 0
  Is n v t = IsBound table variables n v t

  abbrev Fits : Tree → Type 0
  Fits tree = IsTrue (names_below (length table) tree) × IsTrue (vars_below (length qs) tree)

  fit-left : (f g : Tree) → IsTrue (names_below (length table) f && names_below (length table) g) × IsTrue (vars_below (length qs) f && vars_below (length qs) g) → Fits f
  fit-left f g (n, v) = ((and_parts _ _ n).0, (and_parts _ _ v).0)

  fit-right : (f g : Tree) → IsTrue (names_below (length table) f && names_below (length table) g) × IsTrue (vars_below (length qs) f && vars_below (length qs) g) → Fits g
  fit-right f g (n, v) = ((and_parts _ _ n).1, (and_parts _ _ v).1)

  name_place : (k : ℕ) → k < length table → place_of (slice_index_or table k []) table ≡ Some k
  name_place k less = get-place_of (slice_index_or table k []) table k distinct (slice_get-get_or table k [] less)

  bound_atom : (name place : ℕ) → Fits (atom_tree name place) → Is (slice_index_or table name []) (variable_at place) (atom_tree name place)
  bound_atom name place (n, v) = record {
    number = name;
    place = place;
    has_number = name_place name (ltb-true name (length table) n);
    has_place =
        let here : place ≡ 0 + place = omega arith in
        ap (λ k. last_place_of (variable_at k) variables) here ∙ own_place place 0 qs (ltb-true place (length qs) v) (omega arith);
    is_atom = refl;
  }

  abbrev Derived : Tree → Type 0
  Derived tree = (ts : List Token) → Derives Is 0 (printed_tokens table tree ++ ts) tree ts

  derived_between : (s : Symbol) (k more : ℕ) (join : Tree → Tree → Tree) (f g : Tree) → binary_of s ≡ Some (suc k, join) → more + suc k ≡ loosest → Derived f → Derived g → (ts : List Token) → Derives Is 0 (between s (printed_tokens table f) (printed_tokens table g) ++ ts) (join f g) ts
  derived_between s k more join f g binds high one two ts = joined_between Is s k more join f g (printed_tokens table f) (printed_tokens table g) ts binds high one two

  pub derived : (tree : Tree) → Fits tree → Derived tree
  derived always fits ts = constant {s = signs.True} refl
  derived never fits ts = constant {s = signs.False} refl
  derived (atom_tree name place) fits ts = named (bound_atom name place fits)
  derived (not f) fits ts = prefixed {s = signs.Not} refl (derived f fits ts)
  derived (next f) fits ts = prefixed {s = signs.Next} refl (derived f fits ts)
  derived (finally f) fits ts = prefixed {s = signs.Finally} refl (derived f fits ts)
  derived (globally f) fits ts = prefixed {s = signs.Globally} refl (derived f fits ts)
  derived (and f g) fits ts = derived_between signs.And 1 3 and f g refl refl (derived f (fit-left f g fits)) (derived g (fit-right f g fits)) ts
  derived (or f g) fits ts = derived_between signs.Or 2 2 or f g refl refl (derived f (fit-left f g fits)) (derived g (fit-right f g fits)) ts
  derived (implies f g) fits ts = derived_between signs.Implies 3 1 implies f g refl refl (derived f (fit-left f g fits)) (derived g (fit-right f g fits)) ts
  derived (iff f g) fits ts = derived_between signs.Iff 4 0 iff f g refl refl (derived f (fit-left f g fits)) (derived g (fit-right f g fits)) ts
  derived (until f g) fits ts = derived_between signs.Until 0 4 until f g refl refl (derived f (fit-left f g fits)) (derived g (fit-right f g fits)) ts
  derived (release f g) fits ts = derived_between signs.Release 0 4 release f g refl refl (derived f (fit-left f g fits)) (derived g (fit-right f g fits)) ts
  derived (weak f g) fits ts = derived_between signs.Weak 0 4 weak f g refl refl (derived f (fit-left f g fits)) (derived g (fit-right f g fits)) ts

-- ---- the parentheses that stand open

-- So many parentheses are opened at most by these tokens.
abbrev Opens : List Token → ℕ → Type 0
Opens tokens h = (n : ℕ) (ts : List Token) → most_open n (tokens ++ ts) ≤ max (n + h) (most_open n ts)

opens_between : (s : Symbol) (left right : List Token) (f g : ℕ) → ((n : ℕ) → opened (symbol s) n ≡ n) → Opens left f → Opens right g → Opens (between s left right) (suc (max f g))
opens_between s left right f g same one two n ts =
    let whole = ap (most_open n) (between_first s left right ts) in
    let end : List Token = symbol signs.CloseParen ∷ ts in
    let first = one (suc n) (symbol s ∷ (right ++ end)) in
    let sign : most_open (opened (symbol s) (suc n)) (right ++ end) ≡ most_open (suc n) (right ++ end) = ap (λ k. most_open k (right ++ end)) (same (suc n)) in
    let second = two (suc n) end in
    omega (arith, whole, first, sign, second)

pub opens_body : (table : List (List ℕ)) (tree : Tree) → Opens (printed_tokens table tree) (height tree)
opens_body table always n ts = omega arith
opens_body table never n ts = omega arith
opens_body table (atom_tree name place) n ts = omega arith
opens_body table (not f) n ts = let more = opens_body table f n ts in omega arith
opens_body table (next f) n ts = let more = opens_body table f n ts in omega arith
opens_body table (finally f) n ts = let more = opens_body table f n ts in omega arith
opens_body table (globally f) n ts = let more = opens_body table f n ts in omega arith
opens_body table (and f g) n ts = opens_between signs.And (printed_tokens table f) (printed_tokens table g) (height f) (height g) (λ m. refl) (opens_body table f) (opens_body table g) n ts
opens_body table (or f g) n ts = opens_between signs.Or (printed_tokens table f) (printed_tokens table g) (height f) (height g) (λ m. refl) (opens_body table f) (opens_body table g) n ts
opens_body table (implies f g) n ts = opens_between signs.Implies (printed_tokens table f) (printed_tokens table g) (height f) (height g) (λ m. refl) (opens_body table f) (opens_body table g) n ts
opens_body table (iff f g) n ts = opens_between signs.Iff (printed_tokens table f) (printed_tokens table g) (height f) (height g) (λ m. refl) (opens_body table f) (opens_body table g) n ts
opens_body table (until f g) n ts = opens_between signs.Until (printed_tokens table f) (printed_tokens table g) (height f) (height g) (λ m. refl) (opens_body table f) (opens_body table g) n ts
opens_body table (release f g) n ts = opens_between signs.Release (printed_tokens table f) (printed_tokens table g) (height f) (height g) (λ m. refl) (opens_body table f) (opens_body table g) n ts
opens_body table (weak f g) n ts = opens_between signs.Weak (printed_tokens table f) (printed_tokens table g) (height f) (height g) (λ m. refl) (opens_body table f) (opens_body table g) n ts

word_opens : (q : Quant) (n : ℕ) → opened (symbol (quantifier_word q)) n ≡ n
word_opens quants.Exists n = refl
word_opens quants.Forall n = refl

pub opens_heads : (qs : List Quantifier) (body : List Token) (n : ℕ) → most_open n (quantifier_tokens qs ++ body) ≤ max n (most_open n body)
opens_heads [] body n = omega arith
opens_heads (q ∷ qs) body n =
    let more : List Token = quantifier_tokens qs ++ body in
    let rest : List Token = variable q.bound ∷ symbol signs.Dot ∷ more in
    let word : most_open (opened (symbol (quantifier_word q.quant)) n) rest ≡ most_open n rest = ap (λ k. most_open k rest) (word_opens q.quant n) in
    let later = opens_heads qs body n in
    omega (arith, word, later)
