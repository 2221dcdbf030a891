-- The names of a printed formula are those of its tree, in the order of their first occurrence.
use Rattle.std.proofs.Common.{◌≡◌, ℕ, ◌<◌, IsTrue, List, [], ◌∷◌, ◌++◌, length, slice_index_or, Some, refl, sym, ap, ◌∙◌}
use Rattle.std.proofs.lemmas.Bool.{and_parts, ltb-true}
use Rattle.std.proofs.lemmas.Option.{slice_get-get_or}
use Rattle.hy_formula.specs.Names.{added_unless, are_distinct, place_of, with_name}
use Rattle.hy_formula.specs.Trees.{Tree, always, never, atom as atom_tree, not, next, finally, globally, and, or, implies, iff, until, release, weak}
use Rattle.hy_formula.proofs.Names.{get-place_of, place_of-get, place_of-lt}
use Rattle.hy_read.specs.declared.symbol.Symbol.{Symbol}
use Rattle.hy_read.specs.declared.symbol.Symbol.TheVariants as signs
use Rattle.hy_read.specs.Grammar.{Derives, Quantifier, alone, joined, constant, prefixed, named, grouped, binary_of, constant_of, quantifier_tokens, unary_of}
use Rattle.hy_read.specs.Readings.{names_below}
use Rattle.hy_read.specs.Results.{IsBound, names_of}
use Rattle.hy_read.specs.Tokens.{Token, symbol}
use Rattle.hy_read.proofs.PrintedTokens.{between, between_first, printed_tokens}
use Rattle.hy_read.proofs.ReadFormulas.{one_join}

-- the names with those of a tree, in the order of their first occurrence
abbrev pub tree_names : List (List ℕ) → Tree → List (List ℕ) → List (List ℕ)
tree_names table always names = names
tree_names table never names = names
tree_names table (atom_tree name place) names = with_name (slice_index_or table name []) names
tree_names table (not f) names = tree_names table f names
tree_names table (next f) names = tree_names table f names
tree_names table (finally f) names = tree_names table f names
tree_names table (globally f) names = tree_names table f names
tree_names table (and f g) names = tree_names table g (tree_names table f names)
tree_names table (or f g) names = tree_names table g (tree_names table f names)
tree_names table (implies f g) names = tree_names table g (tree_names table f names)
tree_names table (iff f g) names = tree_names table g (tree_names table f names)
tree_names table (until f g) names = tree_names table g (tree_names table f names)
tree_names table (release f g) names = tree_names table g (tree_names table f names)
tree_names table (weak f g) names = tree_names table g (tree_names table f names)

pub heads_names : (qs : List Quantifier) (body : List Token) (names : List (List ℕ)) → names_of names (quantifier_tokens qs ++ body) ≡ names_of names body
heads_names [] body names = refl
heads_names (q ∷ qs) body names = heads_names qs body names

module _ (table : List (List ℕ)) where
  abbrev NamesOf : List Token → Tree → Type 0
  NamesOf tokens tree = (names : List (List ℕ)) (ts : List Token) → names_of names (tokens ++ ts) ≡ names_of (tree_names table tree names) ts

  names_between : (s : Symbol) (left right : List Token) (f g : Tree) → NamesOf left f → NamesOf right g → (names : List (List ℕ)) (ts : List Token) → names_of names (between s left right ++ ts) ≡ names_of (tree_names table g (tree_names table f names)) ts
  names_between s left right f g one two names ts =
      let end : List Token = symbol signs.CloseParen ∷ ts in
      ap (names_of names) (between_first s left right ts) ∙ one names (symbol s ∷ (right ++ end)) ∙ two (tree_names table f names) end

  pub names_printed : (tree : Tree) → NamesOf (printed_tokens table tree) tree
  names_printed always names ts = refl
  names_printed never names ts = refl
  names_printed (atom_tree name place) names ts = refl
  names_printed (not f) names ts = names_printed f names ts
  names_printed (next f) names ts = names_printed f names ts
  names_printed (finally f) names ts = names_printed f names ts
  names_printed (globally f) names ts = names_printed f names ts
  names_printed (and f g) names ts = names_between signs.And (printed_tokens table f) (printed_tokens table g) f g (names_printed f) (names_printed g) names ts
  names_printed (or f g) names ts = names_between signs.Or (printed_tokens table f) (printed_tokens table g) f g (names_printed f) (names_printed g) names ts
  names_printed (implies f g) names ts = names_between signs.Implies (printed_tokens table f) (printed_tokens table g) f g (names_printed f) (names_printed g) names ts
  names_printed (iff f g) names ts = names_between signs.Iff (printed_tokens table f) (printed_tokens table g) f g (names_printed f) (names_printed g) names ts
  names_printed (until f g) names ts = names_between signs.Until (printed_tokens table f) (printed_tokens table g) f g (names_printed f) (names_printed g) names ts
  names_printed (release f g) names ts = names_between signs.Release (printed_tokens table f) (printed_tokens table g) f g (names_printed f) (names_printed g) names ts
  names_printed (weak f g) names ts = names_between signs.Weak (printed_tokens table f) (printed_tokens table g) f g (names_printed f) (names_printed g) names ts

  -- what was read has the names of its tree

  joined_names : (s : Symbol) (r : ℕ) (join : Tree → Tree → Tree) (f g : Tree) (names : List (List ℕ)) → binary_of s ≡ Some (r, join) → tree_names table (join f g) names ≡ tree_names table g (tree_names table f names)
  joined_names signs.And r join f g names h = ap (λ o. tree_names table (o f g) names) (sym (one_join signs.And 2 r and join refl h))
  joined_names signs.Or r join f g names h = ap (λ o. tree_names table (o f g) names) (sym (one_join signs.Or 3 r or join refl h))
  joined_names signs.Implies r join f g names h = ap (λ o. tree_names table (o f g) names) (sym (one_join signs.Implies 4 r implies join refl h))
  joined_names signs.Iff r join f g names h = ap (λ o. tree_names table (o f g) names) (sym (one_join signs.Iff 5 r iff join refl h))
  joined_names signs.Until r join f g names h = ap (λ o. tree_names table (o f g) names) (sym (one_join signs.Until 1 r until join refl h))
  joined_names signs.Release r join f g names h = ap (λ o. tree_names table (o f g) names) (sym (one_join signs.Release 1 r release join refl h))
  joined_names signs.Weak r join f g names h = ap (λ o. tree_names table (o f g) names) (sym (one_join signs.Weak 1 r weak join refl h))
  joined_names _ r join f g names h = absurd cc

  prefixed_names : (s : Symbol) (make : Tree → Tree) (f : Tree) (names : List (List ℕ)) → unary_of s ≡ Some make → tree_names table (make f) names ≡ tree_names table f names
  prefixed_names signs.Not make f names h = let e : make ≡ not = cc in ap (λ o. tree_names table (o f) names) e
  prefixed_names signs.Next make f names h = let e : make ≡ next = cc in ap (λ o. tree_names table (o f) names) e
  prefixed_names signs.Finally make f names h = let e : make ≡ finally = cc in ap (λ o. tree_names table (o f) names) e
  prefixed_names signs.Globally make f names h = let e : make ≡ globally = cc in ap (λ o. tree_names table (o f) names) e
  prefixed_names _ make f names h = absurd cc

  constant_names : (s : Symbol) (tree : Tree) (names : List (List ℕ)) → constant_of s ≡ Some tree → tree_names table tree names ≡ names
  constant_names signs.True tree names h = let e : tree ≡ always = cc in ap (λ t. tree_names table t names) e
  constant_names signs.False tree names h = let e : tree ≡ never = cc in ap (λ t. tree_names table t names) e
  constant_names _ tree names h = absurd cc

  name_at_place : (name : List ℕ) (k : ℕ) → place_of name table ≡ Some k → slice_index_or table k [] ≡ name
  name_at_place name k e =
      let there = place_of-get name table k e in
      let same = slice_get-get_or table k [] (place_of-lt name table k e) in
      cc

  module _ (vs : List (List ℕ)) where
    pub names_derived : {rank : ℕ} {tokens rest : List Token} {tree : Tree} → Derives (IsBound table vs) rank tokens tree rest → (names : List (List ℕ)) → names_of names tokens ≡ names_of (tree_names table tree names) rest
    names_derived (alone d) names = names_derived d names
    names_derived {rest = rest} (joined {left = left} {right = right} {s = s} {join = join} h d e) names =
        names_derived d names ∙ names_derived e (tree_names table left names) ∙ ap (λ n. names_of n rest) (sym (joined_names s _ join left right names h))
    names_derived (constant {rest = rest} {tree = tree} {s = s} h) names = ap (λ n. names_of n rest) (sym (constant_names s tree names h))
    names_derived {rest = rest} (prefixed {tree = tree} {s = s} {make = make} h d) names =
        names_derived d names ∙ ap (λ n. names_of n rest) (sym (prefixed_names s make tree names h))
    names_derived (named {rest = rest} {tree = tree} {name = name} h) names =
        ap (λ n. names_of (with_name n names) rest) (sym (name_at_place name h.number h.has_number)) ∙ ap (λ t. names_of (tree_names table t names) rest) (sym h.is_atom)
    names_derived (grouped d) names = names_derived d names

  module _ (distinct : IsTrue (are_distinct table)) where
    kept_one : (k : ℕ) → k < length table → with_name (slice_index_or table k []) table ≡ table
    kept_one k less =
        ap (λ o. added_unless o (slice_index_or table k []) table) (get-place_of (slice_index_or table k []) table k distinct (slice_get-get_or table k [] less))

    then_both : (f g : Tree) → tree_names table f table ≡ table → tree_names table g table ≡ table → tree_names table g (tree_names table f table) ≡ table
    then_both f g one two = ap (tree_names table g) one ∙ two

    -- no name of a tree over the table is new
    pub names_kept_by : (tree : Tree) → IsTrue (names_below (length table) tree) → tree_names table tree table ≡ table
    names_kept_by always n = refl
    names_kept_by never n = refl
    names_kept_by (atom_tree name place) n = kept_one name (ltb-true name (length table) n)
    names_kept_by (not f) n = names_kept_by f n
    names_kept_by (next f) n = names_kept_by f n
    names_kept_by (finally f) n = names_kept_by f n
    names_kept_by (globally f) n = names_kept_by f n
    names_kept_by (and f g) n = then_both f g (names_kept_by f (and_parts _ _ n).0) (names_kept_by g (and_parts _ _ n).1)
    names_kept_by (or f g) n = then_both f g (names_kept_by f (and_parts _ _ n).0) (names_kept_by g (and_parts _ _ n).1)
    names_kept_by (implies f g) n = then_both f g (names_kept_by f (and_parts _ _ n).0) (names_kept_by g (and_parts _ _ n).1)
    names_kept_by (iff f g) n = then_both f g (names_kept_by f (and_parts _ _ n).0) (names_kept_by g (and_parts _ _ n).1)
    names_kept_by (until f g) n = then_both f g (names_kept_by f (and_parts _ _ n).0) (names_kept_by g (and_parts _ _ n).1)
    names_kept_by (release f g) n = then_both f g (names_kept_by f (and_parts _ _ n).0) (names_kept_by g (and_parts _ _ n).1)
    names_kept_by (weak f g) n = then_both f g (names_kept_by f (and_parts _ _ n).0) (names_kept_by g (and_parts _ _ n).1)
