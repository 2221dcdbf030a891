-- A text without unbound atoms derives from the grammar with its atoms' meanings.
use Rattle.std.proofs.Common.{◌≡◌, ℕ, zero, suc, ◌≤◌, List, [], ◌∷◌, ◌++◌, length, Bool, Option, Some, None, IsTrue, refl, ap, sym, subst, ◌∙◌, append_assoc}
use Rattle.std.specs.Option.{option_map}
use Rattle.hy_formula.specs.declared.prefix.Quant.{Quant}
use Rattle.hy_formula.specs.declared.prefix.Quant.TheVariants as quants
use Rattle.hy_read.specs.declared.symbol.Symbol.{Symbol}
use Rattle.hy_read.specs.declared.symbol.Symbol.TheVariants as signs
use Rattle.hy_formula.specs.Trees.{Tree, atom as atom_tree}
use Rattle.hy_read.specs.Tokens.{Token, symbol, variable, Kind, binary, prefix, leaf, semicolon, kind_of_symbol}
use Rattle.hy_read.specs.Grammar.{Derives, alone, joined, constant, prefixed, named, grouped, quantifier_word, Quantifier, quantifier_tokens, Read, IsFormula, AreFormulas, Anything}
use Rattle.hy_read.specs.Results.{last_place_of, variables_of, IsBound, Bound, kept, here_unless, unbound_at}
use Rattle.hy_read.proofs.TokenKinds.{binary-kind, prefix-kind, leaf-kind}
use Rattle.hy_read.proofs.Collecting.{Named}

map-none : (o : Option ℕ) → option_map suc o ≡ None → o ≡ None
map-none None e = refl
map-none (Some k) e = absurd cc

kept-same : (s : Symbol) (vs : List (List ℕ)) → (kind_of_symbol s ≡ semicolon → ⊥) → kept s vs ≡ vs
kept-same signs.Semicolon vs h = absurd (h refl)
kept-same _ vs h = refl

differ : (s : Symbol) (k : Kind) → kind_of_symbol s ≡ k → (k ≡ semicolon → ⊥) → kind_of_symbol s ≡ semicolon → ⊥
differ s k e h g = h (sym e ∙ g)

-- a symbol that is no `;` changes nothing
past-symbol : (s : Symbol) (k : Kind) (vs : List (List ℕ)) (ts : List Token) → kind_of_symbol s ≡ k → (k ≡ semicolon → ⊥) → unbound_at vs (symbol s ∷ ts) ≡ option_map suc (unbound_at vs ts)
past-symbol s k vs ts e h = ap (λ x. option_map suc (unbound_at x ts)) (kept-same s vs (differ s k e h))

symbol-none : (s : Symbol) (k : Kind) (vs : List (List ℕ)) (ts : List Token) → kind_of_symbol s ≡ k → (k ≡ semicolon → ⊥) → unbound_at vs (symbol s ∷ ts) ≡ None → unbound_at vs ts ≡ None
symbol-none s k vs ts e h u = map-none (unbound_at vs ts) (sym (past-symbol s k vs ts e h) ∙ u)

none-symbol : (s : Symbol) (k : Kind) (vs : List (List ℕ)) (ts : List Token) → kind_of_symbol s ≡ k → (k ≡ semicolon → ⊥) → unbound_at vs ts ≡ None → unbound_at vs (symbol s ∷ ts) ≡ None
none-symbol s k vs ts e h u = past-symbol s k vs ts e h ∙ ap (option_map suc) u

here-none : (o later : Option ℕ) → here_unless o later ≡ None → ((k : ℕ) × (o ≡ Some k)) × (later ≡ None)
here-none None later e = absurd cc
here-none (Some k) later e = ((k, refl), map-none later e)

not-binary : binary ≡ semicolon → ⊥
not-binary e = cc

not-prefix : prefix ≡ semicolon → ⊥
not-prefix e = cc

not-leaf : leaf ≡ semicolon → ⊥
not-leaf e = cc

abbrev Any : List ℕ → List ℕ → Tree → Type 0
Any a v t = Unit {0}

module _ (names : List (List ℕ)) (vs : List (List ℕ)) where
  abbrev Is : List ℕ → List ℕ → Tree → Type 0
  Is n v t = IsBound names vs n v t

  rebind : {rank : ℕ} {tokens rest : List Token} {tree : Tree} → Derives Any rank tokens tree rest → Named names tokens → unbound_at vs tokens ≡ None → (b : Tree) × Derives Is rank tokens b rest × Named names rest × (unbound_at vs rest ≡ None)
  rebind (alone d) n u = let (b, c, m, w) = rebind d n u in (b, alone c, m, w)
  rebind (joined {middle = middle} {s = s} {join = join} h d e) n u =
      let (a, c, m, w) = rebind d n u in
      let (b, f, l, x) = rebind e m (symbol-none s binary vs middle (binary-kind s _ h) not-binary w) in
      (join a b, joined h c f, l, x)
  rebind (constant {rest = rest} {tree = tree} {s = s} h) n u =
      (tree, constant h, n, symbol-none s leaf vs rest (leaf-kind s _ h) not-leaf u)
  rebind (prefixed {tokens = tokens} {s = s} {make = make} h d) n u =
      let (b, c, m, w) = rebind d n (symbol-none s prefix vs tokens (prefix-kind s _ h) not-prefix u) in
      (make b, prefixed h c, m, w)
  rebind (named {rest = rest} {name = name} {bound = bound} h) n u =
      let ((k, e), w) = here-none (last_place_of bound vs) (unbound_at vs rest) u in
      let ((j, f), m) = n in
      (atom_tree j k, named (record { number = j; place = k; has_number = f; has_place = e; is_atom = refl }), m, w)
  rebind (grouped {tokens = tokens} {rest = rest} d) n u =
      let (b, c, m, w) = rebind d n (map-none (unbound_at vs tokens) u) in
      (b, grouped c, m, map-none (unbound_at vs rest) w)

  -- atoms that have a meaning are bound
  bound-none : {rank : ℕ} {tokens rest : List Token} {tree : Tree} → Derives Is rank tokens tree rest → unbound_at vs rest ≡ None → unbound_at vs tokens ≡ None
  bound-none (alone d) u = bound-none d u
  bound-none (joined {middle = middle} {s = s} h d e) u =
      bound-none d (none-symbol s binary vs middle (binary-kind s _ h) not-binary (bound-none e u))
  bound-none (constant {rest = rest} {s = s} h) u = none-symbol s leaf vs rest (leaf-kind s _ h) not-leaf u
  bound-none (prefixed {tokens = tokens} {s = s} h d) u =
      none-symbol s prefix vs tokens (prefix-kind s _ h) not-prefix (bound-none d u)
  bound-none (named {rest = rest} {name = name} {bound = bound} h) u =
      ap (λ x. here_unless x (unbound_at vs rest)) h.has_place ∙ ap (option_map suc) u
  bound-none (grouped d) u = ap (option_map suc) (bound-none d (ap (option_map suc) u))

word-steps : (q : Quant) (vs : List (List ℕ)) (v : List ℕ) (ts : List Token) → unbound_at vs (symbol (quantifier_word q) ∷ variable v ∷ symbol signs.Dot ∷ ts) ≡ option_map suc (option_map suc (option_map suc (unbound_at (vs ++ v ∷ []) ts)))
word-steps quants.Exists vs v ts = refl
word-steps quants.Forall vs v ts = refl

three-none : (o : Option ℕ) → option_map suc (option_map suc (option_map suc o)) ≡ None → o ≡ None
three-none None e = refl
three-none (Some k) e = absurd cc

behind-heads : (qs : List Quantifier) (vs : List (List ℕ)) (body : List Token) → unbound_at vs (quantifier_tokens qs ++ body) ≡ None → unbound_at (vs ++ variables_of qs) body ≡ None
behind-heads [] vs body u = subst (λ x. unbound_at x body ≡ None) (sym (Rattle.std.proofs.Common.append-nil vs)) u
behind-heads (q ∷ qs) vs body u =
    let next = three-none (unbound_at (vs ++ q.bound ∷ []) (quantifier_tokens qs ++ body)) (sym (word-steps q.quant vs q.bound (quantifier_tokens qs ++ body)) ∙ u) in
    subst (λ x. unbound_at x body ≡ None) (append_assoc vs (q.bound ∷ []) (variables_of qs)) (behind-heads qs (vs ++ q.bound ∷ []) body next)

before-heads : (qs : List Quantifier) (vs : List (List ℕ)) (body : List Token) → unbound_at (vs ++ variables_of qs) body ≡ None → unbound_at vs (quantifier_tokens qs ++ body) ≡ None
before-heads [] vs body u = subst (λ x. unbound_at x body ≡ None) (Rattle.std.proofs.Common.append-nil vs) u
before-heads (q ∷ qs) vs body u =
    let next = before-heads qs (vs ++ q.bound ∷ []) body (subst (λ x. unbound_at x body ≡ None) (sym (append_assoc vs (q.bound ∷ []) (variables_of qs))) u) in
    word-steps q.quant vs q.bound (quantifier_tokens qs ++ body) ∙ ap (λ x. option_map suc (option_map suc (option_map suc x))) next

named-behind : (names : List (List ℕ)) (qs : List Quantifier) (body : List Token) → Named names (quantifier_tokens qs ++ body) → Named names body
named-behind names [] body n = n
named-behind names (q ∷ qs) body n = named-behind names qs body n

module _ (names : List (List ℕ)) where
  bind-formula : (f : Read) (tokens rest : List Token) → IsFormula Anything f tokens rest → Named names tokens → unbound_at [] tokens ≡ None → (g : Read) × IsFormula (Bound names) g tokens rest × Named names rest × (unbound_at (variables_of f.quantifiers) rest ≡ None)
  bind-formula f tokens rest h n u =
      let (b, d, m, w) = rebind names (variables_of f.quantifiers) h.derived (named-behind names f.quantifiers h.body (subst (Named names) h.split n)) (behind-heads f.quantifiers [] h.body (subst (λ x. unbound_at [] x ≡ None) h.split u)) in
      (record { quantifiers = f.quantifiers; tree = b }, record { some = h.some; body = h.body; split = h.split; derived = d }, m, w)

  bound-formula : (f : Read) (tokens rest : List Token) → IsFormula (Bound names) f tokens rest → unbound_at (variables_of f.quantifiers) rest ≡ None → unbound_at [] tokens ≡ None
  bound-formula f tokens rest h u =
      subst (λ x. unbound_at [] x ≡ None) (sym h.split) (before-heads f.quantifiers [] h.body (bound-none names (variables_of f.quantifiers) h.derived u))

  join : (many : Bool) (f : Read) (gs : List Read) (tokens rest : List Token) → IsTrue many → IsFormula (Bound names) f tokens (symbol signs.Semicolon ∷ rest) → AreFormulas (Bound names) many gs rest → (fs : List Read) × AreFormulas (Bound names) many fs tokens
  join many f [] tokens rest m h are = absurd are
  join many f (g ∷ gs) tokens rest m h are = (f ∷ g ∷ gs, (m, (rest, h, are)))

  pub bind-formulas : (many : Bool) (fs : List Read) (tokens : List Token) → AreFormulas Anything many fs tokens → Named names tokens → unbound_at [] tokens ≡ None → (gs : List Read) × AreFormulas (Bound names) many gs tokens
  bind-formulas many [] tokens h n u = absurd h
  bind-formulas many (f ∷ []) tokens h n u = let (g, k, m, w) = bind-formula f tokens [] h n u in (g ∷ [], k)
  bind-formulas many (f ∷ f2 ∷ fs) tokens (t, (rest, h, hs)) n u =
      let (g, k, m, w) = bind-formula f tokens (symbol signs.Semicolon ∷ rest) h n u in
      let (gs, are) = bind-formulas many (f2 ∷ fs) rest hs m (map-none (unbound_at [] rest) w) in
      join many g gs tokens rest t k are

  pub bound-formulas : (many : Bool) (fs : List Read) (tokens : List Token) → AreFormulas (Bound names) many fs tokens → unbound_at [] tokens ≡ None
  bound-formulas many [] tokens h = absurd h
  bound-formulas many (f ∷ []) tokens h = bound-formula f tokens [] h refl
  bound-formulas many (f ∷ f2 ∷ fs) tokens (t, (rest, h, hs)) =
      bound-formula f tokens (symbol signs.Semicolon ∷ rest) h (ap (option_map suc) (bound-formulas many (f2 ∷ fs) rest hs))
