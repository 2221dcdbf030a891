-- Tokens derive one list of formulas.
use Rattle.std.proofs.Common.{◌≡◌, ℕ, suc, ◌<◌, List, [], ◌∷◌, ◌++◌, Bool, Option, Some, None, refl, sym, ap, subst, ◌∙◌, arith}
use Rattle.hy_formula.specs.declared.prefix.Quant.{Quant}
use Rattle.hy_formula.specs.declared.prefix.Quant.TheVariants as quants
use Rattle.hy_read.specs.declared.symbol.Symbol.{Symbol}
use Rattle.hy_read.specs.declared.symbol.Symbol.TheVariants as signs
use Rattle.hy_formula.specs.Trees.{Tree}
use Rattle.hy_read.specs.Tokens.{Token, symbol, variable, atom, nothing, Kind, word, leaf, prefix, kind_of_symbol}
use Rattle.hy_read.specs.Grammar.{Derives, alone, joined, constant, prefixed, named, grouped, constant_of, unary_of, binary_of, loosest, quantifier_word, Quantifier, quantifier_tokens, Read, IsFormula, AreFormulas}
use Rattle.hy_read.specs.Headings.{NoWord}
use Rattle.hy_read.specs.Parses.{IsLooser, Stops}
use Rattle.hy_read.proofs.TokenKinds.{prefix-kind, leaf-kind}

pub looser_still : (rank : ℕ) (o : Option (ℕ × (Tree → Tree → Tree))) → IsLooser (suc rank) o → IsLooser rank o
looser_still rank None h = tt
looser_still rank (Some (other, join)) h = omega arith

pub stops_sooner : (rank : ℕ) (rest : List Token) → Stops (suc rank) rest → Stops rank rest
stops_sooner rank [] h = tt
stops_sooner rank (symbol s ∷ rest) h = looser_still rank (binary_of s) h
stops_sooner rank (variable v ∷ rest) h = tt
stops_sooner rank (atom a v ∷ rest) h = tt
stops_sooner rank (nothing ∷ rest) h = tt

pub stops_at : (rank : ℕ) (s : Symbol) (join : Tree → Tree → Tree) (rest : List Token) → binary_of s ≡ Some (suc rank, join) → Stops rank (symbol s ∷ rest)
stops_at rank s join rest h = let P : Option (ℕ × (Tree → Tree → Tree)) → Type 0 = λ o. IsLooser rank o in let k : rank < suc rank = omega arith in subst P (sym h) k

pub goes_on : (rank : ℕ) (s : Symbol) (join : Tree → Tree → Tree) (rest : List Token) → binary_of s ≡ Some (suc rank, join) → Stops (suc rank) (symbol s ∷ rest) → ⊥
goes_on rank s join rest h stops = let P : Option (ℕ × (Tree → Tree → Tree)) → Type 0 = λ o. IsLooser (suc rank) o in let k : suc rank < suc rank = subst P h stops in omega arith

pub constant_or_unary : (s : Symbol) (tree : Tree) (make : Tree → Tree) → constant_of s ≡ Some tree → unary_of s ≡ Some make → ⊥
constant_or_unary signs.True tree make h k = cc
constant_or_unary signs.False tree make h k = cc
constant_or_unary _ tree make h k = cc

pub same_after : (a b : List Token) (s r : Symbol) → symbol s ∷ a ≡ symbol r ∷ b → (s ≡ r) × (a ≡ b)
same_after a b s r e = (cc, cc)

pub parts_of_some : {A B : Type 0} (o : Option (A × B)) (p q : A × B) → o ≡ Some p → o ≡ Some q → (p.0 ≡ q.0) × (p.1 ≡ q.1)
parts_of_some {A = A} {B = B} o p q h k =
    let same : p ≡ q = cc in
    (ap (λ (x : A × B). x.0) same, ap (λ (x : A × B). x.1) same)

pub same_join : (s r : Symbol) (rank : ℕ) (f g : Tree → Tree → Tree) → s ≡ r → binary_of s ≡ Some (rank, f) → binary_of r ≡ Some (rank, g) → f ≡ g
same_join s r rank f g e h k = (parts_of_some (binary_of r) (rank, f) (rank, g) (subst (λ x. binary_of x ≡ Some (rank, f)) e h) k).1

same_joined : (f g : Tree → Tree → Tree) (a b c d : Tree) → f ≡ g → a ≡ c → b ≡ d → f a b ≡ g c d
same_joined f g a b c d e h k = cc

same_made : (f g : Tree → Tree) (a b : Tree) → f ≡ g → a ≡ b → f a ≡ g b
same_made f g a b e h = cc

module _ (Means : List ℕ → List ℕ → Tree → Type 0) (once : (name bound : List ℕ) (a b : Tree) → Means name bound a → Means name bound b → a ≡ b) where
  pub derives_once : {rank : ℕ} {tokens a-rest b-rest : List Token} {a b : Tree} → Derives Means rank tokens a a-rest → Derives Means rank tokens b b-rest → Stops rank a-rest → Stops rank b-rest → (a ≡ b) × (a-rest ≡ b-rest)
  derives_once (alone d) (alone e) s t = derives_once d e (stops_sooner _ _ s) (stops_sooner _ _ t)
  derives_once {rank = suc rank} {a-rest = a-rest} (alone d) (joined {middle = middle} {s = o} {join = join} h e1 e2) s t =
      let ends = derives_once d e1 (stops_sooner _ _ s) (stops_at rank o join middle h) in
      absurd (goes_on rank o join middle h (subst (λ x. Stops (suc rank) x) ends.1 s))
  derives_once {rank = suc rank} (joined {middle = middle} {s = o} {join = join} h d1 d2) (alone e) s t =
      let ends = derives_once d1 e (stops_at rank o join middle h) (stops_sooner _ _ t) in
      absurd (goes_on rank o join middle h (subst (λ x. Stops (suc rank) x) (sym ends.1) t))
  derives_once {rank = suc rank} {a-rest = a-rest} (joined {middle = middle} {left = left} {right = right} {s = o} {join = join} h d1 d2) (joined {middle = middle2} {left = left2} {right = right2} {s = o2} {join = join2} k e1 e2) s t =
      let lefts = derives_once d1 e1 (stops_at rank o join middle h) (stops_at rank o2 join2 middle2 k) in
      let after = same_after middle middle2 o o2 lefts.1 in
      let joins = same_join o o2 (suc rank) join join2 after.0 h k in
      let rights = derives_once (subst (λ x. Derives Means (suc rank) x right a-rest) after.1 d2) e2 s t in
      (same_joined join join2 left right left2 right2 joins lefts.0 rights.0, rights.1)
  derives_once (constant h) (constant k) s t = (cc, refl)
  derives_once (constant {s = o} h) (prefixed k e) s t = absurd (constant_or_unary o _ _ h k)
  derives_once (constant h) (grouped e) s t = absurd cc
  derives_once (prefixed h d) (constant {s = o} k) s t = absurd (constant_or_unary o _ _ k h)
  derives_once (prefixed {tree = tree} {make = make} h d) (prefixed {tree = tree2} {make = make2} k e) s t =
      let belows = derives_once d e s t in
      let makes : make ≡ make2 = cc in
      (same_made make make2 tree tree2 makes belows.0, belows.1)
  derives_once (prefixed h d) (grouped e) s t = absurd cc
  derives_once (named h) (named k) s t = (once _ _ _ _ h k, refl)
  derives_once (grouped d) (constant k) s t = absurd cc
  derives_once (grouped d) (prefixed k e) s t = absurd cc
  derives_once (grouped d) (grouped e) s t =
      let inside = derives_once d e tt tt in
      (inside.0, (same_after _ _ signs.CloseParen signs.CloseParen inside.1).1)

not-word : (k l : Kind) → k ≡ leaf → k ≡ l → l ≡ word → ⊥
not-word k l e f g = cc

other-word : (k l : Kind) → k ≡ prefix → k ≡ l → l ≡ word → ⊥
other-word k l e f g = cc

pub body-word : {Means : List ℕ → List ℕ → Tree → Type 0} {rank : ℕ} {tokens rest : List Token} {tree : Tree} → Derives Means rank tokens tree rest → NoWord tokens
body-word (alone d) = body-word d
body-word (joined h d e) = body-word d
body-word (constant {s = s} h) = λ e. not-word (kind_of_symbol s) (kind_of_symbol s) (leaf-kind s _ h) refl e
body-word (prefixed {s = s} h d) = λ e. other-word (kind_of_symbol s) (kind_of_symbol s) (prefix-kind s _ h) refl e
body-word (named h) = λ e. cc
body-word (grouped d) = λ e. cc

pub is-word : (q : Quant) → kind_of_symbol (quantifier_word q) ≡ word
is-word quants.Exists = refl
is-word quants.Forall = refl

pub words-once : (q r : Quant) → quantifier_word q ≡ quantifier_word r → q ≡ r
words-once quants.Exists quants.Exists e = refl
words-once quants.Exists quants.Forall e = absurd cc
words-once quants.Forall quants.Exists e = absurd cc
words-once quants.Forall quants.Forall e = refl

pub same-words : (s r : Symbol) (v w : List ℕ) (xs ys : List Token) → symbol s ∷ variable v ∷ symbol signs.Dot ∷ xs ≡ symbol r ∷ variable w ∷ symbol signs.Dot ∷ ys → (s ≡ r) × (v ≡ w) × (xs ≡ ys)
same-words s r v w xs ys e = (cc, cc, cc)

abbrev quantifier : Quant → List ℕ → Quantifier
quantifier q v = record { quant = q; bound = v }

same-quantifier : (q r : Quantifier) → q.quant ≡ r.quant → q.bound ≡ r.bound → q ≡ r
same-quantifier q r e f =
    let first : quantifier q.quant q.bound ≡ quantifier r.quant q.bound = ap (λ x. quantifier x q.bound) e in
    let second : quantifier r.quant q.bound ≡ quantifier r.quant r.bound = ap (λ x. quantifier r.quant x) f in
    first ∙ second

pub heads-once : (qs rs : List Quantifier) (body other : List Token) → quantifier_tokens qs ++ body ≡ quantifier_tokens rs ++ other → NoWord body → NoWord other → (qs ≡ rs) × (body ≡ other)
heads-once [] [] body other e h k = (refl, e)
heads-once [] (r ∷ rs) body other e h k = absurd (subst (λ x. NoWord x) e h (is-word r.quant))
heads-once (q ∷ qs) [] body other e h k = absurd (subst (λ x. NoWord x) (sym e) k (is-word q.quant))
heads-once (q ∷ qs) (r ∷ rs) body other e h k =
    let same = same-words (quantifier_word q.quant) (quantifier_word r.quant) q.bound r.bound (quantifier_tokens qs ++ body) (quantifier_tokens rs ++ other) e in
    let (tails, bodies) = heads-once qs rs body other same.2 h k in
    let first : q ≡ r = same-quantifier q r (words-once q.quant r.quant same.0) same.1 in
    (ap (λ x. x ∷ qs) first ∙ ap (λ x. r ∷ x) tails, bodies)

abbrev read : List Quantifier → Tree → Read
read qs t = record { quantifiers = qs; tree = t }

same-read : (f g : Read) → f.quantifiers ≡ g.quantifiers → f.tree ≡ g.tree → f ≡ g
same-read f g e h =
    let first : read f.quantifiers f.tree ≡ read g.quantifiers f.tree = ap (λ x. read x f.tree) e in
    let second : read g.quantifiers f.tree ≡ read g.quantifiers g.tree = ap (λ x. read g.quantifiers x) h in
    first ∙ second

module _ (Means : List Quantifier → List ℕ → List ℕ → Tree → Type 0) (once : (qs : List Quantifier) (name bound : List ℕ) (a b : Tree) → Means qs name bound a → Means qs name bound b → a ≡ b) where
  body-once : (qs rs : List Quantifier) (body other rest left : List Token) (a b : Tree) → qs ≡ rs → body ≡ other → Derives (Means qs) loosest body a rest → Derives (Means rs) loosest other b left → Stops loosest rest → Stops loosest left → (a ≡ b) × (rest ≡ left)
  body-once qs rs body other rest left a b e f d c s t =
      let moved = subst (λ x. Derives (Means rs) loosest x a rest) f (subst (λ x. Derives (Means x) loosest body a rest) e d) in
      derives_once (Means rs) (once rs) moved c s t

  formula-once : (f g : Read) (tokens rest left : List Token) → IsFormula Means f tokens rest → IsFormula Means g tokens left → Stops loosest rest → Stops loosest left → (f ≡ g) × (rest ≡ left)
  formula-once f g tokens rest left h k s t =
      let (heads, bodies) = heads-once f.quantifiers g.quantifiers h.body k.body (sym h.split ∙ k.split) (body-word h.derived) (body-word k.derived) in
      let (trees, rests) = body-once f.quantifiers g.quantifiers h.body k.body rest left f.tree g.tree heads bodies h.derived k.derived s t in
      (same-read f g heads trees, rests)

  -- one list of formulas for one list of tokens
  pub formulas-once : (many : Bool) (fs gs : List Read) (tokens : List Token) → AreFormulas Means many fs tokens → AreFormulas Means many gs tokens → fs ≡ gs
  formulas-once many [] gs tokens h k = absurd h
  formulas-once many (f ∷ fs) [] tokens h k = absurd k
  formulas-once many (f ∷ []) (g ∷ []) tokens h k = ap (λ x. x ∷ []) (formula-once f g tokens [] [] h k tt tt).0
  formulas-once many (f ∷ []) (g ∷ g2 ∷ gs) tokens h (m, (rest, k, ks)) =
      let ends = (formula-once f g tokens [] (symbol signs.Semicolon ∷ rest) h k tt tt).1 in
      absurd cc
  formulas-once many (f ∷ f2 ∷ fs) (g ∷ []) tokens (m, (rest, h, hs)) k =
      let ends = (formula-once f g tokens (symbol signs.Semicolon ∷ rest) [] h k tt tt).1 in
      absurd cc
  formulas-once many (f ∷ f2 ∷ fs) (g ∷ g2 ∷ gs) tokens (m, (rest, h, hs)) (n, (left, k, ks)) =
      let (first, ends) = formula-once f g tokens (symbol signs.Semicolon ∷ rest) (symbol signs.Semicolon ∷ left) h k tt tt in
      let rests : rest ≡ left = cc in
      let others = formulas-once many (f2 ∷ fs) (g2 ∷ gs) left (subst (λ x. AreFormulas Means many (f2 ∷ fs) x) rests hs) ks in
      ap (λ x. x ∷ f2 ∷ fs) first ∙ ap (λ x. g ∷ x) others
