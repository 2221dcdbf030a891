-- What the parser builds of an expression, from what it built of its parts.
use Rattle.std.proofs.Common.{rules, IsTrue, ◌≡◌, ◌≢◌, ℕ, suc, max, ◌-◌, ◌<◌, ◌≤◌, ◌⊎◌, inl, inr, List, [], ◌∷◌, Option, Some, None, Ok, Err, refl, ap, sym, subst, ◌∙◌, arith}
use Rattle.hy_formula.specs.Trees.{Tree, tree_of, height, vars_below}
use Rattle.hy_formula.specs.Trees as trees
use Rattle.hy_read.specs.declared.symbol.Symbol.{Symbol}
use Rattle.hy_read.specs.declared.symbol.Symbol.TheVariants as signs
use Rattle.hy_read.specs.declared.operator.Binary.{Binary}
use Rattle.hy_read.specs.declared.operator.Binary.TheVariants as binaries
use Rattle.hy_read.specs.declared.operator.Unary.{Unary}
use Rattle.hy_read.specs.declared.operator.Unary.TheVariants as unaries
use Rattle.hy_read.specs.declared.build_error.BuildError.{BuildError}
use Rattle.hy_read.specs.declared.build_error.BuildError.TheVariants.{TooHigh, Memory}
use Rattle.hy_read.specs.declared.parsed.Follow.{Follow}
use Rattle.hy_read.specs.declared.parsed.Follow.TheVariants as follows
use Rattle.hy_read.specs.declared.parsed.Parsed.{Parsed}
use Rattle.hy_read.specs.declared.token.Token.{Token as Scanned}
use Rattle.hy_read.specs.declared.token.Token.TheVariants as scanned
use Rattle.hy_read.specs.Grammar.{constant_of, unary_of, binary_of, loosest}
use Rattle.hy_read.specs.Operators.{joins, makes}
use Rattle.hy_formula.specs.Names.{place_of}
use Rattle.hy_read.specs.Results.{IsBound, last_place_of}
use Rattle.hy_read.specs.Parses.{meaning, AreLeft, Stops, IsFollowed, IsParsed, IsBuilt, Builds, IsOperator, HasNoOperator}
use Rattle.hy_read.specs.Scans.{plain}
use Rattle.hy_read.specs.Tokens.{Token, symbol, variable, atom, nothing}
use Rattle.hy_read.specs.Within.{Within, alone, joined, constant, prefixed, named, grouped}
use Rattle.hy_read.proofs.Heights.{binary-height}
use Rattle.hy_read.proofs.Once.{stops_sooner, stops_at, goes_on, constant_or_unary, same_after, parts_of_some}

-- ---- what stands behind

no_symbol : (t : Scanned) (s : Symbol) → ((r : Symbol) → t ≢ scanned.Symbol r) → plain t ≢ symbol s
no_symbol (scanned.Symbol r) s none e = none r refl
no_symbol (scanned.Variable v) s none e = cc
no_symbol (scanned.Atom a v) s none e = cc
no_symbol scanned.Nothing s none e = cc

pub other_follows : (t : Scanned) (more rest : List Token) → ((r : Symbol) → t ≢ scanned.Symbol r) → rest ≡ plain t ∷ more → (rest ≢ []) × ((s : Symbol) (left : List Token) → rest ≢ symbol s ∷ left)
other_follows t more rest none e = (λ f. cc, λ s left f. no_symbol t s none cc)

-- ---- the height of what is made

pub height_some : (tree : Tree) → 0 < height tree
height_some trees.always = omega arith
height_some trees.never = omega arith
height_some _ = omega arith

pub height_joins : (operator : Binary) (a b : Tree) → height (joins operator a b) ≡ suc (max (height a) (height b))
height_joins binaries.And a b = refl
height_joins binaries.Or a b = refl
height_joins binaries.Implies a b = refl
height_joins binaries.Iff a b = refl
height_joins binaries.Until a b = refl
height_joins binaries.Release a b = refl
height_joins binaries.Weak a b = refl

pub height_makes : (operator : Unary) (a : Tree) → height (makes operator a) ≡ suc (height a)
height_makes unaries.Not a = refl
height_makes unaries.Next a = refl
height_makes unaries.Finally a = refl
height_makes unaries.Globally a = refl

-- A part that is too high, or for which memory was wanting.
pub higher : (text : List ℕ) (low high : ℕ) (a b : Tree) (rest left : List Token) (e : BuildError) → (low < height a → high < height b) → IsBuilt text low a rest (Err e) → IsBuilt text high b left (Err e)
higher text low high a b rest left TooHigh more h = more h
higher text low high a b rest left Memory more h = tt

module _ (Means : List ℕ → List ℕ → Tree → Type 0) where
  -- ---- operands, by their first token

  pub no_operand : {n : ℕ} {tree : Tree} {rest : List Token} → Within Means n 0 [] tree rest → ⊥
  no_operand d = elim d [ ]

  pub no_variable : {n : ℕ} {v : List ℕ} {ts rest : List Token} {tree : Tree} → Within Means n 0 (variable v ∷ ts) tree rest → ⊥
  no_variable d = elim d [ ]

  pub no_nothing : {n : ℕ} {ts rest : List Token} {tree : Tree} → Within Means n 0 (nothing ∷ ts) tree rest → ⊥
  no_nothing d = elim d [ ]

  pub atom_parts : {n : ℕ} {a v : List ℕ} {ts rest : List Token} {tree : Tree} → Within Means n 0 (atom a v ∷ ts) tree rest → Means a v tree × (rest ≡ ts)
  atom_parts (named h) = (h, refl)

  pub constant_parts : {n : ℕ} {s : Symbol} {t tree : Tree} {ts rest : List Token} → constant_of s ≡ Some t → Within Means n 0 (symbol s ∷ ts) tree rest → (t ≡ tree) × (rest ≡ ts)
  constant_parts h (constant k) = (cc, refl)
  constant_parts {s = s} h (prefixed k d) = absurd (constant_or_unary s _ _ h k)
  constant_parts h (grouped d) = absurd cc

  pub prefixed_parts : {n : ℕ} {s : Symbol} {make : Tree → Tree} {tree : Tree} {ts rest : List Token} → unary_of s ≡ Some make → Within Means n 0 (symbol s ∷ ts) tree rest → (t : Tree) × (make t ≡ tree) × Within Means n 0 ts t rest
  prefixed_parts {s = s} h (constant k) = absurd (constant_or_unary s _ _ k h)
  prefixed_parts {make = make} h (prefixed {tree = tree} {make = other} k d) =
      let same : make ≡ other = cc in
      (tree, ap (λ f. f tree) same, d)
  prefixed_parts h (grouped d) = absurd cc

  pub grouped_parts : {n : ℕ} {tree : Tree} {ts rest : List Token} → Within Means n 0 (symbol signs.OpenParen ∷ ts) tree rest → (m : ℕ) × (n ≡ suc m) × Within Means m loosest ts tree (symbol signs.CloseParen ∷ rest)
  grouped_parts (constant k) = absurd cc
  grouped_parts (prefixed k d) = absurd cc
  grouped_parts (grouped {n = m} d) = (m, refl, d)

  -- ---- expressions, by what stands behind their left part

  pub record Joined (n k : ℕ) (ts : List Token) (tree : Tree) (rest : List Token) : Type 0 where
    pub s : Symbol
    pub join : Tree → Tree → Tree
    pub left : Tree
    pub right : Tree
    pub middle : List Token
    pub binds : binary_of s ≡ Some (suc k, join)
    pub first : Within Means n k ts left (symbol s ∷ middle)
    pub second : Within Means n (suc k) middle right rest
    pub whole : join left right ≡ tree

  pub parts : {n k : ℕ} {ts rest : List Token} {tree : Tree} → Within Means n (suc k) ts tree rest → Within Means n k ts tree rest ⊎ Joined n k ts tree rest
  parts (alone d) = inl d
  parts (joined {middle = middle} {left = left} {right = right} {s = s} {join = join} h d e) =
      inr (record { s = s; join = join; left = left; right = right; middle = middle; binds = h; first = d; second = e; whole = refl })

  height_whole : {n k : ℕ} {ts rest : List Token} {tree : Tree} → (j : Joined n k ts tree rest) → height tree ≡ suc (max (height j.left) (height j.right))
  height_whole {k = k} j = ap height (sym j.whole) ∙ binary-height j.s (suc k) j.join j.left j.right j.binds

  -- the left part was not built
  pub left_refused : (text : List ℕ) (n k high : ℕ) (ts : List Token) (e : BuildError) → Builds Means text n k high ts (Err e) → Builds Means text n (suc k) high ts (Err e)
  left_refused text n k high ts e built tree rest d stops = elim (parts d) [
    | inl a ↦ built tree rest a (stops_sooner k rest stops)
    | inr j ↦
        let tall = height_whole j in
        higher text high high j.left tree (symbol j.s ∷ j.middle) rest e (λ h. omega arith) (built j.left (symbol j.s ∷ j.middle) j.first (stops_at k j.s j.join j.middle j.binds))
  ]

  none_there : (text : List ℕ) (r : ℕ) (follow : Follow) (s : Symbol) (join : Tree → Tree → Tree) (middle : List Token) → IsFollowed text follow (symbol s ∷ middle) → HasNoOperator r follow → binary_of s ≡ Some (r, join) → ⊥
  none_there text r follows.End s join middle h none b = cc
  none_there text r (follows.Symbol o behind) s join middle (more, e, left) none b =
      let same = same_after middle more s o e in
      none join (ap binary_of (sym same.0) ∙ b)
  none_there text r follows.Other s join middle h none b = h.1 s middle refl

  -- no operator of the rank stands behind it
  pub left_alone : (text : List ℕ) (n k high : ℕ) (ts : List Token) (p : Parsed) → Builds Means text n k high ts (Ok p) → HasNoOperator (suc k) p.follow → Builds Means text n (suc k) high ts (Ok p)
  left_alone text n k high ts p built none tree rest d stops = elim (parts d) [
    | inl a ↦ built tree rest a (stops_sooner k rest stops)
    | inr j ↦ absurd (none_there text (suc k) p.follow j.s j.join j.middle (built j.left (symbol j.s ∷ j.middle) j.first (stops_at k j.s j.join j.middle j.binds)).followed none j.binds)
  ]

  operator_goes_on : (text : List ℕ) (k : ℕ) (follow : Follow) (operator : Binary) (behind : ℕ) (rest : List Token) → IsOperator (suc k) follow operator behind → IsFollowed text follow rest → Stops (suc k) rest → ⊥
  operator_goes_on text k follow operator behind rest (s, is, b) followed stops =
      let (more, e, left) = subst (λ x. IsFollowed text x rest) is followed in
      goes_on k s (joins operator) more b (subst (λ x. Stops (suc k) x) e stops)

  -- what an operator of the rank behind the left part joins
  pub record Around (text : List ℕ) (n k : ℕ) (p : Parsed) (operator : Binary) (behind : ℕ) (tree : Tree) (rest : List Token) : Type 0 where
    pub right : Tree
    pub middle : List Token
    pub left : AreLeft text behind middle
    pub second : Within Means n (suc k) middle right rest
    pub whole : joins operator (tree_of p.body) right ≡ tree
    pub counted : p.height ≡ height (tree_of p.body)

  pub around : (text : List ℕ) (n k high : ℕ) (ts : List Token) (p : Parsed) (operator : Binary) (behind : ℕ) → Builds Means text n k high ts (Ok p) → IsOperator (suc k) p.follow operator behind → (tree : Tree) (rest : List Token) → Within Means n (suc k) ts tree rest → Stops (suc k) rest → Around text n k p operator behind tree rest
  around text n k high ts p operator behind built (s, is, b) tree rest d stops = elim (parts d) [
    | inl a ↦ absurd (operator_goes_on text k p.follow operator behind rest (s, is, b) (built tree rest a (stops_sooner k rest stops)).followed stops)
    | inr j ↦
        let parsed = built j.left (symbol j.s ∷ j.middle) j.first (stops_at k j.s j.join j.middle j.binds) in
        let (more, e, left) = subst (λ x. IsFollowed text x (symbol j.s ∷ j.middle)) is parsed.followed in
        let same = same_after j.middle more j.s s e in
        let joins_same = (parts_of_some (binary_of s) (suc k, j.join) (suc k, joins operator) (ap binary_of (sym same.0) ∙ j.binds) b).1 in
        record {
          right = j.right;
          middle = j.middle;
          left = subst (λ x. AreLeft text behind x) (sym same.1) left;
          second = j.second;
          whole = ap (λ x. joins operator x j.right) parsed.is ∙ ap (λ f. f j.left j.right) (sym joins_same) ∙ j.whole;
          counted = parsed.counted ∙ ap height (sym parsed.is);
        }
  ]

  pub left_high : (text : List ℕ) (n k high : ℕ) (ts : List Token) (p : Parsed) (operator : Binary) (behind : ℕ) → Builds Means text n k high ts (Ok p) → IsOperator (suc k) p.follow operator behind → high ≤ p.height → Builds Means text n (suc k) high ts (Err TooHigh)
  left_high text n k high ts p operator behind built op tall tree rest d stops =
      let a = around text n k high ts p operator behind built op tree rest d stops in
      let counted = a.counted in
      let whole = ap height (sym a.whole) ∙ height_joins operator (tree_of p.body) a.right in
      omega arith

  pub right_refused : (text : List ℕ) (n k high : ℕ) (ts : List Token) (p : Parsed) (operator : Binary) (behind : ℕ) (e : BuildError) → 0 < high → Builds Means text n k high ts (Ok p) → IsOperator (suc k) p.follow operator behind → ((tokens : List Token) → AreLeft text behind tokens → Builds Means text n (suc k) (high - 1) tokens (Err e)) → Builds Means text n (suc k) high ts (Err e)
  right_refused text n k high ts p operator behind e some built op right tree rest d stops =
      let a = around text n k high ts p operator behind built op tree rest d stops in
      let whole = ap height (sym a.whole) ∙ height_joins operator (tree_of p.body) a.right in
      higher text (high - 1) high a.right tree rest rest e (λ h. omega arith) (right a.middle a.left a.right rest a.second stops)

  pub both_parsed : (text : List ℕ) (n k high : ℕ) (ts : List Token) (p q r : Parsed) (operator : Binary) (behind : ℕ) → Builds Means text n k high ts (Ok p) → IsOperator (suc k) p.follow operator behind → ((tokens : List Token) → AreLeft text behind tokens → Builds Means text n (suc k) (high - 1) tokens (Ok q)) → tree_of r.body ≡ joins operator (tree_of p.body) (tree_of q.body) → r.height ≡ suc (max p.height q.height) → r.follow ≡ q.follow → Builds Means text n (suc k) high ts (Ok r)
  both_parsed text n k high ts p q r operator behind built op right body tall follow tree rest d stops =
      let a = around text n k high ts p operator behind built op tree rest d stops in
      let b = right a.middle a.left a.right rest a.second stops in
      let counted = a.counted in
      let right_counted = b.counted in
      let whole : tree_of r.body ≡ tree = body ∙ ap (joins operator (tree_of p.body)) b.is ∙ a.whole in
      let height_of = height_joins operator (tree_of p.body) a.right ∙ refl in
      let same = ap height (sym a.whole) in
      record {
        is = whole;
        counted = omega arith;
        followed = subst (λ x. IsFollowed text x rest) (sym follow) b.followed;
      }

  -- ---- what operands are built of

  pub leaf_parsed : (text : List ℕ) (tree t : Tree) (rest ts : List Token) (p : Parsed) → tree_of p.body ≡ t → t ≡ tree → height t ≡ 1 → p.height ≡ 1 → rest ≡ ts → IsFollowed text p.follow ts → IsParsed text tree rest p
  leaf_parsed text tree t rest ts p body same low one e followed = record {
    is = body ∙ same;
    counted = one ∙ sym low ∙ ap height same;
    followed = subst (λ x. IsFollowed text p.follow x) (sym e) followed;
  }

  pub prefixed_refused : (text : List ℕ) (n high : ℕ) (ts : List Token) (s : Symbol) (operator : Unary) (e : BuildError) → 0 < high → unary_of s ≡ Some (makes operator) → Builds Means text n 0 (high - 1) ts (Err e) → Builds Means text n 0 high (symbol s ∷ ts) (Err e)
  prefixed_refused text n high ts s operator e some u built tree rest d stops =
      let (t, same, inner) = prefixed_parts u d in
      let tall = ap height (sym same) ∙ height_makes operator t in
      higher text (high - 1) high t tree rest rest e (λ h. omega arith) (built t rest inner stops)

  pub prefixed_parsed : (text : List ℕ) (n high : ℕ) (ts : List Token) (s : Symbol) (operator : Unary) (p r : Parsed) → unary_of s ≡ Some (makes operator) → Builds Means text n 0 (high - 1) ts (Ok p) → tree_of r.body ≡ makes operator (tree_of p.body) → r.height ≡ suc p.height → r.follow ≡ p.follow → Builds Means text n 0 high (symbol s ∷ ts) (Ok r)
  prefixed_parsed text n high ts s operator p r u built body one follow tree rest d stops =
      let (t, same, inner) = prefixed_parts u d in
      let parsed = built t rest inner stops in
      let counted = parsed.counted in
      let tall = ap height (sym same) ∙ height_makes operator t in
      record {
        is = body ∙ ap (makes operator) parsed.is ∙ same;
        counted = omega arith;
        followed = subst (λ x. IsFollowed text x rest) (sym follow) parsed.followed;
      }

  pub group_refused : (text : List ℕ) (n high : ℕ) (ts : List Token) (e : BuildError) → Builds Means text (n - 1) loosest high ts (Err e) → Builds Means text n 0 high (symbol signs.OpenParen ∷ ts) (Err e)
  group_refused text n high ts e built tree rest d stops =
      let (m, is, inner) = grouped_parts d in
      let less : m ≡ n - 1 = omega arith in
      higher text high high tree tree (symbol signs.CloseParen ∷ rest) rest e (λ h. h)
      (built tree (symbol signs.CloseParen ∷ rest) (subst (λ k. Within Means k loosest ts tree (symbol signs.CloseParen ∷ rest)) less inner) tt)

  closes : (text : List ℕ) (follow : Follow) (rest : List Token) → IsFollowed text follow (symbol signs.CloseParen ∷ rest) → (behind : ℕ) × (follow ≡ follows.Symbol signs.CloseParen behind) × AreLeft text behind rest
  closes text follows.End rest h = absurd cc
  closes text (follows.Symbol s behind) rest (more, e, left) =
      let same = same_after rest more signs.CloseParen s e in
      (behind, ap (λ x. follows.Symbol x behind) (sym same.0), subst (λ x. AreLeft text behind x) (sym same.1) left)
  closes text follows.Other rest h = absurd (h.1 signs.CloseParen rest refl)

  pub group_open : (text : List ℕ) (n high : ℕ) (ts : List Token) (p : Parsed) (e : BuildError) → Builds Means text (n - 1) loosest high ts (Ok p) → ((behind : ℕ) → p.follow ≢ follows.Symbol signs.CloseParen behind) → Builds Means text n 0 high (symbol signs.OpenParen ∷ ts) (Err e)
  group_open text n high ts p e built unclosed tree rest d stops =
      let (m, is, inner) = grouped_parts d in
      let less : m ≡ n - 1 = omega arith in
      let parsed = built tree (symbol signs.CloseParen ∷ rest) (subst (λ k. Within Means k loosest ts tree (symbol signs.CloseParen ∷ rest)) less inner) tt in
      let (behind, closed, left) = closes text p.follow rest parsed.followed in
      absurd (unclosed behind closed)

  pub group_parsed : (text : List ℕ) (n high : ℕ) (ts : List Token) (p r : Parsed) (behind : ℕ) → Builds Means text (n - 1) loosest high ts (Ok p) → p.follow ≡ follows.Symbol signs.CloseParen behind → ((rest : List Token) → AreLeft text behind rest → IsFollowed text r.follow rest) → r.body ≡ p.body → r.height ≡ p.height → Builds Means text n 0 high (symbol signs.OpenParen ∷ ts) (Ok r)
  group_parsed text n high ts p r behind built closed follow body tall tree rest d stops =
      let (m, is, inner) = grouped_parts d in
      let less : m ≡ n - 1 = omega arith in
      let parsed = built tree (symbol signs.CloseParen ∷ rest) (subst (λ k. Within Means k loosest ts tree (symbol signs.CloseParen ∷ rest)) less inner) tt in
      let (more, e, left) = subst (λ x. IsFollowed text x (symbol signs.CloseParen ∷ rest)) closed parsed.followed in
      let same = same_after rest more signs.CloseParen signs.CloseParen e in
      record {
        is = ap tree_of body ∙ parsed.is;
        counted = tall ∙ parsed.counted;
        followed = follow rest (subst (λ x. AreLeft text behind x) (sym same.1) left);
      }

-- ---- atoms

bound_of : (o : Option (List (List ℕ))) (names variables : List (List ℕ)) (a v : List ℕ) (tree : Tree) → o ≡ Some names → meaning o variables a v tree → IsBound names variables a v tree
bound_of None names variables a v tree e h = absurd cc
bound_of (Some other) names variables a v tree e h = let same : other ≡ names = cc in subst (λ n. IsBound n variables a v tree) same h

pub no_number : (o : Option (List (List ℕ))) (names variables : List (List ℕ)) (a v : List ℕ) (tree : Tree) → o ≡ Some names → meaning o variables a v tree → place_of a names ≡ None → ⊥
no_number o names variables a v tree e h none =
    let found = (bound_of o names variables a v tree e h).has_number in cc

pub no_place : (o : Option (List (List ℕ))) (names variables : List (List ℕ)) (a v : List ℕ) (tree : Tree) → o ≡ Some names → meaning o variables a v tree → last_place_of v variables ≡ None → ⊥
no_place o names variables a v tree e h none =
    let found = (bound_of o names variables a v tree e h).has_place in cc

same_parts : (n m p q : ℕ) → n ≡ m → p ≡ q → trees.atom n p ≡ trees.atom m q
same_parts n m p q e h = cc

pub some_is : (o : Option ℕ) (a b : ℕ) → o ≡ Some a → o ≡ Some b → a ≡ b
some_is o a b h k = cc

pub same_atom : (o : Option (List (List ℕ))) (names variables : List (List ℕ)) (a v : List ℕ) (tree : Tree) (n k : ℕ) → o ≡ Some names → meaning o variables a v tree → place_of a names ≡ Some n → last_place_of v variables ≡ Some k → trees.atom n k ≡ tree
same_atom o names variables a v tree n k e h found place =
    let b = bound_of o names variables a v tree e h in
    same_parts n b.number k b.place (some_is _ n b.number found b.has_number) (some_is _ k b.place place b.has_place) ∙ sym b.is_atom

-- ---- each variable is the place of a quantifier

pub below_atom : (n number place : ℕ) (tree : Tree) → tree ≡ trees.atom number place → place < n → IsTrue (vars_below n tree)
below_atom n number place tree e h = subst (λ x. IsTrue (vars_below n x)) (sym e) (search rules)
