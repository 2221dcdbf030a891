-- What is known of a reading: its tokens, and that each formula is over its names.
use Rattle.std.proofs.Common.{◌≡◌, ℕ, zero, ◌≤◌, Bool, true, false, ◌&&◌, nat_lt, if◌then◌else◌, IsTrue, List, [], ◌∷◌, ◌++◌, length, map, Some, None, refl, sym, ap, subst, ◌∙◌, arith}
use Rattle.std.specs.List.{All}
use Rattle.std.proofs.lemmas.Bool.{and_from, lt-ltb, ltb-false}
use Rattle.std.proofs.lemmas.List.{length-map}
use Rattle.std.proofs.lemmas.List.Elements.{All-nil, All-cons}
use Rattle.hy_formula.specs.Names.{are_distinct}
use Rattle.hy_formula.specs.Trees.{Tree, height, vars_below}
use Rattle.hy_formula.specs.Trees as trees
use Rattle.hy_formula.proofs.Names.{place_of-lt}
use Rattle.hy_text.specs.Names.{AreNames}
use Rattle.hy_read.specs.declared.symbol.Symbol.{Symbol}
use Rattle.hy_read.specs.declared.symbol.Symbol.TheVariants as signs
use Rattle.hy_formula.specs.Formulas.{Plain}
use Rattle.hy_read.specs.Answers.{Answers, located, plain_of, read_as, tokens_of}
use Rattle.hy_read.specs.Grammar.{AreFormulas, Derives, IsFormula, Quantifier, Read, alone, joined, constant, prefixed, named, grouped, binary_of, constant_of, unary_of}
use Rattle.hy_read.specs.Readings.{IsReading, names_below}
use Rattle.hy_read.specs.Results.{Bound, Count, IsBound, Reads, Result, count_of, fault, first_past, in_order, largest, most, names_of, past, taken, unbound, variables_of}
use Rattle.hy_read.specs.Scanning.{Span, Spans}
use Rattle.hy_read.specs.Tokens.{Token, symbol}
use Rattle.hy_read.proofs.Collecting.{names_kept}
use Rattle.hy_read.proofs.Once.{parts_of_some}
use Rattle.hy_read.proofs.Passing.{last_place_below}
use Rattle.hy_read.proofs.ReadNames.{distinct_read, names_read, scanned_named}

-- ---- the counts of a reading

-- Each count is within its limit.
abbrev pub AreFew : (Count → ℕ) → (Count → ℕ) → List Count → Type 0
AreFew limit count [] = Unit {0}
AreFew limit count (c ∷ cs) = (count c ≤ limit c) × AreFew limit count cs

few-one : (limit count : Count → ℕ) (c : Count) (cs : List Count) (b : Bool) → nat_lt (limit c) (count c) ≡ b → (if b then Some c else first_past limit count cs) ≡ None → (first_past limit count cs ≡ None → AreFew limit count cs) → AreFew limit count (c ∷ cs)
few-one limit count c cs true e none more = absurd cc
few-one limit count c cs false e none more = (ltb-false _ _ e, more none)

pub few_counts : (limit count : Count → ℕ) (cs : List Count) → first_past limit count cs ≡ None → AreFew limit count cs
few_counts limit count [] none = tt
few_counts limit count (c ∷ cs) none = few-one limit count c cs (nat_lt (limit c) (count c)) refl none (few_counts limit count cs)

-- ---- the tokens of a reading

pub record Taken (many : Bool) (limit : ℕ) (old : List (List ℕ)) (bytes : List ℕ) (fs : List Plain) (table : List (List ℕ)) : Type 0 where
  pub spans : List Span
  pub split : Spans zero bytes spans
  pub reads : List Read
  pub are : AreFormulas (Bound table) many reads (tokens_of spans)
  pub few : AreFew (most limit) (count_of old (tokens_of spans) reads) in_order
  pub table_is : table ≡ names_of old (tokens_of spans)
  pub formulas_are : fs ≡ map plain_of reads

module _ (many : Bool) (limit : ℕ) (old : List (List ℕ)) (bytes : List ℕ) (fs : List Plain) (table : List (List ℕ)) where
  taken-as : (spans : List Span) (result : Result) → Spans zero bytes spans → Reads many limit old (tokens_of spans) result → read_as fs table ≡ located limit bytes spans result → Taken many limit old bytes fs table
  taken-as spans (fault k) split h is = absurd cc
  taken-as spans (unbound k) split h is = absurd cc
  taken-as spans (past c) split h is = absurd cc
  taken-as spans (taken reads known) split (are, none, e) is =
      let same : table ≡ known = cc in
      record {
        spans = spans;
        split = split;
        reads = reads;
        are = subst (λ x. AreFormulas (Bound x) many reads (tokens_of spans)) (sym e ∙ sym same) are;
        few = few_counts (most limit) (count_of old (tokens_of spans) reads) in_order none;
        table_is = same ∙ e;
        formulas_are = cc;
      }

  pub taken_of : Answers many limit old bytes (read_as fs table) → Taken many limit old bytes fs table
  taken_of a = taken-as a.spans a.result a.split a.reads a.is

  -- ---- its names

  pub distinct_names : Answers many limit old bytes (read_as fs table) → IsTrue (are_distinct old) → IsTrue (are_distinct table)
  distinct_names a h = let t = taken_of a in subst (λ x. IsTrue (are_distinct x)) (sym t.table_is) (distinct_read (tokens_of t.spans) old h)

  pub good_names : Answers many limit old bytes (read_as fs table) → AreNames old → AreNames table
  good_names a h = let t = taken_of a in subst AreNames (sym t.table_is) (names_read (tokens_of t.spans) old (scanned_named t.spans zero bytes t.split) h)

  pub few_names : Answers many limit old bytes (read_as fs table) → length table ≤ 64
  few_names a =
      let t = taken_of a in
      let P : List (List ℕ) → Type 0 = λ x. length x ≤ 64 in
      subst P (sym t.table_is) t.few.1.1.1.1.0

  pub old_names : Answers many limit old bytes (read_as fs table) → (more : List (List ℕ)) × (table ≡ old ++ more)
  old_names a =
      let t = taken_of a in
      let (more, is) = names_kept (tokens_of t.spans) old in
      (more, t.table_is ∙ is)

-- ---- its formulas

module _ (test : Tree → Bool) where
  -- The test holds of a tree where it does of its parts.
  pub record ByParts : Type 0 where
    pub leaf : (s : Symbol) (t : Tree) → constant_of s ≡ Some t → test t ≡ true
    pub before : (s : Symbol) (make : Tree → Tree) (t : Tree) → unary_of s ≡ Some make → test t ≡ true → test (make t) ≡ true
    pub between : (s : Symbol) (r : ℕ) (join : Tree → Tree → Tree) (f g : Tree) → binary_of s ≡ Some (r, join) → test f ≡ true → test g ≡ true → test (join f g) ≡ true

  module _ (Means : List ℕ → List ℕ → Tree → Type 0) (atoms : (n v : List ℕ) (t : Tree) → Means n v t → test t ≡ true) (by : ByParts) where
    pub derived_holds : {rank : ℕ} {tokens rest : List Token} {tree : Tree} → Derives Means rank tokens tree rest → test tree ≡ true
    derived_holds (alone d) = derived_holds d
    derived_holds (joined {left = left} {right = right} {s = s} {join = join} h d e) = by.between s _ join left right h (derived_holds d) (derived_holds e)
    derived_holds (constant {tree = tree} {s = s} h) = by.leaf s tree h
    derived_holds (prefixed {tree = tree} {s = s} {make = make} h d) = by.before s make tree h (derived_holds d)
    derived_holds (named {tree = tree} {name = n} {bound = v} h) = atoms n v tree h
    derived_holds (grouped d) = derived_holds d

pub one_join : (s : Symbol) (k r : ℕ) (op join : Tree → Tree → Tree) → binary_of s ≡ Some (k, op) → binary_of s ≡ Some (r, join) → op ≡ join
one_join s k r op join g h = (parts_of_some (binary_of s) (k, op) (r, join) g h).1

module _ (test : Tree → Bool) (f g : Tree) (one : test f ≡ true) (two : test g ≡ true) where
  abbrev Both : (Tree → Tree → Tree) → Type 0
  Both op = test (op f g) ≡ (test f && test g)

  both-hold : (op join : Tree → Tree → Tree) → Both op → op ≡ join → test (join f g) ≡ true
  both-hold op join is e = ap (λ o. test (o f g)) (sym e) ∙ is ∙ and_from (test f) (test g) one two

  pub between-by : Both trees.and → Both trees.or → Both trees.implies → Both trees.iff → Both trees.until → Both trees.release → Both trees.weak
      → (s : Symbol) (r : ℕ) (join : Tree → Tree → Tree) → binary_of s ≡ Some (r, join) → test (join f g) ≡ true
  between-by a b c d u v w signs.And r join h = both-hold trees.and join a (one_join signs.And 2 r trees.and join refl h)
  between-by a b c d u v w signs.Or r join h = both-hold trees.or join b (one_join signs.Or 3 r trees.or join refl h)
  between-by a b c d u v w signs.Implies r join h = both-hold trees.implies join c (one_join signs.Implies 4 r trees.implies join refl h)
  between-by a b c d u v w signs.Iff r join h = both-hold trees.iff join d (one_join signs.Iff 5 r trees.iff join refl h)
  between-by a b c d u v w signs.Until r join h = both-hold trees.until join u (one_join signs.Until 1 r trees.until join refl h)
  between-by a b c d u v w signs.Release r join h = both-hold trees.release join v (one_join signs.Release 1 r trees.release join refl h)
  between-by a b c d u v w signs.Weak r join h = both-hold trees.weak join w (one_join signs.Weak 1 r trees.weak join refl h)
  between-by a b c d u v w _ r join h = absurd cc

module _ (n : ℕ) where
  names-leaf : (s : Symbol) (t : Tree) → constant_of s ≡ Some t → names_below n t ≡ true
  names-leaf signs.True t h = let e : trees.always ≡ t = cc in ap (names_below n) (sym e)
  names-leaf signs.False t h = let e : trees.never ≡ t = cc in ap (names_below n) (sym e)
  names-leaf _ t h = absurd cc

  names-before : (s : Symbol) (make : Tree → Tree) (t : Tree) → unary_of s ≡ Some make → names_below n t ≡ true → names_below n (make t) ≡ true
  names-before signs.Not make t h is = let e : make ≡ trees.not = cc in ap (λ f. names_below n (f t)) e ∙ is
  names-before signs.Next make t h is = let e : make ≡ trees.next = cc in ap (λ f. names_below n (f t)) e ∙ is
  names-before signs.Finally make t h is = let e : make ≡ trees.finally = cc in ap (λ f. names_below n (f t)) e ∙ is
  names-before signs.Globally make t h is = let e : make ≡ trees.globally = cc in ap (λ f. names_below n (f t)) e ∙ is
  names-before _ make t h is = absurd cc

  names-parts : ByParts (names_below n)
  names-parts = record {
    leaf = names-leaf;
    before = names-before;
    between = λ s r join f g h one two. between-by (names_below n) f g one two refl refl refl refl refl refl refl s r join h;
  }

  vars-leaf : (s : Symbol) (t : Tree) → constant_of s ≡ Some t → vars_below n t ≡ true
  vars-leaf signs.True t h = let e : trees.always ≡ t = cc in ap (vars_below n) (sym e)
  vars-leaf signs.False t h = let e : trees.never ≡ t = cc in ap (vars_below n) (sym e)
  vars-leaf _ t h = absurd cc

  vars-before : (s : Symbol) (make : Tree → Tree) (t : Tree) → unary_of s ≡ Some make → vars_below n t ≡ true → vars_below n (make t) ≡ true
  vars-before signs.Not make t h is = let e : make ≡ trees.not = cc in ap (λ f. vars_below n (f t)) e ∙ is
  vars-before signs.Next make t h is = let e : make ≡ trees.next = cc in ap (λ f. vars_below n (f t)) e ∙ is
  vars-before signs.Finally make t h is = let e : make ≡ trees.finally = cc in ap (λ f. vars_below n (f t)) e ∙ is
  vars-before signs.Globally make t h is = let e : make ≡ trees.globally = cc in ap (λ f. vars_below n (f t)) e ∙ is
  vars-before _ make t h is = absurd cc

  vars-parts : ByParts (vars_below n)
  vars-parts = record {
    leaf = vars-leaf;
    before = vars-before;
    between = λ s r join f g h one two. between-by (vars_below n) f g one two refl refl refl refl refl refl refl s r join h;
  }

module _ (table variables : List (List ℕ)) where
  atom-named : (n v : List ℕ) (t : Tree) → IsBound table variables n v t → names_below (length table) t ≡ true
  atom-named n v t b = ap (names_below (length table)) b.is_atom ∙ lt-ltb b.number (length table) (place_of-lt n table b.number b.has_number)

  atom-bound : (n v : List ℕ) (t : Tree) → IsBound table variables n v t → vars_below (length variables) t ≡ true
  atom-bound n v t b = ap (vars_below (length variables)) b.is_atom ∙ lt-ltb b.place (length variables) (last_place_below variables v b.place b.has_place)

  pub over_names : {rank : ℕ} {tokens rest : List Token} {tree : Tree} → Derives (IsBound table variables) rank tokens tree rest → names_below (length table) tree ≡ true
  over_names d = derived_holds (names_below (length table)) (IsBound table variables) atom-named (names-parts (length table)) d

  pub over_variables : {rank : ℕ} {tokens rest : List Token} {tree : Tree} → Derives (IsBound table variables) rank tokens tree rest → vars_below (length variables) tree ≡ true
  over_variables d = derived_holds (vars_below (length variables)) (IsBound table variables) atom-bound (vars-parts (length variables)) d

module _ (limit : ℕ) (table : List (List ℕ)) where
  reading-one : (f : Read) (tokens rest : List Token) → IsFormula (Bound table) f tokens rest → length f.quantifiers ≤ limit → height f.tree ≤ 200 → IsReading limit (length table) (plain_of f)
  reading-one f tokens rest h few low =
      let long = length-map f.quantifiers (λ (q : Quantifier). q.quant) in
      let count = length-map f.quantifiers (λ (q : Quantifier). q.bound) in
      let some = h.some in
      record {
        some = omega arith;
        few = omega arith;
        low = low;
        bound = subst (λ n. vars_below n f.tree ≡ true) (count ∙ sym long) (over_variables table (variables_of f.quantifiers) h.derived);
        named = over_names table (variables_of f.quantifiers) h.derived;
      }

  pub readings : (many : Bool) (fs : List Read) (tokens : List Token) → AreFormulas (Bound table) many fs tokens → largest (map (λ f. length f.quantifiers) fs) ≤ limit → largest (map (λ f. height f.tree) fs) ≤ 200 → All (IsReading limit (length table)) (map plain_of fs)
  readings many [] tokens are few low = absurd are
  readings many (f ∷ []) tokens are few low =
      All-cons (IsReading limit (length table)) (plain_of f) [] (reading-one f tokens [] are (omega arith) (omega arith)) (All-nil (IsReading limit (length table)))
  readings many (f ∷ g ∷ fs) tokens (m, (rest, is, are)) few low =
      All-cons (IsReading limit (length table)) (plain_of f) (map plain_of (g ∷ fs))
      (reading-one f tokens (symbol signs.Semicolon ∷ rest) is (omega arith) (omega arith))
      (readings many (g ∷ fs) rest are (omega arith) (omega arith))

pub all_readings : (many : Bool) (limit : ℕ) (old : List (List ℕ)) (bytes : List ℕ) (fs : List Plain) (table : List (List ℕ)) → Answers many limit old bytes (read_as fs table) → All (IsReading limit (length table)) fs
all_readings many limit old bytes fs table a =
    let t = taken_of many limit old bytes fs table a in
    subst (All (IsReading limit (length table))) (sym t.formulas_are) (readings limit table many t.reads (tokens_of t.spans) t.are t.few.1.0 t.few.1.1.1.0)
