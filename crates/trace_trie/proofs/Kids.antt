-- Children of two lists, and one child swapped for another.
use Rattle.std.proofs.Common.{◌≡◌, ◌≢◌, ℕ, ◌<◌, Bool, true, false, not, cond, List, [], ◌∷◌, ◌++◌, length, append_assoc, refl, sym, ap, ◌∙◌, subst, arith}
use Rattle.std.specs.FinSet.{contains}
use Rattle.hy_bits.specs.Letter.{Letter}
use Rattle.hy_formula.specs.Quantifiers.{Each}
use Rattle.hy_formula.proofs.Each.{each-append, each-left, each-right, each-like}
use Rattle.trace_trie.specs.Numbered.{Numbered, same_letter}
use Rattle.trace_trie.specs.Kids.{Kid, AreKids, IsSwapped, behind, kid_of}
use Rattle.trace_trie.proofs.Lettering.{equal-letter, letter-itself, same-false, apart-by}

-- ---- what is behind a letter

pub behind-none : (a : Letter) (ks : List Kid) → Each (λ (k : Kid). k.0 ≢ a) ks → behind a ks ≡ []
behind-none a [] h = refl
behind-none a (k ∷ ks) h = ap (λ b. cond b k.1 (behind a ks)) (same-false a k.0 h.0) ∙ behind-none a ks h.1

pub behind-first : (a : Letter) (xs ys : List Kid) → Each (λ (k : Kid). k.0 ≢ a) ys → behind a (xs ++ ys) ≡ behind a xs
behind-first a [] ys h = behind-none a ys h
behind-first a (k ∷ ks) ys h = ap (λ l. cond (same_letter a k.0) k.1 l) (behind-first a ks ys h)

pub behind-second : (a : Letter) (xs ys : List Kid) → Each (λ (k : Kid). k.0 ≢ a) xs → behind a (xs ++ ys) ≡ behind a ys
behind-second a [] ys h = refl
behind-second a (k ∷ ks) ys h = ap (λ b. cond b k.1 (behind a (ks ++ ys))) (same-false a k.0 h.0) ∙ behind-second a ks ys h.1

pub behind-one : (a : Letter) (held : List Numbered) (ks : List Kid) → behind a ((a, held) ∷ ks) ≡ held
behind-one a held ks = ap (λ b. cond b held (behind a ks)) (letter-itself a)

pub kid-of-some : (a : Letter) (held : List Numbered) → 0 < length held → kid_of a held ≡ (a, held) ∷ []
kid-of-some a [] lt = absurd (omega arith)
kid-of-some a (p ∷ ps) lt = refl

-- ---- the two parts of a fork

pub lacking : (a : Letter) (name : ℕ) (ks : List Kid) → contains a name ≡ true → Each (λ (k : Kid). contains k.0 name ≡ false) ks → Each (λ (k : Kid). k.0 ≢ a) ks
lacking a name ks has =
    each-like (λ (k : Kid). contains k.0 name ≡ false) (λ (k : Kid). k.0 ≢ a) (λ k lacks same. apart-by k.0 a name lacks has (sym same)) ks

pub having : (a : Letter) (name : ℕ) (ks : List Kid) → contains a name ≡ false → Each (λ (k : Kid). contains k.0 name ≡ true) ks → Each (λ (k : Kid). k.0 ≢ a) ks
having a name ks lacks =
    each-like (λ (k : Kid). contains k.0 name ≡ true) (λ (k : Kid). k.0 ≢ a) (λ k has same. apart-by a k.0 name lacks has same) ks

pub kids-append : (name : ℕ) (xs ys : List Kid) → AreKids xs → AreKids ys → Each (λ (k : Kid). contains k.0 name ≡ false) xs
    → Each (λ (k : Kid). contains k.0 name ≡ true) ys → AreKids (xs ++ ys)
kids-append name [] ys h k lack have = k
kids-append name (x ∷ xs) ys h k lack have =
    (h.0, each-append (λ (other : Kid). other.0 ≢ x.0) xs ys h.1 (having x.0 name ys lack.0 have), kids-append name xs ys h.2 k lack.1 have)

-- ---- swaps

pub swapped-first : {a : Letter} {held : List Numbered} {old new : List Kid} (ys : List Kid) → Each (λ (k : Kid). k.0 ≢ a) ys → IsSwapped a held old new
    → IsSwapped a held (old ++ ys) (new ++ ys)
swapped-first {a} {held} {old} {new} ys apart s = record {
  before = s.before;
  after = s.after ++ ys;
  apart_before = s.apart_before;
  apart_after = each-append (λ (k : Kid). k.0 ≢ a) s.after ys s.apart_after apart;
  old_is =
      ap (λ l. l ++ ys) s.old_is ∙ append_assoc (s.before ++ kid_of a (behind a old)) s.after ys
      ∙ ap (λ l. s.before ++ kid_of a l ++ (s.after ++ ys)) (sym (behind-first a old ys apart));
  new_is = ap (λ l. l ++ ys) s.new_is ∙ append_assoc (s.before ++ kid_of a held) s.after ys;
}

pub swapped-second : {a : Letter} {held : List Numbered} {old new : List Kid} (xs : List Kid) → Each (λ (k : Kid). k.0 ≢ a) xs → IsSwapped a held old new
    → IsSwapped a held (xs ++ old) (xs ++ new)
swapped-second {a} {held} {old} {new} xs apart s = record {
  before = xs ++ s.before;
  after = s.after;
  apart_before = each-append (λ (k : Kid). k.0 ≢ a) xs s.before apart s.apart_before;
  apart_after = s.apart_after;
  old_is =
      ap (λ l. xs ++ l) s.old_is ∙ whole (kid_of a (behind a old))
      ∙ ap (λ l. xs ++ s.before ++ kid_of a l ++ s.after) (sym (behind-second a xs old apart));
  new_is = ap (λ l. xs ++ l) s.new_is ∙ whole (kid_of a held);
}
  where
    whole : (l : List Kid) → xs ++ (s.before ++ l ++ s.after) ≡ xs ++ s.before ++ l ++ s.after
    whole l = sym (append_assoc xs (s.before ++ l) s.after) ∙ ap (λ q. q ++ s.after) (sym (append_assoc xs s.before l))

pub each-swapped : (P : Letter → Type 0) {a : Letter} {held : List Numbered} {old new : List Kid} → IsSwapped a held old new → P a
    → Each (λ (k : Kid). P k.0) old → Each (λ (k : Kid). P k.0) new
each-swapped P {a} {held} {old} {new} s here h =
    let Q : Kid → Type 0 = λ (k : Kid). P k.0 in
    let R : List Kid → Type 0 = Each Q in
    let whole : Each Q (s.before ++ kid_of a (behind a old) ++ s.after) = subst R s.old_is h in
    let front : Each Q (s.before ++ kid_of a (behind a old)) = each-left Q (s.before ++ kid_of a (behind a old)) s.after whole in
    subst R (sym s.new_is)
    (each-append Q (s.before ++ kid_of a held) s.after
    (each-append Q s.before (kid_of a held) (each-left Q s.before (kid_of a (behind a old)) front) (one held))
    (each-right Q (s.before ++ kid_of a (behind a old)) s.after whole))
  where
    one : (held : List Numbered) → Each (λ (k : Kid). P k.0) (kid_of a held)
    one [] = tt
    one (p ∷ ps) = (here, tt)

-- where there was no child
pub swapped-none : (a : Letter) (held : List Numbered) → 0 < length held → IsSwapped a held [] ((a, held) ∷ [])
swapped-none a held lt = record {
  before = [];
  after = [];
  apart_before = tt;
  apart_after = tt;
  old_is = refl;
  new_is = ap (λ l. l ++ []) (sym (kid-of-some a held lt));
}

-- where the only child has the letter
pub swapped-same : (a b : Letter) (held old : List Numbered) → a ≡ b → 0 < length old → 0 < length held
    → IsSwapped a held ((b, old) ∷ []) ((a, held) ∷ [])
swapped-same a b held old same lt lt' =
    let P : Letter → Type 0 = λ (q : Letter). IsSwapped a held ((q, old) ∷ []) ((a, held) ∷ []) in
    subst P same record {
      before = [];
      after = [];
      apart_before = tt;
      apart_after = tt;
      old_is = ap (λ l. l ++ []) (sym (kid-of-some a old lt) ∙ ap (kid_of a) (sym (behind-one a old [])));
      new_is = ap (λ l. l ++ []) (sym (kid-of-some a held lt'));
    }

-- and is taken away
pub swapped-gone : (a b : Letter) (old : List Numbered) → same_letter a b ≡ true → 0 < length old → IsSwapped a [] ((b, old) ∷ []) []
swapped-gone a b old same lt =
    let P : Letter → Type 0 = λ (q : Letter). IsSwapped a [] ((q, old) ∷ []) [] in
    subst P (equal-letter a b same) record {
      before = [];
      after = [];
      apart_before = tt;
      apart_after = tt;
      old_is = ap (λ l. l ++ []) (sym (kid-of-some a old lt) ∙ ap (kid_of a) (sym (behind-one a old [])));
      new_is = refl;
    }

pub swapped-beside : (a b : Letter) (held old : List Numbered) (name : ℕ) (has : Bool) → contains a name ≡ has → contains b name ≡ not (contains a name) → 0 < length held
    → IsSwapped a held ((b, old) ∷ []) (cond has (((b, old) ∷ []) ++ (a, held) ∷ []) (((a, held) ∷ []) ++ (b, old) ∷ []))
swapped-beside a b held old name true e f lt =
    let apart : b ≡ a → ⊥ = λ s. apart-by b a name (f ∙ ap not e) e (sym s) in
    record {
      before = (b, old) ∷ [];
      after = [];
      apart_before = (apart, tt);
      apart_after = tt;
      old_is = ap (λ l. (b, old) ∷ kid_of a l ++ []) (sym (behind-none a ((b, old) ∷ []) (apart, tt)));
      new_is = ap (λ l. (b, old) ∷ l ++ []) (sym (kid-of-some a held lt));
    }
swapped-beside a b held old name false e f lt =
    let apart : b ≡ a → ⊥ = apart-by a b name e (f ∙ ap not e) in
    record {
      before = [];
      after = (b, old) ∷ [];
      apart_before = tt;
      apart_after = (apart, tt);
      old_is = ap (λ l. kid_of a l ++ (b, old) ∷ []) (sym (behind-none a ((b, old) ∷ []) (apart, tt)));
      new_is = ap (λ l. l ++ (b, old) ∷ []) (sym (kid-of-some a held lt));
    }
