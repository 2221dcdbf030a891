-- Lassos that are read off an assignment, letter by letter, and shortened.
use Rattle.std.proofs.Common.{◌≡◌, ℕ, zero, suc, ◌+◌, ◌<◌, ◌≤◌, Bool, true, false, cond, List, [], ◌∷◌, ◌++◌, take, length, get_or, refl, sym, ap, ap₂, ◌∙◌, subst, arith, length-append, append-nil}
use Rattle.std.specs.FinSet.{contains, from_list, insert, from_list_push, nat_cmp-IsAntisymmetric}
use Rattle.std.specs.Cmp.{nat_cmp_total}
use Rattle.std.specs.List.{filter}
use Rattle.std.specs.Ordering.{nat_cmp}
use Rattle.std.proofs.lemmas.List.Elements.{filter_more}
use Rattle.hy_base.specs.Rows.{listed, row}
use Rattle.hy_base.proofs.Listed.{each-append, length-listed, listed-last}
use Rattle.hy_bits.specs.Letter.{Letter}
use Rattle.hy_formula.specs.Lassos.{Lasso}
use Rattle.hy_lasso.specs.NormalForms.{IsNormal}
use Rattle.hy_lasso.specs.Words.{no_lasso, letter_at}
use Rattle.chain_check.specs.Values.{Assignment, AllMet}
use Rattle.bound_search.specs.declared.bound.Bound.{Bound}
use Rattle.bound_search.specs.Names.{name_place}
use Rattle.bound_search.specs.Queries.{cycle_variable, letter_variable, letters_of_member, member_clauses, member_start}
use Rattle.bound_search.specs.Spelling.{letter_read, lasso_read, IsMemberRead}
use Rattle.bound_search.proofs.Members.{some-length, short-read, met-read, named-read}

pushed : (ks : List ℕ) (x : ℕ) (b : Bool) →
    cond b (insert (from_list {R = nat_cmp} ks) x) (from_list ks) ≡ from_list (ks ++ cond b (x ∷ []) [])
pushed ks x true = sym (from_list_push nat_cmp_total nat_cmp-IsAntisymmetric ks x)
pushed ks x false = ap (λ l. from_list {R = nat_cmp} l) (sym (append-nil ks))

-- One more number is looked at.
pub one_more : (p : ℕ → Bool) (xs : List ℕ) (k : ℕ) (old new : Letter) → k < length xs →
    old ≡ from_list (filter p (take k xs)) →
    new ≡ cond (p (get_or xs k 0)) (insert old (get_or xs k 0)) old →
    new ≡ from_list (filter p (take (k + 1) xs))
one_more p xs k old new lt before added =
    let x : ℕ = get_or xs k 0 in
    added ∙ ap (λ s. cond (p x) (insert s x) s) before ∙ pushed (filter p (take k xs)) x (p x)
    ∙ ap (λ l. from_list {R = nat_cmp} l) (sym (filter_more p xs k 0 lt))

-- One more name is looked at, by the variable of its place.
pub letter_step : (values : List Bool) (names : List ℕ) (bound : Bound) (t i : ℕ) (items : List ℕ)
    (k : ℕ) (old new : Letter) (place start : ℕ) (has : Bool) → k < length items →
    old ≡ from_list (filter (λ name.
    row values (letter_variable names bound t (name_place name names) i)) (take k items)) →
    place ≡ name_place (get_or items k 0) names → start ≡ letter_variable names bound t place 0 →
    has ≡ row values (start + i) → new ≡ cond has (insert old (get_or items k 0)) old →
    new ≡ from_list (filter (λ name.
    row values (letter_variable names bound t (name_place name names) i)) (take (k + 1) items))
letter_step values names bound t i items k old new place start has lt before at from value added =
    let x : ℕ = get_or items k 0 in
    let whole : start + i ≡ letter_variable names bound t place i = omega (arith, from) in
    one_more (λ name. row values (letter_variable names bound t (name_place name names) i)) items k
    old new lt before
    (added ∙ ap (λ b. cond b (insert old x) old) (value ∙ ap (row values) (whole
    ∙ ap (λ r. letter_variable names bound t r i) at)))

-- One more letter is read.
pub word_step : (f : ℕ → Letter) (from k : ℕ) (old new : List Letter) (x : Letter) →
    old ≡ listed from k f → new ≡ old ++ x ∷ [] → x ≡ f (from + k) → new ≡ listed from (k + 1) f
word_step f from k old new x before added is =
    let up : suc k ≡ k + 1 = omega arith in
    added ∙ ap (λ l. l ++ x ∷ []) before ∙ ap (λ y. listed from k f ++ y ∷ []) is
    ∙ sym (listed-last from k f) ∙ ap (λ n. listed from n f) up

-- the variable of a length of the cycle, counted from the first one
pub length_value : (values : List Bool) (names : List ℕ) (bound : Bound) (t d start : ℕ)
    (has b : Bool) → start ≡ member_start names bound t + letters_of_member names bound →
    has ≡ row values (start + d) → has ≡ b → row values (cycle_variable names bound t d) ≡ b
length_value values names bound t d start has b from value is =
    let whole : start + d ≡ cycle_variable names bound t d = omega (arith, from) in
    sym (ap (row values) whole) ∙ sym value ∙ is

-- The cycle of a lasso in normal form is not empty.
some-cycle : (l : Lasso Letter) → IsNormal l → 0 < length l.cycle
some-cycle l normal = of l.cycle refl
  where
    of : (cycle : List Letter) → l.cycle ≡ cycle → 0 < length cycle
    of [] e = let wrong : ◌≡◌ {A = ℕ} 0 1 = normal.primitive [] 0 e in absurd (omega arith)
    of (x ∷ xs) e = omega arith

module _ (a : Assignment) (names : List ℕ) (bound : Bound) (t : ℕ)
    (met : AllMet a (member_clauses names bound t)) where
  -- The cycle has some length.
  pub no-length : ((d : ℕ) → d < bound.cycle → a (cycle_variable names bound t d) ≡ false) → ⊥
  no-length none = let (d, lt, e) = some-length a names bound t met in let f = none d lt in cc

  -- A lasso with the letters that are read, and its normal form.
  pub member-read : (d : ℕ) → d < bound.cycle → a (cycle_variable names bound t d) ≡ true →
      (m l : Lasso Letter) → m.stem ≡ (lasso_read a names bound t d).stem →
      m.cycle ≡ (lasso_read a names bound t d).cycle →
      ((i : ℕ) → letter_at l i ≡ letter_at m i) → IsNormal l →
      length l.stem ≤ length m.stem → length l.cycle ≤ length m.cycle →
      IsMemberRead a names bound t l
  member-read d lt e m l stem cycle word normal no_longer no_rounder =
      let read : Lasso Letter = lasso_read a names bound t d in
      let parts : m ≡ read =
      ap₂ (λ (s c : List Letter). record { stem = s; cycle = c }) stem cycle in
      let same : (i : ℕ) → letter_at l i ≡ letter_at read i =
      λ i. word i ∙ ap (λ x. letter_at x i) parts in
      let short = short-read a names bound t d lt in
      record {
        short = record {
          stem = omega (arith, no_longer, ap length stem, short.stem);
          some = some-cycle l normal;
          cycle = omega (arith, no_rounder, ap length cycle, short.cycle);
        };
        normal = normal;
        spells = λ name there i few.
            met-read a names bound t met d lt e name there i few
            ∙ sym (ap (λ x. contains x name) (same i));
        named = λ i name h.
            named-read a names bound t d i name (sym (ap (λ x. contains x name) (same i)) ∙ h);
      }

-- A word that is read is not empty.
pub no_word : (from n : ℕ) (f : ℕ → Letter) (word : List Letter) → word ≡ listed from (n + 1) f →
    word ≡ [] → ⊥
no_word from n f word read none =
    let long = length-listed from (n + 1) f in
    let whole = ap length read in
    let empty = ap length none in omega (arith, long, whole, empty)

-- The lasso of these words, shortened.
pub member_made : (values : List Bool) (names : List ℕ) (bound : Bound) (t last : ℕ)
    (before round : List Letter) (m l : Lasso Letter) →
    AllMet (row values) (member_clauses names bound t) → last < bound.cycle →
    row values (cycle_variable names bound t last) ≡ true →
    before ≡ listed 0 bound.stem (letter_read (row values) names bound t) →
    round ≡ listed bound.stem (last + 1) (letter_read (row values) names bound t) →
    m.stem ≡ before → m.cycle ≡ round → ((i : ℕ) → letter_at l i ≡ letter_at m i) → IsNormal l →
    length l.stem ≤ length m.stem → length l.cycle ≤ length m.cycle →
    IsMemberRead (row values) names bound t l
member_made values names bound t last before round m l met lt may stem cycle own_stem own_cycle
    word normal no_longer no_rounder =
    let up : last + 1 ≡ suc last = omega arith in
    member-read (row values) names bound t met last lt may m l (own_stem ∙ stem)
    (own_cycle ∙ cycle
    ∙ ap (λ n. listed bound.stem n (letter_read (row values) names bound t)) up)
    word normal no_longer no_rounder

-- One more member is read.
pub members_step : (a : Assignment) (names : List ℕ) (bound : Bound) (t : ℕ)
    (old new : List (Lasso Letter)) (l : Lasso Letter) → length old ≡ t →
    ((k : ℕ) → k < t → IsMemberRead a names bound k (get_or old k no_lasso)) →
    new ≡ old ++ l ∷ [] → IsMemberRead a names bound t l →
    (length new ≡ t + 1)
    × ((k : ℕ) → k < t + 1 → IsMemberRead a names bound k (get_or new k no_lasso))
members_step a names bound t old new l long all added last =
    let whole = length-append old (l ∷ []) in
    let P : List (Lasso Letter) → Type 0 = λ list.
    (k : ℕ) → k < t + 1 → IsMemberRead a names bound k (get_or list k no_lasso) in (
      omega (arith, ap length added, whole, long),
      subst P (sym added) (λ k lt. each-append no_lasso old (l ∷ []) (IsMemberRead a names bound)
          (λ j few. all j (omega (arith, long, few)))
          (λ j few. own j few)
          k (omega (arith, whole, long, lt))),
    )
  where
    own : (j : ℕ) → j < 1 → IsMemberRead a names bound (length old + j) (get_or (l ∷ []) j no_lasso)
    own zero few =
        let Q : ℕ → Type 0 = λ i. IsMemberRead a names bound i l in
        subst Q (omega (arith, long)) last
    own (suc j) few = absurd (omega arith)
