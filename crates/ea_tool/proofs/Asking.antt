-- What was found in words asks one question: the given options make it, and it is the only one.
use Rattle.std.proofs.Common.{◌≡◌, ◌⊎◌, inl, inr, ℕ, ◌<◌, ◌≤◌, ◌^◌, ◌-◌, Bool, false, true≢false, not, List, [], ◌∷◌, ◌++◌, length, codes, Option, Some, None, IfSome, IfNone, Bor, refl, sym, ap, subst, ◌∙◌, arith, ne_eqb}
use Rattle.std.specs.Bool.{IsTrue}
use Rattle.bound_search.specs.declared.bound.Bound.{Bound}
use Rattle.bound_search.specs.Bounds.{IsBound}
use Rattle.hy_files.specs.ErrorLines.{name_of_file}
use Rattle.hy_words.specs.Found.{Tells, found_files, found_value, found_flag, listed_slice}
use Rattle.hy_words.specs.declared.found.Found.{Found}
use Rattle.hy_words.specs.Numbers.{IsNumberOr}
use Rattle.hy_words.specs.Parsers.{is_syntax}
use Rattle.hy_words.specs.Words.{Text, Syntax, Item, AreItems, HasNoItems, GiveSame, files_in, given_in, is_given}
use Rattle.hy_words.proofs.Numbers.{same-number-or}
use Rattle.hy_run.specs.Names.{names_in}
use Rattle.hy_run.specs.Runs.{HasNoCommand}
use Rattle.hy_run.specs.declared.order.Order.{Order}
use Rattle.ea_tool.specs.Rules.{ea_rules}
use Rattle.ea_tool.specs.Words.{AreCalls, Asks, AsksFor, Finds, IsEngine, IsInRange, Orders, TellsNothing, TellsOrder, bound_text, ea_syntax}
use Rattle.ea_tool.specs.declared.verdict.Engine.{Engine}
use Rattle.ea_tool.specs.declared.verdict.Engine.TheVariants.{Branches, Circuit}
use Rattle.ea_tool.specs.declared.verdict.Question.{Question}
use Rattle.ea_tool.specs.declared.verdict.Question.TheVariants.{Judge, Decide, Relate, Find}
use Rattle.ea_tool.specs.declared.verdict.Relation.{Relation}
use Rattle.ea_tool.specs.declared.verdict.Relation.TheVariants.{Implication, Equivalence}
use Rattle.ea_tool.proofs.BoundTexts.{same-bound}

-- ---- the two kinds of questions

-- the question that these values of options ask
abbrev asked : List Text → List Text → List Text → Engine → Bool → Question
asked (lassos ∷ _) _ _ engine proof = Judge
asked [] (second ∷ _) _ engine proof = Relate Implication engine proof
asked [] [] (second ∷ _) engine proof = Relate Equivalence engine proof
asked [] [] [] engine proof = Decide engine proof

-- A question is asked about a formula, and about another file where one is given.
record IsQuestion (items : List Item) (question : Question) (files : List Text) : Type 0 where
  formula : Text
  on : List Text
  implied : List Text
  equal : List Text
  engine : Engine
  proof : Bool
  asks : Asks items formula on implied equal engine proof
  question_is : question ≡ asked on implied equal engine proof
  files_are : files ≡ formula ∷ on ++ implied ++ equal

-- A list within a bound is searched for.
record IsFinding (items : List Item) (question : Question) (files : List Text) : Type 0 where
  formula : Text
  bound : Bound
  conflicts : ℕ
  finds : Finds items formula bound conflicts
  question_is : question ≡ Find bound conflicts
  files_are : files ≡ formula ∷ []

kind_of : (items : List Item) (question : Question) (files : List Text) → Orders items question files
    → IsQuestion items question files ⊎ IsFinding items question files
kind_of items Judge (f ∷ l ∷ []) (n, b, asks) =
    inl (record { formula = f; on = l ∷ []; implied = []; equal = []; engine = Branches n; proof = b; asks = asks; question_is = refl; files_are = refl })
kind_of items (Decide n b) (f ∷ []) asks =
    inl (record { formula = f; on = []; implied = []; equal = []; engine = n; proof = b; asks = asks; question_is = refl; files_are = refl })
kind_of items (Relate Implication n b) (f ∷ g ∷ []) asks =
    inl (record { formula = f; on = []; implied = g ∷ []; equal = []; engine = n; proof = b; asks = asks; question_is = refl; files_are = refl })
kind_of items (Relate Equivalence n b) (f ∷ g ∷ []) asks =
    inl (record { formula = f; on = []; implied = []; equal = g ∷ []; engine = n; proof = b; asks = asks; question_is = refl; files_are = refl })
kind_of items (Find b n) (f ∷ []) finds =
    inr (record { formula = f; bound = b; conflicts = n; finds = finds; question_is = refl; files_are = refl })
kind_of items Judge [] none = absurd none
kind_of items Judge (f ∷ []) none = absurd none
kind_of items Judge (f ∷ g ∷ h ∷ rest) none = absurd none
kind_of items (Decide n b) [] none = absurd none
kind_of items (Decide n b) (f ∷ g ∷ rest) none = absurd none
kind_of items (Relate Implication n b) [] none = absurd none
kind_of items (Relate Implication n b) (f ∷ []) none = absurd none
kind_of items (Relate Implication n b) (f ∷ g ∷ h ∷ rest) none = absurd none
kind_of items (Relate Equivalence n b) [] none = absurd none
kind_of items (Relate Equivalence n b) (f ∷ []) none = absurd none
kind_of items (Relate Equivalence n b) (f ∷ g ∷ h ∷ rest) none = absurd none
kind_of items (Find b n) [] none = absurd none
kind_of items (Find b n) (f ∷ g ∷ rest) none = absurd none

-- Whatever the items ask is about one formula.
pub one_formula : (items : List Item) (question : Question) (files : List Text) → Orders items question files
    → (formula : Text) × (files_in items ≡ formula ∷ [])
one_formula items question files orders = elim (kind_of items question files orders) [
  | inl is ↦ (is.formula, is.asks.files)
  | inr is ↦ (is.formula, is.finds.files)
]

-- ---- the question that items ask is one

some-nothing : {A : Type 0} {x : A} {xs : List A} → x ∷ xs ≡ [] → ⊥
some-nothing e = cc

same-calls : (given : List Text) (n m : ℕ) → AreCalls given n → AreCalls given m → n ≡ m
same-calls [] n m one two = absurd one
same-calls (v ∷ vs) n m one two = same-number-or 0 (v ∷ vs) 1 1000000 n m (omega arith) one two

calls-given : (given : List Text) (n : ℕ) → AreCalls given n → given ≡ [] → ⊥
calls-given [] n calls e = calls
calls-given (v ∷ vs) n calls e = some-nothing e

module _ (items others : List Item) (same : GiveSame ea_syntax items others) (question other : Question) (files names : List Text) where
  -- What the items give in behalf of an engine.
  one_engine : (x y : Engine) → IsEngine items x → IsEngine others y → x ≡ y
  one_engine (Branches n) (Branches m) (one, none) (two, nothing) =
      let P : List Text → Type 0 = λ vs. IsNumberOr 100000 vs 1 4194304 n in
      ap Branches (same-number-or 100000 (given_in (codes "states") others) 1 4194304 n m (omega arith) (subst P same.options.1.1.1.0 one) two)
  one_engine (Branches n) (Circuit ask) (one, (none, rest)) (calls, deep, budget, bare, missing) =
      absurd (calls-given (given_in (codes "ic3") others) ask.calls calls (sym same.options.1.1.1.1.1.1.0 ∙ none))
  one_engine (Circuit ask) (Branches n) (calls, deep, budget, bare, missing) (two, (none, rest)) =
      absurd (calls-given (given_in (codes "ic3") items) ask.calls calls (same.options.1.1.1.1.1.1.0 ∙ none))
  one_engine (Circuit ask) (Circuit asked) (calls, deep, budget, bare, none) (also, far, most, plain, nothing) =
      let C : List Text → Type 0 = λ vs. AreCalls vs ask.calls in
      let K : List Text → Type 0 = λ vs. IsNumberOr 10 vs 0 100000 ask.depth in
      let L : List Text → Type 0 = λ vs. IsNumberOr 100000 vs 0 1000000000 ask.conflicts in
      let cs = same-calls (given_in (codes "ic3") others) ask.calls asked.calls (subst C same.options.1.1.1.1.1.1.0 calls) also in
      let ks = same-number-or 10 (given_in (codes "depth") others) 0 100000 ask.depth asked.depth (omega arith) (subst K same.options.1.1.1.1.1.1.1.0 deep) far in
      let ls =
      same-number-or 100000 (given_in (codes "conflicts") others) 0 1000000000 ask.conflicts asked.conflicts (omega arith)
      (subst L same.options.1.1.1.1.1.0 budget) most in
      let ps = bare ∙ sym plain in
      λ t. Circuit (record { calls = cs t; depth = ks t; conflicts = ls t; plain = ps t })

  one_question : IsQuestion items question files → IsQuestion others other names → (question ≡ other) × (files ≡ names)
  one_question x y =
      let (on, (implies, (equivalent, others_are))) = same.options in
      let formulas : x.formula ∷ [] ≡ y.formula ∷ [] = sym x.asks.files ∙ same.files ∙ y.asks.files in
      let formula : x.formula ≡ y.formula = cc in
      let ons : x.on ≡ y.on = sym x.asks.on ∙ on ∙ y.asks.on in
      let implied : x.implied ≡ y.implied = sym x.asks.implies ∙ implies ∙ y.asks.implies in
      let equals : x.equal ≡ y.equal = sym x.asks.equivalent ∙ equivalent ∙ y.asks.equivalent in
      let engines : x.engine ≡ y.engine = one_engine x.engine y.engine x.asks.by y.asks.by in
      let proofs : x.proof ≡ y.proof = x.asks.proves ∙ same.flags.0 ∙ sym y.asks.proves in (
        x.question_is ∙ (λ t. asked (ons t) (implied t) (equals t) (engines t) (proofs t)) ∙ sym y.question_is,
        x.files_are ∙ (λ t. formula t ∷ ons t ++ implied t ++ equals t) ∙ sym y.files_are,
      )

  bounds_are : given_in (codes "bound") items ≡ given_in (codes "bound") others
  bounds_are = same.options.1.1.1.1.0

  one_finding : IsFinding items question files → IsFinding others other names → (question ≡ other) × (files ≡ names)
  one_finding x y =
      let formulas : x.formula ∷ [] ≡ y.formula ∷ [] = sym x.finds.files ∙ same.files ∙ y.finds.files in
      let given : bound_text x.bound ∷ [] ≡ bound_text y.bound ∷ [] = sym x.finds.bounded ∙ bounds_are ∙ y.finds.bounded in
      let texts : bound_text x.bound ≡ bound_text y.bound = cc in
      let bounds : x.bound ≡ y.bound = same-bound x.bound y.bound x.finds.range y.finds.range texts in
      let P : List Text → Type 0 = λ vs. IsNumberOr 100000 vs 0 1000000000 x.conflicts in
      let budgets : x.conflicts ≡ y.conflicts =
      same-number-or 100000 (given_in (codes "conflicts") others) 0 1000000000 x.conflicts y.conflicts (omega arith)
      (subst P same.options.1.1.1.1.1.0 x.finds.budget) y.finds.budget in (
        x.question_is ∙ (λ t. Find (bounds t) (budgets t)) ∙ sym y.question_is,
        x.files_are ∙ formulas ∙ sym y.files_are,
      )

  one_kind : IsQuestion items question files ⊎ IsFinding items question files → IsQuestion others other names ⊎ IsFinding others other names
      → (question ≡ other) × (files ≡ names)
  one_kind (inl x) (inl y) = one_question x y
  one_kind (inl x) (inr y) = absurd (some-nothing (sym y.finds.bounded ∙ sym bounds_are ∙ x.asks.unbounded.0))
  one_kind (inr x) (inl y) = absurd (some-nothing (sym x.finds.bounded ∙ bounds_are ∙ y.asks.unbounded.0))
  one_kind (inr x) (inr y) = one_finding x y

-- Words ask one question of files of one list of names.
pub asks_once : ((syntax : Syntax) → IsTrue (is_syntax syntax) → (words : List Text) (items others : List Item) → AreItems syntax words items
    → AreItems syntax words others → GiveSame syntax items others) → (words files names : List Text) (question other : Question)
    → AsksFor words question files → AsksFor words other names → (question ≡ other) × (files ≡ names)
asks_once reading words files names question other (items, are, orders) (others, also, further) =
    one_kind items others (reading ea_syntax refl words items others are also) question other files names
    (kind_of items question files orders) (kind_of others other names further)

-- ---- what was found asks

-- What was found in words that are items asks what these ask.
module _ (words : List Text) (f : Found) (told : (items : List Item) → AreItems ea_syntax words items → Tells ea_syntax items f) where
  pub asks_found : (found : Option (Order Question)) → (items : List Item) × AreItems ea_syntax words items
      → IfSome found (λ order. TellsOrder f order.question (names_in order.files))
      → IfSome found (λ order. AsksFor words order.question (names_in order.files))
  asks_found None these some = tt
  asks_found (Some order) (items, are) some = (items, are, some items (told items are))

  unasked : TellsNothing f → (question : Question) (files : List Text) → ¬ AsksFor words question files
  unasked none question files (items, are, orders) = none items question files (told items are) orders

  pub asks_nothing : (found : Option (Order Question)) → IfNone found (TellsNothing f) → IfNone found (HasNoCommand ea_rules words)
  asks_nothing None none = unasked none
  asks_nothing (Some order) none = tt

pub unworded : (words : List Text) → HasNoItems ea_syntax words → (question : Question) (files : List Text) → ¬ AsksFor words question files
unworded words none question files (items, are, orders) = none items are

-- Where what was found asks for no engine, nor gives a bound, it asks nothing.
module _ (items : List Item) (found : Found) (tells : Tells ea_syntax items found) (unbounded : found_value found (codes "bound") ≡ [])
    (none : (others : List Item) (engine : Engine) → Tells ea_syntax others found → ¬ IsEngine others engine) where
  no-kind : (question : Question) (files : List Text) → IsQuestion items question files ⊎ IsFinding items question files → ⊥
  no-kind question files (inl x) = none items x.engine tells x.asks.by
  no-kind question files (inr x) = some-nothing (sym x.finds.bounded ∙ tells.options.1.1.1.1.0 ∙ unbounded)

  pub no_engine : (question : Question) (files : List Text) → ¬ Orders items question files
  no_engine question files orders = no-kind question files (kind_of items question files orders)

pub named : (items : List Item) (question : Question) (files names : List Text) → files ≡ names → Orders items question names → Orders items question files
named items question files names e is = let P : List Text → Type 0 = λ fs. Orders items question fs in subst P (sym e) is

module _ (items : List Item) (found : Found) (tells : Tells ea_syntax items found) (formula : Text) (file : found_files found ≡ formula ∷ []) where
  pub asks_of : (on implies equivalent : Option (Bor Text)) → listed_slice on ≡ found_value found (codes "on")
      → listed_slice implies ≡ found_value found (codes "implies") → listed_slice equivalent ≡ found_value found (codes "equivalent")
      → (engine : Engine) → IsEngine items engine → (proof : Bool) → proof ≡ found_flag found (codes "proof")
      → found_value found (codes "bound") ≡ [] → (a b c : List Text) → listed_slice on ≡ a → listed_slice implies ≡ b → listed_slice equivalent ≡ c
      → Asks items formula a b c engine proof
  asks_of on implies equivalent one two three engine by proof proves unbounded a b c is_a is_b is_c =
      let (at_on, (at_implies, (at_equivalent, (at_states, (at_bound, rest))))) = tells.options in
      record {
        files = tells.files ∙ file;
        on = at_on ∙ sym one ∙ is_a;
        implies = at_implies ∙ sym two ∙ is_b;
        equivalent = at_equivalent ∙ sym three ∙ is_c;
        by = by;
        proves = proves ∙ sym tells.flags.0;
        unbounded = (at_bound ∙ unbounded, tt);
      }

  not-given : (given : List Text) → is_given given ≡ false → given ≡ []
  not-given [] e = refl
  not-given (v ∷ vs) e = absurd (true≢false (sym (ap not (ne_eqb (length (v ∷ vs)) 0 (λ z. omega (arith, z)))) ∙ e))

  pub finds_of : (bound : Bound) → found_value found (codes "bound") ≡ bound_text bound ∷ [] → IsBound bound
      → (on implies equivalent states ic3 depth conflicts : Option (Bor Text)) → listed_slice on ≡ found_value found (codes "on") → on ≡ None
      → listed_slice implies ≡ found_value found (codes "implies") → implies ≡ None
      → listed_slice equivalent ≡ found_value found (codes "equivalent") → equivalent ≡ None
      → listed_slice states ≡ found_value found (codes "states") → states ≡ None
      → listed_slice ic3 ≡ found_value found (codes "ic3") → ic3 ≡ None → listed_slice depth ≡ found_value found (codes "depth") → depth ≡ None
      → listed_slice conflicts ≡ found_value found (codes "conflicts") → (n : ℕ) → IsNumberOr 100000 (listed_slice conflicts) 0 1000000000 n
      → false ≡ found_flag found (codes "proof") → Finds items formula bound n
  finds_of bound bounded range on implies equivalent states ic3 depth conflicts one no_on two no_implies three no_equivalent four no_states
      five no_ic3 seven no_depth six n number no_proof =
      let (at_on, (at_implies, (at_equivalent, (at_states, (at_bound, (at_conflicts, (at_ic3, (at_depth, nil)))))))) = tells.options in
      let P : List Text → Type 0 = λ vs. IsNumberOr 100000 vs 0 1000000000 n in
      record {
        files = tells.files ∙ file;
        bounded = at_bound ∙ bounded;
        range = range;
        budget = subst P (six ∙ sym at_conflicts) number;
        alone = (
          at_on ∙ sym one ∙ ap listed_slice no_on,
          (
            at_implies ∙ sym two ∙ ap listed_slice no_implies,
            (
              at_equivalent ∙ sym three ∙ ap listed_slice no_equivalent,
              (
                at_states ∙ sym four ∙ ap listed_slice no_states,
                (
                  not-given (given_in (codes "proof") items) (tells.flags.0 ∙ sym no_proof),
                  (at_ic3 ∙ sym five ∙ ap listed_slice no_ic3, (at_depth ∙ sym seven ∙ ap listed_slice no_depth, tt)),
                ),
              ),
            ),
          ),
        );
      }

-- ---- what is asked is within its ranges

depth-low : (given : List Text) (n : ℕ) → IsNumberOr 10 given 0 100000 n → n ≤ 100000
depth-low [] n e = omega (arith, e)
depth-low (v ∷ vs) n (e, from, to) = to

states-few : (given : List Text) (n : ℕ) → IsNumberOr 100000 given 1 4194304 n → n < 2 ^ 32 - 1
states-few [] n e = omega (arith, e)
states-few (v ∷ vs) n (e, from, to) = omega (arith, to)

conflicts-few : (given : List Text) (n : ℕ) → IsNumberOr 100000 given 0 1000000000 n → n < 2 ^ 31
conflicts-few [] n e = omega (arith, e)
conflicts-few (v ∷ vs) n (e, from, to) = omega (arith, to)

engine-in : (items : List Item) (engine : Engine) → IsEngine items engine → IsInRange engine
engine-in items (Branches n) (budget, none) = states-few (given_in (codes "states") items) n budget
engine-in items (Circuit ask) (calls, deep, budget, bare, none) = (
  depth-low (given_in (codes "depth") items) ask.depth deep,
  conflicts-few (given_in (codes "conflicts") items) ask.conflicts budget,
)

judges-at : (words files : List Text) (first second : Text) → AsksFor words Judge files → first ≡ name_of_file files 0
    → second ≡ name_of_file files 1 → files ≡ first ∷ second ∷ []
judges-at words [] first second (items, are, none) d e = absurd none
judges-at words (f ∷ []) first second (items, are, none) d e = absurd none
judges-at words (f ∷ g ∷ []) first second asks d e = λ i. sym d i ∷ sym e i ∷ []
judges-at words (f ∷ g ∷ h ∷ rest) first second (items, are, none) d e = absurd none

decides-at : (words files : List Text) (n : Engine) (b : Bool) (first : Text) → AsksFor words (Decide n b) files → first ≡ name_of_file files 0
    → (files ≡ first ∷ []) × IsInRange n
decides-at words [] n b first (items, are, none) d = absurd none
decides-at words (f ∷ []) n b first (items, are, asks) d = (λ i. sym d i ∷ [], engine-in items n asks.by)
decides-at words (f ∷ g ∷ rest) n b first (items, are, none) d = absurd none

relates-at : (words files : List Text) (relation : Relation) (n : Engine) (b : Bool) (first second : Text) → AsksFor words (Relate relation n b) files
    → first ≡ name_of_file files 0 → second ≡ name_of_file files 1 → (files ≡ first ∷ second ∷ []) × IsInRange n
relates-at words [] Implication n b first second (items, are, none) d e = absurd none
relates-at words (f ∷ []) Implication n b first second (items, are, none) d e = absurd none
relates-at words (f ∷ g ∷ []) Implication n b first second (items, are, asks) d e =
    (λ i. sym d i ∷ sym e i ∷ [], engine-in items n asks.by)
relates-at words (f ∷ g ∷ h ∷ rest) Implication n b first second (items, are, none) d e = absurd none
relates-at words [] Equivalence n b first second (items, are, none) d e = absurd none
relates-at words (f ∷ []) Equivalence n b first second (items, are, none) d e = absurd none
relates-at words (f ∷ g ∷ []) Equivalence n b first second (items, are, asks) d e =
    (λ i. sym d i ∷ sym e i ∷ [], engine-in items n asks.by)
relates-at words (f ∷ g ∷ h ∷ rest) Equivalence n b first second (items, are, none) d e = absurd none

finds-at : (words files : List Text) (bound : Bound) (n : ℕ) (first : Text) → AsksFor words (Find bound n) files → first ≡ name_of_file files 0
    → (files ≡ first ∷ []) × IsBound bound × (n < 2 ^ 31)
finds-at words [] bound n first (items, are, none) d = absurd none
finds-at words (f ∷ []) bound n first (items, are, asks) d =
    (λ i. sym d i ∷ [], asks.range, conflicts-few (given_in (codes "conflicts") items) n asks.budget)
finds-at words (f ∷ g ∷ rest) bound n first (items, are, none) d = absurd none

-- A question that words ask of files, the first of which, or two, have these names.
module _ (words files : List Text) (question : Question) (asks : AsksFor words question files) where
  asks_this : (other : Question) → question ≡ other → AsksFor words other files
  asks_this other e = let P : Question → Type 0 = λ q. AsksFor words q files in subst P e asks

  pub judges : question ≡ Judge → (first second : Text) → first ≡ name_of_file files 0 → second ≡ name_of_file files 1
      → files ≡ first ∷ second ∷ []
  judges is first second d e = judges-at words files first second (asks_this Judge is) d e

  pub decides : (n : Engine) (b : Bool) → question ≡ Decide n b → (first : Text) → first ≡ name_of_file files 0
      → (files ≡ first ∷ []) × IsInRange n
  decides n b is first d = decides-at words files n b first (asks_this (Decide n b) is) d

  pub relates : (relation : Relation) (n : Engine) (b : Bool) → question ≡ Relate relation n b → (first second : Text)
      → first ≡ name_of_file files 0 → second ≡ name_of_file files 1 → (files ≡ first ∷ second ∷ []) × IsInRange n
  relates relation n b is first second d e = relates-at words files relation n b first second (asks_this (Relate relation n b) is) d e

  pub finds : (bound : Bound) (n : ℕ) → question ≡ Find bound n → (first : Text) → first ≡ name_of_file files 0
      → (files ≡ first ∷ []) × IsBound bound × (n < 2 ^ 31)
  finds bound n is first d = finds-at words files bound n first (asks_this (Find bound n) is) d
