-- Which question words ask: as what is found in them tells, and one.
use Rattle.std.proofs.Common.{◌≡◌, ℕ, ◌<◌, ◌≤◌, ◌^◌, Bool, true≢false, List, [], ◌∷◌, map, length, slice_index_or, Bor, Option, Some, None, IfNone, codes, refl, sym, ap, subst, ◌∙◌, arith}
use Rattle.std.specs.Str.{bytes_eq}
use Rattle.hy_finite.specs.declared.lengths.Lengths.{Lengths}
use Rattle.hy_finite.specs.declared.lengths.Lengths.TheVariants.{Min, Pad}
use Rattle.hy_files.specs.ErrorLines.{name_of_file}
use Rattle.hy_words.specs.Numbers.{IsNumber}
use Rattle.hy_words.specs.Found.{Tells}
use Rattle.hy_words.specs.declared.found.Found.{Found}
use Rattle.hy_words.specs.Words.{AreItems, GiveSame, Item, given_in}
use Rattle.hy_words.proofs.Numbers.{same-number}
use Rattle.hy_words.proofs.Telling.{same_items}
use Rattle.hy_run.specs.Names.{Text}
use Rattle.hy_run.specs.declared.order.Order.{Order}
use Rattle.rv_tool.specs.Words.{IsRule, Monitors, Orders, asks, rv_syntax}
use Rattle.rv_tool.specs.declared.verdict.Question.{Question}
use Rattle.rv_tool.specs.declared.verdict.Question.TheVariants.{Monitor, MonitorMade}

-- ---- what was found

-- Where no question was found in words, these ask none.
pub question_none : (words : List Text) (found : Found) (o : Option (Order Question))
    → ((items : List Item) → AreItems rv_syntax words items → Tells rv_syntax items found)
    → IfNone o ((items : List Item) (question : Question) (names : List Text) → Tells rv_syntax items found → ¬ Orders items question names)
    → IfNone o ((question : Question) (files : List Text) → ¬ asks words question files)
question_none words found (Some order) told none = tt
question_none words found None told none = λ question files (items, are, orders). none items question files (told items are) orders

some-nothing : {A : Type 0} {x : A} {xs : List A} → x ∷ xs ≡ [] → ⊥
some-nothing e = cc

-- ---- files

pub one_file : (files : List (Bor Text)) (d : Bor Text) → 1 ≤ length files → length files < 2 → map (λ n. n.now) files ≡ (slice_index_or files 0 d).now ∷ []
one_file [] d some few = absurd (omega arith)
one_file (a ∷ []) d some few = refl
one_file (a ∷ b ∷ files) d some few = absurd (omega arith)

pub two_names : (files : List Text) → length files ≡ 2 → files ≡ name_of_file files 0 ∷ name_of_file files 1 ∷ []
two_names [] e = absurd (omega (arith, e))
two_names (a ∷ []) e = absurd (omega (arith, e))
two_names (a ∷ b ∷ []) e = refl
two_names (a ∷ b ∷ c ∷ files) e = absurd (omega (arith, e))

pub one_name : (files : List Text) → length files ≡ 1 → files ≡ name_of_file files 0 ∷ []
one_name [] e = absurd (omega (arith, e))
one_name (a ∷ []) e = refl
one_name (a ∷ b ∷ files) e = absurd (omega (arith, e))

-- What a question that was asked says of its files and its count.
pub asked_two : (words files : List Text) (lengths : Lengths) (drop : Bool) → asks words (Monitor lengths drop) files → length files ≡ 2
asked_two words files lengths drop (items, are, (monitors, two)) = two

pub asked_one : (words files : List Text) (count : ℕ) (lengths : Lengths) (drop : Bool) → asks words (MonitorMade count lengths drop) files
    → (length files ≡ 1) × (count < 2 ^ 31)
asked_one words files count lengths drop (items, are, (text, monitors, number, one)) = (one, let most = number.2 in omega (arith, most))

-- ---- one question

same-rule : (given : List Text) (a b : Lengths) → IsRule given a → IsRule given b → a ≡ b
same-rule [] a b e f = e ∙ sym f
same-rule (v ∷ vs) Min Min e f = refl
same-rule (v ∷ vs) Pad Pad e f = refl
same-rule (v ∷ vs) Min Pad e f = absurd (true≢false (ap (bytes_eq (codes "min")) (sym e ∙ f)))
same-rule (v ∷ vs) Pad Min e f = absurd (true≢false (ap (bytes_eq (codes "pad")) (sym e ∙ f)))

module _ (items others : List Item) (same : GiveSame rv_syntax items others) where
  -- Both ask for the same, but maybe for other counts.
  module _ (files names made again : List Text) (rule lengths : Lengths) (drop drops : Bool)
      (one : Monitors items files made rule drop) (two : Monitors others names again lengths drops) where
    files_same : files ≡ names
    files_same = sym one.files ∙ same.files ∙ two.files

    made_same : made ≡ again
    made_same = sym one.make ∙ same.options.1.0 ∙ two.make

    rules_same : rule ≡ lengths
    rules_same =
        same-rule (given_in (codes "lengths") others) rule lengths
        (subst (λ vs. IsRule vs rule) same.options.0 one.rule) two.rule

    drops_same : drop ≡ drops
    drops_same = one.drops ∙ same.flags.0 ∙ sym two.drops

  one_order : (question other : Question) (files names : List Text) → Orders items question files → Orders others other names
      → (question ≡ other) × (files ≡ names)
  one_order (Monitor rule drop) (Monitor lengths drops) files names (one, long) (two, also) =
      let rules = rules_same files names [] [] rule lengths drop drops one two in
      let dropped = drops_same files names [] [] rule lengths drop drops one two in
      (λ i. Monitor (rules i) (dropped i), files_same files names [] [] rule lengths drop drops one two)
  one_order (Monitor rule drop) (MonitorMade count lengths drops) files names (one, long) (text, two, number, also) =
      absurd (some-nothing (sym (made_same files names [] (text ∷ []) rule lengths drop drops one two)))
  one_order (MonitorMade count rule drop) (Monitor lengths drops) files names (text, one, number, long) (two, also) =
      absurd (some-nothing (made_same files names (text ∷ []) [] rule lengths drop drops one two))
  one_order (MonitorMade count rule drop) (MonitorMade n lengths drops) files names (text, one, number, long) (given, two, is, also) =
      let mades = made_same files names (text ∷ []) (given ∷ []) rule lengths drop drops one two in
      let texts : text ≡ given = cc in
      let counts : count ≡ n = same-number given 1 1000000 count n (omega arith) (subst (λ t. IsNumber t 1 1000000 count) texts number) is in
      let rules = rules_same files names (text ∷ []) (given ∷ []) rule lengths drop drops one two in
      let dropped = drops_same files names (text ∷ []) (given ∷ []) rule lengths drop drops one two in
      (λ i. MonitorMade (counts i) (rules i) (dropped i), files_same files names (text ∷ []) (given ∷ []) rule lengths drop drops one two)

pub asks_once : (words files others : List Text) (question other : Question) → asks words question files → asks words other others
    → (question ≡ other) × (files ≡ others)
asks_once words files others question other (items, are, one) (more, also, two) =
    one_order items more (same_items rv_syntax refl words items more are also) question other files others one two
