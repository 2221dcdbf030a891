-- What was found in words asks a question, and one alone.
use Rattle.std.proofs.Common.{◌≡◌, ◌≤◌, ◌<◌, ◌^◌, ℕ, Bool, true, false, true≢false, List, [], ◌∷◌, length, map, codes, Option, Some, None, IfSome, IfNone, Bor, slice_index_or, refl, sym, ap, subst, ◌∙◌, arith}
use Rattle.mc_core.specs.declared.ask.Ask.{Ask}
use Rattle.hy_files.specs.ErrorLines.{name_of_file}
use Rattle.hy_words.specs.Found.{Tells, found_files, found_flag, found_value, listed_slice}
use Rattle.hy_words.specs.Numbers.{AreConflicts, IsNumberOr}
use Rattle.hy_words.specs.Words.{AreItems, GiveSame, HasNoItems, Item, Text, files_in, given_in}
use Rattle.hy_words.specs.declared.found.Found.{Found}
use Rattle.hy_words.proofs.Numbers.{same-number-or}
use Rattle.hy_run.specs.Names.{names_in}
use Rattle.hy_run.specs.declared.order.Order.{Order}
use Rattle.mc_tool.specs.Words.{AreCalls, Asks, Checks, IsAsk, IsDepth, Orders, mc_syntax, usual_depth}
use Rattle.mc_tool.specs.declared.verdict.Question.{Question}
use Rattle.mc_tool.specs.declared.verdict.Question.TheVariants.{Check, CheckByStrategy}

-- ---- what items ask

-- the question that a check is, by the strategy, if any
abbrev pub asked : List Text → Ask → Bool → Question
asked [] ask proof = Check ask proof
asked (strategy ∷ _) ask proof = CheckByStrategy ask

pub record IsChecking (items : List Item) (question : Question) (files : List Text) : Type 0 where
  pub circuit : Text
  pub formula : Text
  pub strategy : List Text
  pub ask : Ask
  pub proof : Bool
  pub checks : Checks items circuit formula strategy ask proof
  pub question_is : question ≡ asked strategy ask proof
  pub files_are : files ≡ circuit ∷ formula ∷ strategy
  pub bare : (name : Text) → strategy ≡ name ∷ [] → proof ≡ false

pub checking_of : (items : List Item) (question : Question) (files : List Text) → Orders items question files → IsChecking items question files
checking_of items (Check ask proof) (circuit ∷ formula ∷ []) checks = record {
  circuit = circuit;
  formula = formula;
  strategy = [];
  ask = ask;
  proof = proof;
  checks = checks;
  question_is = refl;
  files_are = refl;
  bare = λ name e. cc;
}
checking_of items (CheckByStrategy ask) (circuit ∷ formula ∷ strategy ∷ []) checks = record {
  circuit = circuit;
  formula = formula;
  strategy = strategy ∷ [];
  ask = ask;
  proof = false;
  checks = checks;
  question_is = refl;
  files_are = refl;
  bare = λ name e. refl;
}
checking_of items _ _ none = absurd none

-- A check has two files, and a strategy where it is asked for.
pub two_named : (items : List Item) (question : Question) (files : List Text) → Orders items question files → length (files_in items) ≡ 2
two_named items question files orders = ap length (checking_of items question files orders).checks.files

-- ---- what was found

pub two_files : (files : List (Bor Text)) (d : Bor Text) → 2 ≤ length files → length files < 3
    → map (λ name. name.now) files ≡ (slice_index_or files 0 d).now ∷ (slice_index_or files 1 d).now ∷ []
two_files [] d some few = absurd (omega arith)
two_files (a ∷ []) d some few = absurd (omega arith)
two_files (a ∷ b ∷ []) d some few = refl
two_files (a ∷ b ∷ c ∷ files) d some few = absurd (omega arith)

module _ (items : List Item) (f : Found) (tells : Tells mc_syntax items f) where
  abbrev Gives : Text → Option (Bor Text) → Type 0
  Gives name value = listed_slice value ≡ found_value f name

  seeks_of : (calls : Option (Bor Text)) → Gives (codes "ic3") calls → (n : ℕ) → AreCalls (given_in (codes "ic3") items) n → AreCalls (listed_slice calls) n
  seeks_of calls at n is = let P : List Text → Type 0 = λ vs. AreCalls vs n in subst P (tells.options.1.1.0 ∙ sym at) is

  deep_of : (depth : Option (Bor Text)) → Gives (codes "depth") depth → (k n : ℕ) → IsDepth k (given_in (codes "depth") items) n → IsDepth k (listed_slice depth) n
  deep_of depth at k n is = let P : List Text → Type 0 = λ vs. IsDepth k vs n in subst P (tells.options.0 ∙ sym at) is

  module _ (calls : Option (Bor Text)) (at_calls : Gives (codes "ic3") calls) where
    -- What was found says how much is to be tried.
    pub tries_of : (k : ℕ) → AreCalls (listed_slice calls) k → (depth : Option (Bor Text)) → Gives (codes "depth") depth → (usual : ℕ) → usual ≡ usual_depth k
        → (d : ℕ) → IsNumberOr usual (listed_slice depth) 0 100000 d → (conflicts : Option (Bor Text)) → Gives (codes "conflicts") conflicts
        → (n : ℕ) → AreConflicts (listed_slice conflicts) n → (plain : Bool) → plain ≡ found_flag f (codes "plain") → (plain ≡ true → k ≡ 0)
        → IsAsk items (record { depth = d; conflicts = n; plain = plain; calls = k })
    tries_of k seeks depth at_depth usual is d deep conflicts at_conflicts n budget plain bare apart =
        let (depths, (budgets, (searches, rest))) = tells.options in
        let P : List Text → Type 0 = λ vs. IsDepth k vs d in
        let Q : List Text → Type 0 = λ vs. AreConflicts vs n in
        let R : List Text → Type 0 = λ vs. AreCalls vs k in
        let U : ℕ → Type 0 = λ u. IsNumberOr u (listed_slice depth) 0 100000 d in
        record {
          seeks = subst R (at_calls ∙ sym searches) seeks;
          deep = subst P (at_depth ∙ sym depths) (subst U is deep);
          budget = subst Q (at_conflicts ∙ sym budgets) budget;
          bare = bare ∙ sym tells.flags.0;
          apart = apart;
        }

    pub no_calls : ((n : ℕ) → ¬ AreCalls (listed_slice calls) n) → (ask : Ask) → ¬ IsAsk items ask
    no_calls none ask is = none ask.calls (seeks_of calls at_calls ask.calls is.seeks)

    same_calls : (k : ℕ) → AreCalls (listed_slice calls) k → (ask : Ask) → IsAsk items ask → ask.calls ≡ k
    same_calls k seeks ask is =
        same-number-or 0 (listed_slice calls) 1 1000000 ask.calls k (omega arith) (seeks_of calls at_calls ask.calls is.seeks) seeks

    pub no_depth : (k : ℕ) → AreCalls (listed_slice calls) k → (depth : Option (Bor Text)) → Gives (codes "depth") depth → (usual : ℕ)
        → usual ≡ usual_depth k → ((n : ℕ) → ¬ IsNumberOr usual (listed_slice depth) 0 100000 n) → (ask : Ask) → ¬ IsAsk items ask
    no_depth k seeks depth at usual same none ask is =
        let P : ℕ → Type 0 = λ u. IsNumberOr u (listed_slice depth) 0 100000 ask.depth in
        none ask.depth (subst P (ap usual_depth (same_calls k seeks ask is) ∙ sym same) (deep_of depth at ask.calls ask.depth is.deep))

    pub not_apart : (k : ℕ) → AreCalls (listed_slice calls) k → (plain : Bool) → plain ≡ found_flag f (codes "plain") → plain ≡ true → 0 < k
        → (ask : Ask) → ¬ IsAsk items ask
    not_apart k seeks plain bare set some ask is =
        let none = is.apart (is.bare ∙ tells.flags.0 ∙ sym bare ∙ set) in
        let same = same_calls k seeks ask is in
        omega (arith, none, same, some)

  pub no_conflicts : (conflicts : Option (Bor Text)) → Gives (codes "conflicts") conflicts → ((n : ℕ) → ¬ AreConflicts (listed_slice conflicts) n)
      → (ask : Ask) → ¬ IsAsk items ask
  no_conflicts conflicts at none ask is =
      let P : List Text → Type 0 = λ vs. AreConflicts vs ask.conflicts in
      none ask.conflicts (subst P (tells.options.1.0 ∙ sym at) is.budget)

  module _ (strategy : Option (Bor Text)) (at_strategy : Gives (codes "strategy") strategy) (proof : Bool) (proves : proof ≡ found_flag f (codes "proof")) where
    -- What was found asks for a check.
    pub checks_of : (circuit formula : Text) → found_files f ≡ circuit ∷ formula ∷ [] → (by : List Text) → listed_slice strategy ≡ by → (shown : Bool)
        → proof ≡ shown → (ask : Ask) → IsAsk items ask → Checks items circuit formula by ask shown
    checks_of circuit formula files by given shown shows ask is = record {
      files = tells.files ∙ files;
      by = tells.options.1.1.1.0 ∙ sym at_strategy ∙ given;
      tries = is;
      proves = sym shows ∙ proves ∙ sym tells.flags.1.0;
    }

    -- A strategy is asked for with no proof.
    pub not_both : (name : Bor Text) → strategy ≡ Some name → proof ≡ true → (question : Question) (files : List Text) → ¬ Orders items question files
    not_both name given set question files orders =
        let x = checking_of items question files orders in
        let by : x.strategy ≡ name.now ∷ [] = sym x.checks.by ∙ tells.options.1.1.1.0 ∙ sym at_strategy ∙ ap listed_slice given in
        true≢false (sym set ∙ proves ∙ sym tells.flags.1.0 ∙ sym x.checks.proves ∙ x.bare name.now by)

  pub no_ask : ((items : List Item) (ask : Ask) → Tells mc_syntax items f → ¬ IsAsk items ask) → (question : Question) (files : List Text)
      → ¬ Orders items question files
  no_ask none question files orders = let x = checking_of items question files orders in none items x.ask tells x.checks.tries

-- What was found in words that are items asks what these ask.
module _ (words : List Text) (f : Found) (told : (items : List Item) → AreItems mc_syntax words items → Tells mc_syntax items f) where
  pub asks_found : (found : Option (Order Question)) → (items : List Item) × AreItems mc_syntax words items
      → IfSome found (λ order. (items : List Item) → Tells mc_syntax items f → Orders items order.question (names_in order.files))
      → IfSome found (λ order. Asks words order.question (names_in order.files))
  asks_found None these some = tt
  asks_found (Some order) (items, are) some = (items, are, some items (told items are))

  unasked : ((items : List Item) (question : Question) (names : List Text) → Tells mc_syntax items f → ¬ Orders items question names)
      → (question : Question) (files : List Text) → ¬ Asks words question files
  unasked none question files (items, are, orders) = none items question files (told items are) orders

  pub asks_nothing : (found : Option (Order Question))
      → IfNone found ((items : List Item) (question : Question) (names : List Text) → Tells mc_syntax items f → ¬ Orders items question names)
      → IfNone found ((question : Question) (files : List Text) → ¬ Asks words question files)
  asks_nothing None none = unasked none
  asks_nothing (Some order) none = tt

pub unworded : (words : List Text) → HasNoItems mc_syntax words → (question : Question) (files : List Text) → ¬ Asks words question files
unworded words none question files (items, are, orders) = none items are

-- ---- one question

pub asks_once : ((words : List Text) (items others : List Item) → AreItems mc_syntax words items → AreItems mc_syntax words others → GiveSame mc_syntax items others)
    → (words files others : List Text) (question other : Question) → Asks words question files → Asks words other others → (question ≡ other) × (files ≡ others)
asks_once once words files others question other (items, are, one) (more, also, two) =
    let given = once words items more are also in
    let x = checking_of items question files one in
    let y = checking_of more other others two in
    let (depths, (budgets, (searches, (strategies, nil)))) = given.options in
    let (plains, (proofs, none)) = given.flags in
    let pair : x.circuit ∷ x.formula ∷ [] ≡ y.circuit ∷ y.formula ∷ [] = sym x.checks.files ∙ given.files ∙ y.checks.files in
    let circuit : x.circuit ≡ y.circuit = cc in
    let formula : x.formula ≡ y.formula = cc in
    let strategy : x.strategy ≡ y.strategy = sym x.checks.by ∙ strategies ∙ y.checks.by in
    let calls : x.ask.calls ≡ y.ask.calls = same-number-or 0 (given_in (codes "ic3") more) 1 1000000 x.ask.calls y.ask.calls (omega arith)
    (subst (λ vs. IsNumberOr 0 vs 1 1000000 x.ask.calls) searches x.checks.tries.seeks) y.checks.tries.seeks in
    let deep = subst (λ k. IsDepth k (given_in (codes "depth") items) x.ask.depth) calls x.checks.tries.deep in
    let depth : x.ask.depth ≡ y.ask.depth = same-number-or (usual_depth y.ask.calls) (given_in (codes "depth") more) 0 100000 x.ask.depth y.ask.depth (omega arith)
    (subst (λ vs. IsDepth y.ask.calls vs x.ask.depth) depths deep) y.checks.tries.deep in
    let conflicts : x.ask.conflicts ≡ y.ask.conflicts = same-number-or 100000 (given_in (codes "conflicts") more) 0 1000000000 x.ask.conflicts y.ask.conflicts (omega arith)
    (subst (λ vs. AreConflicts vs x.ask.conflicts) budgets x.checks.tries.budget) y.checks.tries.budget in
    let plain : x.ask.plain ≡ y.ask.plain = x.checks.tries.bare ∙ plains ∙ sym y.checks.tries.bare in
    let proof : x.proof ≡ y.proof = x.checks.proves ∙ proofs ∙ sym y.checks.proves in
    let asks : x.ask ≡ y.ask = λ i. record { depth = depth i; conflicts = conflicts i; plain = plain i; calls = calls i } in (
      x.question_is ∙ (λ i. asked (strategy i) (asks i) (proof i)) ∙ sym y.question_is,
      x.files_are ∙ (λ i. circuit i ∷ formula i ∷ strategy i) ∙ sym y.files_are,
    )

-- ---- what a question that was asked has

-- the files behind the first two
abbrev pub others_of : Question → List Text → List Text
others_of (Check ask proof) files = []
others_of (CheckByStrategy ask) files = name_of_file files 2 ∷ []

pub files_of : (words : List Text) (question : Question) (files : List Text) → Asks words question files
    → files ≡ name_of_file files 0 ∷ name_of_file files 1 ∷ others_of question files
files_of words (Check ask proof) (circuit ∷ formula ∷ []) (items, are, checks) = refl
files_of words (CheckByStrategy ask) (circuit ∷ formula ∷ strategy ∷ []) (items, are, checks) = refl
files_of words _ _ (items, are, none) = absurd none

pub files_named : (words : List Text) (question : Question) (files : List Text) → Asks words question files → (one two : Text)
    → one ≡ name_of_file files 0 → two ≡ name_of_file files 1 → files ≡ one ∷ two ∷ others_of question files
files_named words question files asks one two first second =
    files_of words question files asks ∙ (λ i. sym first i ∷ sym second i ∷ others_of question files)

abbrev pub ask_of : Question → Ask
ask_of (Check ask proof) = ask
ask_of (CheckByStrategy ask) = ask

few : (given : List Text) (n : ℕ) → AreConflicts given n → n < 2 ^ 31
few [] n is = omega (arith, is)
few (v ∷ vs) n (text, from, to) = omega (arith, to)

pub few_conflicts : (words : List Text) (question : Question) (files : List Text) → Asks words question files → (ask_of question).conflicts < 2 ^ 31
few_conflicts words (Check ask proof) (circuit ∷ formula ∷ []) (items, are, checks) = few (given_in (codes "conflicts") items) ask.conflicts checks.tries.budget
few_conflicts words (CheckByStrategy ask) (circuit ∷ formula ∷ strategy ∷ []) (items, are, checks) =
    few (given_in (codes "conflicts") items) ask.conflicts checks.tries.budget
few_conflicts words _ _ (items, are, none) = absurd none
