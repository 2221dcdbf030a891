-- The lassos of the copies for which a path stands, and what their visible traces say.
use Rattle.std.proofs.Common.{◌≡◌, ℕ, ◌-◌, ◌/◌, ◌<◌, Bool, List, length, get_or, IsTrue, inl, inr, sym, ap, ◌∙◌, subst, arith}
use Rattle.std.proofs.Math.Path.{fun_ext}
use Rattle.std.proofs.lemmas.Bool.{cases_eq, cases_lt}
use Rattle.hy_bits.specs.Letter.{Letter}
use Rattle.hy_formula.specs.Trees.{Tree, vars_below}
use Rattle.hy_formula.specs.Normals.{Signed}
use Rattle.hy_formula.specs.Lassos as letters
use Rattle.hy_lasso.specs.Words as words
use Rattle.hy_lasso.specs.Words.{lasso_words, no_lasso}
use Rattle.aig_net.specs.declared.run.Run.{Run}
use Rattle.aig_net.specs.declared.run.ValueLasso.{ValueLasso}
use Rattle.aig_net.specs.declared.signals.Signal.{Signal}
use Rattle.aig_net.specs.Nets.{Net, IsNet, Valuation, variables}
use Rattle.aig_net.specs.Executions.{Word, Lasso, IsLassoExecution, gone, lasso_of}
use Rattle.aig_net.specs.Signals.{visible}
use Rattle.aig_net.specs.Simulations.{IsExecutionOf, valuations}
use Rattle.aig_net.proofs.LassoRuns.{run-execution}
use Rattle.aig_net.proofs.Literals.{value-same}
use Rattle.aig_net.proofs.Rounds.{length-part}
use Rattle.self_compose.specs.Copies.{compose, copy, place}
use Rattle.sym_tableau.specs.Oracles.{moved, signal_in}
use Rattle.live_safe.specs.Paths.{IsBadPath}
use Rattle.live_safe.specs.Safe.{shown_word, to_safe}
use Rattle.live_safe.proofs.Unfolding.{unfolding-path}
use Rattle.wit_lasso.specs.FormulaNets.{AreOwn, Tableau, formula_net, formula_safe, formula_tableau, tableau_net}
use Rattle.wit_lasso.specs.Seeing.{IsTraceOf}
use Rattle.wit_lasso.specs.Unfoldings.{AreUnfolded, Saves, copy_lasso, copy_word, run_at}
use Rattle.wit_lasso.proofs.Bodies.{signed-same}
use Rattle.wit_lasso.proofs.Checking.{old, own-execution, seen-own, lasso-says}
use Rattle.wit_lasso.proofs.CopySignals.{own-below}
use Rattle.wit_lasso.proofs.Steps.{lasso-same, near}

-- one step alone saves
pub saves-once : (net : Net) (k : ℕ) (word : Word) (a b : ℕ) → Saves net k word a →
    Saves net k word b → a ≡ b
saves-once net k word a b one two =
    elim (cases_eq a b) [
      | inl e ↦ e
      | inr apart ↦ elim (cases_lt a b) [
        | inl lt ↦ absurd (let x = one.later b lt (let w = two.within in omega (arith, w)) in
            let y = two.before in cc)
        | inr le ↦ absurd (let x = two.later a (omega (arith, apart, le))
            (let w = one.within in omega (arith, w)) in let y = one.before in cc)
      ]
    ]

pub some-saves : (net : Net) (k : ℕ) (word : Word) → IsBadPath (to_safe net) k word →
    (save : ℕ) × Saves net k word save
    × IsLassoExecution net (lasso_of (shown_word net word) save (k - save))
some-saves net k word bad =
    let (save, lt, before, later, is) = unfolding-path net k word bad in
    (save, record { within = lt; before = before; later = later }, is)

-- the lasso, cut where a step saves
pub lasso-at : (net : Net) (k : ℕ) (word : Word) → IsBadPath (to_safe net) k word → (save : ℕ) →
    Saves net k word save → IsLassoExecution net (lasso_of (shown_word net word) save (k - save))
lasso-at net k word bad save saves =
    let (other, others, is) = some-saves net k word bad in
    let P : ℕ → Type 0 = λ x. IsLassoExecution net (lasso_of (shown_word net word) x (k - x)) in
    subst P (saves-once net k word other save others saves) is

module _ (net : Net) (good : IsNet net) (n : ℕ) (some : 0 < n) (t : Tableau) (k : ℕ) (word : Word)
    (save : ℕ) (lt : save < k)
    (is : IsLassoExecution (tableau_net net n t)
    (lasso_of (shown_word (tableau_net net n t) word) save (k - save))) where
  abbrev pub there : Lasso
  there = lasso_of (shown_word (tableau_net net n t) word) save (k - save)

  -- the lasso of a copy, by the lasso of all and by the path
  pub copy-same : (c : ℕ) →
      lasso_of (copy n c (old net good n some t there is)) (length there.stem)
      (length there.cycle) ≡ copy_lasso net n t word k save c
  copy-same c =
      let w : Word = copy n c (old net good n some t there is) in
      let w' : Word = shown_word (tableau_net net n t) word in
      let a : length there.stem ≡ save = length-part w' 0 save in
      let b : length there.cycle ≡ k - save = length-part w' save (k - save) in
      ap (λ x. lasso_of w x (length there.cycle)) a ∙ ap (λ y. lasso_of w save y) b
      ∙ lasso-same w (copy_word net n t word c) save (k - save)
      (λ i lt. fun_ext (λ v. ap (λ (f : Valuation). f (moved (compose net n) t.nodes (place n c v)))
      (near w' save (k - save) i lt)))

  pub copy-is : (c : ℕ) → c < n → IsLassoExecution net (copy_lasso net n t word k save c)
  copy-is c few =
      let P : Lasso → Type 0 = IsLassoExecution net in
      subst P (copy-same c) (own-execution net good n some t there is c few)

-- ---- what the traces of the runs say

abbrev pub OneExecution : Type 0
OneExecution = (net : Net) (run : Run) (a b : ValueLasso) → IsNet net →
    IsExecutionOf net run a → IsExecutionOf net run b → a ≡ b

-- what is seen of lassos that agree on the variables of the net
pub seen-same : (net : Net) (signals : List Signal) → AreOwn net signals → (a b : Lasso) →
    ((i u : ℕ) → u < variables net → gone a i u ≡ gone b i u) → (name i : ℕ) →
    visible signals (gone a) name i ≡ visible signals (gone b) name i
seen-same net signals are a b same name i =
    value-same (gone a i) (gone b i) (signal_in signals name 0)
    (same i (signal_in signals name 0 / 2) (own-below net signals are name))

pub traces-say : OneExecution → (net : Net) (signals : List Signal) (n : ℕ) (body : Tree)
    (positive : Bool) → IsNet net → AreOwn net signals → 0 < n → IsTrue (vars_below n body) →
    (k : ℕ) (word : Word) (runs : List Run) (traces : List (letters.Lasso Letter)) →
    IsBadPath (formula_safe net signals n body positive) k word →
    AreUnfolded net n (formula_tableau signals n body positive) k word runs →
    ((c : ℕ) → c < n → IsTraceOf net signals (run_at runs c) (get_or traces c no_lasso)) →
    Signed positive (words.Meets body traces)
traces-say only net signals n body positive good are some small k word runs traces bad unf each =
    signed-same positive n some (λ a v i. visible signals (copy n v word') a i)
    (lasso_words traces) agree body small
    (lasso-says net good signals are n some body small positive there' is)
  where
    t : Tableau
    t = formula_tableau signals n body positive

    save : ℕ
    save = unf.save

    is : IsLassoExecution (formula_net net signals n body positive)
        (lasso_of (shown_word (formula_net net signals n body positive) word) save (k - save))
    is = lasso-at (formula_net net signals n body positive) k word bad save unf.saves

    there' : Lasso
    there' = there net good n some t k word save unf.saves.within is

    word' : Word
    word' = old net good n some t there' is

    agree : (a v i : ℕ) → v < n →
        visible signals (copy n v word') a i ≡ lasso_words traces a v i
    agree a v i lt =
        let e = each v lt in
        let own = copy_lasso net n t word k save v in
        let (values, of, same) = run-execution net own (run_at runs v) good
        (unf.executions v lt) (unf.runs_are v lt) in
        let one : values ≡ e.values = only net (run_at runs v) values e.values good of e.execution in
        sym (seen-own net good signals are n some body small positive there' is a v i)
        ∙ ap (λ l. visible signals (gone l) a i) (copy-same net good n some t k word save
        unf.saves.within is v)
        ∙ sym (seen-same net signals are (valuations values) own same a i)
        ∙ ap (λ (x : ValueLasso). visible signals (gone (valuations x)) a i) one
        ∙ sym (e.shows i a)
