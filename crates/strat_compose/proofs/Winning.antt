-- A strategy wins where each lasso execution of the driven net satisfies the driven formula.
use Rattle.std.proofs.Common.{◌≡◌, ℕ, suc, ◌+◌, ◌-◌, ◌*◌, ◌/◌, ◌%◌, ◌<◌, ◌≤◌, Bool, true, List, length, inl, inr, sym, ap, ◌∙◌, subst, arith}
use Rattle.std.proofs.Math.Nat.{mod-add-div', mod-lt, mul-le-mul_left}
use Rattle.std.proofs.lemmas.Bool.{cases_lt}
use Rattle.std.proofs.lemmas.Nat.{div-mul-add, mod-mul-add, mul-add-lt}
use Rattle.hy_base.proofs.Truths.{cond-above, cond-below}
use Rattle.hy_formula.specs.Trees.{Tree, vars_below}
use Rattle.hy_formula.specs.Temporal.{IsDecided, SatisfiesAt, Words, endless}
use Rattle.hy_formula.proofs.Repeating.{decided-repeating}
use Rattle.aig_net.specs.Nets.{Below, IsNet, Net, ResetTo, latch_variable, literal_at, literal_value, reset_at, variables}
use Rattle.aig_net.specs.Executions.{IsExecution, IsLassoExecution, Lasso, Recurs, Word, gone, lasso_of}
use Rattle.aig_net.proofs.Closings.{gone-execution, recurring-execution}
use Rattle.hy_base.proofs.Listed.{at-listed}
use Rattle.aig_net.proofs.Literals.{value-even, value-same}
use Rattle.aig_net.proofs.Periods.{common}
use Rattle.aig_net.proofs.Rounds.{gone-recurs, recurring}
use Rattle.aig_net.specs.Running.{IsRunOn}
use Rattle.aig_net.proofs.Running.{one-run, some-run}
use Rattle.strat_compose.specs.declared.group.Group.{Group}
use Rattle.strat_compose.specs.declared.parts.Parts.{Parts}
use Rattle.hy_formula.specs.Atoms.{IndexedAtom, atoms_of}
use Rattle.strat_compose.specs.Completions.{AreRight, Goes, IsCompletion, Wins, shown_words}
use Rattle.strat_compose.specs.Driving.{IsStrategy, driven, driven_outputs, parts_of, settled_net}
use Rattle.strat_compose.specs.Formulas.{driven_body, output_words}
use Rattle.strat_compose.specs.Groups.{part, placed}
use Rattle.strat_compose.proofs.AtomBounds.{atoms-below}
use Rattle.strat_compose.proofs.Completing.{completes, executions, universal-goes}
use Rattle.strat_compose.proofs.Demands.{driven-right}
use Rattle.strat_compose.proofs.Fitting.{driven-net, many-driven_latches}
use Rattle.strat_compose.proofs.Placing.{placed-input, placed-latch}
use Rattle.strat_compose.proofs.Agreeing.{Agree, execution-agrees, literal-agrees, obeys, right-agrees, set-agree, settled-good, settled-starts}
use Rattle.strat_compose.proofs.Beginning.{begins, latches}
use Rattle.strat_compose.proofs.Bodies.{body-same}

-- a place of the inputs of m copies, by its row and column
row-of : (k i m : ℕ) → k < i * m → (j : ℕ) × (c : ℕ) × (j < i) × (c < m) × (k ≡ j * m + c)
row-of k i m lt =
    let some : 0 < m = at m lt in
    let whole : k % m + k / m * m ≡ k = mod-add-div' k m in
    let column : k % m < m = mod-lt k some in
    (k / m, k % m, row some whole, column, omega (arith, whole))
  where
    at : (m : ℕ) → k < i * m → 0 < m
    at m lt = elim (cases_lt 0 m) [
      | inl some ↦ some
      | inr none ↦ let zero_m : m ≡ 0 = omega arith in
          let nothing : i * m ≡ 0 = ap (λ x. i * x) zero_m ∙ omega arith in
          absurd (omega (arith, nothing, lt))
    ]

    row : 0 < m → k % m + k / m * m ≡ k → k / m < i
    row some whole = elim (cases_lt (k / m) i) [
      | inl small ↦ small
      | inr large ↦ let more = mul-le-mul_left m large in
          absurd (omega (arith, more, whole, lt))
    ]

-- what m words have together: variable j + 1 of word c at place j * m + c
abbrev together : ℕ → (ℕ → Word) → ℕ → ℕ → Bool
together m words i k = words (k % m) i (suc (k / m))

together-is : (m : ℕ) (words : ℕ → Word) (c j i : ℕ) → c < m →
    together m words i (j * m + c) ≡ words c i (suc j)
together-is m words c j i few =
    ap (λ x. words x i (suc ((j * m + c) / m))) (mod-mul-add j m c few)
    ∙ ap (λ x. words c i (suc x)) (div-mul-add j m c few)

module _ (net strategy : Net) (m e : ℕ) (signal : ℕ → ℕ) (body : Tree) (good : IsNet net)
    (fine : IsNet strategy) (shape : IsStrategy net strategy m e) (some : 0 < m)
    (named : (n : ℕ) → Below (variables net) (signal n))
    (bound : vars_below (m + e) body ≡ true) where
  abbrev parts : Parts
  parts = parts_of net strategy m e

  abbrev all : Net
  all = driven net strategy parts signal (atoms_of body)

  all-good : IsNet all
  all-good =
      driven-net net strategy m e good fine signal (atoms_of body) named
      (atoms-below (m + e) body _ bound (λ k lt. absurd (omega arith)))

  abbrev words : Word → Words
  words word = output_words net strategy parts signal (atoms_of body) word

  abbrev above : ℕ → Word → Word
  above c word = part net parts.universal c word

  abbrev below : ℕ → Word → Word
  below d word = part net parts.existential d word

  abbrev player_part : Word → Word
  player_part word = part strategy parts.player 0 word

  abbrev Holds : Type 0
  Holds = (lasso : Lasso) → IsLassoExecution all lasso →
      SatisfiesAt endless (words (gone lasso)) (driven_body net e body) 0

  -- ---- where an execution recurs, the formula says what it is to say

  says : Holds → (word : Word) (s p : ℕ) → Recurs word s p → IsExecution all word →
      AreRight net e (λ d. below d word) × SatisfiesAt endless
      (shown_words signal m (λ c. above c word) (λ d. below d word)) body 0
  says holds word s p recurs is =
      let same : gone (lasso_of word s p) ≡ word = λ x. λ i v. recurring word s p recurs i v x in
      let Q : Word → Type 0 = λ w. SatisfiesAt endless (words w) (driven_body net e body) 0 in
      let true_here : Q word = subst Q same
      (holds (lasso_of word s p) (recurring-execution all word s p recurs is)) in
      let decided = decided-repeating s p (words word) (record {
        some = recurs.some;
        same = λ name variable i le.
            value-same (word (i + p)) (word i)
            (literal_at (driven_outputs net strategy parts signal (atoms_of body)) name)
            (recurs.same i _ le);
      }) in
      (driven-right net strategy m e signal body word is.run.right decided).0 true_here

  -- ---- the driven word on the inputs of given words

  module _ (u : ℕ → Word) (are : (c : ℕ) → c < m → IsExecution net (u c)) where
    abbrev inputs : ℕ → ℕ → Bool
    inputs = together m u

    abbrev given : ℕ → Bool
    given k = together m u 0 (net.inputs * m + k)

    abbrev firsts : ℕ → Bool
    firsts = latches net strategy m e good shape given

    given-is : (c j : ℕ) → c < m → given (j * m + c) ≡ u c 0 (latch_variable net j)
    given-is c j few =
        let at : net.inputs * m + (j * m + c) ≡ (net.inputs + j) * m + c = omega arith in
        ap (together m u 0) at ∙ together-is m u c (net.inputs + j) 0 few

    module _ (word : Word) (run : IsRunOn all inputs firsts word) where
      word-goes : Goes all word
      word-goes = record {
        starts = λ k lt.
            let long : length all.resets ≡ length all.latches = all-good.resets in
            let P : Bool → Type 0 = ResetTo (reset_at all.resets k) in
            subst P (sym (run.first k lt)) (begins net strategy m e good shape given
            (λ c j few row. let Q : Bool → Type 0 = ResetTo (reset_at net.resets j) in
            subst Q (sym (given-is c j few)) ((are c few).run.starts j row)) k
            (omega (arith, lt, long)));
        right = run.obeys.right;
        goes = run.obeys.goes;
      }

      above-agrees : (c : ℕ) → c < m → Agree net (above c word) (u c)
      above-agrees c few =
          let goes = universal-goes net strategy m e signal (atoms_of body) good fine word
          word-goes c few in
          one-run net (above c word) (u c) good (obeys net (above c word) goes)
          (record { right = (are c few).run.right; goes = (are c few).run.goes }) (record {
            inputs = λ i j row.
                let low = mul-add-lt j m c net.inputs row few in
                let plain : 0 + (j * m + c) ≡ j * m + c = omega arith in
                ap (literal_value (word i)) (placed-input net parts.universal c j row
                ∙ at-listed 0 (net.inputs * m) (λ k. 2 * suc k) 0 (j * m + c)
                (omega (arith, low)) ∙ ap (λ k. 2 * suc k) plain)
                ∙ value-even (word i) (suc (j * m + c))
                ∙ run.given i (j * m + c) (omega (arith, low)) ∙ together-is m u c j i few;
            first = λ j row.
                let low = mul-add-lt j m c (length net.latches) row few in
                let at : suc (net.inputs * m) + (j * m + c) ≡ latch_variable all (j * m + c) =
                omega arith in
                let long = many-driven_latches net strategy m e in
                ap (literal_value (word 0)) (placed-latch net parts.universal c j row)
                ∙ value-even (word 0) (suc (net.inputs * m) + (j * m + c)) ∙ ap (word 0) at
                ∙ run.first (j * m + c) (omega (arith, low, long))
                ∙ cond-below (j * m + c) (length net.latches * m) _ _ (omega (arith, low))
                ∙ given-is c j few;
          })

      word-execution : IsExecution all word
      word-execution =
          (executions net strategy m e signal (atoms_of body) good fine word word-goes).1
          (λ c few. execution-agrees net (u c) (above c word)
          (λ i k lt. sym (above-agrees c few i k lt)) good
          (universal-goes net strategy m e signal (atoms_of body) good fine word word-goes c few)
          (are c few))

      -- ---- the completion is the one that the driven word has

      module _ (play : Word) (made : ℕ → Word)
          (completion : IsCompletion net strategy m e u play made) where
        own-completion : IsCompletion net strategy m e (λ c. above c word) (player_part word)
            (λ d. below d word)
        own-completion =
            completes net strategy m e signal (atoms_of body) good fine word word-goes shape

        player-agrees : Agree strategy (player_part word) play
        player-agrees =
            set-agree strategy (player_part word) play fine shape.starts own-completion.plays
            completion.plays
            (λ i k lt.
            let (j, c, row, few, at) = row-of k net.inputs m (omega (arith, lt, shape.inputs)) in
            let inside : suc j < variables net = omega (arith, row) in
            ap (λ x. player_part word i (suc x)) at ∙ own-completion.reads c j i few row
            ∙ above-agrees c few i (suc j) inside ∙ sym (completion.reads c j i few row)
            ∙ ap (λ x. play i (suc x)) (sym at))

        below-agrees : (d : ℕ) → d < e → Agree net (below d word) (made d)
        below-agrees d few =
            set-agree (settled_net net) (below d word) (made d) (settled-good net good)
            (settled-starts net) (own-completion.copies d few) (completion.copies d few)
            (λ i j row.
            let low = mul-add-lt j e d net.inputs row few in
            own-completion.driven d j i few row
            ∙ literal-agrees strategy (player_part word) play player-agrees i
            (literal_at strategy.outputs (j * e + d))
            (fine.outputs (j * e + d) (omega (arith, low, shape.outputs)))
            ∙ sym (completion.driven d j i few row))

        -- what the tuple shows is the same
        tuple-agrees : (name v i : ℕ) → v < m + e →
            shown_words signal m (λ c. above c word) (λ d. below d word) name v i
            ≡ shown_words signal m u made name v i
        tuple-agrees name v i lt =
            let says_so : Word → Bool = λ w. literal_value (w i) (signal name) in
            elim (cases_lt v m) [
              | inl small ↦
                  ap says_so (cond-below v m (above v word) (below (v - m) word) small)
                  ∙ literal-agrees net (above v word) (u v) (above-agrees v small) i (signal name)
                  (named name) ∙ sym (ap says_so (cond-below v m (u v) (made (v - m)) small))
              | inr large ↦
                  ap says_so (cond-above v m (above v word) (below (v - m) word) large)
                  ∙ literal-agrees net (below (v - m) word) (made (v - m))
                  (below-agrees (v - m) (omega arith)) i (signal name) (named name)
                  ∙ sym (ap says_so (cond-above v m (u v) (made (v - m)) large))
            ]

        transferred : AreRight net e (λ d. below d word) × SatisfiesAt endless
            (shown_words signal m (λ c. above c word) (λ d. below d word)) body 0 →
            AreRight net e made × SatisfiesAt endless (shown_words signal m u made) body 0
        transferred (right, own) = (
          right-agrees net good e (λ d. below d word) made below-agrees right,
          body-same (m + e) (omega arith)
              (shown_words signal m (λ c. above c word) (λ d. below d word))
              (shown_words signal m u made) tuple-agrees body bound 0 own,
        )

  -- `one_run` of aig_net
  abbrev RunsRecur : Type 0
  RunsRecur = (net : Net) (inputs : ℕ → ℕ → Bool) (latches : ℕ → Bool) (word : Word) (s p : ℕ) →
      IsNet net → IsRunOn net inputs latches word → Recurs inputs s p →
      (t : ℕ) × (k : ℕ) × (s ≤ t) × Recurs word t (k * p)

  pub wins : RunsRecur → Holds → Wins net strategy m e signal body
  wins runs-recur holds lassos play made are completion =
      let u : ℕ → Word = λ c. gone (lassos c) in
      let fair : (c : ℕ) → c < m → IsExecution net (u c) =
      λ c few. gone-execution net (lassos c) (are c few) in
      let (s, p, long, recur) = common m u (λ c few. (
        length (lassos c).stem,
        length (lassos c).cycle,
        gone-recurs (lassos c)
            (are c few).some,
      )) in
      let (word, run) = some-run all (inputs u fair) (firsts u fair) all-good in
      let (t, k, _, recurs) = runs-recur all (inputs u fair) (firsts u fair) word s p all-good run
      (record {
        some = long;
        same = λ i v le. (recur (v % m) (mod-lt v some)).same i (suc (v / m)) le;
      }) in
      transferred u fair word run play made completion
      (says holds word t (k * p) recurs (word-execution u fair word run))

pub part-recurs : (net : Net) (group : Group) (c : ℕ) (lasso : Lasso) → 0 < length lasso.cycle →
    Recurs (part net group c (gone lasso)) (length lasso.stem) (length lasso.cycle)
part-recurs net group c lasso some =
    let round = gone-recurs lasso some in
    record {
      some = some;
      same = λ i v le.
          value-same (gone lasso (i + length lasso.cycle)) (gone lasso i)
          (placed net group c v) (round.same i _ le);
    }

decided-output : (net strategy : Net) (parts : Parts) (signal : ℕ → ℕ)
    (atoms : List IndexedAtom) (lasso : Lasso) → 0 < length lasso.cycle →
    IsDecided endless (output_words net strategy parts signal atoms (gone lasso))
decided-output net strategy parts signal atoms lasso some =
    let round = gone-recurs lasso some in
    decided-repeating (length lasso.stem) (length lasso.cycle)
    (output_words net strategy parts signal atoms (gone lasso)) (record {
      some = some;
      same = λ name variable i le.
          value-same (gone lasso (i + length lasso.cycle)) (gone lasso i)
          (literal_at (driven_outputs net strategy parts signal atoms) name) (round.same i _ le);
    })

pub fails : (net strategy : Net) (m e : ℕ) (signal : ℕ → ℕ) (body : Tree) (lasso : Lasso) →
    IsNet net → IsNet strategy → IsStrategy net strategy m e →
    IsLassoExecution (driven net strategy (parts_of net strategy m e) signal (atoms_of body))
    lasso →
    ¬ SatisfiesAt endless (output_words net strategy (parts_of net strategy m e) signal
    (atoms_of body) (gone lasso)) (driven_body net e body) 0 →
    ((c : ℕ) → c < m → IsExecution net
    (part net (parts_of net strategy m e).universal c (gone lasso)))
    × IsCompletion net strategy m e
    (λ c. part net (parts_of net strategy m e).universal c (gone lasso))
    (part strategy (parts_of net strategy m e).player 0 (gone lasso))
    (λ d. part net (parts_of net strategy m e).existential d (gone lasso))
    × (¬ (AreRight net e (λ d. part net (parts_of net strategy m e).existential d (gone lasso))
    × SatisfiesAt endless (shown_words signal m
    (λ c. part net (parts_of net strategy m e).universal c (gone lasso))
    (λ d. part net (parts_of net strategy m e).existential d (gone lasso))) body 0))
fails net strategy m e signal body lasso good fine shape is fails_here =
    let atoms : List IndexedAtom = atoms_of body in
    let parts : Parts = parts_of net strategy m e in
    let all : Net = driven net strategy parts signal atoms in
    let word : Word = gone lasso in
    let run = gone-execution all lasso is in
    let goes : Goes all word = record {
      starts = run.run.starts;
      right = run.run.right;
      goes = run.run.goes;
    } in
    let decided = decided-output net strategy parts signal atoms lasso is.some in (
      (executions net strategy m e signal atoms good fine word goes).0 run,
      completes net strategy m e signal atoms good fine word goes shape,
      λ both. fails_here
          ((driven-right net strategy m e signal body word run.run.right decided).1 both),
    )

-- Where the strategy wins, each lasso execution satisfies the formula.
pub satisfied : (net strategy : Net) (m e : ℕ) (signal : ℕ → ℕ) (body : Tree) → IsNet net →
    IsNet strategy → IsStrategy net strategy m e → Wins net strategy m e signal body →
    (lasso : Lasso) →
    IsLassoExecution (driven net strategy (parts_of net strategy m e) signal (atoms_of body))
    lasso → SatisfiesAt endless (output_words net strategy (parts_of net strategy m e) signal
    (atoms_of body) (gone lasso)) (driven_body net e body) 0
satisfied net strategy m e signal body good fine shape win lasso is =
    let atoms : List IndexedAtom = atoms_of body in
    let parts : Parts = parts_of net strategy m e in
    let all : Net = driven net strategy parts signal atoms in
    let word : Word = gone lasso in
    let s : ℕ = length lasso.stem in
    let p : ℕ = length lasso.cycle in
    let run = gone-execution all lasso is in
    let goes : Goes all word = record {
      starts = run.run.starts;
      right = run.run.right;
      goes = run.run.goes;
    } in
    let decided = decided-output net strategy parts signal atoms lasso is.some in
    let given : ℕ → Word = λ c. part net parts.universal c word in
    let made : ℕ → Word = λ d. part net parts.existential d word in
    let player : Word = part strategy parts.player 0 word in
    let each = (executions net strategy m e signal atoms good fine word goes).0 run in
    let again : (c : ℕ) → Recurs (given c) s p =
    λ c. part-recurs net parts.universal c lasso is.some in
    let lassos : ℕ → Lasso = λ c. lasso_of (given c) s p in
    let same : (λ (c : ℕ). gone (lassos c)) ≡ given =
    λ x. λ c i v. recurring (given c) s p (again c) i v x in
    let P : (ℕ → Word) → Type 0 = λ u. IsCompletion net strategy m e u player made in
    let Q : (ℕ → Word) → Type 0 =
    λ u. SatisfiesAt endless (shown_words signal m u made) body 0 in
    let (right, own) = win lassos player made
    (λ c few. recurring-execution net (given c) s p (again c) (each c few))
    (subst P (sym same) (completes net strategy m e signal atoms good fine word goes shape)) in
    (driven-right net strategy m e signal body word run.run.right decided).1
    (right, subst Q same own)
