-- The queries of a proof and their logs, place by place.
use Rattle.std.proofs.Common.{◌≡◌, ℕ, suc, ◌+◌, ◌-◌, ◌<◌, ◌≤◌, Bool, true, false, cond, List, [], ◌∷◌, ◌++◌, length, drop, refl, sym, ◌∙◌, ap, subst, arith, drop-cons, append_assoc, length-append, ltb-true, ltb-false, leb-true, leb-false, lt-ltb, le-leb, below_more}
use Rattle.std.specs.Prelude.{nat_lt, nat_le}
use Rattle.std.proofs.lemmas.Bool.{le-ltb, lt-leb}
use Rattle.std.proofs.lemmas.List.{drop_all, get_or_append_left, get_or-append-add}
use Rattle.chain_check.specs.declared.logs.Learned.{Learned}
use Rattle.chain_check.specs.Clauses.{Clause}
use Rattle.chain_check.specs.Logs.{IsRefutation}
use Rattle.live_safe.specs.declared.safe_net.SafeNet.{SafeNet}
use Rattle.cnf_frames.specs.declared.facts.Fact.{Fact}
use Rattle.cnf_frames.specs.declared.queries.Asked.{Asked}
use Rattle.cnf_frames.specs.declared.queries.Asked.TheVariants.{Base, Step, Keep}
use Rattle.cnf_frames.specs.Proofs.{IsRefuted, log_at}
use Rattle.cnf_frames.specs.Queries.{clauses_of, variables_of, groups}
use Rattle.cert_text.specs.Lines.{Line}
use Rattle.cert_text.specs.InductionLines.{SayLogs}
use Rattle.induction_judge.specs.Asking.{places, path_at, asked_at, AreRefuted}
use Rattle.induction_judge.specs.Keeps.{AreKeepsRefuted}
use Rattle.induction_judge.specs.Reading.{AreLines, AreLogs, IsLogAt}

-- ---- one place

keep-at : (facts : List Fact) (depth i : ℕ) → i < groups facts
    → asked_at facts depth i ≡ Keep facts i
keep-at facts depth i lt =
    let test : nat_lt i (groups facts) ≡ true = lt-ltb i (groups facts) lt in
    ap (λ b. cond b (Keep facts i)
    (cond (nat_le (i - groups facts) depth) (Base (i - groups facts)) (Step facts depth))) test

base-at : (facts : List Fact) (depth i : ℕ) → i ≤ depth
    → asked_at facts depth (groups facts + i) ≡ Base i
base-at facts depth i le =
    let here : groups facts + i - groups facts ≡ i = omega arith in
    let past : nat_lt (groups facts + i) (groups facts) ≡ false =
    le-ltb (groups facts + i) (groups facts) (omega arith) in
    let test : nat_le i depth ≡ true = le-leb i depth le in
    ap (λ b. cond b (Keep facts (groups facts + i))
    (cond (nat_le (groups facts + i - groups facts) depth) (Base (groups facts + i - groups facts))
    (Step facts depth))) past
    ∙ ap (λ j. cond (nat_le j depth) (Base j) (Step facts depth)) here
    ∙ ap (λ b. cond b (Base i) (Step facts depth)) test

step-at : (facts : List Fact) (depth : ℕ)
    → asked_at facts depth (groups facts + suc depth) ≡ Step facts depth
step-at facts depth =
    let i : ℕ = groups facts + suc depth in
    let past : nat_lt i (groups facts) ≡ false = le-ltb i (groups facts) (omega arith) in
    let deep : nat_le (i - groups facts) depth ≡ false =
    lt-leb (i - groups facts) depth (omega arith) in
    ap (λ b. cond b (Keep facts i)
    (cond (nat_le (i - groups facts) depth) (Base (i - groups facts)) (Step facts depth))) past
    ∙ ap (λ b. cond b (Base (i - groups facts)) (Step facts depth)) deep

-- ---- all places

module _ (safe : SafeNet) (facts : List Fact) (depth : ℕ) (keep base : List (List Learned))
    (step : List Learned) (keeps : length keep ≡ groups facts) (bases : length base ≡ suc depth) where
  abbrev pub whole : List (List Learned)
  whole = keep ++ base ++ step ∷ []

  pub many : length whole ≡ places facts depth
  many = omega (
    arith,
    keeps,
    bases,
    length-append (keep ++ base) (step ∷ []),
    length-append keep base,
  )

  kept-log : (i : ℕ) → i < groups facts → log_at whole i ≡ log_at keep i
  kept-log i lt =
      ap (λ l. log_at l i) (append_assoc keep base (step ∷ []))
      ∙ get_or_append_left keep (base ++ step ∷ []) [] i (omega (arith, keeps))

  behind-log : (i : ℕ) → log_at whole (groups facts + i) ≡ log_at (base ++ step ∷ []) i
  behind-log i =
      ap (λ l. log_at l (groups facts + i)) (append_assoc keep base (step ∷ []))
      ∙ ap (λ n. log_at (keep ++ (base ++ step ∷ [])) (n + i)) (sym keeps)
      ∙ get_or-append-add keep (base ++ step ∷ []) i []

  base-log : (i : ℕ) → i ≤ depth → log_at whole (groups facts + i) ≡ log_at base i
  base-log i le =
      behind-log i ∙ get_or_append_left base (step ∷ []) [] i (omega (arith, bases))

  step-log : log_at whole (groups facts + suc depth) ≡ step
  step-log =
      let last : suc depth ≡ length base + 0 = omega (arith, bases) in
      behind-log (suc depth) ∙ ap (log_at (base ++ step ∷ [])) last
      ∙ get_or-append-add base (step ∷ []) 0 []

  -- The logs of the groups, of the base queries and of the step refute their queries.
  pub record AreDealtRight : Type 0 where
    pub groups_right : (g : ℕ) → g < groups facts → IsRefuted safe (Keep facts g) (log_at keep g)
    pub bases_right : (i : ℕ) → i ≤ depth → IsRefuted safe (Base i) (log_at base i)
    pub step_right : IsRefuted safe (Step facts depth) step

  moved : (asked : Asked) (log : List Learned) (i : ℕ) → asked_at facts depth i ≡ asked
      → log_at whole i ≡ log → IsRefuted safe (asked_at facts depth i) (log_at whole i)
      → IsRefuted safe asked log
  moved asked log i one two right =
      let P : Asked → Type 0 = λ a. IsRefuted safe a (log_at whole i) in
      let Q : List Learned → Type 0 = IsRefuted safe asked in
      subst Q two (subst P one right)

  pub dealt : AreRefuted safe facts depth whole (length whole) → AreDealtRight
  dealt right = record {
    groups_right = λ g lt. moved (Keep facts g) (log_at keep g) g (keep-at facts depth g lt)
        (kept-log g lt) (right g (omega (arith, many)));
    bases_right = λ i le. moved (Base i) (log_at base i) (groups facts + i)
        (base-at facts depth i le) (base-log i le)
        (right (groups facts + i) (omega (arith, many)));
    step_right =
        moved (Step facts depth) step (groups facts + suc depth) (step-at facts depth) step-log
        (right (groups facts + suc depth) (omega (arith, many)));
  }

  pub gathered : AreDealtRight → AreRefuted safe facts depth whole (length whole)
  gathered right i lt =
      at (nat_lt i (groups facts)) (nat_le (i - groups facts) depth) refl refl
    where
      at : (b c : Bool) → nat_lt i (groups facts) ≡ b → nat_le (i - groups facts) depth ≡ c
          → IsRefuted safe
          (cond b (Keep facts i) (cond c (Base (i - groups facts)) (Step facts depth)))
          (log_at whole i)
      at true c test _ =
          let few = ltb-true i (groups facts) test in
          let P : List Learned → Type 0 = IsRefuted safe (Keep facts i) in
          subst P (sym (kept-log i few)) (right.groups_right i few)
      at false true past test =
          let few = leb-true (i - groups facts) depth test in
          let behind = ltb-false i (groups facts) past in
          let back : groups facts + (i - groups facts) ≡ i = omega (arith, behind) in
          let P : List Learned → Type 0 = IsRefuted safe (Base (i - groups facts)) in
          subst P (sym (base-log (i - groups facts) few) ∙ ap (log_at whole) back)
          (right.bases_right (i - groups facts) few)
      at false false past deep =
          let behind = ltb-false i (groups facts) past in
          let below = leb-false (i - groups facts) depth deep in
          let last : groups facts + suc depth ≡ i = omega (arith, behind, below, many, lt) in
          let P : List Learned → Type 0 = IsRefuted safe (Step facts depth) in
          subst P (sym step-log ∙ ap (log_at whole) last) right.step_right

-- ---- logs that are judged one after another

-- the first log, and the lines of the others
pub first_log : (text : List ℕ) (log : List Learned) (logs : List (List Learned))
    (rest : List Line) → AreLogs text (log ∷ logs) rest
    → (others : List Line) × IsLogAt text log (others ++ rest) × SayLogs others logs
first_log text log logs rest are =
    let (head, clauses, others, parts, counts, said, more) = are.said in
    let whole : are.lines ++ rest ≡ head ∷ (clauses ++ (others ++ rest)) =
    ap (λ l. l ++ rest) parts ∙ ap (λ l. head ∷ l) (append_assoc clauses others rest) in (
      others,
      record {
        head = head;
        clauses = clauses;
        parts = are.parts ∙ ap (λ l. l ++ [] ∷ []) whole;
        counts = counts;
        said = said;
      },
      more,
    )

here : (text : List ℕ) (logs : List (List Learned)) (rest : List Line) (i : ℕ) → i < length logs
    → AreLogs text (drop i logs) rest → AreLogs text (log_at logs i ∷ drop (suc i) logs) rest
here text logs rest i lt are =
    let P : List (List Learned) → Type 0 = λ l. AreLogs text l rest in
    subst P (drop-cons logs i [] lt) are

-- No log is left.
pub none_left : (text : List ℕ) (logs : List (List Learned)) (rest : List Line) (n : ℕ)
    → length logs ≤ n → AreLogs text (drop n logs) rest → AreLines text rest
none_left text logs rest n all are =
    let P : List (List Learned) → Type 0 = λ l. AreLogs text l rest in
    let end = subst P (drop_all n logs all) are in
    let Q : List Line → Type 0 = λ l. AreLines text (l ++ rest) in
    subst Q end.said end.parts

module _ (safe : SafeNet) (asked : ℕ → Asked) (i variables : ℕ) (clauses : List Clause)
    (text : List ℕ) (logs : List (List Learned)) (rest : List Line) (lt : i < length logs)
    (few : variables ≡ variables_of safe (asked i)) (same : clauses ≡ clauses_of safe (asked i))
  where
    abbrev pub AreBefore : ℕ → Type 0
    AreBefore n = (j : ℕ) → j < n → IsRefuted safe (asked j) (log_at logs j)

    -- One more log refutes its query.
    pub one_refuted : (next : List ℕ)
        → ((log : List Learned) (rest : List Line) → IsLogAt text log rest
        → IsRefutation variables clauses log × AreLines next rest)
        → AreLogs text (drop i logs) rest × AreBefore i
        → AreLogs next (drop (i + 1) logs) rest × AreBefore (i + 1)
    one_refuted next judged (are, before) =
        let (others, at, more) = first_log text (log_at logs i) (drop (suc i) logs) rest
        (here text logs rest i lt are) in
        let (right, parts) = judged (log_at logs i) (others ++ rest) at in
        let up : suc i ≡ i + 1 = omega arith in
        let P : ℕ → Type 0 = λ n. IsRefutation n clauses (log_at logs i) in
        let Q : List Clause → Type 0 =
        λ cs. IsRefutation (variables_of safe (asked i)) cs (log_at logs i) in
        let refuted = subst Q same (subst P few right) in
        let R : ℕ → Type 0 = λ n. AreLogs next (drop n logs) rest in (
          subst R up (record { lines = others; parts = parts; said = more }),
          below_more (λ j. IsRefuted safe (asked j) (log_at logs j)) i before refuted,
        )

    -- This log does not.
    pub not_refuted : ((log : List Learned) (rest : List Line) → IsLogAt text log rest
        → ¬ IsRefutation variables clauses log) → AreLogs text (drop i logs) rest
        → (n : ℕ) → i < n → ¬ AreBefore n
    not_refuted judged are n below right =
        let (others, at, more) = first_log text (log_at logs i) (drop (suc i) logs) rest
        (here text logs rest i lt are) in
        let P : ℕ → Type 0 = λ n. IsRefutation n clauses (log_at logs i) in
        let Q : List Clause → Type 0 =
        λ cs. IsRefutation (variables_of safe (asked i)) cs (log_at logs i) in
        judged (log_at logs i) (others ++ rest) at (subst P (sym few) (subst Q (sym same) (right i below)))

-- ---- the logs of the keep queries, and those behind them

-- There is no group.
pub none_kept : (safe : SafeNet) (facts : List Fact) (text : List ℕ) (logs : List (List Learned))
    (rest : List Line) → groups facts ≡ 0 → AreLogs text logs rest
    → AreLogs text (drop (groups facts) logs) rest
    × AreKeepsRefuted safe facts logs (groups facts)
none_kept safe facts text logs rest none are =
    let P : ℕ → Type 0 = λ n. AreLogs text (drop n logs) rest in
    (subst P (sym none) are, λ g lt. absurd (omega (arith, none, lt)))

pub kept_refuted : (safe : SafeNet) (facts : List Fact) (depth : ℕ) (logs : List (List Learned))
    → AreKeepsRefuted safe facts logs (groups facts)
    → AreRefuted safe facts depth logs (groups facts)
kept_refuted safe facts depth logs right i lt =
    let P : Asked → Type 0 = λ a. IsRefuted safe a (log_at logs i) in
    subst P (sym (keep-at facts depth i lt)) (right i lt)

pub refuted_kept : (safe : SafeNet) (facts : List Fact) (depth n : ℕ) (logs : List (List Learned))
    → groups facts ≤ n → AreRefuted safe facts depth logs n
    → AreKeepsRefuted safe facts logs (groups facts)
refuted_kept safe facts depth n logs le right g lt =
    let P : Asked → Type 0 = λ a. IsRefuted safe a (log_at logs g) in
    subst P (keep-at facts depth g lt) (right g (omega (arith, le, lt)))

-- the query at a place behind those of the groups
pub behind_at : (facts : List Fact) (depth i : ℕ)
    → path_at facts depth i ≡ asked_at facts depth (groups facts + i)
behind_at facts depth i =
    let here : groups facts + i - groups facts ≡ i = omega arith in
    let past : nat_lt (groups facts + i) (groups facts) ≡ false =
    le-ltb (groups facts + i) (groups facts) (omega arith) in
    sym (ap (λ b. cond b (Keep facts (groups facts + i))
    (path_at facts depth (groups facts + i - groups facts))) past ∙ ap (path_at facts depth) here)

pub of_behind : {B : Type 0} (f : Asked → B) (facts : List Fact) (depth i : ℕ) (b : B)
    → b ≡ f (path_at facts depth i) → b ≡ f (asked_at facts depth (groups facts + i))
of_behind f facts depth i b e = e ∙ ap f (behind_at facts depth i)
