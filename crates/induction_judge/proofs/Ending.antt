-- Logs that refute clauses, an entry at a time.
use Rattle.std.proofs.Common.{◌≡◌, ℕ, ◌+◌, ◌<◌, ◌^◌, ◌↔◌, Bool, true, List, [], ◌∷◌, ◌++◌, map, length, refl, sym, ◌∙◌, ap, subst, Option, Some, None}
use denote.Ref.{Bor}
use Rattle.std.specs.Prelude.{ℤ, IsTrue, codes}
use Rattle.hy_text.specs.Lines.{lines_of}
use Rattle.chain_check.specs.declared.logs.Learned.{Learned}
use Rattle.chain_check.specs.Clauses.{Clause}
use Rattle.chain_check.specs.Chains.{Follows}
use Rattle.chain_check.specs.Logs.{IsPassed, EndsEmpty, IsRefutation}
use Rattle.cert_text.specs.Lines.{Line, Speaks}
use Rattle.cert_text.specs.InductionLines.{SaysLogHead, SaysLearned}
use Rattle.cert_text.specs.Shortened.{short_literal, short_number, IsLearnedRead}
use Rattle.cert_text.proofs.Lists.{heads, tails}
use Rattle.cert_text.proofs.OneReading.{one_entry}
use Rattle.cert_text.proofs.Stepping.{same_one}
use Rattle.induction_judge.specs.Reading.{AreLines, AreSaid, IsLogAt, AreClausesJudged, IsLogJudged}
use Rattle.induction_judge.proofs.Shortness.{short_follows, short_clause}
use Rattle.induction_judge.proofs.Walking.{stepped, not_last, over}

-- The last clause of the log is empty; where there is none, this is so.
abbrev pub EndsIn : Type 0 → List Learned → Type 0
EndsIn Last [] = Last
EndsIn Last (e ∷ log) = EndsIn (e.clause ≡ []) log

-- The log passes behind the known clauses, and ends so.
abbrev pub Goes : ℕ → List Clause → Type 0 → List Learned → Type 0
Goes variables known Last log = IsPassed variables known log × EndsIn Last log

ends-in : (front : List Learned) (last : Learned) (Last : Type 0) → last.clause ≡ []
    → EndsIn Last (front ++ last ∷ [])
ends-in [] last Last empty = empty
ends-in (e ∷ front) last Last empty = ends-in front last (e.clause ≡ []) empty

in-ends : (e : Learned) (log : List Learned) (Last : Type 0) → EndsIn Last (e ∷ log)
    → EndsEmpty (e ∷ log)
in-ends e [] Last empty = record { front = []; last = e; parts = refl; empty = empty }
in-ends e (f ∷ log) Last ends =
    let more = in-ends f log (e.clause ≡ []) ends in
    record {
      front = e ∷ more.front;
      last = more.last;
      parts = ap (λ l. e ∷ l) more.parts;
      empty = more.empty;
    }

-- a whole log, before which there is no clause of it
pub refutation_goes : (variables : ℕ) (given : List Clause) (Last : Type 0) → ¬ Last
    → (log : List Learned) → IsRefutation variables given log ↔ Goes variables given Last log
refutation_goes variables given Last none log = (
  λ refutes.
      let P : List Learned → Type 0 = EndsIn Last in (
        refutes.passes,
        subst P (sym refutes.ends.parts)
            (ends-in refutes.ends.front refutes.ends.last Last refutes.ends.empty),
      ),
  λ (passes, ends). record { passes = passes; ends = empty log ends },
)
  where
    empty : (log : List Learned) → EndsIn Last log → EndsEmpty log
    empty [] ends = absurd (none ends)
    empty (e ∷ log) ends = in-ends e log Last ends

ends-as : (P Q : Type 0) → P ↔ Q → (log : List Learned) → EndsIn P log ↔ EndsIn Q log
ends-as P Q same [] = same
ends-as P Q same (e ∷ log) = (λ ends. ends, λ ends. ends)

-- An entry that follows is known from then on.
pub one_more : (variables : ℕ) (known : List Clause) (Last Now : Type 0) (e : Learned)
    (log : List Learned) → Follows variables known e.clause e.chain → (e.clause ≡ []) ↔ Now
    → Goes variables known Last (e ∷ log) ↔ Goes variables (known ++ e.clause ∷ []) Now log
one_more variables known Last Now e log follows same =
    let ends = ends-as (e.clause ≡ []) Now same log in (
      λ ((_, passes), ended). (passes, ends.0 ended),
      λ (passes, ended). ((follows, passes), ends.1 ended),
    )

pub two_ways : {A B C : Type 0} → A ↔ B → B ↔ C → A ↔ C
two_ways one two = (λ a. two.0 (one.0 a), λ c. one.1 (two.1 c))

-- ---- a log that is read line by line

-- A log at the lines of the text refutes the clauses given where what the lines left say goes on
-- behind the known ones.
abbrev pub AreGoing : ℕ → List Clause → List ℕ → ℕ → List ℕ → ℕ → List Clause → Type 0 → Type 0
AreGoing variables given text n left k known Last =
    (log : List Learned) (rest : List Line) → AreSaid SaysLearned text n log rest
    → (todo : List Learned) × AreSaid SaysLearned left k todo rest
    × (IsRefutation variables given log ↔ Goes variables known Last todo)

pub going_first : (variables : ℕ) (given known : List Clause) (text : List ℕ) (n k : ℕ)
    (Last : Type 0) → k ≡ n → known ≡ given → ¬ Last
    → AreGoing variables given text n text k known Last
going_first variables given known text n k Last same all none log rest said =
    let P : ℕ → Type 0 = λ m. AreSaid SaysLearned text m log rest in
    let Q : List Clause → Type 0 =
    λ cs. IsRefutation variables given log ↔ Goes variables cs Last log in (
      log,
      subst P (sym same) said,
      subst Q (sym all) (refutation_goes variables given Last none log),
    )

-- what the next line says
pub next_entry : (left next : List ℕ) (line : Line) (k m : ℕ) (todo : List Learned)
    (rest : List Line) (learned : Learned) → k ≡ m + 1 → AreSaid SaysLearned left k todo rest
    → lines_of left ≡ line ∷ lines_of next → SaysLearned line learned
    → (more : List Learned) × (todo ≡ learned ∷ more) × AreSaid SaysLearned next m more rest
next_entry left next line k m todo rest learned one here cut says =
    let step = stepped SaysLearned left next line k m todo rest one here cut in
    let same = one_entry line step.first learned step.says says in
    (step.more, step.parts ∙ ap (λ e. e ∷ step.more) same, step.behind)

-- The lists that were read follow where the entry does.
read-follows : (variables : ℕ) (known : List Clause) (learned : Learned) (kept : List ℤ)
    (numbers : List ℕ) → variables < 2 ^ 31 → length known < 2 ^ 32
    → kept ≡ map short_literal learned.clause → numbers ≡ map short_number learned.chain
    → Follows variables known kept numbers ↔ Follows variables known learned.clause learned.chain
read-follows variables known learned kept numbers few_variables few kept_is numbers_is =
    let P : Clause → Type 0 =
    λ c. Follows variables known c numbers ↔ Follows variables known learned.clause learned.chain in
    let Q : List ℕ → Type 0 =
    λ ks. Follows variables known (map short_literal learned.clause) ks
    ↔ Follows variables known learned.clause learned.chain in
    subst P (sym kept_is) (subst Q (sym numbers_is)
    (short_follows variables known learned.clause learned.chain few_variables few))

pub going_on : (variables : ℕ) (given : List Clause) (text : List ℕ) (n : ℕ) (left next : List ℕ)
    (line : Line) (k m : ℕ) (known now : List Clause) (Last Now : Type 0) (kept : List ℤ)
    (numbers : List ℕ) → variables < 2 ^ 31 → length known < 2 ^ 32 → k ≡ m + 1
    → lines_of left ≡ line ∷ lines_of next → IsLearnedRead line true kept numbers
    → Follows variables known kept numbers → now ≡ known ++ kept ∷ [] → (kept ≡ []) ↔ Now
    → AreGoing variables given text n left k known Last
    → AreGoing variables given text n next m now Now
going_on variables given text n left next line k m known now Last Now kept numbers few_variables few
    one cut (learned, says, kept_is, numbers_is) follows is empty before log rest said =
    let (todo, here, same) = before log rest said in
    let (more, parts, behind) = next_entry left next line k m todo rest learned one here cut says in
    let P : Clause → Type 0 = λ c. Follows variables known c numbers in
    let clause : kept ≡ learned.clause =
    kept_is ∙ short_clause variables known learned.clause numbers (subst P kept_is follows) in
    let right = (read-follows variables known learned kept numbers few_variables few kept_is
    numbers_is).0 follows in
    let Q : Clause → Type 0 = λ c. (c ≡ []) ↔ Now in
    let step = one_more variables known Last Now learned more right (subst Q clause empty) in
    let R : List Clause → Type 0 =
    λ cs. Goes variables known Last (learned ∷ more) ↔ Goes variables cs Now more in
    let S : List Learned → Type 0 =
    λ t. Goes variables known Last t ↔ Goes variables now Now more in
    let known_now : known ++ learned.clause ∷ [] ≡ now =
    ap (λ c. known ++ c ∷ []) (sym clause) ∙ sym is in
    (more, behind, two_ways same (subst S (sym parts) (subst R known_now step)))

-- What was tried of the lists that were read.
pub as_tried : {n variables : ℕ} {known : List Clause} {clause kept : List ℤ}
    {chain numbers : List ℕ} {right : Bool} → n ≡ variables → clause ≡ kept → chain ≡ numbers
    → IsTrue right ↔ Follows n known clause chain
    → IsTrue right ↔ Follows variables known kept numbers
as_tried {variables = variables} {known = known} {clause = clause} {kept = kept} {chain = chain} {right = right} few same also tried =
    let P : ℕ → Type 0 = λ m. IsTrue right ↔ Follows m known clause chain in
    let Q : List ℤ → Type 0 = λ c. IsTrue right ↔ Follows variables known c chain in
    let R : List ℕ → Type 0 = λ ks. IsTrue right ↔ Follows variables known kept ks in
    subst R also (subst Q same (subst P few tried))

-- ---- logs that are no refutations

pub cut_short : (variables : ℕ) (given : List Clause) (text : List ℕ) (n : ℕ) (left : List ℕ)
    (line : Line) (k : ℕ) (known : List Clause) (Last : Type 0) → 0 < k
    → lines_of left ≡ line ∷ [] → AreGoing variables given text n left k known Last
    → (log : List Learned) (rest : List Line) → ¬ AreSaid SaysLearned text n log rest
cut_short variables given text n left line k known Last some cut before log rest said =
    let (todo, here, same) = before log rest said in
    not_last SaysLearned left line k todo rest some cut here

pub says_nothing : (variables : ℕ) (given : List Clause) (text : List ℕ) (n : ℕ)
    (left next : List ℕ) (line : Line) (k m : ℕ) (known : List Clause) (Last : Type 0)
    → k ≡ m + 1 → lines_of left ≡ line ∷ lines_of next → ¬ Speaks SaysLearned line
    → AreGoing variables given text n left k known Last
    → (log : List Learned) (rest : List Line) → ¬ AreSaid SaysLearned text n log rest
says_nothing variables given text n left next line k m known Last one cut none before log rest said =
    let (todo, here, same) = before log rest said in
    let step = stepped SaysLearned left next line k m todo rest one here cut in
    none (step.first, step.says)

pub not_following : (variables : ℕ) (given : List Clause) (text : List ℕ) (n : ℕ)
    (left next : List ℕ) (line : Line) (k m : ℕ) (known : List Clause) (Last : Type 0)
    (kept : List ℤ) (numbers : List ℕ) → variables < 2 ^ 31 → length known < 2 ^ 32 → k ≡ m + 1
    → lines_of left ≡ line ∷ lines_of next → IsLearnedRead line true kept numbers
    → ¬ Follows variables known kept numbers
    → AreGoing variables given text n left k known Last → (log : List Learned) (rest : List Line)
    → AreSaid SaysLearned text n log rest → ¬ IsRefutation variables given log
not_following variables given text n left next line k m known Last kept numbers few_variables few one
    cut (learned, says, kept_is, numbers_is) stops before log rest said refutes =
    let (todo, here, same) = before log rest said in
    let (more, parts, behind) = next_entry left next line k m todo rest learned one here cut says in
    let P : List Learned → Type 0 = λ t. Goes variables known Last t in
    let ((follows, _), _) = subst P parts (same.0 refutes) in
    stops ((read-follows variables known learned kept numbers few_variables few kept_is
    numbers_is).1 follows)

-- ---- the end

pub at_end : (variables : ℕ) (given : List Clause) (text : List ℕ) (n : ℕ) (left : List ℕ) (k : ℕ)
    (known : List Clause) (Last : Type 0) → k ≡ 0
    → AreGoing variables given text n left k known Last → (log : List Learned) (rest : List Line)
    → AreSaid SaysLearned text n log rest
    → (IsRefutation variables given log ↔ Last) × AreLines left rest
at_end variables given text n left k known Last none before log rest said =
    let (todo, here, same) = before log rest said in
    let (over_is, lines) = over SaysLearned left k todo rest none here in
    let P : List Learned → Type 0 =
    λ t. IsRefutation variables given log ↔ Goes variables known Last t in
    let ends = subst P over_is same in
    ((λ refutes. (ends.0 refutes).1, λ last. ends.1 (tt, last)), lines)

-- ---- the head

pub log_said : (text next : List ℕ) (line : Line) (count : ℕ) (log : List Learned)
    (rest : List Line) → lines_of text ≡ line ∷ lines_of next → SaysLogHead line count
    → IsLogAt text log rest → AreSaid SaysLearned next count log rest
log_said text next line count log rest cut says at =
    let both : line ∷ lines_of next ≡ at.head ∷ ((at.clauses ++ rest) ++ [] ∷ []) =
    sym cut ∙ at.parts in
    let P : Line → Type 0 = λ l. SaysLogHead l (length log) in
    record {
      front = at.clauses;
      parts = tails both;
      said = at.said;
      many = sym (same_one (codes "log") line count (length log) says
          (subst P (sym (heads both)) at.counts));
    }

pub no_count : (text next : List ℕ) (line : Line) (log : List Learned) (rest : List Line)
    → lines_of text ≡ line ∷ lines_of next → ((n : ℕ) → ¬ SaysLogHead line n)
    → ¬ IsLogAt text log rest
no_count text next line log rest cut none at =
    let both : line ∷ lines_of next ≡ at.head ∷ ((at.clauses ++ rest) ++ [] ∷ []) =
    sym cut ∙ at.parts in
    let P : Line → Type 0 = λ l. SaysLogHead l (length log) in
    none (length log) (subst P (sym (heads both)) at.counts)

-- what its clauses show
pub log_judged : (variables : ℕ) (given : List Clause) (text next : List ℕ) (line : Line)
    (count : ℕ) → lines_of text ≡ line ∷ lines_of next → SaysLogHead line count
    → (left : Option (Bor (List ℕ))) → AreClausesJudged variables given next count left
    → IsLogJudged variables given text left
log_judged variables given text next line count cut says None bad =
    λ log rest at. bad log rest (log_said text next line count log rest cut says at)
log_judged variables given text next line count cut says (Some left) good =
    λ log rest at. good log rest (log_said text next line count log rest cut says at)
