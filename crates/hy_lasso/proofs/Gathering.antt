-- Reading the lines of a file one after another.
use Rattle.std.proofs.Common.{◌≡◌, ◌≢◌, ℕ, suc, ◌+◌, ◌<◌, ◌≤◌, true, List, [], ◌∷◌, ◌++◌, length, Ok, Err, inl, inr, refl, sym, ap, ◌∙◌, subst, arith, append_assoc, append-nil, length-append}
use Rattle.hy_bits.specs.Letter.{Letter}
use Rattle.hy_formula.specs.Lassos.{Lasso}
use Rattle.hy_formula.specs.Quantifiers.{Each}
use Rattle.hy_text.specs.declared.line_error.LineError.TheVariants.{Syntax}
use Rattle.hy_text.specs.Lines.{SaysNothing, FirstFault, lines_of}
use Rattle.hy_lasso.specs.LassoLines.{lasso_of, IsText, IsFaulty}
use Rattle.hy_lasso.specs.LassoFiles.{SayLassos, IsLassosAnswer}
use Rattle.hy_lasso.specs.LineParts.{IsTaken}

-- The lassos of the lines before `left`, of which the first has number n, have been gathered.
pub record Gathered (table lines : List (List ℕ)) (n : ℕ) (left : List (List ℕ))
    (list : List (Lasso Letter)) : Type 0 where
  pub fault : (k : ℕ) → FirstFault IsText IsFaulty n left k → FirstFault IsText IsFaulty 1 lines k
  pub silent : list ≡ [] → Each SaysNothing left → Each SaysNothing lines
  pub back : (more : List (Lasso Letter)) → SayLassos table left more
      → SayLassos table lines (list ++ more)

pub gathered_none : (table lines : List (List ℕ)) → Gathered table lines 1 lines []
gathered_none table lines = record {
  fault = λ k fault. fault;
  silent = λ none each. each;
  back = λ more say. say;
}

not_empty : (list : List (Lasso Letter)) (l : Lasso Letter) → list ++ l ∷ [] ≢ []
not_empty list l none = omega (arith, ap length none, length-append list (l ∷ []))

-- A line says one lasso at most.
pub taken_few : (table : List (List ℕ)) (line : List ℕ) (list new : List (Lasso Letter))
    → IsTaken table line list new true → length new ≤ length list + 1
taken_few table line list new (inl (nothing, same)) = omega (arith, ap length same)
taken_few table line list new (inr (said, says, added)) =
    omega (arith, ap length added, length-append list (lasso_of table said ∷ []))

-- the first line of those that are left
pub gathered_more : (table lines : List (List ℕ)) (n : ℕ) (left : List (List ℕ))
    (list new : List (Lasso Letter)) (line : List ℕ) (rest : List (List ℕ))
    → Gathered table lines n left list → left ≡ line ∷ rest → IsTaken table line list new true
    → Gathered table lines (n + 1) rest new
gathered_more table lines n left list new line rest before first (inl (nothing, same)) =
    let F : List (List ℕ) → Type 0 = λ ls. (k : ℕ) → FirstFault IsText IsFaulty n ls k
    → FirstFault IsText IsFaulty 1 lines k in
    let N : ℕ → Type 0 = λ m. (k : ℕ) → FirstFault IsText IsFaulty m rest k
    → FirstFault IsText IsFaulty 1 lines k in
    let S : List (List ℕ) → Type 0 = λ ls. Each SaysNothing ls → Each SaysNothing lines in
    let B : List (List ℕ) → Type 0 = λ ls. (more : List (Lasso Letter)) → SayLassos table ls more
    → SayLassos table lines (list ++ more) in
    let A : List (Lasso Letter) → Type 0 = λ l. (more : List (Lasso Letter))
    → SayLassos table rest more → SayLassos table lines (l ++ more) in
    let next : n + 1 ≡ suc n = omega arith in
    record {
      fault = subst N (sym next) (λ k fault. subst F first before.fault k
          (inr (inl nothing, fault)));
      silent = λ none each. subst S first (before.silent (sym same ∙ none)) (nothing, each);
      back = subst A (sym same) (λ more say. subst B first before.back more (inl (nothing, say)));
    }
gathered_more table lines n left list new line rest before first (inr (said, says, added)) =
    let F : List (List ℕ) → Type 0 = λ ls. (k : ℕ) → FirstFault IsText IsFaulty n ls k
    → FirstFault IsText IsFaulty 1 lines k in
    let N : ℕ → Type 0 = λ m. (k : ℕ) → FirstFault IsText IsFaulty m rest k
    → FirstFault IsText IsFaulty 1 lines k in
    let B : List (List ℕ) → Type 0 = λ ls. (more : List (Lasso Letter)) → SayLassos table ls more
    → SayLassos table lines (list ++ more) in
    let A : List (Lasso Letter) → Type 0 = λ l. (more : List (Lasso Letter))
    → SayLassos table rest more → SayLassos table lines (l ++ more) in
    let C : List (Lasso Letter) → Type 0 = SayLassos table lines in
    let next : n + 1 ≡ suc n = omega arith in
    let lasso = lasso_of table said in
    record {
      fault =
          subst N (sym next) (λ k fault. subst F first before.fault k
          (inr (inr (said, says), fault)));
      silent = λ none each. absurd (not_empty list lasso (sym added ∙ none));
      back = subst A (sym added) (λ more say. subst C (sym (append_assoc list (lasso ∷ []) more))
          (subst B first before.back (lasso ∷ more) (inr (said, more, says, refl, say))));
    }

-- no line is left
pub gathered_all : (table : List (List ℕ)) (bytes : List ℕ) (n : ℕ) (left : List (List ℕ))
    (list : List (Lasso Letter)) → Gathered table (lines_of bytes) n left list → left ≡ []
    → 0 < length list → IsLassosAnswer table bytes (Ok list)
gathered_all table bytes n left list done none some =
    let P : List (List ℕ) → Type 0 = λ ls. SayLassos table ls [] in
    let Q : List (Lasso Letter) → Type 0 = SayLassos table (lines_of bytes) in
    record { some = some; say = subst Q (append-nil list) (done.back [] (subst P (sym none) refl)) }

pub gathered_nothing : (table : List (List ℕ)) (bytes : List ℕ) (n : ℕ) (left : List (List ℕ))
    (list : List (Lasso Letter)) → Gathered table (lines_of bytes) n left list → left ≡ []
    → list ≡ [] → IsLassosAnswer table bytes (Err (Syntax 0))
gathered_nothing table bytes n left list done none empty =
    let P : List (List ℕ) → Type 0 = Each SaysNothing in
    inr (refl, done.silent empty (subst P (sym none) tt))
