-- What the state after the codes of a tuple says of the body.
use Rattle.std.proofs.Common.{◌≡◌, ◌↔◌, ℕ, zero, suc, ◌<◌, Bool, true, false, List, [], ◌∷◌, length, map, get_or, ap, ◌∙◌, refl, sym, subst, arith}
use Rattle.std.proofs.lemmas.Nat.{pow_pos}
use Rattle.std.specs.FinSet.{empty, contains}
use Rattle.hy_bits.specs.Letter.{Letter}
use Rattle.hy_formula.specs.Trees.{Tree}
use Rattle.hy_formula.specs.Temporal.{Words}
use Rattle.hy_finite.specs.declared.lengths.Lengths.{Lengths}
use Rattle.hy_finite.specs.Traces.{Trace, judged, trace_words, Meets}
use Rattle.fin_monitor.specs.Machines.{Machine, IsMonitor, codes, is_accepting, next_state, code_at, state_after}
use Rattle.fin_monitor.proofs.Running.{accepts-meets}
use Rattle.fin_monitor.specs.Codes.{code_of, joint_letter}
use Rattle.dominance.specs.Dominance.{Dominates}
use Rattle.dominance.specs.Runs.{AreCodesOf, state_on}
use Rattle.dominance.proofs.Asking.{codes-agree}
use Rattle.dominance.proofs.Standing.{state_on-same}

state-words : (m : Machine) (words : Words) (n : ℕ)
    → state_on m (λ i. code_at m words i) n ≡ state_after m words n
state-words m words zero = refl
state-words m words (suc n) = ap (λ q. next_state m q (code_at m words n)) (state-words m words n)

-- the state after the codes of the joint letters of a tuple accepts exactly where the tuple
-- satisfies the body
pub meets-state : (m : Machine) → IsMonitor m
    → (rule : Lengths) (tuple : List Trace) (code : ℕ → ℕ) (n : ℕ) → 0 < n → n ≡ judged rule tuple
    → ((i : ℕ) → i < n → code i ≡ code_at m (trace_words tuple) i)
    → (is_accepting m (state_on m code n) ≡ true) ↔ Meets rule m.body tuple
meets-state m is rule tuple code n some long same =
    accepts-meets m is rule tuple (omega arith) (state_on m code n)
    (is_accepting m (state_on m code n)) refl
    (state_on-same m code (λ i. code_at m (trace_words tuple) i) n same
    ∙ state-words m (trace_words tuple) n ∙ ap (state_after m (trace_words tuple)) long)

-- numbers that are made of the members of a list
pub codes-of : {A : Type 0} (f : A → ℕ) (n : ℕ) → 0 < n → ((x : A) → f x < n)
    → (xs : List A) (i : ℕ) → get_or (map f xs) i 0 < n
codes-of f n some h [] i = some
codes-of f n some h (x ∷ xs) zero = h x
codes-of f n some h (x ∷ xs) (suc i) = codes-of f n some h xs i

-- the same of a list that is made so
pub codes-below : {A : Type 0} (m : Machine) (f : A → ℕ) → ((x : A) → f x < codes m)
    → (xs : List A) (list : List ℕ) → list ≡ map f xs → AreCodesOf m list
codes-below m f h xs list is =
    let P : List ℕ → Type 0 = AreCodesOf m in
    subst P (sym is) (codes-of f (codes m) (pow_pos (length m.atoms)) h xs)

-- the code of one letter is that of a tuple of one trace
pub one-code : (m : Machine) (t : Trace) (i : ℕ) (letter : Letter) → letter ≡ get_or t i empty
    → code_of (joint_letter (letter ∷ [])) m.atoms ≡ code_at m (trace_words (t ∷ [])) i
one-code m t i letter is = codes-agree _ _ m.atoms (λ a _. same a.name a.variable)
  where
    same : (name variable : ℕ) → joint_letter (letter ∷ []) name variable
        ≡ trace_words (t ∷ []) name variable i
    same name zero = ap (λ (l : Letter). contains l name) is
    same name (suc v) = refl

-- one trace dominates another of those that are judged alone
pub alone-dominates : (rule : Lengths) (body : Tree) (t u : Trace)
    → (¬ Meets rule body (u ∷ []) → ¬ Meets rule body (t ∷ [])) → Dominates rule 1 body t u
alone-dominates rule body t u h [] [] b a count = h
alone-dominates rule body t u h [] (x ∷ xs) b a count = absurd (omega arith)
alone-dominates rule body t u h (x ∷ xs) after b a count = absurd (omega arith)

-- whether it does, by what is said of each
pub alone-over : (rule : Lengths) (body : Tree) (t u : Trace) (first second over : Bool)
    → ((first ≡ true) ↔ Meets rule body (t ∷ [])) → ((second ≡ true) ↔ Meets rule body (u ∷ []))
    → ((over ≡ true) ↔ ((first ≡ true) → second ≡ true))
    → (over ≡ true) ↔ Dominates rule 1 body t u
alone-over rule body t u first true over is_t is_u is = (
  λ e. alone-dominates rule body t u (λ fails meets. fails (is_u.0 refl)),
  λ d. is.1 (λ f. refl),
)
alone-over rule body t u first false over is_t is_u is = (
  λ e. alone-dominates rule body t u
      (λ fails meets. let f : false ≡ true = is.0 e (is_t.1 meets) in cc),
  λ d. is.1 (λ f. absurd (d [] [] tt tt refl (λ meets. let e : false ≡ true = is_u.1 meets in cc)
      (is_t.0 f))),
)
