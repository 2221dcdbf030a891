-- A fair run of branches, from words on which the roots hold.
use Rattle.std.proofs.Common.{◌≡◌, ℕ, zero, suc, ◌+◌, ◌<◌, ◌≤◌, ◌⊎◌, Bool, true, false, not, ◌&&◌, List, length, inl, inr, refl, sym, ap, ◌∙◌, subst, arith, add-one}
use Rattle.std.specs.FinSet.{contains}
use Rattle.hy_base.proofs.Truths.{and-false}
use Rattle.hy_formula.specs.Temporal.{endless, Words, IsDecided}
use Rattle.hy_formula.specs.Normals as normal
use Rattle.hy_formula.specs.Normals.{Normal, HoldsAt}
use Rattle.ltl_closure.specs.Nodes.{Node, always, never, literal, and, or, next, weak_next, until, release, node_at, form_of, PartsBelow, Numbers, Local}
use Rattle.ltl_tableau.specs.Branches.{Members, Has, Branch, IsBranch, postponed_by, IsRun, IsFair}
use Rattle.hy_formula.proofs.Deciding.{decided-and, decided-lt}
use Rattle.hy_formula.proofs.Unrolling.{decided-normal, until_step, release_step}
use Rattle.ltl_tableau.proofs.Choosing.{Fits, fitting-branch}

module _ (nodes : List Node) (form : ℕ → Normal) (words : Words) (d : IsDecided endless words) (numbers : Numbers nodes form) where
  -- the members that hold at a position
  abbrev pub True : ℕ → ℕ → Type 0
  True i k = HoldsAt endless words (form k) i × (k < length nodes)

  local : (i k : ℕ) (node : Node) → k < length nodes → form k ≡ form_of form node → PartsBelow k node → HoldsAt endless words (form k) i → Local (True i) (True (suc i)) (λ n v. words n v i) k node
  local i k always lt e below t = tt
  local i k never lt e below t = let P : Normal → Type 0 = λ f. HoldsAt endless words f i in subst P e t
  local i k (literal b n v) lt e below t = let P : Normal → Type 0 = λ f. HoldsAt endless words f i in subst P e t
  local i k (and g h) lt e (p, q) t =
      let P : Normal → Type 0 = λ f. HoldsAt endless words f i in
      let both : HoldsAt endless words (form g) i × HoldsAt endless words (form h) i = subst P e t in
      ((both.0, omega arith), (both.1, omega arith))
  local i k (or g h) lt e (p, q) t =
      let P : Normal → Type 0 = λ f. HoldsAt endless words f i in
      let either : HoldsAt endless words (form g) i ⊎ HoldsAt endless words (form h) i = subst P e t in
      elim either [ inl x ↦ inl (x, omega arith) | inr y ↦ inr (y, omega arith) ]
  local i k (next g) lt e below t =
      let P : Normal → Type 0 = λ f. HoldsAt endless words f i in
      let Q : ℕ → Type 0 = λ j. HoldsAt endless words (form g) j in
      let h : HoldsAt endless words (normal.next (form g)) i = subst P e t in
      (subst Q (add-one i) h.1, omega arith)
  local i k (weak_next g) lt e below t =
      let P : Normal → Type 0 = λ f. HoldsAt endless words f i in
      let Q : ℕ → Type 0 = λ j. HoldsAt endless words (form g) j in
      let h : HoldsAt endless words (normal.weak_next (form g)) i = subst P e t in
      (subst Q (add-one i) (h tt), omega arith)
  local i k (until g h) lt e (x, y) t =
      let P : ℕ → Normal → Type 0 = λ j f. HoldsAt endless words f j in
      let Q : ℕ → Type 0 = λ j. HoldsAt endless words (form k) j in
      elim ((until_step endless words d (form g) (form h) i tt).0 (subst (P i) e t)) [
        | inl q ↦ inl (q, omega arith)
        | inr (p, (_, u)) ↦ inr ((p, omega arith), (subst Q (add-one i) (subst (P (i + 1)) (sym e) u), lt))
      ]
  local i k (release g h) lt e (x, y) t =
      let P : ℕ → Normal → Type 0 = λ j f. HoldsAt endless words f j in
      let Q : ℕ → Type 0 = λ j. HoldsAt endless words (form k) j in
      let (q, rest) = (release_step endless words d (form g) (form h) i tt).0 (subst (P i) e t) in
      ((q, omega arith), elim rest [ inl p ↦ inl (p, omega arith) | inr u ↦ inr (subst Q (add-one i) (subst (P (i + 1)) (sym e) (u tt)), lt) ])

  -- a branch of members that hold
  pub fitting : (i : ℕ) (set : Members) → ((k : ℕ) → Has set k → True i k) → (branch : Branch) × IsBranch nodes set branch × Fits nodes (True i) (True (suc i)) branch
  fitting i set holds =
      fitting-branch nodes (True i) (True (suc i)) (λ n v. words n v i) (λ k. decided-and (decided-normal endless words d (form k) i) (decided-lt k (length nodes))) numbers.parts
      (λ k lt t. local i k (node_at nodes k) lt (numbers.forms k lt) (numbers.parts k lt) t.0) set holds

  module _ (roots : Members) (start : (k : ℕ) → Has roots k → True 0 k) where
    -- what is left to do at a position, all of which holds
    abbrev pub state : (i : ℕ) → (set : Members) × ((k : ℕ) → Has set k → True i k)
    state zero = (roots, start)
    state (suc i) = let b = fitting i (state i).0 (state i).1 in (b.0.later, b.2.later)

    abbrev pub run : ℕ → Branch
    run i = (fitting i (state i).0 (state i).1).0

    pub run-fits : (i : ℕ) → Fits nodes (True i) (True (suc i)) (run i)
    run-fits i = (fitting i (state i).0 (state i).1).2

    pub run-goes : IsRun nodes roots run
    run-goes = record { starts = (fitting 0 roots start).1; goes = λ i. (fitting (suc i) (state (suc i)).0 (state (suc i)).1).1 }

    pub run-branch : (i : ℕ) → IsBranch nodes (state i).0 (run i)
    run-branch i = (fitting i (state i).0 (state i).1).1

    -- where an until's end is reached, it is not postponed
    pub kept : (j k g h : ℕ) → node_at nodes k ≡ until g h → True j h → postponed_by (run j).now k (until g h) ≡ false
    kept j k g h e t = step (contains (run j).now k) refl
      where
        step : (b : Bool) → contains (run j).now k ≡ b → postponed_by (run j).now k (until g h) ≡ false
        step false e' = ap (λ b. b && not (contains (run j).now h)) e'
        step true e' = ap (λ b. contains (run j).now k && not b) ((run-fits j).ends k g h e' e t) ∙ and-false _

    -- an until that is now to hold has an end, and otherwise it is not postponed
    pub end-of : (i k g h : ℕ) → node_at nodes k ≡ until g h → ((j : ℕ) × (i ≤ j) × True j h) ⊎ (postponed_by (run i).now k (until g h) ≡ false)
    end-of i k g h e = step (contains (run i).now k) refl
      where
        step : (b : Bool) → contains (run i).now k ≡ b → ((j : ℕ) × (i ≤ j) × True j h) ⊎ (postponed_by (run i).now k (until g h) ≡ false)
        step false e' = inr (ap (λ b. b && not (contains (run i).now h)) e')
        step true e' =
            let P : Normal → Type 0 = λ f. HoldsAt endless words f i in
            let Q : Node → Type 0 = λ n. HoldsAt endless words (form_of form n) i in
            let R : Node → Type 0 = PartsBelow k in
            let (t, lt) = (run-fits i).now k e' in
            let (j, from, _, q, _) = subst Q e (subst P (numbers.forms k lt) t) in
            let (_, below) = subst R e (numbers.parts k lt) in
            inl (j, from, (q, omega arith))

    fair-at : (k i : ℕ) → (node : Node) → node_at nodes k ≡ node → (j : ℕ) × (i ≤ j) × (postponed_by (run j).now k node ≡ false)
    fair-at k i (until g h) e = elim (end-of i k g h e) [ inl (j, from, q) ↦ (j, from, kept j k g h e q) | inr not_here ↦ (i, omega arith, not_here) ]
    fair-at k i _ e = (i, omega arith, refl)

    pub run-fair : IsFair nodes run
    run-fair k i = fair-at k i (node_at nodes k) refl
