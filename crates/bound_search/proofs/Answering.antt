-- An assignment meets the clauses exactly where a list within the bound satisfies the formula.
use Rattle.std.proofs.Common.{◌≡◌, ℕ, zero, suc, ◌+◌, ◌-◌, ◌*◌, ◌/◌, ◌%◌, ◌<◌, ◌↔◌, min, Bool, true, cond, nat_eq, nat_lt, List, [], ◌∷◌, ◌++◌, length, get_or, inl, inr, refl, sym, ap, ◌∙◌, subst, arith, length-append}
use Rattle.std.specs.Prelude.{ℤ}
use Rattle.std.specs.FinSet.{contains}
use Rattle.std.specs.List.{Contains}
use Rattle.std.proofs.lemmas.Bool.{cases_eq}
use Rattle.std.proofs.lemmas.List.{get_or_append_left, get_or_default}
use Rattle.std.proofs.lemmas.Nat.{div-mul-add, mod-mul-add}
use Rattle.hy_base.proofs.Places.{last-of, below-row}
use Rattle.hy_base.proofs.Truths.{cond-below, cond-above}
use Rattle.hy_bits.specs.Letter.{Letter}
use Rattle.hy_formula.specs.Lassos.{Lasso}
use Rattle.hy_formula.specs.Trees.{Tree, vars_below}
use Rattle.hy_formula.specs.declared.prefix.Quant.{Quant}
use Rattle.hy_lasso.specs.Words.{no_lasso, letter_at, Meets}
use Rattle.chain_check.specs.FewClauses.{for_each, alone}
use Rattle.chain_check.specs.Values.{Assignment, number_value, AllMet, Means}
use Rattle.chain_check.proofs.Values.{met-append, met-each, each-met}
use Rattle.chain_check.proofs.FewMeanings.{further-means, alone-met}
use Rattle.bound_search.specs.declared.bound.Bound.{Bound}
use Rattle.bound_search.specs.Bounds.{IsBound, IsShort, IsWithin}
use Rattle.bound_search.specs.Names.{names_of}
use Rattle.bound_search.specs.Drawings.{Drawn, sure, gate_clauses}
use Rattle.bound_search.specs.Queries.{places, letters_of_member, variables_of_member, member_start, letter_variable, cycle_variable, first_gate, member_clauses, formula_drawn, clauses_of, variables_of}
use Rattle.bound_search.proofs.RightGates.{AreRight}
use Rattle.bound_search.proofs.Saying.{Says}
use Rattle.bound_search.proofs.Filling.{AreOrdered, filled, filled-before, filled-right, right-same, gates-met}
use Rattle.bound_search.proofs.Choosing.{IsMember, quantified-same}
use Rattle.bound_search.specs.Spelling.{Spells}
use Rattle.bound_search.proofs.Members.{IsWritten, met-member, spells-written, member-met}
use Rattle.bound_search.proofs.Formulas.{letter-below, fits-formula, says-formula}

-- a list of what there is for each number below n
witnesses : {A : Type 0} (d : A) (P : ℕ → A → Type 0) (n : ℕ) →
    ((k : ℕ) → k < n → (x : A) × P k x) →
    (xs : List A) × (length xs ≡ n) × ((k : ℕ) → k < n → P k (get_or xs k d))
witnesses d P zero some = ([], refl, λ k lt. absurd (omega arith))
witnesses {A} d P (suc n) some =
    step (witnesses d P n (λ k lt. some k (omega arith))) (some n (omega arith))
  where
    step : ((xs : List A) × (length xs ≡ n) × ((k : ℕ) → k < n → P k (get_or xs k d))) →
        ((x : A) × P n x) →
        (xs : List A) × (length xs ≡ suc n) × ((k : ℕ) → k < suc n → P k (get_or xs k d))
    step (xs, long, all) (x, p) =
        let whole = length-append xs (x ∷ []) in (
          xs ++ x ∷ [],
          omega (arith, whole, long),
          λ k lt. elim (cases_eq k n) [
            | inl e ↦
                let last : get_or (xs ++ x ∷ []) k d ≡ x =
                ap (λ i. get_or (xs ++ x ∷ []) i d) (e ∙ sym long) ∙ last-of xs x d in
                let Q : ℕ → Type 0 = λ i. P i x in
                subst (P k) (sym last) (subst Q (sym e) p)
            | inr apart ↦ subst (P k) (sym (get_or_append_left xs (x ∷ []) d k (omega
                (arith, long, apart))))
                (all k (omega arith))
          ],
        )

says-means : (a : Assignment) (l : ℤ) (P : Type 0) → Says a l P → Means a l (number_value a l)
says-means a l P s = record { is = refl; other = s.other }

module _ (bound : Bound) (ok : IsBound bound) (prefix : List Quant) (body : Tree)
    (known : vars_below (length prefix) body ≡ true) where
  abbrev names : List ℕ
  names = names_of body

  abbrev drawn : Drawn ℤ
  drawn = formula_drawn names bound prefix body

  abbrev first : ℕ
  first = first_gate names bound

  -- What the assignment has to say for the clauses to be met.
  pub record IsAnswer (a : Assignment) : Type 0 where
    pub sure_is : a 0 ≡ true
    pub members : (t : ℕ) → t < bound.traces → AllMet a (member_clauses names bound t)
    pub gates : AreRight a first drawn.gates
    pub root : AllMet a (alone drawn.out)

  ordered : AreOrdered first drawn.gates
  ordered = (fits-formula bound ok prefix body known).ordered first (omega arith)

  pub answer-met : (a : Assignment) → AllMet a (clauses_of bound prefix body) ↔ IsAnswer a
  unfolding clauses_of
  answer-met a =
      let members = for_each (member_clauses names bound) bound.traces in
      let gates = gate_clauses first drawn.gates in
      let one = met-append a (alone sure) (members ++ (gates ++ alone drawn.out)) in
      let two = met-append a members (gates ++ alone drawn.out) in
      let three = met-append a gates (alone drawn.out) in
      let true_first = alone-met a sure (a 0) (further-means a 0) in
      let right = gates-met a first drawn.gates ordered in (
        λ h.
            let (s, rest) = one.0 h in
            let (m, more) = two.0 rest in
            let (g, r) = three.0 more in
            record {
              sure_is = true_first.0 s;
              members = met-each a (member_clauses names bound) bound.traces m;
              gates = right.0 g;
              root = r;
            },
        λ h. one.1 (
          true_first.1 h.sure_is,
          two.1 (
            each-met a (member_clauses names bound) bound.traces h.members,
            three.1 (right.1 h.gates, h.root),
          ),
        ),
      )

  -- ---- a list, where the clauses are met

  -- As many lassos as the list may have, each short and spelled, are within the bound.
  pub list-within : (a : Assignment) → IsAnswer a → (list : List (Lasso Letter)) →
      length list ≡ bound.traces → ((t : ℕ) → t < bound.traces →
      IsShort bound (get_or list t no_lasso) × Spells a names bound t (get_or list t no_lasso)) →
      IsWithin bound prefix body list
  list-within a h list long all =
      let member : ℕ → Lasso Letter = λ t. get_or list t no_lasso in
      let says = says-formula bound ok prefix body known a h.sure_is member
      (λ t lt. (all t lt).0) (λ t lt. (all t lt).1) in
      let root = says.at first h.gates in
      let is_true = (alone-met a drawn.out _ (says-means a drawn.out _ root)).0 h.root in
      let some = ok.some_traces in
      record {
        some = omega (arith, long, some);
        few = omega (arith, long);
        short = λ l (k, lt, e).
            let P : Lasso Letter → Type 0 = IsShort bound in
            subst P (get_or_default list k no_lasso l lt ∙ e) (all k (omega (arith, lt, long))).0;
        satisfies = quantified-same (IsMember bound.traces member) (Contains list)
            (λ x. (
              λ (k, lt, e). (
                k,
                omega (arith, lt, long),
                get_or_default list k x no_lasso (omega (arith, lt, long)) ∙ e,
              ),
              λ (k, lt, e).
                  (k, omega (arith, lt, long), get_or_default list k no_lasso x lt ∙ e),
            ))
            prefix (Meets body) (root.is.0 is_true);
      }

  met-list : (a : Assignment) → IsAnswer a →
      (list : List (Lasso Letter)) × IsWithin bound prefix body list
  met-list a h =
      let (list, long, all) =
      witnesses no_lasso (λ t l. IsShort bound l × Spells a names bound t l) bound.traces
      (λ t lt. let (l, short, spells) = met-member a names bound t (h.members t lt) in
      (l, (short, spells))) in
      (list, list-within a h list long all)

  -- ---- an assignment, where there is a list

  module _ (list : List (Lasso Letter)) (within : IsWithin bound prefix body list) where
    -- the list, filled up with its last lasso
    abbrev member : ℕ → Lasso Letter
    member t = get_or list (min t (length list - 1)) no_lasso

    member-there : (t : ℕ) → Contains list (member t)
    member-there t =
        let some = within.some in
        let lt : min t (length list - 1) < length list = omega (arith, some) in
        (min t (length list - 1), lt, get_or_default list _ _ no_lasso lt)

    member-short : (t : ℕ) → IsShort bound (member t)
    member-short t = within.short (member t) (member-there t)

    members-same : (x : Lasso Letter) → Contains list x ↔ IsMember bound.traces member x
    members-same x = (
      λ (k, lt, e).
          let few = within.few in
          let here : min k (length list - 1) ≡ k = omega (arith, lt) in (
            k,
            omega (arith, lt, few),
            ap (λ i. get_or list i no_lasso) here ∙ get_or_default list k no_lasso x lt ∙ e,
          ),
      λ (k, lt, e). let P : Lasso Letter → Type 0 = Contains list in subst P e (member-there k),
    )

    -- what a variable of member t says
    abbrev written_at : ℕ → ℕ → Bool
    written_at t v =
        cond (nat_lt v (letters_of_member names bound))
        (contains (letter_at (member t) (v % places bound)) (get_or names (v / places bound) 0))
        (nat_eq (suc (v - letters_of_member names bound)) (length (member t).cycle))

    abbrev given : Assignment
    given zero = true
    given (suc v) =
        written_at (v / variables_of_member names bound) (v % variables_of_member names bound)

    given-at : (t v : ℕ) → v < variables_of_member names bound →
        given (member_start names bound t + v) ≡ written_at t v
    given-at t v lt =
        let m : ℕ = variables_of_member names bound in
        let e : member_start names bound t + v ≡ suc (t * m + v) = omega arith in
        ap given e ∙ ap (λ k. written_at k ((t * m + v) % m)) (div-mul-add t m v lt)
        ∙ ap (written_at t) (mod-mul-add t m v lt)

    given-letter : (t r i : ℕ) → r < length names → i < places bound →
        given (letter_variable names bound t r i)
        ≡ contains (letter_at (member t) i) (get_or names r 0)
    given-letter t r i there lt =
        let w : ℕ = places bound in
        let inner : r * w + i < letters_of_member names bound =
        below-row w i r (length names) lt there in
        given-at t (r * w + i) (omega (arith, inner)) ∙ cond-below _ _ _ _ inner
        ∙ ap (λ k. contains (letter_at (member t) ((r * w + i) % w)) (get_or names k 0))
        (div-mul-add r w i lt)
        ∙ ap (λ k. contains (letter_at (member t) k) (get_or names r 0)) (mod-mul-add r w i lt)

    given-cycle : (t d : ℕ) → d < bound.cycle →
        given (cycle_variable names bound t d) ≡ nat_eq (suc d) (length (member t).cycle)
    given-cycle t d lt =
        let n : ℕ = letters_of_member names bound in
        let e : cycle_variable names bound t d ≡ member_start names bound t + (n + d) =
        omega arith in
        let less : n + d - n ≡ d = omega arith in
        ap given e ∙ given-at t (n + d) (omega arith) ∙ cond-above (n + d) n _ _ (omega arith)
        ∙ ap (λ k. nat_eq (suc k) (length (member t).cycle)) less

    abbrev answer : Assignment
    answer = filled first drawn.gates given

    stays : (v : ℕ) → v < first → answer v ≡ given v
    stays = filled-before first drawn.gates given

    written : (t : ℕ) → t < bound.traces → IsWritten answer names bound t (member t)
    written t few = record {
      letters = λ r there i lt.
          stays _ (letter-below bound ok prefix body known t r i few there lt)
          ∙ given-letter t r i there lt;
      cycle = λ d lt.
          let m : ℕ = variables_of_member names bound in
          let below =
          below-row m (letters_of_member names bound + d) t bound.traces (omega arith) few in
          stays (cycle_variable names bound t d) (omega (arith, below)) ∙ given-cycle t d lt;
    }

    list-met : IsAnswer answer
    list-met =
        let sure_is : answer 0 ≡ true = stays 0 (omega arith) in
        let right : AreRight answer first drawn.gates =
        filled-right first drawn.gates given ordered in
        let says = says-formula bound ok prefix body known answer sure_is member
        (λ t lt. member-short t)
        (λ t lt. spells-written answer names bound t (member t) (member-short t) (written t lt)) in
        let root = says.at first right in
        record {
          sure_is = sure_is;
          members = λ t lt. member-met answer names bound t (member t) (member-short t)
              (written t lt);
          gates = right;
          root = (alone-met answer drawn.out _ (says-means answer drawn.out _ root)).1
              (root.is.1 (quantified-same (Contains list)
              (IsMember bound.traces member) members-same
              prefix (Meets body) within.satisfies));
        }

  -- The gates can be filled in one way: what meets the clauses is settled by the variables before.
  pub one-way : (a b : Assignment) → AllMet a (clauses_of bound prefix body) →
      AllMet b (clauses_of bound prefix body) → ((v : ℕ) → v < first → a v ≡ b v) → (v : ℕ) →
      v < variables_of bound prefix body → a v ≡ b v
  unfolding variables_of
  one-way a b p q same v lt =
      right-same first drawn.gates a b ordered ((answer-met a).0 p).gates ((answer-met b).0 q).gates
      same v lt

  -- Where the clauses are met, there is a list within the bound, and where there is one, they are.
  pub answers : ((a : Assignment) × AllMet a (clauses_of bound prefix body)) ↔
      ((list : List (Lasso Letter)) × IsWithin bound prefix body list)
  answers = (
    λ (a, h). met-list a ((answer-met a).0 h),
    λ (list, within). (answer list within, (answer-met _).1 (list-met list within)),
  )
