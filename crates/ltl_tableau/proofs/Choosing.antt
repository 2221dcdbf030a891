-- Among the branches of what holds at a position is one whose members hold, there and at the next position,
-- and which postpones no until whose end is reached.
use Rattle.std.proofs.Common.{◌≡◌, ℕ, zero, suc, ◌<◌, ◌≤◌, ◌⊎◌, Bool, true, false, not, ◌&&◌, cond, nat_eq, List, [], ◌++◌, length, inl, inr, refl, sym, subst, arith}
use Rattle.std.specs.Bool.{beq}
use Rattle.std.specs.List.{Contains}
use Rattle.std.specs.FinSet.{empty, insert, contains}
use Rattle.std.proofs.lemmas.Bool.{cases_eq, eqb-true, and_parts, and_from, or_left, or_right, or_cases, false_from_ne_true}
use Rattle.std.proofs.lemmas.List.Elements.{Contains-append_left, Contains-append_right}
use Rattle.hy_formula.specs.Temporal.{Decided}
use Rattle.ltl_closure.specs.Nodes.{Node, always, never, literal, and, or, next, weak_next, until, release, node_at, PartsBelow, Local}
use Rattle.ltl_tableau.specs.Branches.{Members, Has, Branch, is_literal, has_literal, expand, branches_below, IsBranch}
use Rattle.ltl_tableau.proofs.Distinct.{branch-of}
use Rattle.ltl_tableau.proofs.Sets.{has-new, has-old, has-cases, has-none}

-- the branch holds, and postpones no until whose end is reached
pub record Fits (nodes : List Node) (T N : ℕ → Type 0) (branch : Branch) : Type 0 where
  pub now : (k : ℕ) → Has branch.now k → T k
  pub later : (k : ℕ) → Has branch.later k → N k
  pub ends : (k g h : ℕ) → Has branch.now k → node_at nodes k ≡ until g h → T h → Has branch.now h

abbrev Finds : List Node → (T N : ℕ → Type 0) → List Branch → Type 0
Finds nodes T N list = (branch : Branch) × Contains list branch × Fits nodes T N branch

finds-left : (nodes : List Node) (T N : ℕ → Type 0) (xs ys : List Branch) → Finds nodes T N xs → Finds nodes T N (xs ++ ys)
finds-left nodes T N xs ys (branch, there, fits) = (branch, Contains-append_left xs ys branch there, fits)

finds-right : (nodes : List Node) (T N : ℕ → Type 0) (xs ys : List Branch) → Finds nodes T N ys → Finds nodes T N (xs ++ ys)
finds-right nodes T N xs ys (branch, there, fits) = (branch, Contains-append_right xs ys branch there, fits)

-- ---- literals

opposite : (c b : Bool) → beq c (not b) ≡ true → c ≡ b → ⊥
opposite true true e same = cc
opposite true false e same = cc
opposite false true e same = cc
opposite false false e same = cc

opposes-clash : (T N : ℕ → Type 0) (letter : ℕ → ℕ → Bool) (k : ℕ) (b : Bool) (name variable : ℕ) (node : Node) → Local T N letter k node → is_literal (not b) name variable node ≡ true → letter name variable ≡ b → ⊥
opposes-clash T N letter k b name variable (literal c n v) said e other =
    let both = and_parts (beq c (not b)) _ e in
    let names = and_parts (nat_eq n name) (nat_eq v variable) both.1 in
    let same_name : n ≡ name = eqb-true n name names.0 in
    let same_variable : v ≡ variable = eqb-true v variable names.1 in
    let same : letter n v ≡ letter name variable = cc in
    opposite c b both.0 (cc)
opposes-clash T N letter k b name variable _ said e other = absurd (cc)

pub literal-some : (nodes : List Node) (now : Members) (b : Bool) (name variable m : ℕ) → has_literal nodes now b name variable m ≡ true → (k : ℕ) × (k < m) × Has now k × (is_literal b name variable (node_at nodes k) ≡ true)
literal-some nodes now b name variable zero e = absurd (cc)
literal-some nodes now b name variable (suc m) e =
    elim (or_cases (contains now m && is_literal b name variable (node_at nodes m)) _ e) [
      | inl found ↦ let both = and_parts (contains now m) _ found in (m, omega arith, both.0, both.1)
      | inr more ↦ let (k, lt, h, o) = literal-some nodes now b name variable m more in (k, omega arith, h, o)
    ]

pub literal-there : (nodes : List Node) (now : Members) (b : Bool) (name variable m k : ℕ) → k < m → Has now k → is_literal b name variable (node_at nodes k) ≡ true → has_literal nodes now b name variable m ≡ true
literal-there nodes now b name variable zero k lt has is = absurd (omega arith)
literal-there nodes now b name variable (suc m) k lt has is =
    elim (cases_eq k m) [
      | inl e ↦
          let P : ℕ → Type 0 = λ q. (contains now q && is_literal b name variable (node_at nodes q)) ≡ true in
          or_left _ _ (subst P e (and_from _ _ has is))
      | inr apart ↦ or_right _ _ (literal-there nodes now b name variable m k (omega arith) has is)
    ]

-- ---- the choice

module _ (nodes : List Node) (T N : ℕ → Type 0) (letter : ℕ → ℕ → Bool) (known : (k : ℕ) → Decided (T k)) (parts : (k : ℕ) → k < length nodes → PartsBelow k (node_at nodes k)) (local : (k : ℕ) → k < length nodes → T k → Local T N letter k (node_at nodes k)) where
  -- what holds of the sets where the members from f on are done
  record Sound (f : ℕ) (todo now later : Members) : Type 0 where
    inside : (k : ℕ) → Has now k → k < length nodes
    doing : (k : ℕ) → Has todo k → T k
    done : (k : ℕ) → Has now k → T k
    left : (k : ℕ) → Has later k → N k
    ends : (k g h : ℕ) → Has now k → node_at nodes k ≡ until g h → T h → Has now h ⊎ (Has todo h × (h < f))

  -- member f is done
  extended : (f : ℕ) → f < length nodes → (todo now later todo' later' : Members) → Sound (suc f) todo now later → Has todo f → ((k : ℕ) → Has todo k → Has todo' k) → ((k : ℕ) → Has todo' k → T k) → ((k : ℕ) → Has later' k → N k) → ((g h : ℕ) → node_at nodes f ≡ until g h → T h → Has todo' h × (h < f)) → Sound f todo' (insert now f) later'
  extended f lt todo now later todo' later' s mine more doing' left' ends' =
      record {
        inside = λ k h. elim (has-cases now f k h) [ inl e ↦ (omega arith) | inr old ↦ s.inside k old ];
        doing = doing';
        done = λ k h. elim (has-cases now f k h) [ inl e ↦ subst T (sym e) (s.doing f mine) | inr old ↦ s.done k old ];
        left = left';
        ends = ends_of;
      }
    where
      ends_of : (k g h : ℕ) → Has (insert now f) k → node_at nodes k ≡ until g h → T h → Has (insert now f) h ⊎ (Has todo' h × (h < f))
      ends_of k g h has e t =
          elim (has-cases now f k has) [
            | inl same ↦ let P : ℕ → Type 0 = λ q. node_at nodes q ≡ until g h in inr (ends' g h (subst P same e) t)
            | inr old ↦
                elim (s.ends k g h old e t) [
                  | inl there ↦ inl (has-old now f h there)
                  | inr (there, below) ↦
                      elim (cases_eq h f) [
                        | inl same ↦ let P : ℕ → Type 0 = Has (insert now f) in inl (subst P (sym same) (has-new now f))
                        | inr apart ↦ inr (more h there, omega arith)
                      ]
                ]
          ]

  -- one more member that holds
  with : (P : ℕ → Type 0) (s : Members) (k : ℕ) → ((q : ℕ) → Has s q → P q) → P k → (q : ℕ) → Has (insert s k) q → P q
  with P s k old new q h = elim (has-cases s k q h) [ inl e ↦ subst P (sym e) new | inr there ↦ old q there ]

  module _ (f : ℕ) (lt : f < length nodes) (rest : Members → Members → List Branch) (todo now later : Members) (s : Sound (suc f) todo now later) (mine : Has todo f) (ih : (todo' later' : Members) → Sound f todo' (insert now f) later' → Finds nodes T N (rest todo' later')) where
    expanded : (node : Node) → node_at nodes f ≡ node → Local T N letter f node → PartsBelow f node → Finds nodes T N (expand nodes now f rest todo later node)
    expanded always e said below = ih todo later (extended f lt todo now later todo later s mine (λ k h. h) s.doing s.left (λ g h e' t. absurd (cc)))
    expanded never e said below = absurd said
    expanded (literal b n v) e said below =
        let clear : has_literal nodes now (not b) n v (length nodes) ≡ false =
        false_from_ne_true _ (λ opposed. let (k, lt', h, o) = literal-some nodes now (not b) n v (length nodes) opposed in
        opposes-clash T N letter k b n v (node_at nodes k) (local k lt' (s.done k h)) o said) in
        let P : Bool → Type 0 = λ c. Finds nodes T N (cond c [] (rest todo later)) in
        subst P (sym clear) (ih todo later (extended f lt todo now later todo later s mine (λ k h. h) s.doing s.left (λ g h e' t. absurd (cc))))
    expanded (and g h) e (p, q) below =
        ih (insert (insert todo g) h) later
        (extended f lt todo now later _ later s mine (λ k x. has-old _ h k (has-old todo g k x)) (with T _ h (with T todo g s.doing p) q) s.left (λ g' h' e' t. absurd (cc)))
    expanded (or g h) e (inl p) below =
        finds-left nodes T N _ _ (ih (insert todo g) later
        (extended f lt todo now later _ later s mine (λ k x. has-old todo g k x) (with T todo g s.doing p) s.left (λ g' h' e' t. absurd (cc))))
    expanded (or g h) e (inr q) below =
        finds-right nodes T N _ _ (ih (insert todo h) later
        (extended f lt todo now later _ later s mine (λ k x. has-old todo h k x) (with T todo h s.doing q) s.left (λ g' h' e' t. absurd (cc))))
    expanded (next g) e p below =
        ih todo (insert later g) (extended f lt todo now later todo _ s mine (λ k h. h) s.doing (with N later g s.left p) (λ g' h' e' t. absurd (cc)))
    expanded (weak_next g) e p below =
        ih todo (insert later g) (extended f lt todo now later todo _ s mine (λ k h. h) s.doing (with N later g s.left p) (λ g' h' e' t. absurd (cc)))
    expanded (until g h) e said below = choose (known h) said
      where
        here : T h → Finds nodes T N (rest (insert todo h) later)
        here q =
            ih (insert todo h) later
            (extended f lt todo now later _ later s mine (λ k x. has-old todo h k x) (with T todo h s.doing q) s.left
            (λ g' h' e' t. let same : h ≡ h' = cc in (let P : ℕ → Type 0 = Has (insert todo h) in subst P same (has-new todo h), omega (arith, below.1))))

        there : ¬ T h → T g → N f → Finds nodes T N (rest (insert todo g) (insert later f))
        there not_q p n =
            ih (insert todo g) (insert later f)
            (extended f lt todo now later _ _ s mine (λ k x. has-old todo g k x) (with T todo g s.doing p) (with N later f s.left n)
            (λ g' h' e' t. let same : h' ≡ h = cc in absurd (not_q (subst T same t))))

        choose : Decided (T h) → T h ⊎ (T g × N f) → Finds nodes T N (rest (insert todo h) later ++ rest (insert todo g) (insert later f))
        choose (inl q) _ = finds-left nodes T N _ _ (here q)
        choose (inr not_q) (inl q) = absurd (not_q q)
        choose (inr not_q) (inr (p, n)) = finds-right nodes T N _ _ (there not_q p n)
    expanded (release g h) e (q, inl p) below =
        finds-left nodes T N _ _ (ih (insert (insert todo g) h) later
        (extended f lt todo now later _ later s mine (λ k x. has-old _ h k (has-old todo g k x)) (with T _ h (with T todo g s.doing p) q) s.left (λ g' h' e' t. absurd (cc))))
    expanded (release g h) e (q, inr n) below =
        finds-right nodes T N _ _ (ih (insert todo h) (insert later f)
        (extended f lt todo now later _ _ s mine (λ k x. has-old todo h k x) (with T todo h s.doing q) (with N later f s.left n) (λ g' h' e' t. absurd (cc))))

  -- member f is not to be done
  passed : (f : ℕ) (todo now later : Members) → Sound (suc f) todo now later → contains todo f ≡ false → Sound f todo now later
  passed f todo now later s e =
      record { inside = s.inside; doing = s.doing; done = s.done; left = s.left; ends = λ k g h has e' t. elim (s.ends k g h has e' t) [ inl there ↦ inl there | inr (there, below) ↦ inr (there, elim (cases_eq h f) [ inl same ↦ absurd (let P : ℕ → Type 0 = Has todo in let x : contains todo f ≡ true = subst P same there in cc) | inr apart ↦ omega arith ]) ] }

  found : (f : ℕ) → f ≤ length nodes → (todo now later : Members) → Sound f todo now later → Finds nodes T N (branches_below nodes f todo now later)
  found zero le todo now later s = (
    record { now = now; later = later },
    (0, omega arith, refl),
    record { now = s.done; later = s.left; ends = λ k g h has e t. elim (s.ends k g h has e t) [ inl there ↦ there | inr (_, below) ↦ absurd (omega arith) ] },
  )
  found (suc f) le todo now later s = step (contains todo f) refl (found f (omega arith))
    where
      step : (b : Bool) → contains todo f ≡ b → ((todo' now' later' : Members) → Sound f todo' now' later' → Finds nodes T N (branches_below nodes f todo' now' later')) → Finds nodes T N (branches_below nodes (suc f) todo now later)
      step true e ih =
          let P : Bool → Type 0 = λ b. Finds nodes T N (cond b (expand nodes now f (λ t l. branches_below nodes f t (insert now f) l) todo later (node_at nodes f)) (branches_below nodes f todo now later)) in
          subst P (sym e) (expanded f (omega arith) _ todo now later s e (λ t l. ih t (insert now f) l) (node_at nodes f) refl (local f (omega arith) (s.doing f e)) (parts f (omega arith)))
      step false e ih =
          let P : Bool → Type 0 = λ b. Finds nodes T N (cond b (expand nodes now f (λ t l. branches_below nodes f t (insert now f) l) todo later (node_at nodes f)) (branches_below nodes f todo now later)) in
          subst P (sym e) (ih todo now later (passed f todo now later s e))

  pub fitting-branch : (set : Members) → ((k : ℕ) → Has set k → T k) → (branch : Branch) × IsBranch nodes set branch × Fits nodes T N branch
  fitting-branch set holds =
      let (branch, there, fits) = found (length nodes) (omega arith) set empty empty start in
      (branch, branch-of nodes set branch there, fits)
    where
      start : Sound (length nodes) set empty empty
      start = (record { inside = λ k h. absurd (has-none k h); doing = holds; done = λ k h. absurd (has-none k h); left = λ k h. absurd (has-none k h); ends = λ k g h has. absurd (has-none k has) })
