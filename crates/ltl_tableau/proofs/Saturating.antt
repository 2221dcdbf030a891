-- What a branch says: its members keep the rules of their nodes.
use Rattle.std.proofs.Common.{◌≡◌, ℕ, zero, suc, ◌<◌, ◌≤◌, Bool, true, false, not, cond, nat_eq, List, [], length, Some, None, inl, inr, refl, sym, subst, arith}
use Rattle.std.specs.List.{Contains}
use Rattle.std.specs.FinSet.{empty, insert, contains}
use Rattle.std.proofs.lemmas.Bool.{cases_eq, cases_lt, eqb-true, eq-eqb, and_parts, and_from, false_from_ne_true}
use Rattle.std.proofs.lemmas.List.Elements.{Contains-append_cases}
use Rattle.hy_base.proofs.Members.{contains-one, contains-none}
use Rattle.hy_base.proofs.Truths.{same-truth}
use Rattle.ltl_closure.specs.Nodes.{Node, always, never, literal, and, or, next, weak_next, until, release, node_at, PartsBelow, Local}
use Rattle.ltl_closure.specs.Numbered.{IsNumberOf}
use Rattle.ltl_tableau.specs.Branches.{Members, Has, Branch, is_literal, has_literal, expand, branches_below, IsBranch}
use Rattle.ltl_tableau.proofs.Distinct.{branch-from}
use Rattle.ltl_tableau.proofs.Sets.{has-new, has-old, has-cases, has-none}
use Rattle.ltl_tableau.proofs.Choosing.{literal-some, literal-there}

-- What a node of the branch says, where a literal speaks of the members above its own number.
abbrev Says : List Node → Branch → ℕ → Node → Type 0
Says nodes b k (literal c name variable) =
    (q : ℕ) → k < q → q < length nodes → Has b.now q → is_literal (not c) name variable
    (node_at nodes q) ≡ false
Says nodes b k node = Local (Has b.now) (Has b.later) (λ n v. true) k node

-- what the branch has of the sets where the members from f on are done
record Built (nodes : List Node) (f : ℕ) (doing now later : Members) (b : Branch) : Type 0 where
  keeps : (k : ℕ) → Has now k → Has b.now k
  leaves : (k : ℕ) → Has later k → Has b.later k
  does : (k : ℕ) → k < f → Has doing k → Has b.now k
  only : (k : ℕ) → f ≤ k → Has b.now k → Has now k
  says : (k : ℕ) → k < f → Has b.now k → Says nodes b k (node_at nodes k)

literal-none : (nodes : List Node) (now : Members) (b : Bool) (name variable : ℕ)
    → has_literal nodes now b name variable (length nodes) ≡ false →
    (q : ℕ) → q < length nodes → Has now q → is_literal b name variable
    (node_at nodes q) ≡ false
literal-none nodes now b name variable e q lt has =
    false_from_ne_true _ (λ is. let there : has_literal nodes now b name variable (length nodes) ≡ true =
    literal-there nodes now b name variable (length nodes) q lt has is in cc)

module _ (nodes : List Node) (parts : (k : ℕ) → k < length nodes → PartsBelow k
    (node_at nodes k)) where
  -- member f is done
  grown : (f : ℕ) (doing now later doing' later' : Members) (b : Branch)
      → Built nodes f doing' (insert now f) later' b → ((k : ℕ) → Has doing k → Has doing' k) →
      ((k : ℕ) → Has later k → Has later' k) → Says nodes b f (node_at nodes f) → Built nodes
      (suc f) doing now later b
  grown f doing now later doing' later' b s more more' here =
      record {
        keeps = λ k h. s.keeps k (has-old now f k h);
        leaves = λ k h. s.leaves k (more' k h);
        does = λ k lt h. elim (cases_eq k f) [
          | inl e ↦
              let P : ℕ → Type 0 =
              Has b.now in subst P (sym e) (s.keeps f (has-new now f))
          | inr apart ↦
              s.does k (omega arith) (more k h)
        ];
        only = λ k le h. elim (has-cases now f k (s.only k (omega arith) h)) [
          | inl e ↦
              absurd (omega arith)
          | inr old ↦ old
        ];
        says = λ k lt h. elim (cases_eq k f) [
          | inl e ↦
              let P : ℕ → Type 0 =
              λ q. Says nodes b q (node_at nodes q) in subst P (sym e) here
          | inr apart ↦
              s.says k (omega arith) h
        ];
      }

  module _ (f : ℕ) (lt : f < length nodes) (rest : Members → Members → List Branch)
      (doing now later : Members) (b : Branch) (ih : (doing' later' : Members) → Contains
      (rest doing' later') b → Built nodes f doing' (insert now f) later' b) where
    built : (node : Node) → node_at nodes f ≡ node → PartsBelow f node
        → Contains (expand nodes now f rest doing later node) b → Built nodes
        (suc f) doing now later b
    built always e below c =
        let P : Node → Type 0 = Says nodes b f in
        grown f doing now later doing later b (ih doing later c) (λ k h. h) (λ k h. h) (subst P
        (sym e) tt)
    built never e below c = absurd (contains-none b c)
    built (literal s n v) e below c = step (has_literal nodes now (not s) n v (length nodes)) refl
      where
        clear : has_literal nodes now (not s) n v (length nodes) ≡ false
            → Contains (rest doing later) b → Built nodes (suc f) doing now later b
        clear none there =
            let P : Node → Type 0 = Says nodes b f in
            let done = ih doing later there in
            let above : Says nodes b f (literal s n v) =
            λ q over lt' has. elim (has-cases now f q (done.only q (omega arith) has)) [
              | inl same ↦
                  absurd (omega arith)
              | inr old ↦
                  literal-none nodes now (not s) n v none q lt' old
            ] in
            grown f doing now later doing later b done (λ k h. h) (λ k h. h) (subst P (sym e) above)

        step : (x : Bool) → has_literal nodes now (not s) n v (length nodes) ≡ x
            → Built nodes (suc f) doing now later b
        step true is = let Q : Bool → Type 0 =
            λ x. Contains (cond x [] (rest doing later)) b in absurd (contains-none b (subst Q is c))
        step false is = let Q : Bool → Type 0 =
            λ x. Contains (cond x [] (rest doing later)) b in clear is (subst Q is c)
    built (and g h) e (p, q) c =
        let P : Node → Type 0 = Says nodes b f in
        let done = ih (insert (insert doing g) h) later c in
        grown f doing now later _ later b done (λ k x. has-old _ h k (has-old doing g k x))
        (λ k x. x)
        (subst P (sym e) (
          done.does g p (has-old _ h g (has-new doing g)),
          done.does h q (has-new _ h),
        ))
    built (or g h) e (p, q) c =
        let P : Node → Type 0 = Says nodes b f in
        elim (Contains-append_cases _ _ b c) [
          | inl l ↦
              let done = ih (insert doing g) later l in
              grown f doing now later _ later b done (λ k x. has-old doing g k x) (λ k x. x)
              (subst P (sym e) (inl (done.does g p (has-new doing g))))
          | inr r ↦
              let done = ih (insert doing h) later r in
              grown f doing now later _ later b done (λ k x. has-old doing h k x) (λ k x. x)
              (subst P (sym e) (inr (done.does h q (has-new doing h))))
        ]
    built (next g) e below c =
        let P : Node → Type 0 = Says nodes b f in
        let done = ih doing (insert later g) c in
        grown f doing now later doing _ b done (λ k x. x) (λ k x. has-old later g k x) (subst P
        (sym e) (done.leaves g (has-new later g)))
    built (weak_next g) e below c =
        let P : Node → Type 0 = Says nodes b f in
        let done = ih doing (insert later g) c in
        grown f doing now later doing _ b done (λ k x. x) (λ k x. has-old later g k x) (subst P
        (sym e) (done.leaves g (has-new later g)))
    built (until g h) e (p, q) c =
        let P : Node → Type 0 = Says nodes b f in
        elim (Contains-append_cases _ _ b c) [
          | inl l ↦
              let done = ih (insert doing h) later l in
              grown f doing now later _ later b done (λ k x. has-old doing h k x) (λ k x. x)
              (subst P (sym e) (inl (done.does h q (has-new doing h))))
          | inr r ↦
              let done = ih (insert doing g) (insert later f) r in
              grown f doing now later _ _ b done (λ k x. has-old doing g k x)
              (λ k x. has-old later f k x)
              (subst P (sym e) (inr (
                done.does g p (has-new doing g),
                done.leaves f (has-new later f),
              )))
        ]
    built (release g h) e (p, q) c =
        let P : Node → Type 0 = Says nodes b f in
        elim (Contains-append_cases _ _ b c) [
          | inl l ↦
              let done = ih (insert (insert doing g) h) later l in
              grown f doing now later _ later b done (λ k x. has-old _ h k (has-old doing g k x))
              (λ k x. x)
              (subst P (sym e) (
                done.does h q (has-new _ h),
                inl (done.does g p (has-old _ h g (has-new doing g))),
              ))
          | inr r ↦
              let done = ih (insert doing h) (insert later f) r in
              grown f doing now later _ _ b done (λ k x. has-old doing h k x)
              (λ k x. has-old later f k x)
              (subst P (sym e) (
                done.does h q (has-new doing h),
                inr (done.leaves f (has-new later f)),
              ))
        ]

  all-built : (f : ℕ) → f ≤ length nodes → (doing now later : Members) (b : Branch) → ((k : ℕ)
      → Has now k → f ≤ k) → Contains
      (branches_below nodes f doing now later) b → Built nodes f doing now later b
  all-built zero le doing now later b above c =
      let same = contains-one (record { now = now; later = later }) b c in
      let P : Branch → Type 0 = λ x. Built nodes 0 doing now later x in
      subst P same (record {
        keeps = λ k h. h;
        leaves = λ k h. h;
        does =
            λ k lt h. absurd (omega arith);
        only = λ k le h. h;
        says =
            λ k lt h. absurd (omega arith);
      })
  all-built (suc f) le doing now later b above c =
      step (contains doing f) refl (λ d n l above'. all-built f (omega arith) d n l b above')
    where
      over : (k : ℕ) → Has (insert now f) k → f ≤ k
      over k h = elim (has-cases now f k h) [
        | inl e ↦ omega arith
        | inr old ↦
            omega (arith, above k old)
      ]

      not_now : ¬ Has now f
      not_now h = omega (arith, above f h)

      step : (x : Bool) → contains doing f ≡ x → ((d n l : Members) → ((k : ℕ) → Has n k → f ≤ k)
          → Contains (branches_below nodes f d n l) b → Built nodes f d n l b) → Built nodes
          (suc f) doing now later b
      step true e ih =
          let P : Bool → Type 0 =
          λ x. Contains (cond x (expand nodes now f (λ t l. branches_below nodes f t
          (insert now f) l) doing later (node_at nodes f))
          (branches_below nodes f doing now later)) b in
          built f (omega arith) _ doing now later b (λ d l. ih d (insert now f) l over)
          (node_at nodes f) refl (parts f (omega arith)) (subst P e c)
      step false e ih =
          let P : Bool → Type 0 =
          λ x. Contains (cond x (expand nodes now f (λ t l. branches_below nodes f t
          (insert now f) l) doing later (node_at nodes f))
          (branches_below nodes f doing now later)) b in
          let s = ih doing now later (λ k h. omega (arith, above k h)) (subst P e c) in
          record {
            keeps = s.keeps;
            leaves = s.leaves;
            does = λ k lt h. elim (cases_eq k f) [
              | inl eq ↦
                  absurd (let Q : ℕ → Type 0 = Has doing in let x : contains doing f ≡ true =
                  subst Q eq h in cc)
              | inr apart ↦ s.does k (omega arith) h
            ];
            only = λ k le h. s.only k (omega arith) h;
            says = λ k lt h. elim (cases_eq k f) [
              | inl eq ↦
                  absurd (let Q : ℕ → Type 0 =
                  Has b.now in not_now (s.only f (omega arith) (subst Q eq h)))
              | inr apart ↦
                  s.says k (omega arith) h
            ];
          }

-- ---- the rules of the nodes

pub literal-node : (b : Bool) (name variable : ℕ) (node : Node)
    → is_literal b name variable node ≡ true → node ≡ literal b name variable
literal-node true name variable (literal true n v) e =
    let names = and_parts (nat_eq n name) (nat_eq v variable) e in
    let same_name : n ≡ name = eqb-true n name names.0 in
    let same_variable : v ≡ variable = eqb-true v variable names.1 in
    cc
literal-node false name variable (literal false n v) e =
    let names = and_parts (nat_eq n name) (nat_eq v variable) e in
    let same_name : n ≡ name = eqb-true n name names.0 in
    let same_variable : v ≡ variable = eqb-true v variable names.1 in
    cc
literal-node b name variable _ e = absurd (cc)

pub literal-itself : (b : Bool) (name variable : ℕ)
    → is_literal b name variable (literal b name variable) ≡ true
literal-itself true name variable =
    and_from _ _ (eq-eqb name name refl) (eq-eqb variable variable refl)
literal-itself false name variable =
    and_from _ _ (eq-eqb name name refl) (eq-eqb variable variable refl)

-- a literal is among the members where the number that it has is
pub literal-known : (nodes : List Node) (now : Members) (b : Bool) (name variable i : ℕ)
    → IsNumberOf nodes (literal b name variable) (Some i)
    → contains now i ≡ has_literal nodes now b name variable (length nodes)
literal-known nodes now b name variable i (lt, only) =
    same-truth _ _
    (λ has.
    let P : Node → Type 0 = λ n. is_literal b name variable n ≡ true in
    literal-there nodes now b name variable (length nodes) i lt has
    (subst P (sym ((only i lt).1 refl)) (literal-itself b name variable)))
    (λ e.
    let (k, lt', has, is) = literal-some nodes now b name variable (length nodes) e in
    let P : ℕ → Type 0 = Has now in
    subst P ((only k lt').0 (literal-node b name variable (node_at nodes k) is)) has)

pub literal-unknown : (nodes : List Node) (now : Members) (b : Bool) (name variable : ℕ)
    → IsNumberOf nodes (literal b name variable) None
    → false ≡ has_literal nodes now b name variable (length nodes)
literal-unknown nodes now b name variable none =
    sym (false_from_ne_true _ (λ e.
    let (k, lt, has, is) = literal-some nodes now b name variable (length nodes) e in
    none k lt (literal-node b name variable (node_at nodes k) is)))

-- the letters of a branch
abbrev pub letter : List Node → Branch → ℕ → ℕ → Bool
letter nodes b name variable = has_literal nodes b.now true name variable (length nodes)

-- The branch has the set, and its members keep the rules of their nodes.
pub record Saturated (nodes : List Node) (set : Members) (b : Branch) : Type 0 where
  pub has : (k : ℕ) → k < length nodes → Has set k → Has b.now k
  pub local : (k : ℕ) → k < length nodes → Has b.now k
      → Local (Has b.now) (Has b.later) (letter nodes b) k (node_at nodes k)

module _ (nodes : List Node) (b : Branch) (says :
    (k : ℕ) → k < length nodes → Has b.now k → Says nodes b k (node_at nodes k)) where
  no-clash : (k q : ℕ) → k < length nodes → q < length nodes → Has b.now k → Has b.now q
      → (name variable : ℕ) → node_at nodes k ≡ literal false name variable
      → node_at nodes q ≡ literal true name variable → ⊥
  no-clash k q ltk ltq hask hasq name variable ek eq =
      let P : Node → Type 0 = λ n. is_literal true name variable n ≡ true in
      let Q : Node → Type 0 = λ n. is_literal false name variable n ≡ true in
      let isq : is_literal true name variable (node_at nodes q) ≡ true =
      subst P (sym eq) (literal-itself true name variable) in
      let isk : is_literal false name variable (node_at nodes k) ≡ true =
      subst Q (sym ek) (literal-itself false name variable) in
      elim (cases_eq k q) [
        | inl same ↦ let R : ℕ → Type 0 =
            λ x. node_at nodes x ≡ literal true name variable in
            let other : node_at nodes k ≡ literal true name variable =
            subst R (sym same) eq in cc
        | inr apart ↦
            elim (cases_lt k q) [
              | inl over ↦
                  let S : Node → Type 0 = Says nodes b k in
                  let not_isq : is_literal true name variable (node_at nodes q) ≡ false =
                  subst S ek (says k ltk hask) q over ltq hasq in
                  cc
              | inr under ↦
                  let S : Node → Type 0 = Says nodes b q in
                  let not_isk : is_literal false name variable (node_at nodes k) ≡ false =
                  subst S eq (says q ltq hasq) k (omega arith) ltk hask in
                  cc
            ]
      ]

  local-of : (k : ℕ) → k < length nodes → Has b.now k → (node : Node) → node_at nodes k ≡ node
      → Says nodes b k node → Local (Has b.now) (Has b.later) (letter nodes b) k node
  local-of k lt has (literal true name variable) e s =
      let P : Node → Type 0 = λ n. is_literal true name variable n ≡ true in
      literal-there nodes b.now true name variable (length nodes) k lt has (subst P (sym e)
      (literal-itself true name variable))
  local-of k lt has (literal false name variable) e s =
      false_from_ne_true _ (λ is.
      let (q, ltq, hasq, isq) = literal-some nodes b.now true name variable (length nodes) is in
      no-clash k q lt ltq has hasq name variable e (literal-node true name variable
      (node_at nodes q) isq))
  local-of k lt has always e s = tt
  local-of k lt has never e s = s
  local-of k lt has (and g h) e s = s
  local-of k lt has (or g h) e s = s
  local-of k lt has (next g) e s = s
  local-of k lt has (weak_next g) e s = s
  local-of k lt has (until g h) e s = s
  local-of k lt has (release g h) e s = s

pub saturated : (nodes : List Node) → ((k : ℕ) → k < length nodes → PartsBelow k (node_at nodes k))
    → (set : Members) (b : Branch) → IsBranch nodes set b → Saturated nodes set b
saturated nodes parts set b is =
    let s = all-built nodes parts (length nodes) (omega arith) set empty empty b (λ k h. absurd
    (has-none k h)) (branch-from nodes set b is) in
    record {
      has = s.does;
      local =
          λ k lt h. local-of nodes b s.says k lt h (node_at nodes k) refl (s.says k lt h);
    }
