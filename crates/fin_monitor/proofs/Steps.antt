-- A step of residuals depends on them as sets, and on the literals of the nodes alone.
use Rattle.std.proofs.Common.{◌≡◌, ◌<◌, ◌≤◌, ℕ, zero, suc, Bool, true, false, cond, nat_eq, List, [], ◌∷◌, ◌++◌, length, inl, inr, refl, sym, ap, ◌∙◌, subst, arith}
use Rattle.std.specs.Bool.{beq}
use Rattle.std.specs.List.{Contains}
use Rattle.std.specs.FinSet.{empty, contains, is_subset}
use Rattle.std.proofs.lemmas.List.Elements.{Contains-append_left, Contains-append_right, Contains-append_cases}
use Rattle.hy_base.proofs.Members.{any-from, any-of, contains-here, contains-later, contains-cases, contains-none}
use Rattle.hy_base.proofs.Truths.{same-truth}
use Rattle.hy_bits.specs.Sets.{NumberSet}
use Rattle.ltl_closure.specs.Nodes.{Node, always, never, literal, and, or, next, weak_next, until, release, node_at}
use Rattle.fin_monitor.specs.Duties.{Duty, no_duty, strongly, weakly, joined, after_node, after_below, after, after_members, after_duty, after_each, minimal, residual_step, accepts, Same}
use Rattle.fin_monitor.proofs.Minimal.{minimal-least}

each-from_all : (nodes : List Node) (letter : ℕ → ℕ → Bool) (ds : List Duty) (d : Duty) → Contains (after_each nodes letter ds) d → (x : Duty) × Contains ds x × Contains (after_duty nodes letter x) d
each-from_all nodes letter [] d c = absurd (contains-none d c)
each-from_all nodes letter (x ∷ xs) d c =
    elim (Contains-append_cases (after_duty nodes letter x) (after_each nodes letter xs) d c) [
      | inl here ↦ (x, contains-here x xs, here)
      | inr more ↦ let (y, cy, h) = each-from_all nodes letter xs d more in (y, contains-later x y xs cy, h)
    ]

each-of_all : (nodes : List Node) (letter : ℕ → ℕ → Bool) (ds : List Duty) (x d : Duty) → Contains ds x → Contains (after_duty nodes letter x) d → Contains (after_each nodes letter ds) d
each-of_all nodes letter [] x d c h = absurd (contains-none x c)
each-of_all nodes letter (y ∷ ys) x d c h =
    elim (contains-cases y x ys c) [
      | inl e ↦
          let P : Duty → Type 0 = λ q. Contains (after_duty nodes letter q) d in
          Contains-append_left (after_duty nodes letter y) (after_each nodes letter ys) d (subst P (sym e) h)
      | inr later ↦ Contains-append_right (after_duty nodes letter y) (after_each nodes letter ys) d (each-of_all nodes letter ys x d later h)
    ]

-- Equal sets of duties lead to equal sets of duties.
pub same-step : (nodes : List Node) (letter : ℕ → ℕ → Bool) (r s : List Duty) → Same r s → Same (residual_step nodes letter r) (residual_step nodes letter s)
same-step nodes letter r s same d = (one r s same, one s r (λ q. ((same q).1, (same q).0)))
  where
    all : (r s : List Duty) → Same r s → (q : Duty) → Contains (after_each nodes letter r) q → Contains (after_each nodes letter s) q
    all r s same q c = let (x, cx, h) = each-from_all nodes letter r q c in each-of_all nodes letter s x q ((same x).0 cx) h

    one : (r s : List Duty) → Same r s → Contains (residual_step nodes letter r) d → Contains (residual_step nodes letter s) d
    one r s same c =
        let (cd, least) = (minimal-least (after_each nodes letter r) d).0 c in
        (minimal-least (after_each nodes letter s) d).1 (all r s same d cd, λ e ce w. least e (all s r (λ q. ((same q).1, (same q).0)) e ce) w)

-- equal sets accept alike
pub same-accepts : (r s : List Duty) → Same r s → accepts r ≡ accepts s
same-accepts r s same = same-truth (accepts r) (accepts s) (go r s (λ d. (same d).0)) (go s r (λ d. (same d).1))
  where
    go : (x y : List Duty) → ((d : Duty) → Contains x d → Contains y d) → accepts x ≡ true → accepts y ≡ true
    go x y f e = let (d, c, h) = any-from (λ (d : Duty). is_subset d.strong empty) x e in any-of (λ (d : Duty). is_subset d.strong empty) y d (f d c) h

-- The letters agree at the literals of the nodes.
abbrev pub SameAtoms : List Node → (ℕ → ℕ → Bool) → (ℕ → ℕ → Bool) → Type 0
SameAtoms nodes letter other =
    (k : ℕ) → k < length nodes → (b : Bool) (name variable : ℕ) → node_at nodes k ≡ literal b name variable → letter name variable ≡ other name variable

module _ (nodes : List Node) (letter other : ℕ → ℕ → Bool) (agree : SameAtoms nodes letter other) where
  node-same : (parts parts' : ℕ → List Duty) → ((f : ℕ) → parts f ≡ parts' f) → (k : ℕ) (node : Node) → ((b : Bool) (n v : ℕ) → node ≡ literal b n v → letter n v ≡ other n v)
      → after_node letter parts k node ≡ after_node other parts' k node
  node-same parts parts' e k always a = refl
  node-same parts parts' e k never a = refl
  node-same parts parts' e k (literal b n v) a = ap (λ x. cond (beq x b) (no_duty ∷ []) []) (a b n v refl)
  node-same parts parts' e k (and g h) a = ap (λ x. joined x (parts h)) (e g) ∙ ap (joined (parts' g)) (e h)
  node-same parts parts' e k (or g h) a = ap (λ x. x ++ parts h) (e g) ∙ ap (λ x. parts' g ++ x) (e h)
  node-same parts parts' e k (next g) a = refl
  node-same parts parts' e k (weak_next g) a = refl
  node-same parts parts' e k (until g h) a = ap (λ x. x ++ joined (strongly k ∷ []) (parts g)) (e h) ∙ ap (λ x. parts' h ++ joined (strongly k ∷ []) x) (e g)
  node-same parts parts' e k (release g h) a =
      ap (λ x. joined x (parts g) ++ joined (weakly k ∷ []) x) (e h) ∙ ap (λ x. joined (parts' h) x ++ joined (weakly k ∷ []) (parts' h)) (e g)

  after-same : (k : ℕ) → k ≤ length nodes → (f : ℕ) → after_below nodes letter k f ≡ after_below nodes other k f
  after-same zero le f = refl
  after-same (suc k) le f = step (nat_eq f k) (λ q. after-same k (omega arith) q)
    where
      step : (b : Bool) → ((q : ℕ) → after_below nodes letter k q ≡ after_below nodes other k q)
          → cond b (after_node letter (after_below nodes letter k) k (node_at nodes k)) (after_below nodes letter k f)
          ≡ cond b (after_node other (after_below nodes other k) k (node_at nodes k)) (after_below nodes other k f)
      step true ih = node-same (after_below nodes letter k) (after_below nodes other k) ih k (node_at nodes k) (agree k (omega arith))
      step false ih = ih f

  members-same : (set : NumberSet) (j : ℕ) → after_members nodes letter set j ≡ after_members nodes other set j
  members-same set zero = refl
  members-same set (suc j) = step (contains set j) (members-same set j)
    where
      step : (b : Bool) → after_members nodes letter set j ≡ after_members nodes other set j
          → cond b (joined (after nodes letter j) (after_members nodes letter set j)) (after_members nodes letter set j)
          ≡ cond b (joined (after nodes other j) (after_members nodes other set j)) (after_members nodes other set j)
      step true ih = ap (λ x. joined x (after_members nodes letter set j)) (after-same (length nodes) (omega arith) j) ∙ ap (joined (after nodes other j)) ih
      step false ih = ih

  each-same : (ds : List Duty) → after_each nodes letter ds ≡ after_each nodes other ds
  each-same [] = refl
  each-same (d ∷ ds) =
      let n : ℕ = length nodes in
      ap (λ x. joined x (after_members nodes letter d.weak n) ++ after_each nodes letter ds) (members-same d.strong n)
      ∙ ap (λ x. joined (after_members nodes other d.strong n) x ++ after_each nodes letter ds) (members-same d.weak n)
      ∙ ap (λ x. after_duty nodes other d ++ x) (each-same ds)

  pub step-atoms : (residual : List Duty) → residual_step nodes letter residual ≡ residual_step nodes other residual
  step-atoms residual = ap minimal (each-same residual)
