-- Whether members hold, as truth values, and the rules of their nodes.
use Rattle.std.proofs.Common.{◌≡◌, ℕ, suc, ◌+◌, ◌<◌, ◌≤◌, ◌↔◌, Bool, true, false, inl, inr, refl, sym, ◌∙◌, subst, add-one}
use Rattle.std.proofs.lemmas.Bool.{and_from, not_from_false}
use Rattle.hy_base.proofs.Truths.{same-truth}
use Rattle.hy_formula.specs.Temporal.{endless, Words, Decided, IsDecided, Repeats}
use Rattle.hy_formula.specs.Normals.{Normal, HoldsAt}
use Rattle.ltl_closure.specs.Nodes as node
use Rattle.ltl_closure.specs.Nodes.{Node, always, never, and, or, next, weak_next, until, release, form_of, PartsBelow, Local}
use Rattle.hy_formula.proofs.Unrolling.{until-unrolled, held-unrolled, decided-normal, plain, plain-right}
use Rattle.hy_formula.proofs.Repeating.{Steady, steady-tree}
use Rattle.aig_net.specs.Nets.{Valuation, literal_value}
use Rattle.aig_net.specs.Wires.{wire_value}
use Rattle.sym_tableau.specs.Oracles.{is_temporal, foretold, member_wire}
use Rattle.aig_net.proofs.Literals.{value-opposite}
use Rattle.aig_net.proofs.Disjunctions.{true-or-left, true-or-right}

pub as-bool : {P : Type 0} → Decided P → Bool
as-bool (inl p) = true
as-bool (inr n) = false

pub as-bool-right : {P : Type 0} → (d : Decided P) → (as-bool d ≡ true) ↔ P
unfolding as-bool
as-bool-right (inl p) = (λ e. p, λ p. refl)
as-bool-right (inr n) = (λ e. absurd (cc), λ p. absurd (n p))

-- ---- the wire of a node, by the rule of the node

module _ (v : Valuation) (constant : v 0 ≡ false) (signal : ℕ → ℕ → ℕ) (lit : ℕ → ℕ) (o k : ℕ)
    (T N : ℕ → Type 0) (letter : ℕ → ℕ → Bool) (reads : (n x : ℕ) → letter n x ≡ literal_value v
    (signal n x)) (knows : (g : ℕ) → g < k → T g → literal_value v (lit g) ≡ true) where
  pub from-local : (node : Node) → PartsBelow k node → (is_temporal node ≡ true → N
      (foretold k node) → literal_value v o ≡ true) → Local T N letter k node → wire_value v
      (member_wire signal lit o node) ≡ true
  from-local always below owes h = not_from_false (v 0) constant
  from-local never below owes h = absurd h
  from-local (node.literal true n x) below owes h = sym (reads n x) ∙ h
  from-local (node.literal false n x) below owes h = value-opposite v (signal n x) ∙ not_from_false
      (literal_value v (signal n x)) (sym (reads n x) ∙ h)
  from-local (and g h') (p, q) owes (a, b) = and_from _ _ (knows g p a) (knows h' q b)
  from-local (or g h') (p, q) owes (inl a) = true-or-left _ _ (knows g p a)
  from-local (or g h') (p, q) owes (inr b) = true-or-right _ _ (knows h' q b)
  from-local (next g) below owes h = owes refl h
  from-local (weak_next g) below owes h = owes refl h
  from-local (until g h') (p, q) owes (inl a) = true-or-left _ _ (knows h' q a)
  from-local (until g h') (p, q) owes (inr (a, b)) = true-or-right _ _ (and_from _ _ (knows g p a)
      (owes refl b))
  from-local (release g h') (p, q) owes (a, inl b) = and_from _ _ (knows h' q a)
      (true-or-left _ _ (knows g p b))
  from-local (release g h') (p, q) owes (a, inr b) = and_from _ _ (knows h' q a) (true-or-right _ _
      (owes refl b))

-- ---- what holds, by the rule of the node

module _ (form : ℕ → Normal) (words : Words) (decided : IsDecided endless words) where
  abbrev T : ℕ → ℕ → Type 0
  T i k = HoldsAt endless words (form k) i

  pub holds-local : (k i : ℕ) (member : Node) → form k ≡ form_of form member → T i k → Local (T i)
      (T (suc i)) (λ n x. words n x i) k member
  holds-local k i member e h = at member e (let P : Normal → Type 0 = λ f. HoldsAt endless words f
      i in subst P e h)
    where
      later : {f : Normal} → (g : Normal) → HoldsAt endless words g (i + 1) → f ≡ g → HoldsAt
          endless words f (suc i)
      later {f} g h e = let P : ℕ → Type 0 = HoldsAt endless words f in let Q : Normal → Type 0 =
          λ f. HoldsAt endless words f (i + 1) in subst P (add-one i) (subst Q (sym e) h)

      at : (node : Node) → form k ≡ form_of form node → HoldsAt endless words (form_of form node)
          i → Local (T i) (T (suc i)) (λ n x. words n x i) k node
      at always e h = tt
      at never e h = h
      at (node.literal b n x) e h = h
      at (and g h') e h = h
      at (or g h') e h = h
      at (next g) e (_, h) = later (form g) h refl
      at (weak_next g) e h = later (form g) (h tt) refl
      at (until g h') e h =
          elim ((until-unrolled endless (HoldsAt endless words (form g)) (HoldsAt endless words
          (form h')) i tt).0 h) [
            | inl a ↦ inl a
            | inr (a, (_, b)) ↦ inr (a, later (form_of form (until g h')) b e)
          ]
      at (release g h') e h =
          let (a, b) = (held-unrolled endless (HoldsAt endless words (form g))
          (HoldsAt endless words (form h')) i tt (decided-normal endless words decided (form g)
          i)).0 h in
          (a, elim b [ inl c ↦ inl c | inr d ↦ inr (later (form_of form (release g h')) (d tt) e) ])

  pub local-holds : (k i : ℕ) (member : Node) → form k ≡ form_of form member → Local (T i)
      (T (suc i)) (λ n x. words n x i) k member → T i k
  local-holds k i member e h = let P : Normal → Type 0 = λ f. HoldsAt endless words f i in subst P
      (sym e) (at member e h)
    where
      later : {g : Normal} → (f : Normal) → HoldsAt endless words f (suc i) → f ≡ g → HoldsAt
          endless words g (i + 1)
      later {g} f h e = let P : ℕ → Type 0 = HoldsAt endless words g in let Q : Normal → Type 0 =
          λ f. HoldsAt endless words f (suc i) in subst P (sym (add-one i)) (subst Q e h)

      at : (node : Node) → form k ≡ form_of form node → Local (T i) (T (suc i))
          (λ n x. words n x i) k node → HoldsAt endless words (form_of form node) i
      at always e h = tt
      at never e h = h
      at (node.literal b n x) e h = h
      at (and g h') e h = h
      at (or g h') e h = h
      at (next g) e h = (tt, later (form g) h refl)
      at (weak_next g) e h = λ _. later (form g) h refl
      at (until g h') e (inl a) = (until-unrolled endless (HoldsAt endless words (form g))
          (HoldsAt endless words (form h')) i tt).1 (inl a)
      at (until g h') e (inr (a, b)) = (until-unrolled endless (HoldsAt endless words (form g))
          (HoldsAt endless words (form h')) i tt).1 (inr (a, (tt, later (form k) b e)))
      at (release g h') e (a, b) =
          (held-unrolled endless (HoldsAt endless words (form g)) (HoldsAt endless words (form h'))
          i tt (decided-normal endless words decided (form g) i)).1
          (a, elim b [ inl c ↦ inl c | inr d ↦ inr (λ _. later (form k) d e) ])

  pub truth : ℕ → ℕ → Bool
  truth k i = as-bool (decided-normal endless words decided (form k) i)

  pub truth-right : (k i : ℕ) → (truth k i ≡ true) ↔ HoldsAt endless words (form k) i
  unfolding truth
  truth-right k i = as-bool-right (decided-normal endless words decided (form k) i)

  pub truth-steady : (s c : ℕ) → Repeats words s c → (k i : ℕ) → s ≤ i → truth k (i + c) ≡ truth k i
  truth-steady s c r k i le =
      let p = plain-right endless words decided (form k) in
      let steady : Steady s c _ = steady-tree s c words r (plain (form k)) in
      same-truth (truth k (i + c)) (truth k i)
      (λ e. (truth-right k i).1
      ((p i).1 ((steady i le).0 ((p (i + c)).0 ((truth-right k (i + c)).0 e)))))
      (λ e. (truth-right k (i + c)).1
      ((p (i + c)).1 ((steady i le).1 ((p i).0 ((truth-right k i).0 e)))))
