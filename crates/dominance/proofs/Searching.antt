-- What a search over pairs of states has shown.
use Rattle.std.proofs.Common.{◌≡◌, ◌⊎◌, ℕ, zero, suc, ◌+◌, ◌<◌, ◌≤◌, Bool, true, false, not, List, length, Some, None, inl, inr, refl, sym, ap, ◌∙◌, subst, arith}
use Rattle.std.specs.Prelude.{slice_index}
use Rattle.std.specs.List.{Contains}
use Rattle.std.proofs.lemmas.Bool.{cases_lt}
use Rattle.std.proofs.lemmas.Option.{slice_get-get_or, get_or_from_slice_get}
use Rattle.dominance.specs.declared.reached.Node.{Node}
use Rattle.dominance.specs.declared.reached.Link.{Link}
use Rattle.dominance.specs.Runs.{Pairing, start_node, Stands, first_told, chosen, Deed, IsFoundFor, IsLeft, IsLeftAt}
use Rattle.dominance.specs.Trails.{node_at, AreLinked, AreReached, Grows, led, IsPath, LeadsOn}
use Rattle.dominance.proofs.Reaching.{leads-on, grows-at, grows-length, path-to}
use Rattle.dominance.proofs.Standing.{stands-start, stands-next, stands-led}

-- Node j leads on to nodes by all choices, and no choices by which runs stand there do it.
pub record IsDone (s : Pairing) (Does : Deed) (nodes : List Node) (j : ℕ) : Type 0 where
  pub inside : j < length nodes
  pub leads : LeadsOn s nodes j (length s.upper_codes)
  pub same : (choice : ℕ → ℕ) (n : ℕ) → Stands s choice n (node_at nodes j) → first_told s ≤ n
      → ¬ Does choice n

pub done-more : (s : Pairing) (Does : Deed) (old new : List Node) → Grows old new → (k : ℕ)
    → ((j : ℕ) → j < k → IsDone s Does old j) → k < length old
    → LeadsOn s new k (length s.upper_codes)
    → ((choice : ℕ → ℕ) (n : ℕ) → Stands s choice n (node_at old k) → first_told s ≤ n
    → ¬ Does choice n)
    → (j : ℕ) → j < k + 1 → IsDone s Does new j
done-more s Does old new g k done lt leads same j below = elim (cases_lt j k) [
  | inl less ↦
      let d = done j less in
      let inside = d.inside in
      let P : Node → Type 0 = λ x. (choice : ℕ → ℕ) (n : ℕ) → Stands s choice n x → first_told s ≤ n
      → ¬ Does choice n in
      record {
        inside = omega (arith, grows-length old new g);
        leads = leads-on s old new g j inside (length s.upper_codes) d.leads;
        same = subst P (sym (grows-at old new g j inside)) d.same;
      }
  | inr ge ↦
      let is : k ≡ j = omega arith in
      let P : Node → Type 0 = λ x. (choice : ℕ → ℕ) (n : ℕ) → Stands s choice n x → first_told s ≤ n
      → ¬ Does choice n in
      let Q : ℕ → Type 0 = IsDone s Does new in
      subst Q is (record {
        inside = omega (arith, grows-length old new g);
        leads = leads;
        same = subst P (sym (grows-at old new g k lt)) same;
      })
]

module _ (s : Pairing) (Does : Deed) (nodes : List Node) (links : List Link)
    (are : AreReached s nodes links) where
  member-at : (x : Node) → Contains nodes x → (i : ℕ) × (i < length nodes) × (node_at nodes i ≡ x)
  member-at x (i, lt, e) = (
    i,
    lt,
    get_or_from_slice_get nodes i x start_node
        (slice_get-get_or nodes i x lt ∙ ap (λ y. Some y) e),
  )

  -- where all are done, the runs stand at one of the nodes after any choices, and none do it
  pub none-found : 0 < length nodes → ((j : ℕ) → j < length nodes → IsDone s Does nodes j)
      → IsFoundFor s Does None
  none-found some done choice below n told does = let (j, lt, st) = at n in
      (done j lt).same choice n st told does
    where
      at : (n : ℕ) → (j : ℕ) × (j < length nodes) × Stands s choice n (node_at nodes j)
      at zero = let P : Node → Type 0 = Stands s choice 0 in
          (0, some, subst P (sym are.first) (stands-start s choice))
      at (suc n) =
          let (j, lt, st) = at n in
          let (i, inside, is) = member-at _ ((done j lt).leads (choice n) (below n)) in
          let P : Node → Type 0 = Stands s choice (suc n) in
          (i, inside, subst P (sym is) (stands-next s choice n (node_at nodes j) st))

  -- the choices of a path to a node where they do it
  pub path-found : (k : ℕ) (path : List ℕ) → IsPath s nodes k path
      → ((choice : ℕ → ℕ) (n : ℕ) → Stands s choice n (node_at nodes k) → (first_told s ≤ n)
      × Does choice n)
      → IsFoundFor s Does (Some path)
  path-found k path (each, leads) does =
      let st = stands-led s (chosen path) path 0 start_node (stands-start s (chosen path))
      (λ i lt. ap (slice_index path) (let e : 0 + i ≡ i = omega arith in e)) in
      let P : Node → Type 0 = Stands s (chosen path) (length path) in
      let Q : ℕ → Type 0 = λ n. Stands s (chosen path) n (led s start_node path) in
      let long : 0 + length path ≡ length path = omega arith in
      let (told, d) = does (chosen path) (length path) (subst P leads (subst Q long st)) in
      (each, told, d)

-- ---- claims that no choices do it

-- What is left of a claim once the first k nodes have been looked at.
abbrev pub IsLeftBy : Pairing → Deed → List Node → ℕ → Bool → Bool → Type 0
IsLeftBy s Does nodes k claimed true =
    (claimed ≡ true) × ((j : ℕ) → j < k → IsDone s Does nodes j)
IsLeftBy s Does nodes k claimed false =
    (claimed ≡ false) ⊎ ((path : List ℕ) × IsFoundFor s Does (Some path))

pub left-start : (s : Pairing) (Does : Deed) (nodes : List Node) (claimed : Bool)
    → IsLeftBy s Does nodes 0 claimed claimed
left-start s Does nodes true = (refl, λ j lt. absurd (omega arith))
left-start s Does nodes false = inl refl

pub left-more : (s : Pairing) (Does : Deed) (old new : List Node) (links : List Link)
    → AreLinked old links → AreReached s old links → Grows old new → (k : ℕ) → k < length old
    → LeadsOn s new k (length s.upper_codes)
    → (claimed now after : Bool) → IsLeftBy s Does old k claimed now
    → IsLeftAt s Does (node_at old k) now after → IsLeftBy s Does new (k + 1) claimed after
left-more s Does old new links linked are g k lt leads claimed true true (is, done) (e, same) =
    (is, done-more s Does old new g k done lt leads same)
left-more s Does old new links linked are g k lt leads claimed true false (is, done) (inl e) =
    absurd (cc)
left-more s Does old new links linked are g k lt leads claimed true false (is, done) (inr does) =
    let (path, leads_there) = path-to s old links linked are k lt in
    inr (path, path-found s Does old links are k path leads_there does)
left-more s Does old new links linked are g k lt leads claimed false true left (e, same) =
    absurd (cc)
left-more s Does old new links linked are g k lt leads claimed false false left there = left

-- where a claim was given up, nothing more is looked for
pub left-given : (s : Pairing) (Does : Deed) (nodes : List Node) (k : ℕ) (claimed now : Bool)
    → not now ≡ true → IsLeftBy s Does nodes k claimed now → IsLeft s Does claimed now
left-given s Does nodes k claimed true e left = absurd (cc)
left-given s Does nodes k claimed false e left = left

-- after all nodes
pub left-all : (s : Pairing) (Does : Deed) (nodes : List Node) (links : List Link)
    → AreReached s nodes links → 0 < length nodes → (k : ℕ) → length nodes ≤ k
    → (claimed now : Bool) → IsLeftBy s Does nodes k claimed now → IsLeft s Does claimed now
left-all s Does nodes links are some k past claimed true (is, done) =
    (is, none-found s Does nodes links are some (λ j lt. done j (omega arith)))
left-all s Does nodes links are some k past claimed false left = left
