-- The residual after the letters of finite words accepts exactly where the body holds of them.
use Rattle.std.proofs.Common.{◌≡◌, ℕ, zero, suc, ◌+◌, ◌<◌, ◌≤◌, ◌⊎◌, ◌↔◌, Bool, true, false, cond, nat_eq, List, [], ◌∷◌, length, map, inl, inr, sym, subst, arith}
use Rattle.std.specs.Bool.{beq}
use Rattle.std.specs.FinSet.{empty, contains, is_subset, is_subset-contains, contains-is_subset}
use Rattle.std.specs.Cmp.{nat_cmp_total}
use Rattle.std.proofs.lemmas.List.{length-map}
use Rattle.std.proofs.lemmas.Bool.{and_parts}
use Rattle.hy_base.proofs.Members.{any-from, any-of}
use Rattle.hy_bits.specs.Sets.{NumberSet}
use Rattle.hy_formula.specs.Trees.{Tree}
use Rattle.hy_formula.specs.Temporal.{Span, below, Words, SatisfiesAt}
use Rattle.hy_formula.specs.Normals.{Normal, HoldsAt, normal_form}
use Rattle.hy_formula.specs.Quantifiers.{Each}
use Rattle.hy_formula.proofs.Deciding.{decided-below}
use Rattle.hy_formula.proofs.Normalising.{normal-right}
use Rattle.hy_formula.proofs.Each.{each-append, each-from, each-at}
use Rattle.ltl_closure.specs.Nodes.{Node, always, never, literal, and, or, next, weak_next, until, release, node_at, PartsBelow, Numbers}
use Rattle.ltl_closure.specs.Closures.{closure, form_in, node_of}
use Rattle.ltl_closure.proofs.Closing.{grown-form, number-found, closure-numbers}
use Rattle.fin_monitor.specs.Duties.{Duty, no_duty, strongly, weakly, both, joined, after_node, after_below, after, after_members, after_duty, after_each, within, minimal, residual_after, accepts}
use Rattle.ltl_closure.specs.Bodies.{body_nodes, body_root}
use Rattle.fin_monitor.proofs.Sets.{Has, has-cases, has-none, has-union}
use Rattle.fin_monitor.proofs.Minimal.{minimal-from, minimal-under}
use Rattle.fin_monitor.proofs.Owing.{IsDone, SomeDone, some-done, done-one, done-strongly, each-right}

-- ---- members stay below the length of the closure

module _ (n : ℕ) where
  abbrev pub SetBelow : Duty → Type 0
  SetBelow x = (k : ℕ) → (Has x.strong k ⊎ Has x.weak k) → k < n

  below-nothing : SetBelow no_duty
  below-nothing k (inl h) = absurd (has-none k h)
  below-nothing k (inr h) = absurd (has-none k h)

  below-strongly : (k : ℕ) → k < n → SetBelow (strongly k)
  below-strongly k lt q (inl h) = elim (has-cases empty k q h) [ inl e ↦ omega arith | inr in_none ↦ absurd (has-none q in_none) ]
  below-strongly k lt q (inr h) = absurd (has-none q h)

  below-weakly : (k : ℕ) → k < n → SetBelow (weakly k)
  below-weakly k lt q (inl h) = absurd (has-none q h)
  below-weakly k lt q (inr h) = elim (has-cases empty k q h) [ inl e ↦ omega arith | inr in_none ↦ absurd (has-none q in_none) ]

  below-both : (x y : Duty) → SetBelow x → SetBelow y → SetBelow (both x y)
  below-both x y b c k (inl h) = elim ((has-union x.strong y.strong k).0 h) [ inl a ↦ b k (inl a) | inr a ↦ c k (inl a) ]
  below-both x y b c k (inr h) = elim ((has-union x.weak y.weak k).0 h) [ inl a ↦ b k (inr a) | inr a ↦ c k (inr a) ]

  below-with : (x : Duty) (ys : List Duty) → SetBelow x → Each SetBelow ys → Each SetBelow (map (both x) ys)
  below-with x [] b c = tt
  below-with x (y ∷ ys) b (here, c) = (below-both x y b here, below-with x ys b c)

  below-joined : (xs ys : List Duty) → Each SetBelow xs → Each SetBelow ys → Each SetBelow (joined xs ys)
  below-joined [] ys b c = tt
  below-joined (x ∷ xs) ys (here, b) c = each-append SetBelow (map (both x) ys) (joined xs ys) (below-with x ys here c) (below-joined xs ys b c)

  below-node : (letter : ℕ → ℕ → Bool) (parts : ℕ → List Duty) (k : ℕ) (node : Node) → k < n → PartsBelow k node → ((f : ℕ) → Each SetBelow (parts f)) → Each SetBelow (after_node letter parts k node)
  below-node letter parts k always lt b p = (below-nothing, tt)
  below-node letter parts k never lt b p = tt
  below-node letter parts k (literal c a v) lt b p = cases (beq (letter a v) c)
    where
      cases : (x : Bool) → Each SetBelow (cond x (no_duty ∷ []) [])
      cases true = (below-nothing, tt)
      cases false = tt
  below-node letter parts k (and g h) lt b p = below-joined (parts g) (parts h) (p g) (p h)
  below-node letter parts k (or g h) lt b p = each-append SetBelow (parts g) (parts h) (p g) (p h)
  below-node letter parts k (next g) lt b p = (below-strongly g (omega arith), tt)
  below-node letter parts k (weak_next g) lt b p = (below-weakly g (omega arith), tt)
  below-node letter parts k (until g h) lt b p =
      each-append SetBelow (parts h) (joined (strongly k ∷ []) (parts g)) (p h) (below-joined (strongly k ∷ []) (parts g) (below-strongly k lt, tt) (p g))
  below-node letter parts k (release g h) lt b p =
      each-append SetBelow (joined (parts h) (parts g)) (joined (weakly k ∷ []) (parts h)) (below-joined (parts h) (parts g) (p h) (p g))
      (below-joined (weakly k ∷ []) (parts h) (below-weakly k lt, tt) (p h))

module _ (nodes : List Node) (form : ℕ → Normal) (numbers : Numbers nodes form) (letter : ℕ → ℕ → Bool) where
  abbrev Inside : List Duty → Type 0
  Inside ds = Each (SetBelow (length nodes)) ds

  below-after : (k : ℕ) → k ≤ length nodes → (f : ℕ) → Inside (after_below nodes letter k f)
  below-after zero le f = tt
  below-after (suc k) le f = step (nat_eq f k) (below-after k (omega arith))
    where
      step : (b : Bool) → ((f : ℕ) → Inside (after_below nodes letter k f)) → Inside (cond b (after_node letter (after_below nodes letter k) k (node_at nodes k)) (after_below nodes letter k f))
      step true ih = below-node (length nodes) letter (after_below nodes letter k) k (node_at nodes k) (omega arith) (numbers.parts k (omega arith)) ih
      step false ih = ih f

  below-members : (set : NumberSet) (j : ℕ) → Inside (after_members nodes letter set j)
  below-members set zero = (below-nothing (length nodes), tt)
  below-members set (suc j) = step (contains set j) (below-members set j)
    where
      step : (b : Bool) → Inside (after_members nodes letter set j) → Inside (cond b (joined (after nodes letter j) (after_members nodes letter set j)) (after_members nodes letter set j))
      step true ih = below-joined (length nodes) (after nodes letter j) (after_members nodes letter set j) (below-after (length nodes) (omega arith) j) ih
      step false ih = ih

  below-each : (ds : List Duty) → Inside (after_each nodes letter ds)
  below-each [] = tt
  below-each (d ∷ ds) =
      each-append (SetBelow (length nodes)) (after_duty nodes letter d) (after_each nodes letter ds)
      (below-joined (length nodes) (after_members nodes letter d.strong (length nodes)) (after_members nodes letter d.weak (length nodes)) (below-members d.strong (length nodes)) (below-members d.weak (length nodes)))
      (below-each ds)

module _ (span : Span) (words : Words) (form : ℕ → Normal) (j : ℕ) where
  done-within : (d e : Duty) → within d e ≡ true → IsDone span words form j e → IsDone span words form j d
  done-within d e w done =
      let (a, b) = and_parts (is_subset d.strong e.strong) (is_subset d.weak e.weak) w in
      record {
        strong = λ k h. done.strong k (is_subset-contains nat_cmp_total d.strong e.strong a k h);
        weak = λ k h. done.weak k (is_subset-contains nat_cmp_total d.weak e.weak b k h);
      }

  pub minimal-right : (ds : List Duty) → SomeDone span words form j (minimal ds) ↔ SomeDone span words form j ds
  minimal-right ds = (
    λ h. let (d, c, done) = done-one span words form j (minimal ds) h in some-done span words form j ds d (minimal-from ds d c) done,
    λ h. let (d, c, done) = done-one span words form j ds h in let (x, cx, w) = minimal-under ds d c in some-done span words form j (minimal ds) x cx (done-within x d w done),
  )

each-minimal : (P : Duty → Type 0) (ds : List Duty) → Each P ds → Each P (minimal ds)
each-minimal P ds all = each-from P (minimal ds) (λ d c. each-at P ds d all (minimal-from ds d c))

-- ---- the residuals along words

module _ (m : ℕ) (words : Words) (nodes : List Node) (form : ℕ → Normal) (numbers : Numbers nodes form) (root : ℕ) (lt : root < length nodes) where
  inside : (i : ℕ) → Each (SetBelow (length nodes)) (residual_after nodes root words i)
  inside zero = (below-strongly (length nodes) root lt, tt)
  inside (suc i) =
      each-minimal (SetBelow (length nodes)) (after_each nodes (λ n v. words n v i) (residual_after nodes root words i))
      (below-each nodes form numbers (λ n v. words n v i) (residual_after nodes root words i))

  -- what is left after i letters holds at position i exactly where the root holds at the first
  pub along : (i : ℕ) → i ≤ m → 0 < m → SomeDone (below m) words form i (residual_after nodes root words i) ↔ HoldsAt (below m) words (form root) 0
  along zero le some =
      let r = done-strongly (below m) words form 0 root in
      (λ h. elim h [ inl d ↦ (r.0 d).1 | inr n ↦ absurd n ], λ h. inl (r.1 (some, h)))
  along (suc i) le some =
      let ih = along i (omega arith) some in
      let residual = residual_after nodes root words i in
      let min = minimal-right (below m) words form (suc i) (after_each nodes (λ n v. words n v i) residual) in
      let there : i < m = omega arith in
      let right = each-right (below m) words (decided-below m words) i there form nodes numbers residual (inside i) in
      let add : i + 1 ≡ suc i = omega arith in
      let P : ℕ → Type 0 = λ q. SomeDone (below m) words form q (after_each nodes (λ n v. words n v i) residual) ↔ SomeDone (below m) words form i residual in
      let here = subst P add right in
      (λ h. ih.0 (here.0 (min.0 h)), λ h. min.1 (here.1 (ih.1 h)))

  -- past the end only weak obligations hold
  at-end : (ds : List Duty) → (accepts ds ≡ true) ↔ SomeDone (below m) words form m ds
  at-end ds = (
    λ e.
        let (d, c, no_strong) = any-from (λ (d : Duty). is_subset d.strong empty) ds e in
        some-done (below m) words form m ds d c
        (record { strong = λ k h. absurd (has-none k (is_subset-contains nat_cmp_total d.strong empty no_strong k h)); weak = λ k h past. absurd (omega arith) }),
    λ h.
        let (d, c, done) = done-one (below m) words form m ds h in
        any-of (λ (d : Duty). is_subset d.strong empty) ds d c
        (contains-is_subset nat_cmp_total d.strong empty (λ k has. absurd (let past : m < m = (done.strong k has).0 in omega arith))),
  )

  pub accepting : 0 < m → (accepts (residual_after nodes root words m) ≡ true) ↔ HoldsAt (below m) words (form root) 0
  accepting some =
      let a = along m (omega arith) some in
      let e = at-end (residual_after nodes root words m) in
      (λ h. a.0 (e.0 h), λ h. e.1 (a.1 h))

-- ---- of a body

pub monitoring : (m : ℕ) (words : Words) (body : Tree) → 0 < m → (accepts (residual_after (body_nodes body true) (body_root body true) words m) ≡ true) ↔ SatisfiesAt (below m) words body 0
monitoring m words body some =
    let f : Normal = normal_form true body in
    let members : List Normal = closure (f ∷ []) in
    let grown = grown-form f [] (λ k lt. absurd (omega arith)) in
    let (p, lt, inside, at) = grown.there in
    let (le, found) = number-found members f p inside at in
    let l = length-map members (node_of members) in
    let a = accepting m words (body_nodes body true) (form_in members) (closure-numbers (f ∷ [])) (body_root body true) (omega (arith, l)) some in
    let n = normal-right (below m) words (decided-below m words) true body 0 in
    let P : Normal → Type 0 = λ x. HoldsAt (below m) words x 0 in
    (λ h. n.0 (subst P found (a.0 h)), λ h. a.1 (subst P (sym found) (n.1 h)))
