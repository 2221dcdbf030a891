-- What a member leaves, by what its parts leave.
use Rattle.std.proofs.Common.{◌≡◌, ◌<◌, ◌≤◌, ℕ, zero, suc, Bool, true, false, cond, List, [], ◌∷◌, ◌++◌, length, get_or, inl, inr, refl, sym, ap, ◌∙◌, subst, arith, bit_and}
use Rattle.std.specs.Bool.{beq}
use Rattle.std.specs.FinSet.{contains}
use Rattle.std.proofs.lemmas.Bool.{cases_lt, eq-eqb, ne_eqb, or_left, or_right}
use Rattle.hy_bits.specs.Sets.{NumberSet}
use Rattle.ltl_closure.specs.Nodes.{Node, always, never, literal, and, or, next, weak_next, until, release, node_at, PartsBelow}
use Rattle.hy_formula.specs.Atoms.{IndexedAtom}
use Rattle.fin_monitor.specs.Codes.{letter_of}
use Rattle.fin_monitor.specs.Duties.{Duty, no_duty, strongly, weakly, joined, after_node, after_below, after, after_members, after_each, AreAlike}
use Rattle.fin_monitor.specs.Lefts.{IsAsked, AreAsked, IsAskedNode, IsAskedAll, IsPart, IsFamilyOf, IsLeft}
use Rattle.fin_monitor.proofs.Alike.{alike-through}
use Rattle.fin_monitor.proofs.CodeBits.{agree-part}

-- a node says the same with parts that say the same
pub node-by_parts : (letter : ℕ → ℕ → Bool) (parts others : ℕ → List Duty) (k : ℕ) (node : Node) → PartsBelow k node → ((f : ℕ) → f < k → parts f ≡ others f)
    → after_node letter parts k node ≡ after_node letter others k node
node-by_parts letter parts others k always b e = refl
node-by_parts letter parts others k never b e = refl
node-by_parts letter parts others k (literal c n v) b e = refl
node-by_parts letter parts others k (and g h) (bg, bh) e = λ i. joined (e g bg i) (e h bh i)
node-by_parts letter parts others k (or g h) (bg, bh) e = λ i. e g bg i ++ e h bh i
node-by_parts letter parts others k (next g) b e = refl
node-by_parts letter parts others k (weak_next g) b e = refl
node-by_parts letter parts others k (until g h) (bg, bh) e = λ i. e h bh i ++ joined (strongly k ∷ []) (e g bg i)
node-by_parts letter parts others k (release g h) (bg, bh) e = λ i. joined (e h bh i) (e g bg i) ++ joined (weakly k ∷ []) (e h bh i)

module _ (nodes : List Node) (letter : ℕ → ℕ → Bool) where
  -- a member below j is known below each greater number
  below-more : (j k f : ℕ) → f < j → j ≤ k → after_below nodes letter k f ≡ after_below nodes letter j f
  below-more j zero f lt le = absurd (omega arith)
  below-more j (suc k) f lt le =
      elim (cases_lt k j) [
        | inl less ↦ let same : suc k ≡ j = omega arith in ap (λ n. after_below nodes letter n f) same
        | inr more ↦ ap (λ b. cond b (after_node letter (after_below nodes letter k) k (node_at nodes k)) (after_below nodes letter k f)) (ne_eqb f k (λ e. omega arith)) ∙ below-more j k f lt more
      ]

  pub after-unrolled : (k : ℕ) → k < length nodes → PartsBelow k (node_at nodes k) → after nodes letter k ≡ after_node letter (after nodes letter) k (node_at nodes k)
  after-unrolled k lt parts =
      below-more (suc k) (length nodes) k (omega arith) lt
      ∙ ap (λ b. cond b (after_node letter (after_below nodes letter k) k (node_at nodes k)) (after_below nodes letter k k)) (eq-eqb k k refl)
      ∙ node-by_parts letter (after_below nodes letter k) (after nodes letter) k (node_at nodes k) parts (λ f less. below-kept f less)
    where
      below-kept : (f : ℕ) → f < k → after_below nodes letter k f ≡ after nodes letter f
      below-kept f less = sym (below-more k (length nodes) f less (omega arith))

-- ---- what a mask asks

-- a node says the same after codes that agree on its mask
asked-node : (nodes : List Node) (atoms : List IndexedAtom) (masks : List ℕ) (k : ℕ) (node : Node) (mask : ℕ) → PartsBelow k node → AreAsked nodes atoms masks k → IsAskedNode atoms masks node mask
    → (code other : ℕ) → bit_and code mask ≡ bit_and other mask
    → after_node (letter_of atoms code) (after nodes (letter_of atoms code)) k node ≡ after_node (letter_of atoms other) (after nodes (letter_of atoms other)) k node
asked-node nodes atoms masks k always mask b asked is code other e = refl
asked-node nodes atoms masks k never mask b asked is code other e = refl
asked-node nodes atoms masks k (literal c n v) mask b asked is code other e = ap (λ x. cond (beq x c) (no_duty ∷ []) []) (is code other e)
asked-node nodes atoms masks k (and g h) mask (bg, bh) asked (x, y) code other e =
    λ i. joined (asked g bg code other (agree-part (get_or masks g 0) mask code other x e) i) (asked h bh code other (agree-part (get_or masks h 0) mask code other y e) i)
asked-node nodes atoms masks k (or g h) mask (bg, bh) asked (x, y) code other e =
    λ i. asked g bg code other (agree-part (get_or masks g 0) mask code other x e) i ++ asked h bh code other (agree-part (get_or masks h 0) mask code other y e) i
asked-node nodes atoms masks k (next g) mask b asked is code other e = refl
asked-node nodes atoms masks k (weak_next g) mask b asked is code other e = refl
asked-node nodes atoms masks k (until g h) mask (bg, bh) asked (x, y) code other e =
    λ i. asked h bh code other (agree-part (get_or masks h 0) mask code other y e) i ++ joined (strongly k ∷ []) (asked g bg code other (agree-part (get_or masks g 0) mask code other x e) i)
asked-node nodes atoms masks k (release g h) mask (bg, bh) asked (x, y) code other e =
    let p = asked g bg code other (agree-part (get_or masks g 0) mask code other x e) in
    let q = asked h bh code other (agree-part (get_or masks h 0) mask code other y e) in
    λ i. joined (q i) (p i) ++ joined (weakly k ∷ []) (q i)

pub asked-one : (nodes : List Node) → ((k : ℕ) → k < length nodes → PartsBelow k (node_at nodes k)) → (atoms : List IndexedAtom) (masks : List ℕ) (k mask : ℕ) → k < length nodes
    → AreAsked nodes atoms masks k → IsAskedNode atoms masks (node_at nodes k) mask → IsAsked nodes atoms k mask
asked-one nodes parts atoms masks k mask lt asked is code other e =
    after-unrolled nodes (letter_of atoms code) k lt (parts k lt)
    ∙ asked-node nodes atoms masks k (node_at nodes k) mask (parts k lt) asked is code other e
    ∙ sym (after-unrolled nodes (letter_of atoms other) k lt (parts k lt))

-- a residual does the same after codes that agree on its mask
module _ (nodes : List Node) (atoms : List IndexedAtom) (masks : List ℕ) (long : length masks ≡ length nodes) (asked : AreAsked nodes atoms masks (length nodes)) (mask code other : ℕ) (e : bit_and code mask ≡ bit_and other mask) where
  members-asked : (set : NumberSet) → ((k : ℕ) → k < length masks → contains set k ≡ true → IsPart (get_or masks k 0) mask) → (j : ℕ) → j ≤ length nodes
      → after_members nodes (letter_of atoms code) set j ≡ after_members nodes (letter_of atoms other) set j
  members-asked set parts zero le = refl
  members-asked set parts (suc j) le = step (contains set j) refl (members-asked set parts j (omega arith))
    where
      step : (b : Bool) → contains set j ≡ b → after_members nodes (letter_of atoms code) set j ≡ after_members nodes (letter_of atoms other) set j
          → cond b (joined (after nodes (letter_of atoms code) j) (after_members nodes (letter_of atoms code) set j)) (after_members nodes (letter_of atoms code) set j)
          ≡ cond b (joined (after nodes (letter_of atoms other) j) (after_members nodes (letter_of atoms other) set j)) (after_members nodes (letter_of atoms other) set j)
      step true has ih = λ i. joined (asked j (omega arith) code other (agree-part (get_or masks j 0) mask code other (parts j (omega arith) has) e) i) (ih i)
      step false has ih = ih

  pub each-asked : (ds : List Duty) → IsAskedAll masks ds mask → after_each nodes (letter_of atoms code) ds ≡ after_each nodes (letter_of atoms other) ds
  each-asked [] is = refl
  each-asked (d ∷ ds) (here, is) =
      let s = members-asked d.strong (λ k lt has. here k lt (or_left (contains d.strong k) (contains d.weak k) has)) (length nodes) (omega arith) in
      let w = members-asked d.weak (λ k lt has. here k lt (or_right (contains d.strong k) (contains d.weak k) has)) (length nodes) (omega arith) in
      let ih = each-asked ds is in
      λ i. joined (s i) (w i) ++ ih i

-- ---- families that say what members leave

pub left-by : (nodes : List Node) (atoms : List IndexedAtom) (code k : ℕ) → k < length nodes → (node : Node) → node ≡ node_at nodes k → PartsBelow k node → (list : List Duty)
    → IsFamilyOf list (after_node (letter_of atoms code) (after nodes (letter_of atoms code)) k node) → IsLeft nodes atoms code k list
left-by nodes atoms code k lt node is parts list made =
    let P : List Duty → Type 0 = IsFamilyOf list in
    let Q : Node → Type 0 = PartsBelow k in
    subst P (sym (after-unrolled nodes (letter_of atoms code) k lt (subst Q is parts) ∙ ap (after_node (letter_of atoms code) (after nodes (letter_of atoms code)) k) (sym is))) made

-- alike lists in place of others
pub family-like : (list xs ys : List Duty) → IsFamilyOf list xs → AreAlike xs ys → IsFamilyOf list ys
family-like list xs ys is like = record { family = is.family; alike = alike-through list xs ys is.alike like }
