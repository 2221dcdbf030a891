-- Members that are in each branch of a set.
use Rattle.std.proofs.Common.{◌≡◌, ◌≢◌, ℕ, zero, suc, ◌<◌, ◌≤◌, Bool, true, false, not, cond, List, [], ◌++◌, length, inl, inr, refl, sym, ap, ◌∙◌, subst, arith}
use Rattle.std.specs.FinSet.{insert, contains}
use Rattle.std.proofs.lemmas.Bool.{cases_eq}
use Rattle.hy_base.proofs.Truths.{not-not}
use Rattle.ltl_closure.specs.Nodes.{Node, always, never, literal, and, or, next, weak_next, until, release, node_at}
use Rattle.ltl_tableau.specs.Branches.{Members, Has, Branch, is_literal, has_literal, expand}
use Rattle.ltl_tableau.specs.Ways.{ways, Within, Dies, Forces}
use Rattle.ltl_tableau.proofs.Sets.{has-new, has-old, has-cases, contains-other}
use Rattle.ltl_tableau.proofs.Choosing.{literal-some, literal-there}
use Rattle.ltl_tableau.proofs.Saturating.{literal-node, literal-itself}
use Rattle.ltl_tableau.proofs.WaysLemmas.{known, swapped, swapped-two, within-itself, within-more, dies-literal}

pub both-same : (xs ys us vs : List Branch) → xs ≡ us → ys ≡ vs → xs ++ ys ≡ us ++ vs
both-same xs ys us vs e d = ap (λ l. l ++ ys) e ∙ ap (λ l. us ++ l) d

-- a literal of which the opposite is new
module _ (nodes : List Node) (more : Members) (x f : ℕ) (f_lt : f < length nodes) (lower : x < f) (has : Has more f)
    (b : Bool) (n v : ℕ) (at : node_at nodes f ≡ literal b n v)
    (clear : has_literal nodes more (not b) n v (length nodes) ≡ false)
    (clash : has_literal nodes (insert more x) (not b) n v (length nodes) ≡ true) where
  newly : node_at nodes x ≡ literal (not b) n v
  newly =
      let (k, lt, h, is) = literal-some nodes (insert more x) (not b) n v (length nodes) clash in
      elim (has-cases more x k h) [
        | inl e ↦ let P : ℕ → Type 0 = λ q. is_literal (not b) n v (node_at nodes q) ≡ true in
            literal-node (not b) n v (node_at nodes x) (subst P e is)
        | inr old ↦ let there : has_literal nodes more (not b) n v (length nodes) ≡ true =
            literal-there nodes more (not b) n v (length nodes) k lt old is in absurd (cc)
      ]

  opposed : has_literal nodes (insert more x) (not (not b)) n v (length nodes) ≡ true
  opposed =
      let P : Node → Type 0 = λ q. is_literal b n v q ≡ true in
      let Q : Bool → Type 0 = λ q. has_literal nodes (insert more x) q n v (length nodes) ≡ true in
      subst Q (sym (not-not b))
      (literal-there nodes (insert more x) b n v (length nodes) f f_lt (has-old more x f has)
      (subst P (sym at) (literal-itself b n v)))

  pub none-left : (later : Members) → ways nodes f (insert more x) later ≡ []
  none-left later =
      let d = dies-literal nodes (insert more x) x (not b) n v newly opposed in
      d.none f (insert more x) later lower (within-itself (insert more x)) (has-new more x)

literal-same : (nodes : List Node) (more later : Members) (x f : ℕ) → f < length nodes → x < f → Has more f
    → (b : Bool) (n v : ℕ) → node_at nodes f ≡ literal b n v
    → ways nodes f more later ≡ ways nodes f (insert more x) later
    → (p q : Bool) → has_literal nodes more (not b) n v (length nodes) ≡ p → has_literal nodes (insert more x) (not b) n v (length nodes) ≡ q
    → cond p [] (ways nodes f more later) ≡ cond q [] (ways nodes f (insert more x) later)
literal-same nodes more later x f lt lower has b n v at same true true p q = refl
literal-same nodes more later x f lt lower has b n v at same false false p q = same
literal-same nodes more later x f lt lower has b n v at same false true p q =
    same ∙ none-left nodes more x f lt lower has b n v at p q later
literal-same nodes more later x f lt lower has b n v at same true false p q =
    let (k, lt', h, is) = literal-some nodes more (not b) n v (length nodes) p in
    let there : has_literal nodes (insert more x) (not b) n v (length nodes) ≡ true =
    literal-there nodes (insert more x) (not b) n v (length nodes) k lt' (has-old more x k h) is in
    absurd (cc)

-- where the branches that go on have member x too, so have those of a greater member
module _ (nodes : List Node) (held : Members) (x f : ℕ) (lt : f < length nodes) (lower : x < f)
    (ih : (more later : Members) → Within held more → ways nodes f more later ≡ ways nodes f (insert more x) later) where
  twice : (more later : Members) (g h : ℕ) → Within held more
      → ways nodes f (insert (insert more g) h) later ≡ ways nodes f (insert (insert (insert more x) g) h) later
  twice more later g h inside =
      ih _ later (within-more _ _ h (within-more _ _ g inside))
      ∙ ap (λ t. ways nodes f t later) (swapped-two more g h x)

  once : (more later : Members) (g : ℕ) → Within held more
      → ways nodes f (insert more g) later ≡ ways nodes f (insert (insert more x) g) later
  once more later g inside = ih _ later (within-more _ _ g inside) ∙ ap (λ t. ways nodes f t later) (swapped more g x)

  pub above : (more later : Members) → Within held more → Has more f → (node : Node) → node_at nodes f ≡ node
      → expand nodes more f (ways nodes f) more later node
      ≡ expand nodes (insert more x) f (ways nodes f) (insert more x) later node
  above more later inside has always e = ih more later inside
  above more later inside has never e = refl
  above more later inside has (literal b n v) e =
      literal-same nodes more later x f lt lower has b n v e (ih more later inside) _ _ refl refl
  above more later inside has (and g h) e = twice more later g h inside
  above more later inside has (or g h) e = both-same _ _ _ _ (once more later g inside) (once more later h inside)
  above more later inside has (next g) e = ih more _ inside
  above more later inside has (weak_next g) e = ih more _ inside
  above more later inside has (until g h) e = both-same _ _ _ _ (once more later h inside) (once more _ g inside)
  above more later inside has (release g h) e = both-same _ _ _ _ (twice more later g h inside) (once more _ h inside)

pub cond-same : (b c : Bool) (xs ys us vs : List Branch) → b ≡ c → (b ≡ true → xs ≡ us) → (b ≡ false → ys ≡ vs)
    → cond b xs ys ≡ cond c us vs
cond-same true true xs ys us vs e f d = f refl
cond-same false false xs ys us vs e f d = d refl
cond-same true false xs ys us vs e f d = absurd (cc)
cond-same false true xs ys us vs e f d = absurd (cc)

-- a member forces x where doing it is the same with x
forced-below : (nodes : List Node) (held : Members) (k x : ℕ) → x < k → Has held k
    → ((more later : Members) → Within held more → expand nodes more k (ways nodes k) more later (node_at nodes k)
    ≡ expand nodes (insert more x) k (ways nodes k) (insert more x) later (node_at nodes k))
    → (n : ℕ) → k < n → n ≤ length nodes
    → (more later : Members) → Within held more → ways nodes n more later ≡ ways nodes n (insert more x) later
forced-below nodes held k x lower has done zero lt le more later inside = absurd (omega arith)
forced-below nodes held k x lower has done (suc f) lt le more later inside =
    elim (cases_eq k f) [
      | inl e ↦
          let P : ℕ → Type 0 = λ q. ways nodes (suc q) more later ≡ ways nodes (suc q) (insert more x) later in
          let there : contains more k ≡ true = inside.has k has in
          let there' : contains (insert more x) k ≡ true = has-old more x k there in
          subst P e
          (ap (λ c. cond c (expand nodes more k (ways nodes k) more later (node_at nodes k)) (ways nodes k more later)) there
          ∙ done more later inside
          ∙ ap (λ c. cond c (expand nodes (insert more x) k (ways nodes k) (insert more x) later (node_at nodes k)) (ways nodes k (insert more x) later)) (sym there'))
      | inr apart ↦
          let ih : (more later : Members) → Within held more → ways nodes f more later ≡ ways nodes f (insert more x) later =
          forced-below nodes held k x lower has done f (omega arith) (omega arith) in
          let other : f ≢ x = omega arith in
          cond-same (contains more f) (contains (insert more x) f) _ _ _ _ (sym (contains-other more x f other))
          (λ h. above nodes held x f (omega arith) (omega arith) ih more later inside h (node_at nodes f) refl)
          (λ _. ih more later inside)
    ]

-- by what the node of the member says
forced-by : (nodes : List Node) (held : Members) (k x : ℕ) → x < k → Has held k → (node : Node) → node_at nodes k ≡ node
    → ((more later : Members) → Within held more → expand nodes more k (ways nodes k) more later node
    ≡ expand nodes (insert more x) k (ways nodes k) (insert more x) later node)
    → (n : ℕ) → k < n → n ≤ length nodes → Forces nodes n held x
forced-by nodes held k x lower has node e done n lt le =
    let P : Node → Type 0 = λ q. (more later : Members) → Within held more → expand nodes more k (ways nodes k) more later q
    ≡ expand nodes (insert more x) k (ways nodes k) (insert more x) later q in
    record { same = forced-below nodes held k x lower has (subst P (sym e) done) n lt le }

-- ---- what a node asks for

-- the same set, where one number is put in once more
first-again : (s : Members) (g h : ℕ) → insert (insert s g) h ≡ insert (insert (insert s g) g) h
first-again s g h = ap (λ t. insert t h) (sym (known (insert s g) g (has-new s g)))

second-again : (s : Members) (g h : ℕ) → insert (insert s g) h ≡ insert (insert (insert s h) g) h
second-again s g h =
    swapped s g h ∙ sym (known (insert (insert s h) g) h (has-old (insert s h) g h (has-new s h)))

left-none : (xs ys zs : List Branch) → xs ≡ [] → zs ≡ [] → xs ++ ys ≡ zs ++ ys
left-none xs ys zs e d = ap (λ l. l ++ ys) (e ∙ sym d)

module _ (nodes : List Node) (held : Members) (k g h : ℕ) (g_lt : g < k) (h_lt : h < k) (has : Has held k) (n : ℕ) (lt : k < n)
    (le : n ≤ length nodes) where
  at : (s t later : Members) → s ≡ t → ways nodes k s later ≡ ways nodes k t later
  at s t later e = ap (λ u. ways nodes k u later) e

  again : (s : Members) (g : ℕ) → insert s g ≡ insert (insert s g) g
  again s g = sym (known (insert s g) g (has-new s g))

  pub and-first : node_at nodes k ≡ and g h → Forces nodes n held g
  and-first e = forced-by nodes held k g g_lt has (and g h) e (λ more later inside. at _ _ later (first-again more g h)) n lt le

  pub and-second : node_at nodes k ≡ and g h → Forces nodes n held h
  and-second e = forced-by nodes held k h h_lt has (and g h) e (λ more later inside. at _ _ later (second-again more g h)) n lt le

  pub release-second : node_at nodes k ≡ release g h → Forces nodes n held h
  release-second e =
      forced-by nodes held k h h_lt has (release g h) e
      (λ more later inside. both-same _ _ _ _ (at _ _ later (second-again more g h)) (at _ _ _ (again more h))) n lt le

  pub or-second : node_at nodes k ≡ or g h → Dies nodes held g → Forces nodes n held h
  or-second e d =
      forced-by nodes held k h h_lt has (or g h) e
      (λ more later inside.
      both-same _ _ _ _
      (d.none k _ later g_lt (within-more _ _ g inside) (has-new more g)
      ∙ sym (d.none k _ later g_lt (within-more _ _ g (within-more _ _ h inside)) (has-new _ g)))
      (at _ _ later (again more h))) n lt le

  pub or-first : node_at nodes k ≡ or g h → Dies nodes held h → Forces nodes n held g
  or-first e d =
      forced-by nodes held k g g_lt has (or g h) e
      (λ more later inside.
      both-same _ _ _ _
      (at _ _ later (again more g))
      (d.none k _ later h_lt (within-more _ _ h inside) (has-new more h)
      ∙ sym (d.none k _ later h_lt (within-more _ _ h (within-more _ _ g inside)) (has-new _ h)))) n lt le

  pub until-second : node_at nodes k ≡ until g h → Dies nodes held g → Forces nodes n held h
  until-second e d =
      forced-by nodes held k h h_lt has (until g h) e
      (λ more later inside.
      both-same _ _ _ _
      (at _ _ later (again more h))
      (d.none k _ _ g_lt (within-more _ _ g inside) (has-new more g)
      ∙ sym (d.none k _ _ g_lt (within-more _ _ g (within-more _ _ h inside)) (has-new _ g)))) n lt le

  pub until-first : node_at nodes k ≡ until g h → Dies nodes held h → Forces nodes n held g
  until-first e d =
      forced-by nodes held k g g_lt has (until g h) e
      (λ more later inside.
      both-same _ _ _ _
      (d.none k _ later h_lt (within-more _ _ h inside) (has-new more h)
      ∙ sym (d.none k _ later h_lt (within-more _ _ h (within-more _ _ g inside)) (has-new _ h)))
      (at _ _ _ (again more g))) n lt le
