-- The branches of a set, held as one: what rules them out, and what they all have.
use Rattle.std.proofs.Common.{◌≡◌, ℕ, zero, suc, ◌<◌, Bool, true, false, not, cond, List, [], ◌++◌, length, inl, inr, refl, sym, ap, ◌∙◌, subst, arith}
use Rattle.std.specs.Cmp.{nat_cmp_total}
use Rattle.std.specs.FinSet.{insert, contains, same_set, nat_cmp-IsAntisymmetric}
use Rattle.std.proofs.lemmas.Bool.{cases_eq}
use Rattle.hy_base.proofs.Truths.{same-truth}
use Rattle.ltl_closure.specs.Nodes.{Node, always, never, literal, and, or, next, weak_next, until, release, node_at}
use Rattle.ltl_tableau.specs.Branches.{Members, Has, Branch, has_literal, expand}
use Rattle.ltl_tableau.specs.Ways.{ways, Within, Dies}
use Rattle.ltl_tableau.proofs.Sets.{has-new, has-old, has-cases}
use Rattle.ltl_tableau.proofs.Choosing.{literal-some, literal-there}

-- ---- sets

pub same-sets : (s t : Members) → ((k : ℕ) → Has s k → Has t k) → ((k : ℕ) → Has t k → Has s k) → s ≡ t
same-sets s t there back =
    same_set nat_cmp_total nat_cmp-IsAntisymmetric s t
    (λ k. same-truth (contains s k) (contains t k) (there k) (back k))

-- what is there needs no adding
pub known : (s : Members) (x : ℕ) → Has s x → insert s x ≡ s
known s x has =
    same-sets (insert s x) s
    (λ k h. elim (has-cases s x k h) [ inl e ↦ (let P : ℕ → Type 0 = Has s in subst P (sym e) has) | inr old ↦ old ])
    (λ k h. has-old s x k h)

swap-there : (s : Members) (x y k : ℕ) → Has (insert (insert s x) y) k → Has (insert (insert s y) x) k
swap-there s x y k h =
    elim (has-cases (insert s x) y k h) [
      | inl e ↦ let P : ℕ → Type 0 = Has (insert (insert s y) x) in subst P (sym e) (has-old (insert s y) x y (has-new s y))
      | inr more ↦ elim (has-cases s x k more) [
        | inl e ↦ let P : ℕ → Type 0 = Has (insert (insert s y) x) in subst P (sym e) (has-new (insert s y) x)
        | inr old ↦ has-old (insert s y) x k (has-old s y k old)
      ]
    ]

pub swapped : (s : Members) (x y : ℕ) → insert (insert s x) y ≡ insert (insert s y) x
swapped s x y = same-sets _ _ (swap-there s x y) (swap-there s y x)

pub swapped-two : (s : Members) (g h x : ℕ) → insert (insert (insert s g) h) x ≡ insert (insert (insert s x) g) h
swapped-two s g h x = swapped (insert s g) h x ∙ ap (λ t. insert t h) (swapped s g x)

pub within-itself : (s : Members) → Within s s
within-itself s = record { has = λ k h. h }

pub within-through : (s t u : Members) → Within s t → Within t u → Within s u
within-through s t u a b = record { has = λ k h. b.has k (a.has k h) }

pub within-more : (s t : Members) (x : ℕ) → Within s t → Within s (insert t x)
within-more s t x a = record { has = λ k h. has-old t x k (a.has k h) }

-- ---- members that no branch has

both-none : (xs ys : List Branch) → xs ≡ [] → ys ≡ [] → xs ++ ys ≡ []
both-none xs ys e d = ap (λ l. l ++ ys) e ∙ d

cond-none : (b : Bool) (xs : List Branch) → xs ≡ [] → cond b [] xs ≡ []
cond-none true xs e = refl
cond-none false xs e = e

-- where nothing goes on nothing comes from a member
all-none : (nodes : List Node) (f : ℕ) (rest : Members → Members → List Branch) (held more later : Members)
    → Within held more → ((bigger after : Members) → Within held bigger → rest bigger after ≡ []) → (node : Node)
    → expand nodes more f rest more later node ≡ []
all-none nodes f rest held more later inside none always = none more later inside
all-none nodes f rest held more later inside none never = refl
all-none nodes f rest held more later inside none (literal b n v) = cond-none _ _ (none more later inside)
all-none nodes f rest held more later inside none (and g h) = none _ later (within-more _ _ h (within-more _ _ g inside))
all-none nodes f rest held more later inside none (or g h) =
    both-none _ _ (none _ later (within-more _ _ g inside)) (none _ later (within-more _ _ h inside))
all-none nodes f rest held more later inside none (next g) = none more _ inside
all-none nodes f rest held more later inside none (weak_next g) = none more _ inside
all-none nodes f rest held more later inside none (until g h) =
    both-none _ _ (none _ later (within-more _ _ h inside)) (none _ _ (within-more _ _ g inside))
all-none nodes f rest held more later inside none (release g h) =
    both-none _ _ (none _ later (within-more _ _ h (within-more _ _ g inside))) (none _ _ (within-more _ _ h inside))

done-none : (b : Bool) (xs ys : List Branch) → (b ≡ true → xs ≡ []) → (b ≡ false → ys ≡ []) → cond b xs ys ≡ []
done-none true xs ys f g = f refl
done-none false xs ys f g = g refl

-- a member dies where nothing comes from doing it
dies-below : (nodes : List Node) (held : Members) (k : ℕ)
    → ((more later : Members) → Within held more → Has more k → expand nodes more k (ways nodes k) more later (node_at nodes k) ≡ [])
    → (n : ℕ) (more later : Members) → k < n → Within held more → Has more k → ways nodes n more later ≡ []
dies-below nodes held k done zero more later lt inside has = absurd (omega arith)
dies-below nodes held k done (suc f) more later lt inside has =
    elim (cases_eq k f) [
      | inl e ↦
          let P : ℕ → Type 0 = λ q. cond (contains more q) (expand nodes more q (ways nodes q) more later (node_at nodes q)) (ways nodes q more later) ≡ [] in
          subst P e (ap (λ c. cond c (expand nodes more k (ways nodes k) more later (node_at nodes k)) (ways nodes k more later)) has ∙ done more later inside has)
      | inr apart ↦
          let lower : k < f = omega arith in
          done-none (contains more f) _ _
          (λ _. all-none nodes f (ways nodes f) (insert held k) more later
          (record { has = λ q h. elim (has-cases held k q h) [ inl e ↦ (let P : ℕ → Type 0 = Has more in subst P (sym e) has) | inr old ↦ inside.has q old ] })
          (λ bigger after bigger_inside.
          dies-below nodes held k done f bigger after lower
          (record { has = λ q h. bigger_inside.has q (has-old held k q h) }) (bigger_inside.has k (has-new held k)))
          (node_at nodes f))
          (λ _. dies-below nodes held k done f more later lower inside has)
    ]

pub dies : (nodes : List Node) (held : Members) (k : ℕ)
    → ((more later : Members) → Within held more → Has more k → expand nodes more k (ways nodes k) more later (node_at nodes k) ≡ [])
    → Dies nodes held k
dies nodes held k done = record { none = dies-below nodes held k done }

pub dies-more : (nodes : List Node) (held more : Members) (k : ℕ) → Within held more → Dies nodes held k → Dies nodes more k
dies-more nodes held more k inside d = record { none = λ n bigger later lt b h. d.none n bigger later lt (within-through held more bigger inside b) h }

-- by what its node says
dies-by : (nodes : List Node) (held : Members) (k : ℕ) (node : Node) → node_at nodes k ≡ node
    → ((more later : Members) → Within held more → Has more k → expand nodes more k (ways nodes k) more later node ≡ [])
    → Dies nodes held k
dies-by nodes held k node e done =
    let P : Node → Type 0 = λ x. (more later : Members) → Within held more → Has more k → expand nodes more k (ways nodes k) more later x ≡ [] in
    dies nodes held k (subst P (sym e) done)

pub dies-never : (nodes : List Node) (held : Members) (k : ℕ) → node_at nodes k ≡ never → Dies nodes held k
dies-never nodes held k e = dies-by nodes held k never e (λ more later inside h. refl)

literal-more : (nodes : List Node) (s t : Members) (b : Bool) (n v m : ℕ) → Within s t → has_literal nodes s b n v m ≡ true
    → has_literal nodes t b n v m ≡ true
literal-more nodes s t b n v m inside e =
    let (k, lt, h, is) = literal-some nodes s b n v m e in
    literal-there nodes t b n v m k lt (inside.has k h) is

pub dies-literal : (nodes : List Node) (held : Members) (k : ℕ) (b : Bool) (n v : ℕ) → node_at nodes k ≡ literal b n v
    → has_literal nodes held (not b) n v (length nodes) ≡ true → Dies nodes held k
dies-literal nodes held k b n v e clash =
    dies-by nodes held k (literal b n v) e
    (λ more later inside h.
    ap (λ c. cond c [] (ways nodes k more later)) (literal-more nodes held more (not b) n v (length nodes) inside clash))

module _ (nodes : List Node) (held : Members) (k g h : ℕ) (g_lt : g < k) (h_lt : h < k) where
  pub dies-and_left : node_at nodes k ≡ and g h → Dies nodes held g → Dies nodes held k
  dies-and_left e d =
      dies-by nodes held k (and g h) e
      (λ more later inside has. d.none k _ later g_lt (within-more _ _ h (within-more _ _ g inside)) (has-old _ h g (has-new more g)))

  pub dies-and_right : node_at nodes k ≡ and g h → Dies nodes held h → Dies nodes held k
  dies-and_right e d =
      dies-by nodes held k (and g h) e
      (λ more later inside has. d.none k _ later h_lt (within-more _ _ h (within-more _ _ g inside)) (has-new _ h))

  pub dies-or : node_at nodes k ≡ or g h → Dies nodes held g → Dies nodes held h → Dies nodes held k
  dies-or e a b =
      dies-by nodes held k (or g h) e
      (λ more later inside has.
      both-none _ _ (a.none k _ later g_lt (within-more _ _ g inside) (has-new more g))
      (b.none k _ later h_lt (within-more _ _ h inside) (has-new more h)))

  pub dies-until : node_at nodes k ≡ until g h → Dies nodes held g → Dies nodes held h → Dies nodes held k
  dies-until e a b =
      dies-by nodes held k (until g h) e
      (λ more later inside has.
      both-none _ _ (b.none k _ later h_lt (within-more _ _ h inside) (has-new more h))
      (a.none k _ _ g_lt (within-more _ _ g inside) (has-new more g)))

  pub dies-release : node_at nodes k ≡ release g h → Dies nodes held h → Dies nodes held k
  dies-release e b =
      dies-by nodes held k (release g h) e
      (λ more later inside has.
      both-none _ _ (b.none k _ later h_lt (within-more _ _ h (within-more _ _ g inside)) (has-new _ h))
      (b.none k _ _ h_lt (within-more _ _ h inside) (has-new more h)))
