-- Members that need no step.
use Rattle.std.proofs.Common.{◌≡◌, ℕ, zero, suc, ◌+◌, ◌<◌, ◌≤◌, Bool, true, false, not, cond, List, [], ◌∷◌, ◌++◌, length, Option, Some, None, inl, inr, refl, sym, ap, ◌∙◌, subst, arith, slice_index, length-append}
use Rattle.std.specs.FinSet.{insert, contains}
use Rattle.std.proofs.lemmas.Bool.{cases_eq, and_parts}
use Rattle.std.proofs.lemmas.List.{get_or_push, get_or_append_left}
use Rattle.ltl_closure.specs.Nodes.{Node, always, never, literal, and, or, next, weak_next, until, release, node_at}
use Rattle.ltl_tableau.specs.Branches.{Members, Branch, expand}
use Rattle.ltl_tableau.specs.Ways.{ways, Within, IsOpposite, IsPlain, Skip, AreSkips, is_plain}
use Rattle.ltl_tableau.proofs.Saturating.{literal-unknown}
use Rattle.ltl_tableau.proofs.Sets.{has-old}
use Rattle.ltl_tableau.proofs.WaysLemmas.{known}

either-way : (b : Bool) (xs ys : List Branch) → (b ≡ true → xs ≡ ys) → cond b xs ys ≡ ys
either-way true xs ys e = e refl
either-way false xs ys e = refl

plain-by : (nodes : List Node) (held : Members) (k : ℕ) (node : Node) → node_at nodes k ≡ node
    → ((more later : Members) → Within held more → expand nodes more k (ways nodes k) more later node ≡ ways nodes k more later)
    → IsPlain nodes held k
plain-by nodes held k node e same =
    let P : Node → Type 0 = λ x. (more later : Members) → Within held more
    → expand nodes more k (ways nodes k) more later x ≡ ways nodes k more later in
    record {
      same = λ more later inside.
          either-way (contains more k) _ _ (λ _. subst P (sym e) same more later inside);
    }

pub plain-node : (nodes : List Node) (held : Members) (k : ℕ) (o : Option ℕ) (node : Node) → node_at nodes k ≡ node
    → IsOpposite nodes node o → is_plain held o node ≡ true → IsPlain nodes held k
plain-node nodes held k o always e is plain = plain-by nodes held k always e (λ more later inside. refl)
plain-node nodes held k o never e is plain = absurd (cc)
plain-node nodes held k None (literal b n v) e is plain =
    plain-by nodes held k (literal b n v) e
    (λ more later inside. ap (λ c. cond c [] (ways nodes k more later)) (sym (literal-unknown nodes more (not b) n v is)))
plain-node nodes held k (Some o) (literal b n v) e is plain = absurd (cc)
plain-node nodes held k o (and g h) e is plain =
    let (left, right) = and_parts (contains held g) (contains held h) plain in
    plain-by nodes held k (and g h) e
    (λ more later inside.
    ap (λ s. ways nodes k s later)
    (known (insert more g) h (has-old more g h (inside.has h right)) ∙ known more g (inside.has g left)))
plain-node nodes held k o (or g h) e is plain = absurd (cc)
plain-node nodes held k o (next g) e is plain = absurd (cc)
plain-node nodes held k o (weak_next g) e is plain = absurd (cc)
plain-node nodes held k o (until g h) e is plain = absurd (cc)
plain-node nodes held k o (release g h) e is plain = absurd (cc)

-- ---- the numbers that are passed over

pub skip-none : (nodes : List Node) (held : Members) (b m : ℕ) → m ≡ b → Skip nodes held b m
skip-none nodes held b m e = record { lower = omega arith; plain = λ k from lt. absurd (omega arith) }

pub skip-one : (nodes : List Node) (held : Members) (b c m : ℕ) → Skip nodes held b m → IsPlain nodes held b → c ≡ b + 1 → Skip nodes held c m
skip-one nodes held b c m s p after =
    record {
      lower = omega (arith, s.lower);
      plain = λ k from lt. elim (cases_eq k b) [
        | inl e ↦ let P : ℕ → Type 0 = IsPlain nodes held in subst P (sym e) p
        | inr apart ↦ s.plain k from (omega arith)
      ];
    }

pub skipped-plain : (nodes : List Node) (held : Members) (m n : ℕ) → Skip nodes held n m → (more later : Members) → Within held more
    → ways nodes n more later ≡ ways nodes m more later
skipped-plain nodes held m n s more later inside = down n s.lower s.plain
  where
    down : (n : ℕ) → m ≤ n → ((k : ℕ) → m ≤ k → k < n → IsPlain nodes held k) → ways nodes n more later ≡ ways nodes m more later
    down zero le plain = let e : 0 ≡ m = omega arith in ap (λ x. ways nodes x more later) e
    down (suc f) le plain =
        elim (cases_eq m (suc f)) [
          | inl e ↦ ap (λ x. ways nodes x more later) (sym e)
          | inr apart ↦
              (plain f (omega arith) (omega arith)).same more later inside
              ∙ down f (omega arith) (λ k from lt. plain k from (omega arith))
        ]

-- ---- the table

-- the first entries of the table, and the last of them
pub record SkipsBelow (nodes : List Node) (held : Members) (n : ℕ) (to : List ℕ) (last : ℕ) : Type 0 where
  pub count : length to ≡ suc n
  pub each : (b : ℕ) → b ≤ n → Skip nodes held b (slice_index to b)
  pub end : Skip nodes held n last

pub skips-first : (nodes : List Node) (held : Members) (to none : List ℕ) → none ≡ [] → to ≡ none ++ 0 ∷ [] → SkipsBelow nodes held 0 to 0
skips-first nodes held to none nothing e =
    let P : List ℕ → Type 0 = λ l. SkipsBelow nodes held 0 l 0 in
    subst P (sym (e ∙ ap (λ l. l ++ 0 ∷ []) nothing))
    (record {
      count = refl;
      each = λ b le. let z : 0 ≡ b = omega arith in
          let Q : ℕ → Type 0 = λ x. Skip nodes held x (slice_index (0 ∷ []) x) in subst Q z (skip-none nodes held 0 0 refl);
      end = skip-none nodes held 0 0 refl;
    })

pub skips-push : (nodes : List Node) (held : Members) (n m : ℕ) (to new : List ℕ) (last entry : ℕ) → SkipsBelow nodes held n to last
    → Skip nodes held m entry → new ≡ to ++ entry ∷ [] → m ≡ n + 1 → SkipsBelow nodes held m new entry
skips-push nodes held n m to new last entry s skip e step =
    let P : List ℕ → Type 0 = λ l. SkipsBelow nodes held m l entry in
    subst P (sym e)
    (record {
      count = omega (arith, length-append to (entry ∷ []), s.count);
      each = λ b le. elim (cases_eq b m) [
        | inl at ↦
            let Q : ℕ → Type 0 = λ x. Skip nodes held x (slice_index (to ++ entry ∷ []) x) in
            let R : ℕ → Type 0 = Skip nodes held m in
            subst Q (sym at) (subst R (sym (get_or_push to entry 0 m (omega (arith, s.count)))) skip)
        | inr apart ↦
            let R : ℕ → Type 0 = Skip nodes held b in
            let lower : b < length to = omega (arith, s.count) in
            subst R (sym (get_or_append_left to (entry ∷ []) 0 b lower)) (s.each b (omega arith))
      ];
      end = skip;
    })

pub skips-all : (nodes : List Node) (held : Members) (n : ℕ) (to : List ℕ) (last : ℕ) → n ≡ length nodes → SkipsBelow nodes held n to last
    → AreSkips nodes held to
skips-all nodes held n to last e s =
    let P : ℕ → Type 0 = λ x. length to ≡ suc x in
    record { count = subst P e s.count; each = λ b le. s.each b (omega arith) }
