-- Queries as they are made: their clauses one part after the other, and why they are refused.
use Rattle.std.proofs.Common.{◌≡◌, ℕ, suc, ◌+◌, ◌*◌, ◌≤◌, List, [], ◌++◌, length, sym, ap, ◌∙◌, subst, inl, inr, arith}
use Rattle.std.specs.Prelude.{ℤ}
use Rattle.std.proofs.lemmas.Bool.{cases_lt}
use Rattle.hy_base.specs.declared.limit.Kind.{Kind}
use Rattle.hy_base.specs.declared.limit.Kind.TheVariants.{CnfVariables, CnfLiterals}
use Rattle.hy_base.specs.Limits.{most}
use Rattle.aig_net.specs.Nets.{variables}
use Rattle.chain_check.specs.Clauses.{Clause}
use Rattle.live_safe.specs.declared.safe_net.SafeNet.{SafeNet}
use Rattle.cnf_frames.specs.declared.facts.Fact.{Fact}
use Rattle.cnf_frames.specs.declared.queries.Asked.{Asked}
use Rattle.cnf_frames.specs.declared.queries.Asked.TheVariants.{Base, Step, Keep}
use Rattle.cnf_frames.specs.declared.queries.FrameError.{FrameError}
use Rattle.cnf_frames.specs.declared.queries.FrameError.TheVariants.{Limit, Memory}
use Rattle.cnf_frames.specs.Counts.{front_literals, pairs, rest_literals}
use Rattle.cnf_frames.specs.Queries.{frames, start_clauses, bad_in, facts_clauses, good_clauses, apart_from, fails_clauses, pairs_before, pair_start, group_of, clauses_of, variables_of, IsPastBy, IsRefusalBy, IsWithin}
use Rattle.chain_check.specs.FewClauses.{for_each, alone, some_further, literals_in}
use Rattle.cnf_frames.proofs.Adding.{both_added}
use Rattle.cnf_frames.proofs.Counting.{AreLike, keep-counted}
use Rattle.cnf_frames.proofs.Pairs.{pairs-counted}

pub like-same : (l m : ℕ) → l ≡ m → AreLike l m
like-same l m e = (λ h. omega (arith, e, h), λ h. omega (arith, e, h))

pub like-after : (l m n : ℕ) → l ≡ m → AreLike m n → AreLike l n
like-after l m n e like = let P : ℕ → Type 0 = λ l. AreLike l n in subst P (sym e) like

past-as : (v l v' l' : ℕ) (kind : Kind) → v ≡ v' → AreLike l l' → IsPastBy v l kind →
    IsPastBy v' l' kind
past-as v l v' l' CnfVariables e like h = omega (arith, e, h)
past-as v l v' l' CnfLiterals e like (few, more) = (
  omega (arith, e, few),
  elim (cases_lt (most CnfLiterals) l')
      [ inl lt ↦ lt | inr le ↦ absurd (omega (arith, like.1 le, more)) ],
)
past-as v l v' l' _ e like h = absurd h

pub refused-as : (v l v' l' : ℕ) (e : FrameError) → v ≡ v' → AreLike l l' → IsRefusalBy v l e →
    IsRefusalBy v' l' e
refused-as v l v' l' (Limit limit) p q (past, is) =
    (past-as v l v' l' limit.kind p q past, is)
refused-as v l v' l' Memory p q h = h

pub within-as : (safe : SafeNet) (asked : Asked) (v l : ℕ) → v ≡ variables_of safe asked →
    AreLike l (literals_in (clauses_of safe asked)) →
    (v ≤ most CnfVariables) × (l ≤ most CnfLiterals) → IsWithin safe asked
within-as safe asked v l p q (few, less) =
    let P : ℕ → Type 0 = λ n. n ≤ most CnfVariables in
    record { few_variables = subst P p few; few_literals = q.0 less }

first-added : (none made xs : List Clause) → none ≡ [] → made ≡ none ++ xs → made ≡ xs
first-added none made xs e f = f ∙ ap (λ l. l ++ xs) e

pub base-made : (safe : SafeNet) (k : ℕ) (none one two all : List Clause) (l : ℤ) → none ≡ [] →
    one ≡ none ++ frames safe.net k → two ≡ one ++ start_clauses safe.net → l ≡ bad_in safe k →
    all ≡ two ++ alone l → all ≡ clauses_of safe (Base k)
unfolding clauses_of
base-made safe k none one two all l e f g same h =
    both_added (frames safe.net k) two all (start_clauses safe.net) (alone (bad_in safe k))
    (g ∙ ap (λ x. x ++ start_clauses safe.net)
    (first-added none one (frames safe.net k) e f))
    (h ∙ ap (λ x. two ++ alone x) same)

pub step-made : (safe : SafeNet) (facts : List Fact) (k : ℕ) (none one two three all : List Clause)
    (l : ℤ) → none ≡ [] → one ≡ none ++ frames safe.net (k + 1) →
    two ≡ one ++ for_each (good_clauses safe facts) (suc k) → l ≡ bad_in safe (k + 1) →
    three ≡ two ++ alone l → all ≡ three ++ for_each (apart_from safe.net k) (suc k) →
    all ≡ clauses_of safe (Step facts k)
unfolding clauses_of
step-made safe facts k none one two three all l e f g same h i =
    let goods : List Clause = for_each (good_clauses safe facts) (suc k) in
    let ends : List Clause = for_each (apart_from safe.net k) (suc k) in
    let bad : List Clause = alone (bad_in safe (suc k)) in
    let up : k + 1 ≡ suc k = omega arith in
    let first : two ≡ frames safe.net (suc k) ++ goods =
    g ∙ ap (λ x. x ++ goods) (first-added none one (frames safe.net (suc k)) e
    (f ∙ ap (λ n. none ++ frames safe.net n) up)) in
    let last : all ≡ two ++ (bad ++ ends) =
    both_added two three all bad ends (h ∙ ap (λ x. two ++ alone x) (same ∙ ap (bad_in safe) up)) i in
    both_added (frames safe.net (suc k)) two all goods (bad ++ ends) first last

pub keep-made : (safe : SafeNet) (facts : List Fact) (group : ℕ) (none one two all : List Clause) →
    none ≡ [] → one ≡ none ++ frames safe.net 1 → two ≡ one ++ facts_clauses safe.net 0 facts →
    all ≡ two ++ (for_each (fails_clauses safe.net (group_of facts group))
    (length (group_of facts group))
    ++ some_further (2 * variables safe.net) (length (group_of facts group))) →
    all ≡ clauses_of safe (Keep facts group)
unfolding clauses_of
keep-made safe facts group none one two all e f g h =
    let fails : List Clause = for_each (fails_clauses safe.net (group_of facts group))
    (length (group_of facts group)) in
    let some : List Clause = some_further (2 * variables safe.net)
    (length (group_of facts group)) in
    both_added (frames safe.net 1) two all (facts_clauses safe.net 0 facts) (fails ++ some)
    (g ∙ ap (λ x. x ++ facts_clauses safe.net 0 facts)
    (first-added none one (frames safe.net 1) e f)) h

pub rest-made : (safe : SafeNet) (facts : List Fact) (group : ℕ) (front none all : List Clause) →
    front ≡ frames safe.net 1 ++ facts_clauses safe.net 0 facts → none ≡ [] →
    all ≡ none ++ (for_each (fails_clauses safe.net (group_of facts group))
    (length (group_of facts group))
    ++ some_further (2 * variables safe.net) (length (group_of facts group))) →
    front ++ all ≡ clauses_of safe (Keep facts group)
unfolding clauses_of
rest-made safe facts group front none all e f g =
    let fails : List Clause = for_each (fails_clauses safe.net (group_of facts group))
    (length (group_of facts group)) in
    let some : List Clause = some_further (2 * variables safe.net)
    (length (group_of facts group)) in
    both_added (frames safe.net 1) front (front ++ all) (facts_clauses safe.net 0 facts)
    (fails ++ some) e (ap (λ x. front ++ x) (first-added none all (fails ++ some) f g))

pub front-made : (safe : SafeNet) (facts : List Fact) (none one front : List Clause) → none ≡ [] →
    one ≡ none ++ frames safe.net 1 → front ≡ one ++ facts_clauses safe.net 0 facts →
    front ≡ frames safe.net 1 ++ facts_clauses safe.net 0 facts
front-made safe facts none one front e f g =
    g ∙ ap (λ x. x ++ facts_clauses safe.net 0 facts) (first-added none one (frames safe.net 1) e f)

-- the literals of a keep query, counted in two parts
pub keep-like : (safe : SafeNet) (facts : List Fact) (group x y : ℕ) →
    x ≡ front_literals safe.net facts → y ≡ rest_literals (group_of facts group) →
    AreLike (x + y) (literals_in (clauses_of safe (Keep facts group)))
keep-like safe facts group x y e f =
    like-after (x + y) _ _
    (ap (λ a. a + y) e ∙ ap (λ b. front_literals safe.net facts + b) f)
    (keep-counted safe facts group)

-- the counts of a step query and of its further variables
pub step-variables : (safe : SafeNet) (facts : List Fact) (k v : ℕ) →
    v ≡ (k + 2) * variables safe.net + pairs k * length safe.net.latches →
    v ≡ variables_of safe (Step facts k)
step-variables safe facts k v e = e ∙ ap (λ p. (k + 2) * variables safe.net
    + p * length safe.net.latches) (sym (pairs-counted k))

pub step-start : (safe : SafeNet) (k v : ℕ) →
    v ≡ (k + 2) * variables safe.net + pairs k * length safe.net.latches →
    pair_start safe.net k (suc k) 0 ≤ v
step-start safe k v e =
    let up : suc k ≡ k + 1 = omega arith in
    let p : pairs_before k (suc k) + 0 ≡ pairs k =
    omega (arith, ap (pairs_before k) up ∙ pairs-counted k) in
    let same : v ≡ pair_start safe.net k (suc k) 0 = e ∙ ap (λ p. (k + 2) * variables safe.net
    + p * length safe.net.latches) (sym p) in
    omega (arith, same)
