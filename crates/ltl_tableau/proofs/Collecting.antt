-- Branches that are collected one list after another.
use Rattle.std.proofs.Common.{◌≡◌, ℕ, zero, suc, ◌<◌, ◌≤◌, ◌⊎◌, Bool, true, false, ◌&&◌, cond, nat_eq, if◌then◌else◌, List, [], ◌∷◌, ◌++◌, length, inl, inr, refl, sym, ap, ◌∙◌, subst, arith, length-append}
use Rattle.std.specs.FinSet.{contains}
use Rattle.std.specs.List.{Contains, list_any}
use Rattle.std.proofs.lemmas.Bool.{cases_lt, cases_eq, eqb-true, eq-eqb, or_cases, and_parts, and_from}
use Rattle.std.proofs.lemmas.List.Elements.{Contains-append_right, Contains-push_cases}
use Rattle.hy_base.proofs.Truths.{same-truth}
use Rattle.hy_bits.specs.Binary.{ones, number}
use Rattle.hy_bits.specs.BinaryLaws.{ones-number}
use Rattle.ltl_closure.specs.Nodes.{Node, node_at}
use Rattle.ltl_tableau.specs.Branches.{Members, Branch, same_branch, with_branch, with_all, expand}
use Rattle.ltl_tableau.specs.declared.settle.Work.{Work}
use Rattle.ltl_tableau.specs.Ways.{ways}
use Rattle.ltl_tableau.specs.Collected.{Collects, HasDone}
use Rattle.ltl_tableau.proofs.Distinct.{equal-branch, same-branch_itself, there-known, all-of}

longer-one : (list : List Branch) (b : Branch) → length list ≤ length (with_branch list b)
longer-one list b = step (list_any (same_branch b) list)
  where
    step : (c : Bool) → length list ≤ length (cond c list (list ++ b ∷ []))
    step true = omega arith
    step false = omega (arith, length-append list (b ∷ []))

pub longer : (list bs : List Branch) → length list ≤ length (with_all list bs)
longer list [] = omega arith
longer list (b ∷ bs) = omega (arith, longer-one list b, longer (with_branch list b) bs)

pub with-append : (list xs ys : List Branch)
    → with_all list (xs ++ ys) ≡ with_all (with_all list xs) ys
with-append list [] ys = refl
with-append list (x ∷ xs) ys = with-append (with_branch list x) xs ys

pub collects-none : (most : ℕ) (list : List Branch) → Collects most list [] list
collects-none most list = record { all = λ _. refl; many = λ lt. lt }

pub collects-enough : (most : ℕ) (list bs : List Branch) → most < length list
    → Collects most list bs list
collects-enough most list bs lt = record {
  all = λ le. absurd (omega arith);
  many =
      λ _. omega (arith, longer list bs);
}

pub collects-append : (most : ℕ) (old mid new xs ys : List Branch) → Collects most old xs mid
    → Collects most mid ys new → Collects most old (xs ++ ys) new
collects-append most old mid new xs ys p q =
    record {
      all = λ le.
          let e : new ≡ with_all mid ys = q.all le in
          let few : length mid ≤ most = omega (arith, longer mid ys, ap length e) in
          e ∙ ap (λ l. with_all l ys) (p.all few) ∙ sym (with-append old xs ys);
      many = λ lt.
          let e : with_all old (xs ++ ys) ≡ with_all (with_all old xs) ys = with-append old xs ys in
          elim (cases_lt most (length mid)) [
            | inl over ↦ let more =
                p.many over in omega (arith, longer (with_all old xs) ys, ap length e)
            | inr few ↦ let same : with_all mid ys ≡ with_all old (xs ++ ys) =
                ap (λ l. with_all l ys) (p.all few)
                ∙ sym e in let more = q.many lt in omega (arith, ap length same)
          ];
    }

-- ---- a list once more

with-known : (list bs : List Branch) → ((b : Branch) → Contains bs b → Contains list b)
    → with_all list bs ≡ list
with-known list [] known = refl
with-known list (b ∷ bs) known =
    let there = there-known b list (known b (0, omega arith, refl)) in
    ap (λ c. with_all (cond c list (list ++ b ∷ [])) bs) there
    ∙ with-known list bs (λ x h. known x (Contains-append_right (b ∷ []) bs x h))

pub collects-twice : (most : ℕ) (old new xs : List Branch) → Collects most old xs new
    → Collects most old (xs ++ xs) new
collects-twice most old new xs once =
    let twice : with_all old (xs ++ xs) ≡ with_all old xs =
    with-append old xs xs ∙ with-known (with_all old xs) xs (λ b h. all-of old xs b (inr h)) in
    record {
      all = λ le. once.all le ∙ sym twice;
      many = λ lt. let more = once.many lt in omega (arith, ap length twice);
    }

-- one list and then another, where nothing is done for the first if both are the same
pub collects-both : (most : ℕ) (old mid new xs ys : List Branch)
    → Collects most old xs mid ⊎ ((mid ≡ old) × (xs ≡ ys)) → Collects most mid ys new
    → Collects most old (xs ++ ys) new
collects-both most old mid new xs ys (inl first) rest =
    collects-append most old mid new xs ys first rest
collects-both most old mid new xs ys (inr (same, alike)) rest =
    let P : List Branch → Type 0 = λ l. Collects most l ys new in
    let Q : List Branch → Type 0 = λ l. Collects most old (l ++ ys) new in
    subst Q (sym alike) (collects-twice most old new ys (subst P same rest))

-- ---- numbers that are not to do

pub skipped : (nodes : List Node) (held later : Members) (m n : ℕ) → m ≤ n
    → ((k : ℕ) → m ≤ k → k < n → contains held k ≡ false)
    → ways nodes n held later ≡ ways nodes m held later
skipped nodes held later m zero le none =
    let e : 0 ≡ m = omega arith in
    ap (λ x. ways nodes x held later) e
skipped nodes held later m (suc f) le none =
    elim (cases_eq m (suc f)) [
      | inl e ↦ ap (λ x. ways nodes x held later) (sym e)
      | inr apart ↦
          ap (λ c. cond c (expand nodes held f (ways nodes f) held later (node_at nodes f)) (ways nodes f held later))
          (none f (omega arith) (omega arith))
          ∙ skipped nodes held later m f (omega arith) (λ k from lt. none k from (omega arith))
    ]

-- ---- one branch, put into a set

pub number-same : (s t : Members) → nat_eq (number s) (number t) ≡ true → s ≡ t
number-same s t e = sym (ones-number s) ∙ ap ones (eqb-true _ _ e) ∙ ones-number t

-- what `==` of two branches computes
abbrev pub equal : Branch → Branch → Bool
equal a b = nat_eq (number a.now) (number b.now) && nat_eq (number a.later) (number b.later)

pub equal-same : (a b : Branch) → equal a b ≡ true → a ≡ b
equal-same a b e =
    let (n, l) = and_parts (nat_eq (number a.now) (number b.now)) (nat_eq (number a.later)
    (number b.later)) e in
    let now : a.now ≡ b.now = number-same a.now b.now n in
    let later : a.later ≡ b.later = number-same a.later b.later l in
    ap (λ x. let made : Branch = record { now = x; later = a.later } in made) now
    ∙ ap (λ x. let made : Branch = record { now = b.now; later = x } in made) later

pub equal-itself : (a b : Branch) → a ≡ b → equal a b ≡ true
equal-itself a b e =
    and_from _ _ (eq-eqb (number a.now) (number b.now) (ap (λ (x : Branch). number x.now) e))
    (eq-eqb (number a.later) (number b.later) (ap (λ (x : Branch). number x.later) e))

pub equal-is : (a b : Branch) → equal a b ≡ same_branch a b
equal-is a b = same-truth (equal a b) (same_branch a b) (λ e. same-branch_itself a b
    (equal-same a b e)) (λ e. equal-itself a b (equal-branch a b e))

any-same : (f g : Branch → Bool) → ((b : Branch) → f b ≡ g b) → (list : List Branch)
    → list_any f list ≡ list_any g list
any-same f g same list = λ i. list_any (λ b. same b i) list

pub collects-one : (most : ℕ) (old new : List Branch) (b : Branch)
    → new ≡ (if list_any (λ x. equal b x) old then old else old ++ b ∷ []) → Collects most old
    (b ∷ []) new
collects-one most old new b is =
    let e : new ≡ with_branch old b = is
    ∙ ap (λ c. cond c old (old ++ b ∷ [])) (any-same (λ x. equal b x) (same_branch b)
    (equal-is b) old) in
    record { all = λ _. e; many = λ lt. omega (arith, ap length e) }

-- ---- equal work

-- what `==` of two works computes
abbrev pub equal_work : {w : ℕ} → Work w → Work w → Bool
equal_work a b =
    nat_eq a.below b.below && (nat_eq (number a.held) (number b.held) && nat_eq (number a.next) (number b.next))

pub same-work : {w : ℕ} (a b : Work w) → equal_work a b ≡ true → a ≡ b
same-work {w} a b e =
    let (below, more) = and_parts (nat_eq a.below b.below) _ e in
    let (held, next) = and_parts (nat_eq (number a.held) (number b.held)) _ more in
    ap (λ x. let made : Work w = record { below = x; held = a.held; next = a.next } in made) (eqb-true a.below b.below below)
    ∙ ap (λ x. let made : Work w = record { below = b.below; held = x; next = a.next } in made) (number-same a.held b.held held)
    ∙ ap (λ x. let made : Work w = record { below = b.below; held = b.held; next = x } in made) (number-same a.next b.next next)

-- where nothing is left to do there is one branch
pub at-end : (nodes : List Node) (below : ℕ) (held later : Members) → below ≤ 0
    → ways nodes below held later ≡ record { now = held; later = later } ∷ []
at-end nodes zero held later le = refl
at-end nodes (suc f) held later le = absurd (omega arith)

-- ---- choices that are done

-- what was collected is there
pub collected-there : (most : ℕ) (old list new : List Branch) → Collects most old list new → length new ≤ most
    → (b : Branch) → Contains old b ⊎ Contains list b → Contains new b
collected-there most old list new c few b h =
    let P : List Branch → Type 0 = λ l. Contains l b in
    subst P (sym (c.all few)) (all-of old list b h)

pub done-longer : {w : ℕ} (nodes : List Node) (most : ℕ) (old list new : List Branch) (done : List (Work w))
    → Collects most old list new → HasDone nodes most old done → HasDone nodes most new done
done-longer nodes most old list new done c d =
    record {
      there = λ few work h b in_work.
          let e : new ≡ with_all old list = c.all few in
          let before : length old ≤ most = omega (arith, longer old list, ap length e) in
          collected-there most old list new c few b (inl (d.there before work h b in_work));
    }

pub done-enough : {w : ℕ} (nodes : List Node) (most : ℕ) (list : List Branch) (done : List (Work w)) → most < length list
    → HasDone nodes most list done
done-enough nodes most list done lt = record { there = λ few. absurd (omega arith) }

pub collects-known : {w : ℕ} (nodes : List Node) (most : ℕ) (list : List Branch) (done : List (Work w)) (work : Work w)
    → HasDone nodes most list done → Contains done work
    → Collects most list (ways nodes (suc work.below) work.held work.next) list
collects-known nodes most list done work d h =
    record {
      all = λ few. sym (with-known list _ (d.there few work h));
      many = λ lt. omega (arith, longer list (ways nodes (suc work.below) work.held work.next));
    }

pub collects-as : (most : ℕ) (old xs ys new : List Branch) → xs ≡ ys → Collects most old ys new → Collects most old xs new
collects-as most old xs ys new e c = let P : List Branch → Type 0 = λ l. Collects most old l new in subst P (sym e) c

-- The choice is done too, since its branches were collected.
pub done-push : {w : ℕ} (nodes : List Node) (most : ℕ) (old new : List Branch) (done done' : List (Work w)) (work : Work w)
    → Collects most old (ways nodes (suc work.below) work.held work.next) new → HasDone nodes most new done
    → ((x : Work w) → Contains done' x → Contains done x ⊎ (x ≡ work)) → HasDone nodes most new done'
done-push {w} nodes most old new done done' work c d more =
    record {
      there = λ few x h b has. elim (more x h) [
        | inl before ↦ d.there few x before b has
        | inr e ↦
            let P : Work w → Type 0 = λ y. Contains (ways nodes (suc y.below) y.held y.next) b in
            collected-there most old _ new c few b (inr (subst P e has))
      ];
    }

-- what `contains` finds
pub contained : {w : ℕ} (works : List (Work w)) (work : Work w) → list_any (λ x. equal_work work x) works ≡ true → Contains works work
contained [] work e = absurd (cc)
contained (x ∷ xs) work e =
    elim (or_cases (equal_work work x) (list_any (λ y. equal_work work y) xs) e) [
      | inl here ↦ (0, omega arith, sym (same-work work x here))
      | inr more ↦ Contains-append_right (x ∷ []) xs work (contained xs work more)
    ]

-- what `insert` adds
pub inserted-cases : {w : ℕ} (b : Bool) (old new : List (Work w)) (work x : Work w) → new ≡ (if b then old else old ++ work ∷ [])
    → Contains new x → Contains old x ⊎ (x ≡ work)
inserted-cases {w} true old new work x e h = let P : List (Work w) → Type 0 = λ l. Contains l x in inl (subst P e h)
inserted-cases {w} false old new work x e h =
    let P : List (Work w) → Type 0 = λ l. Contains l x in
    elim (Contains-push_cases old work x (subst P e h)) [ inl before ↦ inl before | inr at ↦ inr (sym at) ]
