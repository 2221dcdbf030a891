-- What is explored stays explored as branches and sets are added.
use Rattle.std.proofs.Common.{◌≡◌, ℕ, zero, suc, ◌+◌, ◌<◌, ◌≤◌, ◌⊎◌, ◌↔◌, Bool, true, false, not, ◌||◌, nat_eq, cond, if◌then◌else◌, List, [], ◌∷◌, ◌++◌, length, map, take, get_or, slice_get, Some, inl, inr, refl, sym, ap, ◌∙◌, subst, arith, length-append}
use Rattle.std.specs.List.{Contains, list_any}
use Rattle.std.specs.FinSet.{empty}
use Rattle.std.proofs.lemmas.Bool.{cases_lt, cases_eq, eq-eqb, not-true}
use Rattle.std.proofs.lemmas.List.{get_or_append_left, get_or_past, length-map, map-append, take_more, get_or_default, take_all}
use Rattle.std.proofs.lemmas.List.Elements.{Contains-append_left, Contains-append_right, Contains-push, Contains-push_cases}
use Rattle.std.proofs.lemmas.Option.{get_or_from_slice_get}
use Rattle.hy_base.proofs.Places.{last-of}
use Rattle.hy_bits.specs.Binary.{number}
use Rattle.ltl_closure.specs.Nodes.{Node}
use Rattle.ltl_tableau.specs.Branches.{Members, Branch, same_branch, with_branch, with_all, branches, branches_below, IsBranch}
use Rattle.ltl_tableau.specs.Walks.{no_branch}
use Rattle.ltl_tableau.specs.Reached.{IsReachable, after, branch_at, set_at, group_at, AreDistinct, HasMore, Explores, AreGroups, Grows, PutsBranch, PutsSet}
use Rattle.ltl_tableau.proofs.Collecting.{equal, equal-same, equal-itself, number-same}
use Rattle.ltl_tableau.proofs.Distinct.{there-known}

-- ---- elements of lists

pub contains-at : {A : Type 0} (d : A) (xs : List A) (k : ℕ) (x : A) → k < length xs → get_or xs k d ≡ x → Contains xs x
contains-at d [] k x lt e = absurd (omega arith)
contains-at d (y ∷ ys) zero x lt e = (0, omega arith, e)
contains-at d (y ∷ ys) (suc k) x lt e = Contains-append_right (y ∷ []) ys x (contains-at d ys k x (omega arith) e)

pub place-of : {A : Type 0} (d : A) (xs : List A) (x : A) → Contains xs x → (k : ℕ) × (k < length xs) × (get_or xs k d ≡ x)
place-of d [] x (k, lt, e) = absurd (omega arith)
place-of d (y ∷ ys) x (zero, lt, e) = (0, omega arith, e)
place-of d (y ∷ ys) x (suc k, lt, e) = let (j, below, at) = place-of d ys x (k, omega arith, e) in (suc j, omega arith, at)

-- ---- insertions

module _ {A : Type 0} (eq : A → A → Bool) (itself : (a b : A) → a ≡ b → eq a b ≡ true) (same : (a b : A) → eq a b ≡ true → a ≡ b) where
  any-there : (xs : List A) (x : A) → Contains xs x → list_any (λ y. eq x y) xs ≡ true
  any-there [] x (k, lt, e) = absurd (omega arith)
  any-there (y ∷ ys) x (zero, lt, e) = let here : eq x y ≡ true = itself x y (sym e) in ap (λ b. b || list_any (λ y. eq x y) ys) here
  any-there (y ∷ ys) x (suc k, lt, e) = later (eq x y) (any-there ys x (k, omega arith, e))
    where
      later : (b : Bool) → list_any (λ y. eq x y) ys ≡ true → (b || list_any (λ y. eq x y) ys) ≡ true
      later true t = refl
      later false t = t

  there-any : (xs : List A) (x : A) → list_any (λ y. eq x y) xs ≡ true → Contains xs x
  there-any [] x e = absurd (cc)
  there-any (y ∷ ys) x e = step (eq x y) refl e (there-any ys x)
    where
      step : (b : Bool) → eq x y ≡ b → (b || list_any (λ y. eq x y) ys) ≡ true → (list_any (λ y. eq x y) ys ≡ true → Contains ys x) → Contains (y ∷ ys) x
      step true is t rest = (0, omega arith, sym (same x y is))
      step false is t rest = Contains-append_right (y ∷ []) ys x (rest t)

  new-was : (old : List A) (x : A) → list_any (λ y. eq x y) old ≡ false → ¬ Contains old x
  new-was old x e h = let t = any-there old x h in cc

  put-list : (old new : List A) (x : A) (b : Bool) → new ≡ (if b then old else old ++ x ∷ []) → new ≡ cond (not b) (old ++ x ∷ []) old
  put-list old new x true e = e
  put-list old new x false e = e

  put-there : (old new : List A) (x : A) (b : Bool) → list_any (λ y. eq x y) old ≡ b → new ≡ (if b then old else old ++ x ∷ []) → Contains new x
  put-there old new x true any e = let P : List A → Type 0 = λ l. Contains l x in subst P (sym e) (there-any old x any)
  put-there old new x false any e = let P : List A → Type 0 = λ l. Contains l x in subst P (sym e) (Contains-push old x)

  -- what is there after an insertion
  pub put-holds : (old new : List A) (x : A) → new ≡ (if list_any (λ y. eq x y) old then old else old ++ x ∷ []) → (y : A) → Contains new y ↔ (Contains old y ⊎ (x ≡ y))
  put-holds old new x put y = by (list_any (λ z. eq x z) old) refl put
    where
      by : (b : Bool) → list_any (λ z. eq x z) old ≡ b → new ≡ (if b then old else old ++ x ∷ []) → Contains new y ↔ (Contains old y ⊎ (x ≡ y))
      by true any e =
          let P : List A → Type 0 = λ l. Contains l y in (
            (λ h. inl (subst P e h)),
            (λ h. subst P (sym e) (elim h [ inl there ↦ there | inr is ↦ subst (Contains old) is (there-any old x any) ])),
          )
      by false any e =
          let P : List A → Type 0 = λ l. Contains l y in (
            (λ h. Contains-push_cases old x y (subst P e h)),
            (λ h. subst P (sym e) (elim h [
              | inl there ↦ Contains-append_left old (x ∷ []) y there
              | inr is ↦ subst (Contains (old ++ x ∷ [])) is (Contains-push old x)
            ])),
          )

pub puts-branch : (old new : List Branch) (b : Branch) (n : ℕ) → new ≡ (if list_any (λ y. equal b y) old then old else old ++ b ∷ []) → n < length new
    → (k : Branch) × (slice_get new n ≡ Some k) × (equal b k ≡ true) → PutsBranch old b new n
puts-branch old new b n keys lt (k, at, is) =
    record {
      is_new = not (list_any (λ y. equal b y) old);
      within = lt;
      at = get_or_from_slice_get new n k no_branch at ∙ sym (equal-same b k is);
      list = put-list equal equal-itself equal-same old new b (list_any (λ y. equal b y) old) keys;
      was = λ e. new-was equal equal-itself equal-same old b (not-true (list_any (λ y. equal b y) old) e);
    }

abbrev pub equal_sets : Members → Members → Bool
equal_sets s t = nat_eq (number s) (number t)

sets-itself : (s t : Members) → s ≡ t → equal_sets s t ≡ true
sets-itself s t e = eq-eqb (number s) (number t) (ap number e)

pub puts-set : (old new : List Members) (s : Members) → new ≡ (if list_any (λ t. equal_sets s t) old then old else old ++ s ∷ []) → PutsSet old s new
puts-set old new s keys =
    record {
      is_new = not (list_any (λ t. equal_sets s t) old);
      there = put-there equal_sets sets-itself number-same old new s (list_any (λ t. equal_sets s t) old) refl keys;
      list = put-list equal_sets sets-itself number-same old new s (list_any (λ t. equal_sets s t) old) keys;
      was = λ e. new-was equal_sets sets-itself number-same old s (not-true (list_any (λ t. equal_sets s t) old) e);
    }

-- ---- distinct branches

distinct-push : (list : List Branch) (b : Branch) → AreDistinct list → ¬ Contains list b → AreDistinct (list ++ b ∷ [])
distinct-push list b distinct new v w lt lt' same = cases (cases_lt v (length list)) (cases_lt w (length list))
  where
    l : length (list ++ b ∷ []) ≡ length list + 1
    l = length-append list (b ∷ [])

    at-last : (k : ℕ) → length list ≤ k → k < length (list ++ b ∷ []) → branch_at (list ++ b ∷ []) k ≡ b
    at-last k past inside = let e : length list ≡ k = omega (arith, l) in let P : ℕ → Type 0 = λ q. branch_at (list ++ b ∷ []) q ≡ b in subst P e (last-of list b no_branch)

    clash : (k j : ℕ) → k < length list → length list ≤ j → j < length (list ++ b ∷ []) → branch_at (list ++ b ∷ []) k ≡ branch_at (list ++ b ∷ []) j → ⊥
    clash k j inside past below e = new (contains-at no_branch list k b inside (sym (get_or_append_left list (b ∷ []) no_branch k inside) ∙ e ∙ at-last j past below))

    cases : (v < length list) ⊎ (length list ≤ v) → (w < length list) ⊎ (length list ≤ w) → v ≡ w
    cases (inl p) (inl q) = distinct v w p q (sym (get_or_append_left list (b ∷ []) no_branch v p) ∙ same ∙ get_or_append_left list (b ∷ []) no_branch w q)
    cases (inl p) (inr q) = absurd (clash v w p q lt' same)
    cases (inr p) (inl q) = absurd (clash w v q p lt (sym same))
    cases (inr p) (inr q) = omega (arith, l)

distinct-one : (list : List Branch) (b : Branch) → AreDistinct list → AreDistinct (with_branch list b)
distinct-one list b distinct = step (list_any (same_branch b) list) refl
  where
    step : (c : Bool) → list_any (same_branch b) list ≡ c → AreDistinct (cond c list (list ++ b ∷ []))
    step true e = distinct
    step false e = distinct-push list b distinct (λ h. let t = there-known b list h in cc)

distinct-all : (list bs : List Branch) → AreDistinct list → AreDistinct (with_all list bs)
distinct-all list [] distinct = distinct
distinct-all list (b ∷ bs) distinct = distinct-all (with_branch list b) bs (distinct-one list b distinct)

pub branches-distinct : (nodes : List Node) (set : Members) → AreDistinct (branches nodes set)
branches-distinct nodes set = distinct-all [] (branches_below nodes (length nodes) set empty empty) (λ v w lt. absurd (omega arith))

-- ---- one more branch

module _ (nodes : List Node) (sets sets' : List Members) (list list' : List Branch) (b : Branch) (n : ℕ) (puts : PutsBranch list b list' n) (explores : Explores nodes sets list) (reach : IsReachable nodes (set_at sets 0) b) where
  distinct-after : (c : Bool) → puts.is_new ≡ c → list' ≡ cond c (list ++ b ∷ []) list → AreDistinct list'
  distinct-after true new e = let P : List Branch → Type 0 = AreDistinct in subst P (sym e) (distinct-push list b explores.distinct (puts.was new))
  distinct-after false new e = let P : List Branch → Type 0 = AreDistinct in subst P (sym e) explores.distinct

  one-of : (c : Bool) → list' ≡ cond c (list ++ b ∷ []) list → (x : Branch) → Contains list' x → Contains list x ⊎ (b ≡ x)
  one-of true e x h = let P : List Branch → Type 0 = λ l. Contains l x in Contains-push_cases list b x (subst P e h)
  one-of false e x h = let P : List Branch → Type 0 = λ l. Contains l x in inl (subst P e h)

  reached-after : (x : Branch) → Contains list' x → IsReachable nodes (set_at sets 0) x
  reached-after x h = elim (one-of puts.is_new puts.list x h) [ inl old ↦ explores.reached x old | inr e ↦ let P : Branch → Type 0 = IsReachable nodes (set_at sets 0) in subst P e reach ]

  pub more-than : (m : ℕ) → m < length list' → HasMore nodes (set_at sets 0) m
  more-than m lt = record { some = list'; distinct = distinct-after puts.is_new refl puts.list; reachable = reached-after; more = lt }

  module _ (sets_put : PutsSet sets b.later sets') where
    sets-longer : (c : Bool) → sets' ≡ cond c (sets ++ b.later ∷ []) sets → (length sets ≤ length sets') × (length sets' ≤ length sets + 1)
    sets-longer true e = let l = length-append sets (b.later ∷ []) in (omega (arith, ap length e), omega (arith, ap length e))
    sets-longer false e = (omega (arith, ap length e), omega (arith, ap length e))

    sets-stay : (c : Bool) → sets' ≡ cond c (sets ++ b.later ∷ []) sets → (j : ℕ) → j < length sets → set_at sets' j ≡ set_at sets j
    sets-stay true e j lt = ap (λ l. set_at l j) e ∙ get_or_append_left sets (b.later ∷ []) empty j lt
    sets-stay false e j lt = ap (λ l. set_at l j) e

    set-of : (c : Bool) → sets' ≡ cond c (sets ++ b.later ∷ []) sets → (s : Members) → Contains sets' s → Contains sets s ⊎ (b.later ≡ s)
    set-of true e s h = let P : List Members → Type 0 = λ l. Contains l s in Contains-push_cases sets b.later s (subst P e h)
    set-of false e s h = let P : List Members → Type 0 = λ l. Contains l s in inl (subst P e h)

    set-still : (c : Bool) → sets' ≡ cond c (sets ++ b.later ∷ []) sets → (s : Members) → Contains sets s → Contains sets' s
    set-still true e s h = let P : List Members → Type 0 = λ l. Contains l s in subst P (sym e) (Contains-append_left sets (b.later ∷ []) s h)
    set-still false e s h = let P : List Members → Type 0 = λ l. Contains l s in subst P (sym e) h

    root : set_at sets' 0 ≡ set_at sets 0
    root = sets-stay sets_put.is_new sets_put.list 0 explores.some

    few-after : (c d : Bool) → puts.is_new ≡ c → list' ≡ cond c (list ++ b ∷ []) list → sets_put.is_new ≡ d → sets' ≡ cond d (sets ++ b.later ∷ []) sets → length sets' ≤ suc (length list')
    few-after true d new e new' e' = let l = length-append list (b ∷ []) in let (_, le) = sets-longer d e' in omega (arith, ap length e, explores.few)
    few-after false false new e new' e' = omega (arith, ap length e, ap length e', explores.few)
    few-after false true new e new' e' =
        let P : List Branch → Type 0 = λ l. Contains l b in
        absurd (sets_put.was new' (explores.leaves b (subst P e (contains-at no_branch list' n b puts.within puts.at))))

    pub explores-on : Explores nodes sets' list'
    explores-on =
        record {
          some = let (le, _) = sets-longer sets_put.is_new sets_put.list in omega (arith, explores.some);
          few = few-after puts.is_new sets_put.is_new refl puts.list refl sets_put.list;
          distinct = distinct-after puts.is_new refl puts.list;
          asked = λ s h d is.
              let P : Members → Type 0 = λ r. IsReachable nodes r d in
              subst P (sym root)
              (elim (set-of sets_put.is_new sets_put.list s h) [
                | inl old ↦ explores.asked s old d is
                | inr e ↦ let Q : Members → Type 0 = λ x. IsBranch nodes x d in after b reach (subst Q (sym e) is)
              ]);
          reached = λ x h. let P : Members → Type 0 = λ r. IsReachable nodes r x in subst P (sym root) (reached-after x h);
          leaves = λ x h.
              elim (one-of puts.is_new puts.list x h) [
                | inl old ↦ set-still sets_put.is_new sets_put.list x.later (explores.leaves x old)
                | inr e ↦ let P : Branch → Type 0 = λ y. Contains sets' y.later in subst P e sets_put.there
              ];
        }

grows-list : {A : Type 0} (d : A) (old new : List A) (x : A) (c : Bool) → new ≡ cond c (old ++ x ∷ []) old → (length old ≤ length new) × ((v : ℕ) → v < length old → get_or new v d ≡ get_or old v d)
grows-list d old new x true e = let l = length-append old (x ∷ []) in (omega (arith, ap length e), λ v lt. ap (λ l. get_or l v d) e ∙ get_or_append_left old (x ∷ []) d v lt)
grows-list d old new x false e = (omega (arith, ap length e), λ v lt. ap (λ l. get_or l v d) e)

pub puts-grow : (sets sets' : List Members) (list list' : List Branch) (b : Branch) (s : Members) (n : ℕ) → PutsBranch list b list' n → PutsSet sets s sets' → Grows sets list sets' list'
puts-grow sets sets' list list' b s n p q =
    let (le, stay) = grows-list no_branch list list' b p.is_new p.list in
    let (le', stay') = grows-list empty sets sets' s q.is_new q.list in
    record { more_sets = le'; more = le; sets_stay = stay'; stays = stay }

-- ---- a whole set

pub found-more : (nodes : List Node) (sets : List Members) (list : List Branch) (set : Members) (n : ℕ) → Explores nodes sets list → Contains sets set
    → n < length (branches nodes set) → HasMore nodes (set_at sets 0) n
found-more nodes sets list set n explores there lt =
    record { some = branches nodes set; distinct = branches-distinct nodes set; reachable = λ b h. explores.asked set there b h; more = lt }

pub grows-none : (sets : List Members) (list : List Branch) → Grows sets list sets list
grows-none sets list = record { more_sets = omega arith; more = omega arith; sets_stay = λ j lt. refl; stays = λ v lt. refl }

pub grows-on : (sets sets' sets'' : List Members) (list list' list'' : List Branch) → Grows sets list sets' list' → Grows sets' list' sets'' list'' → Grows sets list sets'' list''
grows-on sets sets' sets'' list list' list'' p q =
    record {
      more_sets = omega (arith, p.more_sets, q.more_sets);
      more = omega (arith, p.more, q.more);
      sets_stay = λ j lt. q.sets_stay j (omega (arith, p.more_sets)) ∙ p.sets_stay j lt;
      stays = λ v lt. q.stays v (omega (arith, p.more)) ∙ p.stays v lt;
    }

-- the branches at places stay
pub map-stays : (list list' : List Branch) → ((v : ℕ) → v < length list → branch_at list' v ≡ branch_at list v) → (vs : List ℕ) → ((v : ℕ) → Contains vs v → v < length list) → map (branch_at list') vs ≡ map (branch_at list) vs
map-stays list list' stays [] inside = refl
map-stays list list' stays (v ∷ vs) inside =
    let here = stays v (inside v (0, omega arith, refl)) in
    let rest = map-stays list list' stays vs (λ w h. inside w (Contains-append_right (v ∷ []) vs w h)) in
    (λ i. here i ∷ rest i)

pub members-push : (list list' : List Branch) (vs : List ℕ) (n : ℕ) (b : Branch) (items : List Branch) (i : ℕ) → ((v : ℕ) → v < length list → branch_at list' v ≡ branch_at list v) → ((v : ℕ) → Contains vs v → v < length list)
    → branch_at list' n ≡ b → i < length items → b ≡ get_or items i b → map (branch_at list) vs ≡ take i items → map (branch_at list') (vs ++ n ∷ []) ≡ take (i + 1) items
members-push list list' vs n b items i stays inside at lt is so_far =
    map-append (branch_at list') vs (n ∷ [])
    ∙ (λ j. map-stays list list' stays vs inside j ++ at j ∷ [])
    ∙ (λ j. so_far j ++ is j ∷ [])
    ∙ sym (take_more items i b lt)

pub inside-push : (m m' : ℕ) (vs : List ℕ) (n : ℕ) → m ≤ m' → n < m' → ((v : ℕ) → Contains vs v → v < m) → (v : ℕ) → Contains (vs ++ n ∷ []) v → v < m'
inside-push m m' vs n le lt inside v h = elim (Contains-push_cases vs n v h) [ inl old ↦ let below = inside v old in omega arith | inr e ↦ omega arith ]

pub groups-push : (nodes : List Node) (n : ℕ) (sets sets' : List Members) (list list' : List Branch) (groups : List (List ℕ)) (members : List ℕ) → Grows sets list sets' list' → AreGroups nodes n sets list groups → length groups < length sets
    → ((v : ℕ) → Contains members v → v < length list') → length members ≤ n → map (branch_at list') members ≡ branches nodes (set_at sets (length groups)) → AreGroups nodes n sets' list' (groups ++ members ∷ [])
groups-push nodes n sets sets' list list' groups members grows are more inside few right = record { inside = in'; few = few'; right = right' }
  where
    l : length (groups ++ members ∷ []) ≡ length groups + 1
    l = length-append groups (members ∷ [])

    -- the group at a place: an old one, the new one, or none
    at : (j : ℕ) → ((j < length groups) × (group_at (groups ++ members ∷ []) j ≡ group_at groups j)) ⊎ ((j ≡ length groups) × (group_at (groups ++ members ∷ []) j ≡ members)) ⊎ (length groups < j) × (group_at (groups ++ members ∷ []) j ≡ [])
    at j =
        elim (cases_lt j (length groups)) [
          | inl old ↦ inl (old, get_or_append_left groups (members ∷ []) [] j old)
          | inr past ↦
              elim (cases_eq j (length groups)) [
                | inl e ↦ inr (inl (e, let P : ℕ → Type 0 = λ q. group_at (groups ++ members ∷ []) q ≡ members in subst P (sym e) (last-of groups members [])))
                | inr apart ↦ inr (inr (omega arith, get_or_past (groups ++ members ∷ []) j [] (omega (arith, l))))
              ]
        ]

    in' : (j v : ℕ) → Contains (group_at (groups ++ members ∷ []) j) v → v < length list'
    in' j v h =
        let P : List ℕ → Type 0 = λ g. Contains g v in
        elim (at j) [
          | inl (lt, e) ↦ let below = are.inside j v (subst P e h) in omega (arith, grows.more)
          | inr (inl (is, e)) ↦ inside v (subst P e h)
          | inr (inr (past, e)) ↦ absurd (let (k, lt, _) = subst P e h in omega arith)
        ]

    few' : (j : ℕ) → length (group_at (groups ++ members ∷ []) j) ≤ n
    few' j = elim (at j) [ inl (lt, e) ↦ omega (arith, ap length e, are.few j) | inr (inl (is, e)) ↦ omega (arith, ap length e) | inr (inr (past, e)) ↦ omega (arith, ap length e) ]

    right' : (j : ℕ) → j < length (groups ++ members ∷ []) → map (branch_at list') (group_at (groups ++ members ∷ []) j) ≡ branches nodes (set_at sets' j)
    right' j below =
        elim (at j) [
          | inl (lt, e) ↦
              ap (map (branch_at list')) e
              ∙ map-stays list list' grows.stays (group_at groups j) (λ v h. are.inside j v h)
              ∙ are.right j lt
              ∙ ap (branches nodes) (sym (grows.sets_stay j (omega arith)))
          | inr (inl (is, e)) ↦ ap (map (branch_at list')) e ∙ right ∙ ap (branches nodes) (ap (set_at sets) (sym is) ∙ sym (grows.sets_stay j (omega arith)))
          | inr (inr (past, e)) ↦ absurd (omega (arith, l))
        ]

-- ---- what a pass over a set has at hand

pub set-there : (keys items : List Members) (j i : ℕ) (s : Members) → items ≡ keys → i ≡ j → s ≡ get_or items i s → j < length keys → Contains keys s
set-there keys items j i s is at here lt = let e : get_or keys j s ≡ s = cc in contains-at s keys j s lt e

pub set-is : (keys items : List Members) (j i : ℕ) (s : Members) → items ≡ keys → i ≡ j → s ≡ get_or items i s → j < length keys → set_at keys j ≡ s
set-is keys items j i s is at here lt = let e : get_or keys j s ≡ s = cc in get_or_default keys j empty s lt ∙ e

pub item-branch : (nodes : List Node) (set : Members) (items found : List Branch) (i : ℕ) (b : Branch) → items ≡ found → found ≡ branches nodes set → i < length items → b ≡ get_or items i b → IsBranch nodes set b
item-branch nodes set items found i b is whole lt at = let P : List Branch → Type 0 = λ l. Contains l b in subst P (is ∙ whole) (contains-at b items i b lt (sym at))

pub at-root : (nodes : List Node) (sets sets' : List Members) (list list' : List Branch) (b : Branch) → Grows sets list sets' list' → 0 < length sets → IsReachable nodes (set_at sets 0) b → IsReachable nodes (set_at sets' 0) b
at-root nodes sets sets' list list' b grows some h = let P : Members → Type 0 = λ r. IsReachable nodes r b in subst P (sym (grows.sets_stay 0 some)) h

pub more-at_root : (nodes : List Node) (sets sets' : List Members) (list list' : List Branch) (n : ℕ) → Grows sets list sets' list' → 0 < length sets → HasMore nodes (set_at sets' 0) n → HasMore nodes (set_at sets 0) n
more-at_root nodes sets sets' list list' n grows some h = let P : Members → Type 0 = λ r. HasMore nodes r n in subst P (grows.sets_stay 0 some) h

pub all-members : (nodes : List Node) (set : Members) (list items found : List Branch) (vs : List ℕ) (i : ℕ) → items ≡ found → found ≡ branches nodes set → length items ≤ i → map (branch_at list) vs ≡ take i items → map (branch_at list) vs ≡ branches nodes set
all-members nodes set list items found vs i is whole end so_far = so_far ∙ take_all i items end ∙ is ∙ whole

pub few-members : (list items found : List Branch) (vs : List ℕ) (i n : ℕ) → items ≡ found → length found ≤ n → length items ≤ i → map (branch_at list) vs ≡ take i items → length vs ≤ n
few-members list items found vs i n is few end so_far =
    let l = length-map vs (branch_at list) in
    let e : map (branch_at list) vs ≡ items = so_far ∙ take_all i items end in
    omega (arith, ap length e, ap length is)
