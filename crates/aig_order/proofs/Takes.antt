-- One and after the other is taken.
use Rattle.std.proofs.Common.{◌≡◌, ℕ, ◌+◌, ◌/◌, ◌<◌, ◌≤◌, ◌^◌, ◌⊎◌, Bool, true, false, not, ◌&&◌, ◌||◌, nat_eq, inl, inr, refl, sym, ◌∙◌, ap, subst, arith, Option, Some, None, List, [], ◌∷◌, ◌++◌, length, get_or, set, append-nil}
use Rattle.std.specs.Prelude.{slice_index_or, slice_set, IfSome, option_to_list}
use Rattle.std.proofs.lemmas.Bool.{cases_eq, eqb-true, eq-eqb, and_parts, and_from, or_left, or_right, or_cases, not-true, not_from_false, cases_Bool}
use Rattle.std.proofs.lemmas.List.{get_or-set_same, get_or-set_other, length-set}
use Rattle.hy_base.proofs.Truths.{same-truth}
use Rattle.aig_order.specs.declared.gate.Gate.{Gate}
use Rattle.aig_order.specs.Firsts.{holds}
use Rattle.aig_order.specs.Gates.{gate_at, uses, waits, is_next, next_gate, with_next}
use Rattle.aig_order.specs.Takings.{has, AreApart, AreDefiners, AreUsers, AreMarked, AreTaken, AreReadied, IsLeast, HasUser, is_untaken, is_open, IsHeldAnswer, IsReadied}
use Rattle.aig_order.proofs.Firsts.{any-some, some-any, holds-place, holds-left, holds-right, holds-append}
use Rattle.aig_order.proofs.Sorted.{first-is, first-empty}

-- ---- which and defines a variable

pub definers_none : (gates : List Gate) (top : ℕ) (list : List (Option ℕ)) → length list ≡ top + 1 → ((v : ℕ) → slice_index_or list v None ≡ None) → AreDefiners gates top 0 list
definers_none gates top list long none = record { long = long; right = λ v j e. absurd (some-none (slice_index_or list v None) j (none v) e); all = λ j lt. absurd (omega arith) }
  where
    some-none : (o : Option ℕ) (j : ℕ) → o ≡ None → o ≡ Some j → ⊥
    some-none o j a b = cc

pub definers_more : (gates : List Gate) (top k : ℕ) (old new : List (Option ℕ)) → AreApart gates top → AreDefiners gates top k old → k < length gates → new ≡ slice_set old ((gate_at gates k).lhs / 2) (Some k) → AreDefiners gates top (k + 1) new
definers_more gates top k old new apart are lt is =
    let own : ℕ = (gate_at gates k).lhs / 2 in
    let inside : (gate_at gates k).lhs / 2 < length old = omega (arith, apart.own k lt, are.long) in
    record {
      long = ap length is ∙ length-set old ((gate_at gates k).lhs / 2) (Some k) ∙ are.long;
      right = λ v j e. elim (cases_eq v ((gate_at gates k).lhs / 2)) [
        | inl same ↦
            let here : Some k ≡ Some j = sym (get_or-set_same old ((gate_at gates k).lhs / 2) (Some k) None inside) ∙ ap (λ w. get_or (set old ((gate_at gates k).lhs / 2) (Some k)) w None) (sym same) ∙ ap (λ (l : List (Option ℕ)). get_or l v None) (sym is) ∙ e in
            let number : k ≡ j = cc in
            (omega arith, ap (λ n. (gate_at gates n).lhs / 2) (sym number) ∙ sym same)
        | inr other ↦
            let before = are.right v j (sym (get_or-set_other old ((gate_at gates k).lhs / 2) v (Some k) None other) ∙ ap (λ (l : List (Option ℕ)). get_or l v None) (sym is) ∙ e) in
            (omega (arith, before.0), before.1)
      ];
      all = λ j less. elim (cases_eq j k) [
        | inl same ↦ ap (λ (l : List (Option ℕ)). get_or l ((gate_at gates j).lhs / 2) None) is ∙ ap (λ n. get_or (set old ((gate_at gates k).lhs / 2) (Some k)) ((gate_at gates n).lhs / 2) None) same ∙ get_or-set_same old ((gate_at gates k).lhs / 2) (Some k) None inside ∙ ap Some (sym same)
        | inr other ↦
            let differ : (gate_at gates j).lhs / 2 ≡ (gate_at gates k).lhs / 2 → ⊥ = λ e. other (apart.apart j k (omega arith) lt e) in
            ap (λ (l : List (Option ℕ)). get_or l ((gate_at gates j).lhs / 2) None) is ∙ get_or-set_other old ((gate_at gates k).lhs / 2) ((gate_at gates j).lhs / 2) (Some k) None differ ∙ are.all j (omega arith)
      ];
    }

pub definer_small : (gates : List Gate) (top n : ℕ) (definers : List (Option ℕ)) (v m : ℕ) (o : Option ℕ) → AreDefiners gates top n definers → o ≡ slice_index_or definers v None → n ≤ m → IfSome o (λ j. j < m)
definer_small gates top n definers v m None are e le = tt
definer_small gates top n definers v m (Some j) are e le = omega (arith, (are.right v j (sym e)).0)

-- ---- which ands use an and

has-kept : (o : Option ℕ) (k : ℕ) (old new : List (List ℕ)) → IfSome o (λ j. j < length old) → HasUser o k old new → (u j : ℕ) → holds u (slice_index_or old j []) ≡ true → holds u (slice_index_or new j []) ≡ true
has-kept None k old new small same u j e = ap (λ (l : List (List ℕ)). holds u (get_or l j [])) same ∙ e
has-kept (Some i) k old new small is u j e =
    elim (cases_eq j i) [
      | inl same ↦
          let here : get_or new j [] ≡ get_or old i [] ++ k ∷ [] = ap (λ (l : List (List ℕ)). get_or l j []) is ∙ ap (λ n. get_or (set old i (get_or old i [] ++ k ∷ [])) n []) same ∙ get_or-set_same old i (get_or old i [] ++ k ∷ []) [] small in
          ap (holds u) here ∙ holds-left u (get_or old i []) (k ∷ []) (ap (λ n. holds u (get_or old n [])) (sym same) ∙ e)
      | inr other ↦ ap (λ (l : List (List ℕ)). holds u (get_or l j [])) is ∙ ap (holds u) (get_or-set_other old i j (get_or old i [] ++ k ∷ []) [] other) ∙ e
    ]

has-added : (o : Option ℕ) (k j : ℕ) (old new : List (List ℕ)) → IfSome o (λ i. i < length old) → HasUser o k old new → o ≡ Some j → holds k (slice_index_or new j []) ≡ true
has-added None k j old new small is e = absurd (cc)
has-added (Some i) k j old new small is e =
    let same : j ≡ i = cc in
    let here : get_or new j [] ≡ get_or old i [] ++ k ∷ [] = ap (λ (l : List (List ℕ)). get_or l j []) is ∙ ap (λ n. get_or (set old i (get_or old i [] ++ k ∷ [])) n []) same ∙ get_or-set_same old i (get_or old i [] ++ k ∷ []) [] small in
    ap (holds k) here ∙ holds-right k (get_or old i []) (k ∷ []) (or_left _ _ (eq-eqb k k refl))

pub users_long : (o : Option ℕ) (k : ℕ) (old new : List (List ℕ)) → HasUser o k old new → length new ≡ length old
users_long None k old new is = ap length is
users_long (Some i) k old new is = ap length is ∙ length-set old i (get_or old i [] ++ k ∷ [])

pub users_more : (gates : List Gate) (top k : ℕ) (definers : List (Option ℕ)) (old mid new : List (List ℕ)) (a b : Option ℕ) → AreDefiners gates top (length gates) definers → AreUsers gates k old → k < length gates → a ≡ slice_index_or definers ((gate_at gates k).left / 2) None → b ≡ slice_index_or definers ((gate_at gates k).right / 2) None → HasUser a k old mid → HasUser b k mid new → AreUsers gates (k + 1) new
users_more gates top k definers old mid new a b are users lt left right one two =
    let fits_a : IfSome a (λ j. j < length old) = definer_small gates top (length gates) definers _ (length old) a are left (omega (arith, users.long)) in
    let fits_b : IfSome b (λ j. j < length mid) = definer_small gates top (length gates) definers _ (length mid) b are right (omega (arith, users.long, users_long a k old mid one)) in
    record {
      long = users_long b k mid new two ∙ users_long a k old mid one ∙ users.long;
      all = λ u j less inside used. elim (cases_eq u k) [
        | inl same ↦
            let uses_k : uses gates k j ≡ true = ap (λ n. uses gates n j) (sym same) ∙ used in
            ap (λ n. holds n (slice_index_or new j [])) same
            ∙ elim (or_cases (nat_eq ((gate_at gates k).left / 2) ((gate_at gates j).lhs / 2)) _ uses_k) [
              | inl l ↦ has-kept b k mid new fits_b two k j (has-added a k j old mid fits_a one (left ∙ ap (λ v. slice_index_or definers v None) (eqb-true _ _ l) ∙ are.all j inside))
              | inr r ↦ has-added b k j mid new fits_b two (right ∙ ap (λ v. slice_index_or definers v None) (eqb-true _ _ r) ∙ are.all j inside)
            ]
        | inr other ↦ has-kept b k mid new fits_b two u j (has-kept a k old mid fits_a one u j (users.all u j (omega arith) inside used))
      ];
    }

-- ---- whether an and waits

module _ (gates : List Gate) (top : ℕ) (definers : List (Option ℕ)) (are : AreDefiners gates top (length gates) definers) (list : List ℕ) (marks : List Bool) (marked : AreMarked gates list marks) where
  open-waits : (v : ℕ) (o : Option ℕ) → slice_index_or definers v None ≡ o → is_untaken marks o ≡ true → (j : ℕ) × (j < length gates) × ((gate_at gates j).lhs / 2 ≡ v) × (not (holds j list) ≡ true)
  open-waits v None e t = absurd (cc)
  open-waits v (Some j) e t = let (lt, is) = are.right v j e in (j, lt, is, ap not (sym (marked j lt)) ∙ t)

  waits-open : (v j : ℕ) → j < length gates → v ≡ (gate_at gates j).lhs / 2 → not (holds j list) ≡ true → is_untaken marks (slice_index_or definers v None) ≡ true
  waits-open v j lt is t = ap (is_untaken marks) (ap (λ n. slice_index_or definers n None) is ∙ are.all j lt) ∙ ap not (marked j lt) ∙ t

  pub waits_is : (k : ℕ) → (is_open definers marks (gate_at gates k).left || is_open definers marks (gate_at gates k).right) ≡ waits gates list k
  waits_is k = same-truth _ _ to from
    where
      to : (is_open definers marks (gate_at gates k).left || is_open definers marks (gate_at gates k).right) ≡ true → waits gates list k ≡ true
      to e = elim (or_cases (is_open definers marks (gate_at gates k).left) _ e) [
        | inl l ↦ let (j, lt, is, t) = open-waits _ _ refl l in some-any (length gates) (λ j. uses gates k j && not (holds j list)) j lt (and_from _ _ (or_left _ _ (eq-eqb _ _ (sym is))) t)
        | inr r ↦ let (j, lt, is, t) = open-waits _ _ refl r in some-any (length gates) (λ j. uses gates k j && not (holds j list)) j lt (and_from _ _ (or_right (nat_eq ((gate_at gates k).left / 2) _) _ (eq-eqb _ _ (sym is))) t)
      ]

      from : waits gates list k ≡ true → (is_open definers marks (gate_at gates k).left || is_open definers marks (gate_at gates k).right) ≡ true
      from e =
          let (j, lt, both) = any-some (length gates) (λ j. uses gates k j && not (holds j list)) e in
          let parts = and_parts (uses gates k j) _ both in
          elim (or_cases (nat_eq ((gate_at gates k).left / 2) ((gate_at gates j).lhs / 2)) _ parts.0) [
            | inl l ↦ or_left _ _ (waits-open _ j lt (eqb-true _ _ l) parts.1)
            | inr r ↦ or_right (is_open definers marks (gate_at gates k).left) _ (waits-open _ j lt (eqb-true _ _ r) parts.1)
          ]

-- ---- the least that is ready

pub record IsRest (marks : List Bool) (old new : List ℕ) : Type 0 where
  pub within : (j : ℕ) → j < 2 ^ 32 → has new j ≡ true → has old j ≡ true
  pub rest : (j : ℕ) → j < 2 ^ 32 → has old j ≡ true → slice_index_or marks j false ≡ false → has new j ≡ true

pub rest_all : (marks : List Bool) (old : List ℕ) → IsRest marks old old
rest_all marks old = record { within = λ j lt e. e; rest = λ j lt e f. e }

pub rest_none : (marks : List Bool) (old new : List ℕ) → IsRest marks old new → ((j : ℕ) → has new j ≡ false) → (j : ℕ) → j < 2 ^ 32 → has old j ≡ true → slice_index_or marks j false ≡ true
rest_none marks old new is none j lt e =
    elim (cases_Bool (slice_index_or marks j false)) [ inl marked ↦ marked | inr free ↦ let found = is.rest j lt e free in let no_one = none j in absurd (cc) ]

-- ---- the next and

module _ (gates : List Gate) (few : length gates ≤ 1048576) (list : List ℕ) (marks : List Bool) (ready : List ℕ) (are : AreTaken gates list marks ready) where
  next-free : (k : ℕ) → k < length gates → is_next gates list k ≡ true → slice_index_or marks k false ≡ false
  next-free k lt e = are.marked k lt ∙ not-true _ (and_parts (not (holds k list)) _ e).0

  pub next_some : (new : List ℕ) (k : ℕ) → IsLeast marks ready new k → (k < length gates) × (next_gate gates list ≡ Some k)
  next_some new k is =
      let (lt, idle) = are.sound k is.small is.ready in
      let here : is_next gates list k ≡ true = and_from _ _ (not_from_false _ (sym (are.marked k lt) ∙ is.fresh)) (not_from_false _ idle) in
      (lt, first-is (length gates) (is_next gates list) k lt here (λ j less. lower j less (cases_Bool (is_next gates list j))))
    where
      lower : (j : ℕ) → j < k → (is_next gates list j ≡ true) ⊎ (is_next gates list j ≡ false) → is_next gates list j ≡ false
      lower j less (inl next) =
          let (lt, idle) = are.sound k is.small is.ready in
          let inside : j < length gates = omega (arith, lt) in
          absurd (omega (arith, is.least j (omega (arith, is.small)) (are.full j inside next) (next-free j inside next)))
      lower j less (inr other) = other

  pub next_none : ((j : ℕ) → j < 2 ^ 32 → has ready j ≡ true → slice_index_or marks j false ≡ true) → next_gate gates list ≡ None
  next_none all = first-empty (length gates) (is_next gates list) (λ j lt. clear j lt (cases_Bool (is_next gates list j)))
    where
      clear : (j : ℕ) → j < length gates → (is_next gates list j ≡ true) ⊎ (is_next gates list j ≡ false) → is_next gates list j ≡ false
      clear j lt (inl next) = let free = next-free j lt next in let marked = all j (omega arith) (are.full j lt next) in absurd (cc)
      clear j lt (inr other) = other

  -- nothing is left
  pub taken_none : (new : List ℕ) → ((j : ℕ) → j < 2 ^ 32 → has ready j ≡ true → slice_index_or marks j false ≡ true) → ((j : ℕ) → has new j ≡ false) → AreTaken gates list marks new
  taken_none new all empty = record {
    long = are.long;
    marked = are.marked;
    sound = λ j lt e. let no_one = empty j in absurd (cc);
    full = λ j lt e. let free = next-free j lt e in let marked = all j (omega arith) (are.full j lt e) in absurd (cc);
  }

-- ---- taking it

waits-less : (gates : List Gate) (list : List ℕ) (k j : ℕ) → waits gates list j ≡ false → waits gates (list ++ k ∷ []) j ≡ false
waits-less gates list k j idle = step (cases_Bool (waits gates (list ++ k ∷ []) j))
  where
    step : (waits gates (list ++ k ∷ []) j ≡ true) ⊎ (waits gates (list ++ k ∷ []) j ≡ false) → waits gates (list ++ k ∷ []) j ≡ false
    step (inl waiting) =
        let (i, lt, both) = any-some (length gates) (λ i. uses gates j i && not (holds i (list ++ k ∷ []))) waiting in
        let parts = and_parts (uses gates j i) _ both in
        let before : not (holds i list) ≡ true = not_from_false _ (missing i (not-true _ parts.1) (cases_Bool (holds i list))) in
        let waited : waits gates list j ≡ true = some-any (length gates) (λ i. uses gates j i && not (holds i list)) i lt (and_from _ _ parts.0 before) in
        absurd (cc)
      where
        missing : (i : ℕ) → holds i (list ++ k ∷ []) ≡ false → (holds i list ≡ true) ⊎ (holds i list ≡ false) → holds i list ≡ false
        missing i no_one (inl found) = let also = holds-left i list (k ∷ []) found in absurd (cc)
        missing i no_one (inr other) = other
    step (inr no_wait) = no_wait

-- what waits no longer used the and that is taken
freed : (gates : List Gate) (list : List ℕ) (k j : ℕ) → waits gates list j ≡ true → waits gates (list ++ k ∷ []) j ≡ false → uses gates j k ≡ true
freed gates list k j waiting idle =
    let (i, lt, both) = any-some (length gates) (λ i. uses gates j i && not (holds i list)) waiting in
    let parts = and_parts (uses gates j i) _ both in
    step i lt parts.0 parts.1 (cases_Bool (holds i (list ++ k ∷ [])))
  where
    step : (i : ℕ) → i < length gates → uses gates j i ≡ true → not (holds i list) ≡ true → (holds i (list ++ k ∷ []) ≡ true) ⊎ (holds i (list ++ k ∷ []) ≡ false) → uses gates j k ≡ true
    step i lt used missing (inl found) =
        elim (holds-append i list (k ∷ []) found) [
          | inl before ↦ let no_one = not-true _ missing in absurd (cc)
          | inr here ↦ elim (or_cases (nat_eq i k) false here) [ inl same ↦ ap (uses gates j) (sym (eqb-true i k same)) ∙ used | inr no_one ↦ absurd (cc) ]
        ]
    step i lt used missing (inr absent) =
        let waited : waits gates (list ++ k ∷ []) j ≡ true = some-any (length gates) (λ i. uses gates j i && not (holds i (list ++ k ∷ []))) i lt (and_from _ _ used (not_from_false _ absent)) in
        absurd (cc)

module _ (gates : List Gate) (list : List ℕ) (marks : List Bool) (ready now : List ℕ) (k : ℕ) (lt : k < length gates) (few : length gates ≤ 1048576) (are : AreTaken gates list marks ready) (rest : IsLeast marks ready now k) where
  pub take_first : (users new_list : List ℕ) (new_marks : List Bool) → ((u : ℕ) → u < length gates → uses gates u k ≡ true → holds u users ≡ true) → new_list ≡ list ++ k ∷ [] → new_marks ≡ slice_set marks k true → AreReadied gates users 0 new_list new_marks now
  take_first users new_list new_marks all front set_one = subst (λ (l : List ℕ). AreReadied gates users 0 l new_marks now) (sym front) (record {
    long = ap length set_one ∙ length-set marks k true ∙ are.long;
    marked = λ j inside. ap (λ (l : List Bool). get_or l j false) set_one ∙ marked-now j inside (cases_eq j k);
    sound = λ j small e. let (inside, idle) = are.sound j small (rest.within j small e) in (inside, waits-less gates list k j idle);
    full = λ j inside e. found j inside e (cases_Bool (waits gates list j));
  })
    where
      marked-now : (j : ℕ) → j < length gates → (j ≡ k) ⊎ (j ≡ k → ⊥) → get_or (set marks k true) j false ≡ holds j (list ++ k ∷ [])
      marked-now j inside (inl same) =
          ap (λ n. get_or (set marks k true) n false) same ∙ get_or-set_same marks k true false (omega (arith, are.long)) ∙ sym (holds-right j list (k ∷ []) (or_left _ _ (eq-eqb j k same)))
      marked-now j inside (inr apart) =
          get_or-set_other marks k j true false apart ∙ are.marked j inside
          ∙ same-truth _ _ (holds-left j list (k ∷ [])) (λ e. elim (holds-append j list (k ∷ []) e) [ inl before ↦ before | inr here ↦ elim (or_cases (nat_eq j k) false here) [ inl same ↦ absurd (apart (eqb-true j k same)) | inr no_one ↦ absurd (cc) ] ])

      found : (j : ℕ) → j < length gates → is_next gates (list ++ k ∷ []) j ≡ true → (waits gates list j ≡ true) ⊎ (waits gates list j ≡ false) → (has now j ≡ true) ⊎ ((q : ℕ) × (0 ≤ q) × (q < length users) × (get_or users q 0 ≡ j))
      found j inside e (inl waiting) =
          let parts = and_parts (not (holds j (list ++ k ∷ []))) _ e in
          let (q, less, is) = holds-place j users (all j inside (freed gates list k j waiting (not-true _ parts.1))) in
          inr (q, omega arith, less, is)
      found j inside e (inr idle) =
          let parts = and_parts (not (holds j (list ++ k ∷ []))) _ e in
          let gone : holds j (list ++ k ∷ []) ≡ false = not-true _ parts.0 in
          let before : holds j list ≡ false = absent j gone (cases_Bool (holds j list)) in
          let next : is_next gates list j ≡ true = and_from _ _ (not_from_false _ before) (not_from_false _ idle) in
          let apart : j ≡ k → ⊥ = λ same. let here : holds j (list ++ k ∷ []) ≡ true = holds-right j list (k ∷ []) (or_left _ _ (eq-eqb j k same)) in cc in
          inl (rest.rest j (omega arith) (are.full j inside next) (are.marked j inside ∙ before) apart)
        where
          absent : (j : ℕ) → holds j (list ++ k ∷ []) ≡ false → (holds j list ≡ true) ⊎ (holds j list ≡ false) → holds j list ≡ false
          absent j gone (inl found) = let also = holds-left j list (k ∷ []) found in absurd (cc)
          absent j gone (inr other) = other

module _ (gates : List Gate) (users : List ℕ) (p : ℕ) (list : List ℕ) (marks : List Bool) (ready : List ℕ) (are : AreReadied gates users p list marks ready) (inside : p < length users) where
  -- a user that is readied
  pub take_ready : (new : List ℕ) → get_or users p 0 < length gates → length gates ≤ 1048576 → waits gates list (get_or users p 0) ≡ false → ((j : ℕ) → j < 2 ^ 32 → has new j ≡ (nat_eq j (get_or users p 0) || has ready j)) → AreReadied gates users (p + 1) list marks new
  take_ready new small few idle pushed = record {
    long = are.long;
    marked = are.marked;
    sound = λ j lt e. elim (or_cases (nat_eq j (get_or users p 0)) (has ready j) (sym (pushed j lt) ∙ e)) [
      | inl same ↦ let q : get_or users p 0 ≡ j = sym (eqb-true j _ same) in (omega arith, ap (waits gates list) (sym q) ∙ idle)
      | inr before ↦ are.sound j lt before
    ];
    full = λ j lt e. elim (are.full j lt e) [
      | inl there ↦ inl (pushed j (omega arith) ∙ or_right (nat_eq j _) _ there)
      | inr (q, le, less, is) ↦ elim (cases_eq q p) [
        | inl same ↦ inl (pushed j (omega arith) ∙ or_left _ _ (eq-eqb j _ (sym is ∙ ap (λ n. get_or users n 0) same)))
        | inr other ↦ inr (q, omega arith, less, is)
      ]
    ];
  }

  -- and one that is not
  pub take_passed : (waits gates list (get_or users p 0) ≡ true) ⊎ (length gates ≤ get_or users p 0) → AreReadied gates users (p + 1) list marks ready
  take_passed why = record {
    long = are.long;
    marked = are.marked;
    sound = are.sound;
    full = λ j lt e. elim (are.full j lt e) [
      | inl there ↦ inl there
      | inr (q, le, less, is) ↦ elim (cases_eq q p) [
        | inl same ↦
            let here : get_or users p 0 ≡ j = ap (λ n. get_or users n 0) (sym same) ∙ is in
            elim why [
              | inl waiting ↦ let parts = and_parts (not (holds j list)) _ e in let idle = not-true _ parts.1 in let also : waits gates list j ≡ true = ap (waits gates list) (sym here) ∙ waiting in absurd (cc)
              | inr past ↦ absurd (omega arith)
            ]
        | inr other ↦ inr (q, omega arith, less, is)
      ]
    ];
  }

-- ---- the whole order

pub with_some : (gates : List Gate) (k : ℕ) (list : List ℕ) → next_gate gates list ≡ Some k → list ++ k ∷ [] ≡ with_next gates list
with_some gates k list next = ap (λ o. list ++ option_to_list o) (sym next)

pub with_none : (gates : List Gate) (list : List ℕ) → next_gate gates list ≡ None → list ≡ with_next gates list
with_none gates list none = sym (append-nil list) ∙ ap (λ o. list ++ option_to_list o) (sym none)

-- ---- in the words of the code

pub popped_none : (marks : List Bool) (old now new : List ℕ) → IsRest marks old now → ((j : ℕ) → has now j ≡ false) → new ≡ now → ((j : ℕ) → j < 2 ^ 32 → has old j ≡ true → slice_index_or marks j false ≡ true) × ((j : ℕ) → has new j ≡ false)
popped_none marks old now new is none same = (rest_none marks old now is none, λ j. ap (λ l. has l j) same ∙ none j)

pub start_readied : (gates : List Gate) (k : ℕ) (held : Bool) (old new : List ℕ) → k < length gates → length gates ≤ 1048576 → held ≡ waits gates [] k → IsReadied held k old new → ((j : ℕ) → j < 2 ^ 32 → has old j ≡ true → (j < length gates) × (waits gates [] j ≡ false)) → ((j : ℕ) → j < k → waits gates [] j ≡ false → has old j ≡ true) → record { sound : (j : ℕ) → j < 2 ^ 32 → has new j ≡ true → (j < length gates) × (waits gates [] j ≡ false); full : (j : ℕ) → j < k + 1 → waits gates [] j ≡ false → has new j ≡ true }
start_readied gates k true old new lt few waiting same sound full = record {
  sound = λ j low e. sound j low (ap (λ l. has l j) (sym same) ∙ e);
  full = λ j less idle. elim (cases_eq j k) [
    | inl is ↦ let also : waits gates [] k ≡ false = ap (waits gates []) (sym is) ∙ idle in absurd (cc)
    | inr other ↦ ap (λ l. has l j) same ∙ full j (omega arith) idle
  ];
}
start_readied gates k false old new lt few idle pushed sound full = record {
  sound = λ j low e. elim (or_cases (nat_eq j k) (has old j) (sym (pushed j low) ∙ e)) [
    | inl same ↦ let is : j ≡ k = eqb-true j k same in (omega arith, ap (waits gates []) is ∙ sym idle)
    | inr before ↦ sound j low before
  ];
  full = λ j less free. elim (cases_eq j k) [
    | inl is ↦ pushed j (omega arith) ∙ or_left _ _ (eq-eqb j k is)
    | inr other ↦ pushed j (omega arith) ∙ or_right (nat_eq j k) _ (full j (omega arith) free)
  ];
}

pub user_readied : (gates : List Gate) (top : ℕ) (definers : List (Option ℕ)) → AreDefiners gates top (length gates) definers → length gates ≤ 1048576 → (users : List ℕ) (p : ℕ) (list : List ℕ) (marks : List Bool) (old new : List ℕ) (held : Bool) → AreReadied gates users p list marks old → p < length users → IsHeldAnswer gates definers marks (get_or users p 0) held → IsReadied held (get_or users p 0) old new → AreReadied gates users (p + 1) list marks new
user_readied gates top definers set few users p list marks old new true are inside answer same =
    subst (λ (l : List ℕ). AreReadied gates users (p + 1) list marks l) (sym same)
    (take_passed gates users p list marks old are inside (elim answer [ inl open_one ↦ inl (sym (waits_is gates top definers set list marks are.marked (get_or users p 0)) ∙ open_one) | inr past ↦ inr past ]))
user_readied gates top definers set few users p list marks old new false are inside answer pushed =
    take_ready gates users p list marks old are inside new answer.0 few (sym (waits_is gates top definers set list marks are.marked (get_or users p 0)) ∙ answer.1) pushed
