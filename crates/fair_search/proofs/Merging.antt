-- An edge back to an open node joins components; a member was looked at; a node has no member left.
use Rattle.std.proofs.Common.{◌≡◌, ◌≢◌, ℕ, zero, suc, ◌+◌, ◌<◌, ◌≤◌, ◌⊎◌, true, false, List, [], ◌∷◌, ◌++◌, length, get_or, set, inl, inr, refl, sym, ap, ◌∙◌, subst, arith}
use Rattle.std.specs.List.{Contains}
use Rattle.std.proofs.Math.ListN.{length-set, length-append, get_or-append}
use Rattle.std.proofs.lemmas.Bool.{cases_eq, cases_lt}
use Rattle.std.proofs.lemmas.List.{get_or-set_same, get_or-set_other, get_or_past}
use Rattle.std.proofs.lemmas.List.Elements.{Contains-append_left, Contains-push_cases}
use Rattle.rank_check.specs.Graphs.{Shape, successors_of, IsEdge}
use Rattle.fair_search.specs.declared.pass.Place.{Place}
use Rattle.fair_search.specs.declared.pass.Place.TheVariants.{New, Open, Done}
use Rattle.fair_search.specs.declared.pass.Pass.{Pass}
use Rattle.fair_search.specs.Paths.{Leads, one, more}
use Rattle.fair_search.specs.Passing.{place_of, degree_of, looks_of, IsUp, NoStart, SettledAt, IsSettled, IsPass, IsLast}

pub open≢new : (i : ℕ) → Open i ≡ New → ⊥
open≢new i e = cc

-- the front of a list that rises
pub up-front : (xs : List ℕ) (x : ℕ) → IsUp (xs ++ x ∷ []) → IsUp xs
up-front xs x rises i j lt there =
    omega (
      arith,
      rises i j lt (omega (arith, length-append xs (x ∷ []))),
      get_or-append xs (x ∷ []) 0 i (omega (arith, lt, there)),
      get_or-append xs (x ∷ []) 0 j there,
    )

-- one path after another
pub leads-on : (g : Shape) {u v w : ℕ} → Leads g u v → Leads g v w → Leads g u w
leads-on g (one edge) rest = more edge rest
leads-on g (more edge path) rest = more edge (leads-on g path rest)

-- whether a list has a number after i up to j
between : (xs : List ℕ) (i j : ℕ) → ((b : ℕ) × Contains xs b × (i < b) × (b ≤ j)) ⊎
    ((b : ℕ) → Contains xs b → i < b → b ≤ j → ⊥)
between [] i j = inr (λ b there. absurd (omega (arith, there.1)))
between (x ∷ xs) i j =
    elim (between xs i j) [
      | inl (b, (k, lt, at), after, upto) ↦ inl (b, (suc k, omega (arith, lt), at), after, upto)
      | inr none ↦
          elim (cases_lt i x) [
            | inl after ↦
                elim (cases_lt j x) [
                  | inl past ↦ inr (λ b there. rest b there none (λ e. omega (arith, past, e)))
                  | inr upto ↦ inl (x, (0, omega arith, refl), after, upto)
                ]
            | inr low ↦ inr (λ b there lt le. rest-low b there none lt le
                (λ e. omega (arith, low, e, lt)))
          ]
    ]
  where
    rest : (b : ℕ) → Contains (x ∷ xs) b → ((b : ℕ) → Contains xs b → i < b → b ≤ j → ⊥)
        → (x ≡ b → b ≤ j → ⊥) → i < b → b ≤ j → ⊥
    rest b (zero, lt, at) none apart after upto = apart at upto
    rest b (suc k, lt, at) none apart after upto = none b (k, omega (arith, lt), at) after upto

    rest-low : (b : ℕ) → Contains (x ∷ xs) b → ((b : ℕ) → Contains xs b → i < b → b ≤ j → ⊥) → i < b
        → b ≤ j → (x ≡ b → ⊥) → ⊥
    rest-low b (zero, lt, at) none after upto apart = apart at
    rest-low b (suc k, lt, at) none after upto apart = none b (k, omega (arith, lt), at) after upto

module _ (g : Shape) (p : Pass) (is : IsPass g p) where
  -- Each open node leads to one of the last component, or is it.
  pub to_last : (i : ℕ) → IsLast p i → (q : ℕ) → q < length p.stack
      → (q ≡ i) ⊎ Leads g (get_or p.stack q 0) (get_or p.stack i 0)
  to_last i last q there =
      elim (cases_eq q i) [
        | inl e ↦ inl e
        | inr apart ↦
            inr (elim (cases_lt q i) [
              | inl before ↦ is.up q i before last.0
              | inr after ↦ is.down i q (omega (arith, apart)) there
                  (λ b start lt le. omega (arith, last.1 b start, lt))
            ])
      ]

  -- what an edge from the last component reaches is reached from each open node
  pub from_all : (i w : ℕ) → IsLast p i → IsEdge g (get_or p.stack i 0) w → (q : ℕ)
      → q < length p.stack → Leads g (get_or p.stack q 0) w
  from_all i w last edge q there =
      elim (to_last i last q there) [
        | inl e ↦ let P : ℕ → Type 0 = λ q. Leads g (get_or p.stack q 0) w in subst P (sym e)
            (one edge)
        | inr path ↦ leads-on g path (one edge)
      ]

  module _ (i j : ℕ) (last : IsLast p i) (edge : IsEdge g (get_or p.stack i 0) (get_or p.stack j 0))
      (standing : j < length p.stack)
      (starts : List ℕ) (rises : IsUp starts) (was : (b : ℕ) → Contains starts b
      → Contains p.starts b × (b ≤ j)) (kept : (b : ℕ) → Contains p.starts b → b ≤ j
      → Contains starts b) where
    -- the pass with no start after place j
    abbrev pub Merged : Pass
    Merged = record p { starts = starts }

    fewer : (a b : ℕ) → NoStart p a b → NoStart Merged a b
    fewer a b none s there = none s (was s there).0

    still_settled : (a : ℕ) (x : Place) → SettledAt p a x → SettledAt Merged a x
    still_settled a New there = there
    still_settled a (Open b) there = fewer b a there
    still_settled a (Done r) there = tt

    -- the joined node leads to each one below the last of its component
    back : (a b : ℕ) → a < b → b < length p.stack → NoStart Merged a b → (s : ℕ)
        → Contains p.starts s → a < s → s ≤ b → Leads g (get_or p.stack b 0) (get_or p.stack a 0)
    back a b lt there none s start after upto =
        let past : j < s =
        elim (cases_lt j s) [
          | inl past ↦ past
          | inr le ↦ absurd
              (none s (kept s start le) after upto)
        ]
        in
        let back_edge = from_all i (get_or p.stack j 0) last edge b there in
        elim (cases_eq a j) [
          | inl e ↦ let P : ℕ → Type 0 = λ q. Leads g (get_or p.stack b 0) (get_or p.stack q 0) in
              subst P (sym e) back_edge
          | inr apart ↦
              leads-on g back_edge
              (elim (cases_lt j a) [
                | inl before ↦ is.up j a before (omega (arith, lt, there))
                | inr le ↦
                    is.down a j (omega (arith, apart, le)) standing
                    (λ t at lt' le'. none t (kept t at le') lt'
                    (omega (arith, le', past, upto)))
              ])
        ]

    merged_down : (a b : ℕ) → a < b → b < length p.stack → NoStart Merged a b
        → Leads g (get_or p.stack b 0) (get_or p.stack a 0)
    merged_down a b lt there none =
        elim (between p.starts a b) [
          | inl (s, start, after, upto) ↦ back a b lt there none s start after upto
          | inr free ↦ is.down a b lt there free
        ]

    pub merged_pass : IsPass g Merged
    merged_pass = record {
      places_long = is.places_long;
      explored_long = is.explored_long;
      loops_long = is.loops_long;
      stacked = is.stacked;
      opened = is.opened;
      few = is.few;
      rooted = is.rooted;
      starts_up = rises;
      starts_open = λ b there. is.starts_open b (was b there).0;
      first_start = λ some. kept 0 (is.first_start some) (omega arith);
      up = is.up;
      down = merged_down;
      fresh = is.fresh;
      within = is.within;
      looked = λ v a k at lt. still_settled a _ (is.looked v a k at lt);
      loop_seen = is.loop_seen;
      loop_there = is.loop_there;
      waiting = is.waiting;
      pending_up = is.pending_up;
      pending_open = is.pending_open;
      begun_within = is.begun_within;
      begun_seen = is.begun_seen;
      closed = is.closed;
      ranked = is.ranked;
      explained = is.explained;
    }

    -- the joined node is settled, and the last component has the place still
    pub merged_settled : IsSettled Merged i (get_or p.stack j 0)
    merged_settled =
        let P : Place → Type 0 = SettledAt Merged i in
        subst P (sym (is.stacked j standing)) (λ b there lt le. omega (arith, (was b there).1, lt))

    pub merged_last : IsLast Merged i
    merged_last = (last.0, λ b there. last.1 b (was b there).0)

  -- ---- a loop was seen

  module _ (v : ℕ) (there : v < length g.nodes) (edge : IsEdge g v v) where
    abbrev pub Looped : Pass
    Looped = record p { loops = set p.loops v true }

    looped : (w : ℕ) → get_or p.loops w false ≡ true → get_or Looped.loops w false ≡ true
    looped w at =
        elim (cases_eq w v) [
          | inl e ↦ (λ k. get_or Looped.loops (e k) false)
              ∙ get_or-set_same p.loops v true false (omega (arith, is.loops_long, there))
          | inr apart ↦ get_or-set_other p.loops v w true false apart ∙ at
        ]

    pub looped_pass : IsPass g Looped
    looped_pass = record {
      places_long = is.places_long;
      explored_long = is.explored_long;
      loops_long = length-set p.loops v true ∙ is.loops_long;
      stacked = is.stacked;
      opened = is.opened;
      few = is.few;
      rooted = is.rooted;
      starts_up = is.starts_up;
      starts_open = is.starts_open;
      first_start = is.first_start;
      up = is.up;
      down = is.down;
      fresh = is.fresh;
      within = is.within;
      looked = is.looked;
      loop_seen = λ w i k at lt same. looped w (is.loop_seen w i k at lt same);
      loop_there = λ w at.
          elim (cases_eq w v) [
            | inl e ↦ let P : ℕ → Type 0 = λ w. IsEdge g w w in subst P (sym e) edge
            | inr apart ↦ is.loop_there w (sym (get_or-set_other p.loops v w true false apart) ∙ at)
          ];
      waiting = is.waiting;
      pending_up = is.pending_up;
      pending_open = is.pending_open;
      begun_within = is.begun_within;
      begun_seen = is.begun_seen;
      closed = is.closed;
      ranked = is.ranked;
      explained = is.explained;
    }

    pub loop_here : get_or Looped.loops v false ≡ true
    loop_here = get_or-set_same p.loops v true false (omega (arith, is.loops_long, there))

  -- ---- a member was looked at

  module _ (i : ℕ) (standing : i < length p.stack)
      (left : looks_of p (get_or p.stack i 0) < degree_of g (get_or p.stack i 0)) where
    abbrev node : ℕ
    node = get_or p.stack i 0

    abbrev next : ℕ
    next = get_or (successors_of g node) (looks_of p node) 0

    abbrev pub Looked : Pass
    Looked = record p { explored = set p.explored node (looks_of p node + 1) }

    made : node < length p.explored
    made =
        elim (cases_lt node (length p.explored)) [
          | inl lt ↦ lt
          | inr le ↦ absurd (open≢new i (sym (is.stacked i standing)
              ∙ get_or_past p.places node New (omega
              (arith, is.places_long, is.explored_long, le))))
        ]

    here : looks_of Looked node ≡ looks_of p node + 1
    here = get_or-set_same p.explored node _ 0 made

    elsewhere : (v : ℕ) → v ≢ node → looks_of Looked v ≡ looks_of p v
    elsewhere v apart = get_or-set_other p.explored node v _ 0 apart

    -- an earlier look, or this one
    which : (v k : ℕ) → k < looks_of Looked v → (k < looks_of p v) ⊎
        ((v ≡ node) × (k ≡ looks_of p node))
    which v k lt =
        elim (cases_eq v node) [
          | inl e ↦
              elim (cases_eq k (looks_of p node)) [
                | inl f ↦ inr (e, f)
                | inr apart ↦ inl (omega (
                  arith,
                  lt,
                  ap (looks_of Looked) e,
                  ap (looks_of p) e,
                  here,
                  apart,
                ))
              ]
          | inr apart ↦ inl (omega (arith, lt, elsewhere v apart))
        ]

    place_is : (v a : ℕ) → v ≡ node → place_of p v ≡ Open a → a ≡ i
    place_is v a e at = let f : Open a ≡ Open i = sym at ∙ ap (place_of p) e
        ∙ is.stacked i standing in cc

    module _ (settled : IsSettled p i next) (loop : next ≡ node → get_or p.loops node false ≡ true)
      where
        looked_looked : (v a k : ℕ) → place_of p v ≡ Open a → k < looks_of Looked v
            → IsSettled p a (get_or (successors_of g v) k 0)
        looked_looked v a k at lt =
            elim (which v k lt) [
              | inl old ↦ is.looked v a k at old
              | inr (e, f) ↦
                  let P : ℕ → Type 0 = λ a. IsSettled p a (get_or (successors_of g v) k 0) in
                  let Q : ℕ → Type 0 = IsSettled p i in
                  subst P (sym (place_is v a e at))
                  (subst Q (sym (λ t. get_or (successors_of g (e t)) (f t) 0)) settled)
            ]

        looked_loop : (v a k : ℕ) → place_of p v ≡ Open a → k < looks_of Looked v
            → get_or (successors_of g v) k 0 ≡ v → get_or p.loops v false ≡ true
        looked_loop v a k at lt same =
            elim (which v k lt) [
              | inl old ↦ is.loop_seen v a k at old same
              | inr (e, f) ↦
                  let back : next ≡ node = sym (λ t. get_or (successors_of g (e t)) (f t) 0) ∙ same
                  ∙ e in
                  ap (λ w. get_or p.loops w false) e ∙ loop back
            ]

        looked_fresh : (v : ℕ) → place_of p v ≡ New → looks_of Looked v ≡ 0
        looked_fresh v at =
            elsewhere v (λ e. open≢new i (sym (is.stacked i standing) ∙ ap (place_of p) (sym e) ∙ at))
            ∙ is.fresh v at

        looked_within : (v : ℕ) → looks_of Looked v ≤ degree_of g v
        looked_within v =
            elim (cases_eq v node) [
              | inl e ↦ omega (arith, ap (looks_of Looked) e, here, ap (degree_of g) e, left)
              | inr apart ↦ omega (arith, elsewhere v apart, is.within v)
            ]

        looked_waiting : (v a : ℕ) → place_of p v ≡ Open a → looks_of Looked v < degree_of g v
            → Contains p.pending a
        looked_waiting v a at more_left =
            elim (cases_eq v node) [
              | inl e ↦ is.waiting v a at (omega
                  (arith, ap (looks_of Looked) e, ap (looks_of p) e, here, more_left))
              | inr apart ↦ is.waiting v a at (omega (arith, elsewhere v apart, more_left))
            ]

        pub looked_pass : IsPass g Looked
        looked_pass = record {
          places_long = is.places_long;
          explored_long = length-set p.explored node _ ∙ is.explored_long;
          loops_long = is.loops_long;
          stacked = is.stacked;
          opened = is.opened;
          few = is.few;
          rooted = is.rooted;
          starts_up = is.starts_up;
          starts_open = is.starts_open;
          first_start = is.first_start;
          up = is.up;
          down = is.down;
          fresh = looked_fresh;
          within = looked_within;
          looked = looked_looked;
          loop_seen = looked_loop;
          loop_there = is.loop_there;
          waiting = looked_waiting;
          pending_up = is.pending_up;
          pending_open = is.pending_open;
          begun_within = is.begun_within;
          begun_seen = is.begun_seen;
          closed = is.closed;
          ranked = is.ranked;
          explained = is.explained;
        }

  -- ---- a node with no member left

  module _ (front : List ℕ) (i : ℕ) (ends : p.pending ≡ front ++ i ∷ [])
      (spent : degree_of g (get_or p.stack i 0) ≤ looks_of p (get_or p.stack i 0)) where
    abbrev pub Spent : Pass
    Spent = record p { pending = front }

    still : (a : ℕ) → Contains p.pending a → a ≢ i → Contains front a
    still a there apart =
        let P : List ℕ → Type 0 = λ xs. Contains xs a in
        elim (Contains-push_cases front i a (subst P ends there))
        [ inl before ↦ before | inr e ↦ absurd (apart (sym e)) ]

    pub spent_pass : IsPass g Spent
    spent_pass = record {
      places_long = is.places_long;
      explored_long = is.explored_long;
      loops_long = is.loops_long;
      stacked = is.stacked;
      opened = is.opened;
      few = is.few;
      rooted = is.rooted;
      starts_up = is.starts_up;
      starts_open = is.starts_open;
      first_start = is.first_start;
      up = is.up;
      down = is.down;
      fresh = is.fresh;
      within = is.within;
      looked = is.looked;
      loop_seen = is.loop_seen;
      loop_there = is.loop_there;
      waiting = λ v a at left.
          still a (is.waiting v a at left) (λ e.
          let same : get_or p.stack i 0 ≡ v = (λ t. get_or p.stack (sym e t) 0)
          ∙ (is.opened v a at).1 in
          omega (arith, spent, left, ap (degree_of g) same, ap (looks_of p) same));
      pending_up = up-front front i (let P : List ℕ → Type 0 = IsUp in subst P ends is.pending_up);
      pending_open = λ a there. is.pending_open a
          (let P : List ℕ → Type 0 = λ xs. Contains xs a in subst P (sym ends)
          (Contains-append_left front (i ∷ []) a there));
      begun_within = is.begun_within;
      begun_seen = is.begun_seen;
      closed = is.closed;
      ranked = is.ranked;
      explained = is.explained;
    }
