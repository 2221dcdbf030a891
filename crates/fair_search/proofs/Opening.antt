-- A node that was not seen is put on the stack, as a component of its own.
use Rattle.std.proofs.Common.{◌≡◌, ◌≢◌, ℕ, ◌+◌, ◌<◌, ◌≤◌, ◌⊎◌, true, false, cond, List, [], ◌∷◌, ◌++◌, length, get_or, slice_index, set, count_by, Option, Some, None, inl, inr, sym, ap, ◌∙◌, subst, arith}
use Rattle.std.specs.List.{Contains}
use Rattle.std.proofs.Math.ListN.{length-set, length-append, get_or-append}
use Rattle.std.proofs.Math.Seq.{get_or-append_seam}
use Rattle.std.proofs.lemmas.Bool.{cases_eq}
use Rattle.std.proofs.lemmas.List.{get_or-set_same, get_or-set_other}
use Rattle.std.proofs.lemmas.List.Elements.{Contains-get_or, Contains-push, Contains-append_left, Contains-push_cases}
use Rattle.std.proofs.lemmas.List.Sums.{sum_by-set}
use Rattle.rank_check.specs.Graphs.{Shape, members_of, successors_of, IsEdge}
use Rattle.fair_search.specs.declared.pass.Place.{Place}
use Rattle.fair_search.specs.declared.pass.Place.TheVariants.{New, Open, Done}
use Rattle.fair_search.specs.declared.pass.Pass.{Pass}
use Rattle.fair_search.specs.Paths.{Leads}
use Rattle.fair_search.specs.Passing.{place_of, is_seen, degree_of, looks_of, IsUp, NoStart, SettledAt, IsSettled, ExplainsDone, IsPass}
use Rattle.fair_search.proofs.Merging.{open≢new}

-- a list that rises, with a greater number last
pub up-push : (xs : List ℕ) (n : ℕ) → IsUp xs → ((x : ℕ) → Contains xs x → x < n)
    → IsUp (xs ++ n ∷ [])
up-push xs n rises below i j lt there =
    let in_i : i < length xs = omega (arith, length-append xs (n ∷ [])) in
    let first = get_or-append xs (n ∷ []) 0 i in_i in
    elim (cases_eq j (length xs)) [
      | inl e ↦
          let last = (λ k. get_or (xs ++ n ∷ []) (e k) 0) ∙ get_or-append_seam xs n [] 0 in
          omega (arith, first, last, below (get_or xs i 0) (Contains-get_or xs i 0 in_i))
      | inr apart ↦
          let in_j : j < length xs = omega (arith, length-append xs (n ∷ [])) in
          omega (arith, first, get_or-append xs (n ∷ []) 0 j in_j, rises i j lt in_j)
    ]

done≢new : (i : ℕ) → Done i ≡ New → ⊥
done≢new i e = cc

-- Each open node leads to this one, which is a start where there is no open node.
pub record MayOpen (g : Shape) (p : Pass) (v : ℕ) : Type 0 where
  pub unseen : place_of p v ≡ New
  pub made : v < length g.nodes
  pub reached : (i : ℕ) → i < length p.stack → Leads g (slice_index p.stack i) v
  pub starting : length p.stack ≡ 0 → Contains (members_of g 0) v

module _ (g : Shape) (p : Pass) (is : IsPass g p) (v : ℕ) (may : MayOpen g p v) where
  abbrev n : ℕ
  n = length p.stack

  -- the pass with the node open
  abbrev pub Opened : Pass
  Opened = record p {
    places = set p.places v (Open n);
    stack = p.stack ++ v ∷ [];
    pending = p.pending ++ n ∷ [];
    starts = p.starts ++ n ∷ [];
  }

  pub open_here : place_of Opened v ≡ Open n
  open_here = get_or-set_same p.places v (Open n) New (omega (arith, is.places_long, may.made))

  else : (w : ℕ) → w ≢ v → place_of Opened w ≡ place_of p w
  else w apart = get_or-set_other p.places v w (Open n) New apart

  -- a node that was seen is another one, and stays where it is
  stays : (w : ℕ) → place_of p w ≢ New → place_of Opened w ≡ place_of p w
  stays w seen = else w (λ e. seen (ap (place_of p) e ∙ may.unseen))

  -- a node that is open is this one or was open
  was_open : (w i : ℕ) → place_of Opened w ≡ Open i → ((w ≡ v) × (i ≡ n)) ⊎ (place_of p w ≡ Open i)
  was_open w i at =
      elim (cases_eq w v) [
        | inl e ↦ let f : Open i ≡ Open n = sym at ∙ ap (place_of Opened) e
            ∙ open_here in inl (e, cc)
        | inr apart ↦ inr (sym (else w apart) ∙ at)
      ]

  was_done : (w r : ℕ) → place_of Opened w ≡ Done r → place_of p w ≡ Done r
  was_done w r at =
      elim (cases_eq w v) [
        | inl e ↦ let f : Done r ≡ Open n = sym at ∙ ap (place_of Opened) e ∙ open_here in absurd cc
        | inr apart ↦ sym (else w apart) ∙ at
      ]

  old : (i : ℕ) → i < n → get_or Opened.stack i 0 ≡ get_or p.stack i 0
  old i lt = get_or-append p.stack (v ∷ []) 0 i lt

  last : get_or Opened.stack n 0 ≡ v
  last = get_or-append_seam p.stack v [] 0

  long : length Opened.stack ≡ n + 1
  long = length-append p.stack (v ∷ [])

  -- there is no look at a node that was just opened
  unlooked : looks_of p v ≡ 0
  unlooked = is.fresh v may.unseen

  open_stacked : (i : ℕ) → i < length Opened.stack
      → place_of Opened (get_or Opened.stack i 0) ≡ Open i
  open_stacked i lt =
      elim (cases_eq i n) [
        | inl e ↦
            let P : ℕ → Type 0 = λ i. place_of Opened (get_or Opened.stack i 0) ≡ Open i in
            subst P (sym e) (ap (place_of Opened) last ∙ open_here)
        | inr apart ↦
            let low : i < n = omega (arith, long) in
            ap (place_of Opened) (old i low)
            ∙ stays _ (λ e. open≢new i (sym (is.stacked i low) ∙ e))
            ∙ is.stacked i low
      ]

  open_opened : (w i : ℕ) → place_of Opened w ≡ Open i
      → (i < length Opened.stack) × (get_or Opened.stack i 0 ≡ w)
  open_opened w i at =
      elim (was_open w i at) [
        | inl (e, f) ↦ (omega (arith, long), (λ k. get_or Opened.stack (f k) 0) ∙ last ∙ sym e)
        | inr before ↦
            let (low, there) = is.opened w i before in
            (omega (arith, long, low), old i low ∙ there)
      ]

  open_few : length Opened.stack + length p.reasons ≤ count_by is_seen Opened.places
  open_few =
      let count = sum_by-set (λ x. cond (is_seen x) 1 0) p.places v (Open n) New
      (omega (arith, is.places_long, may.made)) in
      let weight : Place → ℕ = λ x. cond (is_seen x) 1 0 in
      let was : weight (place_of p v) ≡ 0 = ap weight may.unseen in
      omega (arith, count, was, long, is.few)

  open_rooted : 0 < length Opened.stack → Contains (members_of g 0) (get_or Opened.stack 0 0)
  open_rooted some =
      let P : ℕ → Type 0 = Contains (members_of g 0) in
      elim (cases_eq n 0) [
        | inl e ↦ subst P (sym ((λ k. get_or Opened.stack (sym e k) 0) ∙ last)) (may.starting e)
        | inr apart ↦ let low : 0 < n = omega (arith, apart) in subst P (sym (old 0 low))
            (is.rooted low)
      ]

  -- no start after i up to j, as it was
  none_before : (i j : ℕ) → NoStart Opened i j → NoStart p i j
  none_before i j none b there = none b (Contains-append_left p.starts (n ∷ []) b there)

  none_after : (i j : ℕ) → j < n → NoStart p i j → NoStart Opened i j
  none_after i j low none b there lt le =
      elim (Contains-push_cases p.starts n b there) [
        | inl before ↦ none b before lt le
        | inr e ↦ omega (arith, e, le, low)
      ]

  open_up : (i j : ℕ) → i < j → j < length Opened.stack
      → Leads g (get_or Opened.stack i 0) (get_or Opened.stack j 0)
  open_up i j lt there =
      let low_i : i < n = omega (arith, long) in
      let P : ℕ → Type 0 = λ x. Leads g x (get_or Opened.stack j 0) in
      let Q : ℕ → Type 0 = Leads g (get_or p.stack i 0) in
      subst P (sym (old i low_i))
      (elim (cases_eq j n) [
        | inl e ↦ subst Q (sym ((λ k. get_or Opened.stack (e k) 0) ∙ last)) (may.reached i low_i)
        | inr apart ↦ let low_j : j < n = omega (arith, long) in subst Q (sym (old j low_j))
            (is.up i j lt low_j)
      ])

  open_down : (i j : ℕ) → i < j → j < length Opened.stack → NoStart Opened i j
      → Leads g (get_or Opened.stack j 0) (get_or Opened.stack i 0)
  open_down i j lt there none =
      elim (cases_eq j n) [
        | inl e ↦ absurd (none n (Contains-push p.starts n) (omega (arith, e, lt))
            (omega (arith, e)))
        | inr apart ↦
            let low_j : j < n = omega (arith, long) in
            let low_i : i < n = omega (arith, lt) in
            let P : ℕ → Type 0 = λ x. Leads g x (get_or Opened.stack i 0) in
            let Q : ℕ → Type 0 = Leads g (get_or p.stack j 0) in
            subst P (sym (old j low_j)) (subst Q (sym (old i low_i))
            (is.down i j lt low_j (none_before i j none)))
      ]

  still_settled : (i : ℕ) (x : Place) → i < n → SettledAt p i x → SettledAt Opened i x
  still_settled i New low there = there
  still_settled i (Open j) low there = none_after j i low there
  still_settled i (Done r) low there = tt

  settled_seen : (i : ℕ) (x : Place) → SettledAt p i x → x ≢ New
  settled_seen i New there e = there
  settled_seen i (Open j) there e = open≢new j e
  settled_seen i (Done r) there e = done≢new r e

  pub open_settled : (i w : ℕ) → i < n → IsSettled p i w → IsSettled Opened i w
  open_settled i w low there =
      let P : Place → Type 0 = SettledAt Opened i in
      subst P (sym (stays w (settled_seen i (place_of p w) there)))
      (still_settled i (place_of p w) low there)

  open_looked : (w i k : ℕ) → place_of Opened w ≡ Open i → k < looks_of p w
      → IsSettled Opened i (get_or (successors_of g w) k 0)
  open_looked w i k at lt =
      elim (was_open w i at) [
        | inl (e, f) ↦ absurd (omega (arith, lt, ap (looks_of p) e, unlooked))
        | inr before ↦ open_settled i _ (is.opened w i before).0 (is.looked w i k before lt)
      ]

  open_loop : (w i k : ℕ) → place_of Opened w ≡ Open i → k < looks_of p w
      → get_or (successors_of g w) k 0 ≡ w → get_or p.loops w false ≡ true
  open_loop w i k at lt same =
      elim (was_open w i at) [
        | inl (e, f) ↦ absurd (omega (arith, lt, ap (looks_of p) e, unlooked))
        | inr before ↦ is.loop_seen w i k before lt same
      ]

  open_waiting : (w i : ℕ) → place_of Opened w ≡ Open i → looks_of p w < degree_of g w
      → Contains Opened.pending i
  open_waiting w i at left =
      elim (was_open w i at) [
        | inl (e, f) ↦ let P : ℕ → Type 0 = Contains Opened.pending in subst P (sym f)
            (Contains-push p.pending n)
        | inr before ↦ Contains-append_left p.pending (n ∷ []) i (is.waiting w i before left)
      ]

  open_below : (xs : List ℕ) → ((x : ℕ) → Contains xs x → x < n) → (x : ℕ)
      → Contains (xs ++ n ∷ []) x → x < length Opened.stack
  open_below xs below x there =
      elim (Contains-push_cases xs n x there) [
        | inl before ↦ omega (arith, long, below x before)
        | inr e ↦ omega (arith, long, e)
      ]

  open_first : 0 < length Opened.stack → Contains Opened.starts 0
  open_first some =
      let P : ℕ → Type 0 = Contains Opened.starts in
      elim (cases_eq n 0) [
        | inl e ↦ subst P e (Contains-push p.starts n)
        | inr apart ↦ Contains-append_left p.starts (n ∷ []) 0
            (is.first_start (omega (arith, apart)))
      ]

  open_closed : (u w r : ℕ) → place_of Opened u ≡ Done r → IsEdge g u w
      → (s : ℕ) × (place_of Opened w ≡ Done s) × (s ≤ r)
  open_closed u w r at edge =
      let (s, there, le) = is.closed u w r (was_done u r at) edge in
      (s, stays w (λ e. done≢new s (sym there ∙ e)) ∙ there, le)

  open_explains : (r : ℕ) (reason : Option ℕ) → ExplainsDone g p r reason
      → ExplainsDone g Opened r reason
  open_explains r (Some until) why = λ u at. why u (was_done u r at)
  open_explains r None why = λ u w edge at there. why u w edge (was_done u r at)
      (was_done w r there)

  open_seen : (w : ℕ) → place_of p w ≢ New → place_of Opened w ≢ New
  open_seen w seen e = seen (sym (stays w seen) ∙ e)

  open_fresh : (w : ℕ) → place_of Opened w ≡ New → looks_of p w ≡ 0
  open_fresh w at =
      elim (cases_eq w v) [
        | inl e ↦ ap (looks_of p) e ∙ unlooked
        | inr apart ↦ is.fresh w (sym (else w apart) ∙ at)
      ]

  pub opened_pass : IsPass g Opened
  opened_pass = record {
    places_long = length-set p.places v (Open n) ∙ is.places_long;
    explored_long = is.explored_long;
    loops_long = is.loops_long;
    stacked = open_stacked;
    opened = open_opened;
    few = open_few;
    rooted = open_rooted;
    starts_up = up-push p.starts n is.starts_up is.starts_open;
    starts_open = open_below p.starts is.starts_open;
    first_start = open_first;
    up = open_up;
    down = open_down;
    fresh = open_fresh;
    within = is.within;
    looked = open_looked;
    loop_seen = open_loop;
    loop_there = is.loop_there;
    waiting = open_waiting;
    pending_up = up-push p.pending n is.pending_up is.pending_open;
    pending_open = open_below p.pending is.pending_open;
    begun_within = is.begun_within;
    begun_seen = λ k lt. open_seen _ (is.begun_seen k lt);
    closed = open_closed;
    ranked = λ u r at. is.ranked u r (was_done u r at);
    explained = λ r lt. open_explains r (get_or p.reasons r None) (is.explained r lt);
  }
