-- The last component ends once all members that its nodes lead to were looked at.
use Rattle.std.proofs.Common.{◌≡◌, ◌≢◌, ℕ, ◌+◌, ◌-◌, ◌<◌, ◌≤◌, ◌⊎◌, List, [], ◌∷◌, ◌++◌, length, get_or, take, drop, true, false, Option, Some, None, inl, inr, refl, sym, ap, ◌∙◌, subst, arith}
use Rattle.std.specs.List.{Contains, All}
use Rattle.std.proofs.Math.ListN.{length-append, get_or-append}
use Rattle.std.proofs.Math.Seq.{get_or-append_seam}
use Rattle.std.proofs.lemmas.Bool.{cases_eq, cases_lt, true≢false}
use Rattle.std.proofs.lemmas.List.{get_or_default, get_or_past, get_or-take, get_or-drop, length-drop, length-take-le}
use Rattle.std.proofs.lemmas.List.Elements.{Contains-get_or, Contains-push, Contains-append_left, Contains-push_cases}
use Rattle.rank_check.specs.Graphs.{Shape, members_of, successors_of, IsEdge}
use Rattle.fair_search.specs.declared.pass.Place.{Place}
use Rattle.fair_search.specs.declared.pass.Place.TheVariants.{New, Open, Done}
use Rattle.fair_search.specs.declared.pass.Pass.{Pass}
use Rattle.fair_search.specs.Paths.{Leads}
use Rattle.fair_search.specs.Passing.{place_of, is_seen, degree_of, looks_of, IsUp, NoStart, SettledAt, IsSettled, ExplainsDone, IsPass, AreDone, ExplainsAll, left}
use Rattle.fair_search.proofs.Merging.{open≢new, up-front}

module _ (g : Shape) (p : Pass) (is : IsPass g p) (front : List ℕ) (b : ℕ)
    (ends : p.starts ≡ front ++ b ∷ []) (spent : (i : ℕ) → Contains p.pending i → i < b) where
  abbrev pub nodes : List ℕ
  nodes = drop b p.stack

  abbrev rank : ℕ
  rank = length p.reasons

  is_start : Contains p.starts b
  is_start = let P : List ℕ → Type 0 = λ xs. Contains xs b in subst P (sym ends)
      (Contains-push front b)

  pub standing : b < length p.stack
  standing = is.starts_open b is_start

  short : length (take b p.stack) ≡ b
  short = length-take-le b p.stack (omega (arith, standing))

  pub in_nodes : (v i : ℕ) → place_of p v ≡ Open i → b ≤ i → Contains nodes v
  in_nodes v i at le =
      let (lt, there) = is.opened v i at in
      let P : ℕ → Type 0 = Contains nodes in
      let same : b + (i - b) ≡ i = omega (arith, le) in
      subst P
      (get_or-drop b p.stack (i - b) 0 ∙ (λ k. get_or p.stack (same k) 0) ∙ there)
      (Contains-get_or nodes (i - b) 0 (omega (arith, length-drop b p.stack, lt, le)))

  pub from_nodes : (v : ℕ) → Contains nodes v → (i : ℕ) × (place_of p v ≡ Open i) × (b ≤ i)
  from_nodes v (k, lt, at) =
      let there : b + k < length p.stack = omega (arith, length-drop b p.stack, lt) in
      let same : get_or p.stack (b + k) 0 ≡ v = get_or_default p.stack (b + k) 0 v there
      ∙ sym (get_or-drop b p.stack k v) ∙ at in
      (b + k, ap (place_of p) (sym same) ∙ is.stacked (b + k) there, omega arith)

  -- an earlier start, or this one
  which_start : (s : ℕ) → Contains p.starts s → Contains front s ⊎ (s ≡ b)
  which_start s there =
      let P : List ℕ → Type 0 = λ xs. Contains xs s in
      elim (Contains-push_cases front b s (subst P ends there))
      [ inl before ↦ inl before | inr e ↦ inr (sym e) ]

  was_start : (s : ℕ) → Contains front s → Contains p.starts s
  was_start s there = let P : List ℕ → Type 0 = λ xs. Contains xs s in subst P (sym ends)
      (Contains-append_left front (b ∷ []) s there)

  earlier : (s : ℕ) → Contains front s → s < b
  earlier s (k, lt, at) =
      let U : List ℕ → Type 0 = IsUp in
      let rises = subst U ends is.starts_up in
      omega (
        arith,
        rises k (length front) lt (omega (arith, length-append front (b ∷ []))),
        get_or-append front (b ∷ []) 0 k lt,
        get_or_default front k 0 s lt,
        at,
        get_or-append_seam front b [] 0,
      )

  -- all members that the nodes lead to were looked at
  pub exhausted : (v i : ℕ) → place_of p v ≡ Open i → b ≤ i → degree_of g v ≤ looks_of p v
  exhausted v i at le =
      elim (cases_lt (looks_of p v) (degree_of g v)) [
        | inl left ↦ absurd (omega (arith, spent i (is.waiting v i at left), le))
        | inr done ↦ done
      ]

  -- an edge from the nodes leads to them or to a done node
  pub onto : (v i w : ℕ) → place_of p v ≡ Open i → b ≤ i → IsEdge g v w
      → Contains nodes w ⊎ ((s : ℕ) × (place_of p w ≡ Done s))
  onto v i w at le edge =
      let (k, lt, is_w) = edge.1 in
      let P : ℕ → Type 0 = IsSettled p i in
      let member = get_or_default (successors_of g v) k 0 w lt ∙ is_w in
      where_to (place_of p w) refl (subst P member
      (is.looked v i k at (omega (arith, lt, exhausted v i at le))))
    where
      where_to : (x : Place) → place_of p w ≡ x → SettledAt p i x
          → Contains nodes w ⊎ ((s : ℕ) × (place_of p w ≡ Done s))
      where_to New e there = absurd there
      where_to (Open j) e there =
          elim (cases_lt j b) [
            | inl before ↦ absurd (there b is_start before le)
            | inr from ↦ inl (in_nodes w j e from)
          ]
      where_to (Done s) e there = inr (s, e)

  -- ---- what is asked of the nodes

  pub part_some : 0 < length nodes
  part_some = omega (arith, length-drop b p.stack, standing)

  pub part_root : get_or nodes 0 0 ≡ get_or p.stack b 0
  part_root = let same : b + 0 ≡ b = omega arith in get_or-drop b p.stack 0 0
      ∙ (λ k. get_or p.stack (same k) 0)

  root_open : place_of p (get_or nodes 0 0) ≡ Open b
  root_open = ap (place_of p) part_root ∙ is.stacked b standing

  made_if : (v i : ℕ) → place_of p v ≡ Open i → v < length p.places
  made_if v i at =
      elim (cases_lt v (length p.places)) [
        | inl lt ↦ lt
        | inr le ↦ absurd (open≢new i (sym at ∙ get_or_past p.places v New le))
      ]

  pub part_made : All (λ v. v < length p.places) nodes
  part_made k d lt = let (i, at, le) = from_nodes _ (Contains-get_or nodes k d lt) in made_if _ i at

  pub part_seen : All (λ v. is_seen (place_of p v) ≡ true) nodes
  part_seen k d lt = let (i, at, le) = from_nodes _ (Contains-get_or nodes k d lt) in ap is_seen at

  pub part_no_loop : get_or p.loops (get_or nodes 0 0) false ≡ false
      → ¬ IsEdge g (get_or nodes 0 0) (get_or nodes 0 0)
  part_no_loop none edge =
      let root = get_or nodes 0 0 in
      let (k, lt, at) = edge.1 in
      let looked : k < looks_of p root = omega (arith, lt, exhausted root b root_open (omega arith))
      in
      true≢false (sym (is.loop_seen root b k root_open looked
      (get_or_default (successors_of g root) k 0 root lt ∙ at)) ∙ none)

  module _ (reason : Option ℕ) (why : ExplainsAll g nodes reason) (places : List Place)
      (done : AreDone nodes rank p.places places) where
    -- the pass with the component done
    abbrev pub Closed : Pass
    Closed = record p {
      places = places;
      stack = take b p.stack;
      starts = front;
      reasons = p.reasons
          ++ reason ∷ [];
    }

    outside : (v : ℕ) (x : Place) → place_of p v ≡ x → ((i : ℕ) → x ≡ Open i → i < b)
        → place_of Closed v ≡ x
    outside v x at low =
        done.kept v (λ there.
        let (i, e, le) = from_nodes v there in
        absurd (omega (arith, low i (sym at ∙ e), le)))
        ∙ at

    -- what a node is now, from what it was
    is_open : (v i : ℕ) → place_of p v ≡ Open i → i < b → place_of Closed v ≡ Open i
    is_open v i at lt = outside v (Open i) at (λ j e. let f : i ≡ j = cc in omega (arith, f, lt))

    is_done : (v r : ℕ) → place_of p v ≡ Done r → place_of Closed v ≡ Done r
    is_done v r at = outside v (Done r) at (λ j e. absurd cc)

    is_closed : (v i : ℕ) → place_of p v ≡ Open i → b ≤ i → place_of Closed v ≡ Done rank
    is_closed v i at le = done.done v (in_nodes v i at le)

    -- what a node was, from what it is now
    now : (v : ℕ) (x : Place) → place_of p v ≡ x → (y : Place) → place_of Closed v ≡ y
        → (x ≡ y) ⊎ ((i : ℕ) × (x ≡ Open i) × (b ≤ i) × (y ≡ Done rank))
    now v New at y e = inl (sym (outside v New at (λ i f. absurd cc)) ∙ e)
    now v (Open i) at y e =
        elim (cases_lt i b) [
          | inl lt ↦ inl (sym (is_open v i at lt) ∙ e)
          | inr le ↦ inr (i, refl, le, sym e ∙ is_closed v i at le)
        ]
    now v (Done r) at y e = inl (sym (is_done v r at) ∙ e)

    was_open : (v i : ℕ) → place_of Closed v ≡ Open i → (place_of p v ≡ Open i) × (i < b)
    was_open v i e =
        elim (now v (place_of p v) refl (Open i) e) [
          | inl same ↦
              elim (cases_lt i b) [
                | inl lt ↦ (same, lt)
                | inr le ↦ let f : Open i ≡ Done rank = sym e ∙ is_closed v i same le in absurd cc
              ]
          | inr (j, at, le, f) ↦ absurd cc
        ]

    was_done : (v r : ℕ) → place_of Closed v ≡ Done r
        → (place_of p v ≡ Done r) ⊎ ((i : ℕ) × (place_of p v ≡ Open i) × (b ≤ i) × (r ≡ rank))
    was_done v r e =
        elim (now v (place_of p v) refl (Done r) e) [
          | inl same ↦ inl same
          | inr (i, at, le, f) ↦ inr (i, at, le, cc)
        ]

    seen_still : (v : ℕ) → place_of p v ≢ New → place_of Closed v ≢ New
    seen_still v seen e =
        elim (now v (place_of p v) refl New e)
        [ inl same ↦ seen same | inr (i, at, le, f) ↦ let h : New ≡ Done rank = f in cc ]

    old : (i : ℕ) → i < b → get_or Closed.stack i 0 ≡ get_or p.stack i 0
    old i lt = get_or-take b p.stack i 0 lt

    none_before : (i j : ℕ) → j < b → NoStart Closed i j → NoStart p i j
    none_before i j low none s there lt le =
        elim (which_start s there) [
          | inl before ↦ none s before lt le
          | inr e ↦ omega
              (arith, e, le, low)
        ]

    settled : (i w : ℕ) (x : Place) → i < b → place_of p w ≡ x → SettledAt p i x
        → IsSettled Closed i w
    settled i w New low at there = absurd there
    settled i w (Open j) low at there =
        let P : Place → Type 0 = SettledAt Closed i in
        elim (cases_lt j b) [
          | inl lt ↦ subst P (sym (is_open w j at lt))
              (λ s start after upto. there s (was_start s start) after upto)
          | inr le ↦ subst P (sym (is_closed w j at le)) tt
        ]
    settled i w (Done r) low at there = let P : Place
        → Type 0 = SettledAt Closed i in subst P (sym (is_done w r at)) tt

    close_closed : (v w r : ℕ) → place_of Closed v ≡ Done r → IsEdge g v w
        → (s : ℕ) × (place_of Closed w ≡ Done s) × (s ≤ r)
    close_closed v w r e edge =
        elim (was_done v r e) [
          | inl before ↦
              let (s, there, le) = is.closed v w r before edge in
              (s, is_done w s there, le)
          | inr (i, at, le, f) ↦
              elim (onto v i w at le edge) [
                | inl inside ↦ (rank, done.done w inside, omega (arith, f))
                | inr (s, there) ↦ (s, is_done w s there, omega (arith, f, is.ranked w s there))
              ]
        ]

    longer : length Closed.reasons ≡ rank + 1
    longer = length-append p.reasons (reason ∷ [])

    close_ranked : (v r : ℕ) → place_of Closed v ≡ Done r → r < length Closed.reasons
    close_ranked v r e =
        elim (was_done v r e) [
          | inl before ↦ omega (arith, is.ranked v r before, longer)
          | inr (i, at, le, f) ↦ omega (arith, f, longer)
        ]

    -- a done node of an earlier rank was done, and one of this rank is of the component
    was_ranked : (v r : ℕ) → r < rank → place_of Closed v ≡ Done r → place_of p v ≡ Done r
    was_ranked v r lt e =
        elim (was_done v r e) [
          | inl before ↦ before
          | inr (i, at, le, f) ↦ absurd
              (omega (arith, f, lt))
        ]

    of_rank : (v : ℕ) → place_of Closed v ≡ Done rank → Contains nodes v
    of_rank v e =
        elim (was_done v rank e) [
          | inl before ↦ absurd (omega (arith, is.ranked v rank before))
          | inr (i, at, le, f) ↦ in_nodes v i at le
        ]

    explains_old : (r : ℕ) (old : Option ℕ) → r < rank → ExplainsDone g p r old
        → ExplainsDone g Closed r old
    explains_old r (Some until) lt told = λ v e. told v (was_ranked v r lt e)
    explains_old r None lt told = λ v w edge e f. told v w edge (was_ranked v r lt e)
        (was_ranked w r lt f)

    explains_new : (new : Option ℕ) → ExplainsAll g nodes new → ExplainsDone g Closed rank new
    explains_new (Some until) told = λ v e. told v (of_rank v e)
    explains_new None told = λ v w edge e f. told v w edge (of_rank v e) (of_rank w f)

    close_explained : (r : ℕ) → r < length Closed.reasons
        → ExplainsDone g Closed r (get_or Closed.reasons r None)
    close_explained r lt =
        elim (cases_eq r rank) [
          | inl e ↦
              let P : ℕ → Type 0 = λ r. ExplainsDone g Closed r (get_or Closed.reasons r None) in
              let Q : Option ℕ → Type 0 = ExplainsDone g Closed rank in
              subst P (sym e) (subst Q (sym (get_or-append_seam p.reasons reason [] None))
              (explains_new reason why))
          | inr apart ↦
              let low : r < rank = omega (arith, longer, lt, apart) in
              let Q : Option ℕ → Type 0 = ExplainsDone g Closed r in
              subst Q (sym (get_or-append p.reasons (reason ∷ []) None r low))
              (explains_old r (get_or p.reasons r None) low (is.explained r low))
        ]

    close_stacked : (i : ℕ) → i < length Closed.stack
        → place_of Closed (get_or Closed.stack i 0) ≡ Open i
    close_stacked i lt =
        let low : i < b = omega (arith, short, lt) in
        ap (place_of Closed) (old i low) ∙ is_open _ i (is.stacked i (omega (arith, low, standing)))
        low

    close_opened : (v i : ℕ) → place_of Closed v ≡ Open i
        → (i < length Closed.stack) × (get_or Closed.stack i 0 ≡ v)
    close_opened v i e =
        let (at, low) = was_open v i e in
        (omega (arith, short, low), old i low ∙ (is.opened v i at).1)

    close_up : (i j : ℕ) → i < j → j < length Closed.stack
        → Leads g (get_or Closed.stack i 0) (get_or Closed.stack j 0)
    close_up i j lt there =
        let low : j < b = omega (arith, short, there) in
        let P : ℕ → Type 0 = λ x. Leads g x (get_or Closed.stack j 0) in
        let Q : ℕ → Type 0 = Leads g (get_or p.stack i 0) in
        subst P (sym (old i (omega (arith, lt, low))))
        (subst Q (sym (old j low)) (is.up i j lt (omega (arith, low, standing))))

    close_down : (i j : ℕ) → i < j → j < length Closed.stack → NoStart Closed i j
        → Leads g (get_or Closed.stack j 0) (get_or Closed.stack i 0)
    close_down i j lt there none =
        let low : j < b = omega (arith, short, there) in
        let P : ℕ → Type 0 = λ x. Leads g x (get_or Closed.stack i 0) in
        let Q : ℕ → Type 0 = Leads g (get_or p.stack j 0) in
        subst P (sym (old j low)) (subst Q (sym (old i (omega (arith, lt, low))))
        (is.down i j lt (omega (arith, low, standing)) (none_before i j low none)))

    close_rooted : 0 < length Closed.stack → Contains (members_of g 0) (get_or Closed.stack 0 0)
    close_rooted some =
        let P : ℕ → Type 0 = Contains (members_of g 0) in
        subst P (sym (old 0 (omega (arith, short, some)))) (is.rooted (omega (arith, standing)))

    close_first : 0 < length Closed.stack → Contains Closed.starts 0
    close_first some =
        elim (which_start 0 (is.first_start (omega (arith, standing)))) [
          | inl before ↦ before
          | inr e ↦ absurd (omega (arith, e, short, some))
        ]

    pub closed_left : left g Closed < left g p
    closed_left = omega (arith, short, standing)

    pub closed_pass : IsPass g Closed
    closed_pass = record {
      places_long = done.long ∙ is.places_long;
      explored_long = is.explored_long;
      loops_long = is.loops_long;
      stacked = close_stacked;
      opened = close_opened;
      few = omega (arith, longer, short, standing, done.count, is.few);
      rooted = close_rooted;
      starts_up = up-front front b (let U : List ℕ → Type 0 = IsUp in subst U ends is.starts_up);
      starts_open = λ s there. omega (arith, short, earlier s there);
      first_start = close_first;
      up = close_up;
      down = close_down;
      fresh = λ v e. elim (now v (place_of p v) refl New e) [
        | inl same ↦ is.fresh v same
        | inr (i, at, le, f) ↦ let h : New ≡ Done rank = f in absurd
            cc
      ];
      within = is.within;
      looked = λ v i k e lt. let (at, low) = was_open v i e in settled i _
          (place_of p (get_or (successors_of g v) k 0)) low refl (is.looked v i k at lt);
      loop_seen = λ v i k e lt same. is.loop_seen v i k (was_open v i e).0 lt same;
      loop_there = is.loop_there;
      waiting = λ v i e left. is.waiting v i (was_open v i e).0 left;
      pending_up = is.pending_up;
      pending_open = λ i there. omega (arith, short, spent i there);
      begun_within = is.begun_within;
      begun_seen = λ k lt. seen_still _ (is.begun_seen k lt);
      closed = close_closed;
      ranked = close_ranked;
      explained = close_explained;
    }
