-- What is left of a list of facts, fact by fact.
use mir.Val.{bool_byte}
use Rattle.std.proofs.Common.{◌≡◌, ℕ, ◌+◌, ◌<◌, ◌≤◌, ◌⊎◌, Bool, true, false, cond, List, [], ◌∷◌, ◌++◌, length, take, drop, get_or, refl, sym, ap, ◌∙◌, subst, inl, inr, arith, length-append}
use Rattle.std.specs.Prelude.{Contains}
use Rattle.std.proofs.lemmas.Bool.{cases_eq}
use Rattle.std.proofs.lemmas.List.{append-nil, get_or_at, get_or_append_left, take-append-drop, take_all, take_more}
use Rattle.std.proofs.lemmas.List.Elements.{Contains-append_left, Contains-push, Contains-push_cases, filter-append}
use Rattle.hy_base.specs.Rows.{row}
use Rattle.hy_base.proofs.Members.{contains-none}
use Rattle.cnf_frames.specs.declared.facts.Fact.{Fact}
use Rattle.cnf_frames.specs.declared.facts.Fact.TheVariants.{Zero, One, Same, Differ, AnyOf}
use Rattle.cnf_frames.specs.Facts.{fact_at}
use Rattle.invar_find.specs.declared.seen.Seen.{Seen}
use Rattle.invar_find.specs.Parts.{AreThose, IsSublist, none, leaves, takes}
use Rattle.invar_find.specs.Standing.{IsAlive, Stands, StandsAt, is_other, others_of}
use Rattle.invar_find.proofs.Sublists.{sublist-append}

-- the first k facts were gone through
pub record IsLeaving (seen : Seen) (facts : List Fact) (k place : ℕ) (left : List Fact) : Type 0 where
  pub sublist : IsSublist left (take k facts)
  pub right : (f : Fact) → Contains left f → Stands seen f
  pub whole : (f : Fact) → Contains (take k facts) f → is_other f ≡ false → Stands seen f →
      Contains left f
  pub alive : (p : ℕ) → p < place → row seen.alive p ≡ true →
      Contains left (fact_at seen.others p)
  pub counted : place ≡ length (others_of (take k facts))
  pub within : place ≤ k

pub counted-next : (place one : ℕ) (b : Bool) (f : Fact) → b ≡ is_other f → one ≡ bool_byte b →
    place + one ≡ place + cond (is_other f) 1 0
counted-next place one b f e byte = ap (λ n. place + n) (byte ∙ as_number b ∙ ap (λ b. cond b 1 0) e)
  where
    as_number : (b : Bool) → bool_byte b ≡ cond b 1 0
    as_number true = refl
    as_number false = refl

pub added-small : (place one k : ℕ) (b : Bool) → one ≡ bool_byte b → place ≤ k → place + one ≤ k + 1
added-small place one k b byte within =
    let small : bool_byte b ≤ 1 =
    elim b as (λ b. bool_byte b ≤ 1) [ true ↦ omega arith | false ↦ omega arith ] in
    omega (arith, byte, small, within)

pub leaving-none : (seen : Seen) (facts left : List Fact) → left ≡ [] → IsLeaving seen facts 0 0 left
leaving-none seen facts left e =
    let L : List Fact → Type 0 = IsLeaving seen facts 0 0 in
    subst L (sym e) (record {
      sublist = none;
      right = λ f has. absurd (contains-none f has);
      whole = λ f has simple stands. absurd (contains-none f has);
      alive = λ p lt alive. absurd (omega arith);
      counted = refl;
      within = omega arith;
    })

-- one of the others stands at the place that was counted
pub other-here : (seen : Seen) (facts : List Fact) (k place : ℕ) (f : Fact) →
    seen.others ≡ others_of facts → k < length facts → f ≡ get_or facts k f →
    place ≡ length (others_of (take k facts)) → is_other f ≡ true →
    (place < length seen.others) × (fact_at seen.others place ≡ f)
other-here seen facts k place f others lt at counted other =
    let front : List Fact = others_of (take k facts) in
    let behind : List Fact = others_of (drop (k + 1) facts) in
    let whole : take (k + 1) facts ++ drop (k + 1) facts ≡ facts = take-append-drop (k + 1) facts in
    let more : take (k + 1) facts ≡ take k facts ++ f ∷ [] =
    take_more facts k f lt ∙ ap (λ g. take k facts ++ g ∷ []) (sym at) in
    let one : others_of (f ∷ []) ≡ f ∷ [] = ap (λ b. cond b (f ∷ []) []) other in
    let split : seen.others ≡ (front ++ f ∷ []) ++ behind =
    others ∙ ap others_of (sym whole) ∙ filter-append is_other (take (k + 1) facts) (drop (k + 1) facts)
    ∙ ap (λ x. others_of x ++ behind) more
    ∙ ap (λ x. x ++ behind) (filter-append is_other (take k facts) (f ∷ [])
    ∙ ap (λ x. front ++ x) one) in
    let long : length seen.others ≡ length front + 1 + length behind =
    ap length split ∙ length-append (front ++ f ∷ []) behind
    ∙ ap (λ n. n + length behind) (length-append front (f ∷ [])) in (
      omega (arith, long, counted),
      ap (λ x. fact_at x place) split
          ∙ get_or_append_left (front ++ f ∷ []) behind (Zero 0) place
          (let n : length (front ++ f ∷ []) ≡ length front + 1 = length-append front (f ∷ []) in
          omega (arith, n, counted))
          ∙ get_or_at front f [] (Zero 0) place (sym counted),
    )

module _ (seen : Seen) (facts left more : List Fact) (k place next : ℕ) (f : Fact)
    (others : seen.others ≡ others_of facts) (lt : k < length facts) (at : f ≡ get_or facts k f)
    (was : IsLeaving seen facts k place left) (counted : next ≡ place + cond (is_other f) 1 0) where
  step : take (k + 1) facts ≡ take k facts ++ f ∷ []
  step = take_more facts k f lt ∙ ap (λ g. take k facts ++ g ∷ []) (sym at)

  places : next ≡ length (others_of (take (k + 1) facts))
  places =
      let e : length (others_of (take (k + 1) facts))
      ≡ length (others_of (take k facts)) + length (others_of (f ∷ [])) =
      ap (λ x. length (others_of x)) step ∙ ap length (filter-append is_other (take k facts) (f ∷ []))
      ∙ length-append (others_of (take k facts)) (others_of (f ∷ [])) in
      let one : length (others_of (f ∷ [])) ≡ cond (is_other f) 1 0 =
      elim (is_other f) as (λ b. length (cond b (f ∷ []) []) ≡ cond b 1 0)
      [ true ↦ refl | false ↦ refl ] in
      let before = was.counted in
      omega (arith, counted, before, e, one)

  within-next : next ≤ k + 1
  within-next =
      let one : cond (is_other f) 1 0 ≤ 1 = elim (is_other f) as (λ b. cond b 1 0 ≤ 1)
      [ true ↦ omega arith | false ↦ omega arith ] in
      let before = was.within in
      omega (arith, counted, before, one)

  -- the facts of the other kinds whose places were passed
  passed : (p : ℕ) → p < next → (p < place) ⊎ ((p ≡ place) × (is_other f ≡ true))
  passed p less = cases (is_other f) refl
    where
      cases : (b : Bool) → is_other f ≡ b → (p < place) ⊎ ((p ≡ place) × (is_other f ≡ true))
      cases true e =
          let n : next ≡ place + 1 = counted ∙ ap (λ b. place + cond b 1 0) e in
          elim (cases_eq p place) [
            | inl same ↦ inr (same, e)
            | inr apart ↦ inl (omega (arith, n, less, apart))
          ]
      cases false e =
          let n : next ≡ place + 0 = counted ∙ ap (λ b. place + cond b 1 0) e in
          inl (omega (arith, n, less))

  stands-here : StandsAt seen place f → Stands seen f
  stands-here = here f refl
    where
      other : (g : Fact) → g ≡ f → is_other g ≡ true → row seen.alive place ≡ true → IsAlive seen g
      other g e is h =
          let (less, here) =
          other-here seen facts k place f others lt at was.counted (ap is_other (sym e) ∙ is) in
          (place, less, here ∙ sym e, h)

      here : (g : Fact) → g ≡ f → StandsAt seen place g → Stands seen g
      here (Zero j) e h = h
      here (Same i j) e h = h
      here (One j) e h = other (One j) e refl h
      here (Differ i j) e h = other (Differ i j) e refl h
      here (AnyOf ls) e h = other (AnyOf ls) e refl h

  pub leaving-more : StandsAt seen place f → more ≡ left ++ f ∷ [] →
      IsLeaving seen facts (k + 1) next more
  leaving-more stands e =
      let L : List Fact → Type 0 = IsLeaving seen facts (k + 1) next in
      let T : List Fact → Type 0 = IsSublist (left ++ f ∷ []) in
      subst L (sym e) (record {
        sublist = subst T (sym step) (sublist-append was.sublist (takes none));
        right = λ g has. elim (Contains-push_cases left f g has) [
          | inl before ↦ was.right g before
          | inr same ↦ let P : Fact → Type 0 = Stands seen in subst P same (stands-here stands)
        ];
        whole = λ g has simple stand.
            let C : List Fact → Type 0 = λ x. Contains x g in
            elim (Contains-push_cases (take k facts) f g (subst C step has)) [
              | inl before ↦ Contains-append_left left (f ∷ []) g (was.whole g before simple stand)
              | inr same ↦
                  let Q : Fact → Type 0 = Contains (left ++ f ∷ []) in
                  subst Q same (Contains-push left f)
            ];
        alive = λ p less alive. elim (passed p less) [
          | inl before ↦ Contains-append_left left (f ∷ []) _ (was.alive p before alive)
          | inr (same, other) ↦
              let Q : Fact → Type 0 = Contains (left ++ f ∷ []) in
              subst Q (sym (ap (fact_at seen.others) same
              ∙ (other-here seen facts k place f others lt at was.counted other).1))
              (Contains-push left f)
        ];
        counted = places;
        within = within-next;
      })

  stands-simple : is_other f ≡ false → Stands seen f → StandsAt seen place f
  stands-simple = here f
    where
      here : (g : Fact) → is_other g ≡ false → Stands seen g → StandsAt seen place g
      here (Zero j) simple h = h
      here (Same i j) simple h = h
      here (One j) simple h = absurd (cc)
      here (Differ i j) simple h = absurd (cc)
      here (AnyOf ls) simple h = absurd (cc)

  stands-other : is_other f ≡ true → row seen.alive place ≡ true → StandsAt seen place f
  stands-other = here f
    where
      here : (g : Fact) → is_other g ≡ true → row seen.alive place ≡ true → StandsAt seen place g
      here (Zero j) other h = absurd (cc)
      here (Same i j) other h = absurd (cc)
      here (One j) other h = h
      here (Differ i j) other h = h
      here (AnyOf ls) other h = h

  pub leaving-less : ¬ StandsAt seen place f → more ≡ left → IsLeaving seen facts (k + 1) next more
  leaving-less fails e =
      let L : List Fact → Type 0 = IsLeaving seen facts (k + 1) next in
      let T : List Fact → Type 0 = IsSublist left in
      let S : List Fact → Type 0 = λ x. IsSublist x (take k facts ++ f ∷ []) in
      subst L (sym e) (record {
        sublist = subst T (sym step)
            (subst S (append-nil left) (sublist-append was.sublist (leaves {f = f} none)));
        right = was.right;
        whole = λ g has simple stand.
            let C : List Fact → Type 0 = λ x. Contains x g in
            elim (Contains-push_cases (take k facts) f g (subst C step has)) [
              | inl before ↦ was.whole g before simple stand
              | inr same ↦
                  let P : Fact → Type 0 = Stands seen in
                  absurd (fails (stands-simple (ap is_other same ∙ simple) (subst P (sym same) stand)))
            ];
        alive = λ p less alive. elim (passed p less) [
          | inl before ↦ was.alive p before alive
          | inr (same, other) ↦
              absurd (fails (stands-other other (ap (row seen.alive) (sym same) ∙ alive)))
        ];
        counted = places;
        within = within-next;
      })

pub leaving-all : (seen : Seen) (facts left : List Fact) (k place : ℕ) →
    seen.others ≡ others_of facts → length facts ≤ k → IsLeaving seen facts k place left →
    AreThose (Stands seen) facts left
leaving-all seen facts left k place others le was = record {
  sublist = let T : List Fact → Type 0 = IsSublist left in subst T full was.sublist;
  right = was.right;
  whole = λ f has stands. all f (let C : List Fact → Type 0 = λ x. Contains x f in
      subst C (sym full) has) stands;
}
  where
    full : take k facts ≡ facts
    full = take_all k facts le

    alive : (f : Fact) → IsAlive seen f → Contains left f
    alive f (p, lt, e, is) =
        let counted : place ≡ length seen.others =
        was.counted ∙ ap (λ x. length (others_of x)) full ∙ ap length (sym others) in
        let C : Fact → Type 0 = Contains left in
        subst C e (was.alive p (omega (arith, lt, counted)) is)

    all : (f : Fact) → Contains (take k facts) f → Stands seen f → Contains left f
    all (Zero j) has stands = was.whole (Zero j) has refl stands
    all (Same i j) has stands = was.whole (Same i j) has refl stands
    all (One j) has stands = alive (One j) stands
    all (Differ i j) has stands = alive (Differ i j) stands
    all (AnyOf ls) has stands = alive (AnyOf ls) stands
