-- What states and steps leave of facts.
use Rattle.std.proofs.Common.{◌≡◌, ℕ, suc, ◌+◌, ◌-◌, ◌<◌, ◌↔◌, Bool, true, false, List, [], ◌∷◌, ◌++◌, length, take, drop, get_or, refl, sym, ap, ◌∙◌, subst, inl, inr, arith, get_or-set_same, get_or-set_other}
use Rattle.std.specs.Prelude.{Contains, slice_index, slice_set}
use Rattle.std.proofs.Math.ListN.{length-set}
use Rattle.std.proofs.lemmas.Bool.{cases_eq}
use Rattle.std.proofs.lemmas.List.{append-nil, get_or-take, get_or-drop, take_more}
use Rattle.std.proofs.lemmas.List.Elements.{Contains-push_cases, filter-append}
use Rattle.hy_base.proofs.Members.{from-take}
use Rattle.hy_base.specs.Rows.{row}
use Rattle.aig_net.specs.Nets.{Net, Valuation, AllTrue, IsRight, latch_variable, literal_at, literal_value}
use Rattle.aig_net.specs.Rows.{latch_row}
use Rattle.cnf_frames.specs.declared.facts.Fact.{Fact}
use Rattle.cnf_frames.specs.declared.facts.Fact.TheVariants.{Zero, One, Same, Differ, AnyOf}
use Rattle.cnf_frames.specs.Facts.{AllIn, HoldsIn, IsIn, fact_at}
use Rattle.invar_find.specs.declared.seen.Seen.{Seen}
use Rattle.invar_find.specs.Classes.{AreBelow, AreConstant, AreJoined, AreSplit}
use Rattle.invar_find.specs.Parts.{AreThose}
use Rattle.invar_find.specs.Standing.{AllStand, AreLeft, HasAdded, HasMet, IsAlive, IsKnown, IsOf, Spares, Stands, is_other, others_of}
use Rattle.invar_find.proofs.Starting.{holds-alike}
use Rattle.invar_find.proofs.Sublists.{sublist-among}

-- ---- states

alive-holds : (seen : Seen) (state : ℕ → Bool) (f : Fact) →
    ((k : ℕ) → k < length seen.others → row seen.alive k ≡ true →
    HoldsIn state (fact_at seen.others k)) → IsAlive seen f → HoldsIn state f
alive-holds seen state f others (k, lt, e, alive) =
    let P : Fact → Type 0 = HoldsIn state in subst P e (others k lt alive)

pub known-of : (seen : Seen) (state : List Bool) → IsOf (length state) seen →
    ((j : ℕ) → j < length state → row seen.ones j ≡ false → row state j ≡ false) →
    AreConstant seen.classes (row state) →
    ((k : ℕ) → k < length seen.others → row seen.alive k ≡ true →
    HoldsIn (row state) (fact_at seen.others k)) →
    (f : Fact) → IsIn (length state) f → Stands seen f → HoldsIn (row state) f
known-of seen state of zeros constant others (Zero j) lt stands = zeros j lt stands
known-of seen state of zeros constant others (Same i j) (li, lj) stands =
    let many = of.classes in
    constant i (omega (arith, many, li)) ∙ ap (row state) stands
    ∙ sym (constant j (omega (arith, many, lj)))
known-of seen state of zeros constant others (One j) lt stands =
    alive-holds seen (row state) (One j) others stands
known-of seen state of zeros constant others (Differ i j) lt stands =
    alive-holds seen (row state) (Differ i j) others stands
known-of seen state of zeros constant others (AnyOf ls) lt stands =
    alive-holds seen (row state) (AnyOf ls) others stands

pub met-known : (n : ℕ) (seen : Seen) (state : ℕ → Bool) → IsOf n seen → IsKnown n seen state →
    HasMet n seen seen state
met-known n seen state of known = record {
  still = of;
  others = refl;
  stands = λ f inside. (λ h. (h, known f inside h), λ (h, _). h);
}

module _ (state : List Bool) (old new : Seen) (of : IsOf (length state) old)
    (same : new.others ≡ old.others)
    (ones : (j : ℕ) → j < length state → (row new.ones j ≡ false)
    ↔ ((row old.ones j ≡ false) × (row state j ≡ false)))
    (split : AreSplit (length state) old.classes (row state) new.classes)
    (alive : (k : ℕ) → k < length old.others → (row new.alive k ≡ true)
    ↔ ((row old.alive k ≡ true) × HoldsIn (row state) (fact_at old.others k))) where
  alive-met : (f : Fact) → IsAlive new f ↔ (IsAlive old f × HoldsIn (row state) f)
  alive-met f = (
    λ (k, lt, e, is).
        let N : List Fact → Type 0 = λ others. (k < length others) × (fact_at others k ≡ f) in
        let (less, here) = subst N same (lt, e) in
        let both = (alive k less).0 is in
        let P : Fact → Type 0 = HoldsIn (row state) in
        ((k, less, here, both.0), subst P here both.1),
    λ ((k, lt, e, is), holds).
        let N : List Fact → Type 0 = λ others. (k < length others) × (fact_at others k ≡ f) in
        let (less, here) = subst N (sym same) (lt, e) in
        let P : Fact → Type 0 = HoldsIn (row state) in
        (k, less, here, (alive k lt).1 (is, subst P (sym e) holds)),
  )

  stands-met : (f : Fact) → IsIn (length state) f → Stands new f ↔ (Stands old f × HoldsIn (row state) f)
  stands-met (Zero j) lt = ones j lt
  stands-met (Same i j) (li, lj) = split.split i j li lj
  stands-met (One j) lt = alive-met (One j)
  stands-met (Differ i j) lt = alive-met (Differ i j)
  stands-met (AnyOf ls) lt = alive-met (AnyOf ls)

  pub met-of : length new.ones ≡ length old.ones → length new.firsts ≡ length old.firsts →
      length new.alive ≡ length old.alive → HasMet (length state) old new (row state)
  met-of many room long =
      let I : List Fact → Type 0 = AllIn (length state) in
      record {
        still = record {
          few = of.few;
          ones = many ∙ of.ones;
          classes = split.many;
          below = split.below;
          firsts = room ∙ of.firsts;
          others = subst I (sym same) of.others;
          alive = long ∙ of.alive ∙ ap length (sym same);
        };
        others = same;
        stands = stands-met;
      }

-- ---- steps

-- the values of latches in a row of all values
latch-place : (net : Net) (values : List Bool) (j : ℕ) → j < length net.latches →
    row (latch_row net values) j ≡ row values (latch_variable net j)
latch-place net values j lt =
    let at : suc net.inputs + j ≡ latch_variable net j = omega arith in
    get_or-take (length net.latches) (drop (suc net.inputs) values) j false lt
    ∙ get_or-drop (suc net.inputs) values j false ∙ ap (row values) at

pub spares_again : (net : Net) (old some new : Seen) → Spares net old some → Spares net some new →
    Spares net old new
spares_again net old some new first second = record {
  still = second.still;
  others = second.others ∙ first.others;
  fewer = λ f inside h. first.fewer f inside (second.fewer f inside h);
  spared = λ facts inductive inside all.
      second.spared facts inductive inside (first.spared facts inductive inside all);
}

-- a step from a state that has all facts that are left
pub step-spares : (net : Net) (old new : Seen) (state values after : List Bool) →
    IsKnown (length net.latches) old (row state) → IsRight net (row values) →
    AllTrue net.constraints (row values) → latch_row net values ≡ state →
    ((j : ℕ) → j < length net.latches →
    row after j ≡ literal_value (row values) (literal_at net.latches j)) →
    HasMet (length net.latches) old new (row after) → Spares net old new
step-spares net old new state values after known right kept here next met = record {
  still = met.still;
  others = met.others;
  fewer = λ f inside h. ((met.stands f inside).0 h).0;
  spared = λ facts inductive inside all f has. (met.stands f (inside f has)).1 (
    all f has,
    (holds-alike net w (length net.latches) (row after) same f (inside f has)).1
        (inductive.stays (row values) w right kept (λ j lt. sym (same j lt) ∙ next j lt)
        (λ g there. (holds-alike net (row values) (length net.latches) (row state) before g
        (inside g there)).0 (known g (inside g there) (all g there))) f has),
  );
}
  where
    w : Valuation
    w u = row after (u - suc net.inputs)

    same : (j : ℕ) → j < length net.latches → row after j ≡ w (latch_variable net j)
    same j lt =
        let at : j ≡ latch_variable net j - suc net.inputs = omega arith in
        ap (row after) at

    before : (j : ℕ) → j < length net.latches → row state j ≡ row values (latch_variable net j)
    before j lt = ap (λ s. row s j) (sym here) ∙ latch-place net values j lt

-- ---- lists of facts

pub are-left : (net : Net) (facts left : List Fact) (state : ℕ → Bool) (first met last : Seen) →
    AllIn (length net.latches) facts →
    ((f : Fact) → Contains facts f → HoldsIn state f → Stands first f) →
    HasMet (length net.latches) first met state → Spares net met last →
    AreThose (Stands last) facts left → AreLeft net facts state left
are-left net facts left state first met last inside all here spares those = record {
  sublist = those.sublist;
  right = λ f has.
      let within = inside f (sublist-among _ _ those.sublist f has) in
      ((here.stands f within).0 (spares.fewer f within (those.right f has))).1;
  spared = λ some inductive among holds f has.
      those.whole f (among f has) (spares.spared some inductive
      (λ g there. inside g (among g there))
      (λ g there. (here.stands g (inside g (among g there))).1
      (all g (among g there) (holds g there), holds g there)) f has);
}

-- ---- facts that are added before any state

same-alive : (old new : Seen) → new.others ≡ old.others → new.alive ≡ old.alive → (f : Fact) →
    IsAlive old f → IsAlive new f
same-alive old new others alive f (k, less, e, is) =
    let N : List Fact → Type 0 = λ xs. (k < length xs) × (fact_at xs k ≡ f) in
    let (less', e') = subst N (sym others) (less, e) in
    (k, less', e', ap (λ xs. row xs k) alive ∙ is)

pub added-zero : (n j : ℕ) (old new : Seen) → IsOf n old → j < n →
    new.ones ≡ slice_set old.ones j false → new.classes ≡ old.classes →
    new.others ≡ old.others → new.alive ≡ old.alive → new.firsts ≡ old.firsts →
    HasAdded n old new (Zero j)
added-zero n j old new of lt ones classes others alive firsts = record {
  still = record {
    few = of.few;
    ones = ap length ones ∙ length-set old.ones j false ∙ of.ones;
    classes = ap length classes ∙ of.classes;
    below = let B : List ℕ → Type 0 = AreBelow n in subst B (sym classes) of.below;
    firsts = ap length firsts ∙ of.firsts;
    others = let I : List Fact → Type 0 = AllIn n in subst I (sym others) of.others;
    alive = ap length alive ∙ of.alive ∙ ap length (sym others);
  };
  others = others ∙ sym (append-nil old.others);
  added = here;
  kept = kept;
}
  where
    here : row new.ones j ≡ false
    here =
        let many = of.ones in
        ap (λ xs. row xs j) ones ∙ get_or-set_same old.ones j false false (omega (arith, many, lt))

    kept : (f : Fact) → IsIn n f → Stands old f → Stands new f
    kept (Zero i) inside h = elim (cases_eq i j) [
      | inl same ↦ ap (row new.ones) same ∙ here
      | inr apart ↦
          ap (λ xs. row xs i) ones ∙ get_or-set_other old.ones j i false false apart ∙ h
    ]
    kept (Same a b) inside h =
        ap (λ xs. slice_index xs a) classes ∙ h ∙ ap (λ xs. slice_index xs b) (sym classes)
    kept (One i) inside h = same-alive old new others alive (One i) h
    kept (Differ a b) inside h = same-alive old new others alive (Differ a b) h
    kept (AnyOf ls) inside h = same-alive old new others alive (AnyOf ls) h

pub added-same : (n i j : ℕ) (old new : Seen) → IsOf n old → AreJoined i j old.classes new.classes →
    new.ones ≡ old.ones → new.others ≡ old.others → new.alive ≡ old.alive →
    new.firsts ≡ old.firsts → HasAdded n old new (Same i j)
added-same n i j old new of joined ones others alive firsts = record {
  still = record {
    few = of.few;
    ones = ap length ones ∙ of.ones;
    classes = joined.many ∙ of.classes;
    below = let B : ℕ → Type 0 = λ m. AreBelow m new.classes in subst B of.classes joined.below;
    firsts = ap length firsts ∙ of.firsts;
    others = let I : List Fact → Type 0 = AllIn n in subst I (sym others) of.others;
    alive = ap length alive ∙ of.alive ∙ ap length (sym others);
  };
  others = others ∙ sym (append-nil old.others);
  added = joined.joined;
  kept = kept;
}
  where
    kept : (f : Fact) → IsIn n f → Stands old f → Stands new f
    kept (Zero a) inside h = ap (λ xs. row xs a) ones ∙ h
    kept (Same a b) (la, lb) h =
        let many = of.classes in
        joined.kept a b (omega (arith, many, la)) (omega (arith, many, lb)) h
    kept (One a) inside h = same-alive old new others alive (One a) h
    kept (Differ a b) inside h = same-alive old new others alive (Differ a b) h
    kept (AnyOf ls) inside h = same-alive old new others alive (AnyOf ls) h

-- the facts so far, and one more
pub added-more : (n k : ℕ) (facts : List Fact) (f : Fact) (old new : Seen) → AllIn n facts →
    k < length facts → f ≡ get_or facts k f → old.others ≡ others_of (take k facts) →
    AllStand old (take k facts) → HasAdded n old new f →
    (new.others ≡ others_of (take (k + 1) facts)) × AllStand new (take (k + 1) facts)
added-more n k facts f old new inside lt at others all added = (
  added.others ∙ ap (λ xs. xs ++ others_of (f ∷ [])) others
      ∙ sym (filter-append is_other (take k facts) (f ∷ [])) ∙ ap others_of (sym more),
  λ g has.
      let C : List Fact → Type 0 = λ xs. Contains xs g in
      elim (Contains-push_cases (take k facts) f g (subst C more has)) [
        | inl before ↦ added.kept g (inside g (from-take facts k g before)) (all g before)
        | inr same ↦ let P : Fact → Type 0 = Stands new in subst P same added.added
      ],
)
  where
    more : take (k + 1) facts ≡ take k facts ++ f ∷ []
    more = take_more facts k f lt ∙ ap (λ g. take k facts ++ g ∷ []) (sym at)
