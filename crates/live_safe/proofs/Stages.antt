-- The gates of a safe net stage by stage: what is made, and that there is room for it.
use Rattle.std.proofs.Common.{◌≡◌, ℕ, suc, ◌+◌, ◌<◌, ◌≤◌, ◌^◌, List, [], ◌∷◌, ◌++◌, map, length, get_or, refl, sym, ap, ◌∙◌, subst, arith, length-append}
use Rattle.std.proofs.lemmas.List.{length-map, get_or_append_left, get_or-append-add, get_or_at, get_or_default, same_lists}
use Rattle.aig_net.specs.declared.parts.And.{And}
use Rattle.aig_net.specs.declared.parts.Reset.{Reset}
use Rattle.aig_net.specs.declared.maker.Gates.{Gates}
use Rattle.aig_net.specs.Nets.{Net, no_and, variables, literal_at, and_at, Below, AllBelow, IsNet, opposite}
use Rattle.aig_net.specs.Wires.{Wire, Made, made, MadeAll, made_all, Fits, FitsAll, Makes, MakesAll, and_of, literal, opposed, both, either}
use Rattle.hy_base.specs.Rows.{listed}
use Rattle.aig_net.proofs.Wiring.{all-grow, all-length, grows}
use Rattle.aig_net.proofs.Making.{all-ands, all-literals}
use Rattle.hy_base.proofs.Listed.{at-listed, length-listed}
use Rattle.live_safe.specs.declared.places.Places.{Places}
use Rattle.live_safe.specs.declared.moved.Moved.{Moved}
use Rattle.live_safe.specs.Safe.{safe_first, take, saved, effective_at, effectives, safe_and, safe_ands, saving, saving_wires, grab, next_saved, seen_wire, copy_wire, bad_wire, closing, closing_wires, bad}
use Rattle.live_safe.specs.Places.{AreGates, HasRoom, Reaches, ReachesAnd, SafeFits, copy_next_of, effective_of, moved_of, places_of, seen_next_of}
use Rattle.live_safe.proofs.SafeGates.{first-safe}

-- ---- gates and wires that are those of the net

module _ (net : Net) (ands : List And) (gates : Gates) (are : AreGates net ands gates) where
  pub fits-at : (ws wires : List Wire) → ws ≡ wires → FitsAll (safe_first net) ands wires →
      FitsAll gates.first gates.ands ws
  fits-at ws wires e room =
      let P : ℕ → Type 0 = λ first. FitsAll first gates.ands ws in
      let Q : List And → Type 0 = λ old. FitsAll (safe_first net) old ws in
      let R : List Wire → Type 0 = FitsAll (safe_first net) ands in
      subst P (sym are.first) (subst Q (sym are.ands) (subst R (sym e) room))

  pub makes-at : (ws wires : List Wire) (new : List And) (ls : List ℕ) → ws ≡ wires →
      MakesAll gates.first gates.ands ws new ls → MakesAll (safe_first net) ands wires new ls
  makes-at ws wires new ls e makes =
      let P : ℕ → Type 0 = λ first. MakesAll first gates.ands ws new ls in
      let Q : List And → Type 0 = λ old. MakesAll (safe_first net) old ws new ls in
      let R : List Wire → Type 0 = λ ws. MakesAll (safe_first net) ands ws new ls in
      subst R e (subst Q are.ands (subst P are.first makes))

  pub fit-at : (w wire : Wire) → w ≡ wire → Fits (safe_first net) ands wire →
      Fits gates.first gates.ands w
  fit-at w wire e room =
      let P : ℕ → Type 0 = λ first. Fits first gates.ands w in
      let Q : List And → Type 0 = λ old. Fits (safe_first net) old w in
      let R : Wire → Type 0 = Fits (safe_first net) ands in
      subst P (sym are.first) (subst Q (sym are.ands) (subst R (sym e) room))

  pub make-at : (w wire : Wire) (new : List And) (l : ℕ) → w ≡ wire →
      Makes gates.first gates.ands w new l → Makes (safe_first net) ands wire new l
  make-at w wire new l e makes =
      let P : ℕ → Type 0 = λ first. Makes first gates.ands w new l in
      let Q : List And → Type 0 = λ old. Makes (safe_first net) old w new l in
      let R : Wire → Type 0 = λ w. Makes (safe_first net) ands w new l in
      subst R e (subst Q are.ands (subst P are.first makes))

module _ (net : Net) where
  -- ---- the wires of each stage

  pub effective-wires : (p : Places) (resets : List Reset) → p ≡ places_of net →
      resets ≡ net.resets → length net.resets ≡ length net.latches →
      listed 0 (length resets) (effective_of p resets) ≡ listed 0 (length net.latches)
      (effective_at net)
  effective-wires p resets e h many =
      ap (λ p. listed 0 (length resets) (effective_of p resets)) e
      ∙ ap (λ rs. listed 0 (length rs) (effective_of (places_of net) rs)) h
      ∙ ap (λ n. listed 0 n (effective_at net)) many

  pub seen-wires : (p : Places) (m : Moved) (next : ℕ) (fairs : List ℕ) → p ≡ places_of net →
      m ≡ moved_of net → next ≡ next_saved net → fairs ≡ net.fairs →
      listed 0 (length fairs) (seen_next_of p m next fairs) ≡ listed 0 (length net.fairs)
      (seen_wire net)
  seen-wires p m next fairs ep em en ef =
      ap (λ p. listed 0 (length fairs) (seen_next_of p m next fairs)) ep
      ∙ ap (λ m. listed 0 (length fairs) (seen_next_of (places_of net) m next fairs)) em
      ∙ ap (λ n. listed 0 (length fairs) (seen_next_of (places_of net) (moved_of net) n fairs)) en
      ∙ ap (λ fs. listed 0 (length fs)
      (seen_next_of (places_of net) (moved_of net) (next_saved net) fs)) ef

  pub many-values : length (effectives net).literals ≡ length net.latches
  many-values =
      let a = all-length (safe_first net) [] (listed 0 (length net.latches) (effective_at net)) in
      a ∙ length-listed 0 (length net.latches) (effective_at net)

  pub copy-wires : (p : Places) (g : ℕ) (values : List ℕ) → p ≡ places_of net → g ≡ grab net →
      values ≡ (effectives net).literals →
      listed 0 (length values) (copy_next_of p g values) ≡ listed 0 (length net.latches)
      (copy_wire net)
  copy-wires p g values ep eg ev =
      ap (λ p. listed 0 (length values) (copy_next_of p g values)) ep
      ∙ ap (λ g. listed 0 (length values) (copy_next_of (places_of net) g values)) eg
      ∙ ap (λ vs. listed 0 (length vs) (copy_next_of (places_of net) (grab net) vs)) ev
      ∙ ap (λ n. listed 0 n (copy_wire net)) many-values

  -- ---- what is made in the end

  abbrev pub seen_stage : MadeAll
  seen_stage = made_all (safe_first net) (saving net).ands
      (listed 0 (length net.fairs) (seen_wire net))

  abbrev pub copy_stage : MadeAll
  copy_stage = made_all (safe_first net) seen_stage.ands
      (listed 0 (length net.latches) (copy_wire net))

  abbrev pub bad_stage : Made
  bad_stage = made (safe_first net) copy_stage.ands (bad_wire net)

  pub closing-ands : (closing net).ands ≡ bad_stage.ands
  closing-ands =
      all-ands (safe_first net) (saving net).ands (listed 0 (length net.fairs) (seen_wire net))
      (listed 0 (length net.latches) (copy_wire net) ++ bad_wire net ∷ [])
      ∙ all-ands (safe_first net) seen_stage.ands
      (listed 0 (length net.latches) (copy_wire net)) (bad_wire net ∷ [])

  pub closing-literals : (closing net).literals ≡ seen_stage.literals
      ++ (copy_stage.literals ++ bad_stage.literal ∷ [])
  closing-literals =
      all-literals (safe_first net) (saving net).ands
      (listed 0 (length net.fairs) (seen_wire net))
      (listed 0 (length net.latches) (copy_wire net) ++ bad_wire net ∷ [])
      ∙ ap (λ l. seen_stage.literals ++ l) (all-literals (safe_first net) seen_stage.ands
      (listed 0 (length net.latches) (copy_wire net)) (bad_wire net ∷ []))

  many-seens : length seen_stage.literals ≡ length net.fairs
  many-seens =
      all-length (safe_first net) (saving net).ands (listed 0 (length net.fairs) (seen_wire net))
      ∙ length-listed 0 (length net.fairs) (seen_wire net)

  many-copies : length copy_stage.literals ≡ length net.latches
  many-copies =
      all-length (safe_first net) seen_stage.ands (listed 0 (length net.latches) (copy_wire net))
      ∙ length-listed 0 (length net.latches) (copy_wire net)

  -- the literals of a list from place k on
  listed-part : (xs ys zs : List ℕ) (k n : ℕ) → length xs ≡ k → length ys ≡ n →
      listed 0 n (λ j. literal_at (xs ++ (ys ++ zs)) (k + j)) ≡ ys
  listed-part xs ys zs k n e h =
      same_lists _ ys (length-listed 0 n f ∙ sym h) (λ q d lt.
      let many = length-listed 0 n f in
      let few : q < n = omega (arith, lt, many) in
      let within : q < length ys = omega (arith, few, h) in
      let place : k + (0 + q) ≡ length xs + q = omega (arith, e) in
      at-listed 0 n f d q few ∙ ap (literal_at (xs ++ (ys ++ zs))) place
      ∙ get_or-append-add xs (ys ++ zs) q 0 ∙ get_or_append_left ys zs 0 q within
      ∙ get_or_default ys q 0 d within)
    where
      f : ℕ → ℕ
      f j = literal_at (xs ++ (ys ++ zs)) (k + j)

  pub seens-listed : listed 0 (length net.fairs) (literal_at (closing net).literals) ≡
      seen_stage.literals
  seens-listed =
      ap (λ l. listed 0 (length net.fairs) (literal_at l)) closing-literals
      ∙ same_lists _ seen_stage.literals (length-listed 0 (length net.fairs) f ∙ sym many-seens)
      (λ q d lt.
      let many = length-listed 0 (length net.fairs) f in
      let few : q < length net.fairs = omega (arith, lt, many) in
      let within : q < length seen_stage.literals = omega (arith, few, many-seens) in
      let place : 0 + q ≡ q = omega arith in
      at-listed 0 (length net.fairs) f d q few ∙ ap f place
      ∙ get_or_append_left seen_stage.literals rest 0 q within
      ∙ get_or_default seen_stage.literals q 0 d within)
    where
      rest : List ℕ
      rest = copy_stage.literals ++ bad_stage.literal ∷ []

      f : ℕ → ℕ
      f = literal_at (seen_stage.literals ++ rest)

  pub copies-listed : listed 0 (length net.latches)
      (λ j. literal_at (closing net).literals (length net.fairs + j)) ≡ copy_stage.literals
  copies-listed =
      ap (λ l. listed 0 (length net.latches) (λ j. literal_at l (length net.fairs + j)))
      closing-literals
      ∙ listed-part seen_stage.literals copy_stage.literals (bad_stage.literal ∷ [])
      (length net.fairs) (length net.latches) many-seens many-copies

  pub bad-listed : bad net ≡ bad_stage.literal
  bad-listed =
      let place : length net.fairs + length net.latches ≡ length seen_stage.literals +
      length copy_stage.literals = omega (arith, many-seens, many-copies) in
      ap (λ l. literal_at l (length net.fairs + length net.latches)) closing-literals
      ∙ ap (literal_at (seen_stage.literals ++ (copy_stage.literals ++ bad_stage.literal ∷ [])))
      place
      ∙ get_or-append-add seen_stage.literals (copy_stage.literals ++ bad_stage.literal ∷ [])
      (length copy_stage.literals) 0
      ∙ get_or_at copy_stage.literals bad_stage.literal [] 0 (length copy_stage.literals) refl

  -- ---- there is room for it

  module _ (good : IsNet net) (room : SafeFits net) where
    all-fits : safe_first net + length (closing net).ands ≤ 2 ^ 31
    all-fits = let e = first-safe net in omega (arith, e, room)

    saving-fits : FitsAll (safe_first net) (safe_ands net) (saving_wires net)
    saving-fits = omega (
      arith,
      all-fits,
      all-grow (safe_first net) (saving net).ands (closing_wires net),
    )

    -- Two ands are made for saving.
    some-saving : suc (length (safe_ands net)) ≤ length (saving net).ands
    some-saving =
        let first = made (safe_first net) (safe_ands net) (both (literal (take net))
        (opposed (literal (saved net)))) in
        let one = length-append (safe_ands net)
        (and_of (take net) (opposite (saved net)) ∷ []) in
        omega (
          arith,
          one,
          all-grow (safe_first net) first.ands (either (literal (saved net))
              (literal (take net)) ∷ []),
        )

    abbrev effs : ℕ
    effs = length (effectives net).ands

    many-base : length (safe_ands net) ≡ effs + length net.ands
    many-base =
        let a = length-append (effectives net).ands (map (safe_and net) net.ands) in
        let b = length-map net.ands (safe_and net) in
        omega (arith, a, b)

    base-fits : suc (safe_first net + (effs + length net.ands)) ≤ 2 ^ 31
    base-fits = omega (arith, many-base, some-saving, saving-fits)

    pub has-room : HasRoom (places_of net)
    has-room = omega (arith, base-fits)

    pub add-room : safe_first net + (effs + length net.ands) ≤ 2 ^ 31
    add-room = omega (arith, base-fits)

    pub first-fits : safe_first net ≤ 2 ^ 31
    first-fits = omega (arith, base-fits)

    pub effective-fits : FitsAll (safe_first net) []
        (listed 0 (length net.latches) (effective_at net))
    effective-fits = omega (arith, base-fits)

    pub room-for-saving : FitsAll (safe_first net) (safe_ands net) (saving_wires net)
    room-for-saving = saving-fits

    pub bad-fits : Fits (safe_first net) copy_stage.ands (bad_wire net)
    bad-fits = let e = ap length closing-ands in omega (arith, e, all-fits)

    pub copy-fits : FitsAll (safe_first net) seen_stage.ands
        (listed 0 (length net.latches) (copy_wire net))
    copy-fits = omega (arith, bad-fits, grows (safe_first net) copy_stage.ands (bad_wire net))

    pub seen-fits : FitsAll (safe_first net) (saving net).ands
        (listed 0 (length net.fairs) (seen_wire net))
    seen-fits = omega (
      arith,
      copy-fits,
      all-grow (safe_first net) seen_stage.ands
          (listed 0 (length net.latches) (copy_wire net)),
    )

    pub reach : (l : ℕ) → Below (variables net) l → Reaches (moved_of net) l
    reach l below = omega (arith, base-fits, below)

    pub reaches : (m : Moved) (list literals : List ℕ) → m ≡ moved_of net → list ≡ literals →
        AllBelow (variables net) literals → (k d : ℕ) → k < length list →
        Reaches m (get_or list k d)
    reaches m list literals em e all k d lt =
        let long = ap length e in
        let at : get_or list k d ≡ literal_at literals k =
        get_or_default list k d 0 lt ∙ ap (λ l. literal_at l k) e in
        let P : Moved → Type 0 = λ m. Reaches m (get_or list k d) in
        let Q : ℕ → Type 0 = Reaches (moved_of net) in
        subst P (sym em) (subst Q (sym at)
        (reach (literal_at literals k) (all k (omega (arith, lt, long)))))

    pub reaches-ands : (m : Moved) (list : List And) → m ≡ moved_of net → list ≡ net.ands →
        (k : ℕ) (d : And) → k < length list → ReachesAnd m (get_or list k d)
    reaches-ands m list em e k d lt =
        let long = ap length e in
        let at : get_or list k d ≡ and_at net.ands k =
        get_or_default list k d no_and lt ∙ ap (λ l. and_at l k) e in
        let P : Moved → Type 0 = λ m. ReachesAnd m (get_or list k d) in
        let Q : And → Type 0 = ReachesAnd (moved_of net) in
        let (l, r) = good.ordered k (omega (arith, lt, long)) in
        subst P (sym em) (subst Q (sym at) (
          reach (and_at net.ands k).left (omega (arith, l, lt, long)),
          reach (and_at net.ands k).right (omega (arith, r, lt, long)),
        ))
