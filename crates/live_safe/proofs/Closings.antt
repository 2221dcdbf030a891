-- The gates that stand after those of the net, one stage after the other.
use Rattle.std.proofs.Common.{◌≡◌, ℕ, List, [], ◌∷◌, length, sym, ap, ◌∙◌}
use Rattle.aig_net.specs.declared.maker.Gates.{Gates}
use Rattle.aig_net.specs.Nets.{Net, literal_at, IsNet}
use Rattle.aig_net.specs.Wires.{Fits, FitsAll, Makes, MakesAll}
use Rattle.hy_base.specs.Rows.{listed}
use Rattle.live_safe.specs.declared.places.Places.{Places}
use Rattle.live_safe.specs.declared.moved.Moved.{Moved}
use Rattle.live_safe.specs.declared.closing.Saving.{Saving}
use Rattle.live_safe.specs.Safe.{effectives, safe_ands, saving, saving_wires, grab, next_saved, bad_wire, closing}
use Rattle.live_safe.specs.Places.{AreGates, AreNexts, SafeFits, bad_of, copy_next_of, moved_of, places_of, saving_of, seen_next_of}
use Rattle.live_safe.proofs.Stages.{fits-at, makes-at, fit-at, make-at, seen-wires, copy-wires, seen_stage, copy_stage, bad_stage, closing-ands, seens-listed, copies-listed, bad-listed, room-for-saving, seen-fits, copy-fits, bad-fits}

module _ (net : Net) (good : IsNet net) (room : SafeFits net) (p : Places) (m : Moved)
    (ep : p ≡ places_of net) (em : m ≡ moved_of net) where
  pub record SavingAt (gates : Gates) (s : Saving) : Type 0 where
    pub are : AreGates net (saving net).ands gates
    pub grab_is : s.grab ≡ grab net
    pub saved_is : s.saved ≡ next_saved net

  -- ---- saving

  pub saving-room : (gates : Gates) → AreGates net (safe_ands net) gates →
      FitsAll gates.first gates.ands (saving_of p)
  saving-room gates are = fits-at net (safe_ands net) gates are (saving_of p) (saving_wires net)
      (ap saving_of ep) (room-for-saving net good room)

  pub saving-at : (gates new : Gates) (s : Saving) → AreGates net (safe_ands net) gates →
      MakesAll gates.first gates.ands (saving_of p) new.ands (s.grab ∷ s.saved ∷ []) →
      new.first ≡ gates.first → SavingAt new s
  saving-at gates new s are makes e =
      let all = makes-at net (safe_ands net) gates are (saving_of p) (saving_wires net) new.ands
      (s.grab ∷ s.saved ∷ []) (ap saving_of ep) makes in
      record {
        are = record { first = e ∙ are.first; ands = all.ands };
        grab_is = ap (λ l. literal_at l 0) all.literals;
        saved_is = ap (λ l. literal_at l 1) all.literals;
      }

  -- ---- each `seen`

  pub seens-room : (gates : Gates) (s : Saving) (fairs : List ℕ) → SavingAt gates s →
      fairs ≡ net.fairs →
      FitsAll gates.first gates.ands (listed 0 (length fairs) (seen_next_of p m s.saved fairs))
  seens-room gates s fairs at ef =
      fits-at net (saving net).ands gates at.are _ _
      (seen-wires net p m s.saved fairs ep em at.saved_is ef) (seen-fits net good room)

  pub seens-at : (gates new : Gates) (s : Saving) (fairs seens : List ℕ) → SavingAt gates s →
      fairs ≡ net.fairs → MakesAll gates.first gates.ands
      (listed 0 (length fairs) (seen_next_of p m s.saved fairs)) new.ands seens →
      new.first ≡ gates.first → AreGates net (seen_stage net).ands new
      × (seens ≡ (seen_stage net).literals)
  seens-at gates new s fairs seens at ef makes e =
      let all = makes-at net (saving net).ands gates at.are _ _ new.ands seens
      (seen-wires net p m s.saved fairs ep em at.saved_is ef) makes in
      (record { first = e ∙ at.are.first; ands = all.ands }, all.literals)

  -- ---- the copies

  values-are : (values : List ℕ) → values ≡ m.values → values ≡ (effectives net).literals
  values-are values e = e ∙ ap (λ (m : Moved). m.values) em

  pub copies-room : (gates : Gates) (g : ℕ) (values : List ℕ) →
      AreGates net (seen_stage net).ands gates → g ≡ grab net → values ≡ m.values →
      FitsAll gates.first gates.ands (listed 0 (length values) (copy_next_of p g values))
  copies-room gates g values are eg ev =
      fits-at net (seen_stage net).ands gates are _ _
      (copy-wires net p g values ep eg (values-are values ev)) (copy-fits net good room)

  pub copies-at : (gates new : Gates) (g : ℕ) (values copies : List ℕ) →
      AreGates net (seen_stage net).ands gates → g ≡ grab net → values ≡ m.values →
      MakesAll gates.first gates.ands (listed 0 (length values) (copy_next_of p g values))
      new.ands copies → new.first ≡ gates.first → AreGates net (copy_stage net).ands new
      × (copies ≡ (copy_stage net).literals)
  copies-at gates new g values copies are eg ev makes e =
      let all = makes-at net (seen_stage net).ands gates are _ _ new.ands copies
      (copy-wires net p g values ep eg (values-are values ev)) makes in
      (record { first = e ∙ are.first; ands = all.ands }, all.literals)

  -- ---- `bad`

  pub bad-room : (gates : Gates) → AreGates net (copy_stage net).ands gates →
      Fits gates.first gates.ands (bad_of p)
  bad-room gates are = fit-at net (copy_stage net).ands gates are (bad_of p) (bad_wire net)
      (ap bad_of ep) (bad-fits net good room)

  pub bad-at : (gates new : Gates) (l : ℕ) → AreGates net (copy_stage net).ands gates →
      Makes gates.first gates.ands (bad_of p) new.ands l → new.first ≡ gates.first →
      AreGates net (closing net).ands new × (l ≡ (bad_stage net).literal)
  bad-at gates new l are makes e =
      let one = make-at net (copy_stage net).ands gates are (bad_of p) (bad_wire net) new.ands l
      (ap bad_of ep) makes in
      (record { first = e ∙ are.first; ands = one.ands ∙ sym (closing-ands net) }, one.literal)

  pub nexts-at : (saved bad : ℕ) (seens copies : List ℕ) → saved ≡ next_saved net →
      seens ≡ (seen_stage net).literals → copies ≡ (copy_stage net).literals →
      bad ≡ (bad_stage net).literal →
      AreNexts net (record { saved = saved; seens = seens; copies = copies; bad = bad })
  nexts-at saved bad seens copies e es ec eb = record {
    saved = e;
    seens = es ∙ sym (seens-listed net);
    copies = ec ∙ sym (copies-listed net);
    bad = eb ∙ sym (bad-listed net);
  }
