-- A driven net from its parts.
use Rattle.std.proofs.Common.{◌≡◌, ℕ, List, [], ◌∷◌, ◌++◌, map, ◌∙◌, ap}
use Rattle.aig_net.specs.declared.parts.And.{And}
use Rattle.aig_net.specs.declared.parts.NetParts.{NetParts}
use Rattle.aig_net.specs.declared.parts.Reset.{Reset}
use Rattle.aig_net.specs.Nets.{Net}
use Rattle.strat_compose.specs.declared.parts.Parts.{Parts}
use Rattle.hy_formula.specs.Atoms.{IndexedAtom}
use Rattle.strat_compose.specs.Driving.{atom_literal, driven_outputs, kept}
use Rattle.strat_compose.specs.Groups.{literals_in}

abbrev with-parts : ℕ → List ℕ → List Reset → List And → List ℕ → List ℕ → List ℕ →
    List (List ℕ) → List (List ℕ) → List (List ℕ) → NetParts
with-parts inputs latches resets ands outputs constraints fairs input_names latch_names
    output_names = record {
      inputs = inputs;
      latches = latches;
      resets = resets;
      ands = ands;
      outputs = outputs;
      constraints = constraints;
      fairs = fairs;
      input_names = input_names;
      latch_names = latch_names;
      output_names = output_names;
    }

module _ (new : Net) where
  -- the parts but for the first four, which are those of the net; and but for the first seven
  abbrev later : List ℕ → List ℕ → List ℕ → List (List ℕ) → List (List ℕ) → List (List ℕ) →
      NetParts
  later = with-parts new.inputs new.latches new.resets new.ands

  abbrev last : List (List ℕ) → List (List ℕ) → List (List ℕ) → NetParts
  last = later new.outputs new.constraints new.fairs

  pub same-parts : (i : ℕ) (l : List ℕ) (r : List Reset) (a : List And) (o k f : List ℕ)
      (n m q : List (List ℕ)) → i ≡ new.inputs → l ≡ new.latches → r ≡ new.resets →
      a ≡ new.ands → o ≡ new.outputs → k ≡ new.constraints → f ≡ new.fairs →
      n ≡ new.input_names → m ≡ new.latch_names → q ≡ new.output_names →
      with-parts i l r a o k f n m q ≡ new
  same-parts i l r a o k f n m q ei el er ea eo ek ef en em eq =
      ap (λ i. with-parts i l r a o k f n m q) ei
      ∙ ap (λ l. with-parts new.inputs l r a o k f n m q) el
      ∙ ap (λ r. with-parts new.inputs new.latches r a o k f n m q) er
      ∙ ap (λ a. with-parts new.inputs new.latches new.resets a o k f n m q) ea
      ∙ ap (λ o. later o k f n m q) eo
      ∙ ap (λ k. later new.outputs k f n m q) ek
      ∙ ap (λ f. later new.outputs new.constraints f n m q) ef
      ∙ ap (λ n. last n m q) en
      ∙ ap (λ m. last new.input_names m q) em
      ∙ ap (last new.input_names new.latch_names) eq

pub outputs-are : (net strategy : Net) (parts : Parts) (signal : ℕ → ℕ)
    (atoms : List IndexedAtom) (literal : ℕ) (made : List ℕ) →
    made ≡ (map (atom_literal net parts signal) atoms ++ literal ∷ [])
    ++ literals_in net parts.existential net.fairs → literal ≡ (kept net strategy parts).literal →
    made ≡ driven_outputs net strategy parts signal atoms
outputs-are net strategy parts signal atoms literal made e same =
    e ∙ ap (λ x. (map (atom_literal net parts signal) atoms ++ x ∷ [])
    ++ literals_in net parts.existential net.fairs) same
