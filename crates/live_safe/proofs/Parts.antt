-- The parts of a safe net, as lists that the code makes.
use Rattle.std.proofs.Common.{◌≡◌, ℕ, ◌+◌, ◌<◌, Bool, List, [], ◌∷◌, ◌++◌, map, length, replicate, codes, refl, sym, ap, ◌∙◌, arith}
use Rattle.std.proofs.lemmas.List.{length-map, same_lists}
use Rattle.aig_net.specs.declared.parts.And.{And}
use Rattle.aig_net.specs.declared.parts.Reset.{Reset}
use Rattle.aig_net.specs.declared.parts.Reset.TheVariants.{Zero}
use Rattle.aig_net.specs.declared.parts.NetParts.{NetParts}
use Rattle.aig_net.specs.Nets.{Net, literal_at}
use Rattle.hy_base.specs.Rows.{listed}
use Rattle.hy_base.proofs.Listed.{at-listed, at-map, length-listed}
use Rattle.live_safe.specs.declared.closing.Nexts.{Nexts}
use Rattle.live_safe.specs.declared.moved.Moved.{Moved}
use Rattle.live_safe.specs.Safe.{bad, begun_nexts, closing, has_begun, next_saved, safe_inputs, safe_latches, safe_literal, to_safe}
use Rattle.live_safe.specs.Places.{AreNexts, latches_of, moved_literal, moved_of, no_names}

map-listed : (f : ℕ → ℕ) (xs : List ℕ) → map f xs ≡ listed 0 (length xs) (λ j. f (literal_at xs j))
map-listed f xs =
    let long : length (map f xs) ≡ length xs = length-map xs f in
    same_lists (map f xs) _ (long ∙ sym (length-listed 0 (length xs) (λ j. f (literal_at xs j))))
    (λ k d lt.
    let few : k < length xs = omega (arith, lt, long) in
    let plain : k ≡ 0 + k = omega arith in
    at-map f 0 d xs k few ∙ ap (λ j. f (literal_at xs j)) plain
    ∙ sym (at-listed 0 (length xs) (λ j. f (literal_at xs j)) d k few))

abbrev seens : Net → List ℕ
seens net = listed 0 (length net.fairs) (literal_at (closing net).literals)

abbrev owns : Net → List ℕ
owns net = listed 0 (length net.latches) (λ j. safe_literal net (literal_at net.latches j))

abbrev copies : Net → List ℕ
copies net = listed 0 (length net.latches)
    (λ j. literal_at (closing net).literals (length net.fairs + j))

pub latches-are : (net : Net) (nexts : Nexts) (own : List ℕ) (b : Bool) → AreNexts net nexts →
    own ≡ map (safe_literal net) net.latches → b ≡ has_begun net →
    latches_of nexts own b ≡ safe_latches net
latches-are net nexts own b are eo eb =
    ap (λ s. s ∷ (nexts.seens ++ (own ++ (nexts.copies ++ begun_nexts b)))) are.saved
    ∙ ap (λ l. next_saved net ∷ (l ++ (own ++ (nexts.copies ++ begun_nexts b)))) are.seens
    ∙ ap (λ l. next_saved net ∷ (seens net ++ (l ++ (nexts.copies ++ begun_nexts b))))
    (eo ∙ map-listed (safe_literal net) net.latches)
    ∙ ap (λ l. next_saved net ∷ (seens net ++ (owns net ++ (l ++ begun_nexts b)))) are.copies
    ∙ ap (λ b. next_saved net ∷ (seens net ++ (owns net ++ (copies net ++ begun_nexts b)))) eb

pub moved-are : (net : Net) (m : Moved) (made list literals : List ℕ) →
    made ≡ map (moved_literal m) list → m ≡ moved_of net → list ≡ literals →
    made ≡ map (safe_literal net) literals
moved-are net m made list literals e em el =
    e ∙ ap (λ m. map (moved_literal m) list) em ∙ ap (map (safe_literal net)) el

replicate-map : {A B : Type 0} (x : B) (xs : List A) → replicate (length xs) x ≡ map (λ _. x) xs
replicate-map x [] = refl
replicate-map x (y ∷ xs) = ap (λ l. x ∷ l) (replicate-map x xs)

abbrev with-parts : ℕ → List ℕ → List Reset → List And → List ℕ → List ℕ → List ℕ →
    List (List ℕ) → List (List ℕ) → List (List ℕ) → NetParts
with-parts inputs latches resets ands outputs constraints fairs input_names latch_names
    output_names = record {
      inputs = inputs;
      latches = latches;
      resets = resets;
      ands = ands;
      outputs = outputs;
      constraints = constraints;
      fairs = fairs;
      input_names = input_names;
      latch_names = latch_names;
      output_names = output_names;
    }

abbrev zeros : Net → List Reset
zeros net = map (λ _. Zero) (safe_latches net)

abbrev kept : Net → List ℕ
kept net = map (safe_literal net) net.constraints

abbrev with-rest : Net → List ℕ → List ℕ → List ℕ → List (List ℕ) → List (List ℕ) →
    List (List ℕ) → NetParts
with-rest net outputs constraints fairs input_names latch_names output_names =
    with-parts (safe_inputs net) (safe_latches net) (zeros net) (closing net).ands outputs
    constraints fairs input_names latch_names output_names

pub parts-are : (net : Net) (inputs many bad_literal : ℕ) (latches : List ℕ)
    (resets : List Reset) (ands : List And) (outputs constraints fairs : List ℕ)
    (input_names latch_names output_names : List (List ℕ)) → inputs ≡ safe_inputs net →
    latches ≡ safe_latches net → many ≡ length latches → resets ≡ replicate many Zero →
    ands ≡ (closing net).ands → outputs ≡ bad_literal ∷ [] → bad_literal ≡ bad net →
    constraints ≡ map (safe_literal net) net.constraints → fairs ≡ [] →
    input_names ≡ no_names inputs → latch_names ≡ no_names many →
    output_names ≡ codes "bad" ∷ [] →
    with-parts inputs latches resets ands outputs constraints fairs input_names latch_names
    output_names ≡ (to_safe net).net
parts-are net i many b l r a o k f n m q ei el em er ea eo eb ek ef en emn eq =
    let all : many ≡ length (safe_latches net) = em ∙ ap length el in
    ap (λ i. with-parts i l r a o k f n m q) ei
    ∙ ap (λ l. with-parts (safe_inputs net) l r a o k f n m q) el
    ∙ ap (λ r. with-parts (safe_inputs net) (safe_latches net) r a o k f n m q)
    (er ∙ ap (λ n. replicate n Zero) all ∙ replicate-map Zero (safe_latches net))
    ∙ ap (λ a. with-parts (safe_inputs net) (safe_latches net) (zeros net) a o k f n m q) ea
    ∙ ap (λ o. with-rest net o k f n m q) (eo ∙ ap (λ b. b ∷ []) eb)
    ∙ ap (λ k. with-rest net (bad net ∷ []) k f n m q) ek
    ∙ ap (λ f. with-rest net (bad net ∷ []) (kept net) f n m q) ef
    ∙ ap (λ n. with-rest net (bad net ∷ []) (kept net) [] n m q) (en ∙ ap no_names ei)
    ∙ ap (λ m. with-rest net (bad net ∷ []) (kept net) [] (no_names (safe_inputs net)) m q)
    (emn ∙ ap no_names all)
    ∙ ap (with-rest net (bad net ∷ []) (kept net) [] (no_names (safe_inputs net))
    (no_names (length (safe_latches net)))) eq
