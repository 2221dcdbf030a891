-- The parts of a row that is made of the constant, inputs, latches and more.
use Rattle.std.proofs.Common.{◌≡◌, ℕ, suc, ◌+◌, ◌≤◌, Bool, false, List, [], ◌∷◌, ◌++◌, length, set, take, drop, sym, ap, ◌∙◌, subst, arith, append_assoc, length-append}
use Rattle.std.proofs.Math.Seq.{take-append_seam, drop-append_seam}
use Rattle.std.proofs.lemmas.List.{take-append-drop}
use Rattle.std.proofs.lemmas.Slice.{take-put_mid}
use borrow.Rule.Slice.PartMut.{put_mid, post_of}
use Rattle.aig_net.specs.declared.parts.And.{And}
use Rattle.aig_net.specs.Nets.{Net, AreRight, IsRight, first_and}
use Rattle.hy_base.specs.Rows.{row}

-- the parts of a row
pub record Parts (n l : ℕ) (ins lats values : List Bool) : Type 0 where
  pub constant : row values 0 ≡ false
  pub inputs : take n (drop 1 values) ≡ ins
  pub latches : take l (drop (suc n) values) ≡ lats

pub parts : (first n l : ℕ) (inputs latches values : List Bool) → length inputs ≡ n →
    length latches ≡ l → take first values ≡ (false ∷ inputs) ++ latches →
    Parts n l inputs latches values
parts first n l inputs latches values few many e =
    let rest : List Bool = drop first values in
    let whole : values ≡ (false ∷ inputs) ++ (latches ++ rest) =
    sym (take-append-drop first values) ∙ ap (λ x. x ++ rest) e
    ∙ append_assoc (false ∷ inputs) latches rest in
    record {
      constant = ap (λ x. row x 0) whole;
      inputs = ap (λ x. take n (drop 1 x)) whole
          ∙ ap (λ k. take k (inputs ++ (latches ++ rest))) (sym few)
          ∙ take-append_seam inputs (latches ++ rest);
      latches =
          ap (λ x. take l (drop (suc n) x)) whole
          ∙ ap (λ k. take l (drop k (inputs ++ (latches ++ rest)))) (sym few)
          ∙ ap (take l) (drop-append_seam inputs (latches ++ rest))
          ∙ ap (λ k. take k (latches ++ rest)) (sym many)
          ∙ take-append_seam latches rest;
    }

-- the front of a row into which inputs and latches were written
pub written : (values inputs latches xs ys : List Bool) (k m : ℕ) →
    1 + length inputs + length latches ≤ length values → xs ≡ inputs → ys ≡ latches →
    take (1 + length inputs + length latches)
    (put_mid (1 + length inputs) m (put_mid 1 k (set values 0 false) xs) ys) ≡ (false ∷ inputs)
    ++ latches
written [] inputs latches xs ys k m room ex ey = absurd (omega arith)
written (x ∷ values) inputs latches xs ys k m room ex ey =
    let base : List Bool = false ∷ values in
    let half : List Bool = put_mid 1 k base xs in
    let few : length xs ≡ length inputs = ap length ex in
    let many : length ys ≡ length latches = ap length ey in
    let long : length half ≡ suc (length xs + length (post_of 1 k base)) =
    ap suc (length-append xs (post_of 1 k base)) in
    take-put_mid (1 + length inputs) m half ys (1 + length inputs + length latches) (omega arith)
    (omega arith)
    ∙ ap (λ z. z ++ ys) (take-put_mid 1 k base xs (1 + length inputs) (omega arith) (omega arith))
    ∙ ap (λ z. (false ∷ z) ++ ys) ex
    ∙ ap (λ z. (false ∷ inputs) ++ z) ey

pub right-row : (net : Net) (ands : List And) (first : ℕ) (values : List Bool) → ands ≡ net.ands →
    first ≡ first_and net → row values 0 ≡ false → AreRight first ands (row values) →
    IsRight net (row values)
right-row net ands first values e at constant right =
    let P : List And → Type 0 = λ x. AreRight first x (row values) in
    let Q : ℕ → Type 0 = λ n. AreRight n net.ands (row values) in
    record { constant = constant; gates = subst Q at (subst P e right) }
