-- Texts cut at a byte.
use Rattle.std.proofs.Common.{◌≡◌, ℕ, suc, ◌+◌, ◌<◌, ◌≤◌, ◌≢◌, false, nat_eq, List, [], ◌∷◌, ◌++◌, length, get_or, take, drop, sym, subst, ◌∙◌, ap}
use Rattle.std.specs.List.{All}
use Rattle.std.proofs.Math.Seq.{drop-cons}
use Rattle.std.proofs.lemmas.Bool.{eq-eqb, ne_eqb}
use Rattle.std.proofs.lemmas.List.{take-append-drop, take_all}
use Rattle.std.proofs.lemmas.List.Elements.{All-more}
use Rattle.std.proofs.lemmas.List.Splits.{slice_split_at, slice_split_none}
use Rattle.hy_text.specs.Cuts.{cut_at}

-- The first byte at which the text is cut is at this place.
pub cut_here : (byte : ℕ) (text piece behind rest : List ℕ) (i : ℕ) → i < length text
    → All (λ b. nat_eq b byte ≡ false) (take i text) → get_or text i 0 ≡ byte
    → piece ≡ take i text → behind ≡ drop i text → rest ≡ drop 1 behind
    → cut_at byte text ≡ piece ∷ cut_at byte rest
cut_here byte text piece behind rest i lt apart is front back after =
    let whole : text ≡ take i text ++ (get_or text i 0 ∷ drop (suc i) text) =
    sym (take-append-drop i text) ∙ ap (λ l. take i text ++ l) (drop-cons text i 0 lt) in
    let left : rest ≡ drop (suc i) text = after ∙ ap (drop 1) (back ∙ drop-cons text i 0 lt) in
    ap (cut_at byte) whole
    ∙ slice_split_at (λ b. nat_eq b byte) (take i text) (get_or text i 0) (drop (suc i) text) apart
    (eq-eqb _ _ is)
    ∙ ap (λ l. take i text ∷ cut_at byte l) (sym left)
    ∙ ap (λ l. l ∷ cut_at byte rest) (sym front)

-- One more byte at which it is not cut.
pub apart_more : (byte : ℕ) (text : List ℕ) (i : ℕ) → i < length text
    → All (λ b. nat_eq b byte ≡ false) (take i text) → get_or text i 0 ≢ byte
    → All (λ b. nat_eq b byte ≡ false) (take (i + 1) text)
apart_more byte text i lt apart is_not =
    All-more (λ b. nat_eq b byte ≡ false) text i 0 lt apart (ne_eqb _ _ is_not)

-- It is cut nowhere.
pub cut_nowhere : (byte : ℕ) (text : List ℕ) (i : ℕ) → length text ≤ i
    → All (λ b. nat_eq b byte ≡ false) (take i text) → cut_at byte text ≡ text ∷ []
cut_nowhere byte text i all apart =
    let P : List ℕ → Type 0 = All (λ b. nat_eq b byte ≡ false) in
    slice_split_none (λ b. nat_eq b byte) text (subst P (take_all i text all) apart)
