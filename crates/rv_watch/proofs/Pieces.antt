-- The lines of bytes that come in pieces: the last one of a piece goes on as the first one of the next.
use Rattle.std.proofs.Common.{◌≡◌, ℕ, suc, ◌+◌, ◌<◌, Bool, true, false, List, [], ◌∷◌, ◌++◌, length, refl, sym, ap, ◌∙◌, arith, length-append}
use Rattle.std.specs.List.{onto_first}
use Rattle.std.proofs.lemmas.List.Splits.{slice_split-cons_yes, slice_split-cons_no, length-slice_split}
use Rattle.hy_text.specs.Bytes.{is_line_feed}
use Rattle.hy_text.specs.Lines.{lines_of}
use Rattle.rv_watch.specs.At.{glued}

-- lines, of which the last goes on as the first of others
abbrev pub melded : List (List ℕ) → List (List ℕ) → List (List ℕ)
melded [] others = others
melded (line ∷ []) others = glued line others
melded (line ∷ next ∷ lines) others = line ∷ melded (next ∷ lines) others

pub some-lines : (bytes : List ℕ) → 0 < length (lines_of bytes)
some-lines bytes = omega (arith, length-slice_split is_line_feed bytes)

melded-nothing : (others : List (List ℕ)) → 0 < length others → melded ([] ∷ []) others ≡ others
melded-nothing [] some = absurd (omega (arith, some))
melded-nothing (line ∷ others) some = refl

melded-behind : (line : List ℕ) (lines others : List (List ℕ)) → 0 < length lines → melded (line ∷ lines) others ≡ line ∷ melded lines others
melded-behind line [] others some = absurd (omega (arith, some))
melded-behind line (next ∷ lines) others some = refl

melded-onto : (x : ℕ) (lines others : List (List ℕ)) → 0 < length lines → 0 < length others
    → onto_first x (melded lines others) ≡ melded (onto_first x lines) others
melded-onto x [] others some also = absurd (omega (arith, some))
melded-onto x (line ∷ []) [] some also = absurd (omega (arith, also))
melded-onto x (line ∷ []) (other ∷ others) some also = refl
melded-onto x (line ∷ next ∷ lines) others some also = refl

module _ (x : ℕ) (bytes piece : List ℕ) (behind : lines_of (bytes ++ piece) ≡ melded (lines_of bytes) (lines_of piece)) where
  melded-more : (b : Bool) → is_line_feed x ≡ b → lines_of (x ∷ bytes ++ piece) ≡ melded (lines_of (x ∷ bytes)) (lines_of piece)
  melded-more true e =
      slice_split-cons_yes is_line_feed x (bytes ++ piece) e
      ∙ ap (λ ls. [] ∷ ls) behind
      ∙ sym (melded-behind [] (lines_of bytes) (lines_of piece) (some-lines bytes))
      ∙ ap (λ ls. melded ls (lines_of piece)) (sym (slice_split-cons_yes is_line_feed x bytes e))
  melded-more false e =
      slice_split-cons_no is_line_feed x (bytes ++ piece) e
      ∙ ap (onto_first x) behind
      ∙ melded-onto x (lines_of bytes) (lines_of piece) (some-lines bytes) (some-lines piece)
      ∙ ap (λ ls. melded ls (lines_of piece)) (sym (slice_split-cons_no is_line_feed x bytes e))

pub lines-melded : (bytes piece : List ℕ) → lines_of (bytes ++ piece) ≡ melded (lines_of bytes) (lines_of piece)
lines-melded [] piece = sym (melded-nothing (lines_of piece) (some-lines piece))
lines-melded (x ∷ bytes) piece = melded-more x bytes piece (lines-melded bytes piece) (is_line_feed x) refl

melded-last : (lines : List (List ℕ)) (front : List ℕ) (others : List (List ℕ)) → melded (lines ++ front ∷ []) others ≡ lines ++ glued front others
melded-last [] front others = refl
melded-last (line ∷ lines) front others =
    melded-behind line (lines ++ front ∷ []) others (omega (arith, length-append lines (front ∷ [])))
    ∙ ap (λ ls. line ∷ ls) (melded-last lines front others)

pub melded-within : (lines : List (List ℕ)) (line : List ℕ) (more others : List (List ℕ)) → 0 < length more
    → melded (lines ++ line ∷ more) others ≡ lines ++ line ∷ melded more others
melded-within [] line more others some = melded-behind line more others some
melded-within (first ∷ lines) line more others some =
    melded-behind first (lines ++ line ∷ more) others (omega (arith, length-append lines (line ∷ more)))
    ∙ ap (λ ls. first ∷ ls) (melded-within lines line more others some)

-- Behind bytes of which these lines ended, with this front of the next, the lines of a piece follow.
pub lines-on : (bytes piece front : List ℕ) (lines : List (List ℕ)) → lines_of bytes ≡ lines ++ front ∷ []
    → lines_of (bytes ++ piece) ≡ lines ++ glued front (lines_of piece)
lines-on bytes piece front lines e =
    lines-melded bytes piece ∙ ap (λ ls. melded ls (lines_of piece)) e ∙ melded-last lines front (lines_of piece)

-- ---- how long lines are

-- the bytes of lines, each with its line feed
abbrev pub extent : List (List ℕ) → ℕ
extent [] = 0
extent (line ∷ lines) = suc (length line) + extent lines

extent-onto : (x : ℕ) (lines : List (List ℕ)) → 0 < length lines → extent (onto_first x lines) ≡ suc (extent lines)
extent-onto x [] some = absurd (omega (arith, some))
extent-onto x (line ∷ lines) some = omega arith

module _ (x : ℕ) (bytes : List ℕ) (behind : extent (lines_of bytes) ≡ suc (length bytes)) where
  extent-more : (b : Bool) → is_line_feed x ≡ b → extent (lines_of (x ∷ bytes)) ≡ suc (suc (length bytes))
  extent-more true e = let is = ap extent (slice_split-cons_yes is_line_feed x bytes e) in omega (arith, is, behind)
  extent-more false e =
      let is = ap extent (slice_split-cons_no is_line_feed x bytes e) in
      omega (arith, is, extent-onto x (lines_of bytes) (some-lines bytes), behind)

pub extent-lines : (bytes : List ℕ) → extent (lines_of bytes) ≡ suc (length bytes)
extent-lines [] = refl
extent-lines (x ∷ bytes) = extent-more x bytes (extent-lines bytes) (is_line_feed x) refl
