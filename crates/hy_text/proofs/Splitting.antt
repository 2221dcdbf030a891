-- The first line of a text and the lines behind it.
use Rattle.std.proofs.Common.{◌≡◌, ℕ, ◌+◌, ◌<◌, List, [], ◌∷◌, length, take, drop, sym, refl, ap, ◌∙◌, arith}
use Rattle.std.specs.List.{prefix_len, take_while, slice_split, position_or_len}
use Rattle.std.proofs.lemmas.List.Folds.{length-prefix_len}
use Rattle.std.proofs.lemmas.List.Sums.{prefix_len-le-length}
use Rattle.std.proofs.lemmas.List.Splits.{slice_split_first}
use Rattle.std.proofs.lemmas.List.{length-drop, drop-drop}
use Rattle.std.proofs.Math.Seq.{take-length}
use Rattle.hy_text.specs.Bytes.{is_line_feed, is_in_line}
use Rattle.hy_text.specs.Lines.{lines_of}

one_line : (text : List ℕ) → prefix_len is_in_line text ≡ length text
    → lines_of text ≡ text ∷ []
one_line [] e = refl
one_line (x ∷ xs) e = grind (arith, one_line xs)

-- the only line
pub last_line : (text line behind : List ℕ) → line ≡ take_while is_in_line text
    → behind ≡ drop (length line) text → length behind ≡ 0
    → lines_of text ≡ line ∷ []
last_line text line behind run rest none =
    let long : length line ≡ prefix_len is_in_line text = ap length run
    ∙ length-prefix_len is_in_line text in
    let whole : prefix_len is_in_line text ≡ length text = omega (
      arith,
      prefix_len-le-length is_in_line text,
      ap length rest,
      length-drop
          (length line) text,
    ) in
    one_line text whole ∙ ap (λ l. l ∷ []) (sym (run ∙ ap (λ n. take n text) whole
    ∙ take-length text))

-- a line, and more behind its line feed
pub next_line : (text line behind : List ℕ) → line ≡ take_while is_in_line text
    → behind ≡ drop (length line) text → 0 < length behind
    → lines_of text ≡ line ∷ slice_split is_line_feed (drop 1 behind)
next_line text line behind run rest some =
    let long : length line ≡ prefix_len is_in_line text = ap length run
    ∙ length-prefix_len is_in_line text in
    let within : position_or_len is_line_feed text < length text = omega
    (arith, ap length rest, length-drop (length line) text) in
    let after : drop (position_or_len is_line_feed text + 1) text ≡ drop 1 behind = sym (ap
    (drop 1) rest ∙ drop-drop 1 (length line) text ∙ ap (λ n. drop (n + 1) text) long) in
    slice_split_first is_line_feed text 0 within
    ∙ ap (λ l. l ∷ slice_split is_line_feed (drop
    (position_or_len is_line_feed text + 1) text)) (sym run)
    ∙ ap (λ t. line ∷ slice_split is_line_feed t) after
