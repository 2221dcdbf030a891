-- Which bytes are of which class.
use Rattle.std.specs.Prelude.{ℕ, Bool}
use Rattle.hy_text.specs.declared.class.Class.{Class}
use Rattle.hy_text.specs.declared.class.Class.TheVariants.{Blank, LineBlank, Digit, LetterOrDigit, WordByte, Quotable, InLine}
use Rattle.hy_text.specs.Bytes.{is_blank, is_line_blank, is_digit, is_letter_or_digit, is_word_byte, is_quotable, is_in_line}

abbrev pub is_of : Class → ℕ → Bool
is_of Blank = is_blank
is_of LineBlank = is_line_blank
is_of Digit = is_digit
is_of LetterOrDigit = is_letter_or_digit
is_of WordByte = is_word_byte
is_of Quotable = is_quotable
is_of InLine = is_in_line
