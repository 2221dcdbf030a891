-- Lines that are printed one after another.
use Rattle.std.proofs.Common.{◌≡◌, ℕ, ◌<◌, Bool, true, false, List, [], ◌∷◌, ◌++◌, map, refl, sym, ◌∙◌, ap, arith, append-nil}
use Rattle.std.specs.Prelude.{nat_le, decimal}
use Rattle.std.specs.List.{All, list_all, flat_map, join_with_byte}
use Rattle.std.proofs.lemmas.Bool.{and_parts, leb-true}
use Rattle.std.proofs.lemmas.List.Elements.{All-head, All-tail}
use Rattle.hy_text.specs.Lines.{lines_of}
use Rattle.cert_text.specs.declared.question.Question.{Question}
use Rattle.cert_text.specs.Lines.{Line, Say}
use Rattle.cert_text.specs.Certificates.{Certificate, Spells, holds_line}
use Rattle.hy_text.specs.Numbers.{SaysNumber}
use Rattle.cert_text.specs.Printed.{IsBelow}
use Rattle.cert_text.specs.Texts.{IsText, ended}
use Rattle.cert_text.proofs.Answering.{lines_ended}
use Rattle.cert_text.proofs.Joining.{Lacks, EachLacks, IsFree, AreFree, lacks_nil, lacks_cons, lacks_feed, joined_lacks}

-- A word of bytes behind the space has neither a space nor a line feed.
pub word_lacks : (byte : ℕ) (word : List ℕ) → byte < 33 → list_all (nat_le 33) word ≡ true
    → Lacks byte word
word_lacks byte [] low above = lacks_nil byte
word_lacks byte (b ∷ word) low above =
    let (here, more) = and_parts (nat_le 33 b) (list_all (nat_le 33) word) above in
    lacks_cons byte b word (λ e. absurd (omega (arith, leb-true 33 b here, e)))
    (word_lacks byte word low more)

-- Words that are joined by spaces are the first one, and each other one behind a space.
pub joined_spaced : (word : List ℕ) (words : List (List ℕ))
    → join_with_byte 32 (word ∷ words) ≡ word ++ flat_map (λ w. 32 ∷ w) words
joined_spaced word [] = sym (append-nil word)
joined_spaced word (next ∷ words) = ap (λ t. word ++ 32 ∷ t) (joined_spaced next words)

-- A line of words has no line feed where they have none.
pub free_words : (words : List (List ℕ)) → EachLacks 10 words → Lacks 10 (join_with_byte 32 words)
free_words words each = joined_lacks 10 32 words (λ e. absurd (omega (arith, e))) each

pub spelled_number : (n : ℕ) → IsBelow n → SaysNumber (decimal n) n
spelled_number n below = record { spelled = refl; short = below }

-- the first line of an answer about a circuit
pub holds_free : (holds : Bool) → IsFree (holds_line holds)
holds_free true = refl
holds_free false = refl

module _ {A : Type 0} (line_of : A → Line) where
  -- Texts that are lines with their line feeds are these lines, one after another.
  pub texts_end : (text_of : A → List ℕ) → ((x : A) → text_of x ≡ line_of x ++ 10 ∷ [])
      → (xs : List A) → flat_map text_of xs ≡ ended (map line_of xs)
  texts_end text_of ends [] = refl
  texts_end text_of ends (x ∷ xs) =
      ap (λ t. t ++ flat_map text_of xs) (ends x)
      ∙ ap (λ t. (line_of x ++ 10 ∷ []) ++ t) (texts_end text_of ends xs)

  pub words_lack : (P : A → Type 0) (byte : ℕ) → ((x : A) → P x → Lacks byte (line_of x))
      → (xs : List A) → All P xs → EachLacks byte (map line_of xs)
  words_lack P byte lacks [] all = tt
  words_lack P byte lacks (x ∷ xs) all =
      (lacks x (All-head P x xs all), words_lack P byte lacks xs (All-tail P x xs all))

  pub free_lines_of : (P : A → Type 0) → ((x : A) → P x → Lacks 10 (line_of x)) → (xs : List A)
      → All P xs → AreFree (map line_of xs)
  free_lines_of P free [] all = tt
  free_lines_of P free (x ∷ xs) all = (
    lacks_feed (line_of x) (free x (All-head P x xs all)),
    free_lines_of P free xs (All-tail P x xs all),
  )

  pub say_lines_of : (P : A → Type 0) (Says : Line → A → Type 0)
      → ((x : A) → P x → Says (line_of x) x) → (xs : List A) → All P xs
      → Say Says (map line_of xs) xs
  say_lines_of P Says says [] all = tt
  say_lines_of P Says says (x ∷ xs) all =
      (says x (All-head P x xs all), say_lines_of P Says says xs (All-tail P x xs all))

-- Lines without line feeds, each with one behind it, are a text where they spell a certificate.
pub lines_text : (question : Question) (lines : List Line) (certificate : Certificate) → AreFree lines
    → Spells lines question certificate → IsText question (ended lines) certificate
lines_text question lines certificate free spelled = record {
  lines = lines;
  ended = ap lines_of (sym (append-nil (ended lines))) ∙ lines_ended lines [] free;
  spelled = spelled;
}
