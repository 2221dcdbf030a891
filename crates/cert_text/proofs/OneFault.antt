-- Bytes go wrong at one line at most, and a text at none.
use Rattle.std.proofs.Common.{◌≡◌, ℕ, ◌<◌, ◌⊎◌, List, [], ◌∷◌, ◌++◌, length, inl, inr, refl, sym, ◌∙◌, ap, subst, arith, append_assoc, append-nil, length-append}
use Rattle.std.specs.List.{join_with_byte}
use Rattle.std.proofs.lemmas.Bool.{cases_lt}
use Rattle.std.proofs.lemmas.List.{same_from_push}
use Rattle.std.proofs.lemmas.List.Splits.{join_with_byte-slice_split}
use Rattle.hy_text.specs.Lines.{lines_of}
use Rattle.cert_text.specs.declared.question.Question.{Question}
use Rattle.cert_text.specs.Lines.{Line}
use Rattle.cert_text.specs.Certificates.{Certificate}
use Rattle.cert_text.specs.Texts.{IsText, ended, Begins, IsWrong, IsCut, IsShort, IsFaultAt}
use Rattle.cert_text.proofs.Lists.{longer}

-- ---- fronts of texts

pub ended_both : (front more : List Line) → ended (front ++ more) ≡ ended front ++ ended more
ended_both [] more = refl
ended_both (line ∷ front) more =
    ap (λ t. (line ++ 10 ∷ []) ++ t) (ended_both front more)
    ∙ sym (append_assoc (line ++ 10 ∷ []) (ended front) (ended more))

-- What begins with lines begins with the first of them.
begins_front : (question : Question) (front more : List Line) → Begins question (front ++ more)
    → Begins question front
begins_front question front more (rest, certificate, text) =
    let bytes = ap (λ t. t ++ rest) (ended_both front more)
    ∙ append_assoc (ended front) (ended more) rest in
    let P : List ℕ → Type 0 = λ b. IsText question b certificate in
    (ended more ++ rest, certificate, subst P bytes text)

joined : (front : List Line) (line : Line) (more : List Line)
    → join_with_byte 10 (front ++ line ∷ more) ≡ ended front ++ join_with_byte 10 (line ∷ more)
joined [] line more = refl
joined (first ∷ []) line more =
    sym (append_assoc first (10 ∷ []) (join_with_byte 10 (line ∷ more)))
    ∙ ap (λ t. t ++ join_with_byte 10 (line ∷ more)) (sym (append-nil (first ++ 10 ∷ [])))
joined (first ∷ second ∷ front) line more =
    ap (λ t. first ++ 10 ∷ t) (joined (second ∷ front) line more)
    ∙ sym (append_assoc first (10 ∷ []) (ended (second ∷ front) ++ join_with_byte 10 (line ∷ more)))
    ∙ sym (append_assoc (first ++ 10 ∷ []) (ended (second ∷ front)) (join_with_byte 10
    (line ∷ more)))

-- A text begins with its lines.
text_begins : (question : Question) (bytes : List ℕ) (certificate : Certificate) (front : List Line)
    (line : Line) (more : List Line) → lines_of bytes ≡ front ++ line ∷ more
    → IsText question bytes certificate → Begins question front
text_begins question bytes certificate front line more parts text =
    let whole = sym (join_with_byte-slice_split 10 bytes) ∙ ap (join_with_byte 10) parts
    ∙ joined front line more in
    let P : List ℕ → Type 0 = λ b. IsText question b certificate in
    (join_with_byte 10 (line ∷ more), certificate, subst P whole text)

-- ---- faults

-- A text begins with these lines of the bytes, and a line is behind them.
pub record IsPlace (question : Question) (bytes : List ℕ) (front : List Line) : Type 0 where
  pub line : Line
  pub more : List Line
  pub parts : lines_of bytes ≡ front ++ line ∷ more
  pub begins : Begins question front

abbrev pub IsFault : Question → List ℕ → List Line → Type 0
IsFault question bytes front =
    IsWrong question bytes front ⊎ (IsCut question bytes front ⊎ IsShort question bytes front)

place_of : (question : Question) (bytes : List ℕ) (front : List Line) → IsFault question bytes front
    → IsPlace question bytes front
place_of question bytes front (inl wrong) = record {
  line = wrong.line;
  more = wrong.next ∷ wrong.more;
  parts = wrong.parts;
  begins = wrong.begins;
}
place_of question bytes front (inr (inl cut)) =
    record { line = cut.line; more = []; parts = cut.parts; begins = cut.begins }
place_of question bytes front (inr (inr short)) =
    record { line = []; more = []; parts = short.parts; begins = short.begins }

-- no line is behind the last one
no-behind : (bytes : List ℕ) (front other : List Line) (line next : Line) (more : List Line)
    → lines_of bytes ≡ front ++ line ∷ [] → lines_of bytes ≡ other ++ next ∷ more
    → ¬ (length front < length other)
no-behind bytes front other line next more parts others lt =
    absurd (omega (
      arith,
      ap length (sym parts ∙ others),
      length-append front (line ∷ []),
      length-append other (next ∷ more),
    ))

no_later : (question : Question) (bytes : List ℕ) (front other : List Line) → IsFault question bytes front
    → IsPlace question bytes other → ¬ (length front < length other)
no_later question bytes front other (inl wrong) place lt =
    let (more, parts) = longer front (wrong.next ∷ wrong.more) other (place.line ∷ place.more)
    wrong.line (sym wrong.parts ∙ place.parts) lt in
    wrong.stops (begins_front question (front ++ wrong.line ∷ []) more
    (subst (Begins question) parts place.begins))
no_later question bytes front other (inr (inl cut)) place lt =
    no-behind bytes front other cut.line place.line place.more cut.parts place.parts lt
no_later question bytes front other (inr (inr short)) place lt =
    no-behind bytes front other [] place.line place.more short.parts place.parts lt

pub one_fault : (question : Question) (bytes : List ℕ) (k m : ℕ) → IsFaultAt question bytes k
    → IsFaultAt question bytes m → k ≡ m
one_fault question bytes k m (front, counted, fault) (other, also, second) =
    elim (cases_lt (length front) (length other)) [
      | inl lt ↦ absurd (no_later question bytes front other fault (place_of question bytes other
          second) lt)
      | inr le ↦ elim (cases_lt (length other) (length front)) [
        | inl lt ↦ absurd (no_later question bytes other front second (place_of question bytes front
            fault) lt)
        | inr ge ↦ omega (arith, counted, also, le, ge)
      ]
    ]

pub no_fault : (question : Question) (bytes : List ℕ) (k : ℕ) (certificate : Certificate)
    → IsFaultAt question bytes k → ¬ IsText question bytes certificate
no_fault question bytes k certificate (front, counted, inl wrong) text =
    let parts = wrong.parts ∙ sym (append_assoc front (wrong.line ∷ []) (wrong.next ∷ wrong.more))
    in
    wrong.stops (text_begins question bytes certificate (front ++ wrong.line ∷ []) wrong.next
    wrong.more
    parts text)
no_fault question bytes k certificate (front, counted, inr (inl cut)) text =
    cut.some (same_from_push front text.lines cut.line [] (sym cut.parts ∙ text.ended)).1
no_fault question bytes k certificate (front, counted, inr (inr short)) text =
    short.wanting certificate text
