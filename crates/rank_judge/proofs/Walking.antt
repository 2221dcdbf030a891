-- A walk along the lines at the front of a text, each of which says a value.
use Rattle.std.proofs.Common.{◌≡◌, ◌≢◌, ℕ, ◌+◌, ◌<◌, ◌≤◌, List, [], ◌∷◌, ◌++◌, length, Option, Some, None, refl, sym, ◌∙◌, ap, subst, arith, append_assoc, append-nil, length-append}
use Rattle.std.specs.Option.{option_copied}
use denote.Ref.{Bor}
use Rattle.hy_text.specs.Lines.{lines_of, left_lines}
use Rattle.cert_text.specs.Lines.{Line, Say}
use Rattle.rank_judge.specs.Fronts.{AreFirst}

-- So many values have passed, of which Done says what is kept, and the others stand first in what
-- is left of the text.
pub record IsWalked {A : Type 0} (Says : Line → A → Type 0) (Done : List A → Type 0)
    (values : List A) (rest : List Line) (i : ℕ) (left : List ℕ) : Type 0 where
  pub front : List A
  pub back : List A
  pub parts : values ≡ front ++ back
  pub many : length front ≡ i
  pub done : Done front
  pub first : AreFirst Says left back rest

-- The next line says the next value.
pub record IsNext {A : Type 0} (Says : Line → A → Type 0) (Done : List A → Type 0)
    (values : List A) (rest : List Line) (i : ℕ) (line : Line) (behind : Option (List ℕ))
    : Type 0 where
  pub front : List A
  pub value : A
  pub back : List A
  pub parts : values ≡ front ++ value ∷ back
  pub many : length front ≡ i
  pub done : Done front
  pub says : Says line value
  pub lines : List Line
  pub left : left_lines behind ≡ lines ++ rest
  pub said : Say Says lines back

pub no_append : (xs ys : List Line) → xs ++ ys ≡ [] → ys ≡ []
no_append [] ys e = e
no_append (x ∷ xs) ys e = absurd (cc)

module _ {A : Type 0} (Says : Line → A → Type 0) where
  pub walk_begins : (Done : List A → Type 0) (text : List ℕ) (values : List A) (rest : List Line)
      → AreFirst Says text values rest → Done [] → IsWalked Says Done values rest 0 text
  walk_begins Done text values rest first done = record {
    front = [];
    back = values;
    parts = refl;
    many = refl;
    done = done;
    first = first;
  }

  line-first : (Done : List A → Type 0) (values : List A) (rest : List Line) (i : ℕ)
      (line : Line) (behind : Option (List ℕ)) (front back : List A) (lines : List Line)
      → values ≡ front ++ back → length front ≡ i → Done front → i < length values
      → line ∷ left_lines behind ≡ lines ++ rest → Say Says lines back
      → IsNext Says Done values rest i line behind
  line-first Done values rest i line behind front [] lines parts many done lt cut said =
      let all : length values ≡ length front = ap length (parts ∙ append-nil front) in
      absurd (omega arith)
  line-first Done values rest i line behind front (x ∷ back) [] parts many done lt cut said =
      absurd said
  line-first Done values rest i line behind front (x ∷ back) (l ∷ lines) parts many done lt cut
      (says, said) =
      let same : l ≡ line = cc in
      let P : Line → Type 0 = λ t. Says t x in
      record {
        front = front;
        value = x;
        back = back;
        parts = parts;
        many = many;
        done = done;
        says = subst P same says;
        lines = lines;
        left = cc;
        said = said;
      }

  pub walk_next : (Done : List A → Type 0) (values : List A) (rest : List Line) (i : ℕ)
      (left : List ℕ) (line : Line) (behind : Option (List ℕ))
      → IsWalked Says Done values rest i left → i < length values
      → lines_of left ≡ line ∷ left_lines behind → IsNext Says Done values rest i line behind
  walk_next Done values rest i left line behind walked lt cut =
      line-first Done values rest i line behind walked.front walked.back walked.first.lines
      walked.parts walked.many walked.done lt (sym cut ∙ walked.first.parts) walked.first.said

  -- the same as the line is cut off what is left
  pub walk_cut : {Done : List A → Type 0} {values : List A} {rest : List Line} {n i : ℕ}
      {left : List ℕ} {line : Line} {end behind : Option (Bor (List ℕ))} → length values ≡ n → i < n
      → IsWalked Says Done values rest i left → lines_of left ≡ line ∷ left_lines (option_copied end)
      → end ≡ behind → IsNext Says Done values rest i line (option_copied behind)
  walk_cut {line = line} many lt walked cut is =
      walk_next _ _ _ _ _ _ _ walked (omega (arith, many, lt))
      (cut ∙ ap (λ o. line ∷ left_lines (option_copied o)) is)

  -- There is a text behind the line.
  pub next_ends : (Done : List A → Type 0) (values : List A) (rest : List Line) (i : ℕ)
      (line : Line) → rest ≢ [] → ¬ IsNext Says Done values rest i line None
  next_ends Done values rest i line some next = some (no_append next.lines rest (sym next.left))

  pub walk_more : (Done More : List A → Type 0) (values : List A) (rest : List Line) (i : ℕ)
      (line : Line) (text : List ℕ) (next : IsNext Says Done values rest i line (Some text))
      → More (next.front ++ next.value ∷ []) → IsWalked Says More values rest (i + 1) text
  walk_more Done More values rest i line text next done = record {
    front = next.front ++ next.value ∷ [];
    back = next.back;
    parts = next.parts ∙ sym (append_assoc next.front (next.value ∷ []) next.back);
    many = omega (arith, length-append next.front (next.value ∷ []), next.many);
    done = done;
    first = record { lines = next.lines; parts = next.left; said = next.said };
  }

  all-passed : (Done : List A → Type 0) (values : List A) (rest : List Line) (i : ℕ)
      (left : List ℕ) (front back : List A) (lines : List Line) → values ≡ front ++ back
      → length front ≡ i → Done front → length values ≤ i → lines_of left ≡ lines ++ rest
      → Say Says lines back → Done values × (lines_of left ≡ rest)
  all-passed Done values rest i left front [] [] parts many done le cut said =
      (subst Done (sym (parts ∙ append-nil front)) done, cut)
  all-passed Done values rest i left front [] (l ∷ lines) parts many done le cut said =
      absurd said
  all-passed Done values rest i left front (x ∷ back) lines parts many done le cut said =
      let long = ap length parts ∙ length-append front (x ∷ back) in
      absurd (omega (arith, long))

  pub walk_ends : (Done : List A → Type 0) (values : List A) (rest : List Line) (i : ℕ)
      (left : List ℕ) → IsWalked Says Done values rest i left → length values ≤ i
      → Done values × (lines_of left ≡ rest)
  walk_ends Done values rest i left walked le =
      all-passed Done values rest i left walked.front walked.back walked.first.lines walked.parts
      walked.many walked.done le walked.first.parts walked.first.said
