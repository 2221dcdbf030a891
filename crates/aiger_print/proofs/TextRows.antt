-- The lines of a printed text say its rows, and none is at fault.
use Rattle.std.proofs.Common.{◌≡◌, ℕ, zero, suc, ◌+◌, ◌<◌, ◌≤◌, ◌^◌, ◌⊎◌, Bool, true, false, cond, not, ◌&&◌, ◌||◌, nat_eq, inl, inr, refl, sym, ◌∙◌, ap, subst, arith, Some, None, List, [], ◌∷◌, ◌++◌, map, flat_map, length, get_or, drop, length-append, append_assoc}
use Rattle.std.specs.Prelude.{slice_index, slice_index_or, sum}
use Rattle.std.specs.List.{range_with_len, list_any, concat}
use Rattle.std.proofs.lemmas.Bool.{eqb-true, eq-eqb, or_left, or_right, or_cases, cases_Bool}
use Rattle.std.proofs.lemmas.List.{length-map, get_or-map, get_or_append_left}
use Rattle.std.proofs.lemmas.Grind.{flat_map-append}
use Rattle.aig_net.specs.declared.parts.NetParts.{NetParts}
use Rattle.aig_net.specs.Nets.{IsNet}
use Rattle.aig_order.specs.Firsts.{when, otherwise, first_some, holds}
use Rattle.aig_order.proofs.Firsts.{any-some}
use Rattle.aig_kind.specs.declared.kind.AigKind.TheVariants.{Truncated, Literal, Redefined}
use Rattle.aiger_body.specs.declared.header.Header.{Header}
use Rattle.aiger_body.specs.declared.section.Section.{Section}
use Rattle.aiger_body.specs.declared.section.Section.TheVariants.{Inputs, Latches, Outputs, Bads, Constraints, Sizes, Justices, Fairs, Gates}
use Rattle.aiger_body.specs.Texts.{pieces, piece_at, is_ended, is_feed, is_return, line_text, numbers_of}
use Rattle.aiger_body.specs.Spelled.{AreShort, spelled, line_of}
use Rattle.aiger_body.specs.Files.{all_sections, number_in, before, counted, lines, line, line_start, rows, row, section, section_rows, with_own, is_right, defined, defined_before, header_with, header_of, behind}
use Rattle.aiger_body.specs.Outcomes.{outcome, with_header, first_line, fault, of_line}
use Rattle.aiger_body.proofs.Pieces.{Free, pieces-cons, pieces-concat, ended}
use Rattle.aiger_body.proofs.LineTexts.{free-append, free-end, spelled-free, text-spelled, line-read, rows-pieces}
use Rattle.aiger_body.proofs.Spelling.{numbers-spelled}
use Rattle.aiger_body.proofs.Stages.{outcome_headed}
use Rattle.aiger_body.proofs.Sections.{line-in, line-of, in-section, named, number-of, number-small}
use Rattle.aiger_body.proofs.Known.{none-first}
use Rattle.aiger_print.specs.Printed.{header_row, trimmed}
use Rattle.aiger_print.proofs.Stacks.{stacked_long, stacked_at, same_range}
use Rattle.aiger_print.proofs.Forms.{own_header, printed, row_in, plan_of, rows_of, word_of, rest_of, text_of}
use Rattle.aiger_print.proofs.OwnRows.{short_printed, right_printed, own_printed, none-left}

-- ---- the header

header-trimmed : (form : Bool) (m i l o a d f : ℕ) → header_with form (m ∷ i ∷ l ∷ o ∷ a ∷ trimmed (0 ∷ d ∷ 0 ∷ f ∷ [])) ≡ Some (record { binary = form; top = m; inputs = i; latches = l; outputs = o; ands = a; bads = 0; constraints = d; justices = 0; fairs = f })
header-trimmed form m i l o a zero zero = refl
header-trimmed form m i l o a zero (suc f) = refl
header-trimmed form m i l o a (suc d) zero = refl
header-trimmed form m i l o a (suc d) (suc f) = refl

trimmed-short : (d f : ℕ) → d < 10 ^ 10 → f < 10 ^ 10 → AreShort (trimmed (0 ∷ d ∷ 0 ∷ f ∷ []))
trimmed-short zero zero a b = tt
trimmed-short zero (suc f) a b = (omega arith, (omega arith, (omega arith, (b, tt))))
trimmed-short (suc d) zero a b = (omega arith, (a, tt))
trimmed-short (suc d) (suc f) a b = (omega arith, (a, (omega arith, (b, tt))))

header-said : (b : Bool) (net : NetParts) → AreShort (header_row net) → header_of (word_of b ++ spelled (header_row net)) ≡ Some (own_header b net)
header-said true net short =
    ap (header_with true) (numbers-spelled (net.inputs + length net.latches + length net.ands) (drop 1 (header_row net)) short)
    ∙ header-trimmed true _ net.inputs (length net.latches) (length net.outputs) (length net.ands) (length net.constraints) (length net.fairs)
header-said false net short =
    ap (header_with false) (numbers-spelled (net.inputs + length net.latches + length net.ands) (drop 1 (header_row net)) short)
    ∙ header-trimmed false _ net.inputs (length net.latches) (length net.outputs) (length net.ands) (length net.constraints) (length net.fairs)

word-free : (b : Bool) (c : ℕ) → c < 32 → Free (λ x. nat_eq x c) (word_of b)
word-free true c low = (other 97 (omega arith), (other 105 (omega arith), (other 103 (omega arith), (other 32 (omega arith), tt))))
  where
    other : (n : ℕ) → c < n → nat_eq n c ≡ false
    other n lt = step (cases_Bool (nat_eq n c))
      where
        step : (nat_eq n c ≡ true) ⊎ (nat_eq n c ≡ false) → nat_eq n c ≡ false
        step (inl same) = absurd (omega (arith, eqb-true n c same, lt))
        step (inr no_one) = no_one
word-free false c low = (other 97 (omega arith), (other 97 (omega arith), (other 103 (omega arith), (other 32 (omega arith), tt))))
  where
    other : (n : ℕ) → c < n → nat_eq n c ≡ false
    other n lt = step (cases_Bool (nat_eq n c))
      where
        step : (nat_eq n c ≡ true) ⊎ (nat_eq n c ≡ false) → nat_eq n c ≡ false
        step (inl same) = absurd (omega (arith, eqb-true n c same, lt))
        step (inr no_one) = no_one

-- ---- lines

some-lines : (rs : List (List ℕ)) → length rs ≤ length (flat_map line_of rs)
some-lines [] = omega arith
some-lines (r ∷ rs) = omega (arith, ap length (flat_map-append line_of (r ∷ []) rs), length-append (flat_map line_of (r ∷ [])) (flat_map line_of rs), ap length (flat_map-append line_of (r ∷ []) []), length-append (line_of r) [], length-append (spelled r) (10 ∷ []), some-lines rs)

says : (r : List ℕ) → 0 < length r → AreShort r → numbers_of (line_text (line_of r)) ≡ r
says [] some short = absurd (omega arith)
says (n ∷ r) some short = line-read false n r short

said : (rs : List (List ℕ)) (more : List (List ℕ)) → ((k : ℕ) → k < length rs → numbers_of (line_text (line_of (get_or rs k []))) ≡ get_or rs k []) → map (λ l. numbers_of (line_text l)) (map line_of rs ++ more) ≡ rs ++ map (λ l. numbers_of (line_text l)) more
said [] more each = refl
said (r ∷ rs) more each =
    ap (λ x. x ∷ map (λ l. numbers_of (line_text l)) (map line_of rs ++ more)) (each 0 (omega arith)) ∙ ap (λ l. r ∷ l) (said rs more (λ k lt. each (suc k) (omega arith)))

latch-some : (b : Bool) (x : ℕ) (row : List ℕ) (n : ℕ) → 0 < length (cond b [] (x ∷ []) ++ n ∷ row)
latch-some true x row n = omega arith
latch-some false x row n = omega arith

some-printed : (b : Bool) (net : NetParts) (s : Section) (j : ℕ) → j < slice_index (plan_of b net) (number_in s) → 0 < length (printed b net s j)
some-printed b net Inputs j lt = omega arith
some-printed b net Latches j lt = latch-some b _ _ _
some-printed b net Outputs j lt = omega arith
some-printed b net Bads j lt = absurd (omega arith)
some-printed b net Constraints j lt = omega arith
some-printed b net Sizes j lt = absurd (omega arith)
some-printed b net Justices j lt = absurd (omega arith)
some-printed b net Fairs j lt = omega arith
some-printed b net Gates j lt = omega arith

module _ (b : Bool) (net : NetParts) (is : IsNet net) (few : net.inputs + length net.latches + length net.ands ≤ 1048576) (bytes : List ℕ) (e : bytes ≡ text_of b net) (small : length bytes ≤ 67108864) where
  abbrev h : Header
  h = own_header b net

  pub rows_few : sum (plan_of b net) ≤ 67108864
  rows_few =
      omega (
        arith,
        stacked_long (row_in b net) 0 (plan_of b net),
        some-lines (rows_of b net),
        ap length e,
        small,
        length-append (word_of b ++ line_of (header_row net)) (flat_map line_of (rows_of b net) ++ rest_of b net),
        length-append (flat_map line_of (rows_of b net)) (rest_of b net),
      )

  short-header : AreShort (header_row net)
  short-header = (omega arith, (omega arith, (omega arith, (omega (arith, rows_few), (omega arith, trimmed-short (length net.constraints) (length net.fairs) (omega (arith, rows_few)) (omega (arith, rows_few)))))))

  -- each row is one of a section
  in-row : (P : List ℕ → Type 0) → ((s : Section) (j : ℕ) → j < slice_index (plan_of b net) (number_in s) → P (printed b net s j)) → (k : ℕ) → k < length (rows_of b net) → P (get_or (rows_of b net) k [])
  in-row P each k lt =
      let at = line-in (plan_of b net) all_sections k refl (omega (arith, lt, stacked_long (row_in b net) 0 (plan_of b net))) in
      let nine : at.i < 9 = omega (arith, at.inside) in
      let plain : 0 + at.i ≡ at.i = omega arith in
      let Q : ℕ → Type 0 = λ n. at.j < slice_index (plan_of b net) n in
      let here : get_or (rows_of b net) k [] ≡ row_in b net at.i at.j = ap (λ n. get_or (rows_of b net) n []) at.place ∙ stacked_at (row_in b net) 0 (plan_of b net) at.i at.j at.inside at.small ∙ ap (λ n. row_in b net n at.j) plain in
      subst P (sym here) (each (slice_index_or all_sections at.i Gates) at.j (subst Q (sym (number-of at.i nine)) at.small))

  short-rows : (k : ℕ) → k < length (rows_of b net) → AreShort (get_or (rows_of b net) k [])
  short-rows = in-row AreShort (short_printed b net is few)

  pub lines_are : lines bytes ≡ (word_of b ++ line_of (header_row net)) ∷ (map line_of (rows_of b net) ++ pieces is_feed (rest_of b net))
  lines_are =
      let X = flat_map line_of (rows_of b net) ++ rest_of b net in
      ap (pieces is_feed) (e ∙ ap (λ l. l ++ X) (sym (append_assoc (word_of b) (spelled (header_row net)) (10 ∷ []))) ∙ append_assoc (word_of b ++ spelled (header_row net)) (10 ∷ []) X)
      ∙ pieces-cons is_feed (word_of b ++ spelled (header_row net)) 10 X (free-append is_feed (word_of b) (spelled (header_row net)) (word-free b 10 (omega arith)) (spelled-free 10 (omega arith) (header_row net) short-header)) refl
      ∙ ap (λ l. l ∷ pieces is_feed X) (append_assoc (word_of b) (spelled (header_row net)) (10 ∷ []))
      ∙ ap (λ l. (word_of b ++ line_of (header_row net)) ∷ l) (rows-pieces (rows_of b net) (rest_of b net) short-rows)

  first-is : first_line bytes ≡ word_of b ++ line_of (header_row net)
  first-is = ap (λ l. piece_at l 0) lines_are

  first-text : line_text (first_line bytes) ≡ word_of b ++ spelled (header_row net)
  first-text =
      ap line_text (first-is ∙ sym (append_assoc (word_of b) (spelled (header_row net)) (10 ∷ [])))
      ∙ text-spelled false (word_of b ++ spelled (header_row net)) (free-end is_return (word_of b ++ spelled (header_row net)) (free-append is_return (word_of b) (spelled (header_row net)) (word-free b 13 (omega arith)) (spelled-free 13 (omega arith) (header_row net) short-header)))

  pub outcome_is : outcome bytes ≡ with_header bytes (Some h)
  outcome_is =
      outcome_headed bytes (Some h)
      (ap (is_ended is_feed) (first-is ∙ sym (append_assoc (word_of b) (spelled (header_row net)) (10 ∷ []))) ∙ ended is_feed (word_of b ++ spelled (header_row net)) 10 refl)
      (ap header_of first-text ∙ header-said b net short-header)

  -- ---- rows

  rows-are : rows bytes ≡ rows_of b net ++ map (λ l. numbers_of (line_text l)) (pieces is_feed (rest_of b net))
  rows-are =
      ap (λ ls. map (λ l. numbers_of (line_text l)) (drop 1 ls)) lines_are
      ∙ said (rows_of b net) (pieces is_feed (rest_of b net)) (in-row (λ r. numbers_of (line_text (line_of r)) ≡ r) (λ s j lt. says (printed b net s j) (some-printed b net s j lt) (short_printed b net is few s j lt)))

  -- the section and the row of a counted line
  pub section_is : (s : Section) (j : ℕ) → j < slice_index (plan_of b net) (number_in s) → section h bytes (before (plan_of b net) s + j) ≡ s
  section_is s j lt = (in-section (plan_of b net) s j refl lt).0

  pub row_is : (s : Section) (j : ℕ) → j < slice_index (plan_of b net) (number_in s) → row h bytes (before (plan_of b net) s + j) ≡ printed false net s j
  row_is s j lt =
      let k = before (plan_of b net) s + j in
      let inside : k < length (rows_of b net) = omega (arith, (in-section (plan_of b net) s j refl lt).1, stacked_long (row_in b net) 0 (plan_of b net)) in
      let plain : 0 + number_in s ≡ number_in s = omega arith in
      ap (λ t. with_own h k t (slice_index_or (rows bytes) k [])) (section_is s j lt)
      ∙ ap (λ r. with_own h k s (slice_index_or r k [])) rows-are
      ∙ ap (with_own h k s) (get_or_append_left (rows_of b net) (map (λ l. numbers_of (line_text l)) (pieces is_feed (rest_of b net))) [] k inside
      ∙ stacked_at (row_in b net) 0 (plan_of b net) (number_in s) j (number-small s) lt ∙ ap (λ n. row_in b net n j) plain ∙ ap (λ t. printed b net t j) (named s))
      ∙ own_printed b net s j

  pub section_rows_are : (s : Section) → section_rows h bytes s ≡ map (printed false net s) (range_with_len 0 (slice_index (plan_of b net) (number_in s)))
  section_rows_are s =
      same_range (row h bytes) (printed false net s) (before (plan_of b net) s) 0 (slice_index (plan_of b net) (number_in s))
      (λ j lt. let plain : j ≡ 0 + j = omega arith in row_is s j lt ∙ ap (printed false net s) plain)

  -- ---- what is defined

  abbrev variables_at : Section → ℕ → List ℕ
  variables_at s j = defined s (printed false net s j)

  abbrev others : ℕ
  others = length net.outputs + length net.constraints + length net.fairs

  one-of : (v x : ℕ) → holds v (x ∷ []) ≡ true → v ≡ x
  one-of v x e = elim (or_cases (nat_eq v x) false e) [ inl same ↦ eqb-true v x same | inr no_one ↦ absurd (cc) ]

  placed : b ≡ false → (s : Section) (j v : ℕ) → j < slice_index (plan_of b net) (number_in s) → holds v (variables_at s j) ≡ true →
      ((v ≡ suc (before (plan_of b net) s + j)) × (before (plan_of b net) s + j < net.inputs + length net.latches)) ⊎ ((v + others ≡ suc (before (plan_of b net) s + j)) × (net.inputs + length net.latches + others ≤ before (plan_of b net) s + j))
  placed form Inputs j v lt e = inl (omega (arith, one-of v _ e), omega (arith, none-left b net.inputs j lt))
  placed form Latches j v lt e =
      let all : cond b 0 net.inputs ≡ net.inputs = ap (λ x. cond x 0 net.inputs) form in
      inl (omega (arith, one-of v _ e, all), omega (arith, all, lt))
  placed form Outputs j v lt e = absurd (cc)
  placed form Bads j v lt e = absurd (cc)
  placed form Constraints j v lt e = absurd (cc)
  placed form Sizes j v lt e = absurd (cc)
  placed form Justices j v lt e = absurd (cc)
  placed form Fairs j v lt e = absurd (cc)
  placed form Gates j v lt e =
      let all : cond b 0 net.inputs ≡ net.inputs = ap (λ x. cond x 0 net.inputs) form in
      inr (omega (arith, one-of v _ e, all), omega (arith, all))

  defined-at : (s : Section) (j k : ℕ) → j < slice_index (plan_of b net) (number_in s) → k ≡ before (plan_of b net) s + j → section h bytes k ≡ s → defined (section h bytes k) (row h bytes k) ≡ variables_at s j
  defined-at s j k lt place of = ap (λ t. defined t (row h bytes k)) of ∙ ap (λ n. defined s (row h bytes n)) place ∙ ap (defined s) (row_is s j lt)

  fresh : b ≡ false → (k : ℕ) → k < counted h bytes → list_any (defined_before h bytes k) (defined (section h bytes k) (row h bytes k)) ≡ false
  fresh form k lt = step (defined (section h bytes k) (row h bytes k)) refl
    where
      again : (v : ℕ) → holds v (defined (section h bytes k) (row h bytes k)) ≡ true → defined_before h bytes k v ≡ true → ⊥
      again v here before_it =
          let (i, less, there) = any-some k (λ n. holds v (defined (section h bytes n) (row h bytes n))) before_it in
          let one = line-of h bytes k lt in
          let two = line-of h bytes i (omega arith) in
          let P : List ℕ → Type 0 = λ l. holds v l ≡ true in
          let first = placed form one.s one.j v one.small (subst P (defined-at one.s one.j k one.small one.place one.is) here) in
          let second = placed form two.s two.j v two.small (subst P (defined-at two.s two.j i two.small two.place two.is) there) in
          elim first [
            | inl (a, x) ↦ elim second [ inl (c, y) ↦ omega (arith, a, c, less, one.place, two.place) | inr (c, y) ↦ omega (arith, a, c, x, y, less, one.place, two.place) ]
            | inr (a, x) ↦ elim second [ inl (c, y) ↦ omega (arith, a, c, x, y, less, one.place, two.place) | inr (c, y) ↦ omega (arith, a, c, less, one.place, two.place) ]
          ]

      step : (vs : List ℕ) → defined (section h bytes k) (row h bytes k) ≡ vs → list_any (defined_before h bytes k) vs ≡ false
      step vs is_vs = none-in vs (λ v there. let P : List ℕ → Type 0 = λ l. holds v l ≡ true in again v (subst P (sym is_vs) there))
        where
          none-in : (vs : List ℕ) → ((v : ℕ) → holds v vs ≡ true → defined_before h bytes k v ≡ true → ⊥) → list_any (defined_before h bytes k) vs ≡ false
          none-in [] no_one = refl
          none-in (v ∷ vs) no_one = elim (cases_Bool (defined_before h bytes k v)) [
            | inl found ↦ absurd (no_one v (head-holds v vs) found)
            | inr free ↦ ap (λ x. x || list_any (defined_before h bytes k) vs) free ∙ none-in vs (λ u there. no_one u (tail-holds u v vs there))
          ]
            where
              head-holds : (v : ℕ) (vs : List ℕ) → holds v (v ∷ vs) ≡ true
              head-holds v vs = or_left _ _ (eq-eqb v v refl)

              tail-holds : (u v : ℕ) (vs : List ℕ) → holds u vs ≡ true → holds u (v ∷ vs) ≡ true
              tail-holds u v vs there = or_right (nat_eq u v) _ there

  -- ---- no line is at fault

  line-is : (k : ℕ) → k < counted h bytes → line bytes k ≡ line_of (get_or (rows_of b net) k [])
  line-is k lt =
      let inside : k < length (rows_of b net) = omega (arith, lt, stacked_long (row_in b net) 0 (plan_of b net)) in
      ap (λ ls. piece_at ls (suc k)) lines_are
      ∙ get_or_append_left (map line_of (rows_of b net)) (pieces is_feed (rest_of b net)) [] k (omega (arith, inside, length-map (rows_of b net) line_of))
      ∙ get_or-map line_of (rows_of b net) k [] [] inside

  ended-line : (k : ℕ) → k < counted h bytes → is_ended is_feed (line bytes k) ≡ true
  ended-line k lt = ap (is_ended is_feed) (line-is k lt) ∙ ended is_feed (spelled (get_or (rows_of b net) k [])) 10 refl

  right-line : (k : ℕ) → k < counted h bytes → is_right h (section h bytes k) (row h bytes k) ≡ true
  right-line k lt =
      let of = line-of h bytes k lt in
      ap (λ t. is_right h t (row h bytes k)) of.is ∙ ap (λ n. is_right h of.s (row h bytes n)) of.place ∙ ap (is_right h of.s) (row_is of.s of.j of.small) ∙ right_printed b net is few of.s of.j of.small

  again-none : (k : ℕ) → k < counted h bytes → (not h.binary && list_any (defined_before h bytes k) (defined (section h bytes k) (row h bytes k))) ≡ false
  again-none k lt = elim (cases_Bool b) [
    | inl binary ↦ ap (λ x. not x && list_any (defined_before h bytes k) (defined (section h bytes k) (row h bytes k))) binary
    | inr ascii ↦ ap (λ x. not b && x) (fresh ascii k lt) ∙ and-no (not b)
  ]
    where
      and-no : (x : Bool) → (x && false) ≡ false
      and-no true = refl
      and-no false = refl

  pub lines_clear : first_some (counted h bytes) (of_line h bytes) ≡ None
  lines_clear = none-first h bytes (counted h bytes) (of_line h bytes) (λ k lt.
      ap (λ x. otherwise (when (not x) (fault Truncated (length bytes))) (otherwise (when (not (is_right h (section h bytes k) (row h bytes k))) (fault Literal (line_start bytes k))) (when (not h.binary && list_any (defined_before h bytes k) (defined (section h bytes k) (row h bytes k))) (fault Redefined (line_start bytes k))))) (ended-line k lt)
      ∙ ap (λ x. otherwise (when (not x) (fault Literal (line_start bytes k))) (when (not h.binary && list_any (defined_before h bytes k) (defined (section h bytes k) (row h bytes k))) (fault Redefined (line_start bytes k)))) (right-line k lt)
      ∙ ap (λ x. when x (fault Redefined (line_start bytes k))) (again-none k lt))

  -- what stands behind the counted lines
  pub behind_is : behind h bytes ≡ rest_of b net
  behind_is =
      ap (λ ls. concat (drop (suc (sum (plan_of b net))) ls)) lines_are
      ∙ ap (λ n. concat (drop n (map line_of (rows_of b net) ++ pieces is_feed (rest_of b net)))) (sym (length-map (rows_of b net) line_of ∙ stacked_long (row_in b net) 0 (plan_of b net)))
      ∙ ap concat (drop-front (map line_of (rows_of b net)) (pieces is_feed (rest_of b net)))
      ∙ pieces-concat is_feed (rest_of b net)
    where
      drop-front : (xs ys : List (List ℕ)) → drop (length xs) (xs ++ ys) ≡ ys
      drop-front [] ys = refl
      drop-front (x ∷ xs) ys = drop-front xs ys
