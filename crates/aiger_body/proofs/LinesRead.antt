-- One counted line after the other: what is wrong with it, and which variables are defined behind it.
use Rattle.std.proofs.Common.{◌≡◌, ℕ, suc, ◌+◌, ◌*◌, ◌<◌, ◌≤◌, ◌^◌, ◌⊎◌, Bool, true, false, not, ◌&&◌, ◌||◌, nat_eq, List, [], ◌∷◌, ◌++◌, map, length, get_or, set, refl, sym, ◌∙◌, ap, subst, arith, inl, inr, Option, Some, None}
use Rattle.std.specs.Prelude.{slice_index, slice_index_or, slice_set, option_to_list, IfSome}
use Rattle.std.specs.List.{list_any, range_with_len}
use Rattle.std.proofs.lemmas.Bool.{cases_eq, eqb-true, eq-eqb, or_right, cases_Bool}
use Rattle.std.proofs.lemmas.List.{get_or-set_same, get_or-set_other, length-set}
use Rattle.hy_base.proofs.Truths.{or-false}
use Rattle.aig_kind.specs.declared.kind.AigKind.TheVariants.{Truncated, Literal, Redefined}
use Rattle.aiger_body.specs.declared.header.Header.{Header}
use Rattle.aiger_body.specs.declared.section.Section.{Section}
use Rattle.aiger_body.specs.declared.section.Section.TheVariants.{Inputs, Latches, Outputs, Bads, Constraints, Sizes, Justices, Fairs, Gates}
use Rattle.aiger_body.specs.declared.content.Content.{Content}
use Rattle.aiger_body.specs.Texts.{is_ended, is_feed}
use Rattle.aig_order.specs.Firsts.{when, otherwise, holds}
use Rattle.aiger_body.specs.Files.{line, line_start, section, row, is_right, defined, defined_before}
use Rattle.aiger_body.specs.Outcomes.{fault, of_line}
use Rattle.aiger_body.specs.Keeping.{HasWords, keep, keep_all}
use Rattle.aiger_body.specs.Passes.{AreMarks, IsMarkAnswer, IsRow, rows_from}
use Rattle.aiger_body.specs.Answers.{Fits}
use Rattle.aiger_body.proofs.Rows.{defined_small, right_words, first_small}
use Rattle.aig_order.proofs.Sorted.{range-more}

module _ (h : Header) (bytes : List ℕ) (k : ℕ) (ended : is_ended is_feed (line bytes k) ≡ true) where
  abbrev wrong : Bool
  wrong = not (is_right h (section h bytes k) (row h bytes k))

  abbrev again : Bool
  again = list_any (defined_before h bytes k) (defined (section h bytes k) (row h bytes k))

  behind-end : of_line h bytes k ≡ otherwise (when wrong (fault Literal (line_start bytes k))) (when (not h.binary && again) (fault Redefined (line_start bytes k)))
  behind-end = ap (λ b. otherwise (when (not b) (fault Truncated (length bytes))) (otherwise (when wrong (fault Literal (line_start bytes k))) (when (not h.binary && again) (fault Redefined (line_start bytes k))))) ended

  pub literal_fault : is_right h (section h bytes k) (row h bytes k) ≡ false → of_line h bytes k ≡ Some (fault Literal (line_start bytes k))
  literal_fault e = behind-end ∙ ap (λ b. otherwise (when (not b) (fault Literal (line_start bytes k))) (when (not h.binary && again) (fault Redefined (line_start bytes k)))) e

  module _ (right : is_right h (section h bytes k) (row h bytes k) ≡ true) where
    behind-right : of_line h bytes k ≡ when (not h.binary && again) (fault Redefined (line_start bytes k))
    behind-right = behind-end ∙ ap (λ b. otherwise (when (not b) (fault Literal (line_start bytes k))) (when (not h.binary && again) (fault Redefined (line_start bytes k)))) right

    pub redefined_fault : h.binary ≡ false → again ≡ true → of_line h bytes k ≡ Some (fault Redefined (line_start bytes k))
    redefined_fault form e = behind-right ∙ ap (λ b. when (not b && again) (fault Redefined (line_start bytes k))) form ∙ ap (λ b. when b (fault Redefined (line_start bytes k))) e

    pub line_clear : h.binary ≡ false → again ≡ false → of_line h bytes k ≡ None
    line_clear form e = behind-right ∙ ap (λ b. when (not b && again) (fault Redefined (line_start bytes k))) form ∙ ap (λ b. when b (fault Redefined (line_start bytes k))) e

    pub binary_clear : h.binary ≡ true → of_line h bytes k ≡ None
    binary_clear form = behind-right ∙ ap (λ b. when (not b && again) (fault Redefined (line_start bytes k))) form

-- ---- marks

module _ (h : Header) (bytes : List ℕ) (k : ℕ) (old : List Bool) (marks : AreMarks h bytes k old) where
  pub marked_none : (new : List Bool) → new ≡ old → [] ≡ defined (section h bytes k) (row h bytes k) → AreMarks h bytes (suc k) new
  marked_none new same none = record {
    long = ap length same ∙ marks.long;
    each = λ v le. ap (λ (l : List Bool). get_or l v false) same ∙ marks.each v le ∙ sym (or-false (defined_before h bytes k v)) ∙ ap (λ d. defined_before h bytes k v || holds v d) none;
  }

  pub marked_one : (new : List Bool) (v : ℕ) → v ≤ h.top → new ≡ slice_set old v true → v ∷ [] ≡ defined (section h bytes k) (row h bytes k) → AreMarks h bytes (suc k) new
  marked_one new v small is one = record {
    long = ap length is ∙ length-set old v true ∙ marks.long;
    each = λ u le. elim (cases_eq u v) [
      | inl same ↦
          let here : holds u (v ∷ []) ≡ true = ap (λ b. b || false) (eq-eqb u v same) in
          let inside : v < length old = omega (arith, marks.long) in
          ap (λ (l : List Bool). get_or l u false) is ∙ ap (λ w. get_or (set old v true) w false) same ∙ get_or-set_same old v true false inside
          ∙ sym (or_right (defined_before h bytes k u) _ here) ∙ ap (λ d. defined_before h bytes k u || holds u d) one
      | inr apart ↦
          let other : holds u (v ∷ []) ≡ false = ap (λ b. b || false) (unequal u v apart) in
          ap (λ (l : List Bool). get_or l u false) is ∙ get_or-set_other old v u true false apart ∙ marks.each u le
          ∙ sym (or-false (defined_before h bytes k u)) ∙ ap (λ b. defined_before h bytes k u || b) (sym other) ∙ ap (λ d. defined_before h bytes k u || holds u d) one
    ];
  }
    where
      unequal : (a b : ℕ) → (a ≡ b → ⊥) → nat_eq a b ≡ false
      unequal a b apart = step (cases_Bool (nat_eq a b))
        where
          step : (nat_eq a b ≡ true) ⊎ (nat_eq a b ≡ false) → nat_eq a b ≡ false
          step (inl same) = absurd (apart (eqb-true a b same))
          step (inr other) = other

  -- whether the variable that the line defines was defined before
  pub again_is : (v : ℕ) (b : Bool) → v ≤ h.top → slice_index_or old v false ≡ b → v ∷ [] ≡ defined (section h bytes k) (row h bytes k) → list_any (defined_before h bytes k) (defined (section h bytes k) (row h bytes k)) ≡ b
  again_is v b small is one = ap (list_any (defined_before h bytes k)) (sym one) ∙ or-false (defined_before h bytes k v) ∙ sym (marks.each v small) ∙ is

  -- a line of the ASCII form that is right
  pub mark_clear : (o : Option ℕ) (new : List Bool) → is_ended is_feed (line bytes k) ≡ true → is_right h (section h bytes k) (row h bytes k) ≡ true → h.binary ≡ false → IfSome o (λ v. v < h.top + 1) → option_to_list o ≡ defined (section h bytes k) (row h bytes k) → IsMarkAnswer o old new true → (of_line h bytes k ≡ None) × AreMarks h bytes (suc k) new
  mark_clear None new ended right form small is (same, fresh) =
      (line_clear h bytes k ended right form (ap (list_any (defined_before h bytes k)) (sym is)), marked_none new same is)
  mark_clear (Some v) new ended right form small is (set_one, was) =
      (line_clear h bytes k ended right form (again_is v false (omega arith) was is), marked_one new v (omega arith) set_one is)

  -- and one that defines a variable again
  pub mark_fault : (o : Option ℕ) (new : List Bool) → is_ended is_feed (line bytes k) ≡ true → is_right h (section h bytes k) (row h bytes k) ≡ true → h.binary ≡ false → IfSome o (λ v. v < h.top + 1) → option_to_list o ≡ defined (section h bytes k) (row h bytes k) → IsMarkAnswer o old new false → of_line h bytes k ≡ Some (fault Redefined (line_start bytes k))
  mark_fault None new ended right form small is (same, fresh) = absurd (cc)
  mark_fault (Some v) new ended right form small is (same, was) = redefined_fault h bytes k ended right form (again_is v true (omega arith) was is)

-- ---- one line

-- a line of the section that is right, the row that was read and the variable that it defines
pub record IsRead (h : Header) (bytes : List ℕ) (s : Section) (k next : ℕ) (said : List ℕ) (o : Option ℕ) : Type 0 where
  pub fits : Fits h
  pub is : IsRow h bytes k next said
  pub of : section h bytes k ≡ s
  pub variable : option_to_list o ≡ defined s said

module _ {h : Header} {bytes : List ℕ} {s : Section} {k next : ℕ} {said : List ℕ} {o : Option ℕ} (r : IsRead h bytes s k next said o) where
  pub said_right : is_right h s said ≡ true
  said_right = ap (is_right h s) r.is.same ∙ ap (λ t. is_right h t (row h bytes k)) (sym r.of) ∙ r.is.right

  pub said_defined : option_to_list o ≡ defined (section h bytes k) (row h bytes k)
  said_defined = r.variable ∙ ap (defined s) r.is.same ∙ ap (λ t. defined t (row h bytes k)) (sym r.of)

  pub variable_small : IfSome o (λ v. v < h.top + 1)
  variable_small = defined_small h r.fits s said o said_right r.variable

  pub said_small : k ≤ 67108864 → slice_index said 0 < 10 ^ 10
  said_small few = let P : List ℕ → Type 0 = λ t. slice_index t 0 < 10 ^ 10 in subst P (sym r.is.same) (first_small h bytes k r.fits few)

  pub said_words : k ≤ 67108864 → HasWords s said
  said_words few = right_words h r.fits s said said_right (said_small few)

  pub variable_fits : (marks : List Bool) → (h.binary ≡ false → AreMarks h bytes k marks) → h.binary ≡ false → IfSome o (λ v. v < length marks)
  variable_fits marks are form = let P : ℕ → Type 0 = λ n. IfSome o (λ v. v < n) in subst P (sym (are form).long) variable_small

  pub again_fault : (old new : List Bool) → (h.binary ≡ false → AreMarks h bytes k old) → (h.binary ≡ true → false ≡ true) → (h.binary ≡ false → IsMarkAnswer o old new false) → of_line h bytes k ≡ Some (fault Redefined (line_start bytes k))
  again_fault old new are never answer =
      elim (cases_Bool h.binary) [
        | inl form ↦ let no_form = never form in absurd (cc)
        | inr form ↦ mark_fault h bytes k old (are form) o new r.is.ended r.is.right form variable_small said_defined (answer form)
      ]

  pub read_clear : (old new : List Bool) → (h.binary ≡ false → AreMarks h bytes k old) → (h.binary ≡ false → IsMarkAnswer o old new true) → of_line h bytes k ≡ None
  read_clear old new are answer =
      elim (cases_Bool h.binary) [
        | inl form ↦ binary_clear h bytes k r.is.ended r.is.right form
        | inr form ↦ (mark_clear h bytes k old (are form) o new r.is.ended r.is.right form variable_small said_defined (answer form)).0
      ]

  pub read_marks : (old new : List Bool) → (h.binary ≡ false → AreMarks h bytes k old) → (h.binary ≡ false → IsMarkAnswer o old new true) → h.binary ≡ false → AreMarks h bytes (suc k) new
  read_marks old new are answer form = (mark_clear h bytes k old (are form) o new r.is.ended r.is.right form variable_small said_defined (answer form)).1

-- ---- what is kept

pub keep_more : (s : Section) (rs : List (List ℕ)) (r : List ℕ) (c : Content) → keep_all s (rs ++ r ∷ []) c ≡ keep s r (keep_all s rs c)
keep_more s [] r c = refl
keep_more s (q ∷ rs) r c = keep_more s rs r (keep s q c)

pub rows_more : (h : Header) (bytes : List ℕ) (k n : ℕ) → rows_from h bytes k (n + 1) ≡ rows_from h bytes k n ++ row h bytes (k + n) ∷ []
rows_more h bytes k n =
    let q : n + 1 ≡ suc n = omega arith in
    ap (λ m. map (row h bytes) (range_with_len k m)) q ∙ ap (map (row h bytes)) (sym (range-more k n (k + n) refl)) ∙ map-append (range_with_len k n) (k + n)
  where
    map-append : (xs : List ℕ) (x : ℕ) → map (row h bytes) (xs ++ x ∷ []) ≡ map (row h bytes) xs ++ row h bytes x ∷ []
    map-append [] x = refl
    map-append (y ∷ ys) x = ap (λ l. row h bytes y ∷ l) (map-append ys x)

pub keep_small : (s : Section) (r : List ℕ) (c : Content) (k : ℕ) → c.justice ≤ 10000000000 * k → slice_index r 0 < 10 ^ 10 → (keep s r c).justice ≤ 10000000000 * suc k
keep_small Inputs r c k le lt = omega arith
keep_small Latches r c k le lt = omega arith
keep_small Outputs r c k le lt = omega arith
keep_small Bads r c k le lt = omega arith
keep_small Constraints r c k le lt = omega arith
keep_small Sizes r c k le lt = omega arith
keep_small Justices r c k le lt = omega arith
keep_small Fairs r c k le lt = omega arith
keep_small Gates r c k le lt = omega arith
