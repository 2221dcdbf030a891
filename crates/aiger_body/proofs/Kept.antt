-- What is kept of the counted lines is what they say.
use Rattle.std.proofs.Common.{◌≡◌, ℕ, zero, suc, ◌+◌, ◌<◌, ◌≤◌, inl, inr, refl, sym, ◌∙◌, ap, subst, arith, List, [], ◌∷◌, ◌++◌, map, length, get_or, take, drop, append_assoc, append-nil}
use Rattle.std.specs.Prelude.{slice_index, slice_index_or, sum}
use Rattle.std.specs.List.{range_with_len}
use Rattle.std.proofs.lemmas.Bool.{cases_lt}
use Rattle.std.proofs.lemmas.List.{drop_all, get_or_past}
use Rattle.std.proofs.Math.Seq.{drop-cons}
use Rattle.std.proofs.lemmas.List.Sums.{sum_by-cons}
use Rattle.aiger_body.specs.declared.header.Header.{Header}
use Rattle.aiger_body.specs.declared.section.Section.{Section}
use Rattle.aiger_body.specs.declared.section.Section.TheVariants.{Inputs, Latches, Outputs, Bads, Constraints, Sizes, Justices, Fairs, Gates}
use Rattle.aiger_body.specs.declared.content.Content.{Content}
use Rattle.aiger_body.specs.declared.content.Latch.{Latch}
use Rattle.aig_order.specs.declared.gate.Gate.{Gate}
use Rattle.aiger_body.specs.Files.{all_sections, number_in, counts, plan, before, section, section_rows, row, rows, with_own, first_number, latch_of, gate_of, literals, counted}
use Rattle.aiger_body.specs.Keeping.{empty, keep, keep_all}
use Rattle.aiger_body.specs.Passes.{line_content, rows_from}
use Rattle.aiger_body.proofs.Sections.{in-section, number-of, part-of}

-- ---- all lines of one section

keep-inputs : (rs : List (List ℕ)) (c : Content) → keep_all Inputs rs c ≡ record c { inputs = c.inputs ++ map first_number rs }
keep-inputs [] c = ap (λ (l : List ℕ). record c { inputs = l }) (sym (append-nil c.inputs))
keep-inputs (r ∷ rs) c = keep-inputs rs (keep Inputs r c) ∙ ap (λ (l : List ℕ). record c { inputs = l }) (append_assoc c.inputs (first_number r ∷ []) (map first_number rs))

keep-latches : (rs : List (List ℕ)) (c : Content) → keep_all Latches rs c ≡ record c { latches = c.latches ++ map latch_of rs }
keep-latches [] c = ap (λ (l : List Latch). record c { latches = l }) (sym (append-nil c.latches))
keep-latches (r ∷ rs) c = keep-latches rs (keep Latches r c) ∙ ap (λ (l : List Latch). record c { latches = l }) (append_assoc c.latches (latch_of r ∷ []) (map latch_of rs))

keep-outputs : (rs : List (List ℕ)) (c : Content) → keep_all Outputs rs c ≡ record c { outputs = c.outputs ++ map first_number rs }
keep-outputs [] c = ap (λ (l : List ℕ). record c { outputs = l }) (sym (append-nil c.outputs))
keep-outputs (r ∷ rs) c = keep-outputs rs (keep Outputs r c) ∙ ap (λ (l : List ℕ). record c { outputs = l }) (append_assoc c.outputs (first_number r ∷ []) (map first_number rs))

keep-bads : (rs : List (List ℕ)) (c : Content) → keep_all Bads rs c ≡ c
keep-bads [] c = refl
keep-bads (r ∷ rs) c = keep-bads rs c

keep-constraints : (rs : List (List ℕ)) (c : Content) → keep_all Constraints rs c ≡ record c { constraints = c.constraints ++ map first_number rs }
keep-constraints [] c = ap (λ (l : List ℕ). record c { constraints = l }) (sym (append-nil c.constraints))
keep-constraints (r ∷ rs) c = keep-constraints rs (keep Constraints r c) ∙ ap (λ (l : List ℕ). record c { constraints = l }) (append_assoc c.constraints (first_number r ∷ []) (map first_number rs))

keep-sizes : (rs : List (List ℕ)) (c : Content) → keep_all Sizes rs c ≡ record c { justice = c.justice + sum (map first_number rs) }
keep-sizes [] c = let q : c.justice ≡ c.justice + sum [] = omega arith in ap (λ (n : ℕ). record c { justice = n }) q
keep-sizes (r ∷ rs) c =
    let q : c.justice + first_number r + sum (map first_number rs) ≡ c.justice + sum (first_number r ∷ map first_number rs) = omega (arith, sum_by-cons (λ x. x) (first_number r) (map first_number rs)) in
    keep-sizes rs (keep Sizes r c) ∙ ap (λ (n : ℕ). record c { justice = n }) q

keep-justices : (rs : List (List ℕ)) (c : Content) → keep_all Justices rs c ≡ c
keep-justices [] c = refl
keep-justices (r ∷ rs) c = keep-justices rs c

keep-fairs : (rs : List (List ℕ)) (c : Content) → keep_all Fairs rs c ≡ record c { fairs = c.fairs ++ map first_number rs }
keep-fairs [] c = ap (λ (l : List ℕ). record c { fairs = l }) (sym (append-nil c.fairs))
keep-fairs (r ∷ rs) c = keep-fairs rs (keep Fairs r c) ∙ ap (λ (l : List ℕ). record c { fairs = l }) (append_assoc c.fairs (first_number r ∷ []) (map first_number rs))

keep-gates : (rs : List (List ℕ)) (c : Content) → keep_all Gates rs c ≡ record c { gates = c.gates ++ map gate_of rs }
keep-gates [] c = ap (λ (l : List Gate). record c { gates = l }) (sym (append-nil c.gates))
keep-gates (r ∷ rs) c = keep-gates rs (keep Gates r c) ∙ ap (λ (l : List Gate). record c { gates = l }) (append_assoc c.gates (gate_of r ∷ []) (map gate_of rs))

-- ---- the first i sections

abbrev pub section_at : ℕ → Section
section_at i = slice_index_or all_sections i Gates

abbrev pub kept_to : Header → List ℕ → ℕ → Content
kept_to h bytes zero = empty
kept_to h bytes (suc i) = keep_all (section_at i) (section_rows h bytes (section_at i)) (kept_to h bytes i)

-- ---- the sum of first numbers, also where there are not so many rows

past-end : (xs : List (List ℕ)) (b n : ℕ) → length xs ≤ b → sum (map (λ k. first_number (get_or xs k [])) (range_with_len b n)) ≡ 0
past-end xs b zero le = refl
past-end xs b (suc n) le =
    let none : get_or xs b [] ≡ [] = get_or_past xs b [] le in
    omega (arith, sum_by-cons (λ x. x) (first_number (get_or xs b [])) (map (λ k. first_number (get_or xs k [])) (range_with_len (b + 1) n)), ap first_number none, past-end xs (b + 1) n (omega arith))

sizes-from : (xs : List (List ℕ)) (b n : ℕ) → sum (map (λ k. first_number (get_or xs k [])) (range_with_len b n)) ≡ sum (map first_number (take n (drop b xs)))
sizes-from xs b zero = refl
sizes-from xs b (suc n) =
    elim (cases_lt b (length xs)) [
      | inl lt ↦
          let q : suc b ≡ b + 1 = omega arith in
          let cut : drop b xs ≡ get_or xs b [] ∷ drop (suc b) xs = rw (drop-cons xs b []) refl in
          let front : take (suc n) (drop b xs) ≡ get_or xs b [] ∷ take n (drop (b + 1) xs) = ap (take (suc n)) cut ∙ ap (λ m. get_or xs b [] ∷ take n (drop m xs)) q in
          omega (arith, sum_by-cons (λ x. x) (first_number (get_or xs b [])) (map (λ k. first_number (get_or xs k [])) (range_with_len (b + 1) n)), sizes-from xs (b + 1) n, ap (λ l. sum (map first_number l)) front, sum_by-cons (λ x. x) (first_number (get_or xs b [])) (map first_number (take n (drop (b + 1) xs))))
      | inr le ↦
          let none : drop b xs ≡ [] = drop_all b xs le in
          past-end xs b (suc n) le ∙ ap (λ l. sum (map first_number (take (suc n) l))) (sym none)
    ]

module _ (h : Header) (bytes : List ℕ) where
  abbrev kept : ℕ → Content
  kept i = kept_to h bytes i

  abbrev rs : Section → List (List ℕ)
  rs s = section_rows h bytes s

  abbrev Six : List ℕ → List Latch → List ℕ → List ℕ → ℕ → List ℕ → List Gate → Content
  Six i l o d j f g = record { inputs = i; latches = l; outputs = o; constraints = d; justice = j; fairs = f; gates = g }

  abbrev Is : List ℕ
  Is = map first_number (rs Inputs)

  abbrev Ls : List Latch
  Ls = map latch_of (rs Latches)

  abbrev Os : List ℕ
  Os = map first_number (rs Outputs)

  abbrev Ds : List ℕ
  Ds = map first_number (rs Constraints)

  abbrev Fs : List ℕ
  Fs = map first_number (rs Fairs)

  kept-1 : kept 1 ≡ Six Is [] [] [] 0 [] []
  kept-1 = keep-inputs (rs Inputs) empty

  kept-2 : kept 2 ≡ Six Is Ls [] [] 0 [] []
  kept-2 = ap (keep_all Latches (rs Latches)) kept-1 ∙ keep-latches (rs Latches) _

  kept-3 : kept 3 ≡ Six Is Ls Os [] 0 [] []
  kept-3 = ap (keep_all Outputs (rs Outputs)) kept-2 ∙ keep-outputs (rs Outputs) _

  kept-4 : kept 4 ≡ Six Is Ls Os [] 0 [] []
  kept-4 = ap (keep_all Bads (rs Bads)) kept-3 ∙ keep-bads (rs Bads) _

  kept-5 : kept 5 ≡ Six Is Ls Os Ds 0 [] []
  kept-5 = ap (keep_all Constraints (rs Constraints)) kept-4 ∙ keep-constraints (rs Constraints) _

  sizes-are : sum (map first_number (rs Sizes)) ≡ literals h bytes
  sizes-are =
      ap sum (raw-firsts (before (plan h bytes) Sizes) (slice_index (plan h bytes) (number_in Sizes)) (λ j lt. ap (λ s. first_number (with_own h (before (plan h bytes) Sizes + j) s (slice_index_or (rows bytes) (before (plan h bytes) Sizes + j) []))) (in-section (plan h bytes) Sizes j refl lt).0))
      ∙ sizes-from (rows bytes) (before (plan h bytes) Sizes) (slice_index (plan h bytes) (number_in Sizes))
    where
      raw-firsts : (b n : ℕ) → ((j : ℕ) → j < n → first_number (row h bytes (b + j)) ≡ first_number (get_or (rows bytes) (b + j) [])) → map first_number (map (row h bytes) (range_with_len b n)) ≡ map (λ k. first_number (get_or (rows bytes) k [])) (range_with_len b n)
      raw-firsts b zero each = refl
      raw-firsts b (suc n) each =
          let q : b + 0 ≡ b = omega arith in
          let here : first_number (row h bytes b) ≡ first_number (get_or (rows bytes) b []) = ap (λ k. first_number (row h bytes k)) (sym q) ∙ each 0 (omega arith) ∙ ap (λ k. first_number (get_or (rows bytes) k [])) q in
          ap (λ x. x ∷ map first_number (map (row h bytes) (range_with_len (b + 1) n))) here
          ∙ ap (λ l. first_number (get_or (rows bytes) b []) ∷ l) (raw-firsts (b + 1) n (λ j lt. let r : b + suc j ≡ b + 1 + j = omega arith in ap (λ k. first_number (row h bytes k)) (sym r) ∙ each (suc j) (omega arith) ∙ ap (λ k. first_number (get_or (rows bytes) k [])) r))

  kept-6 : kept 6 ≡ Six Is Ls Os Ds (literals h bytes) [] []
  kept-6 =
      let q : 0 + sum (map first_number (rs Sizes)) ≡ literals h bytes = omega (arith, sizes-are) in
      ap (keep_all Sizes (rs Sizes)) kept-5 ∙ keep-sizes (rs Sizes) _ ∙ ap (λ n. Six Is Ls Os Ds n [] []) q

  kept-7 : kept 7 ≡ Six Is Ls Os Ds (literals h bytes) [] []
  kept-7 = ap (keep_all Justices (rs Justices)) kept-6 ∙ keep-justices (rs Justices) _

  kept-8 : kept 8 ≡ Six Is Ls Os Ds (literals h bytes) Fs []
  kept-8 = ap (keep_all Fairs (rs Fairs)) kept-7 ∙ keep-fairs (rs Fairs) _

  pub kept_all : kept 9 ≡ line_content h bytes
  kept_all = ap (keep_all Gates (rs Gates)) kept-8 ∙ keep-gates (rs Gates) _

  -- the counts, by what is kept so far
  pub count_at : (i : ℕ) → i < 9 → slice_index (counts h (kept_to h bytes i).justice) (number_in (section_at i)) ≡ slice_index (plan h bytes) (number_in (section_at i))
  count_at zero lt = refl
  count_at (suc zero) lt = refl
  count_at (suc (suc zero)) lt = refl
  count_at (suc (suc (suc zero))) lt = refl
  count_at (suc (suc (suc (suc zero)))) lt = refl
  count_at (suc (suc (suc (suc (suc zero))))) lt = refl
  count_at (suc (suc (suc (suc (suc (suc zero)))))) lt = ap (λ (c : Content). c.justice) kept-6
  count_at (suc (suc (suc (suc (suc (suc (suc zero))))))) lt = refl
  count_at (suc (suc (suc (suc (suc (suc (suc (suc zero)))))))) lt = refl
  count_at (suc (suc (suc (suc (suc (suc (suc (suc (suc i))))))))) lt = absurd (omega arith)

  -- ---- one section behind the first i

  pub planned_lines : (i count : ℕ) → i < 9 → count ≡ slice_index (plan h bytes) (number_in (section_at i)) → (j : ℕ) → j < count → section h bytes (sum (take i (plan h bytes)) + j) ≡ section_at i
  planned_lines i count lt is j less =
      let inside : j < slice_index (plan h bytes) (number_in (section_at i)) = omega (arith, less, is) in
      let P : ℕ → Type 0 = λ n. section h bytes (sum (take n (plan h bytes)) + j) ≡ section_at i in
      subst P (number-of i lt) (in-section (plan h bytes) (section_at i) j refl inside).0

  pub planned_count : (i count : ℕ) → i < 9 → count ≡ slice_index (plan h bytes) (number_in (section_at i)) → count ≡ slice_index (plan h bytes) i
  planned_count i count lt is = is ∙ ap (slice_index (plan h bytes)) (number-of i lt)

  pub section_lines : (i count : ℕ) → i < 9 → count ≡ slice_index (counts h (kept_to h bytes i).justice) (number_in (section_at i)) → (j : ℕ) → j < count → section h bytes (sum (take i (plan h bytes)) + j) ≡ section_at i
  section_lines i count lt is = planned_lines i count lt (is ∙ count_at i lt)

  -- the number of its lines
  pub section_count : (i count : ℕ) → i < 9 → count ≡ slice_index (counts h (kept_to h bytes i).justice) (number_in (section_at i)) → count ≡ slice_index (plan h bytes) i
  section_count i count lt is = planned_count i count lt (is ∙ count_at i lt)

  pub section_rows_are : (i count : ℕ) → i < 9 → count ≡ slice_index (plan h bytes) i → rows_from h bytes (sum (take i (plan h bytes))) count ≡ section_rows h bytes (section_at i)
  section_rows_are i count lt is =
      ap (λ n. rows_from h bytes (sum (take i (plan h bytes))) n) is
      ∙ ap (λ n. map (row h bytes) (range_with_len (sum (take n (plan h bytes))) (slice_index (plan h bytes) n))) (sym (number-of i lt))

  pub sum_next : (i : ℕ) → i < 9 → sum (take (i + 1) (plan h bytes)) ≡ sum (take i (plan h bytes)) + slice_index (plan h bytes) i
  sum_next i lt = sum-step (plan h bytes) i
    where
      sum-none : (i : ℕ) → sum (take i []) ≡ 0
      sum-none zero = refl
      sum-none (suc i) = refl

      sum-step : (cs : List ℕ) (i : ℕ) → sum (take (i + 1) cs) ≡ sum (take i cs) + slice_index cs i
      sum-step [] zero = refl
      sum-step [] (suc i) = sum-none (suc i + 1)
      sum-step (n ∷ cs) zero = omega (arith, sum_by-cons (λ x. x) n [])
      sum-step (n ∷ cs) (suc i) =
          let q : suc i + 1 ≡ suc (i + 1) = omega arith in
          omega (arith, ap (λ m. sum (take m (n ∷ cs))) q, sum-step cs i, sum_by-cons (λ x. x) n (take (i + 1) cs), sum_by-cons (λ x. x) n (take i cs))

  pub sum_below : (i : ℕ) → i < 9 → sum (take i (plan h bytes)) + slice_index (plan h bytes) i ≤ counted h bytes
  sum_below i lt = part-of (plan h bytes) i lt
