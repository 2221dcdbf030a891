-- A printed text by its header, its rows, and what stands behind them, for both forms.
use Rattle.std.proofs.Common.{◌≡◌, ℕ, ◌+◌, Bool, true, false, cond, List, [], ◌∷◌, ◌++◌, map, flat_map, length, refl, sym, ◌∙◌, ap, append_assoc, append-nil}
use Rattle.std.specs.Prelude.{slice_index_or, codes}
use Rattle.std.specs.List.{range_with_len}
use Rattle.std.proofs.lemmas.Grind.{flat_map-append}
use Rattle.std.proofs.lemmas.List.Folds.{flat_map-map}
use Rattle.aig_net.specs.declared.parts.NetParts.{NetParts}
use Rattle.aig_net.specs.Nets.{literal_at}
use Rattle.aiger_body.specs.declared.header.Header.{Header}
use Rattle.aiger_body.specs.declared.section.Section.{Section}
use Rattle.aiger_body.specs.declared.section.Section.TheVariants.{Inputs, Latches, Outputs, Bads, Constraints, Sizes, Justices, Fairs, Gates}
use Rattle.aiger_body.specs.Files.{all_sections, counts}
use Rattle.aiger_body.specs.Spelled.{line_of}
use Rattle.aiger_print.specs.Printed.{header_row, input_row, latch_row, and_row, lines_of, literal_lines, names_text, deltas_of, aag_text, aig_text}
use Rattle.aiger_print.proofs.Stacks.{stacked, by_place, joined}

abbrev pub own_header : Bool → NetParts → Header
own_header b net = record {
  binary = b;
  top = net.inputs + length net.latches + length net.ands;
  inputs = net.inputs;
  latches = length net.latches;
  outputs = length net.outputs;
  ands = length net.ands;
  bads = 0;
  constraints = length net.constraints;
  justices = 0;
  fairs = length net.fairs;
}

-- row j of a section
abbrev pub printed : Bool → NetParts → Section → ℕ → List ℕ
printed b net Inputs j = input_row j
printed b net Latches j = latch_row b net j
printed b net Outputs j = literal_at net.outputs j ∷ []
printed b net Bads j = []
printed b net Constraints j = literal_at net.constraints j ∷ []
printed b net Sizes j = []
printed b net Justices j = []
printed b net Fairs j = literal_at net.fairs j ∷ []
printed b net Gates j = and_row net j

abbrev pub row_in : Bool → NetParts → ℕ → ℕ → List ℕ
row_in b net i j = printed b net (slice_index_or all_sections i Gates) j

abbrev pub plan_of : Bool → NetParts → List ℕ
plan_of b net = counts (own_header b net) 0

abbrev pub rows_of : Bool → NetParts → List (List ℕ)
rows_of b net = stacked (row_in b net) 0 (plan_of b net)

abbrev pub word_of : Bool → List ℕ
word_of b = cond b (codes "aig ") (codes "aag ")

abbrev pub deltas : Bool → NetParts → List ℕ
deltas b net = cond b (flat_map (deltas_of net) (range_with_len 0 (length net.ands))) []

abbrev pub rest_of : Bool → NetParts → List ℕ
rest_of b net = deltas b net ++ names_text net

abbrev pub text_of : Bool → NetParts → List ℕ
text_of b net = (word_of b ++ line_of (header_row net)) ++ (flat_map line_of (rows_of b net) ++ rest_of b net)

-- ---- the text that is printed is this one

section-text : (row : ℕ → List ℕ) (n : ℕ) (more : List (List ℕ)) → flat_map line_of (map row (range_with_len 0 n) ++ more) ≡ lines_of row n ++ flat_map line_of more
section-text row n more = flat_map-append line_of (map row (range_with_len 0 n)) more ∙ ap (λ l. l ++ flat_map line_of more) (flat_map-map line_of row (range_with_len 0 n))

literal-text : (literals : List ℕ) (more : List (List ℕ)) → flat_map line_of (map (λ j. literal_at literals j ∷ []) (range_with_len 0 (length literals)) ++ more) ≡ literal_lines literals ++ flat_map line_of more
literal-text literals more =
    section-text (λ j. literal_at literals j ∷ []) (length literals) more
    ∙ ap (λ l. l ++ flat_map line_of more)
    (sym (flat_map-map line_of (λ l. l ∷ []) (map (literal_at literals) (range_with_len 0 (length literals))) ∙ again)
    ∙ ap (λ xs. flat_map line_of (map (λ l. l ∷ []) xs)) (by_place literals) ∙ flat_map-map line_of (λ l. l ∷ []) literals)
  where
    again : flat_map (λ l. line_of (l ∷ [])) (map (literal_at literals) (range_with_len 0 (length literals))) ≡ lines_of (λ j. literal_at literals j ∷ []) (length literals)
    again = flat_mapped-of (range_with_len 0 (length literals))
      where
        flat_mapped-of : (xs : List ℕ) → flat_map (λ l. line_of (l ∷ [])) (map (literal_at literals) xs) ≡ flat_map (λ j. line_of (literal_at literals j ∷ [])) xs
        flat_mapped-of [] = refl
        flat_mapped-of (x ∷ xs) =
            flat_map-append (λ l. line_of (l ∷ [])) (literal_at literals x ∷ []) (map (literal_at literals) xs) ∙ ap (λ l. flat_map (λ m. line_of (m ∷ [])) (literal_at literals x ∷ []) ++ l) (flat_mapped-of xs) ∙ sym (flat_map-append (λ j. line_of (literal_at literals j ∷ [])) (x ∷ []) xs)

-- the lines of latches, outputs, constraints and fairness literals, and of what comes behind them
lines-from : (b : Bool) (net : NetParts) (more : List (List ℕ)) → flat_map line_of (map (latch_row b net) (range_with_len 0 (length net.latches)) ++ (map (λ j. literal_at net.outputs j ∷ []) (range_with_len 0 (length net.outputs)) ++ (map (λ j. literal_at net.constraints j ∷ []) (range_with_len 0 (length net.constraints)) ++ (map (λ j. literal_at net.fairs j ∷ []) (range_with_len 0 (length net.fairs)) ++ more))))
    ≡ lines_of (latch_row b net) (length net.latches) ++ (literal_lines net.outputs ++ (literal_lines net.constraints ++ (literal_lines net.fairs ++ flat_map line_of more)))
lines-from b net more =
    section-text (latch_row b net) (length net.latches) _
    ∙ ap (λ l. lines_of (latch_row b net) (length net.latches) ++ l)
    (literal-text net.outputs _ ∙ ap (λ l. literal_lines net.outputs ++ l) (literal-text net.constraints _ ∙ ap (λ l. literal_lines net.constraints ++ l) (literal-text net.fairs more)))

pub aag_is : (net : NetParts) → aag_text net ≡ text_of false net
aag_is net =
    joined (codes "aag " ++ line_of (header_row net)) (lines_of input_row net.inputs) (lines_of (latch_row false net) (length net.latches)) (literal_lines net.outputs) (literal_lines net.constraints) (literal_lines net.fairs) (lines_of (and_row net) (length net.ands)) (names_text net)
    ∙ ap (λ l. (codes "aag " ++ line_of (header_row net)) ++ (l ++ names_text net))
    (sym (section-text input_row net.inputs _ ∙ ap (λ l. lines_of input_row net.inputs ++ l) (lines-from false net (map (and_row net) (range_with_len 0 (length net.ands)) ++ [])
    ∙ ap (λ l. lines_of (latch_row false net) (length net.latches) ++ (literal_lines net.outputs ++ (literal_lines net.constraints ++ (literal_lines net.fairs ++ l)))) (section-text (and_row net) (length net.ands) []))))

binary-joined : (h l o c f a n : List ℕ) → ((((h ++ l) ++ ((o ++ c) ++ f)) ++ a) ++ n) ≡ h ++ ((l ++ (o ++ (c ++ (f ++ [])))) ++ (a ++ n))
binary-joined h l o c f a n = simp (append_assoc, append-nil) refl

pub aig_is : (net : NetParts) → aig_text net ≡ text_of true net
aig_is net =
    binary-joined (codes "aig " ++ line_of (header_row net)) (lines_of (latch_row true net) (length net.latches)) (literal_lines net.outputs) (literal_lines net.constraints) (literal_lines net.fairs) (flat_map (deltas_of net) (range_with_len 0 (length net.ands))) (names_text net)
    ∙ ap (λ l. (codes "aig " ++ line_of (header_row net)) ++ (l ++ (flat_map (deltas_of net) (range_with_len 0 (length net.ands)) ++ names_text net))) (sym (lines-from true net []))
