-- A printed text is that of its net.
use Rattle.std.proofs.Common.{◌≡◌, ℕ, ◌+◌, ◌≤◌, Bool, true, false, not, ◌∙◌, ap, arith, Option, None, List, length, ◌⊎◌, inl, inr}
use Rattle.std.specs.Prelude.{nat_lt}
use Rattle.std.proofs.lemmas.Bool.{ltb-true, cases_Bool}
use Rattle.aig_net.specs.declared.parts.NetParts.{NetParts}
use Rattle.aig_net.specs.Nets.{IsNet}
use Rattle.aig_order.specs.Firsts.{when, otherwise, first_some}
use Rattle.aig_kind.specs.declared.kind.AigKind.TheVariants.{Header as HeaderFault}
use Rattle.aiger_body.specs.declared.header.Header.{Header}
use Rattle.aiger_body.specs.declared.content.Content.{Content}
use Rattle.aiger_body.specs.Circuits.{net_of}
use Rattle.aiger_body.specs.Files.{content, counted}
use Rattle.aiger_body.specs.Symbols.{symbol_lines}
use Rattle.aiger_body.specs.Outcomes.{Refusal, outcome, read, judged, circuit, refusal, of_header, after_header, after_lines, after_numbers, after_uses, of_line, of_number, of_uses, of_cycle, of_symbol, numbers, names, limit, fault}
use Rattle.aiger_print.specs.Printed.{aag_text, aig_text}
use Rattle.aiger_print.proofs.Forms.{own_header, text_of, aag_is, aig_is}
use Rattle.aiger_print.proofs.OwnContent.{net_back}
use Rattle.aiger_print.proofs.TextRows.{outcome_is, lines_clear}
use Rattle.aiger_print.proofs.TextContent.{content_is, numbers_clear, uses_clear, cycles_clear, large_header}
use Rattle.aiger_print.proofs.TextNames.{symbols_clear, input_names_are, latch_names_are, output_names_are}

module _ (b : Bool) (net : NetParts) (is : IsNet net) (few : net.inputs + length net.latches + length net.ands ≤ 1048576) (bytes : List ℕ) (e : bytes ≡ text_of b net) (small : length bytes ≤ 67108864) where
  abbrev h : Header
  h = own_header b net

  within : nat_lt 1048576 h.top ≡ false
  within = step (cases_Bool (nat_lt 1048576 h.top))
    where
      step : (nat_lt 1048576 h.top ≡ true) ⊎ (nat_lt 1048576 h.top ≡ false) → nat_lt 1048576 h.top ≡ false
      step (inr other) = other
      step (inl past) = absurd (omega (arith, ltb-true _ _ past, few))

  header-clear : of_header h ≡ None
  header-clear = ap (λ x. otherwise (when (not x) (fault HeaderFault 0)) (when (nat_lt 1048576 h.top) limit)) (large_header b net) ∙ ap (λ x. when x limit) within

  both : (x y : Option Refusal) → x ≡ None → y ≡ None → otherwise x y ≡ None
  both x y one two = ap (λ o. otherwise o y) one ∙ two

  clear : refusal h bytes ≡ None
  clear =
      both (of_header h) (after_header h bytes) header-clear
      (both (first_some (counted h bytes) (of_line h bytes)) (after_lines h bytes) (lines_clear b net is few bytes e small)
      (both (first_some (numbers h) (of_number h bytes)) (after_numbers h bytes) (numbers_clear b net is few bytes e small)
      (both (first_some (counted h bytes) (of_uses h bytes)) (after_uses h bytes) (uses_clear b net is few bytes e small)
      (both (first_some (length (content h bytes).gates) (of_cycle h bytes)) (first_some (symbol_lines h bytes) (of_symbol h bytes)) (cycles_clear b net is few bytes e small) (symbols_clear b net is few bytes e small)))))

  circuit-is : circuit h bytes ≡ net
  circuit-is =
      ap (λ (c : Content). net_of c (names h bytes)) (content_is b net is few bytes e small)
      ∙ net_back net is (names h bytes) (input_names_are b net is few bytes e small) (latch_names_are b net is few bytes e small) (output_names_are b net is few bytes e small)

  read-back : outcome bytes ≡ read net
  read-back = outcome_is b net is few bytes e small ∙ ap (judged (circuit h bytes)) clear ∙ ap read circuit-is

pub aag_back : (net : NetParts) → IsNet net → net.inputs + length net.latches + length net.ands ≤ 1048576 → length (aag_text net) ≤ 67108864 → outcome (aag_text net) ≡ read net
aag_back net is few small = read-back false net is few (aag_text net) (aag_is net) small

pub aig_back : (net : NetParts) → IsNet net → net.inputs + length net.latches + length net.ands ≤ 1048576 → length (aig_text net) ≤ 67108864 → outcome (aig_text net) ≡ read net
aig_back net is few small = read-back true net is few (aig_text net) (aig_is net) small
