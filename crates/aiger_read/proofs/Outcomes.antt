-- A text of a net has no fault, and its net is one.
use Rattle.std.proofs.Common.{◌≡◌, ℕ, Bool, true, false, cond, refl, sym, subst, Option, Some, None, List, length}
use Rattle.aig_net.specs.declared.parts.NetParts.{NetParts}
use Rattle.aig_net.specs.Nets.{AreNames, IsNet}
use Rattle.aig_order.specs.Firsts.{first_some}
use Rattle.aig_order.proofs.Firsts.{none-both}
use Rattle.aig_kind.specs.declared.kind.AigKind.TheVariants.{Truncated}
use Rattle.aiger_body.specs.declared.header.Header.{Header}
use Rattle.aiger_body.specs.Texts.{is_ended, is_feed, line_text}
use Rattle.aiger_body.specs.Files.{header_of, counted, content}
use Rattle.aiger_body.specs.Symbols.{symbol_lines}
use Rattle.aiger_body.specs.Outcomes.{Refusal, refusal, of_header, after_header, after_lines, after_numbers, after_uses, of_line, of_number, of_uses, of_cycle, of_symbol, numbers, circuit, judged, with_header, first_line, outcome, read, refused, fault, names, names_of}
use Rattle.aiger_read.proofs.Clear.{is_circuit, inputs_many, latches_many, outputs_many}
use Rattle.aiger_read.proofs.Named.{names_good}
use Rattle.aiger_read.proofs.Renumbering.{net_right}

-- a text without a fault
pub record IsClear (h : Header) (bytes : List ℕ) : Type 0 where
  pub lines : first_some (counted h bytes) (of_line h bytes) ≡ None
  pub uses : first_some (counted h bytes) (of_uses h bytes) ≡ None
  pub cycles : first_some (length (content h bytes).gates) (of_cycle h bytes) ≡ None
  pub symbols : first_some (symbol_lines h bytes) (of_symbol h bytes) ≡ None

pub circuit_net : (h : Header) (bytes : List ℕ) → IsClear h bytes → IsNet (circuit h bytes)
circuit_net h bytes clear = net_right (content h bytes) (is_circuit h bytes clear.lines clear.uses clear.cycles) (names h bytes)
    (of 105 (inputs_many h bytes)) (of 108 (latches_many h bytes)) (of 111 (outputs_many h bytes))
  where
    of : (letter : ℕ) {n count : ℕ} → n ≡ count → AreNames n (names_of h bytes letter count)
    of letter {n} {count} same = let P : ℕ → Type 0 = λ m. AreNames m (names_of h bytes letter count) in subst P (sym same) (names_good h bytes clear.symbols letter count)

clear-of : (h : Header) (bytes : List ℕ) → refusal h bytes ≡ None → IsClear h bytes
clear-of h bytes e =
    let one = none-both (of_header h) (after_header h bytes) e in
    let two = none-both (first_some (counted h bytes) (of_line h bytes)) (after_lines h bytes) one.1 in
    let three = none-both (first_some (numbers h) (of_number h bytes)) (after_numbers h bytes) two.1 in
    let four = none-both (first_some (counted h bytes) (of_uses h bytes)) (after_uses h bytes) three.1 in
    let five = none-both (first_some (length (content h bytes).gates) (of_cycle h bytes)) (first_some (symbol_lines h bytes) (of_symbol h bytes)) four.1 in
    record { lines = two.0; uses = four.0; cycles = five.0; symbols = five.1 }

judged-net : (bytes : List ℕ) (h : Header) (o : Option Refusal) (net : NetParts) → refusal h bytes ≡ o → judged (circuit h bytes) o ≡ read net → IsNet net
judged-net bytes h None net is e =
    let same : circuit h bytes ≡ net = cc in
    let P : NetParts → Type 0 = λ n. IsNet n in
    subst P same (circuit_net h bytes (clear-of h bytes is))
judged-net bytes h (Some r) net is e = absurd (cc)

header-net : (bytes : List ℕ) (o : Option Header) (net : NetParts) → with_header bytes o ≡ read net → IsNet net
header-net bytes (Some h) net e = judged-net bytes h (refusal h bytes) net refl e
header-net bytes None net e = absurd (cc)

ended-net : (bytes : List ℕ) (b : Bool) (o : Option Header) (net : NetParts) → cond b (with_header bytes o) (refused (fault Truncated (length bytes))) ≡ read net → IsNet net
ended-net bytes true o net e = header-net bytes o net e
ended-net bytes false o net e = absurd (cc)

pub text-net : (bytes : List ℕ) (net : NetParts) → outcome bytes ≡ read net → IsNet net
text-net bytes net e = ended-net bytes (is_ended is_feed (first_line bytes)) (header_of (line_text (first_line bytes))) net e
