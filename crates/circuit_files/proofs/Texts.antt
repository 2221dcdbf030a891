-- Bytes are one circuit, or are refused by one fault, and never both.
use Rattle.std.proofs.Common.{◌≡◌, sym, ap, ◌∙◌}
use Rattle.std.specs.Prelude.{ℕ, List}
use Rattle.aig_net.specs.Nets.{Net}
use Rattle.aiger_body.specs.Outcomes.{Outcome, Refusal, outcome, read, refused}
use Rattle.hy_files.specs.declared.fault.FileFault.{FileFault}
use Rattle.circuit_files.specs.Circuits.{IsCircuit, IsNoCircuit, circuit_fault}

one-read : (said : Outcome) (a b : Net) → said ≡ read a → said ≡ read b → a ≡ b
one-read said a b e f = let both : read a ≡ read b = sym e ∙ f in cc

one-refused : (said : Outcome) (a b : Refusal) → said ≡ refused a → said ≡ refused b → a ≡ b
one-refused said a b e f = let both : refused a ≡ refused b = sym e ∙ f in cc

no-circuit : (said : Outcome) (net : Net) (refusal : Refusal) → said ≡ read net → said ≡ refused refusal → ⊥
no-circuit said net refusal e f = let both : read net ≡ refused refusal = sym e ∙ f in cc

pub circuit_once : (bytes : List ℕ) (net other : Net) → IsCircuit bytes net → IsCircuit bytes other → net ≡ other
circuit_once bytes net other one two = one-read (outcome bytes) net other one two

pub fault_once : (bytes : List ℕ) (a b : FileFault) → IsNoCircuit bytes a → IsNoCircuit bytes b → a ≡ b
fault_once bytes a b (refusal, one, e) (other, two, f) =
    e ∙ ap circuit_fault (one-refused (outcome bytes) refusal other one two) ∙ sym f

pub circuit_not_refused : (bytes : List ℕ) (net : Net) (fault : FileFault) → IsCircuit bytes net → ¬ IsNoCircuit bytes fault
circuit_not_refused bytes net fault is (refusal, other, e) = no-circuit (outcome bytes) net refusal is other
