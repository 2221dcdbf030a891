-- The error lines that say what is wrong with a file, with what stands in it, or with a count.
use Rattle.std.specs.Prelude.{◌⊎◌, ℕ, Bool, List, [], ◌∷◌, ◌++◌, codes, decimal, if◌then◌else◌, slice_index_or}
use Rattle.std.specs.Borrow.{Bor}
use Rattle.hy_base.specs.Sink.{GivesWhole, FailsToGive}
use Rattle.hy_base.specs.declared.limit.Kind.{Kind}
use Rattle.hy_base.specs.declared.limit.Kind.TheVariants as kinds
use Rattle.hy_base.specs.declared.reading.TheConstants.{BYTES_LIMIT}
use Rattle.hy_base.specs.declared.sink.Sink.{Ghosts}
use Rattle.hy_formula.specs.declared.classes.Class.{Class}
use Rattle.hy_formula.specs.declared.classes.Class.TheVariants as classes
use Rattle.aig_kind.specs.declared.kind.AigKind.{AigKind}
use Rattle.aig_kind.specs.declared.kind.AigKind.TheVariants as circuits
use Rattle.hy_files.specs.declared.fault.FileFault.{FileFault}
use Rattle.hy_files.specs.declared.fault.FileFault.TheVariants.{Open, Read, Bytes, Syntax, Unbound, Count, Circuit, Line, Memory}

abbrev pub kind_text : Kind → List ℕ
kind_text kinds.Bytes = codes "bytes"
kind_text kinds.Specs = codes "specs"
kind_text kinds.Quantifiers = codes "quantifiers"
kind_text kinds.Parens = codes "parens"
kind_text kinds.Height = codes "height"
kind_text kinds.Names = codes "names"
kind_text kinds.Instances = codes "instances"
kind_text kinds.Closure = codes "closure"
kind_text kinds.Joint = codes "joint"
kind_text kinds.Atoms = codes "atoms"
kind_text kinds.Table = codes "table"
kind_text kinds.Length = codes "length"
kind_text kinds.Sessions = codes "sessions"
kind_text kinds.Saves = codes "saves"
kind_text kinds.Variables = codes "variables"
kind_text kinds.CnfVariables = codes "cnf-variables"
kind_text kinds.CnfLiterals = codes "cnf-literals"
kind_text kinds.StrategyNames = codes "strategy-names"

abbrev pub class_text : Class → List ℕ
class_text classes.Exists = codes "exists"
class_text classes.Forall = codes "forall"
class_text classes.ExistsForall = codes "exists-forall"
class_text classes.Other = codes "other"

-- what is wrong with a circuit
abbrev pub circuit_text : AigKind → List ℕ
circuit_text circuits.Header = codes "header"
circuit_text circuits.Literal = codes "literal"
circuit_text circuits.Redefined = codes "redefined"
circuit_text circuits.Undefined = codes "undefined"
circuit_text circuits.Cycle = codes "cycle"
circuit_text circuits.Delta = codes "delta"
circuit_text circuits.Truncated = codes "truncated"
circuit_text circuits.Symbol = codes "symbol"

-- what is wrong with a name: nothing has it, or different literals do
abbrev pub fault_of_name : Bool → List ℕ
fault_of_name twice = if twice then codes "twice" else (codes "none")

-- the line of a count that is past its limit
abbrev pub limit_line : Kind → ℕ → List ℕ
limit_line kind limit = codes "error E5: " ++ kind_text kind ++ codes " " ++ decimal limit ++ codes "\n"

-- the line of a formula, in the file of this name, of a class that is not taken
abbrev pub class_line : List ℕ → Class → List ℕ
class_line name class = codes "error E4 " ++ name ++ codes ": prefix " ++ class_text class ++ codes "\n"

-- the line of a formula's name that stands for nothing in the circuit, or for different literals
abbrev pub name_line : List ℕ → Bool → List ℕ
name_line name twice = codes "error E12: " ++ name ++ codes " " ++ fault_of_name twice ++ codes "\n"

abbrev pub memory_line : List ℕ
memory_line = codes "error: memory\n"

-- the line of a fault of the file of this name
abbrev pub fault_line : List ℕ → FileFault → List ℕ
fault_line name Open = codes "error E7 " ++ name ++ codes "\n"
fault_line name Read = codes "error E6 " ++ name ++ codes "\n"
fault_line name Bytes = limit_line kinds.Bytes BYTES_LIMIT
fault_line name (Syntax token byte) =
    codes "error E2 " ++ name ++ codes ": token " ++ decimal token ++ codes " byte " ++ decimal byte ++ codes "\n"
fault_line name (Unbound byte) = codes "error E3 " ++ name ++ codes ": byte " ++ decimal byte ++ codes "\n"
fault_line name (Count kind limit) = limit_line kind limit
fault_line name (Circuit kind byte) =
    codes "error E11 " ++ name ++ codes ": " ++ circuit_text kind ++ codes " byte " ++ decimal byte ++ codes "\n"
fault_line name (Line line) = codes "error E9 " ++ name ++ codes ": line " ++ decimal line ++ codes "\n"
fault_line name Memory = memory_line

-- the name of a file of the command, as its words have it
abbrev pub name_of_file : List (List ℕ) → ℕ → List ℕ
name_of_file names file = slice_index_or names file []

-- the names that slices hold
abbrev pub plain : List (Bor (List ℕ)) → List (List ℕ)
plain [] = []
plain (name ∷ names) = name.now ∷ plain names

-- The sink was given the line, or less of it and a put failed.
abbrev pub Received : {E : Type 0} → Ghosts E → E → E → List ℕ → Type 0
Received g old new line = GivesWhole g old new line ⊎ FailsToGive g old new line
