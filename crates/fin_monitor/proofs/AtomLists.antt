-- The bit of an atom in the codes of a list of atoms.
use Rattle.std.proofs.Common.{◌≡◌, ◌^◌, ◌<◌, ℕ, true, false, ◌&&◌, nat_eq, List, length, take, map, get_or, ap, ◌∙◌, arith}
use Rattle.std.specs.List.{list_any}
use Rattle.std.proofs.lemmas.List.{take-map}
use Rattle.hy_bits.specs.Binary.{has_one}
use Rattle.hy_formula.specs.declared.atom.Atom.{Atom}
use Rattle.hy_formula.specs.Atoms.{plain_atom, is_atom}
use Rattle.hy_formula.proofs.AtomLists.{atom-inside, atom-there}
use Rattle.fin_monitor.specs.Codes.{letter_of}
use Rattle.fin_monitor.specs.Lefts.{IsAtomMask}
use Rattle.fin_monitor.proofs.CodeBits.{letter-at, mask-at}

module _ (atoms : List Atom) (a : Atom) (i : ℕ) (x : Atom) (lt : i < length atoms) (at : x ≡ get_or atoms i x) (is : (nat_eq x.name a.name && nat_eq x.var a.var) ≡ true)
    (none : list_any (is_atom a.name a.var) (map plain_atom (take i atoms)) ≡ false) where
  before : list_any (is_atom a.name a.var) (take i (map plain_atom atoms)) ≡ false
  before = ap (list_any (is_atom a.name a.var)) (take-map plain_atom i atoms) ∙ none

  pub atom-bit : (code : ℕ) → letter_of (map plain_atom atoms) code a.name a.var ≡ has_one code i
  atom-bit code =
      letter-at 0 i (map plain_atom atoms) code a.name a.var (plain_atom x) (atom-inside atoms a i x lt at is) before (atom-there atoms a i x lt at is)
      ∙ ap (has_one code) (omega arith)

  pub atom-mask : IsAtomMask (map plain_atom atoms) a.name a.var (2 ^ i)
  atom-mask = mask-at i (map plain_atom atoms) a.name a.var (plain_atom x) (atom-inside atoms a i x lt at is) before (atom-there atoms a i x lt at is)
