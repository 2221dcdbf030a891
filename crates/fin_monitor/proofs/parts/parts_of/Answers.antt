use Rattle.std.proofs.Common.{◌&&◌, nat_eq, map, ap, arith}
use Rattle.std.specs.FinSet.{contains}
use Rattle.std.proofs.lemmas.List.{length-map}
use Rattle.hy_formula.specs.Atoms.{plain_atom}
use Rattle.fin_monitor.specs.Parts.{bits_of}
use Rattle.fin_monitor.proofs.CodeBits.{small-code}
use Rattle.fin_monitor.proofs.parts.parts_of.Goals as goal

pub low_parts-requires : goal.low_parts-requires
low_parts-requires c letter =
    omega (
      arith,
      ap (λ l. bits_of l letter) c.as_slice.ensures,
      c.in_ok-names.ensures letter,
      small-code (λ n v. nat_eq v c.args.var && contains letter n) (map plain_atom c.args.atoms.now) 0 (omega (arith, length-map c.args.atoms.now plain_atom, c.requires)),
    )
