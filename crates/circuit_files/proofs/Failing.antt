-- A file that is not taken, since it is no circuit or memory ran out.
use Rattle.std.proofs.Common.{◌≡◌, ℕ, List, Ok, refl, ap, subst}
use Rattle.hy_base.specs.Shelf.{ReadsFile}
use Rattle.hy_base.specs.declared.limit.Limit.{Limit}
use Rattle.hy_base.specs.declared.shelf.Shelf.{Ghosts}
use Rattle.aiger_body.specs.Answers as circuits
use Rattle.aiger_body.specs.Outcomes.{outcome, limit, fault}
use Rattle.aiger_body.specs.declared.error.AigerError.{AigerError}
use Rattle.aiger_body.specs.declared.error.AigerError.TheVariants as aiger
use Rattle.hy_files.specs.Steps.{Fails, spent, refused}
use Rattle.hy_files.specs.declared.fault.FileFault.TheVariants.{Count}
use Rattle.circuit_files.specs.Circuits.{IsNoCircuit, aiger_fault}

module _ {S : Type 0} (g : Ghosts S) (old new : S) (name bytes read : List ℕ) (came : ReadsFile g old new name (Ok bytes)) (same : read ≡ bytes) where
  -- Whoever reads a circuit from those bytes and refuses them is right.
  pub circuit-fails : (error : AigerError) → circuits.Refuses (outcome read) error → Fails g old new name IsNoCircuit (aiger_fault error)
  circuit-fails (aiger.Bad kind byte) is =
      let P : List ℕ → Type 0 = λ b. IsNoCircuit b (aiger_fault (aiger.Bad kind byte)) in
      refused bytes _ came (subst P same (fault kind byte, is, refl))
  circuit-fails (aiger.Limit l) (is, past) =
      let P : List ℕ → Type 0 = λ b. IsNoCircuit b (aiger_fault (aiger.Limit l)) in
      refused bytes _ came (subst P same (limit, is, ap (λ (l : Limit). Count l.kind l.limit) past))
  circuit-fails aiger.Memory is = spent bytes came
