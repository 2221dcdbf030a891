-- Bytes are one list of lassos, or are refused by one fault, and never both.
use Rattle.std.proofs.Common.{◌≡◌, ◌≢◌, ℕ, List, Result, Ok, Err, refl, sym, ap, subst, ◌∙◌}
use Rattle.hy_base.specs.Shelf.{ReadsFile}
use Rattle.hy_base.specs.declared.shelf.Shelf.{Ghosts}
use Rattle.hy_bits.specs.Letter.{Letter}
use Rattle.hy_formula.specs.Lassos.{Lasso}
use Rattle.hy_lasso.specs.LassoFiles.{IsLassosAnswer}
use Rattle.hy_text.specs.declared.line_error.LineError.{LineError}
use Rattle.hy_text.specs.declared.line_error.LineError.TheVariants as lines
use Rattle.hy_files.specs.Faults.{line_fault}
use Rattle.hy_files.specs.Steps.{Fails, spent, refused}
use Rattle.hy_files.specs.declared.fault.FileFault.{FileFault}
use Rattle.hy_files.specs.declared.fault.FileFault.TheVariants.{Line}
use Rattle.ea_tool.specs.Lassos.{AreLassos, AreNoLassos}

module _ {S : Type 0} (g : Ghosts S) (old new : S) (name bytes read : List ℕ) (names : List (List ℕ))
    (came : ReadsFile g old new name (Ok bytes)) (same : read ≡ bytes) where
  -- Whoever reads lassos from those bytes and refuses them is right.
  pub lassos-fail : (error : LineError) → IsLassosAnswer names read (Err error) → Fails g old new name (AreNoLassos names) (line_fault error)
  lassos-fail (lines.Syntax line) is =
      let P : List ℕ → Type 0 = λ b. AreNoLassos names b (Line line) in
      refused bytes _ came (subst P same (line, is, refl))
  lassos-fail lines.Limit is = absurd is
  lassos-fail lines.Memory is = spent bytes came

module _ (once : (table : List (List ℕ)) (bytes : List ℕ) (a b : Result (List (Lasso Letter)) LineError) → a ≢ Err lines.Memory
    → b ≢ Err lines.Memory → IsLassosAnswer table bytes a → IsLassosAnswer table bytes b → a ≡ b) (names : List (List ℕ)) (bytes : List ℕ) where
  pub lassos_once : (list other : List (Lasso Letter)) → AreLassos names bytes list → AreLassos names bytes other → list ≡ other
  lassos_once list other one two =
      let same : Ok list ≡ Ok other = once names bytes (Ok list) (Ok other) (λ e. cc) (λ e. cc) one two in cc

  pub fault_once : (a b : FileFault) → AreNoLassos names bytes a → AreNoLassos names bytes b → a ≡ b
  fault_once a b (line, one, e) (other, two, f) =
      let same = once names bytes (Err (lines.Syntax line)) (Err (lines.Syntax other)) (λ e. cc) (λ e. cc) one two in
      let number : line ≡ other = cc in
      e ∙ ap Line number ∙ sym f

  pub lassos_not_refused : (list : List (Lasso Letter)) (fault : FileFault) → AreLassos names bytes list → ¬ AreNoLassos names bytes fault
  lassos_not_refused list fault one (line, two, e) =
      let same = once names bytes (Ok list) (Err (lines.Syntax line)) (λ e. cc) (λ e. cc) one two in cc
