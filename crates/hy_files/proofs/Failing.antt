-- A file that is not taken, since its text is refused or memory ran out.
use Rattle.std.proofs.Common.{◌≡◌, ◌⊎◌, ℕ, Bool, List, [], ◌++◌, Ok, Err, inl, inr, refl, sym, subst, append-nil}
use Rattle.hy_base.specs.Shelf.{ReadsFile}
use Rattle.hy_base.specs.declared.shelf.Shelf.{Ghosts}
use Rattle.hy_formula.specs.Formulas.{Plain}
use Rattle.hy_read.specs.Answers.{faulty, free, over}
use Rattle.hy_read.specs.Contract.{IsAnswer}
use Rattle.hy_read.specs.Results.{most}
use Rattle.hy_read.specs.declared.error.ReadError.{ReadError}
use Rattle.hy_read.specs.declared.error.ReadError.TheVariants as errors
use Rattle.hy_files.specs.Contents.{IsRefused}
use Rattle.hy_files.specs.Faults.{text_fault}
use Rattle.hy_files.specs.Steps.{Fails, spent, refused}
use Rattle.hy_files.specs.declared.fault.FileFault.{FileFault}
use Rattle.hy_files.specs.declared.fault.FileFault.TheVariants.{Count, Memory}

-- The names are as before.
pub none-more : (names : List (List ℕ)) → (more : List (List ℕ)) × (names ≡ names ++ more)
none-more names = ([], sym (append-nil names))

-- What a reader of formulas refuses is found in the bytes, or memory ran out.
text_found : {F : Type 0} (plain : F → List Plain) (many : Bool) (quantifiers : ℕ) (old table : List (List ℕ)) (bytes : List ℕ) (error : ReadError)
    → IsAnswer plain many quantifiers old table bytes (Err error)
    → (text_fault error ≡ Memory) ⊎ IsRefused many quantifiers old bytes (text_fault error)
text_found plain many quantifiers old table bytes (errors.Syntax token byte) is = inr (faulty token byte, is, refl)
text_found plain many quantifiers old table bytes (errors.Unbound byte) is = inr (free byte, is, refl)
text_found plain many quantifiers old table bytes (errors.Limit l) (c, kind, number, is) =
    inr (over c (most quantifiers c), is, let same : Count l.kind l.limit ≡ Count _ _ = cc in same)
text_found plain many quantifiers old table bytes errors.Memory is = inl refl

module _ {S : Type 0} (g : Ghosts S) (old new : S) (name : List ℕ) (many : Bool) (quantifiers : ℕ) (names : List (List ℕ))
    (bytes read : List ℕ) (came : ReadsFile g old new name (Ok bytes)) (same : read ≡ bytes) where
  -- Whoever reads formulas from those bytes and refuses them is right.
  pub text-fails : {F : Type 0} (plain : F → List Plain) (table : List (List ℕ)) (error : ReadError)
      → IsAnswer plain many quantifiers names table read (Err error)
      → Fails g old new name (IsRefused many quantifiers names) (text_fault error)
  text-fails plain table error is =
      let P : List ℕ → Type 0 = λ b. IsRefused many quantifiers names b (text_fault error) in
      let Q : FileFault → Type 0 = λ f. Fails g old new name (IsRefused many quantifiers names) f in
      elim (text_found plain many quantifiers names table read error is) [
        | inl memory ↦ subst Q (sym memory) (spent bytes came)
        | inr found ↦ refused bytes (text_fault error) came (subst P same found)
      ]
