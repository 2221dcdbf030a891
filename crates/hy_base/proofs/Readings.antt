-- What reads gave, one after another.
use Rattle.std.proofs.Common.{◌≡◌, ℕ, List, [], ◌∷◌, ◌++◌, Err, refl, arith, sym, subst, ap, ◌∙◌, append_assoc}
use Rattle.hy_base.specs.Shelf.{KeepsShelf, Gave, nothing, more, Read, RestSaid, ReadsFiles}
use Rattle.hy_base.specs.Talks.{gave}
use Rattle.hy_base.specs.declared.shelf.Shelf.{Ghosts}
use Rattle.hy_base.specs.declared.reading.FileError.TheVariants.{Memory}

pub gave_nothing : {S : Type 0} (g : Ghosts S) (old : S) (bytes : List ℕ) → bytes ≡ [] → Gave g old bytes old
gave_nothing g old bytes e = subst (λ b. Gave g old b old) (sym e) nothing

pub gave_more : {S : Type 0} (g : Ghosts S) (old mid new : S) (bytes piece whole : List ℕ) → Gave g old bytes mid
    → g.called mid (gave piece) new → whole ≡ bytes ++ piece → Gave g old whole new
gave_more g old mid new bytes piece whole given called e =
    subst (λ b. Gave g old b new) (sym e) (more bytes piece mid new given called)

pub said_short : {S : Type 0} (g : Ghosts S) (old mid new : S) (bytes piece : List ℕ) (read : Read) → read ≡ Err Memory
    → Gave g old bytes mid → g.called mid (gave piece) new → RestSaid g old new read
said_short g old mid new bytes piece read e given called =
    subst (λ r. RestSaid g old new r) (sym e) (bytes ++ piece, more bytes piece mid new given called)

-- what was left, from what was left then and what was read
pub rest_read : (whole text rest piece rest' text' : List ℕ) → whole ≡ text ++ rest → rest ≡ piece ++ rest'
    → text' ≡ text ++ piece → whole ≡ text' ++ rest'
rest_read whole text rest piece rest' text' e f h =
    e ∙ ap (λ r. text ++ r) f ∙ sym (append_assoc text piece rest') ∙ ap (λ t. t ++ rest') (sym h)

-- ---- what is kept over calls

pub keeps_all : {S : Type 0} (g : Ghosts S) (old : S) → KeepsShelf g old old
keeps_all g old = record { tells = λ t. t; files = refl; sound = λ s. s; open_faults = omega arith; read_faults = omega arith }

pub keeps_on : {S : Type 0} (g : Ghosts S) (old mid new : S) → KeepsShelf g old mid → KeepsShelf g mid new → KeepsShelf g old new
keeps_on g old mid new one two = record {
  tells = λ t. two.tells (one.tells t);
  files = two.files ∙ one.files;
  sound = λ s. two.sound (one.sound s);
  open_faults = omega (arith, one.open_faults, two.open_faults);
  read_faults = omega (arith, one.read_faults, two.read_faults);
}

-- Reading files, one after another, keeps what a call keeps.
pub files_keep : {S : Type 0} (g : Ghosts S) (old new : S) (names : List (List ℕ)) (reads : List Read) → ReadsFiles g old new names reads
    → KeepsShelf g old new
files_keep g old new names [] same = subst (λ s. KeepsShelf g old s) same (keeps_all g old)
files_keep g old new [] (read ∷ reads) came = absurd came
files_keep g old new (name ∷ names) (read ∷ reads) (mid, is, came) =
    keeps_on g old mid new is.keeps (files_keep g mid new names reads came)
