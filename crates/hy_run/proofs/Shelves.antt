-- What reads give on shelves that are sound, and on those that counted no fault.
use Rattle.std.proofs.Common.{◌≡◌, ◌≢◌, ℕ, ◌≤◌, List, [], ◌∷◌, length, Some, None, Ok, Err, sym, ap, subst, ◌∙◌, arith}
use Rattle.hy_base.specs.Counts.{Rose, last_count}
use Rattle.hy_base.specs.Shelf.{CameOfRead, Files, HasBytes, KeepsShelf, Read, ReadsFiles}
use Rattle.hy_base.specs.declared.reading.FileError.TheVariants as errors
use Rattle.hy_base.specs.declared.shelf.Shelf.{Ghosts}
use Rattle.hy_base.proofs.Readings.{files_keep}
use Rattle.hy_formula.specs.Quantifiers.{Each}
use Rattle.hy_run.specs.Reads.{GaveOnly, HasNoFault, HaveBytes}

module _ {S : Type 0} (g : Ghosts S) where
  -- ---- sound shelves

  module _ (old new : S) (name bytes : List ℕ) (tells : g.tells old) (sound : g.is_sound old)
      (has : HasBytes (g.file old) name bytes) where
    one_read : (read : Read) (given : List Read) (files : List (List ℕ)) → CameOfRead g old new name read
        → GaveOnly given files → GaveOnly (read ∷ given) (bytes ∷ files)
    one_read (Ok read) given files came gave =
        let both : Some read ≡ Some bytes = sym (came.has tells).told ∙ has.told in
        let same : read ≡ bytes = cc in
        (same, gave)
    one_read (Err errors.OpenFailed) given files came gave =
        let both : None ≡ Some bytes = sym (came.lacks sound) ∙ has.told in cc
    one_read (Err errors.ReadFailed) given files came gave = absurd (came.unsound sound)
    one_read (Err errors.Limit) given files came gave =
        let long = came.long tells in
        let both : Some long.bytes ≡ Some bytes = sym long.told ∙ has.told in
        let same : long.bytes ≡ bytes = cc in
        absurd (omega (arith, ap length same, long.many, has.few))
    one_read (Err errors.Memory) given files came gave = tt

  -- A sound shelf that tells gives the bytes of its files.
  pub sound_gives : (names files : List (List ℕ)) (old new : S) (given : List Read) → g.tells old
      → g.is_sound old → HaveBytes (g.file old) names files → ReadsFiles g old new names given
      → GaveOnly given files
  sound_gives names files old new [] tells sound have reads = tt
  sound_gives [] files old new (read ∷ given) tells sound have reads = absurd reads
  sound_gives (name ∷ names) [] old new (read ∷ given) tells sound have reads = absurd have
  sound_gives (name ∷ names) (bytes ∷ files) old new (read ∷ given) tells sound (has, have) (mid, is, reads) =
      let P : Files → Type 0 = λ told. HaveBytes told names files in
      one_read old mid name bytes tells sound has read given files is.came
      (sound_gives names files mid new given (is.keeps.tells tells) (is.keeps.sound sound)
      (subst P (sym is.keeps.files) have) reads)

  -- ---- shelves that counted no fault

  no_rise : (old mid new : ℕ) → old ≤ mid → mid ≤ new → new ≡ old → new ≢ last_count → ¬ Rose old mid
  no_rise old mid new up more same last rose =
      let here : mid ≡ new = omega (arith, up, more, same) in
      let lt = rose (λ e. last (sym here ∙ e)) in
      omega (arith, lt, here, same)

  module _ (old mid new : S) (name : List ℕ) (before : KeepsShelf g old mid) (behind : KeepsShelf g mid new)
      (opens : g.open_faults new ≡ g.open_faults old) (open_last : g.open_faults new ≢ last_count)
      (reads : g.read_faults new ≡ g.read_faults old) (read_last : g.read_faults new ≢ last_count) where
    quiet_read : (read : Read) → CameOfRead g old mid name read → HasNoFault read
    quiet_read (Ok bytes) came = (λ e. cc, λ e. cc)
    quiet_read (Err errors.OpenFailed) came =
        absurd (no_rise _ _ _ before.open_faults behind.open_faults opens open_last came.counted)
    quiet_read (Err errors.ReadFailed) came =
        absurd (no_rise _ _ _ before.read_faults behind.read_faults reads read_last came.counted)
    quiet_read (Err errors.Limit) came = (λ e. cc, λ e. cc)
    quiet_read (Err errors.Memory) came = (λ e. cc, λ e. cc)

  same_count : (old mid new : ℕ) → old ≤ mid → mid ≤ new → new ≡ old → new ≡ mid
  same_count old mid new up more same = omega (arith, up, more, same)

  -- Where no fault was counted none came.
  pub quiet_gives : (names : List (List ℕ)) (old new : S) (given : List Read)
      → ReadsFiles g old new names given
      → g.open_faults new ≡ g.open_faults old → g.open_faults new ≢ last_count
      → g.read_faults new ≡ g.read_faults old → g.read_faults new ≢ last_count
      → Each HasNoFault given
  quiet_gives names old new [] came opens open_last reads read_last = tt
  quiet_gives [] old new (read ∷ given) came opens open_last reads read_last = absurd came
  quiet_gives (name ∷ names) old new (read ∷ given) (mid, is, came) opens open_last reads read_last =
      let behind = files_keep g mid new names given came in (
        quiet_read old mid new name is.keeps behind opens open_last reads read_last read is.came,
        quiet_gives names mid new given came
            (same_count _ _ _ is.keeps.open_faults behind.open_faults opens) open_last
            (same_count _ _ _ is.keeps.read_faults behind.read_faults reads) read_last,
      )
