-- What reads gave has one answer, and where all files are texts the question answers.
use Rattle.std.proofs.Common.{◌≡◌, ◌⊎◌, ℕ, List, [], ◌∷◌, ◌++◌, length, Ok, Err, inl, inr, refl, sym, ap, subst, ◌∙◌, append-nil, append_assoc, arith}
use Rattle.hy_base.specs.Shelf.{Read}
use Rattle.hy_base.specs.declared.reading.FileError.{FileError}
use Rattle.hy_base.specs.declared.reading.FileError.TheVariants as errors
use Rattle.hy_files.specs.Faults.{read_fault}
use Rattle.hy_run.specs.Laws.{AgreeOrShort, AreSettled, AreTextsBehind}
use Rattle.hy_run.specs.Names.{Text}
use Rattle.hy_run.specs.Reads.{GaveOnly}
use Rattle.hy_run.specs.Refusals.{file_refusal}
use Rattle.hy_run.specs.Rules.{Rules}
use Rattle.hy_run.specs.Runs.{Answer, DecidesBehind, Stops, refused, spent}
use Rattle.hy_run.specs.declared.refusal.Refusal.TheVariants.{Memory}

module _ {Q V F : Type 0} (rules : Rules Q V F) (settled : AreSettled rules) (question : Q) where
  equal : (a b : Answer V F) → a ≡ b → AgreeOrShort rules a b
  equal a b e = let P : Answer V F → Type 0 = λ c. rules.agrees a c in inr (inr (subst P e (settled.same a)))

  stops_once : (k : ℕ) (names : List Text) (bytes : List ℕ) (a b : Answer V F) → Stops rules question k names bytes a
      → Stops rules question k names bytes b → AgreeOrShort rules a b
  stops_once k names bytes _ b spent two = inl refl
  stops_once k names bytes a _ (refused fault is) spent = inr (inl refl)
  stops_once k names bytes _ _ (refused fault is) (refused other also) =
      equal _ _ (ap (λ f. Err (file_refusal k f)) (settled.fault question k names bytes fault other is also))

  -- A file that is a text stops a run for want of memory alone.
  stops_short : (k : ℕ) (names new : List Text) (bytes : List ℕ) (a : Answer V F) → Stops rules question k names bytes a
      → rules.is_text question k names bytes new → a ≡ Err Memory
  stops_short k names new bytes _ spent is = refl
  stops_short k names new bytes _ (refused fault is) is_text =
      absurd (settled.apart question k names bytes new fault is_text is)

  -- ---- one answer

  -- What a file comes to that was read: the run stops there, or goes on by the names then.
  abbrev Goes : ℕ → List Text → List ℕ → Answer V F → Type 0 → (List Text → Type 0) → Type 0
  Goes k old bytes answer E On =
      (E × Stops rules question k old bytes answer) ⊎ ((new : List Text) × rules.is_text question k old bytes new × On new)

  one_file : (k : ℕ) (old : List Text) (bytes : List ℕ) (a b : Answer V F) (E O : Type 0) (On Then : List Text → Type 0)
      → Goes k old bytes a E On → Goes k old bytes b O Then → ((new : List Text) → On new → Then new → AgreeOrShort rules a b)
      → AgreeOrShort rules a b
  one_file k old bytes a b E O On Then (inl (e, one)) (inl (f, two)) behind = stops_once k old bytes a b one two
  one_file k old bytes a b E O On Then (inl (e, one)) (inr (new, is, two)) behind = inl (stops_short k old new bytes a one is)
  one_file k old bytes a b E O On Then (inr (new, is, one)) (inl (f, two)) behind = inr (inl (stops_short k old new bytes b two is))
  one_file k old bytes a b E O On Then (inr (new, is, one)) (inr (later, also, two)) behind =
      behind later (subst On (settled.text question k old bytes new later is also) one) two

  pub decides_once : (files : List Text) (given : List Read) (done : List (List ℕ)) (old names others : List Text) (a b : Answer V F)
      → DecidesBehind rules question files done old given names a → DecidesBehind rules question files done old given others b
      → AgreeOrShort rules a b
  decides_once [] [] done old names others a b (e, one) (f, two) = settled.answer question done old a b one two
  decides_once [] (read ∷ given) done old names others a b one two = absurd one
  decides_once (file ∷ files) [] done old names others a b one two = absurd one
  decides_once (file ∷ files) (Err error ∷ given) done old names others a b (e, one) (f, two) = equal a b (one ∙ sym two)
  decides_once (file ∷ files) (Ok bytes ∷ given) done old names others a b one two =
      one_file (length done) old bytes a b _ _ _ _ one two
      (λ new on then. decides_once files given (done ++ bytes ∷ []) new names others a b on then)

  -- Where a read of files gave no bytes memory ran out.
  gave_none : (error : FileError) (given : List Read) (contents : List (List ℕ)) (k : ℕ) (a : Answer V F)
      → GaveOnly (Err error ∷ given) contents → a ≡ Err (file_refusal k (read_fault error)) → a ≡ Err Memory
  gave_none errors.Memory given contents k a gave e = e
  gave_none errors.OpenFailed given contents k a gave e = absurd gave
  gave_none errors.ReadFailed given contents k a gave e = absurd gave
  gave_none errors.Limit given contents k a gave e = absurd gave

  pub bytes_once : (files : List Text) (contents : List (List ℕ)) (given other : List Read) (done : List (List ℕ)) (old names others : List Text) (a b : Answer V F)
      → GaveOnly given contents → GaveOnly other contents → DecidesBehind rules question files done old given names a
      → DecidesBehind rules question files done old other others b → AgreeOrShort rules a b
  bytes_once [] contents [] [] done old names others a b gave also (e, one) (f, two) = settled.answer question done old a b one two
  bytes_once [] contents (read ∷ given) other done old names others a b gave also one two = absurd one
  bytes_once [] contents [] (read ∷ other) done old names others a b gave also one two = absurd two
  bytes_once (file ∷ files) contents [] other done old names others a b gave also one two = absurd one
  bytes_once (file ∷ files) contents (Ok bytes ∷ given) [] done old names others a b gave also one two = absurd two
  bytes_once (file ∷ files) contents (Err error ∷ given) other done old names others a b gave also (e, one) two =
      inl (gave_none error given contents (length done) a gave one)
  bytes_once (file ∷ files) contents (Ok bytes ∷ given) (Err error ∷ other) done old names others a b gave also one (f, two) =
      inr (inl (gave_none error other contents (length done) b also two))
  bytes_once (file ∷ files) [] (Ok bytes ∷ given) (Ok read ∷ other) done old names others a b gave also one two = absurd gave
  bytes_once (file ∷ files) (content ∷ contents) (Ok bytes ∷ given) (Ok read ∷ other) done old names others a b (same, gave) (alike, also) one two =
      let P : List ℕ → Type 0 = λ bs. DecidesBehind rules question (file ∷ files) done old (Ok bs ∷ given) names a in
      let R : List ℕ → Type 0 = λ bs. DecidesBehind rules question (file ∷ files) done old (Ok bs ∷ other) others b in
      one_file (length done) old content a b _ _ _ _ (subst P same one) (subst R alike two)
      (λ new on then. bytes_once files contents given other (done ++ content ∷ []) new names others a b gave also on then)

  -- ---- completeness

  pub answers_texts : (files : List Text) (contents : List (List ℕ)) (given : List Read) (done all : List (List ℕ)) (old names others : List Text) (answer : Answer V F)
      → length files ≡ length contents → done ++ contents ≡ all → GaveOnly given contents
      → AreTextsBehind rules question done old contents names → DecidesBehind rules question files done old given others answer
      → (answer ≡ Err Memory) ⊎ rules.comes question all names answer
  answers_texts [] [] [] done all old names others answer long whole gave e (f, comes) =
      let P : List Text → Type 0 = λ n. rules.comes question all n answer in
      let R : List (List ℕ) → Type 0 = λ fs. rules.comes question fs old answer in
      inr (subst P (sym e) (subst R (sym (append-nil done) ∙ whole) comes))
  answers_texts [] (bytes ∷ contents) given done all old names others answer long whole gave are decides = absurd (omega (arith, long))
  answers_texts (file ∷ files) [] given done all old names others answer long whole gave are decides = absurd (omega (arith, long))
  answers_texts [] [] (read ∷ given) done all old names others answer long whole gave are decides = absurd decides
  answers_texts (file ∷ files) (bytes ∷ contents) [] done all old names others answer long whole gave are decides = absurd decides
  answers_texts (file ∷ files) (bytes ∷ contents) (Err error ∷ given) done all old names others answer long whole gave are (e, is) =
      inl (gave_none error given (bytes ∷ contents) (length done) answer gave is)
  answers_texts (file ∷ files) (content ∷ contents) (Ok bytes ∷ given) done all old names others answer long whole (same, gave) (new, is, are) decides =
      let P : List ℕ → Type 0 = λ bs. DecidesBehind rules question (file ∷ files) done old (Ok bs ∷ given) others answer in
      elim (subst P same decides) [
        | inl stops ↦ inl (stops_short (length done) old new content answer stops.1 is)
        | inr (later, also, behind) ↦
            let alike = settled.text question (length done) old content later new also is in
            let R : List Text → Type 0 = λ n. DecidesBehind rules question files (done ++ content ∷ []) n given others answer in
            answers_texts files contents given (done ++ content ∷ []) all new names others answer (omega (arith, long))
            (append_assoc done (content ∷ []) contents ∙ whole) gave are (subst R alike behind)
      ]
