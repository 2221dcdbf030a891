-- What the answer of a monitor to one event says of the history that it stood for.
use Rattle.std.proofs.Common.{◌≡◌, ◌⊎◌, ℕ, true, false, List, Ok, Err, Result, inl, inr, refl}
use Rattle.hy_finite.specs.declared.event.Event.{Event}
use Rattle.rv_core.specs.Held.{Held, StandsFor, specs_of}
use Rattle.rv_core.specs.Histories.{History, Refusal, refused, goes, step, arrives}
use Rattle.rv_core.specs.Replies.{IsAnswer, IsFound, error_of, quiet, arrived, violated, refused_by, spent}
use Rattle.rv_core.specs.declared.reply.Reply.{Reply}
use Rattle.rv_core.specs.declared.reply.Reply.TheVariants.{Quiet, Arrived, Violation}
use Rattle.rv_core.specs.declared.rv_error.RvError.{RvError}
use Rattle.rv_core.specs.declared.rv_error.RvError.TheVariants as errors

module _ (old new : Held) (e : Event) (h : History) where
  pub record GoesQuietly : Type 0 where
    pub next : History
    pub steps : step h e ≡ goes next
    pub silent : arrives e ≡ false
    pub stands : StandsFor new next

  pub record GoesOn : Type 0 where
    pub next : History
    pub steps : step h e ≡ goes next
    pub loud : arrives e ≡ true
    pub stands : StandsFor new next

  pub record IsViolating (s trace : ℕ) (tuple : List ℕ) : Type 0 where
    pub next : History
    pub steps : step h e ≡ goes next
    pub loud : arrives e ≡ true
    pub found : IsFound old.rule (specs_of old) next.present.arrived s trace tuple

  pub record IsRefusing (error : RvError) : Type 0 where
    pub cause : Refusal
    pub steps : step h e ≡ refused cause
    pub is : error ≡ error_of cause

  pub answered-quiet : (r : Result Reply RvError) → r ≡ Ok Quiet → IsAnswer old new e h r → GoesQuietly
  answered-quiet _ same (quiet next steps silent stands) = record { next = next; steps = steps; silent = silent; stands = stands }
  answered-quiet _ same (arrived next steps loud stands) = absurd (cc)
  answered-quiet _ same (violated next s trace tuple steps loud found unclean) = absurd (cc)
  answered-quiet _ same (refused_by r steps stands) = absurd (cc)
  answered-quiet _ same (spent takes stands) = absurd (cc)

  pub answered-arrived : (r : Result Reply RvError) (trace : ℕ) → r ≡ Ok (Arrived trace) → IsAnswer old new e h r → GoesOn
  answered-arrived _ trace same (quiet next steps silent stands) = absurd (cc)
  answered-arrived _ trace same (arrived next steps loud stands) = record { next = next; steps = steps; loud = loud; stands = stands }
  answered-arrived _ trace same (violated next s t tuple steps loud found unclean) = absurd (cc)
  answered-arrived _ trace same (refused_by r steps stands) = absurd (cc)
  answered-arrived _ trace same (spent takes stands) = absurd (cc)

  abbrev Replied : Type 0
  Replied = Result Reply RvError

  found-same : (next : History) (s t s' t' : ℕ) (u u' : List ℕ) (one two : Replied) → one ≡ Ok (Violation s t u) → two ≡ Ok (Violation s' t' u') → one ≡ two
      → IsFound old.rule (specs_of old) next.present.arrived s t u → IsFound old.rule (specs_of old) next.present.arrived s' t' u'
  found-same next s t s' t' u u' one two is also same found =
      let same_s : s ≡ s' = cc in
      let same_t : t ≡ t' = cc in
      let same_u : u ≡ u' = cc in
      rw (← same_s, ← same_t, ← same_u) found

  pub answered-violation : (r : Result Reply RvError) (s trace : ℕ) (tuple : List ℕ) → r ≡ Ok (Violation s trace tuple)
      → IsAnswer old new e h r → IsViolating s trace tuple
  answered-violation _ s trace tuple same (quiet next steps silent stands) = absurd (cc)
  answered-violation _ s trace tuple same (arrived next steps loud stands) = absurd (cc)
  answered-violation _ s trace tuple same (violated next s' t' tuple' steps loud found unclean) =
      record { next = next; steps = steps; loud = loud; found = found-same next s' t' s trace tuple' tuple _ _ refl refl same found }
  answered-violation _ s trace tuple same (refused_by r steps stands) = absurd (cc)
  answered-violation _ s trace tuple same (spent takes stands) = absurd (cc)

  pub answered-error : (r : Result Reply RvError) (error : RvError) → r ≡ Err error → IsAnswer old new e h r
      → (error ≡ errors.Memory) ⊎ IsRefusing error
  answered-error _ error same (quiet next steps silent stands) = absurd (cc)
  answered-error _ error same (arrived next steps loud stands) = absurd (cc)
  answered-error _ error same (violated next s t tuple steps loud found unclean) = absurd (cc)
  answered-error _ error same (refused_by r steps stands) =
      inr (record { cause = r; steps = steps; is = (let is : error ≡ error_of r = cc in is) })
  answered-error _ error same (spent takes stands) = inl (let is : error ≡ errors.Memory = cc in is)
