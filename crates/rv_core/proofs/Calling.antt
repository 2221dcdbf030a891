-- Calls one after another end as their events do.
use Rattle.std.proofs.Common.{◌≡◌, ℕ, suc, ◌⊎◌, Bool, true, false, List, ◌∷◌, Result, Ok, Err, inl, inr, refl, sym, ap, ◌∙◌, subst}
use Rattle.hy_finite.specs.declared.event.Event.{Event}
use Rattle.hy_finite.specs.declared.lengths.Lengths.{Lengths}
use Rattle.rv_core.specs.declared.reply.Reply.{Reply}
use Rattle.rv_core.specs.declared.reply.Reply.TheVariants.{Quiet, Arrived, Violation}
use Rattle.rv_core.specs.declared.rv_error.RvError.{RvError}
use Rattle.rv_core.specs.declared.rv_error.RvError.TheVariants as error
use Rattle.rv_core.specs.Histories.{History, Refusal, Step, refused, goes, step, arrives}
use Rattle.rv_core.specs.Endings.{Spec, IsClean, Ending, refusal, Comes, Ends}
use Rattle.rv_core.specs.Held.{Held, specs_of, StandsFor}
use Rattle.rv_core.specs.Replies.{error_of, IsFound, IsAnswer, quiet, arrived, violated, refused_by, spent, Stop, through, error_at, violation_at, Runs, at_end, on_quiet, on_arrival, at_violation, at_error, EndsAs}
use Rattle.rv_core.proofs.Ending.{first-one}

-- The calls end as the events do, or memory ran out.
abbrev pub Agrees : Lengths → List Spec → Ending → Stop → Type 0
Agrees rule specs x stop = EndsAs rule specs x stop ⊎ ((n : ℕ) × (stop ≡ error_at n error.Memory))

module _ (rule : Lengths) (specs : List Spec) where
  -- how a run goes on from an event whose step and kind are known
  from-step : (k : ℕ) (h : History) (e : Event) (es : List Event) (x : Ending) (b : Bool) (s : Step)
      → arrives e ≡ b → step h e ≡ s
      → Ends rule specs k h (e ∷ es) x
      → Comes rule specs k b s (λ next. Ends rule specs (suc k) next es x) x
  from-step k h e es x b s is goes-to ends =
      let P : Bool → Type 0 =
      λ q. Comes rule specs k q s (λ next. Ends rule specs (suc k) next es x) x in
      let Q : Step → Type 0 =
      λ q. Comes rule specs k (arrives e) q (λ next. Ends rule specs (suc k) next es x) x in
      subst P is (subst Q goes-to ends)

  -- a step that goes on, and brings nothing or a list that is clean
  goes-on : (k : ℕ) (h next : History) (e : Event) (es : List Event) (x : Ending) (b : Bool)
      → arrives e ≡ b → step h e ≡ goes next
      → (b ≡ true → IsClean rule specs next.present.arrived) → Ends rule specs k h (e ∷ es) x
      → Ends rule specs (suc k) next es x
  goes-on k h next e es x false is goes-to c ends =
      from-step k h e es x false (goes next) is goes-to ends
  goes-on k h next e es x true is goes-to c ends =
      elim (from-step k h e es x true (goes next) is goes-to ends) [
        | inl (s, f, same) ↦ absurd (c refl s f.there f.violated)
        | inr (_, rest) ↦ rest
      ]

  refused-end : (k : ℕ) (h : History) (e : Event) (es : List Event) (x : Ending) (r : Refusal)
      → step h e ≡ refused r
      → Ends rule specs k h (e ∷ es) x → x ≡ refusal k r
  refused-end k h e es x r stops ends =
      by (arrives e) (from-step k h e es x (arrives e) (refused r) refl stops ends)
    where
      by : (b : Bool)
          → Comes rule specs k b (refused r) (λ next. Ends rule specs (suc k) next es x) x
          → x ≡ refusal k r
      by true c = c
      by false c = c

  violated-end : (k : ℕ) (h next : History) (e : Event) (es : List Event) (x : Ending) (s trace : ℕ)
      (tuple : List ℕ)
      → arrives e ≡ true → step h e ≡ goes next
      → IsFound rule specs next.present.arrived s trace tuple
      → Ends rule specs k h (e ∷ es) x → EndsAs rule specs x (violation_at k s trace tuple)
  violated-end k h next e es x s trace tuple is goes-to found ends =
      elim (from-step k h e es x true (goes next) is goes-to ends) [
        | inl (r, f, same) ↦
            let P : Ending → Type 0 = λ q. EndsAs rule specs q (violation_at k s trace tuple) in
            subst P (sym same)
            (refl, first-one rule specs next.present.arrived s r found.first f, found)
        | inr (c, _) ↦ absurd (c s found.first.there found.first.violated)
      ]

  -- what an answer says of how a run ends
  after-quiet : (k : ℕ) (old new : Held) (h : History) (e : Event) (es : List Event) (x : Ending)
      (a : Result Reply RvError)
      → new.rule ≡ rule → specs_of new ≡ specs → IsAnswer old new e h a → a ≡ Ok Quiet
      → Ends rule specs k h (e ∷ es) x
      → (next : History) × StandsFor new next × Ends rule specs (suc k) next es x
  after-quiet k old new h e es x a r q (quiet next goes-to is stands) same ends =
      (next, stands, goes-on k h next e es x false is goes-to (λ t. absurd (cc)) ends)
  after-quiet k old new h e es x a r q (arrived next goes-to is stands) same ends = absurd (cc)
  after-quiet k old new h e es x a r q
      (violated next s trace tuple goes-to is found off) same ends = absurd (cc)
  after-quiet k old new h e es x a r q (refused_by why stops stands) same ends = absurd (cc)
  after-quiet k old new h e es x a r q (spent takes stands) same ends = absurd (cc)

  after-arrival : (k : ℕ) (old new : Held) (h : History) (e : Event) (es : List Event) (x : Ending)
      (a : Result Reply RvError) (trace : ℕ)
      → new.rule ≡ rule → specs_of new ≡ specs → IsAnswer old new e h a → a ≡ Ok (Arrived trace)
      → Ends rule specs k h (e ∷ es) x
      → (next : History) × StandsFor new next × Ends rule specs (suc k) next es x
  after-arrival k old new h e es x a trace r q (arrived next goes-to is stands) same ends =
      let P : Lengths → Type 0 = λ l. IsClean l (specs_of new) next.present.arrived in
      let Q : List Spec → Type 0 = λ ss. IsClean rule ss next.present.arrived in (
        next,
        stands,
        goes-on k h next e es x true is goes-to
            (λ t. subst Q q (subst P r stands.quiet.now)) ends,
      )
  after-arrival k old new h e es x a trace r q (quiet next goes-to is stands) same ends =
      absurd (cc)
  after-arrival k old new h e es x a trace r q
      (violated next s t tuple goes-to is found off) same ends = absurd (cc)
  after-arrival k old new h e es x a trace r q (refused_by why stops stands) same ends = absurd (cc)
  after-arrival k old new h e es x a trace r q (spent takes stands) same ends = absurd (cc)

  after-violation : (k : ℕ) (old new : Held) (h : History) (e : Event) (es : List Event)
      (x : Ending) (a : Result Reply RvError)
      (s trace : ℕ) (tuple : List ℕ) → old.rule ≡ rule → specs_of old ≡ specs
      → IsAnswer old new e h a
      → a ≡ Ok (Violation s trace tuple) → Ends rule specs k h (e ∷ es) x
      → EndsAs rule specs x (violation_at k s trace tuple)
  after-violation k old new h e es x a s trace tuple r q
      (violated next s' t' tuple' goes-to is found off) same ends =
      let P : Lengths → Type 0 = λ l. IsFound l (specs_of old) next.present.arrived s' t' tuple' in
      let Q : List Spec → Type 0 = λ ss. IsFound rule ss next.present.arrived s' t' tuple' in
      let stop : violation_at k s' t' tuple' ≡ violation_at k s trace tuple = cc in
      let R : Stop → Type 0 = EndsAs rule specs x in
      subst R stop
      (violated-end k h next e es x s' t' tuple' is goes-to (subst Q q (subst P r found)) ends)
  after-violation k old new h e es x a s trace tuple r q (quiet next goes-to is stands) same ends =
      absurd (cc)
  after-violation k old new h e es x a s trace tuple r q
      (arrived next goes-to is stands) same ends = absurd (cc)
  after-violation k old new h e es x a s trace tuple r q (refused_by why stops stands) same ends =
      absurd (cc)
  after-violation k old new h e es x a s trace tuple r q (spent takes stands) same ends =
      absurd (cc)

  after-error : (k : ℕ) (old new : Held) (h : History) (e : Event) (es : List Event) (x : Ending)
      (a : Result Reply RvError)
      (why : RvError) → IsAnswer old new e h a → a ≡ Err why → Ends rule specs k h (e ∷ es) x
      → Agrees rule specs x (error_at k why)
  after-error k old new h e es x a why (refused_by r stops stands) same ends =
      let known : x ≡ refusal k r = refused-end k h e es x r stops ends in
      let P : Ending → Type 0 = λ q. EndsAs rule specs q (error_at k why) in
      let cause : why ≡ error_of r = cc in
      inl (subst P (sym known) (refl, cause))
  after-error k old new h e es x a why (spent takes stands) same ends =
      let memory : why ≡ error.Memory = cc in inr (k, ap (error_at k) memory)
  after-error k old new h e es x a why (quiet next goes-to is stands) same ends = absurd (cc)
  after-error k old new h e es x a why (arrived next goes-to is stands) same ends = absurd (cc)
  after-error k old new h e es x a why (violated next s t tuple goes-to is found off) same ends =
      absurd (cc)

  runs-on : (k : ℕ) (m : Held) (h : History) (es : List Event) (stop : Stop) (x : Ending)
      → m.rule ≡ rule → specs_of m ≡ specs
      → StandsFor m h → Runs k m es stop → Ends rule specs k h es x → Agrees rule specs x stop
  runs-on k m h es stop x r q s (at_end k' m') ends =
      let P : Ending → Type 0 = λ y. EndsAs rule specs y (through m) in inl (subst P (sym ends) s)
  runs-on k m h es stop x r q s (on_quiet k' m' next e es' stop' a later) ends =
      let (after, stands, rest) =
      after-quiet k m next h e es' x (Ok Quiet) (a.rule ∙ r) (a.specs ∙ q)
      (a.right h s) refl ends in
      runs-on (suc k) next after es' stop x (a.rule ∙ r) (a.specs ∙ q) stands later rest
  runs-on k m h es stop x r q s (on_arrival k' m' next e es' stop' trace a later) ends =
      let (after, stands, rest) =
      after-arrival k m next h e es' x (Ok (Arrived trace)) trace (a.rule ∙ r) (a.specs ∙ q)
      (a.right h s) refl ends in
      runs-on (suc k) next after es' stop x (a.rule ∙ r) (a.specs ∙ q) stands later rest
  runs-on k m h es stop x r q s (at_violation k' m' next e es' spec trace tuple a) ends =
      inl (after-violation k m next h e es' x (Ok (Violation spec trace tuple)) spec trace tuple r q
      (a.right h s) refl ends)
  runs-on k m h es stop x r q s (at_error k' m' next e es' why a) ends =
      after-error k m next h e es' x (Err why) why (a.right h s) refl ends

pub runs-end : (k : ℕ) (m : Held) (h : History) (es : List Event) (stop : Stop) (x : Ending)
    → StandsFor m h → Runs k m es stop
    → Ends m.rule (specs_of m) k h es x → Agrees m.rule (specs_of m) x stop
runs-end k m h es stop x s runs ends =
    runs-on m.rule (specs_of m) k m h es stop x refl refl s runs ends
