-- What a monitor stands for where a whole trace has arrived.
use Rattle.std.proofs.Common.{◌≡◌, ℕ, suc, ◌+◌, ◌<◌, List, [], ◌∷◌, ◌++◌, length, take, get_or, Result, Ok, refl, sym, ap, ◌∙◌, subst, arith}
use Rattle.std.proofs.lemmas.Option.{slice_get_read}
use Rattle.hy_finite.specs.declared.event.Event.TheVariants as event
use Rattle.hy_finite.specs.Traces.{Trace}
use Rattle.tuple_walk.proofs.Lists.{take-more}
use Rattle.rv_core.specs.declared.reply.Reply.{Reply}
use Rattle.rv_core.specs.declared.reply.Reply.TheVariants.{Arrived}
use Rattle.rv_core.specs.declared.rv_error.RvError.{RvError}
use Rattle.rv_core.specs.Held.{Held, StandsFor}
use Rattle.rv_core.specs.Histories.{History, with_trace}
use Rattle.rv_core.specs.Replies.{IsAnswer, quiet, arrived, violated, refused_by, spent}

pub after-whole : (old new : Held) (h : History) (t : Trace) (a : Result Reply RvError) (n : ℕ)
    → IsAnswer old new (event.Whole t) h a → a ≡ Ok (Arrived n)
    → StandsFor new (with_trace h t h.present.sessions)
after-whole old new h t a n (arrived next goes-to is stands) same =
    let e : with_trace h t h.present.sessions ≡ next = cc in
    let P : History → Type 0 = StandsFor new in
    subst P (sym e) stands
after-whole old new h t a n (quiet next goes-to is stands) same = absurd (cc)
after-whole old new h t a n (violated next s k tuple goes-to is found off) same = absurd (cc)
after-whole old new h t a n (refused_by why stops stands) same = absurd (cc)
after-whole old new h t a n (spent takes stands) same = absurd (cc)

pub take-one : (xs : List Trace) (k : ℕ) (x y : Trace) → k < length xs → x ≡ get_or xs k x → y ≡ x
    → take k xs ++ y ∷ [] ≡ take (k + 1) xs
take-one xs k x y lt at same =
    let one : suc k ≡ k + 1 = omega arith in
    ap (λ (t : Trace). take k xs ++ t ∷ []) same
    ∙ sym (take-more xs k x (slice_get_read xs (length xs) k x refl lt at))
    ∙ ap (λ n. take n xs) one
