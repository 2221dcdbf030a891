-- What puts took, one after another.
use Rattle.std.proofs.Common.{◌≡◌, ℕ, ◌-◌, ◌+◌, List, [], ◌++◌, take, sym, subst, ap, ◌∙◌, append_assoc, append-nil}
use Rattle.hy_base.specs.Sink.{Took, nothing, more}
use Rattle.hy_base.specs.Talks.{took}
use Rattle.hy_base.specs.declared.sink.Sink.{Ghosts}

pub took_nothing : {S : Type 0} (g : Ghosts S) (old : S) (bytes : List ℕ) → bytes ≡ [] → Took g old bytes old
took_nothing g old bytes e = subst (λ b. Took g old b old) (sym e) nothing

pub took_more : {S : Type 0} (g : Ghosts S) (old mid new : S) (bytes piece whole : List ℕ) → Took g old bytes mid
    → g.called mid (took piece) new → whole ≡ bytes ++ piece → Took g old whole new
took_more g old mid new bytes piece whole taken called e =
    subst (λ b. Took g old b new) (sym e) (more bytes piece mid new taken called)

-- puts behind puts
pub took_on : {S : Type 0} (g : Ghosts S) (old mid new : S) (front bytes : List ℕ) → Took g old front mid → Took g mid bytes new
    → Took g old (front ++ bytes) new
took_on g old mid _ front _ before nothing = subst (λ b. Took g old b mid) (sym (append-nil front)) before
took_on g old mid new front _ before (more bytes piece last _ taken called) =
    subst (λ b. Took g old b new) (append_assoc front bytes piece)
    (more (front ++ bytes) piece last new (took_on g old mid last front bytes before taken) called)

-- the same bytes, put by put
pub took_same : {S : Type 0} (g : Ghosts S) (old new : S) (bytes whole : List ℕ) → Took g old bytes new → bytes ≡ whole → Took g old whole new
took_same g old new bytes whole taken e = subst (λ b. Took g old b new) e taken

-- what was given then, and what was given since
pub given_on : (old mid now front bytes : List ℕ) → mid ≡ old ++ front → now ≡ mid ++ bytes → now ≡ old ++ (front ++ bytes)
given_on old mid now front bytes e f = f ∙ ap (λ m. m ++ bytes) e ∙ append_assoc old front bytes
