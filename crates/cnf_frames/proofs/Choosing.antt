-- Assignments with a given path and given further variables.
use Rattle.std.proofs.Common.{◌≡◌, ℕ, suc, ◌+◌, ◌-◌, ◌*◌, ◌/◌, ◌%◌, ◌<◌, Bool, false, cond, nat_lt, sym, ap, ◌∙◌, arith}
use Rattle.std.proofs.lemmas.Nat.{mod-mul-add, div-mul-add}
use Rattle.hy_base.proofs.Truths.{cond-below, cond-above}
use Rattle.hy_base.proofs.Places.{below-row}
use Rattle.aig_net.specs.Nets.{variables}
use Rattle.aig_net.specs.Executions.{Word}
use Rattle.live_safe.specs.declared.safe_net.SafeNet.{SafeNet}
use Rattle.live_safe.specs.Paths.{IsBadPath}
use Rattle.cnf_frames.specs.Facts.{IsSafe}
use Rattle.cnf_frames.specs.Queries.{base_clauses}
use Rattle.chain_check.specs.Values.{Assignment, AllMet}
use Rattle.cnf_frames.proofs.Meanings.{path_of}
use Rattle.cnf_frames.proofs.FramePaths.{base-met}
use Rattle.cnf_frames.proofs.Likeness.{bad-alike}

-- variables of frames below D, and further ones from D on
abbrev pub chosen : ℕ → ℕ → Word → (ℕ → Bool) → Assignment
chosen V D word extra x = cond (nat_lt x D) (word (x / V) (x % V)) (extra (x - D))

pub chosen-path : (V D : ℕ) (word : Word) (extra : ℕ → Bool) (i v : ℕ) → v < V → i * V + v < D →
    path_of V (chosen V D word extra) i v ≡ word i v
chosen-path V D word extra i v lt few =
    cond-below (i * V + v) D _ _ few
    ∙ ap (λ x. word x ((i * V + v) % V)) (div-mul-add i V v lt) ∙ ap (word i) (mod-mul-add i V v lt)

pub chosen-extra : (V D : ℕ) (word : Word) (extra : ℕ → Bool) (y : ℕ) →
    chosen V D word extra (D + y) ≡ extra y
chosen-extra V D word extra y =
    let at : D + y - D ≡ y = omega arith in
    cond-above (D + y) D _ _ (omega arith) ∙ ap extra at

pub base-exists : (safe : SafeNet) (k : ℕ) (word : Word) → IsSafe safe → IsBadPath safe k word →
    (a : Assignment) × AllMet a (base_clauses safe k)
base-exists safe k word good is =
    let V : ℕ = variables safe.net in
    let D : ℕ = suc k * V in
    let a : Assignment = chosen V D word (λ _. false) in (
      a,
      (base-met safe k a good.zero).1 (bad-alike safe good k word (path_of V a)
          (λ i le u lt. sym (chosen-path V D word (λ _. false) i u lt
          (below-row V u i (suc k) lt (omega arith)))) is),
    )
