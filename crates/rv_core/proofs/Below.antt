-- What is kept with a trace more has numbers below the next one.
use Rattle.std.proofs.Common.{◌≡◌, ℕ, zero, suc, ◌+◌, ◌<◌, List, [], ◌∷◌, ◌++◌, length, slice_get, Some, Bool, refl, sym, subst, arith}
use Rattle.std.proofs.lemmas.Option.{slice_get_within}
use Rattle.hy_formula.specs.Quantifiers.{Each}
use Rattle.hy_formula.proofs.Each.{each-append, each-like}
use Rattle.hy_finite.specs.declared.lengths.Lengths.{Lengths}
use Rattle.hy_finite.specs.Traces.{Trace}
use Rattle.fin_monitor.specs.Machines.{Machine}
use Rattle.trace_trie.specs.Numbered.{Numbered}
use Rattle.rv_core.specs.Arrivals.{AreNext, IsNext, over, last}
use Rattle.rv_core.specs.Held.{spec_of}
use Rattle.rv_core.specs.Keeping.{kept_at}
use Rattle.rv_core.specs.Masks.{masked}
use Rattle.rv_core.proofs.Places.{each-from}
use Rattle.rv_core.proofs.Seeing.{kept-there}
use Rattle.rv_core.proofs.Sifting.{left-each}

abbrev Below : ℕ → List Numbered → Type 0
Below n list = Each (λ (p : Numbered). p.0 < n) list

below-more : (n : ℕ) (list : List Numbered) → Below n list → Below (n + 1) list
below-more n list e =
    each-like (λ (p : Numbered). p.0 < n) (λ (p : Numbered). p.0 < n + 1) (λ p lt. omega arith) list e

below-push : (n : ℕ) (t : Trace) (list : List Numbered) → Below n list
    → Below (n + 1) (list ++ (n, t) ∷ [])
below-push n t list e =
    each-append (λ (p : Numbered). p.0 < n + 1) list ((n, t) ∷ []) (below-more n list e)
    (omega arith, tt)

below-at : (n : ℕ) (kept : List (List Numbered)) (s : ℕ) → Each (Below n) kept
    → Below n (kept_at kept s)
below-at n [] s e = tt
below-at n (list ∷ lists) zero e = e.0
below-at n (list ∷ lists) (suc s) e = below-at n lists s e.1

one-below : (rule : Lengths) (drop : Bool) (m : Machine) (t : Trace) (n : ℕ)
    (old new : List Numbered) → IsNext rule drop m t n old new → Below n old → Below (n + 1) new
one-below rule drop m t n old new (over p c o e) below =
    let P : List Numbered → Type 0 = Below (n + 1) in subst P (sym e) (below-more n old below)
one-below rule drop m t n old new (last left no_over are e) below =
    let P : List Numbered → Type 0 = Below (n + 1) in
    subst P (sym e)
    (below-push n t left (left-each rule drop m t (λ (p : Numbered). p.0 < n) old left are below))

pub machine-some : (ms : List Machine) (s : ℕ) → s < length ms
    → (m : Machine) × (slice_get ms s ≡ Some m)
machine-some [] s lt = absurd (omega arith)
machine-some (m ∷ ms) zero lt = (m, refl)
machine-some (m ∷ ms) (suc s) lt = machine-some ms s (omega arith)

pub next-below : (rule : Lengths) (drop : Bool) (ms : List Machine) (n : ℕ) (t : Trace)
    (old new : List (List Numbered)) → AreNext rule drop ms n t old new → Each (Below n) old
    → Each (Below (n + 1)) new
next-below rule drop ms n t old new next below =
    each-from (Below (n + 1)) new (λ s list at.
    let within = slice_get_within new s list at in
    let (m, there) = machine-some ms s (omega (arith, within, next.long)) in
    let P : List Numbered → Type 0 = Below (n + 1) in
    subst P (kept-there new s list at)
    (one-below rule drop m (masked (spec_of m) t) n (kept_at old s) (kept_at new s)
    (next.right s m there) (below-at n old s below)))
