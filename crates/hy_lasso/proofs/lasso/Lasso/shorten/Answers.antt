use Rattle.std.proofs.Common.{◌∙◌, List, take, subst}
use Rattle.hy_bits.specs.Letter.{Letter}
use Rattle.hy_lasso.specs.Rounds.{IsLeastRound, IsSharedEnd}
use Rattle.hy_lasso.proofs.Shortening.{same-word, normal, stem-within, cycle-within}
use Rattle.hy_lasso.proofs.lasso.Lasso.shorten.Goals as goal

-- what the steps found
round_of : (c : goal.After-rotate_right) → IsLeastRound c.self.inside.cycle c.least_round.result
round_of c =
    let r = c.least_round.ensures in
    let found : IsLeastRound c.as_slice.result.now c.least_round.result =
    record { some = r.some; whole = r.whole; few = r.few; repeats = r.repeats; least = r.least }
    in
    let P : List Letter → Type 0 = λ xs. IsLeastRound xs c.least_round.result in
    subst P c.as_slice.ensures found

shared_of : (c : goal.After-rotate_right) → IsSharedEnd c.self.inside.stem (take c.least_round.result c.self.inside.cycle) c.shared_end-shared.result
shared_of c =
    let s = c.shared_end-shared.ensures in
    let found : IsSharedEnd c.as_slice-2.result.now c.as_slice-3.result.now c.shared_end-shared.result =
    record { few = s.few; same = s.same; most = s.most }
    in
    let P : List Letter → Type 0 = λ xs. IsSharedEnd xs c.as_slice-3.result.now c.shared_end-shared.result in
    let Q : List Letter → Type 0 = λ xs. IsSharedEnd c.self.inside.stem xs c.shared_end-shared.result in
    subst Q (c.as_slice-3.ensures ∙ c.truncate.ensures) (subst P c.as_slice-2.ensures found)

pub returns-clause-word : goal.returns-clause-word
returns-clause-word c =
    rw (c.rotate_right.ensures, c.len-2.ensures, c.truncate-2.ensures, c.len.ensures, c.truncate.ensures, ← c.self.view_is)
    (same-word _ _ _ _ c.self.invariant (round_of c) (shared_of c))

pub returns-clause-normal : goal.returns-clause-normal
returns-clause-normal c =
    rw (c.rotate_right.ensures, c.len-2.ensures, c.truncate-2.ensures, c.len.ensures, c.truncate.ensures)
    (normal _ _ _ _ c.self.invariant (round_of c) (shared_of c))

pub returns-clause-stem : goal.returns-clause-stem
returns-clause-stem c =
    rw (c.truncate-2.ensures, c.len.ensures, ← c.self.view_is)
    (stem-within _ _ _ _ c.self.invariant (round_of c) (shared_of c))

pub returns-clause-cycle : goal.returns-clause-cycle
returns-clause-cycle c =
    rw (c.rotate_right.ensures, c.len-2.ensures, c.truncate.ensures, ← c.self.view_is)
    (cycle-within _ _ _ _ c.self.invariant (round_of c) (shared_of c))
