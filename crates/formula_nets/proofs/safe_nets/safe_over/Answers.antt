use Rattle.std.proofs.Common.{◌≡◌, ◌≤◌, IfOk, Result, Ok, Err, sym, subst, arith}
use Rattle.aig_net.specs.Nets.{Net, variables}
use Rattle.live_safe.specs.Safe.{to_safe}
use Rattle.live_safe.specs.declared.safe_net.SafeNet.{SafeNet}
use Rattle.cnf_frames.specs.Facts.{IsSafe}
use Rattle.formula_nets.proofs.Growing.{safe-grows}
use Rattle.formula_nets.specs.SafeNets.{net_over, safe_over}
use Rattle.formula_nets.proofs.MadeSafe.{over-safe}
use Rattle.formula_nets.proofs.safe_nets.safe_over.Goals as goal

-- What is made is a safe net where it is equal to one.
each-safe : {E : Type 0} (result : Result SafeNet E) (safe : SafeNet) → IsSafe safe →
    IfOk result (λ made. made ≡ safe) → IfOk result IsSafe
each-safe (Ok made) safe is same = let P : SafeNet → Type 0 = IsSafe in subst P (sym same) is
each-safe (Err e) safe is same = tt

pub net_over-requires-clause-room : goal.net_over-requires-clause-room
net_over-requires-clause-room c =
    let s = safe-grows (net_over c.args.net.now c.args.signals.now c.args.n c.args.closure.now) in
    let r = c.requires.room in
    omega (arith, s, r)

pub to_safe-requires : goal.to_safe-requires
to_safe-requires c =
    let P : Net → Type 0 = λ a. variables (to_safe a).net ≤ 2147483648 in
    subst P (sym c.in_ok-whole.ensures) c.requires.room

pub returns-clause-made : goal.returns-clause-made
returns-clause-made c =
    let P : Net → Type 0 = λ a. IfOk c.to_safe.result (λ (made : SafeNet). made ≡ to_safe a) in
    subst P c.in_ok-whole.ensures c.to_safe.ensures

pub returns-clause-safe : goal.returns-clause-safe
returns-clause-safe c =
    let P : Net → Type 0 = λ a. IfOk c.to_safe.result (λ (made : SafeNet). made ≡ to_safe a) in
    each-safe c.to_safe.result
    (safe_over c.args.net.now c.args.signals.now c.args.n c.args.closure.now)
    (over-safe c.args.net.now c.args.signals.now c.args.n c.variables.ensures.net c.requires.own
    c.requires.some c.args.closure.now c.len.ensures.operands c.paths_are_lassos.ensures.latches)
    (subst P c.in_ok-whole.ensures c.to_safe.ensures)
