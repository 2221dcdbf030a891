-- A net is no larger than its copies, those with oracles, and the safe net of these.
use Rattle.std.proofs.Common.{◌≡◌, ℕ, suc, ◌+◌, ◌*◌, ◌/◌, ◌^◌, ◌<◌, ◌≤◌, List, get_or, length, length-append, arith, All}
use Rattle.std.proofs.Math.Nat.{mul-le-mul_left}
use Rattle.std.proofs.lemmas.List.{length-map}
use Rattle.ltl_closure.specs.Nodes.{Node}
use Rattle.aig_net.specs.declared.signals.Signal.{Signal}
use Rattle.aig_net.specs.Nets.{Net, variables}
use Rattle.aig_net.proofs.Copying.{length-copied}
use Rattle.aig_net.proofs.Wiring.{all-grow, each-grow}
use Rattle.self_compose.specs.Copies.{compose, copy_and, copy_literal}
use Rattle.sym_tableau.specs.Oracles.{attach, attached_first, kept_wires, ends, promises, member_wire, members, moved_and, moved_literal, oracle}
use Rattle.sym_tableau.specs.Places.{AreWithin}
use Rattle.sym_tableau.proofs.Parts.{many-latches}
use Rattle.aig_net.specs.Nets.{literal_at}
use Rattle.ltl_closure.specs.Nodes.{node_at}
use Rattle.live_safe.specs.Safe.{closing_wires, effectives, safe_and, safe_ands, safe_first, saving, saving_wires, to_safe}
use Rattle.live_safe.proofs.SafeGates.{first-safe}
use Rattle.std.specs.Prelude.{map}

pub safe-grows : (net : Net) → variables net ≤ variables (to_safe net).net
safe-grows net =
    let a = all-grow (safe_first net) (saving net).ands (closing_wires net) in
    let b = all-grow (safe_first net) (safe_ands net) (saving_wires net) in
    let c = length-append (effectives net).ands (map (safe_and net) net.ands) in
    let d = length-map net.ands (safe_and net) in
    let e = first-safe net in
    omega (arith, a, b, c, d, e)

pub attach-grows : (net : Net) (nodes : List Node) (signals : ℕ → ℕ → ℕ) (roots : List ℕ) →
    variables net ≤ variables (attach net nodes signals roots)
attach-grows net nodes signals roots =
    let first : ℕ = attached_first net nodes in
    let lit : ℕ → ℕ = literal_at (members net nodes signals).literals in
    let a = all-grow first (kept_wires net nodes signals roots).ands (ends nodes lit) in
    let b = all-grow first (members net nodes signals).ands (promises net nodes lit roots) in
    let c = each-grow first (map (moved_and net nodes) net.ands)
    (λ lit k. member_wire (λ n v. moved_literal net nodes (signals n v)) lit
    (oracle net nodes k) (node_at nodes k)) (length nodes) in
    let d = length-map net.ands (moved_and net nodes) in
    let e = many-latches net nodes in
    omega (arith, a, b, c, d, e)

-- how many variables the copies have
copies-many : (net : Net) (n : ℕ) →
    suc ((net.inputs + length net.latches + length net.ands) * n) ≡ variables (compose net n)
copies-many net n =
    let a = length-copied n (copy_literal n) net.latches in
    let b = length-copied n (copy_and n) net.ands in
    omega (arith, a, b)

pub literals-small : (net : Net) (n : ℕ) (signals : List Signal) →
    AreWithin (variables net) signals → variables (compose net n) ≤ 2 ^ 31 →
    All (λ s. s.literal / 2 * n < 2 ^ 31) signals
literals-small net n signals within room k d lt =
    let below = within k d lt in
    let many = copies-many net n in
    let m : ℕ = net.inputs + length net.latches + length net.ands in
    let x : ℕ = (get_or signals k d).literal / 2 in
    let le : x ≤ m = omega (arith, below) in
    let l : n * x ≤ n * m = mul-le-mul_left n le in
    omega (arith, l, many, room)
