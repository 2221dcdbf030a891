use Rattle.std.proofs.Common.{◌≡◌, ℕ, ◌≤◌, List, IfOk, sym, ap, ◌∙◌, subst, arith}
use Rattle.aig_net.specs.declared.signals.Signal.{Signal}
use Rattle.aig_net.specs.Nets.{Net, variables}
use Rattle.self_compose.specs.Copies.{compose}
use Rattle.sym_tableau.specs.Oracles.{attach, signal_in}
use Rattle.sym_tableau.specs.Places.{AreWithin, AttachFits}
use Rattle.ltl_closure.specs.Nodes.{Node}
use Rattle.wit_lasso.specs.FormulaNets.{copy_signals}
use Rattle.wit_lasso.proofs.CopySignals.{copies-within}
use Rattle.formula_nets.proofs.Growing.{attach-grows, literals-small}
use Rattle.formula_nets.specs.SafeNets.{net_over}
use Rattle.formula_nets.proofs.safe_nets.net_over.Goals as goal

-- what the room for the net with oracles leaves
room-composed : (net : Net) (signals : List Signal) (n : ℕ) (nodes : List Node) (roots : List ℕ) →
    variables (attach (compose net n) nodes (signal_in (copy_signals n signals)) roots) ≤ 2147483648
    → variables (compose net n) ≤ 2147483648
room-composed net signals n nodes roots room =
    let a = attach-grows (compose net n) nodes (signal_in (copy_signals n signals)) roots in
    omega (arith, a, room)

pub compose-requires-clause-room : goal.compose-requires-clause-room
compose-requires-clause-room c =
    room-composed c.args.net.now c.args.signals.now c.args.n c.args.closure.now.nodes
    c.args.closure.now.roots c.requires.room

pub copy_signals-requires-clause-small : goal.copy_signals-requires-clause-small
copy_signals-requires-clause-small c =
    literals-small c.args.net.now c.args.n c.args.signals.now c.requires.own.within
    (room-composed c.args.net.now c.args.signals.now c.args.n c.args.closure.now.nodes
    c.args.closure.now.roots c.requires.room)

pub attach-requires-clause-signals : goal.attach-requires-clause-signals
attach-requires-clause-signals c =
    let P : Net → Type 0 = λ net. AreWithin (variables net) c.in_ok-own.own in
    let Q : List Signal → Type 0 = AreWithin (variables (compose c.args.net.now c.args.n)) in
    subst P (sym c.in_ok-copies.ensures) (subst Q (sym c.in_ok-own.ensures)
    (copies-within c.args.net.now c.args.n c.requires.some c.args.signals.now c.requires.own))

pub attach-requires-clause-room : goal.attach-requires-clause-room
attach-requires-clause-room c =
    let P : Net → Type 0 = λ net. AttachFits net c.args.closure.now.nodes
    (signal_in c.in_ok-own.own) c.args.closure.now.roots in
    let Q : List Signal → Type 0 = λ s. AttachFits (compose c.args.net.now c.args.n)
    c.args.closure.now.nodes (signal_in s) c.args.closure.now.roots in
    subst P (sym c.in_ok-copies.ensures) (subst Q (sym c.in_ok-own.ensures) c.requires.room)

pub returns : goal.returns
returns c =
    let net = compose c.args.net.now c.args.n in
    let whole : attach c.in_ok-copies.copies c.args.closure.now.nodes (signal_in c.in_ok-own.own)
    c.args.closure.now.roots
    ≡ net_over c.args.net.now c.args.signals.now c.args.n c.args.closure.now =
    ap (λ (x : Net). attach x c.args.closure.now.nodes (signal_in c.in_ok-own.own)
    c.args.closure.now.roots) c.in_ok-copies.ensures
    ∙ ap (λ (s : List Signal). attach net c.args.closure.now.nodes (signal_in s)
    c.args.closure.now.roots) c.in_ok-own.ensures in
    let P : Net → Type 0 = λ a. IfOk c.attach.result (λ (made : Net). made ≡ a) in
    subst P whole c.attach.ensures
