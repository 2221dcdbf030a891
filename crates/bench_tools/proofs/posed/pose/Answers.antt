use Rattle.std.proofs.Common.{◌≡◌, ℕ, ◌≤◌, Bool, List, length, sym, subst, arith}
use Rattle.hy_base.specs.Limits.{most}
use Rattle.hy_base.specs.declared.limit.Kind.TheVariants.{Closure}
use Rattle.hy_formula.specs.Trees.{Tree, tree_of}
use Rattle.hy_formula.specs.declared.prefix.Quant.{Quant}
use Rattle.aig_net.specs.declared.signals.Signal.{Signal}
use Rattle.aig_net.specs.Nets.{Net, variables}
use Rattle.net_names.specs.Names.{AreSignals}
use Rattle.ltl_closure.specs.Bodies.{body_nodes}
use Rattle.wit_lasso.specs.FormulaNets.{formula_net, formula_safe}
use Rattle.formula_nets.specs.Posed.{HasRoom, IsPosed, IsTaken, is_existential}
use Rattle.formula_nets.proofs.Growing.{safe-grows}
use Rattle.bench_tools.proofs.posed.pose.Goals as goal

safe-room : (net : Net) (names : List (List ℕ)) (prefix : List Quant) (body : Tree) (b : Bool)
    (n : ℕ) (signals : List Signal) → HasRoom net names prefix body → IsTaken prefix →
    b ≡ is_existential prefix → length (body_nodes body b) ≤ most Closure →
    AreSignals net names body signals → n ≡ length prefix →
    variables (formula_safe net signals n body b).net ≤ 2147483648
safe-room net names prefix body b n signals room taken kind few are len =
    let F : Bool → Type 0 = λ b. length (body_nodes body b) ≤ most Closure in
    let posed : IsPosed net names prefix body signals = record {
      taken = taken;
      few = subst F kind few;
      signals_are = are;
    } in
    let M : ℕ → Type 0 = λ n. variables (formula_safe net signals n body b).net ≤ 2147483648 in
    let C : Bool → Type 0 = λ b. variables (formula_safe net signals (length prefix) body b).net
    ≤ 2147483648 in
    subst M (sym len) (subst C (sym kind) (room signals posed))

whole-room : (net : Net) (signals : List Signal) (n : ℕ) (body : Tree) (b : Bool) →
    variables (formula_safe net signals n body b).net ≤ 2147483648 →
    variables (formula_net net signals n body b) ≤ 2147483648
whole-room net signals n body b room =
    let grows = safe-grows (formula_net net signals n body b) in
    omega (arith, grows, room)

pub net_for-requires-clause-own : goal.net_for-requires-clause-own
net_for-requires-clause-own c =
    c.signals_are_own.ensures c.args.net.now c.args.names.now (tree_of c.args.formula.now.body)
    c.in_ok-signals.signals c.variables.ensures.net c.in_ok-signals.ensures.signals

pub net_for-requires-clause-room : goal.net_for-requires-clause-room
net_for-requires-clause-room c =
    whole-room c.args.net.now c.in_ok-signals.signals _ (tree_of c.args.formula.now.body)
    c.args.existential
    (safe-room c.args.net.now c.args.names.now c.args.formula.now.prefix
    (tree_of c.args.formula.now.body) c.args.existential _ c.in_ok-signals.signals
    c.requires.room c.requires.taken c.requires.kind c.in_ok-closure.ensures.few
    c.in_ok-signals.ensures.signals c.len-n.ensures.len)

pub safe_for-requires-clause-own : goal.safe_for-requires-clause-own
safe_for-requires-clause-own c =
    c.signals_are_own.ensures c.args.net.now c.args.names.now (tree_of c.args.formula.now.body)
    c.in_ok-signals.signals c.variables.ensures.net c.in_ok-signals.ensures.signals

pub safe_for-requires-clause-room : goal.safe_for-requires-clause-room
safe_for-requires-clause-room c =
    safe-room c.args.net.now c.args.names.now c.args.formula.now.prefix
    (tree_of c.args.formula.now.body) c.args.existential _ c.in_ok-signals.signals
    c.requires.room c.requires.taken c.requires.kind c.in_ok-closure.ensures.few
    c.in_ok-signals.ensures.signals c.len-n.ensures.len
