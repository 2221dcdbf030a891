use Rattle.std.proofs.Common.{◌≡◌, ℕ, List, ◌++◌, length, ◌∙◌, ap, subst}
use Rattle.aig_net.specs.declared.parts.And.{And}
use Rattle.aig_net.specs.Nets.{literal_at}
use Rattle.aig_net.specs.Wires.{Wire}
use Rattle.sym_tableau.specs.declared.places.Places.{Places}
use Rattle.sym_tableau.specs.Oracles.{gathered}
use Rattle.sym_tableau.specs.Places.{Adds, beginning_at, promise_at}
use Rattle.sym_tableau.proofs.Stepping.{adds-both, front-room, rest-room}
use Rattle.sym_tableau.proofs.promises.add_constraints.Goals as goal

beginnings-of : (p : Places) (lit : ℕ → ℕ) (roots all : List ℕ) → roots ≡ all →
    gathered (beginning_at p lit roots) (length roots) ≡ gathered (beginning_at p lit all)
    (length all)
beginnings-of p lit roots all e =
    ap (λ r. gathered (beginning_at p lit r) (length r)) e

joined : (first other : ℕ) (old mid new : List And) (xs ys ws : List Wire) (a b c : List ℕ) →
    Adds first old xs mid a b → other ≡ first → ws ≡ ys → Adds other mid ws new b c →
    Adds first old (xs ++ ys) new a c
joined first other old mid new xs ys ws a b c one e same two =
    let P : ℕ → Type 0 = λ first. Adds first mid ws new b c in
    let Q : List Wire → Type 0 = λ ws. Adds first mid ws new b c in
    adds-both first old mid new xs ys a b c one (subst Q same (subst P e two))

pub add_promises-requires-clause-room : goal.add_promises-requires-clause-room
add_promises-requires-clause-room c =
    front-room c.args.gates.now.first c.args.gates.now.ands
    (gathered (promise_at c.args.places.now c.args.closure.now.nodes
    (literal_at c.args.values.now)) (length c.args.closure.now.nodes))
    (gathered (beginning_at c.args.places.now (literal_at c.args.values.now)
    c.args.closure.now.roots) (length c.args.closure.now.roots)) c.requires.room

pub add_beginnings-requires-clause-room : goal.add_beginnings-requires-clause-room
add_beginnings-requires-clause-room c =
    rest-room c.args.gates.now.first _ c.args.gates.now.ands _ _ _ _ _ _ c.requires.room
    c.in_ok-add_promises.ensures.added c.in_ok-add_promises.ensures.first
    (beginnings-of c.args.places.now (literal_at c.args.values.now) _ c.args.closure.now.roots
    (c.as_slice-roots.ensures ∙ c.roots.ensures.roots))

pub returns-clause-added : goal.returns-clause-added
returns-clause-added c =
    joined c.args.gates.now.first _ c.args.gates.now.ands _ _ _ _ _ _ _ _
    c.in_ok-add_promises.ensures.added c.in_ok-add_promises.ensures.first
    (beginnings-of c.args.places.now (literal_at c.args.values.now) _ c.args.closure.now.roots
    (c.as_slice-roots.ensures ∙ c.roots.ensures.roots)) c.in_ok-add_beginnings.ensures.added
