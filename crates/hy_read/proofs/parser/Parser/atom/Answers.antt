use Rattle.std.proofs.Common.{length, ◌<◌, refl, sym, ap, arith, map}
use Rattle.std.specs.Option.{option_map}
use Rattle.std.proofs.lemmas.List.{length-map}
use Rattle.hy_formula.specs.Trees.{tree_of, atom as atom_tree}
use Rattle.hy_read.specs.Parses.{means}
use Rattle.hy_read.proofs.Building.{below_atom, atom_parts, leaf_parsed, no_number, no_place, same_atom}
use Rattle.hy_read.proofs.Passing.{last_place_below}
use Rattle.hy_read.proofs.parser.Parser.atom.Goals as goal

pub returns-in_default-find-clause-built : goal.returns-in_default-find-clause-built
returns-in_default-find-clause-built c = λ parens high tokens s tree rest d stops.
    let (meant, left) = atom_parts (means c.args.self.now) d in
    absurd (no_number _ _ _ _ _ _ (ap (option_map (λ n. n.now)) c.in-Some.is) meant (sym c.in_default-find.ensures.place))

pub returns-in_default-last_place-clause-built : goal.returns-in_default-last_place-clause-built
returns-in_default-last_place-clause-built c = λ parens high tokens s tree rest d stops.
    let (meant, left) = atom_parts (means c.args.self.now) d in
    absurd (no_place _ _ _ _ _ _ (ap (option_map (λ n. n.now)) c.in-Some.is) meant (sym c.in_default-last_place.ensures))

pub overflow_cast-atom : goal.overflow_cast-atom
overflow_cast-atom c =
    let below = last_place_below (map (λ v. v.now) c.args.self.now.variables.now) c.args.variable.now c.in-Some-last_place.var (sym c.in-Some-last_place.ensures) in
    let few = c.args.self.now.few in
    omega (arith, below, few, length-map c.args.self.now.variables.now (λ v. v.now))

pub returns-clause-built : goal.returns-clause-built
returns-clause-built c = λ parens high tokens s tree rest d stops.
    let (meant, left) = atom_parts (means c.args.self.now) d in
    let same = same_atom _ _ _ _ _ _ _ _ (ap (option_map (λ n. n.now)) c.in-Some.is) meant (sym c.in-Some-find.ensures.place) (sym c.in-Some-last_place.ensures) in
    leaf_parsed (means c.args.self.now) c.args.self.now.text.now tree (atom_tree c.in-Some-find.name c.in-Some-last_place.var) rest tokens c.leaf-2.result (rw c.leaf-2.ensures.body refl) same refl c.leaf-2.ensures.height left (c.leaf-2.ensures.followed tokens s)

pub returns-clause-sized : goal.returns-clause-sized
returns-clause-sized c =
    let placed = last_place_below (map (λ v. v.now) c.args.self.now.variables.now) c.args.variable.now c.in-Some-last_place.var (sym c.in-Some-last_place.ensures) in
    let less : c.in-Some-last_place.var < length c.args.self.now.variables.now = omega (arith, placed, length-map c.args.self.now.variables.now (λ v. v.now)) in
    let one = c.leaf-2.ensures.height in
    record {
      low = omega arith;
      within = c.leaf-2.ensures.within;
      below = below_atom _ c.in-Some-find.name c.in-Some-last_place.var _ (ap tree_of c.leaf-2.ensures.body) less;
    }
