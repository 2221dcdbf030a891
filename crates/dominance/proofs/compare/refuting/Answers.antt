use Rattle.std.proofs.Common.{ℕ, List, length, map, Some, None, sym, ap, ◌∙◌, subst}
use Rattle.hy_finite.specs.Traces.{Trace}
use Rattle.fin_monitor.specs.Codes.{part_of}
use Rattle.fin_monitor.specs.Machines.{Machine}
use Rattle.fin_monitor.specs.Seen.{machine_of}
use Rattle.fin_monitor.proofs.CodeBits.{code-lt}
use Rattle.dominance.specs.Choices.{Row, row_code, other_words}
use Rattle.dominance.specs.Dominance.{Refutes}
use Rattle.dominance.proofs.Meaning.{codes-below}
use Rattle.dominance.proofs.Refuting.{none-dominates, found-refutes, found-at}
use Rattle.dominance.proofs.compare.refuting.Goals as goal

pub search-requires : goal.search-requires
search-requires g c =
    let m : Machine = machine_of c.args.m.now in
    let codes_are = c.in_ok-codes.ensures in
    record {
      upper = codes-below m (part_of m.atoms c.args.place) (λ x. code-lt _ m.atoms) c.args.t.now
          c.as_slice-2.result.now (c.as_slice-2.ensures ∙ c.in_ok-upper.ensures);
      lower = codes-below m (part_of m.atoms c.args.place) (λ x. code-lt _ m.atoms) c.args.u.now
          c.as_slice-3.result.now (c.as_slice-3.ensures ∙ c.in_ok-lower.ensures);
      upper_codes = codes-below m (row_code m) (λ x. code-lt _ m.atoms) c.as_slice.result.now
          c.as_slice-4.result.now (c.as_slice-4.ensures ∙ codes_are);
      lower_codes = codes-below m (row_code m) (λ x. code-lt _ m.atoms) c.as_slice.result.now
          c.as_slice-5.result.now (c.as_slice-5.ensures ∙ codes_are);
      same = ap (λ (l : List ℕ). length l) (c.as_slice-5.ensures ∙ sym c.as_slice-4.ensures);
    }

pub returns-in-Some : goal.returns-in-Some
returns-in-Some g c =
    let codes_are = c.in_ok-codes.ensures
    ∙ ap (λ (l : List Row). map (row_code (machine_of c.args.m.now)) l) c.as_slice.ensures in
    let found = found-at (machine_of c.args.m.now) c.args.lengths c.args.place c.in_ok-rows.rows
    c.args.t.now c.args.u.now c.as_slice-2.result.now c.as_slice-3.result.now
    c.as_slice-4.result.now c.as_slice-5.result.now c.in_ok-path.field-0 (Some c.in-Some.path)
    (c.as_slice-2.ensures ∙ c.in_ok-upper.ensures)
    (c.as_slice-3.ensures ∙ c.in_ok-lower.ensures)
    (c.as_slice-4.ensures ∙ codes_are) (c.as_slice-5.ensures ∙ codes_are)
    c.in-Some.is c.in_ok-path.ensures in
    let words = c.in_ok-others-in-Some.ensures
    ∙ ap (λ (l : List Row). other_words l c.in-Some.path c.vars.result c.args.place)
    c.as_slice-in-Some.ensures
    ∙ ap (λ n. other_words c.in_ok-rows.rows c.in-Some.path n c.args.place)
    c.vars.ensures.vars in
    let P : List Trace → Type 0 = λ others.
    Refutes c.args.lengths c.args.m.now.vars (machine_of c.args.m.now).body c.args.t.now
    c.args.u.now c.args.place others in
    subst P (sym words) (found-refutes (machine_of c.args.m.now) c.args.m.now.right c.args.lengths
    c.in_ok-rows.rows c.args.t.now c.args.u.now c.requires.some_t c.requires.some_u c.args.place
    c.requires.place c.requires.two c.in_ok-rows.ensures c.in-Some.path found)

pub returns : goal.returns
returns g c =
    let codes_are = c.in_ok-codes.ensures
    ∙ ap (λ (l : List Row). map (row_code (machine_of c.args.m.now)) l) c.as_slice.ensures in
    let found = found-at (machine_of c.args.m.now) c.args.lengths c.args.place c.in_ok-rows.rows
    c.args.t.now c.args.u.now c.as_slice-2.result.now c.as_slice-3.result.now
    c.as_slice-4.result.now c.as_slice-5.result.now c.in_ok-path.field-0 None
    (c.as_slice-2.ensures ∙ c.in_ok-upper.ensures)
    (c.as_slice-3.ensures ∙ c.in_ok-lower.ensures)
    (c.as_slice-4.ensures ∙ codes_are) (c.as_slice-5.ensures ∙ codes_are)
    c.in-None.is c.in_ok-path.ensures in
    none-dominates (machine_of c.args.m.now) c.args.m.now.right c.args.lengths c.in_ok-rows.rows
    c.args.t.now c.args.u.now c.requires.some_t c.requires.some_u c.args.place
    c.in_ok-rows.ensures c.requires.two found
