use Rattle.std.proofs.Common.{◌≡◌, ◌++◌, ◌∷◌, [], length, List, inl, inr, sym, ap, subst, ◌∙◌, arith, append_assoc, take}
use Rattle.std.specs.Prelude.{Contains}
use Rattle.std.proofs.lemmas.List.{take_all, take_more}
use Rattle.std.proofs.lemmas.List.Elements.{Contains-append_cases}
use Rattle.std.proofs.lemmas.Option.{get_or_from_slice_get, slice_get_within}
use Rattle.chain_check.specs.Clauses.{Clause}
use Rattle.invar_find.proofs.groups.joined.Goals as goal

pub loop-i-preserved : goal.loop-i-preserved
loop-i-preserved c =
    let first = c.args.first.now.clauses in
    let more = c.args.then.now.clauses in
    let clause = c.clause.result.now in
    c.in_ok-add_clause.ensures ∙ ap (λ all. all ++ clause ∷ []) c.loop-i.invariant
    ∙ append_assoc first (take c.loop-i.i more) (clause ∷ [])
    ∙ ap (λ some. first ++ some)
    (sym (take_more more c.loop-i.i clause (slice_get_within more c.loop-i.i clause c.clause.ensures)
    ∙ ap (λ it. take c.loop-i.i more ++ it ∷ [])
    (get_or_from_slice_get more c.loop-i.i clause clause c.clause.ensures)))

pub invariant_of-result : goal.invariant_of-result
invariant_of-result c =
    let first = c.args.first.now.clauses in
    let more = c.args.then.now.clauses in
    let all : c.loop-i.clauses ≡ first ++ more =
    c.loop-i.invariant ∙ ap (λ some. first ++ some) (take_all c.loop-i.i more
    (omega (arith, c.loop-i-test.false, c.len-i-end.ensures))) in
    record {
      few_variables = c.args.then.now.few_variables;
      few_clauses = omega (arith, c.requires.few, ap length all);
      right = λ clause has l here.
          let C : List Clause → Type 0 = λ clauses. Contains clauses clause in
          elim (Contains-append_cases first more clause (subst C all has)) [
            | inl before ↦
                let is = c.args.first.now.right clause before l here in
                (is.0, omega (arith, c.requires.variables, is.1))
            | inr behind ↦ c.args.then.now.right clause behind l here
          ];
    }
