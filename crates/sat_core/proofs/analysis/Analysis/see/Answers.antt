use Rattle.std.proofs.Common.{Bool, ◌≡◌, ℕ, List, length, set, get_or, sym, subst, ◌∙◌, true, false}
use Rattle.std.specs.Prelude.{ℤ}
use Rattle.std.proofs.lemmas.List.{length_push}
use Rattle.sat_core.specs.declared.analysis.Analysis.{Analysis}
use Rattle.sat_core.specs.Analyses.{IsAnalysis}
use Rattle.sat_core.proofs.Analysing.{see-lower, see-level}
use Rattle.sat_core.proofs.analysis.Analysis.see.Goals as goal
use Rattle.sat_core.proofs.analysis.Analysis.see.Goals.{then-place-start+in_ok-push, else-place-start}

pub returns-clause-kept : goal.returns-clause-kept
returns-clause-kept c trail p is below =
    let none : get_or c.args.self.now.seen c.args.place false ≡ false =
    sym c.is_marked.ensures ∙ c.if-is_marked.false in
    let P : Analysis → Type 0 = λ a. IsAnalysis trail c.args.start p
    (set a.seen c.args.place true) (length a.lower.items) a.unsettled in
    let A : List Bool → Type 0 = λ xs. IsAnalysis trail c.args.start p xs
    (length c.if-place-start.self.lower.items) c.if-place-start.self.unsettled in
    subst A (sym c.mark.ensures) (elim c.if-place-start.branch [
      | then-place-start+in_ok-push w ↦
          let Q : List ℤ → Type 0 = λ xs. IsAnalysis trail c.args.start p
          (set c.args.self.now.seen c.args.place true) (length xs) c.args.self.now.unsettled in
          let R : ℕ → Type 0 = λ n. IsAnalysis trail c.args.start p
          (set c.args.self.now.seen c.args.place true) n c.args.self.now.unsettled in
          subst P (sym w.self-is) (subst Q (sym w.in_ok-push.ensures.items)
          (subst R (sym (length_push c.args.self.now.lower.items c.args.l))
          (see-lower trail c.args.start p c.args.self.now.seen
          (length c.args.self.now.lower.items) c.args.self.now.unsettled is c.args.place below none
          w.if-place-start.true)))
      | else-place-start w ↦ subst P (sym w.self-is)
          (see-level trail c.args.start p c.args.self.now.seen
          (length c.args.self.now.lower.items) c.args.self.now.unsettled is c.args.place below none
          w.if-place-start.false)
    ])
