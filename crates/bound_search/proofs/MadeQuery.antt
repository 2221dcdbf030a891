-- The query that code makes, part by part.
use Rattle.std.proofs.Common.{◌≡◌, ℕ, ◌+◌, List, [], ◌++◌, length, drop, append_assoc, ap, ◌∙◌, subst}
use Rattle.std.specs.Prelude.{ℤ}
use Rattle.hy_formula.specs.Trees.{Tree}
use Rattle.hy_formula.specs.declared.prefix.Quant.{Quant}
use Rattle.chain_check.specs.Clauses.{Clause}
use Rattle.chain_check.specs.FewClauses.{for_each, alone}
use Rattle.bound_search.specs.declared.bound.Bound.{Bound}
use Rattle.bound_search.specs.declared.frame.Frame.{Frame}
use Rattle.bound_search.specs.declared.gates.Gates.{Gates}
use Rattle.bound_search.specs.declared.sheets.Sheet.{Sheet}
use Rattle.bound_search.specs.Choices.{chosen}
use Rattle.bound_search.specs.Shapes.{shape_of}
use Rattle.bound_search.specs.Sheets.{first_sheet}
use Rattle.bound_search.proofs.Making.{draws-followed}
use Rattle.bound_search.specs.Drawings.{Drawn, sure, gate_clauses}
use Rattle.bound_search.specs.Making.{Draws}
use Rattle.bound_search.specs.Names.{names_of}
use Rattle.bound_search.specs.Queries.{first_gate, member_clauses, letters_row, frame_of, tuple_literal, formula_literal, formula_drawn, query_clauses, clauses_of, variables_of}

module _ (bound : Bound) (prefix : List Quant) (body : Tree) where
  -- what is drawn from this variable on
  abbrev literal : List ℕ → ℕ → Drawn ℤ
  literal names = formula_literal names bound prefix body

  -- the parts of the body, and then where members were chosen for no quantifier yet
  pub parts-drawn : (names members : List ℕ) (drawn : Sheet) (old mid new : Gates) (root : ℤ) →
      members ≡ [] →
      Draws (first_sheet (frame_of bound (length prefix)) (letters_row names bound) (shape_of body)) old mid drawn →
      Draws (chosen bound.traces (λ more. tuple_literal (frame_of bound (length prefix)) drawn
      (members ++ more)) (drop (length members) prefix)) mid new root →
      Draws (literal names) old new root
  parts-drawn names members drawn old mid new root e p q =
      let frame : Frame = frame_of bound (length prefix) in
      let P : List ℕ → Type 0 = λ l. Draws (chosen bound.traces
      (λ more. tuple_literal frame drawn (l ++ more)) (drop (length l) prefix)) mid new root in
      draws-followed (first_sheet frame (letters_row names bound) (shape_of body))
      (λ drawn. chosen bound.traces (tuple_literal frame drawn) prefix) old mid new drawn root p
      (subst P e q)

  module _ (names : List ℕ) (old new : Gates) (root s : ℤ) (own : names ≡ names_of body)
      (first : old.next ≡ first_gate names bound) (drawn : Draws (literal names) old new root) where
    pub variables-made : new.next ≡ variables_of bound prefix body
    unfolding variables_of
    variables-made =
        drawn.next ∙ ap (λ n. n + length (literal names n).gates) first
        ∙ ap (λ l. first_gate l bound + length (formula_drawn l bound prefix body).gates) own

    pub clauses-made : (none start begun made : List Clause) → none ≡ [] → s ≡ sure →
        start ≡ none ++ alone s →
        old.clauses ≡ start ++ for_each (member_clauses names bound) bound.traces →
        made ≡ new.clauses ++ alone root → made ≡ clauses_of bound prefix body
    unfolding clauses_of
    clauses-made none start begun made empty is_sure one two three =
        let members : List Clause = for_each (member_clauses names bound) bound.traces in
        let gates : List Clause =
        gate_clauses (first_gate names bound) (formula_drawn names bound prefix body).gates in
        let out : ℤ = (formula_drawn names bound prefix body).out in
        let begins : start ≡ alone sure =
        one ∙ ap (λ l. l ++ alone s) empty ∙ ap alone is_sure in
        let opened : old.clauses ≡ alone sure ++ members = two ∙ ap (λ l. l ++ members) begins in
        let closed : new.clauses ≡ (alone sure ++ members) ++ gates =
        drawn.clauses ∙ ap (λ l. l ++ gate_clauses old.next (literal names old.next).gates) opened
        ∙ ap (λ n. (alone sure ++ members) ++ gate_clauses n (literal names n).gates) first in
        let last : root ≡ out = drawn.drawn ∙ ap (λ n. (literal names n).out) first in
        three ∙ ap (λ l. l ++ alone root) closed
        ∙ ap (λ l. ((alone sure ++ members) ++ gates) ++ alone l) last
        ∙ append_assoc (alone sure ++ members) gates (alone out)
        ∙ append_assoc (alone sure) members (gates ++ alone out)
        ∙ ap (λ l. query_clauses l bound (formula_drawn l bound prefix body)) own
