use Rattle.std.proofs.Common.{◌≡◌, List, ◌++◌, ◌∷◌, [], length, map, ap, ◌∙◌}
use Rattle.std.specs.Prelude.{ℤ, slice_range}
use Rattle.chain_check.specs.declared.clauses.Span.{Span}
use Rattle.chain_check.specs.Clauses.{Clause}
use Rattle.chain_check.proofs.Storing.{same-stored, added-stored, on-err}
use Rattle.chain_check.proofs.clauses.Clauses.add.Goals as goal

abbrev shown : List ℤ → List Span → List Clause
shown literals spans = map (λ p. slice_range literals p.start p.end) spans

pub returns-clause-added : goal.returns-clause-added
returns-clause-added c =
    let longer : c.push_numbers.new.literals.items ≡ c.self.inside.literals.items ++
    c.args.clause.now = c.in_ok-push_numbers.ensures.added in
    let p : Span = record { start = c.in_ok-start.start; end = c.in_ok-end.end } in
    let more : c.push.new.self.items ≡ c.self.inside.spans.items ++ p ∷ [] =
    c.in_ok-push.ensures.items in
    let before : shown c.self.inside.literals.items c.self.inside.spans.items ≡ c.args.self.now =
    c.self.view_is in
    let starts : p.start ≡ length c.self.inside.literals.items =
    c.in_ok-start.ensures ∙ ap (λ (xs : List ℤ). length xs) c.as_slice.ensures.value in
    let ends : p.end ≡ length (c.self.inside.literals.items ++ c.args.clause.now) =
    c.in_ok-end.ensures ∙ ap (λ (xs : List ℤ). length xs) (c.as_slice-2.ensures.value ∙ longer) in
    ap (λ xs. shown xs c.push.new.self.items) longer ∙
    ap (shown (c.self.inside.literals.items ++ c.args.clause.now)) more ∙
    added-stored c.self.inside.literals.items c.args.clause.now c.self.inside.spans.items p
    c.self.invariant starts ends ∙
    ap (λ cs. cs ++ c.args.clause.now ∷ []) before

pub returns-in_err-push_numbers-clause-refused : goal.returns-in_err-push_numbers-clause-refused
returns-in_err-push_numbers-clause-refused c =
    let (more, longer) = c.in_err-push_numbers.ensures.refused in
    let before : shown c.self.inside.literals.items c.self.inside.spans.items ≡ c.args.self.now =
    c.self.view_is in
    on-err _ _
    (ap (λ xs. shown xs c.self.inside.spans.items) longer ∙
    same-stored c.self.inside.literals.items more c.self.inside.spans.items c.self.invariant ∙
    before)

pub returns-in_err-end-clause-refused : goal.returns-in_err-end-clause-refused
returns-in_err-end-clause-refused c =
    let longer : c.push_numbers.new.literals.items ≡ c.self.inside.literals.items ++
    c.args.clause.now = c.in_ok-push_numbers.ensures.added in
    on-err _ _
    (ap (λ xs. shown xs c.self.inside.spans.items) longer ∙
    same-stored c.self.inside.literals.items c.args.clause.now c.self.inside.spans.items
    c.self.invariant ∙ c.self.view_is)

pub returns-in_err-push-clause-refused : goal.returns-in_err-push-clause-refused
returns-in_err-push-clause-refused c =
    let longer : c.push_numbers.new.literals.items ≡ c.self.inside.literals.items ++
    c.args.clause.now = c.in_ok-push_numbers.ensures.added in
    let same : c.push.new.self.items ≡ c.self.inside.spans.items = c.in_err-push.ensures.items in
    let before : shown c.self.inside.literals.items c.self.inside.spans.items ≡ c.args.self.now =
    c.self.view_is in
    on-err _ _
    (ap (λ xs. shown xs c.push.new.self.items) longer ∙
    ap (shown (c.self.inside.literals.items ++ c.args.clause.now)) same ∙
    same-stored c.self.inside.literals.items c.args.clause.now c.self.inside.spans.items
    c.self.invariant ∙ before)
