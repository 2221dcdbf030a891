use Rattle.std.proofs.Common.{map, inl, inr, ap, ◌∙◌, arith, Err, Ok}
use Rattle.std.specs.Option.{option_map}
use Rattle.std.proofs.lemmas.Result.{err_from_is_err_and}
use Rattle.hy_read.proofs.BuildingFormulas.{head_of, head_count, body_built, formula_refused, formula_made}
use Rattle.hy_read.proofs.formulas.build_formula.Goals as goal

-- there is a quantifier, and there are few enough
pub returns-then-count-eq0-clause-built : goal.returns-then-count-eq0-clause-built
returns-then-count-eq0-clause-built c = λ f tokens rest left k few opens stops.
    let head = head_of (option_map (λ n. n.now) c.args.names) c.args.text.now c.args.at c.in_ok-heading.heading f tokens rest c.in_ok-heading.ensures.headed left k in
    let count = head_count c.args.text.now c.in_ok-heading.heading f k.body head in
    let some = k.some in
    let long = c.len-count.ensures in
    elim c.then-count-eq0.either [ inl none ↦ absurd (omega arith) | inr many ↦ let past = many.1 in absurd (omega arith) ]

pub returns-in_err-parsed-clause-built : goal.returns-in_err-parsed-clause-built
returns-in_err-parsed-clause-built c = λ f tokens rest left k few opens stops.
    let o = option_map (λ n. n.now) c.args.names in
    let p = err_from_is_err_and c.from_residual-in_err-parsed.result c.from_residual-in_err-parsed.ensures.1 in
    let head = head_of o c.args.text.now c.args.at c.in_ok-heading.heading f tokens rest c.in_ok-heading.ensures.headed left k in
    let built = body_built o c.args.text.now c.in_ok-heading.heading f tokens rest (map (λ v. v.now) c.as_slice.result.now) (Err c.in_err-parsed.field-0.0) k head (ap (map (λ v. v.now)) c.as_slice.ensures.value) opens stops c.in_err-parsed.ensures.built in
    rw (p.1, p.2) (formula_refused c.args.text.now f rest c.in_err-parsed.field-0.0 built)

pub returns-clause-built : goal.returns-clause-built
returns-clause-built c = λ f tokens rest left k few opens stops.
    let o = option_map (λ n. n.now) c.args.names in
    let head = head_of o c.args.text.now c.args.at c.in_ok-heading.heading f tokens rest c.in_ok-heading.ensures.headed left k in
    let built = body_built o c.args.text.now c.in_ok-heading.heading f tokens rest (map (λ v. v.now) c.as_slice.result.now) (Ok c.in_ok-parsed.parsed) k head (ap (map (λ v. v.now)) c.as_slice.ensures.value) opens stops c.in_ok-parsed.ensures.built in
    formula_made c.args.text.now c.in_ok-heading.heading f k.body rest c.in_ok-parsed.parsed c.in_ok-prefix.prefix head built c.in_ok-parsed.ensures.sized.low (c.in_ok-prefix.ensures ∙ c.as_slice-2.ensures.value)
