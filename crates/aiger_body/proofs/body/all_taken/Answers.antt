use Rattle.std.proofs.Common.{◌≡◌, ◌+◌, ◌<◌, ◌∙◌, ℕ, suc, List, length, sym, ap, subst, arith, Some, Option}
use Rattle.aig_order.specs.declared.gate.Gate.{Gate}
use Rattle.aiger_body.specs.declared.content.Content.{Content}
use Rattle.aiger_body.specs.Files.{lines, counts, plan, before}
use Rattle.aig_order.specs.Gates.{order, Depends}
use Rattle.aig_kind.specs.declared.kind.AigKind.TheVariants.{Cycle}
use Rattle.aiger_body.specs.declared.section.Section.TheVariants.{Gates}
use Rattle.aiger_body.specs.Texts.{place}
use Rattle.aiger_body.specs.Outcomes.{fault}
use Rattle.aig_order.specs.Reaching.{IsFirstCyclic}
use Rattle.aig_order.specs.Takings.{AreApart}
use Rattle.aiger_body.proofs.Apart.{apart, few, whole_long, whole_none, cycle_found}
use Rattle.aiger_body.proofs.body.all_taken.Goals as goal

pub definers-requires-clause-apart : goal.definers-requires-clause-apart
definers-requires-clause-apart c =
    let h = c.args.header.now in
    let bytes = c.args.bytes.now in
    let same = c.as_slice-gates.ensures ∙ ap (λ (d : Content). d.gates) c.requires.content.same in
    let P : List Gate → Type 0 = λ g. AreApart g h.top in
    subst P (sym same) (apart h bytes c.requires.fits c.requires.content.lines c.requires.content.large)

pub definers-requires-clause-few : goal.definers-requires-clause-few
definers-requires-clause-few c =
    let same = c.as_slice-gates.ensures ∙ ap (λ (d : Content). d.gates) c.requires.content.same in
    omega (arith, ap length same, few c.args.header.now c.args.bytes.now c.requires.fits c.requires.content.lines)

pub returns-then-len-gates : goal.returns-then-len-gates
returns-then-len-gates c =
    let same = c.as_slice-gates.ensures ∙ ap (λ (d : Content). d.gates) c.requires.content.same in
    whole_long c.args.header.now c.args.bytes.now c.in_ok-order.order (c.in_ok-order.ensures ∙ ap order same) (omega (arith, c.if-len-gates.true, c.len.ensures, ap length same))

pub returns-in_default : goal.returns-in_default
returns-in_default c =
    let same = c.as_slice-gates.ensures ∙ ap (λ (d : Content). d.gates) c.requires.content.same in
    let P : Option ℕ → Type 0 = λ o. IsFirstCyclic c.as_slice-gates.result.now o in
    let Q : List Gate → Type 0 = λ g. (k : ℕ) → k < length g → ¬ Depends g k k in
    whole_none c.args.header.now c.args.bytes.now c.in_ok-order.order (c.in_ok-order.ensures ∙ ap order same) (subst Q same (subst P c.in_default.is c.in_ok-k.ensures))

pub returns : goal.returns
returns c =
    let h = c.args.header.now in
    let bytes = c.args.bytes.now in
    let same = c.as_slice-gates.ensures ∙ ap (λ (d : Content). d.gates) c.requires.content.same in
    let P : Option ℕ → Type 0 = λ o. IsFirstCyclic c.as_slice-gates.result.now o in
    let Q : List Gate → Type 0 = λ g. (c.in-Some.k < length g) × Depends g c.in-Some.k c.in-Some.k × ((j : ℕ) → j < c.in-Some.k → ¬ Depends g j j) in
    let (lt, round, none) = subst Q same (subst P c.in-Some.is c.in_ok-k.ensures) in
    let line : c.lines_before_gates.result ≡ before (plan h bytes) Gates = c.lines_before_gates.ensures.lines ∙ ap (λ (d : Content). before (counts h d.justice) Gates) c.requires.content.same in
    let number : 1 + (c.lines_before_gates.result + c.in-Some.k) ≡ suc (before (plan h bytes) Gates + c.in-Some.k) = omega (arith, line) in
    cycle_found h bytes c.in-Some.k lt round none ∙ ap (λ b. Some (fault Cycle b)) (sym (c.skip_lines.ensures.place ∙ ap (place (lines bytes)) number))
