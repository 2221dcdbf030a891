use Rattle.std.proofs.Common.{ℕ, List, get_or, sym, ap, ◌∙◌, subst, arith}
use Rattle.std.specs.List.{Contains}
use Rattle.std.proofs.lemmas.Option.{get_or_from_slice_get}
use Rattle.rank_check.specs.Graphs.{members_of}
use Rattle.fair_search.specs.Paths.{Leads, IsPath, first_or}
use Rattle.fair_search.proofs.Lists.{ok-each}
use Rattle.fair_search.proofs.Touring.{start_there}
use Rattle.fair_search.proofs.lasso.approach.Goals as goal

pub returns-then-start-eq0-clause-starts : goal.returns-then-start-eq0-clause-starts
returns-then-start-eq0-clause-starts g c =
    let p = c.args.pass.now in
    let there = start_there c.args.g.now p c.args.start c.requires in
    let P : List ℕ → Type 0 = λ stem. Contains (members_of c.args.g.now 0)
    (first_or stem (get_or p.stack c.args.start 0)) in
    let Q : ℕ → Type 0 = λ i. Contains (members_of c.args.g.now 0) (get_or p.stack i 0) in
    subst P (sym c.new.ensures) (subst Q (sym c.if-start-eq0.true)
    (c.requires.pass.rooted (omega (arith, there))))

pub at-first-requires : goal.at-first-requires
at-first-requires g c = omega (
  arith,
  start_there c.args.g.now c.args.pass.now c.args.start
      c.requires,
)

pub at-root-requires : goal.at-root-requires
at-root-requires g c = start_there c.args.g.now c.args.pass.now c.args.start c.requires

pub path-requires-clause-leads : goal.path-requires-clause-leads
path-requires-clause-leads g c =
    let p = c.args.pass.now in
    let there = start_there c.args.g.now p c.args.start c.requires in
    let first = get_or_from_slice_get p.stack 0 c.at-first.result.now 0 c.at-first.ensures in
    let root = get_or_from_slice_get p.stack c.args.start c.at-root.result.now 0 c.at-root.ensures
    in
    let P : ℕ → Type 0 = λ v. Leads c.args.g.now v c.at-root.result.now in
    let Q : ℕ → Type 0 = Leads c.args.g.now (get_or p.stack 0 0) in
    subst P first (subst Q root (c.requires.pass.up 0 c.args.start
    (omega (arith, c.if-start-eq0.false)) there))

pub returns-clause-path : goal.returns-clause-path
returns-clause-path g c =
    let p = c.args.pass.now in
    let root = get_or_from_slice_get p.stack c.args.start c.at-root.result.now 0 c.at-root.ensures
    in
    let Q : List ℕ → ℕ → Type 0 = λ stem v. IsPath c.args.g.now stem v in
    ok-each c.path.result (λ stem is. let P : ℕ
    → Type 0 = IsPath c.args.g.now stem in subst P (sym root) is.goes) c.path.ensures.path

pub returns-clause-starts : goal.returns-clause-starts
returns-clause-starts g c =
    let p = c.args.pass.now in
    let there = start_there c.args.g.now p c.args.start c.requires in
    let first = get_or_from_slice_get p.stack 0 c.at-first.result.now 0 c.at-first.ensures in
    let root = get_or_from_slice_get p.stack c.args.start c.at-root.result.now 0 c.at-root.ensures
    in
    let C : ℕ → Type 0 = Contains (members_of c.args.g.now 0) in
    ok-each c.path.result (λ stem is. subst C (first ∙ sym is.starts
    ∙ ap (first_or stem) (sym root)) (c.requires.pass.rooted (omega (arith, there))))
    c.path.ensures.path
