use Rattle.std.proofs.Common.{◌≡◌, ◌+◌, ℕ, List, Some, get_or, take, refl, sym, ◌∙◌, subst}
use Rattle.std.specs.List.{Contains, slice_get}
use Rattle.std.proofs.lemmas.Bool.{true≢false}
use Rattle.std.proofs.lemmas.Option.{get_or_from_slice_get}
use Rattle.std.proofs.lemmas.List.Elements.{Contains-get_or}
use Rattle.rank_check.specs.Graphs.{node_of}
use Rattle.fair_search.specs.Tours.{IsTour}
use Rattle.fair_search.proofs.Touring.{tour_skip, tour_go, tour_within, tour_cost}
use Rattle.fair_search.proofs.lasso.visit.Goals as goal

pub returns-then-is_among-clause-tour : goal.returns-then-is_among-clause-tour
returns-then-is_among-clause-tour g c before tour =
    let root = get_or c.args.nodes.now 0 0 in
    let list = (node_of c.args.g.now root).postponed in
    let e = c.postponed-untils.ensures in
    let u = c.at-until.result.now in
    let G : List ℕ → Type 0 = λ xs. slice_get xs c.args.i ≡ Some u in
    let at_u = get_or_from_slice_get list c.args.i u 0 (subst G e c.at-until.ensures) in
    let T : List ℕ → Type 0 = λ xs. Contains (take c.args.i xs) u in
    tour_skip c.args.g.now c.args.nodes.now list c.args.i c.args.cycle.now c.args.at before
    c.args.steps.now tour c.requires.place u at_u
    (subst T e (c.is_among.ensures.0 c.if-is_among.true))

pub returns-then-is_among-clause-most : goal.returns-then-is_among-clause-most
returns-then-is_among-clause-most g c before tour =
    let root = get_or c.args.nodes.now 0 0 in
    let list = (node_of c.args.g.now root).postponed in
    tour_cost c.args.g.now c.args.nodes.now list c.args.i c.args.cycle.now c.args.at before
    c.args.steps.now tour root refl

pub free_node-requires : goal.free_node-requires
free_node-requires g c k d lt = c.requires.joined.made _ (Contains-get_or c.args.nodes.now k d lt)

pub returns-in_default-clause-tour : goal.returns-in_default-clause-tour
returns-in_default-clause-tour g c before tour =
    let root = get_or c.args.nodes.now 0 0 in
    let list = (node_of c.args.g.now root).postponed in
    let e = c.postponed-untils.ensures in
    let u = c.at-until.result.now in
    let G : List ℕ → Type 0 = λ xs. slice_get xs c.args.i ≡ Some u in
    let at_u = get_or_from_slice_get list c.args.i u 0 (subst G e c.at-until.ensures) in
    let T : List ℕ → Type 0 = λ xs. Contains (take c.args.i xs) u in
    let C : ℕ → Type 0 = Contains list in
    let (v, there, free) = c.requires.joined.free u
    (subst C at_u (Contains-get_or list c.args.i 0 c.requires.place)) in
    absurd (free (c.in_default.ensures v there))

pub returns-in_default-clause-most : goal.returns-in_default-clause-most
returns-in_default-clause-most g c before tour =
    let root = get_or c.args.nodes.now 0 0 in
    let list = (node_of c.args.g.now root).postponed in
    tour_cost c.args.g.now c.args.nodes.now list c.args.i c.args.cycle.now c.args.at before
    c.args.steps.now tour root refl

pub path-requires-clause-made : goal.path-requires-clause-made
path-requires-clause-made g c = c.requires.joined.made c.args.at c.requires.here

pub returns-in_err-part-clause-most : goal.returns-in_err-part-clause-most
returns-in_err-part-clause-most g c before tour =
    let root = get_or c.args.nodes.now 0 0 in
    let list = (node_of c.args.g.now root).postponed in
    let e = c.postponed-untils.ensures in
    let u = c.at-until.result.now in
    let G : List ℕ → Type 0 = λ xs. slice_get xs c.args.i ≡ Some u in
    let at_u = get_or_from_slice_get list c.args.i u 0 (subst G e c.at-until.ensures) in
    let T : List ℕ → Type 0 = λ xs. Contains (take c.args.i xs) u in
    let new : ¬ Contains (take c.args.i list) u = λ there. true≢false
    (sym (c.is_among.ensures.1 (subst T (sym e) there)) ∙ c.if-is_among.false) in
    tour_within c.args.g.now c.args.nodes.now list c.args.i c.args.cycle.now c.args.at before
    c.args.steps.now tour c.requires.place u at_u new root refl c.path.new.steps
    c.path.ensures.most

pub returns-in_err-append-clause-most : goal.returns-in_err-append-clause-most
returns-in_err-append-clause-most g c before tour =
    let root = get_or c.args.nodes.now 0 0 in
    let list = (node_of c.args.g.now root).postponed in
    let e = c.postponed-untils.ensures in
    let u = c.at-until.result.now in
    let G : List ℕ → Type 0 = λ xs. slice_get xs c.args.i ≡ Some u in
    let at_u = get_or_from_slice_get list c.args.i u 0 (subst G e c.at-until.ensures) in
    let T : List ℕ → Type 0 = λ xs. Contains (take c.args.i xs) u in
    let new : ¬ Contains (take c.args.i list) u = λ there. true≢false
    (sym (c.is_among.ensures.1 (subst T (sym e) there)) ∙ c.if-is_among.false) in
    tour_within c.args.g.now c.args.nodes.now list c.args.i c.args.cycle.now c.args.at before
    c.args.steps.now tour c.requires.place u at_u new root refl c.path.new.steps
    c.path.ensures.most

pub returns-clause-most : goal.returns-clause-most
returns-clause-most g c before tour =
    let root = get_or c.args.nodes.now 0 0 in
    let list = (node_of c.args.g.now root).postponed in
    let e = c.postponed-untils.ensures in
    let u = c.at-until.result.now in
    let G : List ℕ → Type 0 = λ xs. slice_get xs c.args.i ≡ Some u in
    let at_u = get_or_from_slice_get list c.args.i u 0 (subst G e c.at-until.ensures) in
    let T : List ℕ → Type 0 = λ xs. Contains (take c.args.i xs) u in
    let new : ¬ Contains (take c.args.i list) u = λ there. true≢false
    (sym (c.is_among.ensures.1 (subst T (sym e) there)) ∙ c.if-is_among.false) in
    tour_within c.args.g.now c.args.nodes.now list c.args.i c.args.cycle.now c.args.at before
    c.args.steps.now tour c.requires.place u at_u new root refl c.path.new.steps
    c.path.ensures.most

pub returns-clause-tour : goal.returns-clause-tour
returns-clause-tour g c before tour =
    let root = get_or c.args.nodes.now 0 0 in
    let list = (node_of c.args.g.now root).postponed in
    let e = c.postponed-untils.ensures in
    let u = c.at-until.result.now in
    let G : List ℕ → Type 0 = λ xs. slice_get xs c.args.i ≡ Some u in
    let at_u = get_or_from_slice_get list c.args.i u 0 (subst G e c.at-until.ensures) in
    let T : List ℕ → Type 0 = λ xs. Contains (take c.args.i xs) u in
    let new : ¬ Contains (take c.args.i list) u = λ there. true≢false
    (sym (c.is_among.ensures.1 (subst T (sym e) there)) ∙ c.if-is_among.false) in
    let P : List ℕ → Type 0 = λ xs. IsTour c.args.g.now c.args.nodes.now list (c.args.i + 1) xs
    c.in-Some.free before c.path.new.steps in
    subst P (sym c.in_ok-append.ensures)
    (tour_go c.args.g.now c.args.nodes.now list c.args.i c.args.cycle.now c.args.at before
    c.args.steps.now tour c.requires.place u at_u new c.in-Some.free c.in-Some.ensures.0
    c.in-Some.ensures.1 c.in_ok-part.part c.in_ok-part.ensures.path c.path.new.steps
    c.path.ensures.most)
