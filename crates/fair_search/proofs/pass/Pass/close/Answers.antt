use Rattle.std.proofs.Common.{◌≡◌, ℕ, ◌-◌, ◌<◌, true, false, List, length, get_or, take, drop, refl, sym, ap, ◌∙◌, subst, arith}
use Rattle.std.specs.List.{All}
use Rattle.std.proofs.lemmas.Option.{get_or_from_slice_get}
use Rattle.rank_check.specs.Graphs.{IsEdge}
use Rattle.fair_search.specs.declared.pass.Place.TheVariants.{New}
use Rattle.fair_search.specs.declared.pass.Pass.{Pass}
use Rattle.fair_search.specs.Passing.{is_seen, looks, left, IsPass, AreDone, ExplainsAll}
use Rattle.fair_search.proofs.Lists.{without_last}
use Rattle.fair_search.proofs.Closing.{Closed, closed_pass, closed_left, standing, part_some, part_root, part_made, part_seen, part_no_loop}
use Rattle.fair_search.proofs.pass.Pass.close.Goals as goal

pub from_place-nodes-requires : goal.from_place-nodes-requires
from_place-nodes-requires c =
    let p = c.args.self.now in
    let b = c.args.start in
    let (front, ends) = c.requires.ends in
    omega (arith, standing c.args.g.now p c.requires.pass front b ends c.requires.spent)

pub at-root-requires : goal.at-root-requires
at-root-requires c =
    let p = c.args.self.now in
    let b = c.args.start in
    let (front, ends) = c.requires.ends in
    standing c.args.g.now p c.requires.pass front b ends c.requires.spent

pub at-looped-requires : goal.at-looped-requires
at-looped-requires c =
    let p = c.args.self.now in
    let b = c.args.start in
    let (front, ends) = c.requires.ends in
    let root = get_or_from_slice_get p.stack b c.at-root.result.now 0 c.at-root.ensures in
    let made = part_made c.args.g.now p c.requires.pass front b ends c.requires.spent 0 0
    (part_some c.args.g.now p c.requires.pass front b ends c.requires.spent) in
    omega (
      arith,
      root,
      part_root c.args.g.now p c.requires.pass front b ends c.requires.spent,
      made,
      c.requires.pass.loops_long,
      c.requires.pass.places_long,
    )

pub judge-requires-clause-some : goal.judge-requires-clause-some
judge-requires-clause-some c =
    let p = c.args.self.now in
    let b = c.args.start in
    let (front, ends) = c.requires.ends in
    let P : List ℕ → Type 0 = λ xs. 0 < length xs in
    subst P (sym c.from_place-nodes.ensures) (part_some c.args.g.now p c.requires.pass front b ends
    c.requires.spent)

pub judge-requires-clause-made : goal.judge-requires-clause-made
judge-requires-clause-made c =
    let p = c.args.self.now in
    let b = c.args.start in
    let (front, ends) = c.requires.ends in
    let P : List ℕ → Type 0 = All (λ v. v < length c.args.g.now.nodes) in
    let Q : ℕ → Type 0 = λ n. All (λ v. v < n) (drop b p.stack) in
    subst P (sym c.from_place-nodes.ensures) (subst Q c.requires.pass.places_long
    (part_made c.args.g.now p c.requires.pass front b ends c.requires.spent))

pub judge-requires-clause-no_loop : goal.judge-requires-clause-no_loop
judge-requires-clause-no_loop c none =
    let p = c.args.self.now in
    let b = c.args.start in
    let (front, ends) = c.requires.ends in
    let P : List ℕ → Type 0 = λ xs. ¬ IsEdge c.args.g.now (get_or xs 0 0) (get_or xs 0 0) in
    let root = get_or_from_slice_get p.stack b c.at-root.result.now 0 c.at-root.ensures in
    let loop = get_or_from_slice_get p.loops c.at-root.result.now c.at-looped.result.now false
    c.at-looped.ensures in
    subst P (sym c.from_place-nodes.ensures)
    (part_no_loop c.args.g.now p c.requires.pass front b ends c.requires.spent
    (ap (λ v. get_or p.loops v false) (part_root c.args.g.now p c.requires.pass front b ends
    c.requires.spent ∙ root) ∙ loop ∙ none))

pub judge-requires-clause-loop_there : goal.judge-requires-clause-loop_there
judge-requires-clause-loop_there c looped =
    let p = c.args.self.now in
    let b = c.args.start in
    let (front, ends) = c.requires.ends in
    let P : List ℕ → Type 0 = λ xs. IsEdge c.args.g.now (get_or xs 0 0) (get_or xs 0 0) in
    let root = get_or_from_slice_get p.stack b c.at-root.result.now 0 c.at-root.ensures in
    let loop = get_or_from_slice_get p.loops c.at-root.result.now c.at-looped.result.now false
    c.at-looped.ensures in
    subst P (sym c.from_place-nodes.ensures)
    (c.requires.pass.loop_there _ (ap (λ v. get_or p.loops v false)
    (part_root c.args.g.now p c.requires.pass front b ends c.requires.spent ∙ root) ∙ loop
    ∙ looped))

pub settle-requires-clause-made : goal.settle-requires-clause-made
settle-requires-clause-made c =
    let p = c.args.self.now in
    let b = c.args.start in
    let (front, ends) = c.requires.ends in
    let P : List ℕ → Type 0 = All (λ v. v < length p.places) in
    subst P (sym c.from_place-nodes.ensures) (part_made c.args.g.now p c.requires.pass front b ends
    c.requires.spent)

pub settle-requires-clause-seen : goal.settle-requires-clause-seen
settle-requires-clause-seen c =
    let p = c.args.self.now in
    let b = c.args.start in
    let (front, ends) = c.requires.ends in
    let P : List ℕ → Type 0 = All (λ v. is_seen (get_or p.places v New) ≡ true) in
    subst P (sym c.from_place-nodes.ensures) (part_seen c.args.g.now p c.requires.pass front b ends
    c.requires.spent)

pub returns-in_ok-push-in-Ends-clause-ended : goal.returns-in_ok-push-in-Ends-clause-ended
returns-in_ok-push-in-Ends-clause-ended c =
    let p = c.args.self.now in
    let b = c.args.start in
    let (front, ends) = c.requires.ends in
    let reason = c.in-Ends.reason in
    let W : List ℕ → Type 0 = λ xs. ExplainsAll c.args.g.now xs reason in
    let why = subst W c.from_place-nodes.ensures c.in-Ends.ensures in
    let D : List ℕ → Type 0 = λ xs. AreDone xs (length p.reasons) p.places c.settle.new.places in
    let R : ℕ → Type 0 = λ r. AreDone c.from_place-nodes.result.now r p.places c.settle.new.places
    in
    let done = subst D c.from_place-nodes.ensures (subst R c.len-rank.ensures c.settle.ensures) in
    let starts = c.truncate-in-Ends.ensures ∙ (λ t. take (c.len.ensures t - 1) p.starts)
    ∙ without_last p.starts front b ends in
    let ended : Pass = record p {
      places = c.settle.new.places;
      stack = c.truncate.new.self;
      starts
          = c.truncate-in-Ends.new.self;
      reasons = c.push.new.self;
    } in
    let same : Closed c.args.g.now p c.requires.pass front b ends c.requires.spent reason why
    c.settle.new.places done ≡ ended =
    λ t. record p {
      places = c.settle.new.places;
      stack = sym c.truncate.ensures t;
      starts = sym
          starts t;
      reasons = sym c.in_ok-push-in-Ends.ensures.added t;
    }
    in
    let P : Pass → Type 0 = λ q. IsPass c.args.g.now q × (left c.args.g.now q < left c.args.g.now p)
    × (looks q ≡ looks p) in
    subst P same (
      closed_pass c.args.g.now p c.requires.pass front b ends c.requires.spent reason why
          c.settle.new.places done,
      closed_left c.args.g.now p c.requires.pass front b ends
          c.requires.spent reason why c.settle.new.places done,
      refl,
    )
