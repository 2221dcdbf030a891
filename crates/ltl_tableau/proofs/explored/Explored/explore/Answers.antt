use Rattle.std.proofs.Common.{◌<◌, ◌++◌, ◌∷◌, [], List, ℕ, length, map, sym, ap, ◌∙◌, subst}
use Rattle.std.specs.List.{Contains}
use Rattle.ltl_closure.proofs.Tasks.{same-error}
use Rattle.ltl_tableau.specs.Branchers.{AreWithin}
use Rattle.ltl_tableau.specs.Branches.{Branch, branches}
use Rattle.ltl_tableau.specs.Reached.{AreGroups, branch_at}
use Rattle.ltl_tableau.proofs.Exploring.{found-more, grows-on, members-push, inside-push, groups-push, set-there, set-is, item-branch, at-root, more-at_root, all-members, few-members}
use Rattle.ltl_tableau.proofs.explored.Explored.explore.Goals as goal

pub returns-in_default-clause-states : goal.returns-in_default-clause-states
returns-in_default-clause-states g c is =
    let P = AreWithin c.args.c.now.nodes c.index-as_slice-len.result c.args.states in
    found-more c.args.c.now.nodes c.args.self.now.sets.keys c.args.self.now.branches.keys c.index-as_slice-len.result c.args.states c.requires.explores
    (set-there c.args.self.now.sets.keys _ _ _ c.index-as_slice-len.result c.as_slice.ensures.keys c.len.ensures c.index-as_slice-len.is c.requires.more)
    (subst P c.in_default.is c.in_ok-found.ensures)

pub returns-in_err-add-clause-states : goal.returns-in_err-add-clause-states
returns-in_err-add-clause-states g c is =
    let W = AreWithin c.args.c.now.nodes c.index-as_slice-len.result c.args.states in
    let within = subst W c.in-Some.is c.in_ok-found.ensures in
    more-at_root c.args.c.now.nodes c.args.self.now.sets.keys _ c.args.self.now.branches.keys _ c.args.states c.loop-branch.invariant.grows c.requires.explores.some
    (c.in_err-add.ensures.states (same-error c.from_residual-in_err-add.result _ _ c.from_residual-in_err-add.ensures.1 is) c.args.c.now.nodes c.loop-branch.invariant.explores
    (at-root c.args.c.now.nodes c.args.self.now.sets.keys _ c.args.self.now.branches.keys _ c.branch-item.result c.loop-branch.invariant.grows c.requires.explores.some (c.requires.explores.asked c.index-as_slice-len.result (set-there c.args.self.now.sets.keys _ _ _ c.index-as_slice-len.result c.as_slice.ensures.keys c.len.ensures c.index-as_slice-len.is c.requires.more) c.branch-item.result (item-branch c.args.c.now.nodes c.index-as_slice-len.result _ _ c.loop-branch.branch-index c.branch-item.result c.as_slice-branch-items.ensures.keys within.0 c.loop-branch-test.true c.branch-item.is))))

pub loop-branch-preserved : goal.loop-branch-preserved
loop-branch-preserved g c =
    let W = AreWithin c.args.c.now.nodes c.index-as_slice-len.result c.args.states in
    let within = subst W c.in-Some.is c.in_ok-found.ensures in
    let reach = (at-root c.args.c.now.nodes c.args.self.now.sets.keys _ c.args.self.now.branches.keys _ c.branch-item.result c.loop-branch.invariant.grows c.requires.explores.some (c.requires.explores.asked c.index-as_slice-len.result (set-there c.args.self.now.sets.keys _ _ _ c.index-as_slice-len.result c.as_slice.ensures.keys c.len.ensures c.index-as_slice-len.is c.requires.more) c.branch-item.result (item-branch c.args.c.now.nodes c.index-as_slice-len.result _ _ c.loop-branch.branch-index c.branch-item.result c.as_slice-branch-items.ensures.keys within.0 c.loop-branch-test.true c.branch-item.is))) in
    let inv = c.loop-branch.invariant in
    let pushed = c.in_ok-push.ensures.added in
    let list : List Branch = c.add.new.self.branches.keys in
    record {
      explores = c.in_ok-add.ensures.explores c.args.c.now.nodes inv.explores reach;
      groups = c.add.ensures.groups ∙ inv.groups;
      few = c.in_ok-add.ensures.few;
      grows = grows-on _ _ _ _ _ _ inv.grows c.in_ok-add.ensures.grows;
      inside = let P : List ℕ → Type 0 = λ vs. (v : ℕ) → Contains vs v → v < length list in
          subst P (sym pushed) (inside-push _ (length list) c.loop-branch.members c.in_ok-add.field-0 c.in_ok-add.ensures.grows.more c.in_ok-add.ensures.number inv.inside);
      right = ap (map (branch_at list)) pushed
          ∙ members-push c.loop-branch.self.branches.keys list c.loop-branch.members c.in_ok-add.field-0 c.branch-item.result _ c.loop-branch.branch-index c.in_ok-add.ensures.grows.stays inv.inside
          c.in_ok-add.ensures.at c.loop-branch-test.true c.branch-item.is inv.right;
    }

pub returns-clause-groups : goal.returns-clause-groups
returns-clause-groups g c =
    let W = AreWithin c.args.c.now.nodes c.index-as_slice-len.result c.args.states in
    let within = subst W c.in-Some.is c.in_ok-found.ensures in
    let inv = c.loop-branch.invariant in
    let P : List (List ℕ) → Type 0 = AreGroups c.args.c.now.nodes c.args.states c.loop-branch.self.sets.keys c.loop-branch.self.branches.keys in
    subst P (sym (c.in_ok-push-2.ensures.added ∙ ap (λ gs. gs ++ c.loop-branch.members ∷ []) inv.groups))
    (groups-push c.args.c.now.nodes c.args.states c.args.self.now.sets.keys c.loop-branch.self.sets.keys c.args.self.now.branches.keys c.loop-branch.self.branches.keys c.args.self.now.groups c.loop-branch.members
    inv.grows c.requires.groups c.requires.more inv.inside
    (few-members c.loop-branch.self.branches.keys _ _ c.loop-branch.members c.loop-branch.branch-index c.args.states c.as_slice-branch-items.ensures.keys within.1 c.loop-branch-test.false inv.right)
    (all-members c.args.c.now.nodes c.index-as_slice-len.result c.loop-branch.self.branches.keys _ _ c.loop-branch.members c.loop-branch.branch-index c.as_slice-branch-items.ensures.keys within.0 c.loop-branch-test.false inv.right
    ∙ ap (branches c.args.c.now.nodes) (sym (set-is c.args.self.now.sets.keys _ _ _ c.index-as_slice-len.result c.as_slice.ensures.keys c.len.ensures c.index-as_slice-len.is c.requires.more))))
