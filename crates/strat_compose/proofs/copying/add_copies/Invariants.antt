-- What `add_copies` keeps on its way.
use Rattle.std.proofs.Common.{◌≡◌, ◌++◌, take}
use Rattle.hy_base.specs.Rows.{listed}
use Rattle.aig_net.specs.Copies.{copied}
use Rattle.strat_compose.proofs.copying.add_copies.Given as goal

-- the copies of the items so far
abbrev pub invariant-loop-item : goal.invariant-loop-item
invariant-loop-item g l =
    l.made ≡ l.fn.made ++ copied l.group.copies (g.T.Placed.in_copy l.net l.group)
    (take l.item-index l.items)

-- and of this item in the copies so far
abbrev pub invariant-loop-c : goal.invariant-loop-c
invariant-loop-c g l =
    l.made ≡ l.initial.made
    ++ listed 0 l.c (λ c. g.T.Placed.in_copy l.net l.group c l.item)
