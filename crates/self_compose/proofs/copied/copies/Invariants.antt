use Rattle.std.proofs.Common.{◌≡◌, ◌++◌, take}
use Rattle.hy_base.specs.Rows.{listed}
use Rattle.aig_net.specs.Copies.{copied}
use Rattle.self_compose.proofs.copied.copies.Given as goal

-- the copies of the items so far
abbrev pub invariant-loop-item : goal.invariant-loop-item
invariant-loop-item g l = l.made ≡ copied l.n (g.T.Copied.in_copy l.n) (take l.item-index l.items)

-- and of this item in the copies so far
abbrev pub invariant-loop-c : goal.invariant-loop-c
invariant-loop-c g l = l.made ≡ l.initial.made
    ++ listed 0 l.c (λ c. g.T.Copied.in_copy l.n c l.item)
