use Rattle.std.proofs.Common.{ℕ, ◌++◌, sym, subst}
use Rattle.chain_check.specs.Clauses.{AreClauses}
use Rattle.chain_check.proofs.following.follows.Goals as goal

pub refutes-requires : goal.refutes-requires
refutes-requires c = let P : ℕ → Type 0 = λ n. AreClauses n
    (c.args.given.now ++ c.args.learned.now) in
    subst P (sym c.in_ok-oppose.ensures.variables) c.requires.right
