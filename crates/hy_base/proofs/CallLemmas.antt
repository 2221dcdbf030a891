-- Calls that are to fail.
use Rattle.std.proofs.Common.{ℕ, ◌≤◌, List, arith}
use Rattle.hy_base.specs.Calls.{NoneFailsAfter}

-- where no call after some fails, none fails after more
pub none_fails_later : (made later : ℕ) (fail : List ℕ) → NoneFailsAfter made fail → made ≤ later → NoneFailsAfter later fail
unfolding NoneFailsAfter
none_fails_later made later fail h le number lt = h number (omega arith)
