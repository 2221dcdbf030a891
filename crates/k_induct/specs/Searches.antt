-- What queries for paths from the start come to, by cases.
use Rattle.std.specs.Prelude.{ℕ, suc, ◌≤◌}
use Rattle.live_safe.specs.declared.safe_net.SafeNet.{SafeNet}
use Rattle.cnf_frames.specs.declared.queries.FrameError.{FrameError}
use Rattle.cnf_frames.specs.declared.queries.Asked.TheVariants.{Base}
use Rattle.cnf_frames.specs.Queries.{IsRefusal}
use Rattle.k_induct.specs.declared.verdict.Shortest.{Shortest}
use Rattle.k_induct.specs.declared.verdict.Shortest.TheVariants.{Path, Good, Spent}
use Rattle.k_induct.specs.Replies.{IsSpent}
use Rattle.k_induct.specs.Verdicts.{IsGoodBelow, IsShortest}

abbrev pub IsSearched : SafeNet → ℕ → ℕ → Shortest → Type 0
IsSearched safe depth conflicts (Path path) = IsShortest safe depth path
IsSearched safe depth conflicts Good = IsGoodBelow safe (suc depth)
IsSearched safe depth conflicts (Spent k log) =
    (k ≤ depth) × IsGoodBelow safe k × IsSpent safe (Base k) conflicts log

-- there is no query for a path of some number of steps, and no path of fewer is bad
abbrev pub IsBarred : SafeNet → ℕ → FrameError → Type 0
IsBarred safe depth e =
    (k : ℕ) × (k ≤ depth) × IsGoodBelow safe k × IsRefusal safe (Base k) e
