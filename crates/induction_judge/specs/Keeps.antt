-- What comes of the logs of the keep queries, the first of a proof by induction.
use Rattle.std.specs.Prelude.{ℕ, ◌<◌, ◌≤◌, List, drop, length, Option, Some, None}
use denote.Ref.{Bor}
use Rattle.chain_check.specs.declared.logs.Learned.{Learned}
use Rattle.live_safe.specs.declared.safe_net.SafeNet.{SafeNet}
use Rattle.cnf_frames.specs.declared.facts.Fact.{Fact}
use Rattle.cnf_frames.specs.declared.queries.Asked.TheVariants.{Keep}
use Rattle.cnf_frames.specs.declared.queries.FrameError.{FrameError}
use Rattle.cnf_frames.specs.Proofs.{IsRefuted, log_at}
use Rattle.cnf_frames.specs.Queries.{IsRefusal, groups}
use Rattle.cert_text.specs.Lines.{Line}
use Rattle.induction_judge.specs.Reading.{AreLogs}

-- The first n logs refute the keep queries of their groups.
abbrev pub AreKeepsRefuted : SafeNet → List Fact → List (List Learned) → ℕ → Type 0
AreKeepsRefuted safe facts logs n =
    (g : ℕ) → g < n → IsRefuted safe (Keep facts g) (log_at logs g)

-- The logs at the front of the text refute all keep queries, with this text behind them; or they do
-- not.
abbrev pub AreKeepsJudged : SafeNet → List Fact → List ℕ → Option (Bor (List ℕ)) → Type 0
AreKeepsJudged safe facts text None =
    (logs : List (List Learned)) (rest : List Line) → AreLogs text logs rest
    → groups facts ≤ length logs → ¬ AreKeepsRefuted safe facts logs (groups facts)
AreKeepsJudged safe facts text (Some left) =
    (logs : List (List Learned)) (rest : List Line) → AreLogs text logs rest
    → groups facts ≤ length logs → AreLogs left.now (drop (groups facts) logs) rest
    × AreKeepsRefuted safe facts logs (groups facts)

-- Some keep query is refused so.
abbrev pub IsKeepRefused : SafeNet → List Fact → FrameError → Type 0
IsKeepRefused safe facts e = (g : ℕ) × (g < groups facts) × IsRefusal safe (Keep facts g) e
