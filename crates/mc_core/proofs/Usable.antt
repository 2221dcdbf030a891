-- Facts that were found can be used.
use Rattle.std.specs.Prelude.{ℕ, List}
use Rattle.live_safe.specs.declared.safe_net.SafeNet.{SafeNet}
use Rattle.cnf_frames.specs.declared.facts.Fact.{Fact}
use Rattle.invar_find.specs.declared.kept.Kept.{Kept}
use Rattle.invar_find.specs.Kepts as kepts
use Rattle.mc_core.specs.Answers.{IsUsable}

pub usable : (safe : SafeNet) (tried : List Fact) (conflicts : ℕ) (kept : Kept) →
    kepts.IsKeptOf safe tried conflicts kept → IsUsable safe kept
usable safe tried conflicts kept is = record {
  inside = is.inside;
  inductive = is.inductive;
  logs = is.logs;
  within = is.within;
}
