use Rattle.std.proofs.Common.{◌≡◌, ◌↔◌, ◌⊎◌, subst}
use Rattle.std.specs.List.{Contains}
use Rattle.ltl_tableau.specs.Ranks.{Ranked, RankProof}
use Rattle.rank_proofs.proofs.Adding.{entry-added}
use Rattle.rank_proofs.proofs.entry.RowProof.add.Goals as goal

pub returns-clause-entries : goal.returns-clause-entries
returns-clause-entries g c =
    let new = c.insert.new.self.keys in
    let P : RankProof → Type 0 =
    λ p. (e : Ranked) → Contains new e ↔ (Contains p.entries e ⊎ (c.args.entry ≡ e)) in
    subst P c.self.view_is
    (entry-added c.self.inside.entries.keys new c.args.entry c.in_ok-insert.ensures.keys)
