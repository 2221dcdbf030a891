use Rattle.std.proofs.Common.{nat_eq, ◌∙◌}
use Rattle.indexmap.proofs.CallerLemmas.{insert_entry-new}
use Rattle.rv_core.proofs.session_map.insert.Goals as goal

pub returns-clause-added : goal.returns-clause-added
returns-clause-added c =
    c.in_ok-insert.ensures.entries
    ∙ insert_entry-new nat_eq c.args.sessions.now c.args.number c.args.word c.requires
