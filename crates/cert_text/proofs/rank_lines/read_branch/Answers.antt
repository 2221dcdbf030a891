use Rattle.cert_text.proofs.Heads.{no_branch_words}
use Rattle.cert_text.proofs.rank_lines.read_branch.Goals as goal

pub returns-in_default : goal.returns-in_default
returns-in_default c = no_branch_words c.args.line.now c.in_default.ensures
