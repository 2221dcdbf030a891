use Rattle.std.proofs.Common.{codes, sym, ◌∙◌}
use Rattle.hy_base.proofs.Truths.{same-bytes}
use Rattle.rv_tool.proofs.Asking.{one_file}
use Rattle.rv_watch.proofs.Asking.{same_head}
use Rattle.rv_watch.proofs.words.ordered.Goals as goal

pub returns-then-eq-clause-none : goal.returns-then-eq-clause-none
returns-then-eq-clause-none c items question file tells orders =
    let one = sym orders.files ∙ tells.files ∙ sym c.requires ∙ one_file c.args.files.now _ c.in-len1.len_at_least c.in-len1.len_below in
    orders.apart (same_head file _ one ∙ same-bytes _ (codes "-") (sym c.if-eq.ensures))
