use Rattle.std.proofs.Common.{◌∙◌}
use Rattle.rv_core.specs.Held.{spec_of}
use Rattle.rv_core.specs.Seen.{watched}
use Rattle.rv_core.proofs.Masking.{mask-names}
use Rattle.rv_core.proofs.watch.Watch.masked_letter.Goals as goal

pub returns : goal.returns
returns c =
    let w = c.args.self.now in
    c.of_letter.ensures ∙ mask-names (spec_of (watched w)) w.names c.args.letter w.named
