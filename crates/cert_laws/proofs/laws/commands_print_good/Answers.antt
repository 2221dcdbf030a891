use Rattle.std.proofs.Common.{refl}
use Rattle.ea_tool.specs.Texts.{text_of as ea_text_of}
use Rattle.mc_tool.specs.Texts.{text_of as mc_text_of}
use Rattle.cert_laws.specs.Claimed.{models_of, traces_in}
use Rattle.cert_laws.proofs.Questions.{claim-good, ea-evidence, mc-evidence}
use Rattle.cert_laws.proofs.laws.commands_print_good.Goals as goal

pub returns-clause-formulas : goal.returns-clause-formulas
returns-clause-formulas c question asked files names verdict claim low certifies known comes short makes =
    let text = ea_text_of question names verdict in
    claim-good c.one_text.ensures.taken c.one_circuit.ensures.taken asked files names text (models_of verdict) claim makes
    (ea-evidence question asked files names verdict low certifies known comes text refl short)

pub returns-clause-circuits : goal.returns-clause-circuits
returns-clause-circuits c words given question asked files names verdict claim said certifies found comes short makes =
    let text = mc_text_of question names verdict in
    claim-good c.one_text.ensures.taken c.one_circuit.ensures.taken asked files names text (traces_in verdict) claim makes
    (mc-evidence words given question asked files names verdict said certifies found comes text refl short)
