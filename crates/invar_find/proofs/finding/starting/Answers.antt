use Rattle.std.proofs.Common.{◌≡◌, false, length, ◌∙◌, ap, replicate}
use Rattle.std.proofs.lemmas.List.{get_or-replicate, length-replicate}
use Rattle.hy_base.specs.Rows.{row}
use Rattle.invar_find.proofs.Starting.{if-ok-map, started}
use Rattle.invar_find.proofs.finding.starting.Goals as goal

pub sifted-requires-clause-state : goal.sifted-requires-clause-state
sifted-requires-clause-state c =
    ap length (c.as_slice.ensures ∙ c.in_ok-zeros.ensures)
    ∙ length-replicate c.len-latches.result false ∙ c.len-latches.ensures
    ∙ ap length c.latches.ensures

pub returns : goal.returns
returns c =
    let many : c.len-latches.result ≡ length c.args.trial.now.safe.now.net.latches =
    c.len-latches.ensures ∙ ap length c.latches.ensures in
    let zeros : c.as_slice.result.now
    ≡ replicate (length c.args.trial.now.safe.now.net.latches) false =
    c.as_slice.ensures ∙ c.in_ok-zeros.ensures ∙ ap (λ n. replicate n false) many in
    if-ok-map c.sifted.result _ _ c.sifted.ensures (λ facts those.
    started c.args.trial.now.safe.now c.args.trial.now.conflicts c.args.trial.now.candidates.now
    facts (row c.as_slice.result.now) c.requires.safe c.requires.inside c.requires.few
    (λ j lt. ap (λ s. row s j) zeros ∙ get_or-replicate _ j false false lt) those)
