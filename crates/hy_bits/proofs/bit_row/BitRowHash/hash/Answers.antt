use Rattle.std.proofs.Common.{ap, sym, ◌∙◌}
use Rattle.std.specs.Hash as fed
use Rattle.std.specs.List.{fold}
use Rattle.hy_bits.specs.Binary.{number}
use Rattle.hy_bits.specs.Rows.{words_of}
use Rattle.hy_bits.specs.RowLaws.{words_of-members}
use Rattle.hy_bits.proofs.bit_row.BitRowHash.hash.Goals as goal

pub returns : goal.returns
returns g c =
    let same = sym (words_of-members g.row.W c.self.inside.words c.self.invariant.1
    c.self.invariant.2) ∙ ap (λ s. words_of g.row.W (number s)) c.self.view_is in
    c.hash.ensures ∙ ap (λ ws. fold g.H.Hasher.write c.args.state.now (fed.slice fed.u64 ws)) same
