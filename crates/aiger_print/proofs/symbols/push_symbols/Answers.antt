use Rattle.std.proofs.Common.{◌++◌, [], ◌∙◌, ap}
use Rattle.aig_order.proofs.Reach.{read-at}
use Rattle.aiger_print.specs.Printed.{symbol_line, name_at}
use Rattle.aiger_print.proofs.Listing.{listed_more}
use Rattle.aiger_print.proofs.symbols.push_symbols.Goals as goal

pub loop-n-preserved : goal.loop-n-preserved
loop-n-preserved c =
    let names = c.args.names.now in
    let n = c.loop-n.n in
    c.in_ok-push_symbol.ensures
    ∙ ap (λ s. c.loop-n.text ++ symbol_line c.args.letter n s) (c.as_slice.ensures ∙ read-at names n c.at.result.now [] c.at.ensures)
    ∙ ap (λ t. t ++ symbol_line c.args.letter n (name_at names n)) c.loop-n.invariant
    ∙ listed_more c.args.text.now (λ m. symbol_line c.args.letter m (name_at names m)) n
