use Rattle.aiger_body.specs.Words.{ends_with}
use Rattle.aiger_body.proofs.Cutting.{piece_here, piece_next}
use Rattle.aiger_body.proofs.text.Ends.piece_at.Goals as goal

pub returns-clause-piece : goal.returns-clause-piece
returns-clause-piece c k is =
    piece_here (ends_with c.args.self) c.args.text.now k c.args.at c.split_at.result.1.now c.split_at-2.result.0.now c.piece_len.result is c.split_at.ensures.back c.piece_len.ensures.piece c.split_at-2.ensures.front

pub returns-clause-next : goal.returns-clause-next
returns-clause-next c k is =
    piece_next (ends_with c.args.self) c.args.text.now k c.args.at c.split_at.result.1.now c.split_at-2.result.0.now c.piece_len.result is c.split_at.ensures.back c.piece_len.ensures.piece c.split_at-2.ensures.front
