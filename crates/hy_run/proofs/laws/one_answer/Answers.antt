use Rattle.std.proofs.Common.{[]}
use Rattle.hy_run.proofs.Settled.{bytes_once, decides_once}
use Rattle.hy_run.proofs.laws.one_answer.Goals as goal

pub returns-clause-reads : goal.returns-clause-reads
returns-clause-reads g c settled question files given names others a b one two =
    decides_once g.T.Tool.rules settled question files given [] [] names others a b one two

pub returns-clause-bytes : goal.returns-clause-bytes
returns-clause-bytes g c settled question files contents given other names others a b gave also one two =
    bytes_once g.T.Tool.rules settled question files contents given other [] [] names others a b gave also one two
