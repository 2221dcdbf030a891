use Rattle.sym_tableau.proofs.Heeding.{old-execution, roots-hold}
use Rattle.sym_tableau.proofs.Foretelling.{wider, wider-old, new-execution, oracle-right, wider-recurs}
use Rattle.sym_tableau.proofs.AttachedRange.{attached-net}
use Rattle.sym_tableau.proofs.laws.executions_are_words.Goals as goal

pub returns-clause-below : goal.returns-clause-below
returns-clause-below c = old-execution

pub returns-clause-hold : goal.returns-clause-hold
returns-clause-hold c = roots-hold

pub returns-clause-extends : goal.returns-clause-extends
returns-clause-extends c net good nodes form numbers signals reads roots inside word is decided
    hold = (
      wider net good nodes form numbers signals reads roots word is decided,
      new-execution net good nodes form numbers signals reads roots word is decided inside hold,
      wider-old net good nodes form numbers signals reads roots word is decided,
      oracle-right net good nodes form numbers signals reads roots word is decided,
      wider-recurs net good nodes form numbers signals reads roots word is decided,
    )

pub returns-clause-net : goal.returns-clause-net
returns-clause-net c = attached-net
