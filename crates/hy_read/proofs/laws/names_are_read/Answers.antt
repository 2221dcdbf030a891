use Rattle.hy_read.proofs.ReadFormulas.{distinct_names, few_names, good_names, old_names}
use Rattle.hy_read.proofs.laws.names_are_read.Goals as goal

pub returns-clause-names : goal.returns-clause-names
returns-clause-names c = good_names

pub returns-clause-distinct : goal.returns-clause-distinct
returns-clause-distinct c = distinct_names

pub returns-clause-few : goal.returns-clause-few
returns-clause-few c = few_names

pub returns-clause-kept : goal.returns-clause-kept
returns-clause-kept c = old_names
