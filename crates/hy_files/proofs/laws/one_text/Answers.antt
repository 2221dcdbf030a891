use Rattle.hy_files.proofs.Texts.{text_once, text_not_refused, refused_once}
use Rattle.hy_files.proofs.laws.one_text.Goals as goal

pub returns-clause-taken : goal.returns-clause-taken
returns-clause-taken c = text_once

pub returns-clause-refused : goal.returns-clause-refused
returns-clause-refused c = refused_once

pub returns-clause-apart : goal.returns-clause-apart
returns-clause-apart c = text_not_refused
