use Rattle.hy_files.proofs.FileNames.{name_within, name_past}
use Rattle.hy_files.proofs.lines.name_of_file.Goals as goal

pub returns-then-i-names : goal.returns-then-i-names
returns-then-i-names c = name_within c.args.names.now c.args.file _ c.if-i-names.true

pub returns-else-i-names : goal.returns-else-i-names
returns-else-i-names c = name_past c.args.names.now c.args.file c.if-i-names.false
