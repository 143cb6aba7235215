use Rattle.rules.proofs.TablesLawful.{tables_lawful}
use Rattle.rules.proofs.tables_lawful.Goals as goal

pub returns : goal.returns
returns c = tables_lawful
