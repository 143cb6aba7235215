use Rattle.rules.proofs.Closes.{rounds_lawful}
use Rattle.rules.proofs.rounds_lawful.Goals as goal

pub returns : goal.returns
returns c = rounds_lawful
