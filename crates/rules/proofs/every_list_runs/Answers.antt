use Rattle.rules.proofs.EveryList.{every_list_runs}
use Rattle.rules.proofs.every_list_runs.Goals as goal

pub returns : goal.returns
returns c = every_list_runs
