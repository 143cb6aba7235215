use Rattle.std.proofs.Common.{arith, rules}
use Rattle.std.proofs.lemmas.List.{take_all, take_more, take_more_set, length-set}
use Rattle.restore.proofs.restore.Goals as goal

-- one more entry is the source's
pub loop-e-preserved : goal.loop-e-preserved
loop-e-preserved g c = search (rules, arith, take_more, take_more_set, length-set)

-- all entries are the source's
pub returns : goal.returns
returns g c = search (rules, take_all)
