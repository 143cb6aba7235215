use Rattle.rules.proofs.Closes.{each_call_extends}
use Rattle.rules.proofs.each_call_extends.Goals as goal

pub returns : goal.returns
returns c = each_call_extends
