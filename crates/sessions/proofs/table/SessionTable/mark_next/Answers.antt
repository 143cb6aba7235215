use Rattle.std.proofs.Common.{sym, ◌∙◌}
use Rattle.sessions.proofs.RoundRules.{next_copyable}
use Rattle.sessions.proofs.table.SessionTable.mark_next.Goals as goal

pub returns-in_err-next-clause-next : goal.returns-in_err-next-clause-next
returns-in_err-next-clause-next c live image n = c.from_residual.ensures ∙ c.in_err-next.ensures.is ∙ sym (next_copyable c.args.self.now live image n)

pub returns-clause-next : goal.returns-clause-next
returns-clause-next c live image n = c.in_ok-next.ensures.is ∙ sym (next_copyable c.args.self.now live image n)
