use Rattle.std.proofs.Common.{cond, Ok, Err, sym, ap, ◌∙◌}
use Rattle.tables.specs.declared.refusal.Refusal.TheVariants.{NoRound}
use Rattle.rules.specs.Rules.{next_of}
use Rattle.sessions.specs.View.{view}
use Rattle.sessions.proofs.RoundRules.{next_copyable}
use Rattle.sessions.proofs.table.SessionTable.next.Goals as goal

pub returns : goal.returns
returns c =
    λ live image n.
    ap Ok (c.next_entry.ensures.is ∙ sym (next_copyable c.args.self.now live image n))
    ∙ sym (ap (λ b. cond b (Ok (next_of (view c.args.self.now live image))) (Err NoRound)) c.if-not-self.false)
