use Rattle.std.proofs.Common.{sym, refl, ◌∙◌}
use Rattle.sessions.proofs.Parts.{parts, kept, kept_for, ghosts}
use Rattle.sessions.proofs.RoundRules.{opened_kept, open_done}
use Rattle.sessions.proofs.table.SessionTable.open_round.Goals as goal

pub invariant_of-self : goal.invariant_of-self
invariant_of-self c = let t = c.args.self.now in ghosts (opened_kept (parts t) (kept t) c.renew_sides.ensures)

pub returns : goal.returns
returns c =
    let t = c.args.self.now in (
      refl,
      λ live image n m K. open_done K (parts t) live image (kept_for t live n) c.if-self.false (m ∙ c.if-image_entries-self.false ∙ sym n) c.renew_sides.ensures,
    )
