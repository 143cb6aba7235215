use Rattle.std.proofs.Common.{refl}
use Rattle.sessions.proofs.Parts.{parts, kept, ghosts}
use Rattle.sessions.proofs.RoundRules.{dropped_kept, drop_done}
use Rattle.sessions.proofs.table.SessionTable.drop_round.Goals as goal

pub invariant_of-self : goal.invariant_of-self
invariant_of-self c = let t = c.args.self.now in ghosts (dropped_kept (parts t) (kept t) c.renew_sides.ensures)

pub returns : goal.returns
returns c =
    let t = c.args.self.now in
    (refl, λ live image n K. drop_done K (parts t) live image c.if-not-self.false c.renew_sides.ensures)
