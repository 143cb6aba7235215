use Rattle.std.proofs.Common.{refl}
use Rattle.sessions.proofs.Leaves.{leave_done, ended_kept}
use Rattle.sessions.proofs.Parts.{parts, kept, ghosts}
use Rattle.sessions.proofs.table.SessionTable.leave.Goals as goal

pub invariant_of-self : goal.invariant_of-self
invariant_of-self c =
    let t = c.args.self.now in
    let p = c.in_ok-i.ensures in
    ghosts (ended_kept (parts t) c.args.s c.in_ok-i.i p.0 (kept t) p.1)

pub returns : goal.returns
returns c =
    let t = c.args.self.now in
    let p = c.in_ok-i.ensures in (refl, λ live image h K. leave_done K (parts t) live image c.args.s c.in_ok-i.i _ (kept t) p.1 p.2)
