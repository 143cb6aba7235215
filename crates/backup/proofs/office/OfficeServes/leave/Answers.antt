use Rattle.rules.specs.Office.{leave}
use Rattle.sessions.specs.Answers.{did}
use Rattle.backup.proofs.Counts.{kept_by_all}
use Rattle.backup.proofs.office.OfficeServes.leave.Goals as goal

-- what the rule leaves is kept
pub invariant_of-self : goal.invariant_of-self
invariant_of-self g c =
    let o = c.args.self.now in
    record { kept = kept_by_all g.K.Modes.kind o.sessions c.leave.new.self (g.L.Readable.table o.live) (g.I.Readable.table o.image) (leave c.args.session) (did c.leave.result) o.kept c.leave.ensures }
