use Rattle.rules.specs.Office.{claim}
use Rattle.sessions.specs.Answers.{did}
use Rattle.backup.proofs.Counts.{kept_by_sessions}
use Rattle.backup.proofs.office.OfficeServes.claim.Goals as goal

-- what the rule leaves is kept
pub invariant_of-self : goal.invariant_of-self
invariant_of-self g c =
    let o = c.args.self.now in
    record { kept = kept_by_sessions g.K.Modes.kind o.sessions c.claim.new.self (g.L.Readable.table o.live) (g.I.Readable.table o.image) (claim c.args.session c.args.entry c.args.mode) (did c.claim.result) o.kept c.claim.ensures }
