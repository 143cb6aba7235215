use Rattle.rules.specs.Office.{begin}
use Rattle.sessions.specs.Answers.{numbered}
use Rattle.backup.proofs.Counts.{kept_by_all}
use Rattle.backup.proofs.office.OfficeServes.begin.Goals as goal

-- what the rule leaves is kept
pub invariant_of-self : goal.invariant_of-self
invariant_of-self g c =
    let o = c.args.self.now in
    record { kept = kept_by_all g.K.Modes.kind o.sessions c.begin.new.self (g.L.Readable.table o.live) (g.I.Readable.table o.image) begin (numbered c.begin.result) o.kept c.begin.ensures }
