use Rattle.std.proofs.Common.{sym}
use Rattle.rules.specs.Office.{open_round}
use Rattle.sessions.specs.Answers.{did}
use Rattle.sessions.specs.View.{view}
use Rattle.backup.proofs.Counts.{kept_by_rule}
use Rattle.backup.proofs.office.OfficeServes.open.Goals as goal

-- what the rule leaves is kept
pub invariant_of-self : goal.invariant_of-self
invariant_of-self g c =
    let o = c.args.self.now in
    let K = g.K.Modes.kind in
    let live = g.L.Readable.table o.live in
    let image = g.I.Readable.table o.image in
    let told = c.open_round.ensures in
    record { kept = kept_by_rule K o.sessions.entries c.open_round.new.self.entries (view o.sessions live image) (view c.open_round.new.self live image) open_round (did c.open_round.result) o.kept told.0 (told.1 live image o.kept.0 (sym c.count.ensures) K) }
