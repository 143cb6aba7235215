use Rattle.std.proofs.Common.{Err}
use Rattle.rules.specs.Office.{copy}
use Rattle.sessions.specs.Answers.{did}
use Rattle.sessions.specs.View.{view}
use Rattle.backup.proofs.Accepted.{copied_step}
use Rattle.backup.proofs.Counts.{kept_by_rule}
use Rattle.backup.proofs.office.OfficeServes.copy.Goals as goal

-- refused
pub invariant_of-self : goal.invariant_of-self
invariant_of-self g c =
    let o = c.args.self.now in
    let K = g.K.Modes.kind in
    let live = g.L.Readable.table o.live in
    let image = g.I.Readable.table o.image in
    let t' = c.mark_copied.new.self in
    let told = c.in_err-mark_copied.ensures.rule in
    record { kept = kept_by_rule K o.sessions.entries t'.entries (view o.sessions live image) (view t' live image) (copy c.args.entry) (did (Err c.in_err-mark_copied.field-0.0)) o.kept told.0 (told.1 live image o.kept.0 K) }

-- the entry is marked, and in a round the image has it
pub invariant_of-self-2 : goal.invariant_of-self-2
invariant_of-self-2 g c =
    let o = c.args.self.now in
    let K = g.K.Modes.kind in
    let e = c.args.entry in
    let live = g.L.Readable.table o.live in
    let image = g.I.Readable.table o.image in
    let t' = c.mark_copied.new.self in
    let told = c.in_ok-mark_copied.ensures.rule in
    let step = copied_step K o.sessions t' live image e o.kept (told.1 live image o.kept.0 K) c.copy_entry.result (g.I.Readable.table c.copy_entry.new.to) c.copy_entry.ensures in
    record { kept = kept_by_rule K o.sessions.entries t'.entries (view o.sessions live image) (view t' live (g.I.Readable.table c.copy_entry.new.to)) (copy e) (did c.copy_entry.result) o.kept told.0 step }
