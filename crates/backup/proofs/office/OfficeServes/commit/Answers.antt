use Rattle.std.proofs.Common.{sym, subst}
use Rattle.tables.specs.Tables.{Table}
use Rattle.rules.specs.Office.{commit}
use Rattle.rules.specs.Rules.{Step}
use Rattle.sessions.specs.Answers.{did}
use Rattle.sessions.specs.View.{view}
use Rattle.backup.proofs.Counts.{kept_by_rule}
use Rattle.backup.proofs.office.OfficeServes.commit.Goals as goal

-- the live store has what the rule puts, and the session table ends the session by the rule
pub returns : goal.returns
returns g c =
    let o = c.args.self.now in
    let K = g.K.Modes.kind in
    let live = g.L.Readable.table o.live in
    let image = g.I.Readable.table o.image in
    let after : Table → Type 0 = λ l. Step K (view o.sessions live image) (commit c.args.session) (did c.end_commit.result) (view c.end_commit.new.self l image) in
    subst after (sym c.put_session.ensures) (c.end_commit.ensures.1 live image o.kept.0 K)

-- so the office is kept
pub invariant_of-self : goal.invariant_of-self
invariant_of-self g c =
    let o = c.args.self.now in
    let K = g.K.Modes.kind in
    let live = g.L.Readable.table o.live in
    let image = g.I.Readable.table o.image in
    let a = did c.end_commit.result in
    let t' = c.end_commit.new.self in
    let after : Table → Type 0 = λ l. Step K (view o.sessions live image) (commit c.args.session) a (view t' l image) in
    record { kept = kept_by_rule K o.sessions.entries t'.entries (view o.sessions live image) (view t' (g.L.Readable.table c.put_session.new.to) image) (commit c.args.session) a o.kept c.end_commit.ensures.0 (subst after (sym c.put_session.ensures) (c.end_commit.ensures.1 live image o.kept.0 K)) }
