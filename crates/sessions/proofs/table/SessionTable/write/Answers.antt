use Rattle.std.proofs.Common.{sym, refl}
use Rattle.rules.specs.Office.{write, done}
use Rattle.sessions.proofs.Parts.{parts, ghosts, step_with, kept_with}
use Rattle.sessions.proofs.WriteRules.{writing, writing_for, written_as, write_done, write_kept}
use Rattle.sessions.proofs.table.SessionTable.write.Goals as goal

pub invariant_of-self : goal.invariant_of-self
invariant_of-self g c =
    let t = c.args.self.now in
    let p = c.in_ok-i.ensures in
    let i = c.in_ok-i.i in
    let x = c.in_ok-i.session.now in
    let a = writing t c.args.s c.args.e i c.in_ok-k.k x c.in_ok-k.hold p c.if-e-self.false c.found.ensures.is c.found.ensures.value c.in_ok-k.ensures.ok_part in
    ghosts (kept_with (parts t) i _ (written_as c.in_ok-text.text a c.keep_at.ensures) (write_kept c.in_ok-text.text a))

pub returns : goal.returns
returns g c =
    let t = c.args.self.now in
    let p = c.in_ok-i.ensures in
    let i = c.in_ok-i.i in
    let x = c.in_ok-i.session.now in
    let a = writing t c.args.s c.args.e i c.in_ok-k.k x c.in_ok-k.hold p c.if-e-self.false c.found.ensures.is c.found.ensures.value c.in_ok-k.ensures.ok_part in (
      refl,
      λ live image n.
          step_with g.K.Modes.kind (parts t) (write c.args.s c.args.e c.args.text.now) done live image i _ (written_as c.in_ok-text.text a c.keep_at.ensures)
          (write_done g.K.Modes.kind live image c.in_ok-text.text (writing_for live n a) (sym c.if-not-writes.ensures) c.in_ok-text.ensures),
    )
