use Rattle.std.proofs.Common.{◌<◌, length, sym, refl, ◌∙◌, arith}
use Rattle.sessions.proofs.Parts.{parts, kept, kept_for}
use Rattle.sessions.proofs.RoundRules.{copy_held, copy_done}
use Rattle.sessions.proofs.table.SessionTable.mark_copied.Goals as goal

pub returns-then-is_held-clause-rule : goal.returns-then-is_held-clause-rule
returns-then-is_held-clause-rule c =
    let t = c.args.self.now in (
      refl,
      λ live image n K.
          let h : c.args.e < length live = omega (arith, n, c.if-e-self.false) in
          copy_held K (parts t) live image c.args.e (kept t) h c.if-not-self.false c.if-self-e.false (sym c.if-is_held.ensures),
    )

pub returns-clause-rule : goal.returns-clause-rule
returns-clause-rule c =
    let t = c.args.self.now in (
      refl,
      λ live image n K.
          let h : c.args.e < length live = omega (arith, n, c.if-e-self.false) in
          copy_done K (parts t) live image c.args.e (kept_for t live n) h c.if-not-self.false c.if-self-e.false (sym c.is_held.ensures ∙ c.if-is_held.false),
    )
