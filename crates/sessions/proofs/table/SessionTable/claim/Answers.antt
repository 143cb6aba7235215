use denote.Enum.Bare.{same_true, same_false}
use Rattle.std.proofs.Common.{◌≡◌, ◌<◌, length, None, Err, rules, sym, refl, ap, ◌∙◌, subst, arith}
use Rattle.tables.specs.contracts.refusal.Refusal.{the_type}
use Rattle.tables.specs.declared.refusal.Refusal.TheVariants.{HoldsFull, Ended}
use Rattle.rules.specs.Office.{claim, refused, done}
use Rattle.rules.specs.Rules.{Step}
use Rattle.sessions.specs.Answers.{did}
use Rattle.sessions.proofs.ClaimRules.{asked, asked_for, place_below, granted_as, claim_kept, claim_full, claim_conflict, claim_paused, claim_ended, claim_done}
use Rattle.sessions.proofs.Leaves.{ended_kept}
use Rattle.sessions.proofs.Parts.{parts, seen, with_place, kept, kept_for, ghosts, step_with, kept_with}
use Rattle.sessions.proofs.table.SessionTable.claim.Goals as goal

pub returns-in_err-k : goal.returns-in_err-k
returns-in_err-k g c =
    let K = g.K.Modes.kind in
    let t = c.args.self.now in
    let m : c.args.m < K.modes = omega (arith, c.modes.ensures, c.if-m-modes.false) in
    let r : c.from_residual-in_err-k.result ≡ Err HoldsFull = search rules in (
      refl,
      λ live image n.
          let h : c.args.e < length live = omega (arith, n, c.if-e-self.false) in
          subst (λ r. Step K (seen (parts t) live image) (claim c.args.s c.args.e c.args.m) (did r) (seen (parts t) live image)) (sym r)
          (claim_full K (parts t) live image c.args.s c.args.e c.args.m c.in_ok-i.session.now (kept_for t live n) c.in_ok-i.ensures.2 h m c.hold_place.ensures.is c.in_err-k.ensures.ok_part),
    )

pub returns-then-conflicts : goal.returns-then-conflicts
returns-then-conflicts g c =
    let K = g.K.Modes.kind in
    let t = c.args.self.now in
    let p = c.in_ok-i.ensures in
    let m : c.args.m < K.modes = omega (arith, c.modes.ensures, c.if-m-modes.false) in
    let a = asked K t c.args.s c.args.e c.args.m c.in_ok-i.i c.in_ok-k.k c.wanted-wanted.result c.in_ok-i.session.now
    p c.if-e-self.false m c.hold_place.ensures.is c.in_ok-k.ensures.ok_part c.wanted-wanted.ensures in
    (refl, λ live image n. claim_conflict live image (asked_for live n a) c.if-conflicts.ensures)

pub grant_at-requires-clause-hold : goal.grant_at-requires-clause-hold
grant_at-requires-clause-hold g c =
    place_below c.args.self.now c.args.s c.in_ok-k.k c.in_ok-i.session.now c.in_ok-i.ensures.2 c.hold_place.ensures.within c.in_ok-k.ensures.ok_part

pub invariant_of-self : goal.invariant_of-self
invariant_of-self g c =
    let K = g.K.Modes.kind in
    let t = c.args.self.now in
    let p = c.in_ok-i.ensures in
    let m : c.args.m < K.modes = omega (arith, c.modes.ensures, c.if-m-modes.false) in
    let a = asked K t c.args.s c.args.e c.args.m c.in_ok-i.i c.in_ok-k.k c.wanted-wanted.result c.in_ok-i.session.now
    p c.if-e-self.false m c.hold_place.ensures.is c.in_ok-k.ensures.ok_part c.wanted-wanted.ensures in
    ghosts (kept_with (parts t) c.in_ok-i.i _ (granted_as c.in-Ok.side a c.grant_at.ensures) (claim_kept c.in-Ok.side a))

pub returns-in-Ok : goal.returns-in-Ok
returns-in-Ok g c =
    let K = g.K.Modes.kind in
    let t = c.args.self.now in
    let p = c.in_ok-i.ensures in
    let m : c.args.m < K.modes = omega (arith, c.modes.ensures, c.if-m-modes.false) in
    let a = asked K t c.args.s c.args.e c.args.m c.in_ok-i.i c.in_ok-k.k c.wanted-wanted.result c.in_ok-i.session.now
    p c.if-e-self.false m c.hold_place.ensures.is c.in_ok-k.ensures.ok_part c.wanted-wanted.ensures in (
      refl,
      λ live image n.
          step_with K (parts t) (claim c.args.s c.args.e c.args.m) done live image c.in_ok-i.i _ (granted_as c.in-Ok.side a c.grant_at.ensures)
          (claim_done live image (asked_for live n a) c.in-Ok.side c.conflicts.ensures c.if-conflicts.false c.in-Ok.ensures),
    )

pub invariant_of-self-then-eq : goal.invariant_of-self-then-eq
invariant_of-self-then-eq g c =
    let t = c.args.self.now in
    let p = c.in_ok-i.ensures in
    ghosts (ended_kept (parts t) c.args.s c.in_ok-i.i p.0 (kept t) p.1)

pub returns-then-eq : goal.returns-then-eq
returns-then-eq g c =
    let K = g.K.Modes.kind in
    let t = c.args.self.now in
    let p = c.in_ok-i.ensures in
    let m : c.args.m < K.modes = omega (arith, c.modes.ensures, c.if-m-modes.false) in
    let a = asked K t c.args.s c.args.e c.args.m c.in_ok-i.i c.in_ok-k.k c.wanted-wanted.result c.in_ok-i.session.now
    p c.if-e-self.false m c.hold_place.ensures.is c.in_ok-k.ensures.ok_part c.wanted-wanted.ensures in
    let ended : c.in-Err.refusal ≡ Ended = same_true the_type (search rules) _ _ (sym c.if-eq.ensures) in (
      refl,
      λ live image n.
          subst (λ f. Step K (seen (parts t) live image) (claim c.args.s c.args.e c.args.m) (refused f) (seen (with_place (parts t) c.in_ok-i.i None) live image)) (sym ended)
          (claim_ended live image (asked_for live n a) c.conflicts.ensures c.if-conflicts.false (ap Err (sym ended) ∙ c.in-Err.ensures)),
    )

pub returns-else-eq : goal.returns-else-eq
returns-else-eq g c =
    let K = g.K.Modes.kind in
    let t = c.args.self.now in
    let p = c.in_ok-i.ensures in
    let m : c.args.m < K.modes = omega (arith, c.modes.ensures, c.if-m-modes.false) in
    let a = asked K t c.args.s c.args.e c.args.m c.in_ok-i.i c.in_ok-k.k c.wanted-wanted.result c.in_ok-i.session.now
    p c.if-e-self.false m c.hold_place.ensures.is c.in_ok-k.ensures.ok_part c.wanted-wanted.ensures in
    let other = same_false the_type _ _ (sym c.if-eq.ensures) in
    (refl, λ live image n. claim_paused live image (asked_for live n a) c.in-Err.refusal c.conflicts.ensures c.if-conflicts.false c.in-Err.ensures other)
