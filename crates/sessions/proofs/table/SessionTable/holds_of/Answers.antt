use Rattle.std.proofs.Common.{option_map, sym, ap}
use Rattle.sessions.proofs.CommitRules.{hand_left}
use Rattle.sessions.proofs.Parts.{parts, kept}
use Rattle.sessions.proofs.Sound.{sound_of}
use Rattle.sessions.proofs.table.SessionTable.holds_of.Goals as goal

pub returns : goal.returns
returns c =
    let t = c.args.self.now in
    let p = c.in_ok-session.ensures in
    let g = sound_of (parts t) c.args.s c.in_ok-session.session.now (kept t) (sym p.value) in
    (ap (option_map (λ x. x.holds)) (sym p.value), g.below, hand_left (parts t) c.args.s c.in_ok-session.field-0-0 p.within (kept t) (sym p.is))
