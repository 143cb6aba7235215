use Rattle.std.proofs.Common.{◌+◌, drop, Option, sym, ap, ◌∙◌, arith}
use Rattle.std.proofs.lemmas.List.{at_drop_more, at_drop_all}
use Rattle.std.specs.Option.{option_map_or}
use Rattle.sessions.specs.Commits.{put_hold, put_holds}
use Rattle.sessions.specs.declared.hold.Hold.{Hold}
use Rattle.backup.proofs.commits.put_holds.Goals as goal
use Rattle.backup.proofs.commits.put_holds.Goals.{in-Some, in_default}

-- one more hold
pub loop-place-preserved : goal.loop-place-preserved
loop-place-preserved g c =
    let table = g.S.Readable.table in
    let hand = c.args.hand in
    let holds = c.args.holds.now in
    let i = c.loop-place.place-index in
    let t = table c.loop-place.to in
    let rest = drop (i + 1) holds in
    let placed = λ (x : Option Hold). put_holds hand rest (option_map_or (λ h. put_hold hand h t) x t) in
    let more = ap placed c.place-item.is ∙ sym (at_drop_more (λ hs. put_holds hand hs t) holds i c.place-item.result c.loop-place-test.true) ∙ c.loop-place.invariant in
    elim c.match-place.branch [
      | in-Some w ↦ ap (λ s. put_holds hand rest (table s)) w.to-is ∙ ap (put_holds hand rest) w.put_hold.ensures ∙ ap placed (sym w.in-Some.is) ∙ more
      | in_default w ↦ ap (λ s. put_holds hand rest (table s)) w.to-is ∙ ap placed (sym w.in_default.is) ∙ more
    ]

-- all holds
pub returns : goal.returns
returns g c =
    sym (at_drop_all (λ hs. put_holds c.args.hand hs (g.S.Readable.table c.loop-place.to)) c.args.holds.now c.loop-place.place-index (omega arith)) ∙ c.loop-place.invariant
