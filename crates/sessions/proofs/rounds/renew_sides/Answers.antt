use Rattle.std.proofs.Common.{◌<◌, ◌++◌, map, option_map, length, get_or, drop, set, ap, ◌∙◌, arith, Some, sym}
use Rattle.std.proofs.lemmas.List.Edits.{map_over_more}
use Rattle.std.proofs.lemmas.List.{get_or_default, take_all, drop_all, append-nil}
use Rattle.sessions.specs.Sessions.{with_new_side}
use Rattle.sessions.proofs.rounds.renew_sides.Goals as goal
use Rattle.sessions.proofs.rounds.renew_sides.Goals.{in-Some, in_default}

pub loop-place-preserved : goal.loop-place-preserved
loop-place-preserved c =
    let f = option_map (with_new_side c.args.round) in
    let xs = c.args.sessions.now in
    let ys = c.loop-place.sessions in
    let i = c.loop-place.place-index in
    let h : i < length ys = omega arith in
    let k : i < length xs = omega arith in
    let x = get_or ys i c.place-item.result in
    let more = map_over_more f xs ys i x k c.loop-place.invariant (get_or_default ys i c.place-item.result x h) in
    elim c.match-place.branch [
      | in-Some w ↦ w.sessions-is ∙ ap (set ys i) (ap Some w.renew_side.ensures ∙ ap f (sym w.in-Some.is)) ∙ more
      | in_default w ↦ w.sessions-is ∙ ap (set ys i) (w.in_default.is ∙ ap f (sym w.in_default.is)) ∙ more
    ]

pub returns : goal.returns
returns c =
    let f = option_map (with_new_side c.args.round) in
    let xs = c.args.sessions.now in
    let i = c.loop-place.place-index in
    c.loop-place.invariant ∙ ap (λ t. map f t ++ drop i xs) (take_all i xs (omega arith)) ∙ ap (λ t. map f xs ++ t) (drop_all i xs (omega arith)) ∙ append-nil (map f xs)
