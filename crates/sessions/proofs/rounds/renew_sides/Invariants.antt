use Rattle.std.proofs.Common.{◌≡◌, ◌++◌, map, option_map, take, drop}
use Rattle.sessions.specs.Sessions.{with_new_side}
use Rattle.sessions.proofs.rounds.renew_sides.Given as goal

abbrev pub invariant-loop-place : goal.invariant-loop-place
invariant-loop-place l =
    l.sessions ≡ map (option_map (with_new_side l.round)) (take l.place-index l.initial.sessions) ++ drop l.place-index l.initial.sessions
