use Rattle.std.proofs.Common.{◌≡◌, drop}
use Rattle.sessions.specs.Commits.{put_holds}
use Rattle.backup.proofs.commits.put_holds.Given as goal

-- what is left to put gives the table that all holds give
abbrev pub invariant-loop-place : goal.invariant-loop-place
invariant-loop-place g l =
    put_holds l.hand (drop l.place-index l.holds) (g.S.Readable.table l.to) ≡ put_holds l.hand l.holds (g.S.Readable.table l.initial.to)
