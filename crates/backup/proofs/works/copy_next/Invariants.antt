use Rattle.std.proofs.Common.{◌≡◌}
use Rattle.sessions.specs.View.{view}
use Rattle.backup.proofs.CopyByCopy.{Going}
use Rattle.backup.proofs.works.copy_next.Given as goal

-- the entries are as many as before, and the work has come so far
abbrev pub invariant-loop-made : goal.invariant-loop-made
invariant-loop-made g l =
    (l.sessions.entries ≡ l.initial.sessions.entries)
    × Going l.limit l.made (view l.initial.sessions (g.L.Readable.table l.live) (g.I.Readable.table l.initial.image)) (view l.sessions (g.L.Readable.table l.live) (g.I.Readable.table l.image))
