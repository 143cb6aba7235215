use Rattle.std.proofs.Common.{◌≡◌, length, take}
use Rattle.restore.proofs.restore.Given as goal

-- the store has as many entries as the source, and those before `e` are the source's
abbrev pub invariant-loop-e : goal.invariant-loop-e
invariant-loop-e g l =
    (length (g.S.Readable.table l.to) ≡ l.count)
    × (take l.e (g.S.Readable.table l.to) ≡ take l.e (g.R.Readable.table l.from))
