use Rattle.std.proofs.Common.{◌≡◌, ◌≤◌, max, drop}
use Rattle.rules.specs.Office.{greatest_hand}
use Rattle.backup.proofs.hands.highest_hand.Given as goal

-- the greatest hand so far and those of the entries to come give the table's
abbrev pub invariant-loop-e : goal.invariant-loop-e
invariant-loop-e g l =
    (max l.highest (greatest_hand (drop l.e (g.R.Readable.table l.table))) ≡ greatest_hand (g.R.Readable.table l.table))
    × (l.highest ≤ 4_000_000_000)
