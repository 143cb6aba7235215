use Rattle.std.proofs.Common.{◌≡◌, length}
use Rattle.std.specs.List.{All}
use Rattle.pages.proofs.Blanks.{BlankRow}
use Rattle.pages.proofs.store.PageStore.new.Given as goal

-- a blank row for each turn
abbrev pub invariant-loop : goal.invariant-loop
invariant-loop l = (length l.rows.items ≡ l.counter) × All BlankRow l.rows.items
