use Rattle.std.proofs.Common.{◌≡◌, map, replicate}
use Rattle.tables.specs.Tables.{blank}
use Rattle.slots.specs.Meaning.{entry_of}
use Rattle.slots.proofs.slot.SlotStore.new.Given as goal

-- the slots so far are blank, one for each turn
abbrev pub invariant-loop : goal.invariant-loop
invariant-loop l = map entry_of l.slots.items ≡ replicate l.counter blank
