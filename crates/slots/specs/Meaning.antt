-- The table that a slot store holds.
use Rattle.std.specs.Prelude.{map}
use Rattle.tables.specs.Tables.{Entry, Table, of}
use Rattle.tables.specs.Texts.{bytes_of}
use Rattle.slots.specs.declared.slot.Slot.{Slot}
use Rattle.slots.specs.declared.slot.SlotStore.{SlotStore}

-- the entry in a slot
abbrev pub entry_of : Slot → Entry
entry_of s = of (bytes_of s.text) s.stamp.edition s.stamp.hand

-- the table in a store: one slot for each entry
abbrev pub table_of : SlotStore → Table
table_of s = map entry_of s.slots.items
