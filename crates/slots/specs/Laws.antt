-- The table of a slot store is lawful.
use Rattle.std.specs.Prelude.{ℕ, zero, suc, ◌<◌, List, [], ◌∷◌, map, length, slice_index_or}
use Rattle.std.proofs.Common.{arith}
use Rattle.std.proofs.lemmas.List.{length-map}
use Rattle.tables.specs.Tables.{blank, LawfulEntry, Lawful}
use Rattle.slots.specs.declared.slot.Slot.{Slot}
use Rattle.slots.specs.declared.slot.SlotStore.{SlotStore}
use Rattle.slots.specs.Meaning.{entry_of, table_of}

-- a slot's entry is lawful, as its text and its stamp are
slot_lawful : (s : Slot) → LawfulEntry (entry_of s)
slot_lawful s = (s.text.short, s.stamp.lawful)

-- so is each entry of a list of slots
entries_lawful : (xs : List Slot) (e : ℕ) → e < length (map entry_of xs) → LawfulEntry (slice_index_or (map entry_of xs) e blank)
entries_lawful [] e h = absurd (omega arith)
entries_lawful (x ∷ xs) zero h = slot_lawful x
entries_lawful (x ∷ xs) (suc e) h = entries_lawful xs e (omega arith)

-- the table of a store is lawful
pub table_lawful : (s : SlotStore) → Lawful (table_of s)
table_lawful s = (simp length-map s.few, entries_lawful s.slots.items)
