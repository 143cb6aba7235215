use Rattle.std.proofs.Common.{rules}
use Rattle.std.proofs.lemmas.List.{length-map, map-set}
use Rattle.slots.proofs.store.SlotStoreStore.put.Goals as goal

-- the write to the slot is the write to the table
pub returns : goal.returns
returns c = search (rules, length-map, map-set)
