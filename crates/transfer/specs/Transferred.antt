-- What a transfer answers and leaves.
use Rattle.std.specs.Prelude.{◌≡◌, ℕ, ◌+◌, ◌*◌, ◌<◌, ◌≤◌, List, ◌++◌, length, drop, Ok, Err, Result, ◌≢◌}
use Rattle.tables.specs.Tables.{Table}
use Rattle.tables.specs.declared.refusal.Refusal.TheVariants.{CountsDiffer, WriterShort}
use Rattle.compare.specs.declared.Comparison.TheVariants.{Same}
use Rattle.imageformat.specs.Format.{written}
use Rattle.imagerestore.specs.declared.fault.RestoreFault.TheVariants.{Table as OfTable}
use Rattle.transfer.specs.declared.Transfer.{Transfer}
use Rattle.transfer.specs.declared.fault.TransferFault.{TransferFault}
use Rattle.transfer.specs.declared.fault.TransferFault.TheVariants.{Write, Restore}

-- the table's file stands at the front of the buffer, and the rest is as it was
abbrev pub FileStands : Table → List ℕ → List ℕ → Type 0
FileStands t file file' = file' ≡ written t ++ drop (length (written t)) file

-- the figures of the transfer of a table
abbrev pub figures : Table → Transfer
figures t = record { file_length = length (written t); entries = length t; compared = Same }

-- t is the source's table, file and s the buffer and the store's table before, file' and s' after: refused by
-- 28 where the buffer is short, by 15 where the counts differ, else the store holds the source's table
abbrev pub Transferred : Table → List ℕ → Table → Result Transfer TransferFault → List ℕ → Table → Type 0
Transferred t file s r file' s' =
    (length file < 4 + 110 * length t → (r ≡ Err (Write WriterShort)) × (file' ≡ file) × (s' ≡ s))
    × (4 + 110 * length t ≤ length file → (length t ≢ length s) → (r ≡ Err (Restore (OfTable CountsDiffer))) × FileStands t file file' × (s' ≡ s))
    × (4 + 110 * length t ≤ length file → length t ≡ length s → (r ≡ Ok (figures t)) × FileStands t file file' × (s' ≡ t))
