-- What the writing of a whole table answers.
use Rattle.std.specs.Prelude.{◌≡◌, ℕ, ◌<◌, ◌≤◌, List, ◌++◌, length, drop, Ok, Err, Result}
use Rattle.tables.specs.declared.refusal.Refusal.{Refusal}
use Rattle.tables.specs.declared.refusal.Refusal.TheVariants.{WriterShort}
use Rattle.tables.specs.Tables.{Table}
use Rattle.imageformat.specs.Format.{written}
use Rattle.imagewriter.specs.Places.{room}

-- the table's file is put at the front of the buffer, and the rest is kept; a shorter buffer stays as it is
abbrev pub WriteAnswer : Table → List ℕ → Result ℕ Refusal → List ℕ → Type 0
WriteAnswer t buf r buf' =
    (room (length t) ≤ length buf → (r ≡ Ok (length (written t))) × (buf' ≡ written t ++ drop (length (written t)) buf))
    × (length buf < room (length t) → (r ≡ Err WriterShort) × (buf' ≡ buf))
