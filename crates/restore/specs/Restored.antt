-- What a restore answers and leaves.
use Rattle.std.specs.Prelude.{◌≡◌, ℕ, ◌<◌, ◌≤◌, length, Ok, Err, Result, ◌≢◌, slice_set}
use Rattle.tables.specs.declared.refusal.Refusal.{Refusal}
use Rattle.tables.specs.declared.refusal.Refusal.TheVariants.{NoEntry, CountsDiffer}
use Rattle.tables.specs.Tables.{Table, entry}

-- entry e of a table is put into a store: t is the store's table before, t' after
abbrev pub EntryCopied : Table → Table → ℕ → Result (Unit {0}) Refusal → Table → Type 0
EntryCopied source t e r t' =
    (e < length source → e < length t → (r ≡ Ok tt) × (t' ≡ slice_set t e (entry source e)))
    × (length source ≤ e → (r ≡ Err NoEntry) × (t' ≡ t))
    × (length t ≤ e → (r ≡ Err NoEntry) × (t' ≡ t))

-- a table is put into a store: t is the store's table before, t' after
abbrev pub Restored : Table → Table → Result (Unit {0}) Refusal → Table → Type 0
Restored source t r t' =
    (length source ≡ length t → (r ≡ Ok tt) × (t' ≡ source))
    × ((length source ≢ length t) → (r ≡ Err CountsDiffer) × (t' ≡ t))
