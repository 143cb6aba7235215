-- What the calls on a table answer.
use Rattle.std.specs.Prelude.{◌≡◌, ℕ, ◌<◌, ◌≤◌, List, ◌++◌, length, drop, Ok, Err, Result, slice_set}
use Rattle.tables.specs.declared.refusal.Refusal.{Refusal}
use Rattle.tables.specs.declared.refusal.Refusal.TheVariants.{NoEntry, ShortBuffer, LongText}
use Rattle.tables.specs.Tables.{Table, entry, of}

-- a text is put at the front of a buffer, and the rest is kept; a shorter buffer stays as it is
abbrev pub Front : List ℕ → List ℕ → Result ℕ Refusal → List ℕ → Type 0
Front s buf r buf' =
    (length s ≤ length buf → (r ≡ Ok (length s)) × (buf' ≡ s ++ drop (length s) buf))
    × (length buf < length s → (r ≡ Err ShortBuffer) × (buf' ≡ buf))

-- the stamp of an entry is asked for
abbrev pub StampAnswer : Table → ℕ → Result (ℕ × ℕ) Refusal → Type 0
StampAnswer t e r =
    (e < length t → r ≡ Ok ((entry t e).edition, (entry t e).hand))
    × (length t ≤ e → r ≡ Err NoEntry)

-- the text of an entry is asked for
abbrev pub TextAnswer : Table → ℕ → List ℕ → Result ℕ Refusal → List ℕ → Type 0
TextAnswer t e buf r buf' =
    (e < length t → Front (entry t e).text buf r buf')
    × (length t ≤ e → (r ≡ Err NoEntry) × (buf' ≡ buf))

-- a text and a stamp are put into an entry: t is the store's table before, t' after
abbrev pub PutAnswer : Table → ℕ → List ℕ → ℕ → ℕ → Result (Unit {0}) Refusal → Table → Type 0
PutAnswer t e s edition hand r t' =
    (e < length t → length s ≤ 96 → (r ≡ Ok tt) × (t' ≡ slice_set t e (of s edition hand)))
    × (e < length t → 96 < length s → (r ≡ Err LongText) × (t' ≡ t))
    × (length t ≤ e → (r ≡ Err NoEntry) × (t' ≡ t))
