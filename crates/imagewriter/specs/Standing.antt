-- What stands in the buffer, where only the writer wrote it.
use Rattle.std.specs.Prelude.{◌≡◌, ℕ, ◌+◌, ◌<◌, ◌≤◌, List, [], ◌∷◌, ◌++◌, length, take, Ok, Err, Result, ◌≢◌}
use Rattle.tables.specs.declared.refusal.Refusal.{Refusal}
use Rattle.tables.specs.declared.refusal.Refusal.TheVariants.{BodyLength}
use Rattle.tables.specs.Tables.{Table, Lawful, of, entry}
use Rattle.imageformat.specs.Format.{head, rows, bodies, written}
use Rattle.imagewriter.specs.Places.{room, row_place}
use Rattle.imagewriter.specs.declared.writer.TakesRows.{TakesRows}
use Rattle.imagewriter.specs.declared.writer.TakesBodies.{TakesBodies}
use Rattle.imagewriter.specs.declared.writer.Writer.{Writer}

-- the rows that the writer took are those of the table t, and they stand in the buffer behind the head
abbrev pub RowsStand : Table → Writer TakesRows → List ℕ → Type 0
RowsStand t w buf =
    Lawful t
    × (w.standing ≡ length t)
    × (w.place ≡ row_place w.count + length (bodies t))
    × (take (row_place (length t)) buf ≡ head w.count ++ rows (row_place w.count) t)

-- a begun writer has no row, and its buffer is never too short for it
abbrev pub BeginMeans : Result (Writer TakesRows) Refusal → List ℕ → Type 0
BeginMeans (Ok w) buf = RowsStand [] w buf × (room w.count ≤ length buf)
BeginMeans (Err f) buf = Unit {0}

-- a row that is taken is that of a new last entry; of its text only the length matters yet
abbrev pub RowMeans : Writer TakesRows → List ℕ → ℕ → ℕ → ℕ → Result (Unit {0}) Refusal → Writer TakesRows → List ℕ → Type 0
RowMeans w buf edition hand len r w' buf' =
    (t : Table) (s : List ℕ) → RowsStand t w buf → length s ≡ len → r ≡ Ok tt → RowsStand (t ++ (of s edition hand ∷ [])) w' buf'

-- all rows of the table t stand in the buffer behind the head, and behind them the bodies that the writer took
abbrev pub BodiesStand : Table → Writer TakesBodies → List ℕ → Type 0
BodiesStand t w buf =
    Lawful t
    × (w.count ≡ length t)
    × (w.place ≡ row_place w.count + length (bodies (take w.standing t)))
    × (take w.place buf ≡ head w.count ++ (rows (row_place w.count) t ++ bodies (take w.standing t)))

-- a turned writer has all rows and no body
abbrev pub TurnMeans : Writer TakesRows → Result (Writer TakesBodies) (Writer TakesRows × Refusal) → Type 0
TurnMeans w (Ok b) = (t : Table) (buf : List ℕ) → RowsStand t w buf → BodiesStand t b buf
TurnMeans w (Err p) = Unit {0}

-- a body is refused by its length exactly if it is not as long as its entry's text; the text itself is taken
abbrev pub BodyMeans : Writer TakesBodies → List ℕ → List ℕ → Result (Unit {0}) Refusal → Writer TakesBodies → List ℕ → Type 0
BodyMeans w buf text r w' buf' =
    (t : Table) → BodiesStand t w buf → room w.count ≤ length buf → w.standing < w.count →
    ((length text ≢ length (entry t w.standing).text) → r ≡ Err BodyLength)
    × (length text ≡ length (entry t w.standing).text → r ≡ Ok tt)
    × (text ≡ (entry t w.standing).text → BodiesStand t w' buf')

-- a finished file is the file of its table
abbrev pub FinishMeans : Writer TakesBodies → Result ℕ (Writer TakesBodies × Refusal) → Type 0
FinishMeans w r =
    (t : Table) (buf : List ℕ) → BodiesStand t w buf → w.standing ≡ w.count → (r ≡ Ok (length (written t))) × (take (length (written t)) buf ≡ written t)
