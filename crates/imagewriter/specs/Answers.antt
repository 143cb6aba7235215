-- What the writer's calls answer, on any buffer whatever.
use Rattle.std.specs.Prelude.{◌≡◌, ℕ, ◌+◌, ◌<◌, ◌≤◌, List, length, Ok, Err, Result}
use Rattle.tables.specs.declared.refusal.Refusal.{Refusal}
use Rattle.tables.specs.declared.refusal.Refusal.TheVariants.{
  CountHigh,
  BadStamp,
  RowLong,
  WriterShort,
  AllStand,
  Missing,
  BodyLength,
}
use Rattle.tables.specs.Tables.{LawfulStamp}
use Rattle.imageformat.specs.Format.{head, row, number_at}
use Rattle.imagewriter.specs.Places.{room, row_place, put_at}
use Rattle.imagewriter.specs.declared.writer.TakesRows.{TakesRows}
use Rattle.imagewriter.specs.declared.writer.TakesBodies.{TakesBodies}
use Rattle.imagewriter.specs.declared.writer.Writer.{Writer}

-- the writer w is for n rows or bodies; k of them stand, and the body of the next one begins at the place
abbrev pub At : {S : Type 0} → ℕ → ℕ → ℕ → Writer S → Type 0
At n k place w = (w.count ≡ n) × (w.standing ≡ k) × (w.place ≡ place)

-- a call is refused, and what it was given stays as it was
abbrev pub Refused : {A S : Type 0} → Refusal → Result A Refusal → S → S → List ℕ → List ℕ → Type 0
Refused f r w w' buf buf' = (r ≡ Err f) × (w' ≡ w) × (buf' ≡ buf)

-- the head is written, and the writer has no row
abbrev pub Begun : ℕ → List ℕ → Result (Writer TakesRows) Refusal → List ℕ → Type 0
Begun n buf (Ok w) buf' = At n 0 (row_place n) w × (buf' ≡ put_at 0 (head n) buf)
Begun n buf (Err f) buf' = ⊥

-- a writer for n entries is asked for
abbrev pub BeginAnswer : ℕ → List ℕ → Result (Writer TakesRows) Refusal → List ℕ → Type 0
BeginAnswer n buf r buf' =
    (128 < n → (r ≡ Err CountHigh) × (buf' ≡ buf))
    × (n ≤ 128 → length buf < room n → (r ≡ Err WriterShort) × (buf' ≡ buf))
    × (n ≤ 128 → room n ≤ length buf → Begun n buf r buf')

-- the row is written in its place, with the place of its body
abbrev pub RowTaken : Writer TakesRows → List ℕ → ℕ → ℕ → ℕ → Result (Unit {0}) Refusal → Writer TakesRows → List ℕ → Type 0
RowTaken w buf edition hand len r w' buf' =
    (r ≡ Ok tt)
    × At w.count (w.standing + 1) (w.place + len) w'
    × (buf' ≡ put_at (row_place w.standing) (row edition hand w.place len) buf)

-- a row is offered to the writer w
abbrev pub RowAnswer : Writer TakesRows → List ℕ → ℕ → ℕ → ℕ → Result (Unit {0}) Refusal → Writer TakesRows → List ℕ → Type 0
RowAnswer w buf edition hand len r w' buf' =
    ((LawfulStamp edition hand → ⊥) → Refused BadStamp r w w' buf buf')
    × (LawfulStamp edition hand → 96 < len → Refused RowLong r w w' buf buf')
    × (LawfulStamp edition hand → len ≤ 96 → length buf < room w.count → Refused WriterShort r w w' buf buf')
    × (LawfulStamp edition hand → len ≤ 96 → room w.count ≤ length buf → w.standing ≡ w.count → Refused AllStand r w w' buf buf')
    × (LawfulStamp edition hand → len ≤ 96 → room w.count ≤ length buf → w.standing < w.count → RowTaken w buf edition hand len r w' buf')

-- the writer takes bodies, and has none
abbrev pub Turned : ℕ → Result (Writer TakesBodies) (Writer TakesRows × Refusal) → Type 0
Turned n (Ok b) = At n 0 (row_place n) b
Turned n (Err p) = ⊥

-- the writer w is to go on from rows to bodies
abbrev pub TurnAnswer : Writer TakesRows → Result (Writer TakesBodies) (Writer TakesRows × Refusal) → Type 0
TurnAnswer w r =
    (w.standing < w.count → r ≡ Err (w, Missing)) × (w.standing ≡ w.count → Turned w.count r)

-- the length that row k of a buffer names
abbrev pub length_named : ℕ → List ℕ → ℕ
length_named k buf = number_at 2 (row_place k + 12) buf

-- a text has the length that row k names; no row that the writer took names more than 96
abbrev pub BodyFits : ℕ → List ℕ → List ℕ → Type 0
BodyFits k buf text = (length text ≤ 96) × (length text ≡ length_named k buf)

-- the body is written behind the one before
abbrev pub BodyTaken : Writer TakesBodies → List ℕ → List ℕ → Result (Unit {0}) Refusal → Writer TakesBodies → List ℕ → Type 0
BodyTaken w buf text r w' buf' =
    (r ≡ Ok tt)
    × At w.count (w.standing + 1) (w.place + length text) w'
    × (buf' ≡ put_at w.place text buf)

-- a body is offered to the writer w
abbrev pub BodyAnswer : Writer TakesBodies → List ℕ → List ℕ → Result (Unit {0}) Refusal → Writer TakesBodies → List ℕ → Type 0
BodyAnswer w buf text r w' buf' =
    (length buf < room w.count → Refused WriterShort r w w' buf buf')
    × (room w.count ≤ length buf → w.standing ≡ w.count → Refused AllStand r w w' buf buf')
    × (room w.count ≤ length buf → w.standing < w.count → (BodyFits w.standing buf text → ⊥) → Refused BodyLength r w w' buf buf')
    × (room w.count ≤ length buf → w.standing < w.count → BodyFits w.standing buf text → BodyTaken w buf text r w' buf')

-- the writer w is to end: the answer is the file's length
abbrev pub FinishAnswer : Writer TakesBodies → Result ℕ (Writer TakesBodies × Refusal) → Type 0
FinishAnswer w r =
    (w.standing < w.count → r ≡ Err (w, Missing)) × (w.standing ≡ w.count → r ≡ Ok w.place)
