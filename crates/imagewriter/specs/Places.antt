-- Places in the writer's buffer.
use Rattle.std.specs.Prelude.{ℕ, ◌+◌, ◌*◌, List, ◌++◌, length, take, drop}

-- the bytes that a buffer for n entries must have: the head, and a row and 96 bytes for each
abbrev pub room : ℕ → ℕ
room n = 4 + 110 * n

-- where row k begins; after n rows, where the bodies begin
abbrev pub row_place : ℕ → ℕ
row_place k = 4 + 14 * k

-- a buffer with bytes put over it from a place on
abbrev pub put_at : ℕ → List ℕ → List ℕ → List ℕ
put_at at bs buf = take at buf ++ (bs ++ drop (at + length bs) buf)
