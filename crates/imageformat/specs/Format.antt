-- The file that a table is written as.
use Rattle.std.specs.Prelude.{ℕ, zero, suc, ◌+◌, ◌*◌, ◌/◌, ◌%◌, ◌^◌, List, [], ◌∷◌, ◌++◌, length, take, drop}
use Rattle.std.specs.Int.Digits.{number_from_digits}
use Rattle.tables.specs.Tables.{Table}

-- a number in so many bytes, high byte first
abbrev pub bytes : ℕ → ℕ → List ℕ
bytes zero v = []
bytes (suc k) v = (v / 256 ^ k % 256) ∷ bytes k v

-- the head: version 1 and the count
abbrev pub head : ℕ → List ℕ
head n = bytes 2 1 ++ bytes 2 n

-- a row: edition, hand, the place of the body from the file's first byte on, the body's length
abbrev pub row : ℕ → ℕ → ℕ → ℕ → List ℕ
row edition hand place len = bytes 4 edition ++ (bytes 4 hand ++ (bytes 4 place ++ bytes 2 len))

-- the rows of a table whose first body begins at a place
abbrev pub rows : ℕ → Table → List ℕ
rows place [] = []
rows place (x ∷ t) =
    row x.edition x.hand place (length x.text) ++ rows (place + length x.text) t

-- the bodies of a table: its texts, one after another
abbrev pub bodies : Table → List ℕ
bodies [] = []
bodies (x ∷ t) = x.text ++ bodies t

-- the file of a table: head, rows, bodies
abbrev pub written : Table → List ℕ
written t = head (length t) ++ (rows (4 + 14 * length t) t ++ bodies t)

-- the number that stands in the k bytes at a place, high byte first
abbrev pub number_at : ℕ → ℕ → List ℕ → ℕ
number_at k place bs = number_from_digits 256 (take k (drop place bs))
