-- A text is copied byte by byte.
use Rattle.std.proofs.Common.{◌≡◌, ℕ, ◌+◌, ◌<◌, List, ◌++◌, length, get_or, take, drop, set, zero-add, arith}
use Rattle.std.proofs.lemmas.List.Edits.{paste_more}

-- one more byte is copied
pub byte_more : (bytes out : List ℕ) (i : ℕ) → i < length bytes → i < length out → set (take i bytes ++ drop i out) i (get_or bytes i 0) ≡ take (i + 1) bytes ++ drop (i + 1) out
byte_more bytes out i h k = simp zero-add at (paste_more out 0 bytes i 0 (omega arith) h)
