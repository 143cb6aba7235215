-- Bytes written in hexadecimal digits.
use Rattle.std.specs.Prelude.{◌≡◌, ℕ, ◌+◌, ◌*◌, ◌<◌, List, length, slice_index}
use Rattle.std.specs.Char.{digit_value}

-- the two digits at a byte's place write it
abbrev pub HexByte : List ℕ → ℕ → ℕ → Type 0
HexByte text k b =
    (digit_value (slice_index text (2 * k)) < 16)
    × (digit_value (slice_index text (2 * k + 1)) < 16)
    × (b ≡ digit_value (slice_index text (2 * k)) * 16 + digit_value (slice_index text (2 * k + 1)))

-- a text writes bytes, two digits a byte
abbrev pub Hex : List ℕ → List ℕ → Type 0
Hex text bytes =
    (length text ≡ 2 * length bytes) × ((k : ℕ) → k < length bytes → HexByte text k (slice_index bytes k))
