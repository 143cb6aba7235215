-- Texts.
use Rattle.std.specs.Prelude.{◌≡◌, ℕ, ◌<◌, ◌≤◌, List, length, take, Ok, Err, Result}
use Rattle.tables.specs.declared.refusal.Refusal.{Refusal}
use Rattle.tables.specs.declared.refusal.Refusal.TheVariants.{LongText}
use Rattle.tables.specs.declared.text.Text.{Text}

-- the bytes of a text: the first of its bytes, as many as it is long
abbrev pub bytes_of : Text → List ℕ
bytes_of t = take t.len t.bytes

-- bytes are a text where there are at most 96 of them
abbrev pub TextOf : List ℕ → Result Text Refusal → Type 0
TextOf s (Ok t) = (length s ≤ 96) × (bytes_of t ≡ s)
TextOf s (Err f) = (96 < length s) × (f ≡ LongText)
