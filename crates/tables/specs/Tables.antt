-- Entries and tables.
use Rattle.std.specs.Prelude.{ℕ, ◌<◌, ◌≤◌, List, [], length, slice_index_or}

-- an entry is a text and a stamp of edition and hand
pub record Entry : Type 0 where
  pub text : List ℕ
  pub edition : ℕ
  pub hand : ℕ

-- the entry of a text and a stamp
abbrev pub of : List ℕ → ℕ → ℕ → Entry
of s edition hand = record { text = s; edition = edition; hand = hand }

-- the entry of a store that nobody has written: no text, edition 0, hand 0
abbrev pub blank : Entry
blank = of [] 0 0

-- a table is the list of its entries
abbrev pub Table : Type 0
Table = List Entry

-- the entry of a number
abbrev pub entry : Table → ℕ → Entry
entry t e = slice_index_or t e blank

-- a stamp's edition is at most its hand, and its hand at most 4,000,000,000
abbrev pub LawfulStamp : ℕ → ℕ → Type 0
LawfulStamp edition hand = (edition ≤ hand) × (hand ≤ 4_000_000_000)

-- an entry's text has at most 96 bytes, and its stamp is lawful
abbrev pub LawfulEntry : Entry → Type 0
LawfulEntry x = (length x.text ≤ 96) × LawfulStamp x.edition x.hand

-- a table has at most 128 entries, all lawful
abbrev pub Lawful : Table → Type 0
Lawful t = (length t ≤ 128) × ((e : ℕ) → e < length t → LawfulEntry (entry t e))
