-- The entries of a listing.
use Rattle.std.specs.Prelude.{ℕ, cond, ◌&&◌, List, [], ◌∷◌, length, Some, None, Ok, Err, Option, Result, nat_le, nat_lt}
use Rattle.tables.specs.Tables.{Entry, Table, of}
use Rattle.tables.specs.declared.refusal.Refusal.TheVariants.{LongText, BadStamp}
use Rattle.words.specs.Lines.{lines_left}
use Rattle.listing.specs.Said.{said}
use Rattle.listing.specs.declared.entry.Item.{Item}
use Rattle.listing.specs.declared.entries.Items.{Items}
use Rattle.listing.specs.declared.line.LineFault.{LineFault}
use Rattle.listing.specs.declared.line.LineFault.TheVariants.{Malformed, Refused}

-- what is said is an entry, or is refused: 11 before 24
abbrev pub judged : Option Entry → Result Entry LineFault
judged None = Err Malformed
judged (Some x) =
    cond (nat_lt 96 (length x.text)) (Err (Refused LongText)) (cond (nat_le x.edition x.hand && nat_le x.hand 4_000_000_000) (Ok x) (Err (Refused BadStamp)))

-- the entry that an item says
abbrev pub entry_of : Item → Entry
entry_of x = of x.text.now x.stamp.edition x.stamp.hand

-- the entry of a line, or its fault
abbrev pub listed_line : List ℕ → Result Entry LineFault
listed_line line = judged (said line)

-- one entry more, where the line has one
abbrev pub kept : Result Entry LineFault → Table → Table
kept (Ok x) t = x ∷ t
kept (Err f) t = t

-- the entries of the good lines, in their order
abbrev pub listed : List (List ℕ) → Table
listed [] = []
listed (l ∷ ls) = kept (listed_line l) (listed ls)

-- the entries that an iterator over them has left
abbrev pub entries_left : Items → Table
entries_left s = listed (lines_left s.lines)
