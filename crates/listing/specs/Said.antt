-- What a line says.
use Rattle.std.specs.Prelude.{ℕ, List, Some, None, Option}
use Rattle.tables.specs.Tables.{Entry, of}
use Rattle.words.specs.Cuts.{before, after}
use Rattle.words.specs.Numbers.{number_of}

-- an entry, where both numbers are there
abbrev pub stamped : Option ℕ → Option ℕ → List ℕ → Option Entry
stamped None hand s = None
stamped (Some a) None s = None
stamped (Some a) (Some b) s = Some (of s a b)

-- the hand before the next space, and the text after it
abbrev pub said_after : Option ℕ → List ℕ → Option (List ℕ) → Option Entry
said_after edition word None = None
said_after edition word (Some s) = stamped edition (number_of word) s

-- the edition before the first space, and what stands after it
abbrev pub said_first : List ℕ → Option (List ℕ) → Option Entry
said_first word None = None
said_first word (Some r) = said_after (number_of word) (before 32 r) (after 32 r)

-- what a line says: edition, a space, hand, a space, and the text, the rest of the line
abbrev pub said : List ℕ → Option Entry
said line = said_first (before 32 line) (after 32 line)
