-- The refusals by their numbers.
use Rattle.std.specs.Prelude.{ℕ}
use Rattle.tables.specs.declared.refusal.Refusal.{Refusal}
use Rattle.tables.specs.declared.refusal.Refusal.TheVariants.{
  NoSession,
  NoEntry,
  NoMode,
  HoldsFull,
  Conflict,
  Paused,
  Ended,
  NotReading,
  ShortBuffer,
  NotWriting,
  LongText,
  SessionsFull,
  NumbersSpent,
  RoundOpen,
  CountsDiffer,
  NoRound,
  Copied,
  Held,
  Uncopied,
  FileShort,
  Version,
  CountHigh,
  RowsShort,
  BadStamp,
  RowLong,
  BadPlace,
  BadEnd,
  WriterShort,
  AllStand,
  Missing,
  BodyLength,
}

-- each case with its number; src/refusal.rt says what it means
abbrev pub number_of : Refusal → ℕ
number_of NoSession = 1
number_of NoEntry = 2
number_of NoMode = 3
number_of HoldsFull = 4
number_of Conflict = 5
number_of Paused = 6
number_of Ended = 7
number_of NotReading = 8
number_of ShortBuffer = 9
number_of NotWriting = 10
number_of LongText = 11
number_of SessionsFull = 12
number_of NumbersSpent = 13
number_of RoundOpen = 14
number_of CountsDiffer = 15
number_of NoRound = 16
number_of Copied = 17
number_of Held = 18
number_of Uncopied = 19
number_of FileShort = 20
number_of Version = 21
number_of CountHigh = 22
number_of RowsShort = 23
number_of BadStamp = 24
number_of RowLong = 25
number_of BadPlace = 26
number_of BadEnd = 27
number_of WriterShort = 28
number_of AllStand = 29
number_of Missing = 30
number_of BodyLength = 31
