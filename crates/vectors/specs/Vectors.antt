-- Worked files, and what the definitions say of them.
use Rattle.std.specs.Prelude.{◌≡◌, List, [], ◌∷◌, ◌++◌, ℕ, set}
use Rattle.tables.specs.Tables.{Table, Lawful, of}
use Rattle.tables.specs.declared.refusal.Refusal.TheVariants.{BadStamp, BadPlace, BadEnd}
use Rattle.imageformat.specs.Format.{written}
use Rattle.imagefile.specs.Faults.{Faulty}
use Rattle.imagefile.specs.declared.faults.FileFault.{FileFault}
use Rattle.imagefile.specs.declared.faults.FileFault.TheVariants.{Whole, Row}

-- a case: a table with its file, or bytes with their fault
pub data Case : Type 0 where
  file_of : Table → List ℕ → Case
  faulty : List ℕ → FileFault → Case

-- what a case claims
abbrev pub Holds : Case → Type 0
Holds (file_of t bs) = Lawful t × (written t ≡ bs)
Holds (faulty bs f) = Faulty bs f

abbrev pub EveryHolds : List Case → Type 0
EveryHolds [] = Unit {0}
EveryHolds (c ∷ cs) = Holds c × EveryHolds cs

-- the file of one entry, text A, edition 1, hand 3
abbrev pub one_entry : List ℕ
one_entry =
    0 ∷ (0x01 ∷ (0 ∷ (0x01 ∷ (0 ∷ (0 ∷ (0 ∷ (0x01 ∷ (0 ∷ (0 ∷ (0 ∷ (0x03 ∷ (0 ∷ (0 ∷ (0 ∷ (0x12 ∷ (0 ∷ (0x01 ∷ (0x41 ∷ []))))))))))))))))))

-- the empty table; one entry; that file with edition 4, with place 13 (hexadecimal), with a byte more
abbrev pub vectors : List Case
vectors =
    file_of [] (0 ∷ (1 ∷ (0 ∷ (0 ∷ []))))
    ∷ (file_of (of (0x41 ∷ []) 1 3 ∷ []) one_entry
    ∷ (faulty (set one_entry 7 4) (Row (record { row = 0; refusal = BadStamp }))
    ∷ (faulty (set one_entry 15 0x13) (Row (record { row = 0; refusal = BadPlace }))
    ∷ (faulty (one_entry ++ (0 ∷ [])) (Whole BadEnd)
    ∷ []))))
