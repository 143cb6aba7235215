-- The faults of a file, and which one it has: the first rule that it breaks.
use Rattle.std.specs.Prelude.{◌≡◌, ℕ, ◌+◌, ◌*◌, ◌<◌, ◌≤◌, List, length, Some, None, Option}
use Rattle.tables.specs.Tables.{LawfulStamp}
use Rattle.tables.specs.declared.refusal.Refusal.{Refusal}
use Rattle.tables.specs.declared.refusal.Refusal.TheVariants.{FileShort, Version, CountHigh, RowsShort, BadStamp, RowLong, BadPlace, BadEnd}
use Rattle.imageformat.specs.declared.row.Row.{Row as FileRow}
use Rattle.imagefile.specs.Shown.{head_version, head_count, file_row}
use Rattle.imagefile.specs.Rules.{due, RowsRule}
use Rattle.imagefile.specs.declared.faults.FileFault.{FileFault}
use Rattle.imagefile.specs.declared.faults.FileFault.TheVariants.{Whole, Row}

-- the row that a fault is in, if it is in one
abbrev pub fault_row : FileFault → Option ℕ
fault_row (Whole f) = None
fault_row (Row x) = Some x.row

-- the refusal that a fault gives
abbrev pub fault_refusal : FileFault → Refusal
fault_refusal (Whole f) = f
fault_refusal (Row x) = x.refusal

-- a rule that comes before others: it is broken and the fault is its own, or it is kept and the fault is of those after it
pub data First {X : Type 0} (Rule : Type 0) (Own Rest : X → Type 0) (x : X) : Type 0 where
  broken : (Rule → ⊥) → Own x → First Rule Own Rest x
  kept : Rule → Rest x → First Rule Own Rest x

-- after the last rule there is no fault
abbrev pub NoMore : {X : Type 0} → X → Type 0
NoMore x = ⊥

-- the rules of a row whose body has to begin at a place, in their order, and the refusal (24, 25, 26) of the first that it breaks
abbrev pub RowFaulty : FileRow → ℕ → Refusal → Type 0
RowFaulty w place =
    First (LawfulStamp w.edition w.hand) (λ f. f ≡ BadStamp)
    (First (w.length ≤ 96) (λ f. f ≡ RowLong)
    (First (w.place ≡ place) (λ f. f ≡ BadPlace) NoMore))

-- the first row that breaks a rule, and what it breaks first
abbrev pub InRow : List ℕ → FileFault → Type 0
InRow bs (Whole f) = ⊥
InRow bs (Row x) =
    (x.row < head_count bs)
    × RowsRule bs x.row
    × RowFaulty (file_row bs x.row) (due bs x.row) x.refusal

-- the rules of a file in their order, and the fault (20, 21, 22, 23, one of a row, 27) of the first that it breaks
unfoldable pub Faulty : List ℕ → FileFault → Type 0
Faulty bs =
    First (4 ≤ length bs) (λ x. x ≡ Whole FileShort)
    (First (head_version bs ≡ 1) (λ x. x ≡ Whole Version)
    (First (head_count bs ≤ 128) (λ x. x ≡ Whole CountHigh)
    (First (4 + 14 * head_count bs ≤ length bs) (λ x. x ≡ Whole RowsShort)
    (First (RowsRule bs (head_count bs)) (InRow bs)
    (First (due bs (head_count bs) ≡ length bs) (λ x. x ≡ Whole BadEnd) NoMore)))))
