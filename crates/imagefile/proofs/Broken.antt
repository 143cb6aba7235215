-- A file with a fault does not keep all rules, and has no other fault.
use Rattle.std.proofs.Common.{◌≡◌, ℕ, List, ap, ◌∙◌, subst, inl, inr}
use Rattle.std.proofs.lemmas.Bool.{cases_order}
use Rattle.tables.specs.declared.refusal.Refusal.{Refusal}
use Rattle.tables.specs.declared.refusal.Refusal.TheVariants.{FileShort, Version, CountHigh, RowsShort, BadStamp, RowLong, BadPlace, BadEnd}
use Rattle.imageformat.specs.declared.row.Row.{Row as FileRow}
use Rattle.imagefile.specs.Shown.{file_row}
use Rattle.imagefile.specs.Rules.{Passes, RowRule, due}
use Rattle.imagefile.specs.Faults.{Faulty, InRow, RowFaulty}
use Rattle.imagefile.specs.declared.faults.RowFault.{RowFault}
use Rattle.imagefile.specs.declared.faults.FileFault.{FileFault}
use Rattle.imagefile.specs.declared.faults.FileFault.TheVariants.{Whole, Row}
use Rattle.imagefile.proofs.Firsts.{first_kept, first_only, one_only, none_only}

-- a row with a fault does not keep its rule
pub row_broken : {w : FileRow} {place : ℕ} {f : Refusal} → RowFaulty w place f → RowRule w place → ⊥
row_broken bad p = first_kept (first_kept (first_kept bad p.0) p.1) p.2

-- a file with a fault does not keep all rules
pub file_broken : (bs : List ℕ) (f : FileFault) → Faulty bs f → Passes bs → ⊥
unfolding Faulty
file_broken bs f bad p =
    first_kept
    (first_kept (first_kept (first_kept (first_kept (first_kept bad p.0.0) p.0.1) p.0.2) p.0.3) p.1)
    p.2

-- a row has one fault
row_only : (w : FileRow) (place : ℕ) (f g : Refusal) → RowFaulty w place f → RowFaulty w place g → g ≡ f
row_only w place = first_only (one_only BadStamp) (first_only (one_only RowLong) (first_only (one_only BadPlace) none_only))

-- the fault of a row
abbrev pub of_row : ℕ → Refusal → RowFault
of_row k f = record { row = k; refusal = f }

-- one row is the first that breaks a rule
in_row_only : (bs : List ℕ) (x y : FileFault) → InRow bs x → InRow bs y → y ≡ x
in_row_only bs (Whole _) y a b = absurd a
in_row_only bs (Row x) (Whole _) a b = absurd b
in_row_only bs (Row x) (Row y) a b =
    elim (cases_order y.row x.row) [
      | inl e ↦
          let P : ℕ → Type 0 = λ k. RowFaulty (file_row bs k) (due bs k) y.refusal in
          let same = row_only (file_row bs x.row) (due bs x.row) x.refusal y.refusal a.2 (subst P e b.2) in
          ap Row (ap (λ k. of_row k y.refusal) e ∙ ap (of_row x.row) same)
      | inr h ↦
          elim h [
            | inl l ↦ absurd (row_broken b.2 (a.1 y.row l))
            | inr l ↦ absurd (row_broken a.2 (b.1 x.row l))
          ]
    ]

-- a file has one fault
pub file_only : (bs : List ℕ) (f g : FileFault) → Faulty bs f → Faulty bs g → g ≡ f
unfolding Faulty
file_only bs =
    first_only (one_only (Whole FileShort))
    (first_only (one_only (Whole Version))
    (first_only (one_only (Whole CountHigh))
    (first_only (one_only (Whole RowsShort)) (first_only (in_row_only bs) (first_only (one_only (Whole BadEnd)) none_only)))))
