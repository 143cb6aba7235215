-- The turns of the loop over the rows.
use Rattle.std.proofs.Common.{◌≡◌, ℕ, ◌+◌, ◌<◌, List, length, sym, ap, ◌∙◌, subst, add-one, below_more}
use Rattle.tables.specs.declared.refusal.Refusal.{Refusal}
use Rattle.tables.specs.declared.refusal.Refusal.TheVariants.{BadEnd}
use Rattle.imagefile.specs.Shown.{head_count, file_row}
use Rattle.imagefile.specs.Rules.{HeadRule, RowRule, RowsRule, due}
use Rattle.imagefile.specs.Faults.{First, broken, kept, NoMore, Faulty, InRow, RowFaulty}
use Rattle.imagefile.specs.declared.faults.FileFault.{FileFault}
use Rattle.imagefile.specs.declared.faults.FileFault.TheVariants.{Whole, Row}
use Rattle.imagefile.proofs.Broken.{of_row, row_broken}

-- the faults that come after those of the head
abbrev BodyFaulty : List ℕ → FileFault → Type 0
BodyFaulty bs =
    First (RowsRule bs (head_count bs)) (InRow bs)
    (First (due bs (head_count bs) ≡ length bs) (λ x. x ≡ Whole BadEnd) NoMore)

-- row k keeps its rule: the next body has to begin where its body ends, and one more row keeps its rule
pub next_row : (bs : List ℕ) (k place end : ℕ) → place ≡ due bs k → RowsRule bs k → end ≡ (file_row bs k).place + (file_row bs k).length → RowRule (file_row bs k) place → (end ≡ due bs (k + 1)) × RowsRule bs (k + 1)
next_row bs k place end e before ends rule =
    (ends ∙ sym (ap (due bs) (add-one k)), below_more (λ i. RowRule (file_row bs i) (due bs i)) k before (rule.0, rule.1, rule.2 ∙ e))

-- a fault of a file whose head keeps its rules
pub after_head : (bs : List ℕ) (f : FileFault) → HeadRule bs → BodyFaulty bs f → Faulty bs f
unfolding Faulty
after_head bs f head bad = kept head.0 (kept head.1 (kept head.2 (kept head.3 bad)))

-- a fault of row k, whose body has to begin at a place, is a fault of the file
pub row_fault : (bs : List ℕ) (k place : ℕ) (f : Refusal) → HeadRule bs → k < head_count bs → RowsRule bs k → place ≡ due bs k → RowFaulty (file_row bs k) place f → Faulty bs (Row (of_row k f))
row_fault bs k place f head h before e bad =
    let at : ℕ → Type 0 = λ q. RowFaulty (file_row bs k) q f in
    let there = subst at e bad in
    after_head bs (Row (of_row k f)) head (broken (λ all. row_broken there (all k h)) (h, before, there))

-- where the rows below k keep their rule and k is the count, all rows do
pub all_rows : (bs : List ℕ) (k end : ℕ) → k ≡ head_count bs → end ≡ due bs k → RowsRule bs k → RowsRule bs (head_count bs) × (end ≡ due bs (head_count bs))
all_rows bs k end same e rows = let P : ℕ → Type 0 = λ i. RowsRule bs i × (end ≡ due bs i) in subst P same (rows, e)
