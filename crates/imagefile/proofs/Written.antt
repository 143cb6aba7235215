-- The written form of a lawful table keeps all rules and shows the table.
use Rattle.std.proofs.Common.{◌≡◌, ℕ, zero, suc, ◌+◌, ◌*◌, ◌<◌, ◌≤◌, List, ◌++◌, length, take, drop, sym, ap, ◌∙◌, subst, arith}
use Rattle.std.proofs.lemmas.List.{drop_at}
use Rattle.std.proofs.lemmas.List.FromFn.{fill_by_all}
use Rattle.tables.specs.Tables.{Table, Lawful, blank, entry, of}
use Rattle.imageformat.specs.Format.{rows, bodies, written}
use Rattle.imageformat.specs.declared.row.Row.{Row}
use Rattle.imageformat.proofs.Lengths.{length_rows, length_written}
use Rattle.imageformat.proofs.Numbers.{coded_digits}
use Rattle.imagefile.specs.Shown.{head_version, head_count, file_row, file_entry, shown}
use Rattle.imagefile.specs.Rules.{RowRule, due, Passes}
use Rattle.imagefile.proofs.Places.{start, row_for, moved, rows_there, bodies_there, start_more, start_all}

module _ (t : Table) (lawful : Lawful t) (bs : List ℕ) (e : bs ≡ written t) where
  -- the head says the table's count
  counted : head_count bs ≡ length t
  counted = ap head_count e ∙ coded_digits 2 (length t) (omega arith)

  -- the bodies stand after the rows
  bodies_at : drop (4 + 14 * length t) bs ≡ bodies t
  bodies_at =
      moved bs (rows (4 + 14 * length t) t ++ bodies t) 4 (14 * length t) (ap (drop 4) e)
      ∙ drop_at (rows (4 + 14 * length t) t) (bodies t) (14 * length t) (length_rows (4 + 14 * length t) t)

  -- the file ends with the last body
  long : length bs ≡ 4 + 14 * length t + length (bodies t)
  long = ap length e ∙ length_written t

  -- row k is that of entry k
  row_is : (k : ℕ) → k < length t → file_row bs k ≡ row_for (start (4 + 14 * length t) t k) (entry t k)
  row_is k h = rows_there t bs (bodies t) (4 + 14 * length t) 4 k lawful.1 (omega arith) (ap (drop 4) e) h

  -- each body begins where it has to
  due_is : (k : ℕ) → k ≤ length t → due bs k ≡ start (4 + 14 * length t) t k
  due_is zero h = ap (λ n. 4 + 14 * n) counted
  due_is (suc k) h =
      ap (λ (w : Row). w.place + w.length) (row_is k (omega arith))
      ∙ sym (start_more t (4 + 14 * length t) k (omega arith))

  -- row k and body k show entry k
  entry_is : (k : ℕ) → k < length t → entry t k ≡ file_entry bs k
  entry_is k h =
      sym
      (ap (λ (w : Row). of (take w.length (drop w.place bs)) w.edition w.hand) (row_is k h)
      ∙ ap (λ s. of s (entry t k).edition (entry t k).hand) (bodies_there t bs (4 + 14 * length t) k bodies_at h))

  -- the file keeps all rules
  pub passes : Passes bs
  passes =
      let n = counted in
      let l = long in (
        (omega arith, ap head_version e, omega arith, omega arith),
        (λ k h.
            let i : k < length t = omega arith in
            let rule : RowRule (row_for (start (4 + 14 * length t) t k) (entry t k)) (due bs k) = ((lawful.1 k i).1, (lawful.1 k i).0, sym (due_is k (omega arith))) in
            let P : Row → Type 0 = λ w. RowRule w (due bs k) in
            subst P (sym (row_is k i)) rule),
        ap (due bs) n ∙ due_is (length t) (omega arith) ∙ start_all t (4 + 14 * length t) ∙ sym l,
      )

  -- it shows the table
  pub shows : shown bs ≡ t
  shows = sym (fill_by_all (file_entry bs) t (head_count bs) blank (sym counted) (λ k h. entry_is k (let n = counted in omega arith)))
