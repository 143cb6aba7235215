-- What stands in the buffer once a row is written.
use Rattle.std.proofs.Common.{◌≡◌, ℕ, ◌+◌, ◌<◌, ◌≤◌, ◌⊎◌, List, [], ◌∷◌, ◌++◌, length, take, sym, ap, ◌∙◌, subst, inl, inr, arith}
use Rattle.std.proofs.lemmas.List.{append_assoc, length-append, length_push, get_or_append_left, get_or_push}
use Rattle.std.proofs.lemmas.Bool.{cases_lt}
use Rattle.tables.specs.Tables.{Entry, Table, Lawful, LawfulEntry, entry, blank}
use Rattle.imageformat.specs.Format.{head, row, rows, bodies}
use Rattle.imagewriter.specs.Places.{room, row_place, put_at}
use Rattle.imagewriter.specs.Answers.{At}
use Rattle.imagewriter.specs.Standing.{RowsStand}
use Rattle.imagewriter.specs.declared.writer.TakesRows.{TakesRows}
use Rattle.imagewriter.specs.declared.writer.Writer.{Writer}
use Rattle.imagewriter.proofs.Overwriting.{take_put}
use Rattle.imagewriter.proofs.Files.{row_of, rows_push, bodies_push}

-- a lawful table stays lawful with one more lawful entry
lawful_push : (t : Table) (x : Entry) → length t < 128 → LawfulEntry x → Lawful t → Lawful (t ++ (x ∷ []))
lawful_push t x few ok (most, each) =
    (omega (arith, length_push t x), λ e h. by_place e h (cases_lt e (length t)))
  where
    by_place : (e : ℕ) → e < length (t ++ (x ∷ [])) → (e < length t) ⊎ (length t ≤ e) → LawfulEntry (entry (t ++ (x ∷ [])) e)
    by_place e h (inl low) = subst LawfulEntry (sym (get_or_append_left t (x ∷ []) blank e low)) (each e low)
    by_place e h (inr high) =
        subst LawfulEntry (sym (get_or_push t x blank e (omega (arith, length_push t x)))) ok

-- one more row stands: that of the entry x
module _ (t : Table) (x : Entry) (w w' : Writer TakesRows) (buf buf' : List ℕ) (len : ℕ) (is : length x.text ≡ len) (put : buf' ≡ put_at (row_place w.standing) (row x.edition x.hand w.place len) buf) (now : At w.count (w.standing + 1) (w.place + len) w') where
  -- the table with the entry
  abbrev longer : Table
  longer = t ++ (x ∷ [])

  pub row_stands : LawfulEntry x → room w.count ≤ length buf → w.standing < w.count → RowsStand t w buf → RowsStand longer w' buf'
  row_stands ok roomy more (lawful, k, at, front) =
      let n = w.count in
      let r = row_of w.place x in
      let end : row_place (length longer) ≡ row_place w.standing + 14 = omega (arith, length_push t x) in (
        lawful_push t x (omega arith) ok lawful,
        omega (arith, now.1, length_push t x),
        omega (arith, now.0, now.2, ap length (bodies_push t x), length-append (bodies t) x.text),
        ap (λ m. take m buf') end
            ∙ ap (take (row_place w.standing + 14)) (put ∙ ap (λ m. put_at (row_place w.standing) (row x.edition x.hand w.place m) buf) (sym is))
            ∙ take_put (row_place w.standing) r buf (omega arith)
            ∙ ap (λ m. take (row_place m) buf ++ r) k
            ∙ ap (λ z. z ++ r) front
            ∙ ap (λ q. (head n ++ rows (row_place n) t) ++ row_of q x) at
            ∙ append_assoc (head n) (rows (row_place n) t) (row_of (row_place n + length (bodies t)) x)
            ∙ ap (λ z. head n ++ z) (sym (rows_push (row_place n) t x))
            ∙ ap (λ m. head m ++ rows (row_place m) longer) (sym now.0),
      )
