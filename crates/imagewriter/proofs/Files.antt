-- The parts of a file, entry by entry.
use Rattle.std.proofs.Common.{◌≡◌, ℕ, zero, suc, ◌+◌, ◌*◌, ◌<◌, List, [], ◌∷◌, ◌++◌, length, take, drop, sym, refl, ap, ◌∙◌, add-zero, arith}
use lib.Seq.{drop-append-add}
use Rattle.std.proofs.lemmas.List.{append_assoc, append-nil, length-append, take_more}
use Rattle.tables.specs.Tables.{Entry, Table, blank, entry}
use Rattle.imageformat.specs.Format.{bytes, row, rows, bodies}

-- the row of an entry whose body begins at a place
abbrev pub row_of : ℕ → Entry → List ℕ
row_of p x = row x.edition x.hand p (length x.text)

-- one more row
pub rows_push : (p : ℕ) (t : Table) (x : Entry) → rows p (t ++ (x ∷ [])) ≡ rows p t ++ row_of (p + length (bodies t)) x
rows_push p [] x = ap (λ q. row_of q x) (sym (add-zero p))
rows_push p (y ∷ t) x =
    let q = p + length y.text in
    let at : q + length (bodies t) ≡ p + length (y.text ++ bodies t) = omega (arith, length-append y.text (bodies t)) in
    ap (λ z. row_of p y ++ z) (rows_push q t x ∙ ap (λ m. rows q t ++ row_of m x) at)
    ∙ sym (append_assoc (row_of p y) (rows q t) (row_of (p + length (y.text ++ bodies t)) x))

-- the bodies of two tables
pub bodies_append : (s t : Table) → bodies (s ++ t) ≡ bodies s ++ bodies t
bodies_append [] t = refl
bodies_append (y ∷ s) t =
    ap (λ z. y.text ++ z) (bodies_append s t) ∙ sym (append_assoc y.text (bodies s) (bodies t))

-- one more body
pub bodies_push : (t : Table) (x : Entry) → bodies (t ++ (x ∷ [])) ≡ bodies t ++ x.text
bodies_push t x = bodies_append t (x ∷ []) ∙ ap (λ z. bodies t ++ z) (append-nil x.text)

-- the length in row k is that of entry k
pub length_in_rows : (p : ℕ) (t : Table) (k : ℕ) (rest : List ℕ) → k < length t → take 2 (drop (14 * k + 12) (rows p t ++ rest)) ≡ bytes 2 (length (entry t k).text)
length_in_rows p [] k rest h = absurd (omega arith)
length_in_rows p (x ∷ t) zero rest h = refl
length_in_rows p (x ∷ t) (suc k) rest h =
    let q = p + length x.text in
    let at : 14 * suc k + 12 ≡ 14 + (14 * k + 12) = omega arith in
    ap (λ m. take 2 (drop m (rows p (x ∷ t) ++ rest))) at
    ∙ ap (λ z. take 2 (drop (14 + (14 * k + 12)) z)) (append_assoc (row_of p x) (rows q t) rest)
    ∙ ap (take 2) (drop-append-add (row_of p x) (rows q t ++ rest) (14 * k + 12))
    ∙ length_in_rows q t k rest (omega arith)

-- one more body of a table
pub bodies_more : (t : Table) (k : ℕ) → k < length t → bodies (take (k + 1) t) ≡ bodies (take k t) ++ (entry t k).text
bodies_more t k h = ap bodies (take_more t k blank h) ∙ bodies_push (take k t) (entry t k)
