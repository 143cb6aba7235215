-- Where the rows and the bodies of a table stand once they are written.
use Rattle.std.proofs.Common.{◌≡◌, ℕ, zero, suc, ◌+◌, ◌*◌, ◌<◌, List, [], ◌∷◌, ◌++◌, length, take, drop, sym, refl, ap, ◌∙◌, suc-le-suc, arith, length-append}
use Rattle.std.specs.Int.Digits.{number_from_digits}
use Rattle.std.proofs.lemmas.List.{drop-drop, drop_at, take_at}
use Rattle.tables.specs.Tables.{Entry, Table, LawfulEntry, entry}
use Rattle.imageformat.specs.Format.{row, rows, bodies, number_at}
use Rattle.imageformat.specs.Rows.{row_at}
use Rattle.imageformat.specs.declared.row.Row.{Row}
use Rattle.imageformat.proofs.Numbers.{coded_digits}

-- where body k of a table begins, whose first body begins at p
abbrev pub start : ℕ → Table → ℕ → ℕ
start p t zero = p
start p [] (suc k) = p
start p (x ∷ t) (suc k) = start (p + length x.text) t k

-- the row that is written for an entry
abbrev pub row_for : ℕ → Entry → Row
row_for p x = record { edition = x.edition; hand = x.hand; place = p; length = length x.text }

-- what stands i bytes after a place at which s stands
pub moved : (bs s : List ℕ) (at i : ℕ) → drop at bs ≡ s → drop (at + i) bs ≡ drop i s
moved bs s at i e = sym (drop-drop i at bs) ∙ ap (drop i) e

-- a row that is written at a place stands there
row_there : (bs rest : List ℕ) (x : Entry) (p at : ℕ) → LawfulEntry x → p < 4294967296 → drop at bs ≡ row x.edition x.hand p (length x.text) ++ rest → row_at bs at ≡ row_for p x
row_there bs rest x p at fits h e =
    let s = row x.edition x.hand p (length x.text) ++ rest in
    let edition : number_at 4 at bs ≡ x.edition = ap (λ l. number_from_digits 256 (take 4 l)) e ∙ coded_digits 4 x.edition (omega arith) in
    let hand : number_at 4 (at + 4) bs ≡ x.hand = ap (λ l. number_from_digits 256 (take 4 l)) (moved bs s at 4 e) ∙ coded_digits 4 x.hand (omega arith) in
    let place : number_at 4 (at + 8) bs ≡ p = ap (λ l. number_from_digits 256 (take 4 l)) (moved bs s at 8 e) ∙ coded_digits 4 p h in
    let len : number_at 2 (at + 12) bs ≡ length x.text = ap (λ l. number_from_digits 256 (take 2 l)) (moved bs s at 12 e) ∙ coded_digits 2 (length x.text) (omega arith) in
    simp (edition, hand, place, len)

-- row k of the rows that are written at a place
pub rows_there : (t : Table) (bs rest : List ℕ) (p at k : ℕ) → ((e : ℕ) → e < length t → LawfulEntry (entry t e)) → p + 96 * length t < 4294967296 → drop at bs ≡ rows p t ++ rest → k < length t → row_at bs (at + 14 * k) ≡ row_for (start p t k) (entry t k)
rows_there [] bs rest p at k fits h e l = absurd (omega arith)
rows_there (x ∷ t) bs rest p at zero fits h e l =
    let here : at + 14 * 0 ≡ at = omega arith in
    ap (row_at bs) here ∙ row_there bs (rows (p + length x.text) t ++ rest) x p at (fits 0 (omega arith)) (omega arith) e
rows_there (x ∷ t) bs rest p at (suc k) fits h e l =
    let there : at + 14 * suc k ≡ at + 14 + 14 * k = omega arith in
    let first = fits 0 (omega arith) in
    ap (row_at bs) there
    ∙ rows_there t bs rest (p + length x.text) (at + 14) k (λ i m. fits (suc i) (suc-le-suc m)) (omega arith) (moved bs (rows p (x ∷ t) ++ rest) at 14 e) (omega arith)

-- body k of the bodies that are written at a place
pub bodies_there : (t : Table) (bs : List ℕ) (p k : ℕ) → drop p bs ≡ bodies t → k < length t → take (length (entry t k).text) (drop (start p t k) bs) ≡ (entry t k).text
bodies_there [] bs p k e l = absurd (omega arith)
bodies_there (x ∷ t) bs p zero e l = ap (take (length x.text)) e ∙ take_at x.text (bodies t) (length x.text) refl
bodies_there (x ∷ t) bs p (suc k) e l =
    bodies_there t bs (p + length x.text) k (moved bs (bodies (x ∷ t)) p (length x.text) e ∙ drop_at x.text (bodies t) (length x.text) refl) (omega arith)

-- a body begins where the one before it ends
pub start_more : (t : Table) (p k : ℕ) → k < length t → start p t (suc k) ≡ start p t k + length (entry t k).text
start_more [] p k l = absurd (omega arith)
start_more (x ∷ t) p zero l = refl
start_more (x ∷ t) p (suc k) l = start_more t (p + length x.text) k (omega arith)

-- past the last body
pub start_all : (t : Table) (p : ℕ) → start p t (length t) ≡ p + length (bodies t)
start_all [] p = omega arith
start_all (x ∷ t) p = start_all t (p + length x.text) ∙ simp length-append (omega arith)
