-- The table that a file shows is lawful where the file keeps all rules.
use Rattle.std.specs.Prelude.{◌≡◌, ℕ, ◌<◌, ◌≤◌, List, length, drop}
use Rattle.std.proofs.Common.{sym, subst, arith, length-take}
use Rattle.std.proofs.lemmas.List.FromFn.{length-map-range_with_len, get_or-map-range_with_len}
use Rattle.tables.specs.Tables.{Entry, Lawful, LawfulEntry, blank, entry}
use Rattle.imagefile.specs.Shown.{head_count, file_row, file_body, file_entry, shown}
use Rattle.imagefile.specs.Rules.{Passes}

-- it has as many entries as the head says
pub shown_length : (bs : List ℕ) → length (shown bs) ≡ head_count bs
shown_length bs = length-map-range_with_len (file_entry bs) 0 (head_count bs)

-- entry e is what row e and body e show
pub shown_entry : (bs : List ℕ) (e : ℕ) → e < head_count bs → entry (shown bs) e ≡ file_entry bs e
shown_entry bs e h = get_or-map-range_with_len (file_entry bs) 0 (head_count bs) e e blank h (omega arith)

pub shown_lawful : (bs : List ℕ) → Passes bs → Lawful (shown bs)
shown_lawful bs p =
    let n = shown_length bs in (
      omega arith,
      λ e h.
          let i : e < head_count bs = omega arith in
          let l = length-take (file_row bs e).length (drop (file_row bs e).place bs) in
          let rule = p.1 e i in
          let short : length (file_body bs e) ≤ 96 = omega arith in
          let P : Entry → Type 0 = LawfulEntry in subst P (sym (shown_entry bs e i)) (short, rule.0),
    )
