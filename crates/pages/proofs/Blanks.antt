-- A store without pages in its entries' chains, and with blank rows, is blank.
use Rattle.std.proofs.Common.{◌≡◌, ℕ, ◌<◌, List, [], length, replicate, sym, ap, ◌∙◌, arith}
use Rattle.std.specs.List.{All}
use Rattle.std.proofs.lemmas.List.FromFn.{length-map-range_with_len, get_or-map-range_with_len}
use Rattle.std.proofs.lemmas.List.{get_or-replicate, length-replicate, ext_get_or}
use Rattle.tables.specs.Tables.{blank}
use Rattle.pages.specs.declared.stock.Stock.{Stock}
use Rattle.pages.specs.declared.store.Row.{Row}
use Rattle.pages.specs.Blocks.{blocks}
use Rattle.pages.specs.Rows.{no_row, row, Fits}
use Rattle.pages.specs.Entries.{entry_of, entries}
use Rattle.pages.proofs.Frames.{blocks_length}

-- a row of no length, with the stamp 0 and 0
abbrev pub BlankRow : Row → Type 0
BlankRow r = (r.len ≡ 0) × (r.stamp.edition ≡ 0) × (r.stamp.hand ≡ 0)

module _ (s : Stock) (n : ℕ) (rs : List Row) (counted : s.count ≡ n) (empty : (e : ℕ) → e < n → blocks s e ≡ []) (rows : length rs ≡ n) (all : All BlankRow rs) where
  blank_row : (e : ℕ) → e < n → BlankRow (row rs e)
  blank_row e l = all e no_row (omega arith)

  -- the store keeps what it must
  pub fits_blank : Fits s.chains s.count rs
  fits_blank e l =
      let b = blank_row e (omega arith) in
      let sized = blocks_length s.pages s.chains e in
      let none = ap length (empty e (omega arith)) in
      (omega arith, omega arith)

  -- and shows a blank table
  entry_blank : (e : ℕ) → e < n → entry_of s rs e ≡ blank
  entry_blank e l = let b = blank_row e l in simp (b.0, b.1, b.2)

  as_many : length (entries s rs) ≡ length (replicate n blank)
  as_many = length-map-range_with_len (entry_of s rs) 0 s.count ∙ counted ∙ sym (length-replicate n blank)

  pub table_blank : entries s rs ≡ replicate n blank
  table_blank =
      let m = length-map-range_with_len (entry_of s rs) 0 s.count in
      ext_get_or blank (entries s rs) (replicate n blank) as_many (λ e h. get_or-map-range_with_len (entry_of s rs) 0 s.count e e blank (omega arith) (omega arith) ∙ entry_blank e (omega arith) ∙ sym (get_or-replicate n e blank blank (omega arith)))
