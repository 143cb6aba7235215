-- A text and a stamp are put into an entry: what the store keeps, and its table then.
use Rattle.std.proofs.Common.{◌≡◌, ℕ, ◌+◌, ◌/◌, ◌<◌, ◌≤◌, List, length, get_or, take, set, sym, ap, ◌∙◌, subst, ⊎_elim, arith}
use Rattle.std.specs.List.{flat_map}
use Rattle.std.proofs.lemmas.List.FromFn.{length-map-range_with_len, get_or-map-range_with_len}
use Rattle.std.proofs.lemmas.List.{get_or-set_same, get_or-set_other, length-set, ext_get_or}
use Rattle.std.proofs.lemmas.Bool.{cases_eq}
use Rattle.tables.specs.Tables.{Entry, of, blank}
use Rattle.tables.specs.declared.stamp.Stamp.{Stamp}
use Rattle.pages.specs.declared.stock.Stock.{Stock}
use Rattle.pages.specs.declared.store.Row.{Row}
use Rattle.pages.specs.declared.store.PageStore.{PageStore}
use Rattle.pages.specs.Blocks.{blocks, TextPut}
use Rattle.pages.specs.Chains.{size}
use Rattle.pages.specs.Rows.{no_row, row, Fits}
use Rattle.pages.specs.Entries.{entry_of, entries, table_of}
use Rattle.pages.specs.Laws.{table_length, table_entry}
use Rattle.pages.proofs.Frames.{blocks_length}

-- a table with another entry at e
module _ (s : PageStore) (st : Stock) (rs : List Row) (e : ℕ) (x : Entry) (stays : st.count ≡ s.stock.count) (within : e < s.stock.count) (here : entry_of st rs e ≡ x) (rest : (o : ℕ) → o < s.stock.count → (o ≡ e → ⊥) → entry_of st rs o ≡ entry_of s.stock s.rows.items o) where
  -- entry by entry: at e, elsewhere, at each number
  at_here : entry_of st rs e ≡ get_or (set (table_of s) e x) e blank
  at_here = here ∙ sym (get_or-set_same (table_of s) e x blank (let n = table_length s in omega arith))

  at_rest : (o : ℕ) → o < s.stock.count → (o ≡ e → ⊥) → entry_of st rs o ≡ get_or (set (table_of s) e x) o blank
  at_rest o l ne = rest o l ne ∙ sym (get_or-set_other (table_of s) e o x blank ne ∙ table_entry s o l)

  at_each : (o : ℕ) → o < s.stock.count → entry_of st rs o ≡ get_or (set (table_of s) e x) o blank
  at_each o l =
      ⊎_elim
      (λ q. ap (entry_of st rs) q ∙ at_here ∙ ap (λ j. get_or (set (table_of s) e x) j blank) (sym q))
      (λ ne. at_rest o l ne)
      (cases_eq o e)

  as_many : length (entries st rs) ≡ length (set (table_of s) e x)
  as_many =
      length-map-range_with_len (entry_of st rs) 0 st.count ∙ stays ∙ sym (length-set (table_of s) e x ∙ table_length s)

  table_set : entries st rs ≡ set (table_of s) e x
  table_set =
      let n = length-map-range_with_len (entry_of st rs) 0 st.count in
      ext_get_or blank (entries st rs) (set (table_of s) e x) as_many (λ o h. get_or-map-range_with_len (entry_of st rs) 0 st.count o o blank (omega arith) (omega arith) ∙ at_each o (omega arith))

-- the rows get the text's length and its stamp
module _ (s : PageStore) (st : Stock) (e : ℕ) (text : List ℕ) (stamp : Stamp) (r : TextPut s.stock st e text) (within : e < s.stock.count) (short : length text ≤ 96) where
  -- the rows as they are written
  abbrev rs : List Row
  rs = set s.rows.items e (record { len = length text; stamp = stamp })

  -- the row of e, and the other rows
  row_here : row rs e ≡ record { len = length text; stamp = stamp }
  row_here = get_or-set_same s.rows.items e _ no_row (omega (arith, s.counted))

  row_rest : (o : ℕ) → (o ≡ e → ⊥) → row rs o ≡ row s.rows.items o
  row_rest o ne = get_or-set_other s.rows.items e o _ no_row ne

  -- each text has as many pages as it needs
  fits_here : ((row rs e).len ≤ 96) × (size st.chains e ≡ ((row rs e).len + 15) / 16)
  fits_here =
      let len : (row rs e).len ≡ length text = ap (λ y. y.len) row_here in
      let sized = blocks_length st.pages st.chains e in
      (omega arith, omega (arith, r.pages))

  fits_rest : (o : ℕ) → o < s.stock.count → (o ≡ e → ⊥) → ((row rs o).len ≤ 96) × (size st.chains o ≡ ((row rs o).len + 15) / 16)
  fits_rest o l ne =
      let len : (row rs o).len ≡ (row s.rows.items o).len = ap (λ y. y.len) (row_rest o ne) in
      let same = ap length (r.others.1 o l ne) in
      let sized = blocks_length st.pages st.chains o in
      let was = blocks_length s.stock.pages s.stock.chains o in
      let f = s.fits o l in
      (omega arith, omega arith)

  -- so the store keeps what it must
  pub fits_again : Fits st.chains st.count rs
  fits_again o l =
      let P : ℕ → Type 0 = λ j. ((row rs j).len ≤ 96) × (size st.chains j ≡ ((row rs j).len + 15) / 16) in
      ⊎_elim (λ q. subst P (sym q) fits_here) (λ ne. fits_rest o (omega (arith, r.others.0)) ne) (cases_eq o e)

  -- the entry e, and the others
  entry_here : entry_of st rs e ≡ of text stamp.edition stamp.hand
  entry_here =
      ap (λ y. of (take y.len (flat_map (λ x. x) (blocks st e))) y.stamp.edition y.stamp.hand) row_here
      ∙ ap (λ t. of t stamp.edition stamp.hand) r.front

  entry_rest : (o : ℕ) → o < s.stock.count → (o ≡ e → ⊥) → entry_of st rs o ≡ entry_of s.stock s.rows.items o
  entry_rest o l ne =
      ap (λ y. of (take y.len (flat_map (λ x. x) (blocks st o))) y.stamp.edition y.stamp.hand) (row_rest o ne)
      ∙ ap (λ b. of (take (row s.rows.items o).len (flat_map (λ x. x) b)) (row s.rows.items o).stamp.edition (row s.rows.items o).stamp.hand) (r.others.1 o l ne)

  -- its table
  pub put_table : entries st rs ≡ set (table_of s) e (of text stamp.edition stamp.hand)
  put_table = table_set s st rs e (of text stamp.edition stamp.hand) r.others.0 within entry_here entry_rest
