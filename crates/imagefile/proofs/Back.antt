-- A file that keeps all rules is the written form of the table that it shows.
use Rattle.std.proofs.Common.{◌≡◌, ℕ, zero, suc, ◌+◌, ◌-◌, ◌*◌, ◌<◌, ◌≤◌, List, ◌++◌, map, length, get_or, take, drop, sym, ap, ◌∙◌, append_assoc, add-one, arith, length-drop, take-append-drop}
use Rattle.std.specs.List.{range_with_len}
use Rattle.std.proofs.lemmas.List.{drop_all, drop-drop, length-take-le}
use Rattle.std.proofs.lemmas.List.FromFn.{length-map-range_with_len}
use Rattle.tables.specs.Tables.{Table}
use Rattle.imageformat.specs.Format.{bytes, head, row, rows, bodies, written}
use Rattle.imagefile.specs.Shown.{head_count, file_row, file_body, file_entry, shown}
use Rattle.imagefile.specs.Rules.{due, Passes}
use Rattle.imageformat.proofs.Fields.{number_coded, row_coded}

-- the entries that m rows from row k on show
abbrev shown_from : List ℕ → ℕ → ℕ → Table
shown_from bs k m = map (file_entry bs) (range_with_len k m)

-- two parts that stand one after the other
joined : (bs : List ℕ) (at i : ℕ) → take i (drop at bs) ++ drop (at + i) bs ≡ drop at bs
joined bs at i = ap (λ l. take i (drop at bs) ++ l) (sym (drop-drop i at bs)) ∙ take-append-drop i (drop at bs)

module _ (bs : List ℕ) (p : Passes bs) where
  -- each body ends where the next has to begin
  due_more : (k : ℕ) → k < head_count bs → due bs (k + 1) ≡ due bs k + (file_row bs k).length
  due_more k h = ap (due bs) (add-one k) ∙ ap (λ x. x + (file_row bs k).length) (p.1 k h).2

  -- each body begins in the file, or at its end
  due_within : (m k : ℕ) → k + m ≡ head_count bs → due bs k ≤ length bs
  due_within zero k e = let h : due bs k ≡ length bs = ap (due bs) (omega arith) ∙ p.2 in omega arith
  due_within (suc m) k e = let r = due_within m (k + 1) (omega arith) in let s = due_more k (omega arith) in omega arith

  -- each body ends in the file
  body_within : (m k : ℕ) → k + suc m ≡ head_count bs → (file_row bs k).place + (file_row bs k).length ≤ length bs
  body_within m k e =
      let r = due_within m (k + 1) (omega arith) in
      let s = ap (due bs) (add-one k) in omega arith

  pub body_ends : (k : ℕ) → k < head_count bs → (file_row bs k).place + (file_row bs k).length ≤ length bs
  body_ends k h = body_within (head_count bs - suc k) k (omega arith)

  -- each body is as long as its row says
  body_length : (m k : ℕ) → k + suc m ≡ head_count bs → length (file_body bs k) ≡ (file_row bs k).length
  body_length m k e =
      let h = body_within m k e in
      length-take-le (file_row bs k).length (drop (file_row bs k).place bs) (simp length-drop (omega arith))

  -- the bodies from body k on are the rest of the file
  bodies_back : (m k : ℕ) → k + m ≡ head_count bs → bodies (shown_from bs k m) ≡ drop (due bs k) bs
  bodies_back zero k e = let h : due bs k ≡ length bs = ap (due bs) (omega arith) ∙ p.2 in sym (drop_all (due bs k) bs (omega arith))
  bodies_back (suc m) k e =
      let place : (file_row bs k).place ≡ due bs k = (p.1 k (omega arith)).2 in
      ap (λ l. file_body bs k ++ l) (bodies_back m (k + 1) (omega arith) ∙ ap (λ i. drop i bs) (ap (due bs) (add-one k)))
      ∙ joined bs (file_row bs k).place (file_row bs k).length
      ∙ ap (λ i. drop i bs) place

  module _ (small : (i : ℕ) → get_or bs i 0 < 256) where
    -- the rows from row k on, and the bodies, are the rest of the file
    rows_back : (m k : ℕ) → k + m ≡ head_count bs → rows (due bs k) (shown_from bs k m) ++ drop (4 + 14 * head_count bs) bs ≡ drop (4 + 14 * k) bs
    rows_back zero k e = ap (λ i. drop (4 + 14 * i) bs) (omega arith)
    rows_back (suc m) k e =
        let at = 4 + 14 * k in
        let rest = drop (4 + 14 * head_count bs) bs in
        let line : ℕ → ℕ → List ℕ = row (file_row bs k).edition (file_row bs k).hand in
        let place : (file_row bs k).place ≡ due bs k = (p.1 k (omega arith)).2 in
        let size = length (file_body bs k) in
        let len = body_length m k e in
        let next : at + 14 ≡ 4 + 14 * (k + 1) = omega arith in
        let due_next : due bs k + size ≡ due bs (k + 1) = ap (λ l. due bs k + l) len ∙ sym (due_more k (omega arith)) in
        append_assoc (line (due bs k) size) (rows (due bs k + size) (shown_from bs (k + 1) m)) rest
        ∙ ap (λ q. line (due bs k) size ++ (rows q (shown_from bs (k + 1) m) ++ rest)) due_next
        ∙ ap (λ l. line (due bs k) size ++ l) (rows_back m (k + 1) (omega arith) ∙ ap (λ i. drop i bs) (sym next))
        ∙ ap (λ l. line (due bs k) l ++ drop (at + 14) bs) len
        ∙ ap (λ q. line q (file_row bs k).length ++ drop (at + 14) bs) (sym place)
        ∙ ap (λ l. l ++ drop (at + 14) bs) (row_coded bs small at (omega arith))
        ∙ joined bs at 14

    -- the head, and all that follows it
    head_back : head (head_count bs) ++ drop 4 bs ≡ bs
    head_back =
        ap (λ v. (bytes 2 v ++ bytes 2 (head_count bs)) ++ drop 4 bs) (sym p.0.1)
        ∙ ap (λ l. (l ++ bytes 2 (head_count bs)) ++ drop 4 bs) (number_coded bs small 2 0 (omega arith))
        ∙ ap (λ l. (take 2 bs ++ l) ++ drop 4 bs) (number_coded bs small 2 2 (omega arith))
        ∙ append_assoc (take 2 bs) (take 2 (drop 2 bs)) (drop 4 bs)
        ∙ ap (λ l. take 2 bs ++ l) (joined bs 2 2)
        ∙ take-append-drop 2 bs

    -- head, rows and bodies
    pub written_back : written (shown bs) ≡ bs
    written_back =
        let s = shown bs in
        let n = head_count bs in
        ap (λ l. head l ++ (rows (4 + 14 * l) s ++ bodies s)) (length-map-range_with_len (file_entry bs) 0 n)
        ∙ ap (λ l. head n ++ (rows (4 + 14 * n) s ++ l)) (bodies_back n 0 (omega arith))
        ∙ ap (λ l. head n ++ l) (rows_back n 0 (omega arith))
        ∙ head_back
