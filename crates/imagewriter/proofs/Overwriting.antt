-- A buffer after bytes were put over it.
use Rattle.std.proofs.Common.{◌≡◌, ℕ, ◌+◌, ◌≤◌, List, ◌++◌, length, take, drop, sym, ap, ◌∙◌, arith}
use Rattle.std.proofs.lemmas.List.{append_assoc, length-append, length-take-le, take_at}
use Rattle.std.proofs.lemmas.Slice.{drop-append-drop}
use Rattle.imagewriter.specs.Places.{put_at}

module _ (at : ℕ) (bs buf : List ℕ) (fits : at + length bs ≤ length buf) where
  -- the bytes and what stands before them
  front_length : length (take at buf ++ bs) ≡ at + length bs
  front_length = length-append (take at buf) bs ∙ ap (λ n. n + length bs) (length-take-le at buf (omega arith))

  -- the buffer in two parts
  put_split : put_at at bs buf ≡ (take at buf ++ bs) ++ drop (at + length bs) buf
  put_split = sym (append_assoc (take at buf) bs (drop (at + length bs) buf))

  pub take_put : take (at + length bs) (put_at at bs buf) ≡ take at buf ++ bs
  take_put =
      ap (take (at + length bs)) put_split ∙ take_at (take at buf ++ bs) (drop (at + length bs) buf) (at + length bs) front_length

  -- what stands behind the bytes is kept
  pub drop_put : (m : ℕ) → at + length bs ≤ m → drop m (put_at at bs buf) ≡ drop m buf
  drop_put m h =
      ap (drop m) put_split ∙ drop-append-drop (at + length bs) buf (take at buf ++ bs) m h front_length
