-- A body is a part of its file.
use Rattle.std.proofs.Common.{◌≡◌, ℕ, ◌+◌, ◌-◌, ◌<◌, ◌≤◌, List, length, take, drop, ap, ◌∙◌, arith}
use Rattle.imageformat.specs.declared.row.Row.{Row}
use Rattle.imagefile.specs.Shown.{head_count, file_row, file_body}
use Rattle.imagefile.specs.Rules.{Passes}
use Rattle.imagefile.proofs.Back.{body_ends}

module _ (bs : List ℕ) (w : Row) (k len : ℕ) (e : w ≡ file_row bs k) (same : len ≡ w.length) where
  -- it ends in the file
  pub part_ends : Passes bs → k < head_count bs → w.place + len ≤ length bs
  part_ends p h =
      let ends = body_ends bs p k h in
      let place = ap (λ (v : Row). v.place) e in
      let long = ap (λ (v : Row). v.length) e in omega arith

  -- it is the part from its place to its end
  pub part_is : take (w.place + len - w.place) (drop w.place bs) ≡ file_body bs k
  part_is =
      let size : w.place + len - w.place ≡ w.length = omega arith in
      ap (λ l. take l (drop w.place bs)) size ∙ ap (λ (v : Row). take v.length (drop v.place bs)) e
