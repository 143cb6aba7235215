-- One page more of a chain is read: i pages are read, and the others are those from page p on.
use Rattle.std.proofs.Common.{◌≡◌, ℕ, suc, ◌+◌, ◌-◌, ◌*◌, ◌<◌, ◌≤◌, List, ◌∷◌, ◌++◌, map, length, take, sym, ap, ◌∙◌, arith}
use borrow.Rule.Slice.PartMut.{put_mid}
use Rattle.std.specs.List.{flat_map}
use Rattle.std.proofs.lemmas.List.{append_assoc}
use Rattle.std.proofs.lemmas.Slice.{take-put_mid}
use Rattle.pages.specs.declared.stock.Stock.{Stock}
use Rattle.pages.specs.Chains.{page, linked, size, chain, times}
use Rattle.pages.proofs.Frames.{times_here}
use Rattle.pages.proofs.Holders.{page_in}

-- the pages of chain e from page p on, without i
abbrev pub left : Stock → ℕ → ℕ → ℕ → List ℕ
left s e i p = linked s.pages (size s.chains e - i) p

-- the bytes of the pages of a list
abbrev pub bytes_of : Stock → List ℕ → List ℕ
bytes_of s l = flat_map (λ x. x) (map (λ q. (page s.pages q).bytes) l)

-- the pages that are left stand in chain e, and there is one
module _ (s : Stock) (e i p : ℕ) (l : e ≤ s.count) (more : i < size s.chains e) (within : (q : ℕ) → times q (left s e i p) ≤ times q (chain s.pages s.chains e)) where
  abbrev next : ℕ
  next = (page s.pages p).next

  -- it is p, and the others follow
  left_more : left s e i p ≡ p ∷ left s e (i + 1) next
  left_more =
      ap (λ k. linked s.pages k p) (let q : size s.chains e - i ≡ suc (size s.chains e - (i + 1)) = omega (arith, more) in q)

  -- it is one of the array's
  pub page_here : p < 768
  page_here =
      let here = ap (times p) left_more ∙ times_here p (left s e (i + 1) next) in
      page_in s e p l (omega (arith, within p))

  -- the others stand in chain e too
  pub within_more : (q : ℕ) → times q (left s e (i + 1) next) ≤ times q (chain s.pages s.chains e)
  within_more q = let here = ap (times q) left_more in omega (arith, within q)

  -- the block of p is written after the i blocks in the text
  pub read_more : (text block all : List ℕ) (k : ℕ) → length text ≡ 96 → i < 6 → block ≡ (page s.pages p).bytes → take (16 * i) text ++ bytes_of s (left s e i p) ≡ all → take (16 * (i + 1)) (put_mid (16 * i) k text block) ++ bytes_of s (left s e (i + 1) next) ≡ all
  read_more text block all k long few is so =
      let whole : length block ≡ 16 = ap length is ∙ s.whole p page_here in
      let rest = bytes_of s (left s e (i + 1) next) in
      ap (λ y. y ++ rest) (take-put_mid (16 * i) k text block (16 * (i + 1)) (omega arith) (omega arith))
      ∙ append_assoc (take (16 * i) text) block rest
      ∙ ap (λ b. take (16 * i) text ++ (b ++ rest)) is
      ∙ ap (λ y. take (16 * i) text ++ bytes_of s y) (sym left_more)
      ∙ so
