-- The numbers that stand in bytes, and the rows, are coded by those bytes.
use Rattle.std.proofs.Common.{◌≡◌, ℕ, zero, suc, ◌+◌, ◌<◌, ◌≤◌, List, ◌++◌, length, get_or, take, drop, sym, ap, ◌∙◌, subst, arith, take-add}
use Rattle.std.proofs.lemmas.List.{drop_more, drop-drop, drop-take, take-take, length-take-le, length-drop}
use Rattle.std.specs.Int.{w32, from_be_bytes}
use Rattle.std.specs.Int.Digits.{number_from_digits, AllBelowBase}
use Rattle.imageformat.specs.Format.{bytes, row, number_at}
use Rattle.imageformat.specs.Rows.{row_at}
use Rattle.imageformat.proofs.Numbers.{digits_coded, four_number}

-- fourteen bytes at a place, field by field
fourteen_at : (bs : List ℕ) (at : ℕ) → take 14 (drop at bs) ≡ take 4 (drop at bs) ++ (take 4 (drop (at + 4) bs) ++ (take 4 (drop (at + 8) bs) ++ take 2 (drop (at + 12) bs)))
fourteen_at bs at =
    let e₈ : at + 4 + 4 ≡ at + 8 = omega arith in
    let e₁₂ : at + 8 + 4 ≡ at + 12 = omega arith in
    part 4 10 at
    ∙ ap (λ t. take 4 (drop at bs) ++ t)
    (part 4 6 (at + 4)
    ∙ ap (λ p. take 4 (drop (at + 4) bs) ++ take 6 (drop p bs)) e₈
    ∙ ap (λ t. take 4 (drop (at + 4) bs) ++ t)
    (part 4 2 (at + 8) ∙ ap (λ p. take 4 (drop (at + 8) bs) ++ take 2 (drop p bs)) e₁₂))
  where
    part : (m n p : ℕ) → take (m + n) (drop p bs) ≡ take m (drop p bs) ++ take n (drop (p + m) bs)
    part m n p = take-add m n (drop p bs) ∙ ap (λ t. take m (drop p bs) ++ take n t) (drop-drop m p bs)

-- what std reads in four bytes at a place
pub four_read : (bs : List ℕ) (at n : ℕ) (part : List ℕ) → (at + 4 ≤ length bs) × (part ≡ take 4 (drop at bs)) → n ≡ from_be_bytes w32 part → n ≡ number_at 4 at bs
four_read bs at n part (within, is) e =
    let long : length part ≡ 4 = ap length is ∙ length-take-le 4 (drop at bs) (simp length-drop (omega arith)) in
    e ∙ four_number part long ∙ ap (number_from_digits 256) is

-- a field of the fourteen bytes at a place is the one that stands so far behind the place
pub in_row : (bs : List ℕ) (at p k m : ℕ) (part : List ℕ) → p + m ≡ 14 → k ≤ m → part ≡ take 14 (drop at bs) → number_at k p part ≡ number_at k (at + p) bs
in_row bs at p k m part e h is =
    ap (number_from_digits 256)
    (ap (λ w. take k (drop p w)) is
    ∙ ap (λ n. take k (drop p (take n (drop at bs)))) (sym e)
    ∙ ap (take k) (drop-take p m (drop at bs))
    ∙ take-take k m (drop p (drop at bs)) h
    ∙ ap (take k) (drop-drop p at bs))

module _ (bs : List ℕ) (small : (i : ℕ) → get_or bs i 0 < 256) where
  -- so many bytes at a place are bytes
  window_small : (k at : ℕ) → at + k ≤ length bs → AllBelowBase 256 (take k (drop at bs))
  window_small zero at h = tt
  window_small (suc k) at h =
      let P : List ℕ → Type 0 = AllBelowBase 256 in
      subst P (sym (ap (take (suc k)) (drop_more bs at 0 (omega arith)))) (small at, window_small k (at + 1) (omega arith))

  -- a number
  pub number_coded : (k at : ℕ) → at + k ≤ length bs → bytes k (number_at k at bs) ≡ take k (drop at bs)
  number_coded k at h =
      let long : length (take k (drop at bs)) ≡ k = length-take-le k (drop at bs) (simp length-drop (omega arith)) in
      ap (λ n. bytes n (number_at k at bs)) (sym long) ∙ digits_coded (take k (drop at bs)) (window_small k at h)

  -- a row
  pub row_coded : (at : ℕ) → at + 14 ≤ length bs → row (row_at bs at).edition (row_at bs at).hand (row_at bs at).place (row_at bs at).length ≡ take 14 (drop at bs)
  row_coded at h =
      let w = row_at bs at in
      ap (λ t. t ++ (bytes 4 w.hand ++ (bytes 4 w.place ++ bytes 2 w.length))) (number_coded 4 at (omega arith))
      ∙ ap (λ t. take 4 (drop at bs) ++ (t ++ (bytes 4 w.place ++ bytes 2 w.length))) (number_coded 4 (at + 4) (omega arith))
      ∙ ap (λ t. take 4 (drop at bs) ++ (take 4 (drop (at + 4) bs) ++ (t ++ bytes 2 w.length))) (number_coded 4 (at + 8) (omega arith))
      ∙ ap (λ t. take 4 (drop at bs) ++ (take 4 (drop (at + 4) bs) ++ (take 4 (drop (at + 8) bs) ++ t))) (number_coded 2 (at + 12) (omega arith))
      ∙ sym (fourteen_at bs at)
