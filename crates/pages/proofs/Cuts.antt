-- A text cut into blocks of 16 bytes, the last filled up with zeros.
use Rattle.std.proofs.Common.{◌≡◌, ℕ, zero, suc, ◌-◌, ◌≤◌, min, List, [], ◌∷◌, ◌++◌, length, take, drop, replicate, sym, ap, ◌∙◌, ⊎_elim, arith}
use Rattle.std.proofs.lemmas.Bool.{cases_lt}
use Rattle.std.proofs.lemmas.List.{append-nil, take_all, take-append-le, take-replicate, drop-replicate}

-- what a block is filled up with
abbrev zeros : List ℕ
zeros = replicate 16 0

-- a front that is longer than the first of two lists
pub take_over : (r x : List ℕ) (n : ℕ) → length r ≤ n → take n (r ++ x) ≡ r ++ take (n - length r) x
take_over [] x n h = ap (λ m. take m x) (let e : n ≡ n - 0 = omega arith in e)
take_over (a ∷ r) x zero h = absurd (omega (arith, h))
take_over (a ∷ r) x (suc n) h =
    ap (λ t. a ∷ t) (take_over r x n (omega (arith, h)) ∙ ap (λ m. r ++ take m x) (let e : n - length r ≡ suc n - suc (length r) = omega arith in e))

-- a text shorter than a block, and a longer one, over zeros
padded_short : (d : List ℕ) → length d ≤ 16 → d ++ drop (length d) zeros ≡ take 16 (d ++ zeros)
padded_short d l =
    ap (λ y. d ++ y) (drop-replicate (length d) 16 0 ∙ sym (take-replicate (16 - length d) 16 0 (omega arith)))
    ∙ sym (take_over d zeros 16 l)

padded_long : (d : List ℕ) → 16 ≤ length d → take 16 d ++ drop 16 zeros ≡ take 16 (d ++ zeros)
padded_long d l = append-nil (take 16 d) ∙ sym (take-append-le 16 d zeros l)

-- the first k bytes of a text over zeros are its block, if the text has k bytes or k is 16
pub padded : (d : List ℕ) (k : ℕ) → k ≡ min (length d) 16 → take k d ++ drop k zeros ≡ take 16 (d ++ zeros)
padded d k e =
    ⊎_elim
    (λ short. ap (λ y. y ++ drop k zeros) (take_all k d (omega arith)) ∙ ap (λ m. d ++ drop m zeros) (let q : k ≡ length d = omega arith in q) ∙ padded_short d (omega arith))
    (λ long. ap (λ m. take m d ++ drop m zeros) (let q : k ≡ 16 = omega arith in q) ∙ padded_long d long)
    (cases_lt (length d) 16)
