-- A text's pieces of 16 bytes are written into blocks, the last piece first.
use Rattle.std.proofs.Common.{◌≡◌, ℕ, ◌+◌, ◌-◌, ◌*◌, ◌/◌, ◌%◌, ◌<◌, ◌≤◌, List, [], ◌++◌, length, take, replicate, sym, refl, ap, ◌∙◌, ⊎_elim, arith, length-append}
use Rattle.std.proofs.lemmas.Bool.{cases_lt}
use Rattle.std.proofs.lemmas.List.{append-nil, append_assoc, nil_from_length, take_at, take-take, take-append-le, length-take-le}
use Rattle.pages.proofs.Cuts.{take_over}

-- what a block is filled up with
abbrev zeros : List ℕ
zeros = replicate 16 0

-- the front `rest` of the text t is still to be written, and what follows it stands at the front of the bytes bs
pub record Written (t rest bs : List ℕ) : Type 0 where
  pub tail : List ℕ
  pub cut : t ≡ rest ++ tail
  pub front : take (length tail) bs ≡ tail
  pub whole : 0 < length tail → length rest % 16 ≡ 0

-- a short piece, which is the last one, and a whole one
short_front : (piece bs : List ℕ) → length piece ≤ 16 → take (length piece) (take 16 (piece ++ zeros) ++ bs) ≡ piece
short_front piece bs l =
    take-append-le (length piece) (take 16 (piece ++ zeros)) bs (omega (arith, length-take-le 16 (piece ++ zeros) (simp length-append (omega arith))))
    ∙ take-take (length piece) 16 (piece ++ zeros) l
    ∙ take_at piece zeros (length piece) refl

whole_front : (piece tail bs : List ℕ) → length piece ≡ 16 → take (length tail) bs ≡ tail → take (length (piece ++ tail)) (take 16 (piece ++ zeros) ++ bs) ≡ piece ++ tail
whole_front piece tail bs l e =
    ap (λ x. take (length (piece ++ tail)) (x ++ bs)) (take_at piece zeros 16 l)
    ∙ take_over piece bs (length (piece ++ tail)) (simp length-append (omega arith))
    ∙ ap (λ m. piece ++ take m bs) (simp length-append (omega arith))
    ∙ ap (λ x. piece ++ x) e

-- one piece more, off the back of the rest
pub written_more : (t rest less piece bs : List ℕ) → rest ≡ less ++ piece → length less ≡ (length rest - 1) / 16 * 16 → 0 < length rest → Written t rest bs
    → Written t less (take 16 (piece ++ zeros) ++ bs)
written_more t rest less piece bs is many some w =
    let sum : length rest ≡ length less + length piece = ap length is ∙ length-append less piece in
    record {
      tail = piece ++ w.tail;
      cut = w.cut ∙ ap (λ r. r ++ w.tail) is ∙ append_assoc less piece w.tail;
      front = ⊎_elim
          (λ short.
          let none : w.tail ≡ [] = nil_from_length w.tail (⊎_elim (λ h. absurd (omega (arith, w.whole h))) (λ h. omega arith) (cases_lt 0 (length w.tail))) in
          ap (λ x. take (length (piece ++ x)) (take 16 (piece ++ zeros) ++ bs)) none ∙ ap (λ x. take (length x) (take 16 (piece ++ zeros) ++ bs)) (append-nil piece) ∙ short_front piece bs (omega arith) ∙ sym (append-nil piece) ∙ ap (λ x. piece ++ x) (sym none))
          (λ long. whole_front piece w.tail bs (omega arith) w.front)
          (cases_lt (length piece) 16);
      whole = λ h. omega arith;
    }
