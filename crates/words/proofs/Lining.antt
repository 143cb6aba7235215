-- The first line is what stands before the first line feed, and the others are the lines of what stands after it.
use Rattle.std.proofs.Common.{◌≡◌, ℕ, suc, ◌<◌, ◌≤◌, true, false, eqb, List, [], ◌∷◌, length, Some, None, unwrap_or, ap, ⊎_elim, arith}
use Rattle.std.proofs.lemmas.Bool.{cases_Bool, cond_both}
use Rattle.words.specs.Cuts.{before, after, after_or_none}
use Rattle.words.specs.Lines.{lines, onto_first}

lines_cut : (b : ℕ) (bs : List ℕ) → lines (b ∷ bs) ≡ before 10 (b ∷ bs) ∷ lines (after_or_none 10 (b ∷ bs))
lines_cut b [] = ⊎_elim (λ (e : eqb b 10 ≡ true). simp e) (λ (e : eqb b 10 ≡ false). simp e) (cases_Bool (eqb b 10))
lines_cut b (x ∷ bs) =
    ⊎_elim
    (λ (e : eqb b 10 ≡ true). simp e)
    (λ (e : eqb b 10 ≡ false). simp e (ap (onto_first b) (lines_cut x bs)))
    (cases_Bool (eqb b 10))

-- what stands after the first separator is shorter
after_shorter : (s b : ℕ) (bs : List ℕ) → length (after_or_none s (b ∷ bs)) ≤ length bs
after_shorter s b [] =
    cond_both (eqb b s) (Some []) None (λ o. length (unwrap_or o []) ≤ 0) (λ _. omega arith) (λ _. omega arith)
after_shorter s b (x ∷ bs) =
    cond_both (eqb b s) (Some (x ∷ bs)) (after s (x ∷ bs)) (λ o. length (unwrap_or o []) ≤ suc (length bs)) (λ _. omega arith) (λ _. let h = after_shorter s x bs in omega arith)

-- the first line, and the text after it
pub line_split : (bs : List ℕ) → 0 < length bs → (lines bs ≡ before 10 bs ∷ lines (after_or_none 10 bs)) × (length (after_or_none 10 bs) < length bs)
line_split [] some = absurd (omega arith)
line_split (b ∷ bs) some = (lines_cut b bs, let h = after_shorter 10 b bs in omega arith)

-- there are no more lines than bytes
onto_first_more : (b : ℕ) (ls : List (List ℕ)) → length (onto_first b ls) ≤ suc (length ls)
onto_first_more b [] = omega arith
onto_first_more b (l ∷ ls) = omega arith

pub lines_few : (bs : List ℕ) → length (lines bs) ≤ length bs
lines_few [] = omega arith
lines_few (b ∷ bs) =
    let few = lines_few bs in
    cond_both (eqb b 10) ([] ∷ lines bs) (onto_first b (lines bs)) (λ ls. length ls ≤ suc (length bs)) (λ _. omega arith) (λ _. let more = onto_first_more b (lines bs) in omega arith)
