-- Bytes read from hexadecimal digits, one by one.
use Rattle.std.proofs.Common.{◌≡◌, ℕ, ◌+◌, ◌*◌, ◌/◌, ◌%◌, ◌<◌, ◌≤◌, ◌≢◌, Bool, true, false, List, ◌++◌, length, get_or, drop, set, refl, sym, ap, ◌∙◌, subst, ⊎_elim, arith, below_more}
use Rattle.std.specs.Bool.{MatchBool, Decides}
use Rattle.std.specs.Char.{digit_value}
use Rattle.std.specs.List.{AllWithin, HoldsAt}
use Rattle.std.proofs.lemmas.List.{get_or-set_same, get_or-set_other, get_or-drop, length-drop, length-append, drop-drop}
use Rattle.std.proofs.lemmas.List.Prefix.{front_reads, front_rest}
use Rattle.std.proofs.lemmas.Bool.{cases_lt}
use Rattle.words.specs.Hex.{Hex, HexByte}

-- each byte was a digit, or some byte was none
pub decides_hex : (bs : List ℕ) (r : Bool) → MatchBool r (AllWithin (λ b. digit_value b < 16) bs 0 (length bs)) ((k : ℕ) × (k < length bs) × HoldsAt (λ b. 16 ≤ digit_value b) bs k) → Decides r ((k : ℕ) → k < length bs → digit_value (get_or bs k 0) < 16)
decides_hex bs true all = (λ _ k h. all k 0 (omega arith) h, λ _. refl)
decides_hex bs false some = (λ e. absurd cc, λ all. let h = some.2 0 in let l = all some.0 some.1 in absurd (omega arith))

-- a text that writes bytes has hexadecimal digits alone
pub hex_digits : (text bs : List ℕ) → Hex text bs → (k : ℕ) → k < length text → digit_value (get_or text k 0) < 16
hex_digits text bs hex k h =
    let l = hex.0 in
    let D : ℕ → Type 0 = λ i. digit_value (get_or text i 0) < 16 in
    ⊎_elim
    (λ (even : k % 2 < 1). let e : 2 * (k / 2) ≡ k = omega arith in subst D e (hex.1 (k / 2) (omega arith)).0)
    (λ (odd : 1 ≤ k % 2). let e : 2 * (k / 2) + 1 ≡ k = omega arith in subst D e (hex.1 (k / 2) (omega arith)).1)
    (cases_lt (k % 2) 1)

-- the pair of digits of byte i, and what stands after it
module _ (text pair rest : List ℕ) (i : ℕ) (cut : drop (2 * i) text ≡ pair ++ rest) (two : length pair ≡ 2) where
  read : (j : ℕ) → j < 2 → get_or text (2 * i + j) 0 ≡ get_or pair j 0
  read j h = sym (get_or-drop (2 * i) text j 0) ∙ front_reads 0 (drop (2 * i) text) pair rest cut j (omega arith)

  pub pair_fits : 2 * (i + 1) ≤ length text
  pair_fits = let e = ap length cut in let a = length-append pair rest in let d = length-drop (2 * i) text in omega arith

  pub pair_rest : rest ≡ drop (2 * (i + 1)) text
  pair_rest =
      let e : 2 * i + length pair ≡ 2 * (i + 1) = omega arith in
      sym (front_rest (drop (2 * i) text) pair rest cut) ∙ drop-drop (length pair) (2 * i) text ∙ ap (λ n. drop n text) e

  pub pair_byte : ((k : ℕ) → k < length text → digit_value (get_or text k 0) < 16) → HexByte text i (digit_value (get_or pair 0 0) * 16 + digit_value (get_or pair 1 0))
  pair_byte digits =
      let fits = pair_fits in
      let e : 2 * i + 0 ≡ 2 * i = omega arith in
      let high = ap (λ k. digit_value (get_or text k 0)) (sym e) ∙ ap digit_value (read 0 (omega arith)) in
      let low = ap digit_value (read 1 (omega arith)) in
      (digits (2 * i) (omega arith), digits (2 * i + 1) (omega arith), omega arith)

-- one byte more
pub hex_more : (text out : List ℕ) (i v : ℕ) → i < length out → ((k : ℕ) → k < i → HexByte text k (get_or out k 0)) → HexByte text i v → (k : ℕ) → k < i + 1 → HexByte text k (get_or (set out i v) k 0)
hex_more text out i v h below here =
    below_more
    (λ k. HexByte text k (get_or (set out i v) k 0))
    i
    (λ k l. let ne : k ≢ i = omega arith in rw get_or-set_other (below k l))
    (rw get_or-set_same here)
