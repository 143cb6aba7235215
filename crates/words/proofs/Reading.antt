-- A number read digit by digit.
use Rattle.std.proofs.Common.{◌≡◌, ℕ, zero, suc, ◌+◌, ◌*◌, ◌^◌, ◌<◌, ◌≤◌, true, List, [], ◌∷◌, length, get_or, take, Some, None, sym, ⊎_elim, zero-lt-suc, arith}
use native.Mathlib.Nat.{pow-le-pow_right}
use Rattle.std.specs.Str.Parse.{digits_value, AllDigits}
use Rattle.std.specs.Char.{digit_value}
use Rattle.std.proofs.lemmas.List.{length-take-le}
use Rattle.std.proofs.lemmas.Int.Digits.{digits_value-lt}
use Rattle.std.proofs.lemmas.Str.Parse.{IsNumeralModel, numerals_by_value, tells_all_ascii_digits}
use Rattle.std.proofs.lemmas.Bool.{cases_Bool, cond-true, cond-false, and_from, and_left, lt-ltb, le-leb}
use Rattle.std.specs.Str.{all_ascii_digits}
use Rattle.words.specs.Numbers.{number_of}

-- what fewer than nineteen digits write leaves room for one more
pub room : (bs : List ℕ) (i n : ℕ) → i < length bs → length bs ≤ 19 → AllDigits 10 (take i bs) → n ≡ digits_value 10 (take i bs) → n * 10 + 9 < 2 ^ 64
room bs i n h k d e =
    let v = digits_value-lt 10 (take i bs) d in
    let l = length-take-le i bs (omega arith) in
    let m : i ≤ 18 = omega arith in
    let p : 10 ^ i ≤ 10 ^ 18 = pow-le-pow_right (zero-lt-suc 9) m in
    let w : digits_value 10 (take i bs) < 10 ^ i = rw l at v in
    omega arith

-- every byte of a numeral is a digit
pub digit_in : (bs : List ℕ) (i : ℕ) → AllDigits 10 bs → i < length bs → digit_value (get_or bs i 0) < 10
digit_in [] i d h = absurd (omega arith)
digit_in (b ∷ bs) zero d h = d.0
digit_in (b ∷ bs) (suc i) d h = digit_in bs i d.1 (omega arith)

decimals : IsNumeralModel (λ ds. all_ascii_digits ds ≡ true) (digits_value 10)
decimals = numerals_by_value _ tells_all_ascii_digits

-- one to nineteen digits write their number
pub number_some : (w : List ℕ) → AllDigits 10 w → 0 < length w → length w ≤ 19 → Some (digits_value 10 w) ≡ number_of w
number_some w d some few =
    sym (cond-true _ (Some (digits_value 10 w)) None (and_from _ _ (decimals.from w d) (and_from _ _ (lt-ltb _ _ some) (le-leb _ _ few))))

-- a word with another byte writes none
pub number_none : (w : List ℕ) (i : ℕ) → i < length w → 10 ≤ digit_value (get_or w i 0) → None ≡ number_of w
number_none w i h k =
    sym (cond-false _ (Some (digits_value 10 w)) None (and_left _ _ (⊎_elim (λ e. let d = digit_in w i (decimals.to w e) h in absurd (omega arith)) (λ e. e) (cases_Bool (all_ascii_digits w)))))
