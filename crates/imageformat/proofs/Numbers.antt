-- Bytes to a number and back.
use Rattle.std.proofs.Common.{◌≡◌, ℕ, zero, suc, ◌+◌, ◌*◌, ◌/◌, ◌%◌, ◌^◌, ◌<◌, List, [], ◌∷◌, length, sym, refl, ap, ◌∙◌, arith}
use Rattle.std.proofs.Math.Nat.{pow-succ', mul_assoc, add-mul, mul-add-div_right, one-le-pow, mod-eq_of_lt, mod-lt, div-lt_iff_lt-mul}
use Rattle.std.proofs.lemmas.Nat.{div-add-mod', div-mul-add}
use Rattle.std.proofs.lemmas.Int.Digits.{number_lt}
use Rattle.std.specs.Int.{w32, from_be_bytes}
use Rattle.std.specs.Int.Digits.{number_from_digits, number_from_digits_after, AllBelowBase}
use Rattle.imageformat.specs.Format.{bytes}

-- a power of 256 is above 0
power : (k : ℕ) → 0 < 256 ^ k
power k = one-le-pow k 256 (omega arith)

-- a multiple of the next power is one of this power
shifted : (n k : ℕ) → n * 256 ^ suc k ≡ n * 256 * 256 ^ k
shifted n k = ap (λ m. n * m) (pow-succ' 256 k) ∙ sym (mul_assoc n 256 (256 ^ k))

-- so many bytes of a number do not tell what stands above them
above : (k n r : ℕ) → bytes k (n * 256 ^ k + r) ≡ bytes k r
above zero n r = refl
above (suc k) n r =
    let c = 256 ^ k in
    let high : (n * 256 * c + r) / c % 256 ≡ r / c % 256 = ap (λ q. q % 256) (mul-add-div_right (power k) (n * 256) r) ∙ wrapped n (r / c) in
    ap (λ v. bytes (suc k) (v + r)) (shifted n k) ∙ ap (λ b. b ∷ bytes k (n * 256 * c + r)) high ∙ ap (λ bs. (r / c % 256) ∷ bs) (above k (n * 256) r)
  where
    wrapped : (m q : ℕ) → (m * 256 + q) % 256 ≡ q % 256
    wrapped m q = omega arith

-- a number that stands before digits counts a power for each of them
after : (n : ℕ) (ds : List ℕ) → number_from_digits_after 256 n ds ≡ n * 256 ^ length ds + number_from_digits 256 ds
after n [] = omega arith
after n (d ∷ ds) =
    let c = 256 ^ length ds in
    let here = after (n * 256 + d) ds in
    let alone = after (0 * 256 + d) ds in
    let parts = add-mul (n * 256) d c in
    let same = shifted n (length ds) in omega arith

-- bytes are the coding of their number
pub digits_coded : (ds : List ℕ) → AllBelowBase 256 ds → bytes (length ds) (number_from_digits 256 ds) ≡ ds
digits_coded [] small = refl
digits_coded (d ∷ ds) (low, small) =
    let k = length ds in
    let c = 256 ^ k in
    let r = number_from_digits 256 ds in
    let is : number_from_digits 256 (d ∷ ds) ≡ d * c + r = after (0 * 256 + d) ds ∙ ap (λ m. m * c + r) (omega arith) in
    let high : (d * c + r) / c % 256 ≡ d = ap (λ q. q % 256) (div-mul-add d c r (number_lt 256 ds small)) ∙ mod-eq_of_lt low in
    ap (bytes (suc k)) is ∙ ap (λ b. b ∷ bytes k (d * c + r)) high ∙ ap (λ bs. d ∷ bs) (above k d r ∙ digits_coded ds small)

-- a number in so many bytes has so many
length_bytes : (k n : ℕ) → length (bytes k n) ≡ k
length_bytes zero n = refl
length_bytes (suc k) n = ap suc (length_bytes k n)

-- a coded number is read back
pub coded_digits : (k n : ℕ) → n < 256 ^ k → number_from_digits 256 (bytes k n) ≡ n
coded_digits zero n h = omega arith
coded_digits (suc k) n h =
    let c = 256 ^ k in
    let q = n / c in
    let r = n % c in
    let parts : q * c + r ≡ n = div-add-mod' n c in
    let high : q < 256 = (div-lt_iff_lt-mul (power k)).1 (omega (arith, pow-succ' 256 k)) in
    let top : 0 * 256 + q % 256 ≡ q = omega arith in
    let low : bytes k n ≡ bytes k r = ap (bytes k) (sym parts) ∙ above k q r in
    after (0 * 256 + q % 256) (bytes k n)
    ∙ ap (λ m. m * 256 ^ length (bytes k n) + number_from_digits 256 (bytes k n)) top
    ∙ ap (λ m. q * 256 ^ m + number_from_digits 256 (bytes k n)) (length_bytes k n)
    ∙ ap (λ bs. q * c + number_from_digits 256 bs) low
    ∙ ap (λ m. q * c + m) (coded_digits k r (mod-lt n (power k)))
    ∙ parts

-- what std reads in four bytes
pub four_number : (ds : List ℕ) → length ds ≡ 4 → from_be_bytes w32 ds ≡ number_from_digits 256 ds
four_number [] e = absurd (omega arith)
four_number (a ∷ []) e = absurd (omega arith)
four_number (a ∷ (b ∷ [])) e = absurd (omega arith)
four_number (a ∷ (b ∷ (c ∷ []))) e = absurd (omega arith)
four_number (a ∷ (b ∷ (c ∷ (d ∷ [])))) e = omega arith
four_number (a ∷ (b ∷ (c ∷ (d ∷ (x ∷ ds))))) e = absurd (omega arith)
