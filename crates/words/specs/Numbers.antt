-- Decimal numbers.
use Rattle.std.specs.Prelude.{ℕ, cond, ◌&&◌, List, length, Some, None, Option, nat_le, nat_lt}
use Rattle.std.specs.Str.Parse.{digits_value}
use Rattle.std.specs.Str.{all_ascii_digits}

-- the number that a word of one to nineteen decimal digits writes; none of any other word
abbrev pub number_of : List ℕ → Option ℕ
number_of w = cond (all_ascii_digits w && (nat_lt 0 (length w) && nat_le (length w) 19)) (Some (digits_value 10 w)) None
