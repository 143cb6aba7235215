-- Answers and entries as lines.
use Rattle.std.specs.Prelude.{ℕ, cond, List, ◌++◌, is_ok, Some, None, Ok, Err, codes, decimal, Option, Result}
use Rattle.tables.specs.Refusals.{number_of}
use Rattle.tables.specs.Tables.{Entry}
use Rattle.tables.specs.declared.refusal.Refusal.{Refusal}
use Rattle.rules.specs.Office.{Answer, refused, done, number, found, counts}

-- bytes with a line after them; where memory fails, the bytes as they were
abbrev pub with_line : {T E : Type 0} → Result T E → List ℕ → List ℕ → List ℕ
with_line r bytes l = cond (is_ok r) (bytes ++ l) bytes

-- a word, a space and a text
abbrev pub shown_line : List ℕ → List ℕ → List ℕ
shown_line word text = word ++ (codes " " ++ (text ++ codes "\n"))

-- `no` and the refusal's number
abbrev pub refused_line : Refusal → List ℕ
refused_line f = shown_line (codes "no") (decimal (number_of f))

-- `ok` and a number
abbrev pub number_line : ℕ → List ℕ
number_line n = shown_line (codes "ok") (decimal n)

-- a text, with what stands before it
abbrev pub text_line : List ℕ → List ℕ → List ℕ
text_line head s = head ++ s ++ codes "\n"

-- `ok` and the values, a space before each, or the refusal
abbrev pub answer_line : Answer → List ℕ
answer_line (refused f) = refused_line f
answer_line done = codes "ok\n"
answer_line (number n) = number_line n
answer_line (found s) = text_line (codes "ok ") s
answer_line (counts a b) = shown_line (codes "ok") (decimal a ++ (codes " " ++ decimal b))

-- `ok` and the next entry of the round or `none`, or the refusal
abbrev pub next_line : Result (Option ℕ) Refusal → List ℕ
next_line (Ok (Some e)) = number_line e
next_line (Ok None) = codes "ok none\n"
next_line (Err f) = refused_line f

-- the answer to a malformed line
abbrev pub bad_line : List ℕ
bad_line = codes "bad\n"

-- number, edition and hand, a space after each, and then the text
abbrev pub entry_line : ℕ → Entry → List ℕ
entry_line e x =
    text_line
    (decimal e ++ (codes " " ++ (decimal x.edition ++ (codes " " ++ (decimal x.hand ++ codes " ")))))
    x.text
