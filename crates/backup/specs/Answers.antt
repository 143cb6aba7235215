-- What the answers of the office's calls say.
use Rattle.std.specs.Prelude.{◌≡◌, ℕ, List, take, drop, Ok, Err, Result}
use Rattle.tables.specs.declared.refusal.Refusal.{Refusal}
use Rattle.rules.specs.Office.{Answer, refused, found, counts}

-- the copies made and the entries left uncopied, or a refusal
abbrev pub counted : Result (ℕ × ℕ) Refusal → Answer
counted (Ok p) = counts p.0 p.1
counted (Err f) = refused f

-- the text at the front of the buffer, or a refusal
abbrev pub read_out : Result ℕ Refusal → List ℕ → Answer
read_out (Ok n) buf = found (take n buf)
read_out (Err f) buf = refused f

-- what stands after the text is as it was; on a refusal, the whole buffer is
abbrev pub RestKept : Result ℕ Refusal → List ℕ → List ℕ → Type 0
RestKept (Ok n) buf buf' = drop n buf' ≡ drop n buf
RestKept (Err f) buf buf' = buf' ≡ buf
