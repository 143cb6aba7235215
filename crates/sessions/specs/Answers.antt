-- What the answers of the calls say.
use Rattle.std.specs.Prelude.{◌≡◌, ℕ, ◌<◌, cond, position, List, [], ◌∷◌, length, take, drop, Some, None, Ok, Err, Option, Result, nat_lt, slice_set}
use Rattle.std.specs.Option.{unwrap_or}
use Rattle.tables.specs.Tables.{Table, entry}
use Rattle.tables.specs.declared.refusal.Refusal.{Refusal}
use Rattle.tables.specs.declared.refusal.Refusal.TheVariants.{NoSession, ShortBuffer, NumbersSpent, CountHigh}
use Rattle.std.specs.Borrow.{Bor}
use Rattle.rules.specs.Numbers.{first_of}
use Rattle.rules.specs.Office.{Text, Answer, refused, done, number, found}
use Rattle.keyed.specs.Keyed.{is_key, held}
use Rattle.sessions.specs.Sessions.{session_key, session_number}
use Rattle.sessions.specs.declared.session.Session.{Session}
use Rattle.sessions.specs.declared.table.SessionTable.{SessionTable}

-- why there is no session table of this many entries with these first numbers
abbrev pub new_refusal : ℕ → ℕ → Option Refusal
new_refusal entries first = first_of ((nat_lt 4_000_000_001 first, NumbersSpent) ∷ (nat_lt 128 entries, CountHigh) ∷ [])

-- the session of number s and its place, or refusal 1
abbrev pub SessionIs : SessionTable → ℕ → Result (ℕ × Bor Session) Refusal → Type 0
SessionIs t s (Ok f) =
    (f.0 < length t.sessions) × (position (λ x. is_key (session_key x) s) t.sessions ≡ Some f.0) × (held session_number t.sessions s ≡ Some f.1.now)
SessionIs t s (Err f) = (f ≡ NoSession) × (held session_number t.sessions s ≡ None)

-- done, or a refusal
abbrev pub did : Result (Unit {0}) Refusal → Answer
did (Ok u) = done
did (Err f) = refused f

-- the number of a session, or a refusal
abbrev pub numbered : Result ℕ Refusal → Answer
numbered (Ok n) = number n
numbered (Err f) = refused f

-- the image after a copy of entry e of the live table, or after a refusal of it
abbrev pub copied_image : Result (Unit {0}) Refusal → ℕ → Table → Table → Table
copied_image (Ok u) e live image = slice_set image e (entry live e)
copied_image (Err f) e live image = image

-- a read of a text into a buffer of this length
abbrev pub fetched : ℕ → Text → Answer
fetched room t = cond (nat_lt room (length t)) (refused ShortBuffer) (found t)

-- a read of an entry: what the session wrote stands at the front of the buffer, or else the live table's text t is fetched
abbrev pub own_found : Option ℕ → List ℕ → Text → Answer
own_found (Some n) buf t = found (take n buf)
own_found None buf t = fetched (length buf) t

-- the same, or a refusal
abbrev pub own_answer : Result (Option ℕ) Refusal → List ℕ → Text → Answer
own_answer (Ok o) buf t = own_found o buf t
own_answer (Err f) buf t = refused f

-- a buffer keeps what stands after the text that was put into it
abbrev pub BufferKept : Result (Option ℕ) Refusal → List ℕ → List ℕ → Type 0
BufferKept (Ok o) buf buf' = drop (unwrap_or o 0) buf' ≡ drop (unwrap_or o 0) buf
BufferKept (Err f) buf buf' = buf' ≡ buf
