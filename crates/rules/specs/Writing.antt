-- What sessions wrote, and which committed, as told.
use Rattle.std.specs.Prelude.{ℕ, ◌+◌, Bool, true, false, cond, not, ◌&&◌, ◌||◌, List, [], ◌∷◌, Some, None, Option, ◌==◌, nat_eq}
use Rattle.tables.specs.Tables.{Table}
use Rattle.rules.specs.Numbers.{maybe, one_if}
use Rattle.rules.specs.Office.{Text}
use Rattle.rules.specs.History.{
  SessionEvent,
  claims,
  reads,
  writes,
  commits,
  leaves,
  Event,
  nothing,
  by,
  opens,
  copies,
  works,
  closes,
  drops,
  Log,
  events,
}

-- ── of a session's events ──

-- the last text that it wrote to entry e
abbrev pub last_write : List SessionEvent → ℕ → Option Text
last_write [] e = None
last_write (claims j ∷ vs) e = last_write vs e
last_write (reads j t ∷ vs) e = last_write vs e
last_write (writes j t ∷ vs) e = cond (e == j) (Some t) (last_write vs e)
last_write (commits ∷ vs) e = last_write vs e
last_write (leaves ∷ vs) e = last_write vs e

-- it wrote
abbrev pub wrote : List SessionEvent → Bool
wrote [] = false
wrote (claims j ∷ vs) = wrote vs
wrote (reads j t ∷ vs) = wrote vs
wrote (writes j t ∷ vs) = true
wrote (commits ∷ vs) = wrote vs
wrote (leaves ∷ vs) = wrote vs

-- ── of a log ──

-- the session that commits in an event
abbrev pub committer : Event → Option ℕ
committer nothing = None
committer (by k (claims e)) = None
committer (by k (reads e t)) = None
committer (by k (writes e t)) = None
committer (by k commits) = Some k
committer (by k leaves) = None
committer opens = None
committer (copies e) = None
committer (works k) = None
committer closes = None
committer drops = None

-- an event is an open
abbrev pub is_open : Event → Bool
is_open nothing = false
is_open (by k v) = false
is_open opens = true
is_open (copies e) = false
is_open (works k) = false
is_open closes = false
is_open drops = false

-- how many commits were of sessions that wrote
abbrev pub commits_that_wrote : Log → ℕ
commits_that_wrote [] = 0
commits_that_wrote (r ∷ l) =
    maybe (committer r.event) (commits_that_wrote l) (λ s. one_if (wrote (events l s)) + commits_that_wrote l)

-- session s committed since the open
abbrev pub committed : Log → ℕ → Bool
committed [] s = false
committed (r ∷ l) s = not (is_open r.event) && (maybe (committer r.event) false (λ k. nat_eq s k) || committed l s)

-- the live table at the last open
abbrev pub opening : Log → Table
opening [] = []
opening (r ∷ l) = cond (is_open r.event) r.live (opening l)

-- whether a round is open after an event, if b was so before it
abbrev pub open_by : Event → Bool → Bool
open_by nothing b = b
open_by (by k v) b = b
open_by opens b = true
open_by (copies e) b = b
open_by (works k) b = b
open_by closes b = false
open_by drops b = false

-- of the accepted opens, closes and drops the last was an open
abbrev pub round_open : Log → Bool
round_open [] = false
round_open (r ∷ l) = open_by r.event (round_open l)
