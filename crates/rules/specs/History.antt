-- What calls and answers tell, and nothing of the office's inner state. Histories and logs have the newest first.
use Rattle.std.specs.Prelude.{◌≡◌, ℕ, cond, List, [], ◌∷◌, map, ◌==◌}
use Rattle.tables.specs.Tables.{Table}
use Rattle.tables.specs.Refusals.{number_of}
use Rattle.tables.specs.declared.refusal.Refusal.TheVariants.{Ended}
use Rattle.modes.specs.Kind.{Kind}
use Rattle.rules.specs.Office.{
  Text,
  Office,
  new_office,
  Call,
  begin,
  claim,
  read,
  write,
  commit,
  leave,
  open_round,
  copy,
  work,
  close_round,
  drop_round,
  Answer,
  refused,
  done,
  number,
  found,
  counts,
}
use Rattle.rules.specs.Rules.{Step}

-- ── moments and runs ──

-- a call, its answer, and the two tables after it
pub record Moment : Type 0 where
  pub call : Call
  pub answer : Answer
  pub live : Table
  pub image : Table

-- the moments so far
abbrev pub History : Type 0
History = List Moment

-- the histories of an office that was new over two tables, each with the office after it
abbrev pub Run : Kind → Table → Table → History → Office → Type 0
Run K live image [] o = o ≡ new_office live image
Run K live image (m ∷ h) o =
    (p : Office) × Run K live image h p × Step K p m.call m.answer o × (m.live ≡ o.live) × (m.image ≡ o.image)

-- ── events ──

-- what a session did
pub data SessionEvent : Type 0 where
  -- it was granted a claim of an entry
  claims : ℕ → SessionEvent
  -- it read an entry, and found this text
  reads : ℕ → Text → SessionEvent
  -- it wrote this text to an entry
  writes : ℕ → Text → SessionEvent
  -- it committed
  commits : SessionEvent
  -- it ended without a commit
  leaves : SessionEvent

-- what happened
pub data Event : Type 0 where
  -- nothing of holds, tables or the round
  nothing : Event
  -- the session of this number did this
  by : ℕ → SessionEvent → Event
  -- a round was opened
  opens : Event
  -- this entry was copied
  copies : ℕ → Event
  -- so many entries were copied, in next's order
  works : ℕ → Event
  -- the round was closed
  closes : Event
  -- the round was dropped
  drops : Event

-- an event, unless the answer is a refusal
abbrev pub unless_refused : Answer → Event → Event
unless_refused (refused r) v = nothing
unless_refused done v = v
unless_refused (number k) v = v
unless_refused (found t) v = v
unless_refused (counts i j) v = v

-- the event that a call and its answer tell; a claim answered 7 ends its session as a leave does
abbrev pub tells : Call → Answer → Event
tells begin a = nothing
tells (claim s e m) a =
    elim a [
      | refused r ↦ cond (number_of r == number_of Ended) (by s leaves) nothing
      | done ↦ by s (claims e)
      | number k ↦ nothing
      | found t ↦ nothing
      | counts i j ↦ nothing
    ]
tells (read s e room) a =
    elim a [
      | refused r ↦ nothing
      | done ↦ nothing
      | number k ↦ nothing
      | found t ↦ by s (reads e t)
      | counts i j ↦ nothing
    ]
tells (write s e t) a = unless_refused a (by s (writes e t))
tells (commit s) a = unless_refused a (by s commits)
tells (leave s) a = unless_refused a (by s leaves)
tells open_round a = unless_refused a opens
tells (copy e) a = unless_refused a (copies e)
tells (work k) a =
    elim a [
      | refused r ↦ nothing
      | done ↦ nothing
      | number k ↦ nothing
      | found t ↦ nothing
      | counts i j ↦ works i
    ]
tells close_round a = unless_refused a closes
tells drop_round a = unless_refused a drops

-- ── logs ──

-- an event, and the live table after it
pub record Record : Type 0 where
  pub event : Event
  pub live : Table

-- the records so far
abbrev pub Log : Type 0
Log = List Record

-- what a history tells
abbrev pub log : History → Log
log h = map (λ m. record { event = tells m.call m.answer; live = m.live }) h

-- the events of session s with this one, if it is of session s
abbrev pub with_event : Event → ℕ → List SessionEvent → List SessionEvent
with_event nothing s vs = vs
with_event (by k v) s vs = cond (s == k) (v ∷ vs) vs
with_event opens s vs = vs
with_event (copies e) s vs = vs
with_event (works k) s vs = vs
with_event closes s vs = vs
with_event drops s vs = vs

-- the events of session s
abbrev pub events : Log → ℕ → List SessionEvent
events [] s = []
events (r ∷ l) s = with_event r.event s (events l s)
