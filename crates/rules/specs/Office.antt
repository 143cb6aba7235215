-- The office: its two tables, its sessions and its round; the calls and their answers.
use Rattle.std.specs.Prelude.{ℕ, suc, max, Bool, true, false, not, ◌&&◌, List, [], ◌∷◌, length, is_some, None, Option, ◌==◌}
use Rattle.std.specs.Option.{unwrap_or}
use Rattle.tables.specs.Tables.{Table}
use Rattle.tables.specs.declared.refusal.Refusal.{Refusal}
use Rattle.rules.specs.Numbers.{any_below, count_below}

-- the bytes of a text
abbrev pub Text : Type 0
Text = List ℕ

-- ── sessions ──

-- a session's side in a round
pub data Side : Type 0 where
  neither : Side
  before : Side
  after : Side

-- the side is Before
abbrev pub is_before : Side → Bool
is_before neither = false
is_before before = true
is_before after = false

-- the side is After
abbrev pub is_after : Side → Bool
is_after neither = false
is_after before = false
is_after after = true

-- a session holds the entries that it has a mode for, and keeps the text that it wrote to an entry
pub record Session : Type 0 where
  pub side : Side
  pub mode : ℕ → Option ℕ
  pub text : ℕ → Option Text

-- a session without a side that holds nothing
abbrev pub new_session : Session
new_session = record { side = neither; mode = λ _. None; text = λ _. None }

-- ── the office ──

-- the live table and the image; the live sessions by their numbers, the next session number and the next hand;
-- whether a round is open, and which entries it has copied
pub record Office : Type 0 where
  pub live : Table
  pub image : Table
  pub sessions : ℕ → Option Session
  pub next_session : ℕ
  pub next_hand : ℕ
  pub round : Bool
  pub copied : ℕ → Bool

-- the greatest hand in a table, 0 if it has no entry
abbrev pub greatest_hand : Table → ℕ
greatest_hand [] = 0
greatest_hand (x ∷ t) = max x.hand (greatest_hand t)

-- no session and no round; the first session number and the first hand are one above the greatest hand
abbrev pub new_office : Table → Table → Office
new_office live image =
    record {
      live = live;
      image = image;
      sessions = λ _. None;
      next_session = suc (greatest_hand live);
      next_hand = suc (greatest_hand live);
      round = false;
      copied = λ _. false;
    }

-- the count n of the live table
abbrev pub entries : Office → ℕ
entries o = length o.live

-- the session of a number; where none is live, one that holds nothing
abbrev pub session : Office → ℕ → Session
session o s = unwrap_or (o.sessions s) new_session

-- the mode in which session s holds entry e, if it does
abbrev pub mode_at : Office → ℕ → ℕ → Option ℕ
mode_at o s e = (session o s).mode e

-- some session holds entry e
abbrev pub is_held : Office → ℕ → Bool
is_held o e = any_below o.next_session (λ s. is_some (mode_at o s e))

-- how many entries other than e session s holds
abbrev pub others_held : Office → ℕ → ℕ → ℕ
others_held o s e = count_below (entries o) (λ j. not (j == e) && is_some (mode_at o s j))

-- how many sessions are live
abbrev pub live_count : Office → ℕ
live_count o = count_below o.next_session (λ s. is_some (o.sessions s))

-- how many entries are uncopied
abbrev pub uncopied : Office → ℕ
uncopied o = count_below (entries o) (λ e. not (o.copied e))

-- ── calls and answers ──

-- the calls, with numbers of sessions s, of entries e and of modes m
pub data Call : Type 0 where
  begin : Call
  -- claim s e m
  claim : ℕ → ℕ → ℕ → Call
  -- read s e, with the length of the buffer
  read : ℕ → ℕ → ℕ → Call
  -- write s e, with the text
  write : ℕ → ℕ → Text → Call
  -- commit s
  commit : ℕ → Call
  -- leave s
  leave : ℕ → Call
  open_round : Call
  -- copy e
  copy : ℕ → Call
  -- work, with the most copies it may make
  work : ℕ → Call
  close_round : Call
  drop_round : Call

-- the answers
pub data Answer : Type 0 where
  refused : Refusal → Answer
  done : Answer
  -- the number of the session begun
  number : ℕ → Answer
  -- the text that a read found
  found : Text → Answer
  -- the copies that a work made, and the entries left uncopied
  counts : ℕ → ℕ → Answer
