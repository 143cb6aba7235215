-- The rules: which refusals fit a call, and what an accepted call answers and leaves.
use Rattle.std.specs.Prelude.{◌≡◌, ℕ, zero, suc, min, Bool, true, false, cond, not, ◌&&◌, List, [], ◌∷◌, length, is_some, Some, None, Ok, Err, Option, Result, ◌==◌, nat_le, nat_lt, slice_set}
use Rattle.std.specs.Option.{unwrap_or, option_map}
use Rattle.tables.specs.Tables.{Entry, of, Table, entry}
use Rattle.tables.specs.declared.refusal.Refusal.{Refusal}
use Rattle.tables.specs.declared.refusal.Refusal.TheVariants.{
  NoSession,
  NoEntry,
  NoMode,
  HoldsFull,
  Conflict,
  Paused,
  Ended,
  NotReading,
  ShortBuffer,
  NotWriting,
  LongText,
  SessionsFull,
  NumbersSpent,
  RoundOpen,
  CountsDiffer,
  NoRound,
  Copied,
  Held,
  Uncopied,
}
use Rattle.modes.specs.Kind.{Kind}
use Rattle.rules.specs.Numbers.{maybe, changed, any_below, lowest, first_of}
use Rattle.rules.specs.Office.{
  Text,
  Side,
  neither,
  before,
  after,
  is_before,
  is_after,
  Session,
  new_session,
  Office,
  entries,
  session,
  mode_at,
  is_held,
  others_held,
  live_count,
  uncopied,
  Call,
  begin,
  claim,
  read,
  write,
  commit,
  leave,
  open_round,
  copy,
  work,
  close_round,
  drop_round,
  Answer,
  refused,
  done,
  number,
  found,
  counts,
}

-- ── what the tests ask ──

-- session s holds entry e in a mode that passes p
abbrev pub holds_mode : Office → ℕ → ℕ → (ℕ → Bool) → Bool
holds_mode o s e p = maybe (mode_at o s e) false p

-- the mode that a claim of mode m wants: m, joined with the mode held there, if any
abbrev pub wanted : Kind → ℕ → Option ℕ → ℕ
wanted K m None = m
wanted K m (Some h) = K.join m h

-- a session other than s holds entry e in a mode that conflicts with w
abbrev pub conflicts : Kind → Office → ℕ → ℕ → ℕ → Bool
conflicts K o s e w = any_below o.next_session (λ k. not (k == s) && holds_mode o k e (λ m. K.conflict w m))

-- what a read of entry e by session s finds: the text that it wrote there, or else the live table's
abbrev pub reading : Office → ℕ → ℕ → Text
reading o s e = unwrap_or ((session o s).text e) (entry o.live e).text

-- ── next ──

-- the order of copying: the lowest entry below n that is uncopied and unheld
abbrev pub next_entry : ℕ → (ℕ → Bool) → (ℕ → Bool) → Option ℕ
next_entry n held copied = lowest n (λ e. not (copied e) && not (held e))

-- the entry that next names in a round, if any
abbrev pub next_of : Office → Option ℕ
next_of o = next_entry (entries o) (is_held o) o.copied

-- the answer to the question next
abbrev pub next_answer : Office → Result (Option ℕ) Refusal
next_answer o = cond o.round (Ok (next_of o)) (Err NoRound)

-- ── refusals ──

-- the refusals of a call in their order, each with its test; 7 comes after them, and stands with the claim below
abbrev pub declines : Kind → Office → Call → List (Bool × Refusal)
declines K o begin =
    (nat_le 16 (live_count o), SessionsFull)
    ∷ (nat_lt 4_000_000_000 o.next_session, NumbersSpent)
    ∷ []
declines K o (claim s e m) =
    (not (is_some (o.sessions s)), NoSession)
    ∷ (not (nat_lt e (entries o)), NoEntry)
    ∷ (not (nat_lt m K.modes), NoMode)
    ∷ (nat_le 8 (others_held o s e), HoldsFull)
    ∷ (conflicts K o s e (wanted K m (mode_at o s e)), Conflict)
    ∷ (o.round && (is_after (session o s).side && not (o.copied e)), Paused)
    ∷ []
declines K o (read s e room) =
    (not (is_some (o.sessions s)), NoSession)
    ∷ (not (nat_lt e (entries o)), NoEntry)
    ∷ (not (holds_mode o s e K.reads), NotReading)
    ∷ (nat_lt room (length (reading o s e)), ShortBuffer)
    ∷ []
declines K o (write s e t) =
    (not (is_some (o.sessions s)), NoSession)
    ∷ (not (nat_lt e (entries o)), NoEntry)
    ∷ (not (holds_mode o s e K.writes), NotWriting)
    ∷ (nat_lt 96 (length t), LongText)
    ∷ []
declines K o (commit s) = (not (is_some (o.sessions s)), NoSession) ∷ []
declines K o (leave s) = (not (is_some (o.sessions s)), NoSession) ∷ []
declines K o open_round =
    (o.round, RoundOpen)
    ∷ (not (length o.image == entries o), CountsDiffer)
    ∷ []
declines K o (copy e) =
    (not (nat_lt e (entries o)), NoEntry)
    ∷ (not o.round, NoRound)
    ∷ (o.copied e, Copied)
    ∷ (is_held o e, Held)
    ∷ []
declines K o (work k) = (not o.round, NoRound) ∷ []
declines K o close_round =
    (not o.round, NoRound)
    ∷ (any_below (entries o) (λ e. not (o.copied e)), Uncopied)
    ∷ []
declines K o drop_round = (not o.round, NoRound) ∷ []

-- ── what a session's call leaves ──

-- the office with other sessions
abbrev pub with_sessions : Office → (ℕ → Option Session) → Office
with_sessions o f =
    record {
      live = o.live;
      image = o.image;
      sessions = f;
      next_session = o.next_session;
      next_hand = o.next_hand;
      round = o.round;
      copied = o.copied;
    }

-- the office with another session s, or without it
abbrev pub with_session : Office → ℕ → Option Session → Office
with_session o s x = with_sessions o (changed o.sessions s x)

-- a begin: the next number is that of a live session that holds nothing
abbrev pub after_begin : Office → Office
after_begin o =
    record {
      live = o.live;
      image = o.image;
      sessions = changed o.sessions o.next_session (Some new_session);
      next_session = suc o.next_session;
      next_hand = o.next_hand;
      round = o.round;
      copied = o.copied;
    }

-- the side of a session after a claim granted in a round: a session without one gets After at a copied entry, else Before
abbrev pub first_side : Side → Bool → Side
first_side neither copied = cond copied after before
first_side before copied = before
first_side after copied = after

-- a claim granted: session s holds entry e in mode w
abbrev pub after_claim : Office → ℕ → ℕ → ℕ → Office
after_claim o s e w =
    with_session o s (Some (record {
      side = cond o.round (first_side (session o s).side (o.copied e)) (session o s).side;
      mode = changed (session o s).mode e (Some w);
      text = (session o s).text;
    }))

-- a write: the text is kept with the hold
abbrev pub after_write : Office → ℕ → ℕ → Text → Office
after_write o s e t =
    with_session o s (Some (record {
      side = (session o s).side;
      mode = (session o s).mode;
      text = changed (session o s).text e (Some t);
    }))

-- a leave, or a claim answered 7
abbrev pub after_leave : Office → ℕ → Office
after_leave o s = with_session o s None

-- an entry after a commit of hand k: the text written to it, if any, with the edition one higher, or equal to k if that is less
abbrev pub committed_entry : ℕ → Option Text → Entry → Entry
committed_entry k None x = x
committed_entry k (Some t) x = of t (min (suc x.edition) k) k

-- the entries of a table from number i on, each changed by a function of its number
abbrev pub each_from : ℕ → (ℕ → Entry → Entry) → Table → Table
each_from i f [] = []
each_from i f (x ∷ t) = f i x ∷ each_from (suc i) f t

-- each entry changed by a function of its number
abbrev pub each : (ℕ → Entry → Entry) → Table → Table
each f t = each_from 0 f t

-- session s wrote to an entry
abbrev pub has_text : Office → ℕ → Bool
has_text o s = any_below (entries o) (λ e. is_some ((session o s).text e))

-- a commit: the texts written are put, the hand is spent if there is one, and the session ends
abbrev pub after_commit : Office → ℕ → Office
after_commit o s =
    record {
      live = each (λ e x. committed_entry o.next_hand ((session o s).text e) x) o.live;
      image = o.image;
      sessions = changed o.sessions s None;
      next_session = o.next_session;
      next_hand = cond (has_text o s) (suc o.next_hand) o.next_hand;
      round = o.round;
      copied = o.copied;
    }

-- ── what a round's call leaves ──

-- a session at an open: Before if it holds one of the n entries, else without a side
abbrev pub opened_session : ℕ → Session → Session
opened_session n x = record { side = cond (any_below n (λ e. is_some (x.mode e))) before neither; mode = x.mode; text = x.text }

-- an open: all entries are uncopied
abbrev pub after_open : Office → Office
after_open o =
    record {
      live = o.live;
      image = o.image;
      sessions = λ s. option_map (opened_session (entries o)) (o.sessions s);
      next_session = o.next_session;
      next_hand = o.next_hand;
      round = true;
      copied = λ _. false;
    }

-- a session without its side
abbrev pub sideless : Session → Session
sideless x = record { side = neither; mode = x.mode; text = x.text }

-- a close or a drop: the round ends, and the image keeps what it got
abbrev pub after_round : Office → Office
after_round o =
    record {
      live = o.live;
      image = o.image;
      sessions = λ s. option_map sideless (o.sessions s);
      next_session = o.next_session;
      next_hand = o.next_hand;
      round = false;
      copied = o.copied;
    }

-- a copy: the live entry is put into the image and marked
abbrev pub after_copy : Office → ℕ → Office
after_copy o e =
    record {
      live = o.live;
      image = slice_set o.image e (entry o.live e);
      sessions = o.sessions;
      next_session = o.next_session;
      next_hand = o.next_hand;
      round = o.round;
      copied = changed o.copied e true;
    }

-- a work: copies what next names until the limit is reached or next names none; the number of copies, and the office then
abbrev pub after_work : ℕ → Office → ℕ × Office
after_work zero o = (0, o)
after_work (suc k) o = maybe (next_of o) (0, o) (λ e. (suc (after_work k (after_copy o e)).0, (after_work k (after_copy o e)).1))

-- ── the rule of a call ──

-- what a call that none of its refusals fits answers and leaves; a claim of a copied entry by a Before session is answered 7
abbrev pub perform : Kind → Office → Call → Answer × Office
perform K o begin = (number o.next_session, after_begin o)
perform K o (claim s e m) =
    cond
    (o.round && (is_before (session o s).side && o.copied e))
    (refused Ended, after_leave o s)
    (done, after_claim o s e (wanted K m (mode_at o s e)))
perform K o (read s e room) = (found (reading o s e), o)
perform K o (write s e t) = (done, after_write o s e t)
perform K o (commit s) = (done, after_commit o s)
perform K o (leave s) = (done, after_leave o s)
perform K o open_round = (done, after_open o)
perform K o (copy e) = (done, after_copy o e)
perform K o (work k) = (counts (after_work k o).0 (uncopied (after_work k o).1), (after_work k o).1)
perform K o close_round = (done, after_round o)
perform K o drop_round = (done, after_round o)

-- a refusal that fits is answered and leaves everything as it was; else the call is performed
abbrev pub decided : Kind → Office → Call → Option Refusal → Answer × Office
decided K o c (Some r) = (refused r, o)
decided K o c None = perform K o c

-- what a call answers and leaves: the first refusal that fits decides
abbrev pub step : Kind → Office → Call → Answer × Office
step K o c = decided K o c (first_of (declines K o c))

-- in office o the call c is answered a and leaves office p
abbrev pub Step : Kind → Office → Call → Answer → Office → Type 0
Step K o c a p = (a, p) ≡ step K o c
