-- Sessions and their holds, and what each change makes of them.
use Rattle.std.specs.Prelude.{ℕ, Bool, true, false, cond, ◌&&◌, List, length, replicate, is_some, is_none, Some, None, Ok, Err, Option, Result, ◌==◌, position, option_map, slice_set}
use Rattle.std.specs.Bool.{then_some}
use Rattle.std.specs.List.{list_any}
use Rattle.std.specs.Option.{option_or, option_map_or}
use Rattle.tables.specs.declared.refusal.Refusal.{Refusal}
use Rattle.tables.specs.declared.refusal.Refusal.TheVariants.{Paused, Ended}
use Rattle.tables.specs.declared.text.Text.{Text}
use Rattle.keyed.specs.Keyed.{is_key, key_of, held, distinct, all_under}
use Rattle.sessions.specs.declared.hold.Hold.{Hold}
use Rattle.sessions.specs.declared.session.Session.{Session}
use Rattle.sessions.specs.declared.session.Side.{Side}
use Rattle.sessions.specs.declared.session.Side.TheVariants.{Before, After}

-- ── numbers ──

-- the entry that a hold is of
abbrev pub hold_entry : Hold → ℕ
hold_entry h = h.entry

-- the same of a place for a hold, if one is there
abbrev pub hold_key : Option Hold → Option ℕ
hold_key = key_of hold_entry

-- the number of a session
abbrev pub session_number : Session → ℕ
session_number x = x.number

-- the same of a place for a session, if one is there
abbrev pub session_key : Option Session → Option ℕ
session_key = key_of session_number

-- ── what a session table keeps of each session ──

-- eight places for holds, of distinct entries below n
abbrev pub sound_session : ℕ → Session → Bool
sound_session n x = (length x.holds == 8) && (distinct hold_key x.holds && all_under hold_key n x.holds)

-- the same of a place, if a session is there
abbrev pub sound_place : ℕ → Option Session → Bool
sound_place n x = option_map_or (sound_session n) x true

-- ── holds ──

-- a hold keeps a text
abbrev pub is_written : Hold → Bool
is_written h = is_some h.written

-- a session holds entry e
abbrev pub holds_entry : ℕ → Session → Bool
holds_entry e x = is_some (held hold_entry x.holds e)

-- the place of the hold of entry e, or else the first free one
abbrev pub hold_place : List (Option Hold) → ℕ → Option ℕ
hold_place l e = option_or (position (λ x. is_key (hold_key x) e) l) (position is_none l)

-- the text that stays in a place that is granted for entry e: what was written to that entry
abbrev pub text_that_stays : Option Hold → ℕ → Option Text
text_that_stays None e = None
text_that_stays (Some h) e = cond (h.entry == e) h.written None

-- a place, granted for entry e in a mode
abbrev pub granted_hold : Option Hold → ℕ → ℕ → Option Hold
granted_hold x e m = Some (record { entry = e; mode = m; written = text_that_stays x e })

-- a hold with a text written to its entry
abbrev pub written_hold : Option Hold → Text → Option Hold
written_hold x t = option_map (λ h. record { entry = h.entry; mode = h.mode; written = Some t }) x

-- ── sessions ──

-- a session that has just begun
abbrev pub begun_session : ℕ → Session
begun_session k = record { number = k; side = None; holds = replicate 8 None }

-- a session with another place k for a hold, and a side
abbrev pub with_hold : Session → ℕ → Option Hold → Option Side → Session
with_hold x k h side = record { number = x.number; side = side; holds = slice_set x.holds k h }

-- ── rounds ──

-- a session with the side that it has as a round opens, Before if it holds an entry, or as one ends, none
abbrev pub with_new_side : Bool → Session → Session
with_new_side round x = record { number = x.number; side = then_some (round && list_any is_some x.holds) Before; holds = x.holds }

-- the side that a claim of a copied or an uncopied entry gives a session of a side, or the refusal: paused, or the session's
-- end; without a round, the session keeps its side
abbrev pub side_then : Bool → Option Side → Bool → Result (Option Side) Refusal
side_then false side c = Ok side
side_then true None c = Ok (Some (cond c After Before))
side_then true (Some Before) c = cond c (Err Ended) (Ok (Some Before))
side_then true (Some After) c = cond c (Ok (Some After)) (Err Paused)
