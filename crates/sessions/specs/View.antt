-- The office that a session table and two tables are.
use Rattle.std.specs.Prelude.{◌≡◌, ℕ, Bool, false, not, ◌&&◌, length, Some, None, Option, ◌==◌, option_map, slice_index_or}
use Rattle.std.specs.Option.{option_and_then, option_map_or}
use Rattle.tables.specs.Tables.{Table}
use Rattle.tables.specs.Texts.{bytes_of}
use Rattle.modes.specs.Kind.{Kind}
use Rattle.rules.specs.Office.{Text, Office, Call, Answer, neither, before, after}
use Rattle.rules.specs.Office.{Session as OfficeSession}
use Rattle.rules.specs.Office.{Side as OfficeSide}
use Rattle.rules.specs.Rules.{Step}
use Rattle.keyed.specs.Keyed.{held, any_held}
use Rattle.sessions.specs.Sessions.{hold_entry, session_number, holds_entry}
use Rattle.sessions.specs.declared.hold.Hold.{Hold}
use Rattle.sessions.specs.declared.session.Session.{Session}
use Rattle.sessions.specs.declared.session.Side.{Side}
use Rattle.sessions.specs.declared.session.Side.TheVariants.{Before, After}
use Rattle.sessions.specs.declared.table.SessionTable.{SessionTable}

-- a side
abbrev pub side_of : Option Side → OfficeSide
side_of None = neither
side_of (Some Before) = before
side_of (Some After) = after

-- the mode of a hold
abbrev pub mode_of : Option Hold → Option ℕ
mode_of o = option_map (λ h. h.mode) o

-- the text that a hold keeps
abbrev pub text_of : Option Hold → Option Text
text_of o = option_and_then (λ h. option_map bytes_of h.written) o

-- a session: its side, and the modes and texts of its holds
abbrev pub session_of : Session → OfficeSession
session_of x =
    record {
      side = side_of x.side;
      mode = λ e. mode_of (held hold_entry x.holds e);
      text = λ e. text_of (held hold_entry x.holds e);
    }

-- the office
abbrev pub view : SessionTable → Table → Table → Office
view t live image =
    record {
      live = live;
      image = image;
      sessions = λ s. option_map session_of (held session_number t.sessions s);
      next_session = t.next_session;
      next_hand = t.next_hand;
      round = t.round;
      copied = λ e. slice_index_or t.copied e false;
    }

-- P holds of every live table of t's count and every image
abbrev pub WithTables : SessionTable → (Table → Table → Type 0) → Type 0
WithTables t P = (live image : Table) → length live ≡ t.entries → P live image

-- t' has as many entries as t, and P holds of them
abbrev pub Follows : SessionTable → SessionTable → (Table → Table → Type 0) → Type 0
Follows t t' P = (t'.entries ≡ t.entries) × WithTables t P

-- with each such two tables, the call c is answered a by the rules of a kind of modes, and leaves t'
abbrev pub ByRule : Kind → SessionTable → Call → Answer → SessionTable → Type 0
ByRule K t c a t' = Follows t t' (λ live image. Step K (view t live image) c a (view t' live image))

-- the same by the rules of every kind
abbrev pub ByRules : SessionTable → Call → Answer → SessionTable → Type 0
ByRules t c a t' = Follows t t' (λ live image. (K : Kind) → Step K (view t live image) c a (view t' live image))

-- an office without session and round, whose next session number and next hand are the same
abbrev pub empty_office : ℕ → Table → Table → Office
empty_office first live image =
    record {
      live = live;
      image = image;
      sessions = λ _. None;
      next_session = first;
      next_hand = first;
      round = false;
      copied = λ _. false;
    }

-- entry e is uncopied, and no session holds it
abbrev pub copyable : SessionTable → ℕ → Bool
copyable t e = not (slice_index_or t.copied e false) && not (any_held (holds_entry e) t.sessions)

-- a session holds entry e in a mode that passes p
abbrev pub holds_in : (ℕ → Bool) → ℕ → Session → Bool
holds_in p e x = option_map_or p (mode_of (held hold_entry x.holds e)) false

-- a session other than s does
abbrev pub conflicting : (ℕ → Bool) → ℕ → ℕ → Session → Bool
conflicting p s e x = not (x.number == s) && holds_in p e x
