-- What a session table keeps, as plain lists and numbers.
use Rattle.std.specs.List.{list_all}
use Rattle.keyed.proofs.Held.{held_at}
use Rattle.std.proofs.Common.{◌≡◌, ℕ, ◌+◌, ◌≤◌, Bool, true, false, List, length, get_or, set, Some, None, sym, subst, position, Option, option_map, ◌∙◌, is_none}
use Rattle.tables.specs.Tables.{Table}
use Rattle.modes.specs.Kind.{Kind}
use Rattle.rules.specs.Office.{Office, Call, Answer}
use Rattle.rules.specs.Rules.{Step}
use Rattle.keyed.specs.Keyed.{is_key, held, count_taken, distinct, all_under}
use Rattle.sessions.specs.Sessions.{session_number, session_key, sound_place}
use Rattle.sessions.specs.View.{session_of}
use Rattle.sessions.specs.declared.session.Session.{Session}
use Rattle.sessions.specs.declared.table.SessionTable.{SessionTable}

pub record Parts : Type 0 where
  pub sessions : List (Option Session)
  pub next : ℕ
  pub hand : ℕ
  pub round : Bool
  pub copied : List Bool

-- the parts of a session table
abbrev pub parts : SessionTable → Parts
parts t =
    record {
      sessions = t.sessions;
      next = t.next_session;
      hand = t.next_hand;
      round = t.round;
      copied = t.copied;
    }

-- the office of the parts and two tables
abbrev pub seen : Parts → Table → Table → Office
seen d live image =
    record {
      live = live;
      image = image;
      sessions = λ s. option_map session_of (held session_number d.sessions s);
      next_session = d.next;
      next_hand = d.hand;
      round = d.round;
      copied = λ e. get_or d.copied e false;
    }

-- what a session table of n entries keeps of its parts
pub record Kept (n : ℕ) (d : Parts) : Type 0 where
  pub places : length d.sessions ≡ 16
  pub marks : length d.copied ≡ 128
  pub few : n ≤ 128
  pub numbers : distinct session_key d.sessions ≡ true
  pub given : all_under session_key d.next d.sessions ≡ true
  pub sound : list_all (sound_place n) d.sessions ≡ true
  pub last : d.next ≤ 4_000_000_001
  pub hands : d.hand + count_taken session_key (λ _. true) d.sessions ≤ d.next

-- what the ghost fields say
pub kept : (t : SessionTable) → Kept t.entries (parts t)
kept t =
    record {
      places = t.places;
      marks = t.marks;
      few = t.few;
      numbers = t.numbers;
      given = t.given;
      sound = t.sound;
      last = t.last;
      hands = t.hands;
    }

-- the same for a live table of the table's count
pub kept_for : (t : SessionTable) (live : Table) → length live ≡ t.entries → Kept (length live) (parts t)
kept_for t live h = subst (λ n. Kept n (parts t)) (sym h) (kept t)

-- the same as the ghost fields of a session table
pub ghosts : {n : ℕ} {d : Parts} → Kept n d
    → record {
      places : length d.sessions ≡ 16;
      marks : length d.copied ≡ 128;
      few : n ≤ 128;
      numbers : distinct session_key d.sessions ≡ true;
      given : all_under session_key d.next d.sessions ≡ true;
      sound : list_all (sound_place n) d.sessions ≡ true;
      last : d.next ≤ 4_000_000_001;
      hands : d.hand + count_taken session_key (λ _. true) d.sessions ≤ d.next;
    }
ghosts k =
    record {
      places = k.places;
      marks = k.marks;
      few = k.few;
      numbers = k.numbers;
      given = k.given;
      sound = k.sound;
      last = k.last;
      hands = k.hands;
    }

-- another session in place i
abbrev pub with_place : Parts → ℕ → Option Session → Parts
with_place d i x = record { sessions = set d.sessions i x; next = d.next; hand = d.hand; round = d.round; copied = d.copied }

-- the session x begun in place i
abbrev pub begun : Parts → ℕ → Session → Parts
begun d i x = record { sessions = set d.sessions i (Some x); next = d.next + 1; hand = d.hand; round = d.round; copied = d.copied }

-- place i is the first under the number s
abbrev pub At : Parts → ℕ → ℕ → Type 0
At d s i = position (λ x. is_key (session_key x) s) d.sessions ≡ Some i

-- the session of number s is x
abbrev pub Has : Parts → ℕ → Session → Type 0
Has d s x = held session_number d.sessions s ≡ Some x

-- that session stands in its place
pub stands : (d : Parts) (s i : ℕ) (x : Session) → At d s i → Has d s x → get_or d.sessions i None ≡ Some x
stands d s i x p h = sym (held_at session_number d.sessions s i None p) ∙ h

-- place i is the first free one
abbrev pub Free : Parts → ℕ → Type 0
Free d i = position is_none d.sessions ≡ Some i

-- other sessions
abbrev pub with_sessions : Parts → List (Option Session) → Parts
with_sessions d l = record { sessions = l; next = d.next; hand = d.hand; round = d.round; copied = d.copied }

-- the sessions with another one in place i, as an equation gives them
pub step_with : (K : Kind) (d : Parts) (c : Call) (a : Answer) (live image : Table) (i : ℕ) (x : Option Session) {l : List (Option Session)} → l ≡ set d.sessions i x
    → Step K (seen d live image) c a (seen (with_place d i x) live image) → Step K (seen d live image) c a (seen (with_sessions d l) live image)
step_with K d c a live image i x e h = subst (λ l. Step K (seen d live image) c a (seen (with_sessions d l) live image)) (sym e) h

pub kept_with : {n : ℕ} (d : Parts) (i : ℕ) (x : Option Session) {l : List (Option Session)} → l ≡ set d.sessions i x → Kept n (with_place d i x)
    → Kept n (with_sessions d l)
kept_with {n} d i x e h = subst (λ l. Kept n (with_sessions d l)) (sym e) h
