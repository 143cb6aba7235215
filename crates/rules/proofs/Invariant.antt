-- What holds of the office and of what was told, after every run.
use Rattle.std.proofs.Common.{◌≡◌, ℕ, ◌+◌, ◌<◌, ◌≤◌, Bool, true, false, ◌≢◌, List, length, is_some, Some, None, Option}
use Rattle.tables.specs.Tables.{Entry, entry}
use Rattle.modes.specs.Kind.{Kind}
use Rattle.rules.specs.Numbers.{any_below}
use Rattle.rules.specs.Office.{Text, Side, neither, before, after, Session, Office, entries, mode_at}
use Rattle.rules.specs.History.{SessionEvent, Log, events}
use Rattle.rules.specs.Holding.{holds, holds_any, numbers}
use Rattle.rules.specs.Copying.{copied}
use Rattle.rules.specs.Sides.{side, Before, After}
use Rattle.rules.specs.Writing.{last_write, wrote, commits_that_wrote, committed, opening, round_open}
use Rattle.rules.specs.Laying.{ReadsRight}
use Rattle.rules.proofs.Commits.{Commits}
use Rattle.rules.proofs.Texts.{has_read}
use Rattle.rules.proofs.LaidEntries.{Choice, laid_at, NoneWrote}

-- ── the commits of a round ──

-- the Before sessions that wrote entry e committed before the After ones
abbrev pub InOrder : ℕ → Log → Type 0
InOrder e l = Commits (λ p s. Before p s ≡ true → (w : Text) → last_write (events p s) e ≡ Some w → NoneWrote After e p) l

-- a session that committed without a side wrote nothing
abbrev pub WritersSided : Log → Type 0
WritersSided l = Commits (λ p s. side p s ≡ neither → (e : ℕ) → last_write (events p s) e ≡ None) l

-- each chosen session read right on the entries f under the chosen ones that committed before it, and read only entries of P
abbrev pub Carried : ℕ → Choice → (ℕ → Entry) → (ℕ → Type 0) → Log → Type 0
Carried first C f P l =
    Commits (λ p s. C p s ≡ true → ReadsRight (λ e. laid_at first C p e (f e)) (events p s) × ((e : ℕ) → has_read (events p s) e ≡ true → P e)) l

-- what the log L tells of a session that committed is what was told at its commit
abbrev pub Agree : Log → Log → Type 0
Agree L l = Commits (λ p s. (side L s ≡ side p s) × (wrote (events L s) ≡ wrote (events p s))) l

-- ── a session ──

-- a live session x with the events vs, over n entries f
abbrev pub Known : Kind → ℕ → (ℕ → Entry) → List SessionEvent → Session → Type 0
Known K n f vs x =
    record {
      holds_is : (e : ℕ) → holds vs e ≡ is_some (x.mode e);
      holds_any_is : holds_any vs ≡ any_below n (λ e. is_some (x.mode e));
      inside : (e m : ℕ) → x.mode e ≡ Some m → (e < n) × (m < K.modes);
      text_is : (e : ℕ) → x.text e ≡ last_write vs e;
      wrote_is : wrote vs ≡ any_below n (λ e. is_some (x.text e));
      writer : (e : ℕ) (t : Text) → x.text e ≡ Some t → (m : ℕ) × (x.mode e ≡ Some m) × (K.writes m ≡ true);
      reader : (e : ℕ) → has_read vs e ≡ true → (m : ℕ) × (x.mode e ≡ Some m) × (K.reads m ≡ true);
      reads_right : ReadsRight f vs;
    }

-- a number s, of a live session or not
abbrev pub Status : Kind → ℕ → (ℕ → Entry) → ℕ → ℕ → List SessionEvent → Option Session → Type 0
Status K n f next s vs None = (e : ℕ) → holds vs e ≡ false
Status K n f next s vs (Some x) = (s < next) × Known K n f vs x

-- what a side allows to hold: Before uncopied entries, After copied ones
abbrev pub Allowed : Side → Bool → Type 0
Allowed neither b = ⊥
Allowed before b = b ≡ false
Allowed after b = b ≡ true

-- the session has the side σ, and holds what σ allows under the marks c
abbrev pub Sided : (ℕ → Bool) → Side → Option Session → Type 0
Sided c σ None = Unit {0}
Sided c σ (Some x) = (x.side ≡ σ) × ((e m : ℕ) → x.mode e ≡ Some m → Allowed σ (c e))

-- ── a round ──

-- the tables in a round: n entries, f live, g in the image, c the marks
abbrev pub Tables : ℕ → ℕ → (ℕ → Entry) → (ℕ → Entry) → (ℕ → Bool) → Log → Type 0
Tables first n f g c l =
    record {
      opening_count : length (opening l) ≡ n;
      live_is : (e : ℕ) → e < n → f e ≡ laid_at first After l e (laid_at first Before l e (entry (opening l) e));
      image_is : (e : ℕ) → e < n → c e ≡ true → g e ≡ laid_at first Before l e (entry (opening l) e);
      uncopied_free : (e : ℕ) → c e ≡ false → NoneWrote After e l;
      in_order : (e : ℕ) → InOrder e l;
      writers_sided : WritersSided l;
      befores : Carried first Before (entry (opening l)) (λ e. e < n) l;
      afters : Carried first After (λ e. laid_at first Before l e (entry (opening l) e)) (λ e. (e < n) × (c e ≡ true)) l;
      hands_then : Commits (λ p s. (C : Choice) (e : ℕ) → e < n → (laid_at first C p e (entry (opening l) e)).hand < first + commits_that_wrote p) l;
      writes_then : Commits (λ p s. wrote (events p s) ≡ true → (e : ℕ) × (e < n) × ((t : Text) × (last_write (events p s) e ≡ Some t))) l;
      hands : (C : Choice) (e : ℕ) → e < n → (laid_at first C l e (entry (opening l) e)).hand < first + commits_that_wrote l;
    }

-- the office in a round
abbrev pub Round : ℕ → ℕ → Office → Log → Type 0
Round first n o l =
    record {
      told_open : round_open l ≡ true;
      marks_are : o.copied ≡ copied l;
      image_count : length o.image ≡ n;
      sides : (s : ℕ) → Sided o.copied (side l s) (o.sessions s);
      tables : Tables first n (entry o.live) (entry o.image) o.copied l;
    }

-- ── the office ──

-- no two sessions hold an entry in modes that conflict
abbrev pub Apart : Kind → Office → Type 0
Apart K o = (s k e a b : ℕ) → s ≢ k → mode_at o s e ≡ Some a → mode_at o k e ≡ Some b → K.conflict a b ≡ false

-- the office o and the log l, with the first hand and n entries
pub record Inv (K : Kind) (first n : ℕ) (o : Office) (l : Log) : Type 0 where
  pub count : entries o ≡ n
  pub status : (s : ℕ) → Status K n (entry o.live) o.next_session s (events l s) (o.sessions s)
  pub numbered : numbers l ≤ o.next_session
  pub apart : Apart K o
  pub hand_is : o.next_hand ≡ first + commits_that_wrote l
  pub stamps : (e : ℕ) → e < n → ((entry o.live e).edition ≤ (entry o.live e).hand) × ((entry o.live e).hand < o.next_hand)
  pub gone : (s : ℕ) → committed l s ≡ true → (o.sessions s ≡ None) × (s < o.next_session)
  pub agree : Agree l l
  pub in_round : o.round ≡ true → Round first n o l
