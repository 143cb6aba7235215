-- Commit.
use Rattle.std.proofs.Common.{◌≡◌, ℕ, suc, ◌+◌, ◌<◌, ◌≤◌, min, true, false, cond, eqb, List, [], ◌∷◌, length, set, is_some, Some, None, Option, unwrap_or, option_map, get_or, sym, refl, ap, ◌∙◌, inl, inr, arith}
use Rattle.std.proofs.lemmas.List.{length-set, get_or-set_same, get_or-set_other, get_or_default, same_lists}
use Rattle.tables.specs.Tables.{Entry, of, blank, Table, entry}
use Rattle.tables.specs.Texts.{bytes_of}
use Rattle.tables.specs.declared.text.Text.{Text}
use Rattle.std.specs.Option.{option_flatten, option_map_or}
use Rattle.modes.specs.Kind.{Kind}
use Rattle.rules.proofs.Entries.{length_each, entry_each}
use Rattle.rules.proofs.Tests.{bool_cases, not_both, and_true, eqb_self, some_none, same_value}
use Rattle.rules.specs.Numbers.{any_below}
use Rattle.rules.specs.Office.{session, commit, done}
use Rattle.rules.specs.Rules.{committed_entry, each, after_commit, Step}
use Rattle.keyed.proofs.Counting.{counted, count_set}
use Rattle.keyed.proofs.Finding.{is_key_true, position_key, absent_missing}
use Rattle.keyed.proofs.Held.{ap_cond, held_cleared, any_below_held}
use Rattle.keyed.specs.Keyed.{is_key, find, held, any_held, count_taken, absent, distinct}
use Rattle.sessions.specs.Commits.{put_hold, put_holds, put_written}
use Rattle.sessions.specs.Sessions.{hold_entry, hold_key, session_number, session_key, is_written}
use Rattle.sessions.specs.View.{text_of, session_of}
use Rattle.sessions.specs.declared.hold.Hold.{Hold}
use Rattle.sessions.specs.declared.session.Session.{Session}
use Rattle.sessions.specs.declared.table.SessionTable.{SessionTable}
use Rattle.sessions.proofs.Ext.{office_ext}
use Rattle.sessions.proofs.Leaves.{ended_kept}
use Rattle.sessions.proofs.Parts.{Parts, parts, seen, Kept, kept, kept_for, At, Has}
use Rattle.sessions.proofs.Places.{session_at, is_at}
use Rattle.sessions.proofs.Sound.{sound_of}
use Rattle.sessions.proofs.Steps.{performing, pass, over}
use Rattle.sessions.proofs.Begins.{some_mapped}

-- ── the texts of the holds, put one by one ──

-- the table after the put of a place for a hold
abbrev put_place : ℕ → Option Hold → Table → Table
put_place k x t = option_map_or (λ h. put_hold k h t) x t

-- a put keeps the count
pub length_put_hold : (k : ℕ) (h : Hold) (t : Table) → length (put_hold k h t) ≡ length t
length_put_hold k h t = go h.written
  where
    go : (w : Option Text) → length (option_map_or (λ text. set t h.entry (of (bytes_of text) (min (suc (entry t h.entry).edition) k) k)) w t) ≡ length t
    go None = refl
    go (Some text) = length-set t h.entry _

length_put_place : (k : ℕ) (x : Option Hold) (t : Table) → length (put_place k x t) ≡ length t
length_put_place k None t = refl
length_put_place k (Some h) t = length_put_hold k h t

pub length_put_holds : (k : ℕ) (l : List (Option Hold)) (t : Table) → length (put_holds k l t) ≡ length t
length_put_holds k [] t = refl
length_put_holds k (x ∷ xs) t = length_put_holds k xs (put_place k x t) ∙ length_put_place k x t

-- a hold of entry e
put_own : (k : ℕ) (x : Option Hold) (t : Table) (e : ℕ) → hold_key x ≡ Some e → e < length t → entry (put_place k x t) e ≡ committed_entry k (text_of x) (entry t e)
put_own k None t e ky l = some_none ky refl
put_own k (Some h) t e ky l = go h.written
  where
    go : (w : Option Text) → entry (option_map_or (λ text. set t h.entry (of (bytes_of text) (min (suc (entry t h.entry).edition) k) k)) w t) e
        ≡ committed_entry k (option_map bytes_of w) (entry t e)
    go None = refl
    go (Some text) =
        ap (λ j. entry (set t j (of (bytes_of text) (min (suc (entry t j).edition) k) k)) e) (same_value {x = Some h.entry} refl ky)
        ∙ get_or-set_same t e (of (bytes_of text) (min (suc (entry t e).edition) k) k) blank l

-- a hold of another entry, or of none
put_other : (k : ℕ) (x : Option Hold) (t : Table) (e : ℕ) → is_key (hold_key x) e ≡ false → entry (put_place k x t) e ≡ entry t e
put_other k None t e n = refl
put_other k (Some h) t e n = go h.written
  where
    go : (w : Option Text) → entry (option_map_or (λ text. set t h.entry (of (bytes_of text) (min (suc (entry t h.entry).edition) k) k)) w t) e ≡ entry t e
    go None = refl
    go (Some text) = get_or-set_other t h.entry e _ blank (λ r. not_both (ap (λ j. eqb j h.entry) r ∙ eqb_self h.entry) n)

entry_put_holds : (k : ℕ) (l : List (Option Hold)) (t : Table) (e : ℕ) → distinct hold_key l ≡ true → e < length t
    → entry (put_holds k l t) e ≡ committed_entry k (text_of (held hold_entry l e)) (entry t e)
entry_put_holds k [] t e a h = refl
entry_put_holds k (x ∷ xs) t e a h =
    let aa = and_true (absent hold_key (hold_key x) xs) (distinct hold_key xs) a in
    let len = length_put_place k x t in
    let ih = entry_put_holds k xs (put_place k x t) e aa.1 (omega (arith, len, h)) in
    elim (bool_cases (is_key (hold_key x) e)) [
      | inl q ↦
          let ky : hold_key x ≡ Some e = is_key_true (hold_key x) e q in
          ih ∙ ap (λ o. committed_entry k (text_of (option_flatten o)) (entry (put_place k x t) e)) (absent_missing hold_key xs ky aa.0) ∙ put_own k x t e ky h
          ∙ sym (ap (λ b. committed_entry k (text_of (option_flatten (cond b (Some x) (find hold_key xs e)))) (entry t e)) q)
      | inr q ↦
          ih ∙ ap (committed_entry k (text_of (held hold_entry xs e))) (put_other k x t e q)
          ∙ sym (ap (λ b. committed_entry k (text_of (option_flatten (cond b (Some x) (find hold_key xs e)))) (entry t e)) q)
    ]

-- put one by one, the texts of distinct entries are put at once
put_each : (k : ℕ) (l : List (Option Hold)) (t : Table) → distinct hold_key l ≡ true → put_holds k l t ≡ each (λ e x. committed_entry k (text_of (held hold_entry l e)) x) t
put_each k l t a =
    let f : ℕ → Entry → Entry = λ e x. committed_entry k (text_of (held hold_entry l e)) x in
    let len = length_put_holds k l t in
    let len' = length_each f t in
    same_lists (put_holds k l t) (each f t) (len ∙ sym len')
    (λ e d h.
    get_or_default (put_holds k l t) e d blank h ∙ entry_put_holds k l t e a (omega (arith, len, h)) ∙ sym (entry_each f t e (omega (arith, len, h)))
    ∙ get_or_default (each f t) e blank d (omega (arith, len, len', h)))

-- ── the parts after a commit ──

-- place i is free, and another next hand
abbrev pub committed : Parts → ℕ → ℕ → Parts
committed d hand i = record { sessions = set d.sessions i None; next = d.next; hand = hand; round = d.round; copied = d.copied }

-- the next hand after a commit of session x
abbrev pub hand_then : Parts → Session → ℕ
hand_then d x = cond (any_held is_written x.holds) (suc d.hand) d.hand

-- the office after a commit
seen_committed : (d : Parts) (live image : Table) (s i : ℕ) (x : Session) → Kept (length live) d → At d s i → Has d s x
    → seen (committed d (hand_then d x) i) (put_holds d.hand x.holds live) image ≡ after_commit (seen d live image) s
seen_committed d live image s i x kept p h =
    let o = seen d live image in
    let g = sound_of d s x kept h in
    let z = session_at d live image s x h in
    let f = held_cleared session_number d.sessions s i p kept.numbers in
    let w : any_below (length live) (λ e. is_some ((session o s).text e)) ≡ any_held is_written x.holds =
    ap (λ z. any_below (length live) (λ e. is_some (z.text e))) z
    ∙ any_below_held hold_entry (λ e q. is_some (text_of q)) is_written (length live) x.holds (λ e. refl) (λ h. some_mapped bytes_of h.written) g.entries g.below in
    office_ext (seen (committed d (hand_then d x) i) (put_holds d.hand x.holds live) image) (after_commit o s)
    (put_each d.hand x.holds live g.entries ∙ sym (ap (λ z. each (λ e y. committed_entry d.hand (z.text e) y) live) z)) refl
    (λ t. ap (option_map session_of) (f t) ∙ ap_cond (option_map session_of) (eqb t s) None (held session_number d.sessions t)) refl
    (ap (λ b. cond b (suc d.hand) d.hand) (sym w)) refl (λ e. refl)

-- the texts are put, and the session ends
pub commit_done : (K : Kind) (t : SessionTable) (live image : Table) (s i : ℕ) (x : Session) → length live ≡ t.entries → At (parts t) s i → Has (parts t) s x
    → {hand : ℕ} → hand ≡ hand_then (parts t) x
    → Step K (seen (parts t) live image) (commit s) done (seen (committed (parts t) hand i) (put_written t s live) image)
commit_done K t live image s i x n p h {hand} q =
    let d = parts t in
    performing K (seen d live image) (commit s) done (seen (committed d hand i) (put_written t s live) image) (pass (is_at d live image s x h) over)
    (ap (λ k. (done, seen (committed d k i) (put_written t s live) image)) q
    ∙ ap (λ o. (done, seen (committed d (hand_then d x) i) (put_holds d.hand (unwrap_or (option_map (λ x. x.holds) o) []) live) image)) h
    ∙ ap (λ o. (done, o)) (seen_committed d live image s i x (kept_for t live n) p h))

-- ── the hands ──

-- one session less is live
one_less : (d : Parts) (s i : ℕ) → i < length d.sessions → At d s i
    → count_taken session_key (λ _. true) (set d.sessions i None) + 1 ≡ count_taken session_key (λ _. true) d.sessions
one_less d s i h p =
    let t = count_set session_key (λ _. true) d.sessions i None None h in
    let b : counted (λ _. true) (session_key (get_or d.sessions i None)) ≡ 1 = ap (counted (λ _. true)) (position_key session_key d.sessions s i None p) in
    omega (arith, t, b)

-- while a session is live, a hand is left
pub hand_left : {n : ℕ} (d : Parts) (s i : ℕ) → i < length d.sessions → Kept n d → At d s i → d.hand ≤ 4_000_000_000
hand_left d s i il kept p =
    let t = one_less d s i il p in
    omega (arith, t, kept.hands, kept.last)

-- a commit keeps what the table keeps, with the hand spent or not
pub commit_kept : {n : ℕ} (d : Parts) (s i : ℕ) → i < length d.sessions → Kept n d → At d s i → {hand : ℕ} → hand ≤ d.hand + 1 → Kept n (committed d hand i)
commit_kept {n} d s i il kept p {hand} h =
    let e = ended_kept d s i il kept p in
    let t = one_less d s i il p in
    record {
      places = e.places;
      marks = e.marks;
      few = e.few;
      numbers = e.numbers;
      given = e.given;
      sound = e.sound;
      last = e.last;
      hands = omega (arith, t, h, kept.hands);
    }
