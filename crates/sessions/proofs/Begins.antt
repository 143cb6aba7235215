-- Begin, and a new session table.
use Rattle.std.proofs.Common.{◌≡◌, ℕ, zero, suc, ◌<◌, ◌≤◌, true, false, leb, length, get_or, set, replicate, is_some, None, sym, refl, ap, ◌∙◌, subst, true≢false, add-one, arith, is_none, Option, position, Some, option_map, List}
use Rattle.std.proofs.lemmas.List.{length-set}
use Rattle.std.proofs.lemmas.Bool.{le-leb, lt-leb, lt-ltb, le-ltb, false≢true}
use Rattle.tables.specs.Tables.{Table}
use Rattle.tables.specs.declared.refusal.Refusal.TheVariants.{SessionsFull, NumbersSpent}
use Rattle.modes.specs.Kind.{Kind}
use Rattle.rules.proofs.Below.{count_same}
use Rattle.rules.specs.Office.{live_count, begin, refused, number}
use Rattle.rules.specs.Rules.{Step}
use Rattle.keyed.proofs.Counting.{counted, count_find, count_room, count_full, count_set}
use Rattle.keyed.proofs.Distinct.{distinct_added}
use Rattle.keyed.proofs.Every.{every_set}
use Rattle.keyed.proofs.Held.{held_some, free_places}
use Rattle.keyed.proofs.Under.{all_under_more, find_past}
use Rattle.keyed.specs.Keyed.{under, find, held, count_taken, all_under}
use Rattle.sessions.specs.Sessions.{session_number, session_key, sound_place, begun_session}
use Rattle.sessions.specs.View.{session_of, empty_office}
use Rattle.sessions.specs.declared.session.Session.{Session}
use Rattle.sessions.proofs.Ext.{office_ext}
use Rattle.sessions.proofs.Parts.{Parts, seen, Kept, kept, begun, Free}
use Rattle.sessions.proofs.Places.{seen_begun}
use Rattle.sessions.proofs.Steps.{refusing, performing, hit, pass, over}

-- a value is there where it is mapped
pub some_mapped : {A B : Type 0} (f : A → B) (o : Option A) → is_some (option_map f o) ≡ is_some o
some_mapped f None = refl
some_mapped f (Some x) = refl

-- the live sessions are the places taken
pub live_taken : {n : ℕ} (d : Parts) (live image : Table) → Kept n d → live_count (seen d live image) ≡ count_taken session_key (λ _. true) d.sessions
live_taken d live image kept =
    count_same d.next (λ s. is_some ((seen d live image).sessions s)) (λ s. is_some (find session_key d.sessions s))
    (λ k l. some_mapped session_of (held session_number d.sessions k) ∙ held_some session_number d.sessions k)
    ∙ count_find session_key (λ _. true) d.next d.sessions kept.numbers kept.given

-- a free place does not count
free_uncounted : (x : Option Session) → is_none x ≡ true → counted (λ _. true) (session_key x) ≡ 0
free_uncounted None e = refl
free_uncounted (Some x) e = absurd (false≢true e)

-- no place is free
pub begin_full : {n : ℕ} (K : Kind) (d : Parts) (live image : Table) → Kept n d → position is_none d.sessions ≡ None
    → Step K (seen d live image) begin (refused SessionsFull) (seen d live image)
begin_full K d live image kept p =
    let t : count_taken session_key (λ _. true) d.sessions ≡ length d.sessions =
    count_full session_key (λ _. true) d.sessions (free_places session_number d.sessions ∙ p) (λ k e. absurd (true≢false e)) in
    let l = live_taken d live image kept in
    let f = kept.places in
    refusing K (seen d live image) begin SessionsFull (hit (le-leb 16 (live_count (seen d live image)) (omega (arith, t, l, f))))

-- a place is free: fewer than sixteen sessions are live
room : {n : ℕ} (d : Parts) (live image : Table) (i : ℕ) → Kept n d → Free d i → leb 16 (live_count (seen d live image)) ≡ false
room d live image i kept p =
    let t : count_taken session_key (λ _. true) d.sessions < length d.sessions =
    count_room session_key (λ _. true) is_none d.sessions i free_uncounted p in
    let l = live_taken d live image kept in
    let f = kept.places in
    lt-leb 16 (live_count (seen d live image)) (omega (arith, t, l, f))

-- the numbers are spent
pub begin_spent : {n : ℕ} (K : Kind) (d : Parts) (live image : Table) (i : ℕ) → Kept n d → Free d i → 4_000_000_000 < d.next
    → Step K (seen d live image) begin (refused NumbersSpent) (seen d live image)
begin_spent K d live image i kept p h =
    refusing K (seen d live image) begin NumbersSpent (pass (room d live image i kept p) (hit (lt-ltb 4_000_000_000 d.next h)))

-- the session begins
pub begin_done : {n : ℕ} (K : Kind) (d : Parts) (live image : Table) (i : ℕ) → Kept n d → Free d i → d.next ≤ 4_000_000_000
    → {y : Session} → y ≡ begun_session d.next → Step K (seen d live image) begin (number d.next) (seen (begun d i y) live image)
begin_done K d live image i kept p h q =
    performing K (seen d live image) begin (number d.next) (seen (begun d i _) live image)
    (pass (room d live image i kept p) (pass (le-ltb 4_000_000_000 d.next h) over))
    (ap (λ y. (number d.next, seen (begun d i y) live image)) q ∙ ap (λ o. (number d.next, o)) (seen_begun d live image i kept p))

-- a begin keeps what the table keeps
pub begin_kept : {n : ℕ} (d : Parts) (i : ℕ) → i < length d.sessions → d.next ≤ 4_000_000_000 → Kept n d → Free d i → {y : Session} → y ≡ begun_session d.next → Kept n (begun d i y)
begin_kept {n} d i il nl kept p q =
    let y = Some (begun_session d.next) in
    let r = kept.hands in
    let t = count_set session_key (λ _. true) d.sessions i y None il in
    let past : find session_key d.sessions d.next ≡ None = find_past session_key d.next d.sessions d.next kept.given (omega arith) in
    subst (λ x. Kept n (begun d i x)) (sym q)
    (record {
      places = length-set d.sessions i y ∙ kept.places;
      marks = kept.marks;
      few = kept.few;
      numbers = distinct_added session_key d.sessions d.next i y refl (free_places session_number d.sessions ∙ p) past kept.numbers;
      given =
          subst (λ m. all_under session_key m (set d.sessions i y) ≡ true) (sym (add-one d.next))
          (every_set (λ x. under (suc d.next) (session_key x)) d.sessions i y (lt-ltb d.next (suc d.next) (omega arith)) (all_under_more session_key d.next d.sessions kept.given));
      sound = every_set (sound_place n) d.sessions i y refl kept.sound;
      last = omega arith;
      hands = omega (arith, t, r);
    })

-- ── a new table ──

-- a mark that was never made
pub unmarked : (n e : ℕ) → get_or (replicate n false) e false ≡ false
unmarked zero e = refl
unmarked (suc n) zero = refl
unmarked (suc n) (suc e) = unmarked n e

-- the office of a new table
pub seen_new : {l : List (Option Session)} → l ≡ replicate 16 None → (first : ℕ) (live image : Table)
    → seen (record { sessions = l; next = first; hand = first; round = false; copied = replicate 128 false }) live image ≡ empty_office first live image
seen_new p first live image =
    ap (λ l. seen (record { sessions = l; next = first; hand = first; round = false; copied = replicate 128 false }) live image) p
    ∙ office_ext (seen (record { sessions = replicate 16 None; next = first; hand = first; round = false; copied = replicate 128 false }) live image)
    (empty_office first live image) refl refl (λ s. refl) refl refl refl (λ e. unmarked 128 e)
