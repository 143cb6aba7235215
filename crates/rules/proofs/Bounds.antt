-- Session numbers, hands, texts and stamps stay within their bounds, whatever an accepted call leaves.
use Rattle.std.proofs.Common.{◌≡◌, ℕ, zero, suc, ◌+◌, ◌<◌, ◌≤◌, Bool, true, false, cond, ltb, length, set, is_some, Some, None, Option, unwrap_or, sym, refl, ap, ◌∙◌, subst, inl, inr, arith, ltb→lt, length-set, get_or-set_other, get_or-set_same}
use Rattle.std.specs.Option.{option_map}
use Rattle.tables.specs.Tables.{Entry, blank, Table, entry, LawfulEntry, Lawful}
use Rattle.rules.specs.Numbers.{changed, one_if, count_below}
use Rattle.rules.specs.Office.{Text, Session, new_session, Office, entries, session, is_held, live_count}
use Rattle.rules.specs.Rules.{
  next_of,
  with_session,
  after_begin,
  after_leave,
  committed_entry,
  has_text,
  after_commit,
  opened_session,
  after_open,
  sideless,
  after_round,
  after_copy,
  after_work,
}
use Rattle.rules.proofs.Tests.{to_T, bool_cases, same_cases, changed_same, changed_other, at_changed, some_none, same_value}
use Rattle.rules.proofs.Below.{count_same, count_less}
use Rattle.rules.proofs.Entries.{length_each, entry_each}
use Rattle.rules.proofs.Copies.{turn, next_is}
use Rattle.rules.proofs.Declined.{at_most_if}

-- a session's texts have at most 96 bytes
abbrev pub Short : Option Session → Type 0
Short y = (e : ℕ) (t : Text) → (unwrap_or y new_session).text e ≡ Some t → length t ≤ 96

-- the next hand leaves room for a commit of each live session; the texts written are short; the live table is lawful, and
-- under P the image
pub record Bounded (P : Type 0) (o : Office) : Type 0 where
  pub room : o.next_hand + live_count o ≤ o.next_session
  pub few : o.next_session ≤ 4_000_000_001
  pub fresh : (s : ℕ) → o.next_session ≤ s → o.sessions s ≡ None
  pub short : (s : ℕ) → Short (o.sessions s)
  pub lawful : Lawful o.live
  pub lawful_image : P → Lawful o.image

pub short_none : Short None
short_none e t q = some_none q refl

pub short_write : (x : Session) (e : ℕ) (t : Text) → length t ≤ 96 → Short (Some x) → Short (Some (record { side = x.side; mode = x.mode; text = changed x.text e (Some t) }))
short_write x e t h f j =
    at_changed (λ j y. (u : Text) → y ≡ Some u → length u ≤ 96) x.text e (Some t)
    (λ u q. subst (λ z. length z ≤ 96) (same_value {x = Some t} refl q) h) (λ j ne. f j) j

short_opened : (n : ℕ) (y : Option Session) → Short y → Short (option_map (opened_session n) y)
short_opened n None h = h
short_opened n (Some x) h = h

short_sideless : (y : Option Session) → Short y → Short (option_map sideless y)
short_sideless None h = h
short_sideless (Some x) h = h

some_opened : (n : ℕ) (y : Option Session) → is_some (option_map (opened_session n) y) ≡ is_some y
some_opened n None = refl
some_opened n (Some x) = refl

some_sideless : (y : Option Session) → is_some (option_map sideless y) ≡ is_some y
some_sideless None = refl
some_sideless (Some x) = refl

-- an entry after a commit
lawful_entry : (h : ℕ) (w : Option Text) (x : Entry) → h ≤ 4_000_000_000 → ((t : Text) → w ≡ Some t → length t ≤ 96) → LawfulEntry x → LawfulEntry (committed_entry h w x)
lawful_entry h None x a s b = b
lawful_entry h (Some t) x a s b = (s t refl, (omega arith, a))

-- a table with one entry replaced
lawful_set : (t : Table) (e : ℕ) (x : Entry) → Lawful t → LawfulEntry x → Lawful (set t e x)
lawful_set t e x h b =
    let n = length-set t e x in
    let few = h.0 in (
      omega arith,
      λ j lt. elim (same_cases j e) [
        | inl q ↦ subst LawfulEntry (sym (ap (λ z. entry (set t e x) z) q.1 ∙ get_or-set_same t e x blank (let q1 = q.1 in omega arith))) b
        | inr q ↦ subst LawfulEntry (sym (get_or-set_other t e j x blank q.1)) (h.1 j (omega arith))
      ],
    )

hand_less : (b : Bool) (h : ℕ) → cond b (suc h) h ≤ suc h
hand_less true h = omega arith
hand_less false h = omega arith

module _ (P : Type 0) (o : Office) (f : Bounded P o) where
  -- ── a session ──

  below : (k : ℕ) (x : Session) → o.sessions k ≡ Some x → k < o.next_session
  below k x q =
      elim (bool_cases (ltb k o.next_session)) [
        | inl p ↦ ltb→lt k o.next_session (to_T p)
        | inr p ↦ some_none q (f.fresh k (at_most_if o.next_session k p))
      ]

  pub bounded_begin : o.next_session ≤ 4_000_000_000 → Bounded P (after_begin o)
  bounded_begin h =
      let c = count_same o.next_session (λ s. is_some (changed o.sessions o.next_session (Some new_session) s)) (λ s. is_some (o.sessions s))
      (λ j lt. ap is_some (changed_other o.sessions o.next_session (Some new_session) j (omega arith))) in
      let d : one_if (is_some (changed o.sessions o.next_session (Some new_session) o.next_session)) ≡ 1 =
      ap (λ y. one_if (is_some y)) (changed_same o.sessions o.next_session (Some new_session)) in
      let r = f.room in
      record {
        room = omega arith;
        few = omega arith;
        fresh = λ s lt. changed_other o.sessions o.next_session (Some new_session) s (omega arith) ∙ f.fresh s (omega arith);
        short = at_changed (λ s y. Short y) o.sessions o.next_session (Some new_session) short_none (λ s ne. f.short s);
        lawful = f.lawful;
        lawful_image = f.lawful_image;
      }

  -- a session changed
  pub bounded_changed : (k : ℕ) (x y : Session) → o.sessions k ≡ Some x → Short (Some y) → Bounded P (with_session o k (Some y))
  bounded_changed k x y q sh =
      let c = count_same o.next_session (λ s. is_some (changed o.sessions k (Some y) s)) (λ s. is_some (o.sessions s))
      (λ j lt. at_changed (λ j z. is_some z ≡ is_some (o.sessions j)) o.sessions k (Some y) (sym (ap is_some q)) (λ j ne. refl) j) in
      let r = f.room in
      let b = below k x q in
      record {
        room = omega arith;
        few = f.few;
        fresh = λ s lt. changed_other o.sessions k (Some y) s (omega arith) ∙ f.fresh s lt;
        short = at_changed (λ s z. Short z) o.sessions k (Some y) sh (λ s ne. f.short s);
        lawful = f.lawful;
        lawful_image = f.lawful_image;
      }

  -- a session ended: one fewer is live
  one_less : (k : ℕ) (x : Session) → o.sessions k ≡ Some x → suc (count_below o.next_session (λ s. is_some (changed o.sessions k None s))) ≡ live_count o
  one_less k x q =
      count_less o.next_session (λ s. is_some (o.sessions s)) (λ s. is_some (changed o.sessions k None s)) k (below k x q) (ap is_some q)
      (ap is_some (changed_same o.sessions k None)) (λ j ne. ap is_some (changed_other o.sessions k None j ne))

  fresh_ended : (k : ℕ) (x : Session) → o.sessions k ≡ Some x → (s : ℕ) → o.next_session ≤ s → changed o.sessions k None s ≡ None
  fresh_ended k x q s lt = let b = below k x q in changed_other o.sessions k None s (omega arith) ∙ f.fresh s lt

  short_ended : (k s : ℕ) → Short (changed o.sessions k None s)
  short_ended k = at_changed (λ s y. Short y) o.sessions k None short_none (λ s ne. f.short s)

  pub bounded_leave : (k : ℕ) (x : Session) → o.sessions k ≡ Some x → Bounded P (after_leave o k)
  bounded_leave k x q =
      let c = one_less k x q in
      let r = f.room in
      record {
        room = omega arith;
        few = f.few;
        fresh = fresh_ended k x q;
        short = short_ended k;
        lawful = f.lawful;
        lawful_image = f.lawful_image;
      }

  -- the hand that a commit takes is in bounds
  pub hand_fits : (k : ℕ) (x : Session) → o.sessions k ≡ Some x → o.next_hand ≤ 4_000_000_000
  hand_fits k x q =
      let c = one_less k x q in
      let r = f.room in
      let w = f.few in
      omega arith

  lawful_commit : (k : ℕ) (x : Session) → o.sessions k ≡ Some x → Lawful (after_commit o k).live
  lawful_commit k x q =
      let n : length (after_commit o k).live ≡ length o.live = length_each (λ e y. committed_entry o.next_hand ((session o k).text e) y) o.live in
      let few = f.lawful.0 in (
        omega arith,
        λ e lt.
            let le : e < length o.live = omega arith in
            subst LawfulEntry (sym (entry_each (λ e y. committed_entry o.next_hand ((session o k).text e) y) o.live e le))
            (lawful_entry o.next_hand ((session o k).text e) (entry o.live e) (hand_fits k x q) (f.short k e) (f.lawful.1 e le)),
      )

  pub bounded_commit : (k : ℕ) (x : Session) → o.sessions k ≡ Some x → Bounded P (after_commit o k)
  bounded_commit k x q =
      let c = one_less k x q in
      let r = f.room in
      let h = hand_less (has_text o k) o.next_hand in
      record {
        room = omega arith;
        few = f.few;
        fresh = fresh_ended k x q;
        short = short_ended k;
        lawful = lawful_commit k x q;
        lawful_image = f.lawful_image;
      }

  -- ── a round ──

  pub bounded_open : Bounded P (after_open o)
  bounded_open =
      let c = count_same o.next_session (λ s. is_some (option_map (opened_session (entries o)) (o.sessions s))) (λ s. is_some (o.sessions s)) (λ j lt. some_opened (entries o) (o.sessions j)) in
      let r = f.room in
      record {
        room = omega arith;
        few = f.few;
        fresh = λ s lt. ap (option_map (opened_session (entries o))) (f.fresh s lt);
        short = λ s. short_opened (entries o) (o.sessions s) (f.short s);
        lawful = f.lawful;
        lawful_image = f.lawful_image;
      }

  pub bounded_end : Bounded P (after_round o)
  bounded_end =
      let c = count_same o.next_session (λ s. is_some (option_map sideless (o.sessions s))) (λ s. is_some (o.sessions s)) (λ j lt. some_sideless (o.sessions j)) in
      let r = f.room in
      record {
        room = omega arith;
        few = f.few;
        fresh = λ s lt. ap (option_map sideless) (f.fresh s lt);
        short = λ s. short_sideless (o.sessions s) (f.short s);
        lawful = f.lawful;
        lawful_image = f.lawful_image;
      }

  pub bounded_copy : (e : ℕ) → e < entries o → Bounded P (after_copy o e)
  bounded_copy e lt =
      record {
        room = f.room;
        few = f.few;
        fresh = f.fresh;
        short = f.short;
        lawful = f.lawful;
        lawful_image = λ p. lawful_set o.image e (entry o.live e) (f.lawful_image p) (f.lawful.1 e lt);
      }

pub bounded_work : (P : Type 0) (k : ℕ) (o : Office) → Bounded P o → Bounded P (after_work k o).1
bounded_work P zero o f = f
bounded_work P (suc k) o f = go (next_of o) refl (bounded_work P k)
  where
    go : (y : Option ℕ) → next_of o ≡ y → ((p : Office) → Bounded P p → Bounded P (after_work k p).1) → Bounded P (turn k o y).1
    go None q ih = f
    go (Some e) q ih = ih (after_copy o e) (bounded_copy P o f e (next_is (entries o) (is_held o) o.copied e q).0)
