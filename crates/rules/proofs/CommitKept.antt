-- The invariant survives a commit.
use Rattle.std.proofs.Common.{◌≡◌, ℕ, suc, ◌+◌, ◌<◌, ◌≤◌, true, cond, eqb, ◌≢◌, [], ◌∷◌, is_some, Some, None, Option, unwrap_or, sym, refl, ap, ◌∙◌, subst, ap₂, inl, inr, arith}
use Rattle.tables.specs.Tables.{Entry, Table, entry}
use Rattle.modes.specs.Kind.{Kind, Laws}
use Rattle.rules.specs.Numbers.{changed, any_below, one_if}
use Rattle.rules.specs.Office.{Text, Side, is_before, is_after, Session, Office, entries}
use Rattle.rules.specs.Rules.{committed_entry, each}
use Rattle.rules.specs.History.{commits, by, Log, events}
use Rattle.rules.specs.Holding.{holds}
use Rattle.rules.specs.Sides.{side, Before, After}
use Rattle.rules.specs.Writing.{last_write, wrote, commits_that_wrote, committed, opening}
use Rattle.rules.specs.Laying.{lay_entry, ReadsRight}
use Rattle.rules.proofs.Tests.{not_both, or_true, same_cases, changed_other, at_changed, is_there, some_none, none_else}
use Rattle.rules.proofs.Below.{any_yes, any_find}
use Rattle.rules.proofs.Entries.{length_each, entry_each}
use Rattle.rules.proofs.Commits.{Commits, commits_map}
use Rattle.rules.proofs.Texts.{has_read, reads_same}
use Rattle.rules.proofs.OtherSessions.{events_own, events_other}
use Rattle.rules.proofs.LaidEntries.{laid_at, laid_none}
use Rattle.rules.proofs.Invariant.{Known, Status, Allowed, Sided, Tables, Round, Inv}
use Rattle.rules.proofs.Holders.{session_mode, changed_holds, apart_fewer, live_status, live_sided}
use Rattle.rules.proofs.SessionEvents.{agree_by}
use Rattle.rules.proofs.OneCommit.{
  allowed_before,
  allowed_after,
  live_commit,
  image_commit,
  hand_commit,
  committed_is,
  stamp_commit,
  hands_commit,
}

-- the office after a commit of session k, which is x
abbrev after_commit_of : Office → ℕ → Session → Office
after_commit_of o k x =
    record {
      live = each (λ e y. committed_entry o.next_hand (x.text e) y) o.live;
      image = o.image;
      sessions = changed o.sessions k None;
      next_session = o.next_session;
      next_hand = cond (any_below (entries o) (λ e. is_some (x.text e))) (suc o.next_hand) o.next_hand;
      round = o.round;
      copied = o.copied;
    }

module _ (K : Kind) (L : Laws K) (first n : ℕ) (o : Office) (l : Log) (t : Table) (k : ℕ) (x : Session) (i : Inv K first n o l) (q : o.sessions k ≡ Some x) where
  -- the log, the live table and the next hand after the commit; the texts it lays, and its hand
  abbrev log' : Log
  log' = record { event = by k commits; live = t } ∷ l

  abbrev live' : Table
  live' = (after_commit_of o k x).live

  abbrev next' : ℕ
  next' = first + (one_if (wrote (events l k)) + commits_that_wrote l)

  abbrev W : ℕ → Option Text
  W = last_write (events l k)

  abbrev H : ℕ
  H = first + commits_that_wrote l

  known : Known K n (entry o.live) (events l k) x
  known = (live_status K first n o l i k x q).1

  -- ── what it wrote ──

  -- an entry written was held in a mode that writes
  wrote_hold : (e : ℕ) (z : Text) → W e ≡ Some z → (m : ℕ) × (x.mode e ≡ Some m) × (K.writes m ≡ true)
  wrote_hold e z p = known.writer e z (known.text_is e ∙ p)

  wrote_inside : (e : ℕ) (z : Text) → W e ≡ Some z → (e < n) × (wrote (events l k) ≡ true)
  wrote_inside e z p =
      let h = wrote_hold e z p in
      let lt = (known.inside e h.0 h.1).0 in
      (lt, known.wrote_is ∙ any_yes n (λ e. is_some (x.text e)) e lt (ap is_some (known.text_is e ∙ p)))

  wrote_where : wrote (events l k) ≡ true → (e : ℕ) × (e < n) × ((z : Text) × (W e ≡ Some z))
  wrote_where wr =
      let a = any_find n (λ e. is_some (x.text e)) (sym known.wrote_is ∙ wr) in
      (a.0, a.1, (unwrap_or (x.text a.0) [], sym (known.text_is a.0) ∙ is_there (x.text a.0) [] a.2))

  -- ── its hand ──

  hand' : cond (any_below (entries o) (λ e. is_some (x.text e))) (suc o.next_hand) o.next_hand ≡ next'
  hand' =
      ap (λ b. cond b (suc o.next_hand) o.next_hand) (ap (λ j. any_below j (λ e. is_some (x.text e))) i.count ∙ sym known.wrote_is)
      ∙ hand_commit (wrote (events l k)) o.next_hand first (commits_that_wrote l) i.hand_is

  hand_rises : (e : ℕ) (z : Text) → W e ≡ Some z → H < next'
  hand_rises e z p = let r = ap one_if (wrote_inside e z p).1 in omega arith

  -- ── the live table ──

  entry_new : (e : ℕ) → e < n → entry live' e ≡ lay_entry H (W e) (entry o.live e)
  entry_new e lt =
      let c = i.count in
      entry_each (λ e y. committed_entry o.next_hand (x.text e) y) o.live e (omega arith)
      ∙ committed_is o.next_hand (x.text e) (entry o.live e) (i.stamps e lt).0 (i.stamps e lt).1
      ∙ ap₂ (λ h y. lay_entry h y (entry o.live e)) i.hand_is (known.text_is e)

  stamps_new : (e : ℕ) → e < n → ((entry live' e).edition ≤ (entry live' e).hand) × ((entry live' e).hand < (after_commit_of o k x).next_hand)
  stamps_new e lt =
      let st = i.stamps e lt in
      let s1 = st.1 in
      let hi = i.hand_is in
      let r = stamp_commit (W e) (entry o.live e) H next' st.0 (omega arith) (omega arith) (hand_rises e) in
      subst (λ y. (y.edition ≤ y.hand) × (y.hand < (after_commit_of o k x).next_hand)) (sym (entry_new e lt))
      (r.0, omega (arith, hand', r.1))

  -- what another session read has kept its text
  read_kept : (s : ℕ) (y : Session) → s ≢ k → o.sessions s ≡ Some y → Known K n (entry o.live) (events l s) y → (e : ℕ) → has_read (events l s) e ≡ true
      → (entry o.live e).text ≡ (entry live' e).text
  read_kept s y ne qs kn e hr =
      let r = kn.reader e hr in
      let lt = (kn.inside e r.0 r.1).0 in
      let nw : W e ≡ None =
      none_else (W e) (λ z p.
      let h = wrote_hold e z p in
      not_both
      (L.writer_conflicts h.0 r.0 (known.inside e h.0 h.1).1 (kn.inside e r.0 r.1).1 h.2 r.2)
      (i.apart k s e h.0 r.0 (λ z. ne (sym z)) (session_mode o k e h.0 x q h.1) (session_mode o s e r.0 y qs r.1))) in
      ap (λ z. z.text) (sym (entry_new e lt ∙ ap (λ z. lay_entry H z (entry o.live e)) nw))

  -- ── the sessions ──

  status_new : (s : ℕ) → s ≢ k → (y : Option Session) → o.sessions s ≡ y → Status K n (entry o.live) o.next_session s (events l s) y
      → Status K n (entry live') o.next_session s (events l s) y
  status_new s ne None qs st = st
  status_new s ne (Some y) qs st = (
    st.0,
    record {
      holds_is = st.1.holds_is;
      holds_any_is = st.1.holds_any_is;
      inside = st.1.inside;
      text_is = st.1.text_is;
      wrote_is = st.1.wrote_is;
      writer = st.1.writer;
      reader = st.1.reader;
      reads_right = reads_same (entry o.live) (entry live') (events l s) (read_kept s y ne qs st.1) st.1.reads_right;
    },
  )

  -- the sessions that committed before are others
  others : (s : ℕ) → committed l s ≡ true → s ≢ k
  others s h z = some_none q (subst (λ j. o.sessions j ≡ None) z (i.gone s h).0)

  gone_new : (s : ℕ) → committed log' s ≡ true → (changed o.sessions k None s ≡ None) × (s < o.next_session)
  gone_new s h =
      let below = (live_status K first n o l i k x q).0 in
      elim (or_true (eqb s k) (committed l s) h) [
        | inl p ↦ elim (same_cases s k) [
          | inl c ↦ (rw p, let c1 = c.1 in omega arith)
          | inr c ↦ not_both p c.0
        ]
        | inr p ↦ (changed_other o.sessions k None s (others s p) ∙ (i.gone s p).0, (i.gone s p).1)
      ]

  -- ── in a round ──

  module _ (r : o.round ≡ true) where
    abbrev σ : Side
    σ = side l k

    -- entry e as the Before sessions left it
    abbrev B : ℕ → Entry
    B e = laid_at first Before l e (entry (opening l) e)

    R : Round first n o l
    R = i.in_round r

    hold_allowed : (e m : ℕ) → x.mode e ≡ Some m → Allowed σ (o.copied e)
    hold_allowed = (live_sided K first n o l i r k x q).1

    write_allowed : (e : ℕ) (z : Text) → W e ≡ Some z → Allowed σ (o.copied e)
    write_allowed e z p = let h = wrote_hold e z p in hold_allowed e h.0 h.1

    -- an entry read: in the table, and allowed to its side
    read_inside : (e : ℕ) → has_read (events l k) e ≡ true → (e < n) × Allowed σ (o.copied e)
    read_inside e hr = let h = known.reader e hr in ((known.inside e h.0 h.1).0, hold_allowed e h.0 h.1)

    copied_same : (e : ℕ) → o.copied e ≡ true → cond (is_before σ) (lay_entry H (W e) (B e)) (B e) ≡ B e
    copied_same e c = image_commit σ (W e) H (o.copied e) (B e) (write_allowed e) c

    -- carried out after the Before sessions so far, a Before session reads right
    before_right : is_before σ ≡ true → ReadsRight B (events l k) × ((e : ℕ) → has_read (events l k) e ≡ true → e < n)
    before_right b = (
      reads_same (entry o.live) B (events l k)
          (λ e hr.
          let h = read_inside e hr in
          ap (λ z. z.text) (R.tables.live_is e h.0 ∙ laid_none first After l e (B e) (R.tables.uncopied_free e (allowed_before σ (o.copied e) h.1 b))))
          known.reads_right,
      λ e hr. (read_inside e hr).0,
    )

    -- carried out after all Before sessions and the After ones so far, an After session reads right
    after_right : is_after σ ≡ true
        → ReadsRight (λ e. laid_at first After l e (laid_at first Before log' e (entry (opening l) e))) (events l k)
        × ((e : ℕ) → has_read (events l k) e ≡ true → (e < n) × (o.copied e ≡ true))
    after_right a = (
      reads_same (entry o.live) (λ e. laid_at first After l e (laid_at first Before log' e (entry (opening l) e))) (events l k)
          (λ e hr.
          let h = read_inside e hr in
          ap (λ z. z.text) (R.tables.live_is e h.0 ∙ ap (laid_at first After l e) (sym (copied_same e (allowed_after σ (o.copied e) h.1 a)))))
          known.reads_right,
      λ e hr. let h = read_inside e hr in (h.0, allowed_after σ (o.copied e) h.1 a),
    )

    -- an After session's reads over the entries f
    abbrev AfterRead : (ℕ → Entry) → Log → ℕ → Type 0
    AfterRead f p s =
        After p s ≡ true → ReadsRight (λ e. laid_at first After p e (f e)) (events p s) × ((e : ℕ) → has_read (events p s) e ≡ true → (e < n) × (o.copied e ≡ true))

    -- the After sessions before it read right still: it wrote to no copied entry if it is Before
    afters_still : Commits (AfterRead (λ e. laid_at first Before log' e (entry (opening l) e))) l
    afters_still =
        commits_map (AfterRead B) (AfterRead (λ e. laid_at first Before log' e (entry (opening l) e))) l
        (λ p s m f a. (
          reads_same (λ e. laid_at first After p e (B e)) (λ e. laid_at first After p e (laid_at first Before log' e (entry (opening l) e))) (events p s)
              (λ e hr. ap (λ z. (laid_at first After p e z).text) (sym (copied_same e ((f a).1 e hr).1)))
              (f a).0,
          (f a).1,
        ))
        R.tables.afters

    tables_new : Tables first n (entry live') (entry o.image) o.copied log'
    tables_new =
        record {
          opening_count = R.tables.opening_count;
          live_is = λ e lt.
              entry_new e lt
              ∙ live_commit σ (W e) H (o.copied e) (laid_at first After l e) (entry o.live e) (B e) (write_allowed e)
              (λ c z. laid_none first After l e z (R.tables.uncopied_free e c)) (R.tables.live_is e lt);
          image_is = λ e lt c. R.tables.image_is e lt c ∙ sym (copied_same e c);
          uncopied_free = λ e c. (λ a. none_else (W e) (λ z p. not_both (allowed_after σ (o.copied e) (write_allowed e z p) a) c), R.tables.uncopied_free e c);
          in_order = λ e. (λ b z p. R.tables.uncopied_free e (allowed_before σ (o.copied e) (write_allowed e z p) b), R.tables.in_order e);
          writers_sided = (λ p e. none_else (W e) (λ z h. subst (λ y. Allowed y (o.copied e)) p (write_allowed e z h)), R.tables.writers_sided);
          befores = (before_right, R.tables.befores);
          afters = (after_right, afters_still);
          hands_then = (R.tables.hands, R.tables.hands_then);
          writes_then = (wrote_where, R.tables.writes_then);
          hands = λ C e lt. hands_commit (C l k) (W e) (laid_at first C l e (entry (opening l) e)) H next' (R.tables.hands C e lt) (omega arith) (hand_rises e);
        }

  pub inv_commit : Inv K first n (after_commit_of o k x) log'
  inv_commit =
      let below = (live_status K first n o l i k x q).0 in
      let nb = i.numbered in
      record {
        count = length_each (λ e y. committed_entry o.next_hand (x.text e) y) o.live ∙ i.count;
        status = at_changed (λ s y. Status K n (entry live') o.next_session s (events log' s) y) o.sessions k None
            (λ e. ap (λ vs. holds vs e) (events_own l t k commits))
            (λ s ne. subst (λ vs. Status K n (entry live') o.next_session s vs (o.sessions s)) (sym (events_other l t k commits s ne)) (status_new s ne (o.sessions s) refl (i.status s)));
        numbered = omega arith;
        apart = apart_fewer K o (after_commit_of o k x) (changed_holds o k None (λ e m h. some_none h refl)) i.apart;
        hand_is = hand';
        stamps = stamps_new;
        gone = gone_new;
        agree = ((refl, ap wrote (events_own l t k commits)), agree_by l t k commits others i.agree);
        in_round = λ r. record {
          told_open = (i.in_round r).told_open;
          marks_are = (i.in_round r).marks_are;
          image_count = (i.in_round r).image_count;
          sides = at_changed (λ s y. Sided o.copied (side log' s) y) o.sessions k None tt (λ s ne. (i.in_round r).sides s);
          tables = tables_new r;
        };
      }
