-- The invariant survives what a session does, but for a commit: one lemma for any such event, then a leave, a read and a write.
use Rattle.std.proofs.Common.{◌≡◌, ℕ, ◌<◌, Bool, true, ◌≢◌, ◌∷◌, is_some, Some, None, Option, unwrap_or, sym, refl, ap, ◌∙◌, subst, inl, inr, arith}
use Rattle.tables.specs.Tables.{Entry, Table, entry}
use Rattle.modes.specs.Kind.{Kind}
use Rattle.rules.specs.Numbers.{changed}
use Rattle.rules.specs.Office.{Text, Session, Office}
use Rattle.rules.specs.Rules.{with_sessions, with_session, after_leave}
use Rattle.rules.specs.History.{SessionEvent, claims, reads, writes, commits, leaves, nothing, by, Record, Log, events}
use Rattle.rules.specs.Sides.{side}
use Rattle.rules.specs.Writing.{wrote, committer, committed}
use Rattle.rules.proofs.Tests.{same_cases, changed_same, changed_other, at_changed, changed_id, some_none}
use Rattle.rules.proofs.Below.{any_yes}
use Rattle.rules.proofs.Commits.{commits_map}
use Rattle.rules.proofs.OtherSessions.{events_own, events_other, side_other}
use Rattle.rules.proofs.Invariant.{Agree, Status, Sided, Tables, Apart, Inv}
use Rattle.rules.proofs.Holders.{session_mode, changed_holds, apart_fewer, live_status, live_sided}

-- nothing happened
pub inv_nothing : (K : Kind) (first n : ℕ) (o : Office) (l : Log) (t : Table) → Inv K first n o l → Inv K first n o (record { event = nothing; live = t } ∷ l)
inv_nothing K first n o l t i =
    record {
      count = i.count;
      status = i.status;
      numbered = i.numbered;
      apart = i.apart;
      hand_is = i.hand_is;
      stamps = i.stamps;
      gone = i.gone;
      agree = i.agree;
      in_round = i.in_round;
    }

-- the tables of a round, after an event of a session that is no commit
tables_by : (first n : ℕ) (f g : ℕ → Entry) (c : ℕ → Bool) (l : Log) (t : Table) (k : ℕ) (v : SessionEvent) → committer (by k v) ≡ None
    → Tables first n f g c l → Tables first n f g c (record { event = by k v; live = t } ∷ l)
tables_by first n f g c l t k (claims e) q h = h
tables_by first n f g c l t k (reads e x) q h = h
tables_by first n f g c l t k (writes e x) q h = h
tables_by first n f g c l t k commits q h = some_none {x = Some k} refl q
tables_by first n f g c l t k leaves q h = h

-- the sessions that committed agree still, if an event of session k is not theirs
pub agree_by : (l : Log) (t : Table) (k : ℕ) (v : SessionEvent) → ((s : ℕ) → committed l s ≡ true → s ≢ k) → Agree l l → Agree (record { event = by k v; live = t } ∷ l) l
agree_by l t k v f h =
    commits_map
    (λ p s. (side l s ≡ side p s) × (wrote (events l s) ≡ wrote (events p s)))
    (λ p s. (side (record { event = by k v; live = t } ∷ l) s ≡ side p s) × (wrote (events (record { event = by k v; live = t } ∷ l) s) ≡ wrote (events p s)))
    l
    (λ p s c i. (side_other l t k v s (f s c) ∙ i.0, ap wrote (events_other l t k v s (f s c)) ∙ i.1))
    h

-- an event v of session k that is no commit, and leaves it as y
pub inv_by : (K : Kind) (first n : ℕ) (o : Office) (l : Log) (t : Table) (k : ℕ) (x : Session) (v : SessionEvent) (y : Option Session)
    → Inv K first n o l → o.sessions k ≡ Some x → committer (by k v) ≡ None
    → Status K n (entry o.live) o.next_session k (v ∷ events l k) y
    → Apart K (with_session o k y)
    → (o.round ≡ true → Sided o.copied (side (record { event = by k v; live = t } ∷ l) k) y)
    → Inv K first n (with_session o k y) (record { event = by k v; live = t } ∷ l)
inv_by K first n o l t k x v y i q c st ap' sd =
    let N : Record = record { event = by k v; live = t } in
    let below : k < o.next_session = (live_status K first n o l i k x q).0 in
    let nb = i.numbered in
    let others : (s : ℕ) → committed l s ≡ true → s ≢ k =
    λ s h z. some_none q (subst (λ j. o.sessions j ≡ None) z (i.gone s h).0) in
    record {
      count = i.count;
      status = at_changed (λ s z. Status K n (entry o.live) o.next_session s (events (N ∷ l) s) z) o.sessions k y
          (subst (λ vs. Status K n (entry o.live) o.next_session k vs y) (sym (events_own l t k v)) st)
          (λ s ne. subst (λ vs. Status K n (entry o.live) o.next_session s vs (o.sessions s)) (sym (events_other l t k v s ne)) (i.status s));
      numbered = omega arith;
      apart = ap';
      hand_is = rw c i.hand_is;
      stamps = i.stamps;
      gone = λ s h.
          let h' : committed l s ≡ true = rw c at h in
          (changed_other o.sessions k y s (others s h') ∙ (i.gone s h').0, (i.gone s h').1);
      agree = rw c (agree_by l t k v others i.agree);
      in_round = λ r. record {
        told_open = (i.in_round r).told_open;
        marks_are = (i.in_round r).marks_are;
        image_count = (i.in_round r).image_count;
        sides = at_changed (λ s z. Sided o.copied (side (N ∷ l) s) z) o.sessions k y (sd r)
            (λ s ne. subst (λ σ. Sided o.copied σ (o.sessions s)) (sym (side_other l t k v s ne)) ((i.in_round r).sides s));
        tables = tables_by first n (entry o.live) (entry o.image) o.copied l t k v c (i.in_round r).tables;
      };
    }

module _ (K : Kind) (first n : ℕ) (o : Office) (l : Log) (t : Table) (k : ℕ) (x : Session) (i : Inv K first n o l) (q : o.sessions k ≡ Some x) where
  -- a leave, or a claim answered 7
  pub inv_leave : Inv K first n (after_leave o k) (record { event = by k leaves; live = t } ∷ l)
  inv_leave =
      inv_by K first n o l t k x leaves None i q refl (λ e. refl)
      (apart_fewer K o (after_leave o k) (changed_holds o k None (λ e m h. some_none h refl)) i.apart)
      (λ r. tt)

  pub inv_read : (e m : ℕ) → x.mode e ≡ Some m → K.reads m ≡ true
      → Inv K first n o (record { event = by k (reads e (unwrap_or (x.text e) (entry o.live e).text)); live = t } ∷ l)
  inv_read e m h rd =
      let z : Text = unwrap_or (x.text e) (entry o.live e).text in
      let w = live_status K first n o l i k x q in
      subst (λ f. Inv K first n (with_sessions o f) (record { event = by k (reads e z); live = t } ∷ l)) (changed_id o.sessions k (Some x) q)
      (inv_by K first n o l t k x (reads e z) (Some x) i q refl (
        w.0,
        record {
          holds_is = w.1.holds_is;
          holds_any_is = w.1.holds_any_is;
          inside = w.1.inside;
          text_is = w.1.text_is;
          wrote_is = w.1.wrote_is;
          writer = w.1.writer;
          reader = λ j p. elim (same_cases j e) [ inl c ↦ (m, subst (λ i. x.mode i ≡ Some m) (sym c.1) h, rd) | inr c ↦ w.1.reader j (rw c.0 at p) ];
          reads_right = (ap (λ y. unwrap_or y (entry o.live e).text) (sym (w.1.text_is e)), w.1.reads_right);
        },
      )
      (apart_fewer K o (with_session o k (Some x)) (changed_holds o k (Some x) (λ j b p. session_mode o k j b x q p)) i.apart)
      (λ r. live_sided K first n o l i r k x q))

  pub inv_write : (e : ℕ) (z : Text) (m : ℕ) → x.mode e ≡ Some m → K.writes m ≡ true
      → Inv K first n (with_session o k (Some (record { side = x.side; mode = x.mode; text = changed x.text e (Some z) }))) (record { event = by k (writes e z); live = t } ∷ l)
  inv_write e z m h wr =
      let w = live_status K first n o l i k x q in
      let y : Session = record { side = x.side; mode = x.mode; text = changed x.text e (Some z) } in
      inv_by K first n o l t k x (writes e z) (Some y) i q refl (
        w.0,
        record {
          holds_is = w.1.holds_is;
          holds_any_is = w.1.holds_any_is;
          inside = w.1.inside;
          text_is = λ j. elim (same_cases j e) [ inl c ↦ rw c.0 | inr c ↦ rw c.0 (w.1.text_is j) ];
          wrote_is = sym (any_yes n (λ j. is_some (changed x.text e (Some z) j)) e (w.1.inside e m h).0 (ap is_some (changed_same x.text e (Some z))));
          writer = λ j u p. elim (same_cases j e) [ inl c ↦ (m, subst (λ i. x.mode i ≡ Some m) (sym c.1) h, wr) | inr c ↦ w.1.writer j u (rw c.0 at p) ];
          reader = w.1.reader;
          reads_right = w.1.reads_right;
        },
      )
      (apart_fewer K o (with_session o k (Some y)) (changed_holds o k (Some y) (λ j b p. session_mode o k j b x q p)) i.apart)
      (λ r. live_sided K first n o l i r k x q)
