-- The invariant survives the open, the close and the drop of a round.
use Rattle.std.proofs.Common.{◌≡◌, ℕ, ◌<◌, true, false, cond, List, ◌∷◌, length, is_some, Some, None, Option, unwrap_or, sym, refl, ap, ◌∙◌, subst, arith}
use mathlib.Core.Bool.{false≢true}
use Rattle.std.specs.Option.{option_map}
use Rattle.tables.specs.Tables.{Entry, Table, entry}
use Rattle.modes.specs.Kind.{Kind}
use Rattle.rules.specs.Numbers.{any_below}
use Rattle.rules.specs.Office.{neither, before, Session, new_session, Office, entries}
use Rattle.rules.specs.Rules.{opened_session, after_open, sideless, after_round}
use Rattle.rules.specs.History.{SessionEvent, opens, closes, drops, Log, events}
use Rattle.rules.specs.Holding.{holds_any}
use Rattle.rules.specs.Writing.{committed}
use Rattle.rules.proofs.Below.{any_yes}
use Rattle.rules.proofs.Invariant.{Status, Allowed, Sided, Apart, Inv}
use Rattle.rules.proofs.Holders.{apart_fewer}

-- a session that an open or the end of a round left: the same holds and texts
status_opened : (K : Kind) (n c : ℕ) (f : ℕ → Entry) (next s : ℕ) (vs : List SessionEvent) (x : Option Session)
    → Status K n f next s vs x → Status K n f next s vs (option_map (opened_session c) x)
status_opened K n c f next s vs None h = h
status_opened K n c f next s vs (Some x) h = h

status_sideless : (K : Kind) (n : ℕ) (f : ℕ → Entry) (next s : ℕ) (vs : List SessionEvent) (x : Option Session)
    → Status K n f next s vs x → Status K n f next s vs (option_map sideless x)
status_sideless K n f next s vs None h = h
status_sideless K n f next s vs (Some x) h = h

-- its mode at an entry
opened_mode : (c e : ℕ) (x : Option Session) → (unwrap_or (option_map (opened_session c) x) new_session).mode e ≡ (unwrap_or x new_session).mode e
opened_mode c e None = refl
opened_mode c e (Some x) = refl

sideless_mode : (e : ℕ) (x : Option Session) → (unwrap_or (option_map sideless x) new_session).mode e ≡ (unwrap_or x new_session).mode e
sideless_mode e None = refl
sideless_mode e (Some x) = refl

-- at an open a session that holds an entry is Before, and no entry is copied
sided_opened : (K : Kind) (n c : ℕ) (f : ℕ → Entry) (next s : ℕ) (vs : List SessionEvent) (x : Option Session) → c ≡ n
    → Status K n f next s vs x → Sided (λ _. false) (cond (holds_any vs) before neither) (option_map (opened_session c) x)
sided_opened K n c f next s vs None q h = tt
sided_opened K n c f next s vs (Some x) q h = (
  ap (λ b. cond b before neither) (ap (λ j. any_below j (λ e. is_some (x.mode e))) q ∙ sym h.1.holds_any_is),
  λ e m p.
      let g : holds_any vs ≡ true = h.1.holds_any_is ∙ any_yes n (λ e. is_some (x.mode e)) e (h.1.inside e m p).0 (ap is_some p) in
      subst (λ b. Allowed (cond b before neither) false) (sym g) refl,
)

module _ (K : Kind) (first n : ℕ) (o : Office) (l : Log) (i : Inv K first n o l) where
  pub inv_open : length o.image ≡ entries o → Inv K first n (after_open o) (record { event = opens; live = o.live } ∷ l)
  inv_open q =
      record {
        count = i.count;
        status = λ s. status_opened K n (entries o) (entry o.live) o.next_session s (events l s) (o.sessions s) (i.status s);
        numbered = i.numbered;
        apart = apart_fewer K o (after_open o) (λ s e m h. sym (opened_mode (entries o) e (o.sessions s)) ∙ h) i.apart;
        hand_is = i.hand_is;
        stamps = i.stamps;
        gone = λ s h. absurd (false≢true h);
        agree = tt;
        in_round = λ r. record {
          told_open = refl;
          marks_are = refl;
          image_count = q ∙ i.count;
          sides = λ s. sided_opened K n (entries o) (entry o.live) o.next_session s (events l s) (o.sessions s) i.count (i.status s);
          tables = record {
            opening_count = i.count;
            live_is = λ e lt. refl;
            image_is = λ e lt h. absurd (false≢true h);
            uncopied_free = λ e h. tt;
            in_order = λ e. tt;
            writers_sided = tt;
            befores = tt;
            afters = tt;
            hands_then = tt;
            writes_then = tt;
            hands = λ C e lt. let a = (i.stamps e lt).1 in let b = i.hand_is in omega arith;
          };
        };
      }

  -- what a close or a drop leaves, whichever it is
  end_status : (s : ℕ) → Status K n (entry o.live) o.next_session s (events l s) (option_map sideless (o.sessions s))
  end_status s = status_sideless K n (entry o.live) o.next_session s (events l s) (o.sessions s) (i.status s)

  end_apart : Apart K (after_round o)
  end_apart = apart_fewer K o (after_round o) (λ s e m h. sym (sideless_mode e (o.sessions s)) ∙ h) i.apart

  end_gone : (s : ℕ) → committed l s ≡ true → (option_map sideless (o.sessions s) ≡ None) × (s < o.next_session)
  end_gone s h = (ap (option_map sideless) (i.gone s h).0, (i.gone s h).1)

  pub inv_close : (t : Table) → Inv K first n (after_round o) (record { event = closes; live = t } ∷ l)
  inv_close t =
      record {
        count = i.count;
        status = end_status;
        numbered = i.numbered;
        apart = end_apart;
        hand_is = i.hand_is;
        stamps = i.stamps;
        gone = end_gone;
        agree = i.agree;
        in_round = λ r. absurd (false≢true r);
      }

  pub inv_drop : (t : Table) → Inv K first n (after_round o) (record { event = drops; live = t } ∷ l)
  inv_drop t =
      record {
        count = i.count;
        status = end_status;
        numbered = i.numbered;
        apart = end_apart;
        hand_is = i.hand_is;
        stamps = i.stamps;
        gone = end_gone;
        agree = i.agree;
        in_round = λ r. absurd (false≢true r);
      }
