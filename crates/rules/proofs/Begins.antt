-- The invariant survives a begin.
use Rattle.std.proofs.Common.{ℕ, suc, List, [], ◌∷◌, Some, None, Option, sym, refl, ◌∙◌, subst, arith}
use mathlib.Core.Bool.{false≢true}
use Rattle.tables.specs.Tables.{Entry, Table, entry}
use Rattle.modes.specs.Kind.{Kind}
use Rattle.rules.specs.Office.{Session, new_session, Office}
use Rattle.rules.specs.Rules.{after_begin}
use Rattle.rules.specs.History.{SessionEvent, nothing, Log, events}
use Rattle.rules.specs.Sides.{side}
use Rattle.rules.proofs.Tests.{changed_other, at_changed, some_none}
use Rattle.rules.proofs.Below.{any_nothing}
use Rattle.rules.proofs.OtherSessions.{unused}
use Rattle.rules.proofs.Invariant.{Known, Status, Sided, Inv}
use Rattle.rules.proofs.Holders.{changed_holds, apart_fewer}

-- a greater next number
status_more : (K : Kind) (n : ℕ) (f : ℕ → Entry) (next s : ℕ) (vs : List SessionEvent) (x : Option Session)
    → Status K n f next s vs x → Status K n f (suc next) s vs x
status_more K n f next s vs None h = h
status_more K n f next s vs (Some x) h = let h0 = h.0 in (omega arith, h.1)

known_new : (K : Kind) (n : ℕ) (f : ℕ → Entry) → Known K n f [] new_session
known_new K n f =
    record {
      holds_is = λ e. refl;
      holds_any_is = sym (any_nothing n);
      inside = λ e m h. some_none h refl;
      text_is = λ e. refl;
      wrote_is = sym (any_nothing n);
      writer = λ e z h. some_none h refl;
      reader = λ e h. absurd (false≢true h);
      reads_right = tt;
    }

pub inv_begin : (K : Kind) (first n : ℕ) (o : Office) (l : Log) (t : Table) → Inv K first n o l → Inv K first n (after_begin o) (record { event = nothing; live = t } ∷ l)
inv_begin K first n o l t i =
    let u = unused l o.next_session i.numbered in
    let nb = i.numbered in
    record {
      count = i.count;
      status = at_changed (λ s y. Status K n (entry o.live) (suc o.next_session) s (events l s) y) o.sessions o.next_session (Some new_session)
          (omega arith, subst (λ vs. Known K n (entry o.live) vs new_session) (sym u.0) (known_new K n (entry o.live)))
          (λ s ne. status_more K n (entry o.live) o.next_session s (events l s) (o.sessions s) (i.status s));
      numbered = omega arith;
      apart = apart_fewer K o (after_begin o) (changed_holds o o.next_session (Some new_session) (λ e m h. some_none h refl)) i.apart;
      hand_is = i.hand_is;
      stamps = i.stamps;
      gone = λ s h.
          let g = i.gone s h in
          let g1 = g.1 in
          (changed_other o.sessions o.next_session (Some new_session) s (omega arith) ∙ g.0, omega arith);
      agree = i.agree;
      in_round = λ r. record {
        told_open = (i.in_round r).told_open;
        marks_are = (i.in_round r).marks_are;
        image_count = (i.in_round r).image_count;
        sides = at_changed (λ s y. Sided o.copied (side l s) y) o.sessions o.next_session (Some new_session)
            (sym u.1, λ e m h. some_none h refl) (λ s ne. (i.in_round r).sides s);
        tables = (i.in_round r).tables;
      };
    }
