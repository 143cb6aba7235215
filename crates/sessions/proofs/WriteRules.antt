-- Write.
use Rattle.std.proofs.Common.{◌≡◌, ℕ, ◌<◌, ◌≤◌, true, cond, eqb, length, get_or, set, Some, None, sym, ap, ◌∙◌, subst, inl, inr, Option, List, arith, option_map, position}
use Rattle.std.specs.Borrow.{Bor}
use Rattle.std.proofs.lemmas.List.{length-set}
use Rattle.std.proofs.lemmas.Bool.{le-ltb, lt-ltb}
use Rattle.tables.specs.Tables.{Table}
use Rattle.tables.specs.Texts.{bytes_of}
use Rattle.tables.specs.declared.text.Text.{Text}
use Rattle.modes.specs.Kind.{Kind}
use Rattle.rules.proofs.Tests.{same_cases}
use Rattle.rules.specs.Numbers.{changed}
use Rattle.rules.specs.Office.{session, write, done}
use Rattle.rules.specs.Rules.{with_session, after_write, Step}
use Rattle.keyed.proofs.Every.{every_set}
use Rattle.keyed.proofs.Distinct.{distinct_changed}
use Rattle.keyed.proofs.Held.{ap_cond, held_at, held_changed}
use Rattle.keyed.specs.Keyed.{is_key, held, under}
use Rattle.sessions.specs.Sessions.{hold_entry, hold_key, with_hold, written_hold}
use Rattle.sessions.specs.View.{mode_of, text_of, session_of}
use Rattle.sessions.specs.declared.hold.Hold.{Hold}
use Rattle.sessions.specs.declared.session.Session.{Session}
use Rattle.sessions.specs.declared.table.SessionTable.{SessionTable}
use Rattle.sessions.proofs.Ext.{session_ext}
use Rattle.sessions.proofs.HoldPlaces.{HeldIn}
use Rattle.sessions.proofs.Modes.{entry_of, holds_in}
use Rattle.sessions.proofs.Parts.{Parts, parts, seen, Kept, with_place, At, Has, stands, kept}
use Rattle.sessions.proofs.Places.{number_of_session, seen_changed, session_at, is_at}
use Rattle.sessions.proofs.Sound.{sound_of, changed_kept}
use Rattle.sessions.proofs.Steps.{performing, is_below, pass, over}

-- what is known of a write that nothing refuses: session x in place i has entry e, below n, in hold h in place k
pub record Writing (n : ℕ) (d : Parts) (s e i k : ℕ) (x : Session) (h : Hold) : Type 0 where
  pub within : i < length d.sessions
  pub kept : Kept n d
  pub named : At d s i
  pub session : Has d s x
  pub entry : e < n
  pub place : HeldIn x.holds e k
  pub hold : held hold_entry x.holds e ≡ Some h

-- the hold and the session after the write
abbrev pub with_text : Hold → Text → Hold
with_text h t = record { entry = h.entry; mode = h.mode; written = Some t }

abbrev pub written : Session → ℕ → Hold → Text → Session
written x k h t = with_hold x k (Some (with_text h t)) x.side

-- the office after the write
seen_written : {n : ℕ} (d : Parts) (live image : Table) (s e i k : ℕ) (x : Session) (h : Hold) (t : Text) → Writing n d s e i k x h
    → seen (with_place d i (Some (written x k h t))) live image ≡ after_write (seen d live image) s e (bytes_of t)
seen_written d live image s e i k x h t a =
    let o = seen d live image in
    let l = x.holds in
    let y = with_text h t in
    let z = session_at d live image s x a.session in
    let f = held_changed hold_entry l e k y (entry_of l e k h a.place a.hold) a.place in
    let same =
    session_ext (session_of (written x k h t)) (record { side = (session o s).side; mode = (session o s).mode; text = changed (session o s).text e (Some (bytes_of t)) })
    (sym (ap (λ z. z.side) z))
    (λ j.
    ap mode_of (f j) ∙ ap_cond mode_of (eqb j e) (Some y) (held hold_entry l j)
    ∙ elim (same_cases j e) [
      | inl v ↦
          ap (λ b. cond b (mode_of (Some y)) (mode_of (held hold_entry l j))) v.0 ∙ sym (ap mode_of a.hold) ∙ ap (λ j. mode_of (held hold_entry l j)) (sym v.1)
          ∙ sym (ap (λ z. z.mode j) z)
      | inr v ↦ ap (λ b. cond b (mode_of (Some y)) (mode_of (held hold_entry l j))) v.0 ∙ sym (ap (λ z. z.mode j) z)
    ])
    (λ j. ap text_of (f j) ∙ ap_cond text_of (eqb j e) (Some y) (held hold_entry l j) ∙ sym (ap (λ z. cond (eqb j e) (Some (bytes_of t)) (z.text j)) z)) in
    seen_changed d live image s i (written x k h t) (number_of_session d s i x a.named a.session) a.named ∙ ap (λ q. with_session o s (Some q)) same

-- the text is kept
pub write_done : (K : Kind) {d : Parts} (live image : Table) {s e i k : ℕ} {x : Session} {h : Hold} {u : List ℕ} (t : Text) → Writing (length live) d s e i k x h
    → K.writes h.mode ≡ true → (length u ≤ 96) × (bytes_of t ≡ u)
    → Step K (seen d live image) (write s e u) done (seen (with_place d i (Some (written x k h t))) live image)
write_done K {d} live image {s} {e} {i} {k} {x} {h} t a w v =
    let l : length (bytes_of t) ≤ 96 = omega (arith, v.0, ap length v.1) in
    subst (λ u. Step K (seen d live image) (write s e u) done (seen (with_place d i (Some (written x k h t))) live image)) v.1
    (performing K (seen d live image) (write s e (bytes_of t)) done (seen (with_place d i (Some (written x k h t))) live image)
    (pass (is_at d live image s x a.session) (pass (is_below a.entry) (pass (holds_in d live image s e x h K.writes a.session a.hold w)
    (pass (le-ltb 96 (length (bytes_of t)) l) over))))
    (ap (λ o. (done, o)) (seen_written d live image s e i k x h t a)))

-- a write keeps what the table keeps
pub write_kept : {n : ℕ} {d : Parts} {s e i k : ℕ} {x : Session} {h : Hold} (t : Text) → Writing n d s e i k x h → Kept n (with_place d i (Some (written x k h t)))
write_kept {n} {d} {s} {e} {i} {k} {x} {h} t a =
    let l = x.holds in
    let g = sound_of d s x a.kept a.session in
    let y = with_text h t in
    let ky : hold_key (Some y) ≡ Some e = ap Some (entry_of l e k h a.place a.hold) in
    changed_kept d s i (written x k h t) a.within a.kept a.named (number_of_session d s i x a.named a.session)
    (record {
      eight = length-set l k (Some y) ∙ g.eight;
      entries = distinct_changed hold_key l e k (Some y) ky a.place g.entries;
      below = every_set (λ x. under n (hold_key x)) l k (Some y) (ap (under n) ky ∙ lt-ltb e n a.entry) g.below;
    })

-- the sessions that the code leaves, where x stands in place i
pub written_as : {n : ℕ} {d : Parts} {s e i k : ℕ} {x : Session} {h : Hold} (t : Text) {l : List (Option Session)} → Writing n d s e i k x h
    → l ≡ set d.sessions i (option_map (λ y. with_hold y k (written_hold (get_or y.holds k None) t) y.side) (get_or d.sessions i None))
    → l ≡ set d.sessions i (Some (written x k h t))
written_as {d = d} {s = s} {e = e} {i = i} {k = k} {x = x} t a r =
    r
    ∙ ap (λ o. set d.sessions i (option_map (λ y. with_hold y k (written_hold (get_or y.holds k None) t) y.side) o)) (stands d s i x a.named a.session)
    ∙ ap (λ o. set d.sessions i (Some (with_hold x k (written_hold o t) x.side))) (sym (held_at hold_entry x.holds e k None a.place) ∙ a.hold)

-- from the checks of a write
pub writing : (t : SessionTable) (s e i k : ℕ) (x : Session) {r : Option (ℕ × Bor Hold)} (h : Bor Hold) → (i < length t.sessions) × At (parts t) s i × Has (parts t) s x
    → e < t.entries → option_map (λ f. f.0) r ≡ position (λ x. is_key (hold_key x) e) x.holds → option_map (λ f. f.1.now) r ≡ held hold_entry x.holds e
    → r ≡ Some (k, h) → Writing t.entries (parts t) s e i k x h.now
writing t s e i k x h p m q v r =
    record {
      within = p.0;
      kept = kept t;
      named = p.1;
      session = p.2;
      entry = m;
      place = sym q ∙ ap (option_map (λ f. f.0)) r;
      hold = sym v ∙ ap (option_map (λ f. f.1.now)) r;
    }

-- what is known, for a live table of the count
pub writing_for : {n : ℕ} {d : Parts} {s e i k : ℕ} {x : Session} {h : Hold} (live : Table) → length live ≡ n → Writing n d s e i k x h
    → Writing (length live) d s e i k x h
writing_for {n} {d} {s} {e} {i} {k} {x} {h} live q a = subst (λ n. Writing n d s e i k x h) (sym q) a
