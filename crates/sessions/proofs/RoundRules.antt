-- Open and drop, and the mark of a copy.
use Rattle.std.proofs.Common.{◌≡◌, ℕ, zero, suc, ◌<◌, ◌≤◌, Bool, true, false, cond, not, ◌&&◌, List, map, take, ◌+◌, add-one, length, get_or, set, replicate, option_map, MatchOption, is_some, Some, None, Option, unwrap_or, sym, refl, ap, ◌∙◌, subst, inl, inr, arith}
use Rattle.std.specs.Option.{option_or}
use Rattle.std.specs.Bool.{then_some}
use Rattle.std.specs.List.{list_any, count_by}
use Rattle.std.proofs.lemmas.List.Sums.{count_by_more_yes, count_by_more_no}
use Rattle.std.proofs.lemmas.List.{length-replicate, length-map, get_or-set_same, get_or-set_other}
use Rattle.std.proofs.lemmas.Bool.{eq-eqb}
use Rattle.tables.specs.Tables.{Table, entry}
use Rattle.tables.specs.declared.refusal.Refusal.TheVariants.{Held}
use Rattle.modes.specs.Kind.{Kind}
use Rattle.rules.proofs.Tests.{bool_cases, same_cases}
use Rattle.rules.specs.Numbers.{any_below, lowest, count_below, one_if}
use Rattle.rules.specs.Office.{before, neither, new_session, is_held, open_round, copy, drop_round, refused, done}
use Rattle.rules.specs.Rules.{next_of, opened_session, after_open, sideless, after_round, after_copy, Step}
use Rattle.keyed.proofs.Every.{every_map}
use Rattle.keyed.proofs.Mapping.{key_map, held_map, distinct_map, under_map, count_map}
use Rattle.keyed.proofs.Held.{any_below_held, any_there}
use Rattle.keyed.specs.Keyed.{held, any_held}
use Rattle.sessions.specs.Sessions.{hold_entry, session_number, session_key, sound_place, holds_entry, with_new_side}
use Rattle.sessions.specs.View.{side_of, mode_of, session_of, view, copyable}
use Rattle.sessions.specs.declared.session.Session.{Session}
use Rattle.sessions.specs.declared.session.Side.TheVariants.{Before}
use Rattle.sessions.specs.declared.table.SessionTable.{SessionTable}
use Rattle.sessions.proofs.Begins.{some_mapped, unmarked}
use Rattle.sessions.proofs.Ext.{office_ext}
use Rattle.sessions.proofs.Parts.{Parts, parts, seen, Kept, kept}
use Rattle.sessions.proofs.Sound.{Sound, sound_of}
use Rattle.sessions.proofs.Steps.{refusing, performing, is_below, hit, pass, over}

-- ── the parts after each call ──

-- after an open, a drop, and the copy of e
abbrev pub opened : Parts → List (Option Session) → Parts
opened d l = record { sessions = l; next = d.next; hand = d.hand; round = true; copied = replicate 128 false }

abbrev pub dropped : Parts → List (Option Session) → Parts
dropped d l = record { sessions = l; next = d.next; hand = d.hand; round = false; copied = d.copied }

abbrev pub marked : Parts → ℕ → Parts
marked d e = record { sessions = d.sessions; next = d.next; hand = d.hand; round = d.round; copied = set d.copied e true }

-- ── open ──

-- a session holds an entry of the office, if it holds one
holds_some : (n : ℕ) (x : Session) → Sound n x → any_below n (λ e. is_some ((session_of x).mode e)) ≡ list_any is_some x.holds
holds_some n x g =
    any_below_held hold_entry (λ e h. is_some (mode_of h)) (λ _. true) n x.holds (λ e. refl) (λ h. refl) g.entries g.below ∙ any_there x.holds

-- the sessions as a round opens or ends
abbrev renewed : Bool → List (Option Session) → List (Option Session)
renewed round l = map (option_map (with_new_side round)) l

-- the office after an open
seen_opened : (d : Parts) (live image : Table) → Kept (length live) d → seen (opened d (renewed true d.sessions)) live image ≡ after_open (seen d live image)
seen_opened d live image kept =
    office_ext (seen (opened d (renewed true d.sessions)) live image) (after_open (seen d live image)) refl refl
    (λ s. ap (option_map session_of) (held_map session_number (with_new_side true) (λ x. refl) d.sessions s) ∙ go s (held session_number d.sessions s) refl) refl refl refl
    (λ e. unmarked 128 e)
  where
    go : (s : ℕ) (o : Option Session) → held session_number d.sessions s ≡ o
        → option_map session_of (option_map (with_new_side true) o) ≡ option_map (opened_session (length live)) (option_map session_of o)
    go s None e = refl
    go s (Some x) e =
        let g = sound_of d s x kept e in
        ap (λ v. Some (record { side = v; mode = (session_of x).mode; text = (session_of x).text }))
        (side (list_any is_some x.holds) ∙ ap (λ b. cond b before neither) (sym (holds_some (length live) x g)))
      where
        side : (b : Bool) → side_of (then_some b Before) ≡ cond b before neither
        side true = refl
        side false = refl

module _ (K : Kind) (d : Parts) (live image : Table) where
  pub open_done : Kept (length live) d → d.round ≡ false → length image ≡ length live → {l : List (Option Session)} → l ≡ renewed true d.sessions
      → Step K (seen d live image) open_round done (seen (opened d l) live image)
  open_done kept r n {l} q =
      performing K (seen d live image) open_round done (seen (opened d l) live image) (pass r (pass (ap not (eq-eqb (length image) (length live) n)) over))
      (ap (λ l. (done, seen (opened d l) live image)) q ∙ ap (λ o. (done, o)) (seen_opened d live image kept))

-- each session with a new side, and other marks, keep what the table keeps
renewed_kept : {n : ℕ} (d : Parts) (opens b : Bool) (marks : List Bool) → length marks ≡ 128 → Kept n d
    → Kept n (record { sessions = renewed opens d.sessions; next = d.next; hand = d.hand; round = b; copied = marks })
renewed_kept {n} d opens b marks m kept =
    record {
      places = length-map d.sessions f ∙ kept.places;
      marks = m;
      few = kept.few;
      numbers = distinct_map session_key f d.sessions key ∙ kept.numbers;
      given = under_map session_key d.next f d.sessions key ∙ kept.given;
      sound = every_map (sound_place n) f d.sessions sound ∙ kept.sound;
      last = kept.last;
      hands = let t = count_map session_key (λ _. true) f d.sessions key in let r = kept.hands in omega (arith, t, r);
    }
  where
    f : Option Session → Option Session
    f = option_map (with_new_side opens)

    key : (x : Option Session) → session_key (f x) ≡ session_key x
    key = key_map session_number (with_new_side opens) (λ x. refl)

    sound : (x : Option Session) → sound_place n (f x) ≡ sound_place n x
    sound None = refl
    sound (Some x) = refl

-- an open keeps what the table keeps
pub opened_kept : {n : ℕ} (d : Parts) → Kept n d → {l : List (Option Session)} → l ≡ renewed true d.sessions → Kept n (opened d l)
opened_kept {n} d kept q =
    subst (λ l. Kept n (opened d l)) (sym q) (renewed_kept d true true (replicate 128 false) (length-replicate 128 false) kept)

-- ── drop ──

-- the office after a drop
seen_dropped : (d : Parts) (live image : Table) → seen (dropped d (renewed false d.sessions)) live image ≡ after_round (seen d live image)
seen_dropped d live image =
    office_ext (seen (dropped d (renewed false d.sessions)) live image) (after_round (seen d live image)) refl refl
    (λ s. ap (option_map session_of) (held_map session_number (with_new_side false) (λ x. refl) d.sessions s) ∙ go (held session_number d.sessions s)) refl refl refl (λ e. refl)
  where
    go : (o : Option Session) → option_map session_of (option_map (with_new_side false) o) ≡ option_map sideless (option_map session_of o)
    go None = refl
    go (Some x) = refl

module _ (K : Kind) (d : Parts) (live image : Table) where
  pub drop_done : d.round ≡ true → {l : List (Option Session)} → l ≡ renewed false d.sessions
      → Step K (seen d live image) drop_round done (seen (dropped d l) live image)
  drop_done r {l} q =
      performing K (seen d live image) drop_round done (seen (dropped d l) live image) (pass (ap not r) over)
      (ap (λ l. (done, seen (dropped d l) live image)) q ∙ ap (λ o. (done, o)) (seen_dropped d live image))

-- a drop keeps what the table keeps
pub dropped_kept : {n : ℕ} (d : Parts) → Kept n d → {l : List (Option Session)} → l ≡ renewed false d.sessions → Kept n (dropped d l)
dropped_kept {n} d kept q = subst (λ l. Kept n (dropped d l)) (sym q) (renewed_kept d false false d.copied kept.marks kept)

-- ── copy ──

-- the entry is held by one of the sessions
pub held_entry : {n : ℕ} (d : Parts) (live image : Table) (e : ℕ) → Kept n d → is_held (seen d live image) e ≡ any_held (holds_entry e) d.sessions
held_entry d live image e kept =
    any_below_held session_number (λ k q. is_some ((unwrap_or (option_map session_of q) new_session).mode e)) (holds_entry e) d.next d.sessions (λ k. refl)
    (λ x. some_mapped (λ h. h.mode) (held hold_entry x.holds e)) kept.numbers kept.given

-- the office after a copy
pub seen_marked : (d : Parts) (live image : Table) (e : ℕ) → e < length d.copied
    → seen (marked d e) live (set image e (entry live e)) ≡ after_copy (seen d live image) e
seen_marked d live image e h =
    office_ext (seen (marked d e) live (set image e (entry live e))) (after_copy (seen d live image) e) refl refl (λ s. refl) refl refl refl
    (λ j.
    elim (same_cases j e) [
      | inl q ↦
          ap (λ j. get_or (set d.copied e true) j false) q.1 ∙ get_or-set_same d.copied e true false h ∙ sym (ap (λ b. cond b true (get_or d.copied j false)) q.0)
      | inr q ↦ get_or-set_other d.copied e j true false q.1 ∙ sym (ap (λ b. cond b true (get_or d.copied j false)) q.0)
    ])

module _ (K : Kind) (d : Parts) (live image : Table) (e : ℕ) where
  pub copy_held : {n : ℕ} → Kept n d → e < length live → d.round ≡ true → get_or d.copied e false ≡ false
      → any_held (holds_entry e) d.sessions ≡ true → Step K (seen d live image) (copy e) (refused Held) (seen d live image)
  copy_held kept h r m q =
      refusing K (seen d live image) (copy e) Held (pass (is_below h) (pass (ap not r) (pass m (hit (held_entry d live image e kept ∙ q)))))

  pub copy_done : Kept (length live) d → e < length live → d.round ≡ true → get_or d.copied e false ≡ false
      → any_held (holds_entry e) d.sessions ≡ false
      → Step K (seen d live image) (copy e) done (seen (marked d e) live (set image e (entry live e)))
  copy_done kept h r m q =
      let few = kept.few in
      let long = kept.marks in
      performing K (seen d live image) (copy e) done (seen (marked d e) live (set image e (entry live e)))
      (pass (is_below h) (pass (ap not r) (pass m (pass (held_entry d live image e kept ∙ q) over))))
      (ap (λ o. (done, o)) (seen_marked d live image e (omega arith)))

-- ── how many are left ──

-- the marks in front that are not made, counted
pub count_front : (l : List Bool) (n : ℕ) → n ≤ length l → count_by not (take n l) ≡ count_below n (λ e. not (get_or l e false))
count_front l zero h = refl
count_front l (suc n) h =
    let within : n < length l = omega arith in
    let ih = count_front l n (omega arith) in
    let more : count_by not (take (suc n) l) ≡ count_by not (take (n + 1) l) = ap (λ m. count_by not (take m l)) (sym (add-one n)) in
    elim (bool_cases (not (get_or l n false))) [
      | inl q ↦ let one : one_if (not (get_or l n false)) ≡ 1 = ap one_if q in omega (arith, more, count_by_more_yes not l n false within q, ih, one)
      | inr q ↦ let none : one_if (not (get_or l n false)) ≡ 0 = ap one_if q in omega (arith, more, count_by_more_no not l n false within q, ih, none)
    ]

-- ── next ──

-- the lowest that passes: none, or the first found
lowest_none : (n : ℕ) (p : ℕ → Bool) (i : ℕ) → n ≤ i → ((k : ℕ) → k < i → p k ≡ false) → lowest n p ≡ None
lowest_none zero p i l f = refl
lowest_none (suc n) p i l f =
    ap (λ o. option_or o (cond (p n) (Some n) None)) (lowest_none n p i (omega arith) f) ∙ ap (λ b. cond b (Some n) None) (f n (omega arith))

lowest_found : (n : ℕ) (p : ℕ → Bool) (e : ℕ) → e < n → ((k : ℕ) → k < e → p k ≡ false) → p e ≡ true → lowest n p ≡ Some e
lowest_found zero p e l f h = absurd (omega arith)
lowest_found (suc n) p e l f h =
    elim (same_cases e n) [
      | inl q ↦
          let en = q.1 in
          ap (λ o. option_or o (cond (p n) (Some n) None)) (lowest_none n p e (omega arith) f) ∙ ap (λ b. cond b (Some n) None) (ap p (sym en) ∙ h) ∙ ap Some (sym en)
      | inr q ↦ let ne = q.1 in ap (λ o. option_or o (cond (p n) (Some n) None)) (lowest_found n p e (omega arith) f h)
    ]

-- what a search of the numbers below n finds is the lowest that passes
pub lowest_first : (n : ℕ) (p : ℕ → Bool) (r : Option ℕ)
    → MatchOption r ((k : ℕ) → 0 ≤ k → k < n → p k ≡ false) (λ e. (0 ≤ e) × (e < n) × (p e ≡ true) × ((k : ℕ) → 0 ≤ k → k < e → p k ≡ false)) → r ≡ lowest n p
lowest_first n p None f = sym (lowest_none n p n (omega arith) (λ k. f k (omega arith)))
lowest_first n p (Some e) f = sym (lowest_found n p e f.1 (λ k. f.3 k (omega arith)) f.2)

lowest_same : (n : ℕ) (p q : ℕ → Bool) → ((k : ℕ) → p k ≡ q k) → lowest n p ≡ lowest n q
lowest_same zero p q f = refl
lowest_same (suc n) p q f =
    ap (λ o. option_or o (cond (p n) (Some n) None)) (lowest_same n p q f) ∙ ap (λ b. option_or (lowest n q) (cond b (Some n) None)) (f n)

-- what next names
pub next_copyable : (t : SessionTable) (live image : Table) → length live ≡ t.entries → next_of (view t live image) ≡ lowest t.entries (copyable t)
next_copyable t live image n =
    ap (λ m. lowest m (λ e. not (get_or t.copied e false) && not (is_held (view t live image) e))) n
    ∙ lowest_same t.entries (λ e. not (get_or t.copied e false) && not (is_held (view t live image) e)) (copyable t)
    (λ e. ap (λ b. not (get_or t.copied e false) && not b) (held_entry (parts t) live image e (kept t)))
