-- The image law and the serial law of a round whose entries are all copied, from the invariant.
use Rattle.std.proofs.Common.{◌≡◌, ℕ, ◌+◌, ◌<◌, Bool, true, false, T, ◌⊎◌, length, Some, None, sym, refl, ap, ◌∙◌, inl, inr, arith, ext_get_or}
use mathlib.Core.Bool.{false≢true}
use Rattle.tables.specs.Tables.{blank, Table, entry}
use Rattle.modes.specs.Kind.{Kind}
use Rattle.rules.specs.Office.{Text, Side, neither, before, after, is_before, is_after, Office}
use Rattle.rules.specs.History.{Log, events}
use Rattle.rules.specs.Sides.{side, Before, After}
use Rattle.rules.specs.Writing.{last_write, wrote, commits_that_wrote, committed, opening}
use Rattle.rules.specs.Laying.{laid}
use Rattle.rules.specs.Round.{ExactlyBefore, ImageLaw, SerialLaw}
use Rattle.rules.proofs.Tests.{to_T, from_T, bool_cases, not_both}
use Rattle.rules.proofs.Commits.{Commits, commits_map, commits_both, commits_each, commits_find}
use Rattle.rules.proofs.Texts.{wrote_if}
use Rattle.rules.proofs.LaidEntries.{Choice, laid_at, length_laid, entry_laid, laid_same}
use Rattle.rules.proofs.Invariant.{Tables, Inv}
use Rattle.rules.proofs.OneSet.{ToldApart, HandsBelow, one_set}
use Rattle.rules.proofs.CarriedOut.{carried_out}

module _ (K : Kind) (first n : ℕ) (p : Office) (l : Log) (i : Inv K first n p l) (rd : p.round ≡ true) (all : (e : ℕ) → e < n → p.copied e ≡ true) where
  tables : Tables first n (entry p.live) (entry p.image) p.copied l
  tables = (i.in_round rd).tables

  opening_count : length (opening l) ≡ n
  opening_count = tables.opening_count

  -- ── the table of the Before sessions ──

  -- a session's side is what it was at its commit
  agree_on : (f : Side → Bool) → Commits (λ q s. f (side l s) ≡ f (side q s)) l
  agree_on f =
      commits_map (λ q s. (side l s ≡ side q s) × (wrote (events l s) ≡ wrote (events q s))) (λ q s. f (side l s) ≡ f (side q s)) l
      (λ q s m h. ap f h.0) i.agree

  agree_at : (f : Side → Bool) (e : ℕ) → Commits (λ q s. (f (side l s) ≡ f (side q s)) ⊎ (last_write (events q s) e ≡ None)) l
  agree_at f e =
      commits_map (λ q s. f (side l s) ≡ f (side q s)) (λ q s. (f (side l s) ≡ f (side q s)) ⊎ (last_write (events q s) e ≡ None)) l
      (λ q s m h. inl h) (agree_on f)

  befores_at : (e : ℕ) → e < n → entry (laid first (Before l) (opening l) l) e ≡ laid_at first Before l e (entry (opening l) e)
  befores_at e lt =
      let c = opening_count in
      entry_laid first (Before l) (opening l) l e (omega arith)
      ∙ laid_same first (λ _. Before l) Before l e (entry (opening l) e) (agree_at is_before e)

  befores_count : length (laid first (Before l) (opening l) l) ≡ n
  befores_count = length_laid first (Before l) (opening l) l ∙ opening_count

  -- ── the serial law ──

  pub serial_law : SerialLaw first l p.live
  serial_law =
      let c = opening_count in
      let d = befores_count in
      let B : Table = laid first (Before l) (opening l) l in (
        carried_out first (Before l) Before (entry (opening l)) (λ e. e < n) (opening l) l (λ e lt. (omega arith, refl)) (agree_on is_before) tables.befores,
        carried_out first (After l) After (λ e. laid_at first Before l e (entry (opening l) e)) (λ e. (e < n) × (p.copied e ≡ true)) B l
            (λ e h. let lt = h.0 in (omega arith, sym (befores_at e lt))) (agree_on is_after) tables.afters,
        ext_get_or blank (laid first (After l) B l) p.live (length_laid first (After l) B l ∙ d ∙ sym i.count)
            (λ e lt.
            let q : length (laid first (After l) B l) ≡ n = length_laid first (After l) B l ∙ d in
            let le : e < n = omega arith in
            entry_laid first (After l) B l e (omega arith)
            ∙ ap (λ z. laid_at first (λ _. After l) l e z) (befores_at e le)
            ∙ laid_same first (λ _. After l) After l e (laid_at first Before l e (entry (opening l) e)) (agree_at is_after e)
            ∙ sym (tables.live_is e le)),
      )

  -- ── the image law ──

  image_at : (e : ℕ) → e < n → entry p.image e ≡ laid_at first Before l e (entry (opening l) e)
  image_at e lt = tables.image_is e lt (all e lt)

  set_at : (S : ℕ → Bool) (e : ℕ) → e < n → entry (laid first S (opening l) l) e ≡ laid_at first (λ _. S) l e (entry (opening l) e)
  set_at S e lt = let c = opening_count in entry_laid first S (opening l) l e (omega arith)

  -- what is known of a session at its commit: its side and whether it wrote are as told later; without a side it wrote nothing
  abbrev AtCommit : ℕ → Log → ℕ → Type 0
  AtCommit e q s =
      ((side l s ≡ side q s) × (wrote (events l s) ≡ wrote (events q s)))
      × ((side q s ≡ neither → (e : ℕ) → last_write (events q s) e ≡ None) × ((last_write (events q s) e ≡ None) ⊎ (wrote (events q s) ≡ true)))

  at_commit : (e : ℕ) → Commits (AtCommit e) l
  at_commit e =
      commits_both (λ q s. (side l s ≡ side q s) × (wrote (events l s) ≡ wrote (events q s)))
      (λ q s. (side q s ≡ neither → (e : ℕ) → last_write (events q s) e ≡ None) × ((last_write (events q s) e ≡ None) ⊎ (wrote (events q s) ≡ true))) l
      i.agree
      (commits_map (λ q s. side q s ≡ neither → (e : ℕ) → last_write (events q s) e ≡ None)
      (λ q s. (side q s ≡ neither → (e : ℕ) → last_write (events q s) e ≡ None) × ((last_write (events q s) e ≡ None) ⊎ (wrote (events q s) ≡ true))) l
      (λ q s m h. (h, wrote_if (events q s) e)) tables.writers_sided)

  -- such a set gives the image
  gives_image : (S : ℕ → Bool) → ExactlyBefore l S → laid first S (opening l) l ≡ p.image
  gives_image S jb =
      let c = length_laid first S (opening l) l ∙ opening_count in
      ext_get_or blank (laid first S (opening l) l) p.image (c ∙ sym (i.in_round rd).image_count)
      (λ e lt.
      let le : e < n = omega arith in
      set_at S e le
      ∙ laid_same first (λ _. S) Before l e (entry (opening l) e)
      (commits_map (AtCommit e) (λ q s. (S s ≡ Before q s) ⊎ (last_write (events q s) e ≡ None)) l
      (λ q s m h. pick e q s m h.0.0 h.0.1 h.1.0 h.1.1 (side q s) refl)
      (at_commit e))
      ∙ sym (image_at e le))
    where
      pick : (e : ℕ) (q : Log) (s : ℕ) → committed l s ≡ true → side l s ≡ side q s → wrote (events l s) ≡ wrote (events q s)
          → (side q s ≡ neither → (e : ℕ) → last_write (events q s) e ≡ None)
          → (last_write (events q s) e ≡ None) ⊎ (wrote (events q s) ≡ true) → (σ : Side) → side q s ≡ σ
          → (S s ≡ Before q s) ⊎ (last_write (events q s) e ≡ None)
      pick e q s m a b c (inl w) σ z = inr w
      pick e q s m a b c (inr w) neither z = inr (c z e)
      pick e q s m a b c (inr w) before z =
          inl (from_T (S s) (jb.0 s (to_T m) (to_T (ap is_before (a ∙ z))) (to_T (b ∙ w))) ∙ sym (ap is_before z))
      pick e q s m a b c (inr w) after z =
          inl (elim (bool_cases (S s)) [ inl y ↦ absurd (jb.1 s (to_T y) (to_T (ap is_after (a ∙ z))) (to_T (b ∙ w))) | inr y ↦ y ∙ sym (ap is_before z) ])

  -- and no other does
  module _ (S : ℕ → Bool) (q : laid first S (opening l) l ≡ p.image) where
    apart_at : (e : ℕ) → e < n → Commits (ToldApart S e) l
    apart_at e lt =
        one_set first S l e (entry (opening l) e)
        (commits_map (λ q s. (C : Choice) (e : ℕ) → e < n → (laid_at first C q e (entry (opening l) e)).hand < first + commits_that_wrote q)
        (HandsBelow first e (entry (opening l) e)) l (λ q s m h C. h C e lt) tables.hands_then)
        (tables.in_order e) tables.writers_sided
        (sym (set_at S e lt) ∙ ap (λ t. entry t e) q ∙ image_at e lt)

    -- of a writer: its side is as told later, it wrote to some entry, and each entry tells it apart
    abbrev OfWriter : Log → ℕ → Type 0
    OfWriter q s =
        ((side l s ≡ side q s) × (wrote (events l s) ≡ wrote (events q s)))
        × ((wrote (events q s) ≡ true → (e : ℕ) × (e < n) × ((t : Text) × (last_write (events q s) e ≡ Some t))) × ((e : ℕ) → e < n → ToldApart S e q s))

    of_writers : Commits OfWriter l
    of_writers =
        commits_both (λ q s. (side l s ≡ side q s) × (wrote (events l s) ≡ wrote (events q s)))
        (λ q s. (wrote (events q s) ≡ true → (e : ℕ) × (e < n) × ((t : Text) × (last_write (events q s) e ≡ Some t))) × ((e : ℕ) → e < n → ToldApart S e q s)) l
        i.agree
        (commits_both (λ q s. wrote (events q s) ≡ true → (e : ℕ) × (e < n) × ((t : Text) × (last_write (events q s) e ≡ Some t)))
        (λ q s. (e : ℕ) → e < n → ToldApart S e q s) l
        tables.writes_then (commits_each n (λ e. ToldApart S e) l apart_at))

    -- S has a session that committed and wrote exactly if it is Before
    exactly : (s : ℕ) → committed l s ≡ true → wrote (events l s) ≡ true → S s ≡ Before l s
    exactly s c wr =
        let f : (q : Log) × OfWriter q s = commits_find OfWriter l s c of_writers in
        let w = f.1.1.0 (sym f.1.0.1 ∙ wr) in
        f.1.1.1 w.0 w.1 w.2.0 w.2.1 ∙ sym (ap is_before f.1.0.0)

  -- no session is Before and After
  not_before : (σ : Side) → is_after σ ≡ true → is_before σ ≡ false
  not_before neither h = refl
  not_before before h = absurd (false≢true h)
  not_before after h = refl

  only_such : (S : ℕ → Bool) → ((s : ℕ) → T (S s) → T (committed l s)) → laid first S (opening l) l ≡ p.image → ExactlyBefore l S
  only_such S sub q = (
    λ s c sd wr. to_T (exactly S q s (from_T (committed l s) c) (from_T (wrote (events l s)) wr) ∙ from_T (Before l s) sd),
    λ s ss sd wr.
        not_both (from_T (S s) ss)
        (exactly S q s (from_T (committed l s) (sub s ss)) (from_T (wrote (events l s)) wr) ∙ not_before (side l s) (from_T (After l s) sd)),
  )

  pub image_law : ImageLaw first l p.image
  image_law S sub = (only_such S sub, gives_image S)
