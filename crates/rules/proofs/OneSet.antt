-- One entry of the image tells of each session that wrote it whether it was laid there.
use Rattle.std.proofs.Common.{◌≡◌, ℕ, suc, ◌+◌, ◌<◌, ◌≤◌, Bool, true, false, cond, [], ◌∷◌, Some, None, Option, refl, ap, arith}
use mathlib.Core.Bool.{false≢true}
use Rattle.tables.specs.Tables.{Entry}
use Rattle.rules.specs.Office.{Text, Side, neither, before, after, is_before, is_after}
use Rattle.rules.specs.History.{Log, events}
use Rattle.rules.specs.Sides.{side, Before, After}
use Rattle.rules.specs.Writing.{last_write, committer, is_open, commits_that_wrote}
use Rattle.rules.specs.Laying.{lay_entry}
use Rattle.rules.proofs.Tests.{some_none}
use Rattle.rules.proofs.Commits.{of_commit, Commits}
use Rattle.rules.proofs.LaidEntries.{Choice, laid_at_commit, laid_at, NoneWrote}
use Rattle.rules.proofs.Invariant.{InOrder, WritersSided}

-- S has a session that wrote entry e exactly if it is Before
abbrev pub ToldApart : (ℕ → Bool) → ℕ → Log → ℕ → Type 0
ToldApart S e p s = (t : Text) → last_write (events p s) e ≡ Some t → S s ≡ Before p s

-- a session with a text is Before, if neither an After one nor one without a side has it
before_else : (σ : Side) (w : Option Text) (t : Text) → w ≡ Some t → (is_after σ ≡ true → w ≡ None) → (σ ≡ neither → w ≡ None) → is_before σ ≡ true
before_else neither w t q a c = some_none q (c refl)
before_else before w t q a c = refl
before_else after w t q a c = some_none q (a refl)

-- where no After session wrote e, the edition counts the writers
editions : (first : ℕ) (S : ℕ → Bool) (l : Log) (e : ℕ) (x : Entry) → NoneWrote After e l → WritersSided l
    → ((laid_at first (λ _. S) l e x).edition ≤ (laid_at first Before l e x).edition)
    × ((laid_at first (λ _. S) l e x).edition ≡ (laid_at first Before l e x).edition → Commits (ToldApart S e) l)
editions first S [] e x na ws = (omega arith, λ q. tt)
editions first S (r ∷ l) e x na ws = go (is_open r.event) (committer r.event) na ws (editions first S l e x)
  where
    H : ℕ
    H = first + commits_that_wrote l

    X : Entry
    X = laid_at first (λ _. S) l e x

    Y : Entry
    Y = laid_at first Before l e x

    put : (w : Option Text) (b c : Bool) → ((t : Text) → w ≡ Some t → c ≡ true)
        → (X.edition ≤ Y.edition) × (X.edition ≡ Y.edition → Commits (ToldApart S e) l)
        → ((cond b (lay_entry H w X) X).edition ≤ (cond c (lay_entry H w Y) Y).edition)
        × ((cond b (lay_entry H w X) X).edition ≡ (cond c (lay_entry H w Y) Y).edition → ((t : Text) → w ≡ Some t → b ≡ c) × Commits (ToldApart S e) l)
    put None true true f ih = (ih.0, λ q. (λ t z. refl, ih.1 q))
    put None true false f ih = (ih.0, λ q. (λ t z. some_none z refl, ih.1 q))
    put None false true f ih = (ih.0, λ q. (λ t z. some_none z refl, ih.1 q))
    put None false false f ih = (ih.0, λ q. (λ t z. refl, ih.1 q))
    put (Some t) b false f ih = absurd (false≢true (f t refl))
    put (Some t) true true f ih = let i = ih.0 in (omega arith, λ q. (λ t z. refl, ih.1 (omega arith)))
    put (Some t) false true f ih = let i = ih.0 in (omega arith, λ q. absurd (omega arith))

    go : (b : Bool) (c : Option ℕ) → cond b (Unit {0}) (of_commit (λ p s. After p s ≡ true → last_write (events p s) e ≡ None) l c (NoneWrote After e l))
        → cond b (Unit {0}) (of_commit (λ p s. side p s ≡ neither → (e : ℕ) → last_write (events p s) e ≡ None) l c (WritersSided l))
        → (NoneWrote After e l → WritersSided l → (X.edition ≤ Y.edition) × (X.edition ≡ Y.edition → Commits (ToldApart S e) l))
        → ((cond b x (laid_at_commit first (λ _. S) l c e X)).edition ≤ (cond b x (laid_at_commit first Before l c e Y)).edition)
        × ((cond b x (laid_at_commit first (λ _. S) l c e X)).edition ≡ (cond b x (laid_at_commit first Before l c e Y)).edition
        → cond b (Unit {0}) (of_commit (ToldApart S e) l c (Commits (ToldApart S e) l)))
    go true c na ws ih = (omega arith, λ q. tt)
    go false None na ws ih = ih na ws
    go false (Some s) na ws ih =
        put (last_write (events l s) e) (S s) (Before l s) (λ t q. before_else (side l s) (last_write (events l s) e) t q na.0 (λ z. ws.0 z e)) (ih na.1 ws.1)

-- the hand of an entry laid before a commit is below the commit's
abbrev pub HandsBelow : ℕ → ℕ → Entry → Log → ℕ → Type 0
HandsBelow first e x p s = (C : Choice) → (laid_at first C p e x).hand < first + commits_that_wrote p

-- equal entries tell equal sets: the newest writer by its hand, the others by the editions
pub one_set : (first : ℕ) (S : ℕ → Bool) (l : Log) (e : ℕ) (x : Entry)
    → Commits (HandsBelow first e x) l → InOrder e l → WritersSided l
    → laid_at first (λ _. S) l e x ≡ laid_at first Before l e x → Commits (ToldApart S e) l
one_set first S [] e x hs io ws q = tt
one_set first S (r ∷ l) e x hs io ws q = go (is_open r.event) (committer r.event) hs io ws q (one_set first S l e x)
  where
    H : ℕ
    H = first + commits_that_wrote l

    X : Entry
    X = laid_at first (λ _. S) l e x

    Y : Entry
    Y = laid_at first Before l e x

    put : (w : Option Text) (b c : Bool) → X.hand < H → Y.hand < H
        → (c ≡ true → (t : Text) → w ≡ Some t → X.edition ≡ Y.edition → Commits (ToldApart S e) l)
        → (X ≡ Y → Commits (ToldApart S e) l)
        → cond b (lay_entry H w X) X ≡ cond c (lay_entry H w Y) Y
        → ((t : Text) → w ≡ Some t → b ≡ c) × Commits (ToldApart S e) l
    put None true true hx hy ed ih q = (λ t z. refl, ih q)
    put None true false hx hy ed ih q = (λ t z. some_none z refl, ih q)
    put None false true hx hy ed ih q = (λ t z. some_none z refl, ih q)
    put None false false hx hy ed ih q = (λ t z. refl, ih q)
    put (Some t) true true hx hy ed ih q =
        let d : suc X.edition ≡ suc Y.edition = ap (λ z. z.edition) q in
        (λ t z. refl, ed refl t refl (omega arith))
    put (Some t) true false hx hy ed ih q = let d : H ≡ Y.hand = ap (λ z. z.hand) q in absurd (omega arith)
    put (Some t) false true hx hy ed ih q = let d : X.hand ≡ H = ap (λ z. z.hand) q in absurd (omega arith)
    put (Some t) false false hx hy ed ih q = (λ t z. refl, ih q)

    go : (b : Bool) (c : Option ℕ)
        → cond b (Unit {0}) (of_commit (HandsBelow first e x) l c (Commits (HandsBelow first e x) l))
        → cond b (Unit {0}) (of_commit (λ p s. Before p s ≡ true → (w : Text) → last_write (events p s) e ≡ Some w → NoneWrote After e p) l c (InOrder e l))
        → cond b (Unit {0}) (of_commit (λ p s. side p s ≡ neither → (e : ℕ) → last_write (events p s) e ≡ None) l c (WritersSided l))
        → cond b x (laid_at_commit first (λ _. S) l c e X) ≡ cond b x (laid_at_commit first Before l c e Y)
        → (Commits (HandsBelow first e x) l → InOrder e l → WritersSided l → X ≡ Y → Commits (ToldApart S e) l)
        → cond b (Unit {0}) (of_commit (ToldApart S e) l c (Commits (ToldApart S e) l))
    go true c hs io ws q ih = tt
    go false None hs io ws q ih = ih hs io ws q
    go false (Some s) hs io ws q ih =
        put (last_write (events l s) e) (S s) (Before l s) (hs.0 (λ _. S)) (hs.0 Before)
        (λ c t z d. (editions first S l e x (io.0 c t z) ws.1).1 d)
        (ih hs.1 io.1 ws.1) q
