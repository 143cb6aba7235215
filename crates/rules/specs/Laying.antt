-- Laying the writes of sessions on a table, and carrying sessions out whole.
use Rattle.std.specs.Prelude.{◌≡◌, ℕ, suc, ◌+◌, Bool, cond, T, List, [], ◌∷◌, Some, None, Option}
use Rattle.std.specs.Option.{unwrap_or}
use Rattle.tables.specs.Tables.{Entry, of, Table, entry}
use Rattle.rules.specs.Numbers.{maybe}
use Rattle.rules.specs.Office.{Text}
use Rattle.rules.specs.Rules.{each}
use Rattle.rules.specs.History.{SessionEvent, claims, reads, writes, commits, leaves, Log, events}
use Rattle.rules.specs.Writing.{last_write, committer, is_open, commits_that_wrote}

-- an entry under a text written, if any: that text, with the edition one higher and the hand
abbrev pub lay_entry : ℕ → Option Text → Entry → Entry
lay_entry hand None x = x
lay_entry hand (Some t) x = of t (suc x.edition) hand

-- a table under the texts w of a session
abbrev pub lay : ℕ → (ℕ → Option Text) → Table → Table
lay hand w t = each (λ e x. lay_entry hand (w e) x) t

-- the table reached from t when, in order of commit, the last writes of those sessions of S are laid that committed since the
-- open; the hand of a commit is the first hand plus the number of earlier commits that wrote
abbrev pub laid : ℕ → (ℕ → Bool) → Table → Log → Table
laid first S t [] = t
laid first S t (r ∷ l) =
    cond
    (is_open r.event)
    t
    (maybe (committer r.event) (laid first S t l) (λ s.
    cond (S s) (lay (first + commits_that_wrote l) (last_write (events l s)) (laid first S t l)) (laid first S t l)))

-- a session carried out on the entries f: each of its reads finds what it was answered, its own last write before that read,
-- or else the text of f
abbrev pub ReadsRight : (ℕ → Entry) → List SessionEvent → Type 0
ReadsRight f [] = Unit {0}
ReadsRight f (claims e ∷ vs) = ReadsRight f vs
ReadsRight f (reads e t ∷ vs) = (unwrap_or (last_write vs e) (f e).text ≡ t) × ReadsRight f vs
ReadsRight f (writes e t ∷ vs) = ReadsRight f vs
ReadsRight f (commits ∷ vs) = ReadsRight f vs
ReadsRight f (leaves ∷ vs) = ReadsRight f vs

-- those sessions of S that committed since the open, carried out whole on t in order of commit: each read finds what it was
-- answered in the table that the sessions before it left
abbrev pub CarriedRight : ℕ → (ℕ → Bool) → Table → Log → Type 0
CarriedRight first S t [] = Unit {0}
CarriedRight first S t (r ∷ l) =
    cond
    (is_open r.event)
    (Unit {0})
    (maybe (committer r.event) (CarriedRight first S t l) (λ s.
    (T (S s) → ReadsRight (entry (laid first S t l)) (events l s)) × CarriedRight first S t l))
