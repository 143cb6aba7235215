-- Which entries the round that was opened last has copied, as told.
use Rattle.std.specs.Prelude.{ℕ, zero, suc, Bool, true, false, [], ◌∷◌, length}
use Rattle.rules.specs.Numbers.{maybe, changed}
use Rattle.rules.specs.Rules.{next_entry}
use Rattle.rules.specs.History.{Event, nothing, by, opens, copies, works, closes, drops, Log}
use Rattle.rules.specs.Holding.{held}

-- the marks c after k more copies in next's order, of n entries of which h are held
abbrev pub marked : ℕ → ℕ → (ℕ → Bool) → (ℕ → Bool) → ℕ → Bool
marked zero n h c = c
marked (suc k) n h c = maybe (next_entry n h c) c (λ e. marked k n h (changed c e true))

-- the marks c after an event
abbrev pub marked_by : Event → ℕ → (ℕ → Bool) → (ℕ → Bool) → ℕ → Bool
marked_by nothing n h c = c
marked_by (by k v) n h c = c
marked_by opens n h c = λ _. false
marked_by (copies e) n h c = changed c e true
marked_by (works k) n h c = marked k n h c
marked_by closes n h c = c
marked_by drops n h c = c

-- a copy or a work since the open copied entry e
abbrev pub copied : Log → ℕ → Bool
copied [] = λ _. false
copied (r ∷ l) = marked_by r.event (length r.live) (held l) (copied l)
