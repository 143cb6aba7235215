-- Which entries a session holds, as told.
use Rattle.std.specs.Prelude.{ℕ, suc, max, Bool, true, false, ◌||◌, List, [], ◌∷◌, ◌==◌}
use Rattle.rules.specs.Numbers.{any_below}
use Rattle.rules.specs.History.{
  SessionEvent,
  claims,
  reads,
  writes,
  commits,
  leaves,
  Event,
  nothing,
  by,
  opens,
  copies,
  works,
  closes,
  drops,
  Log,
  events,
}

-- of a session's events: it was granted a claim of entry e, and has not ended
abbrev pub holds : List SessionEvent → ℕ → Bool
holds [] e = false
holds (claims j ∷ vs) e = e == j || holds vs e
holds (reads j t ∷ vs) e = holds vs e
holds (writes j t ∷ vs) e = holds vs e
holds (commits ∷ vs) e = false
holds (leaves ∷ vs) e = false

-- of a session's events: it was granted a claim, and has not ended
abbrev pub holds_any : List SessionEvent → Bool
holds_any [] = false
holds_any (claims j ∷ vs) = true
holds_any (reads j t ∷ vs) = holds_any vs
holds_any (writes j t ∷ vs) = holds_any vs
holds_any (commits ∷ vs) = false
holds_any (leaves ∷ vs) = false

-- n, or one above the number of the session that an event is of
abbrev pub above : Event → ℕ → ℕ
above nothing n = n
above (by k v) n = max (suc k) n
above opens n = n
above (copies e) n = n
above (works k) n = n
above closes n = n
above drops n = n

-- one above every session number told
abbrev pub numbers : Log → ℕ
numbers [] = 0
numbers (r ∷ l) = above r.event (numbers l)

-- some session holds entry e
abbrev pub held : Log → ℕ → Bool
held l e = any_below (numbers l) (λ s. holds (events l s) e)
