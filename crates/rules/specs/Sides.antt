-- The sides of the sessions in the round that was opened last, as told.
use Rattle.std.specs.Prelude.{ℕ, Bool, cond, [], ◌∷◌, ◌==◌}
use Rattle.rules.specs.Office.{Side, neither, before, is_before, is_after}
use Rattle.rules.specs.Rules.{first_side}
use Rattle.rules.specs.History.{
  claims,
  reads,
  writes,
  commits,
  leaves,
  Event,
  nothing,
  by,
  opens,
  copies,
  works,
  closes,
  drops,
  Log,
  events,
}
use Rattle.rules.specs.Holding.{holds_any}
use Rattle.rules.specs.Copying.{copied}

-- the side of session s after an event: its side was σ, it held an entry if h, and c were the marks
abbrev pub side_by : Event → ℕ → Bool → (ℕ → Bool) → Side → Side
side_by nothing s h c σ = σ
side_by (by k (claims e)) s h c σ = cond (s == k) (first_side σ (c e)) σ
side_by (by k (reads e t)) s h c σ = σ
side_by (by k (writes e t)) s h c σ = σ
side_by (by k commits) s h c σ = σ
side_by (by k leaves) s h c σ = σ
side_by opens s h c σ = cond h before neither
side_by (copies e) s h c σ = σ
side_by (works k) s h c σ = σ
side_by closes s h c σ = σ
side_by drops s h c σ = σ

-- Before if session s held an entry at the open; else by its first granted claim since: Before if the entry was not copied
-- then, and After if it was
abbrev pub side : Log → ℕ → Side
side [] s = neither
side (r ∷ l) s = side_by r.event s (holds_any (events l s)) (copied l) (side l s)

-- session s is Before
abbrev pub Before : Log → ℕ → Bool
Before l s = is_before (side l s)

-- session s is After
abbrev pub After : Log → ℕ → Bool
After l s = is_after (side l s)
