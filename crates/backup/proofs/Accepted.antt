-- What an accepted call says of the office.
use Rattle.std.proofs.Common.{◌≡◌, ℕ, ◌<◌, true, not, ◌&&◌, length, set, Some, None, Ok, Option, Result, sym, refl, ap, ◌∙◌, subst, ⊎_elim, arith}
use borrow.Author.Tests.{not-false}
use Rattle.std.proofs.lemmas.List.{set_past}
use Rattle.std.proofs.lemmas.Bool.{cases_lt}
use Rattle.tables.specs.Tables.{Table, entry}
use Rattle.tables.specs.declared.refusal.Refusal.{Refusal}
use Rattle.restore.specs.Restored.{EntryCopied}
use Rattle.modes.specs.Kind.{Kind}
use Rattle.rules.specs.Numbers.{first_of}
use Rattle.rules.specs.Office.{Office, entries, is_held, copy, done}
use Rattle.rules.specs.Rules.{next_of, declines, decided, Step}
use Rattle.sessions.specs.Answers.{did}
use Rattle.sessions.specs.View.{view}
use Rattle.sessions.specs.declared.table.SessionTable.{SessionTable}
use Rattle.backup.specs.Serving.{Kept}
use Rattle.rules.proofs.Below.{lowest_some}
use Rattle.rules.proofs.Declined.{none_fit, below_if}

-- a copy that is accepted is of an entry, in a round
pub copy_accepted : (K : Kind) (o : Office) (e : ℕ) (p : Office) → Step K o (copy e) done p → (e < entries o) × (o.round ≡ true)
copy_accepted K o e p s = go (first_of (declines K o (copy e))) refl (ap (λ z. z.0) s)
  where
    go : (y : Option Refusal) → first_of (declines K o (copy e)) ≡ y → done ≡ (decided K o (copy e) y).0 → (e < entries o) × (o.round ≡ true)
    go (Some r) q a = let z : ◌≡◌ {A = ℕ} 0 1 = cc in absurd (omega arith)
    go None q a = let f = none_fit (declines K o (copy e)) q in (below_if e (entries o) f.0, not-false _ f.1.0)

-- what next names is an entry
pub next_within : (o : Office) (e : ℕ) → next_of o ≡ Some e → e < entries o
next_within o e n = (lowest_some (entries o) (λ j. not (o.copied j) && not (is_held o j)) e n).0

-- an entry of the live table that is copied is set in the image, where the image has it
pub image_set : (live image image' : Table) (e : ℕ) (r : Result (Unit {0}) Refusal) → e < length live → EntryCopied live image e r image' → image' ≡ set image e (entry live e)
image_set live image image' e r low a =
    ⊎_elim
    (λ within. (a.0 low within).1)
    (λ past. (a.2 past).1 ∙ sym (set_past image e (entry live e) past))
    (cases_lt e (length image))

-- what the copy of a marked entry leaves is what the rule says
pub copied_step : (K : Kind) (t t' : SessionTable) (live image : Table) (e : ℕ) → Kept t.entries (view t live image)
    → Step K (view t live image) (copy e) (did (Ok tt)) (view t' live (set image e (entry live e)))
    → (r : Result (Unit {0}) Refusal) (image' : Table) → EntryCopied live image e r image' → Step K (view t live image) (copy e) (did r) (view t' live image')
copied_step K t t' live image e kept rule r image' a =
    let accepted = copy_accepted K (view t live image) e (view t' live (set image e (entry live e))) rule in
    let within : e < length image = (let n = kept.1 accepted.1 in omega (arith, accepted.0, n)) in
    let copied = a.0 accepted.0 within in
    let answered : Result (Unit {0}) Refusal → Type 0 = λ x. Step K (view t live image) (copy e) (did x) (view t' live (set image e (entry live e))) in
    let after : Table → Type 0 = λ i. Step K (view t live image) (copy e) (did r) (view t' live i) in
    subst after (sym copied.1) (subst answered (sym copied.0) rule)
