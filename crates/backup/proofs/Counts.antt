-- While a round is open the two tables have the same count: each call keeps it so.
use Rattle.std.proofs.Common.{◌≡◌, ℕ, zero, suc, Bool, true, false, cond, ◌&&◌, Some, None, Option, sym, refl, ◌∙◌, subst, eqb-true}
use borrow.Author.Tests.{not-false}
use Rattle.std.proofs.lemmas.List.{length-set}
use Rattle.std.proofs.lemmas.Bool.{false≢true}
use Rattle.tables.specs.Tables.{Table, entry}
use Rattle.tables.specs.declared.refusal.Refusal.{Refusal}
use Rattle.tables.specs.declared.refusal.Refusal.TheVariants.{Ended}
use Rattle.modes.specs.Kind.{Kind}
use Rattle.rules.specs.Numbers.{first_of, maybe}
use Rattle.rules.specs.Office.{is_before, Office, session, mode_at, Call, begin, claim, read, write, commit, leave, open_round, copy, work, close_round, drop_round, Answer, refused, done}
use Rattle.rules.specs.Rules.{wanted, next_of, declines, perform, decided, step, Step, committed_entry, after_leave, after_claim, after_commit, after_copy, after_work}
use Rattle.rules.proofs.Declined.{none_fit}
use Rattle.rules.proofs.Entries.{length_each}
use Rattle.sessions.specs.View.{view, ByRule, ByRules}
use Rattle.sessions.specs.declared.table.SessionTable.{SessionTable}
use Rattle.backup.specs.Serving.{Kept}

module _ (n : ℕ) where
  copy_kept : (o : Office) (e : ℕ) → Kept n o → Kept n (after_copy o e)
  copy_kept o e k = (k.0, λ r. length-set o.image e (entry o.live e) ∙ k.1 r)

  pub work_kept : (k : ℕ) (o : Office) → Kept n o → Kept n (after_work k o).1
  work_kept zero o kept = kept
  work_kept (suc k) o kept = go (next_of o) (λ e. work_kept k (after_copy o e) (copy_kept o e kept))
    where
      go : (x : Option ℕ) → ((e : ℕ) → Kept n (after_work k (after_copy o e)).1) → Kept n (maybe {A = ℕ × Office} x (0, o) (λ e. (suc (after_work k (after_copy o e)).0, (after_work k (after_copy o e)).1))).1
      go None more = kept
      go (Some e) more = more e

module _ (K : Kind) (n : ℕ) (o : Office) (kept : Kept n o) where
  on_other : (c : Call) → Kept n (perform K o c).1 → (y : Option Refusal) → Kept n (decided K o c y).1
  on_other c p (Some r) = kept
  on_other c p None = p

  on_open : (y : Option Refusal) → first_of (declines K o open_round) ≡ y → Kept n (decided K o open_round y).1
  on_open (Some r) q = kept
  on_open None q = (kept.0, λ r. eqb-true _ _ (not-false _ (none_fit (declines K o open_round) q).1.0))

  on_claim : (s e m : ℕ) → Kept n (perform K o (claim s e m)).1
  on_claim s e m = go (o.round && (is_before (session o s).side && o.copied e))
    where
      go : (b : Bool) → Kept n (cond {A = Answer × Office} b (refused Ended, after_leave o s) (done, after_claim o s e (wanted K m (mode_at o s e)))).1
      go true = kept
      go false = kept

  on_commit : (s : ℕ) → Kept n (after_commit o s)
  on_commit s =
      let l = length_each (λ e x. committed_entry o.next_hand ((session o s).text e) x) o.live in
      (l ∙ kept.0, λ r. kept.1 r ∙ sym l)

  step_kept : (c : Call) → Kept n (step K o c).1
  step_kept begin = on_other begin kept (first_of (declines K o begin))
  step_kept (claim s e m) = on_other (claim s e m) (on_claim s e m) (first_of (declines K o (claim s e m)))
  step_kept (read s e room) = on_other (read s e room) kept (first_of (declines K o (read s e room)))
  step_kept (write s e t) = on_other (write s e t) kept (first_of (declines K o (write s e t)))
  step_kept (commit s) = on_other (commit s) (on_commit s) (first_of (declines K o (commit s)))
  step_kept (leave s) = on_other (leave s) kept (first_of (declines K o (leave s)))
  step_kept open_round = on_open (first_of (declines K o open_round)) refl
  step_kept (copy e) = on_other (copy e) (copy_kept n o e kept) (first_of (declines K o (copy e)))
  step_kept (work k) = on_other (work k) (work_kept n k o kept) (first_of (declines K o (work k)))
  step_kept close_round = on_other close_round (kept.0, λ r. absurd (false≢true r)) (first_of (declines K o close_round))
  step_kept drop_round = on_other drop_round (kept.0, λ r. absurd (false≢true r)) (first_of (declines K o drop_round))

-- a call by the rules leaves an office that is kept, of as many entries
pub kept_by_rule : (K : Kind) (n n' : ℕ) (o p : Office) (c : Call) (a : Answer) → Kept n o → n' ≡ n → Step K o c a p → Kept n' p
kept_by_rule K n n' o p c a kept same s =
    subst (λ m. Kept m p) (sym same) (subst (λ (z : Answer × Office). Kept n z.1) (sym s) (step_kept K n o kept c))

-- so does a call of the session table alone, with the office's two tables
pub kept_by_sessions : (K : Kind) (t t' : SessionTable) (live image : Table) (c : Call) (a : Answer) → Kept t.entries (view t live image) → ByRule K t c a t'
    → Kept t'.entries (view t' live image)
kept_by_sessions K t t' live image c a kept rule =
    kept_by_rule K t.entries t'.entries (view t live image) (view t' live image) c a kept rule.0 (rule.1 live image kept.0)

-- the same of a call that keeps to the rules of every kind
pub kept_by_all : (K : Kind) (t t' : SessionTable) (live image : Table) (c : Call) (a : Answer) → Kept t.entries (view t live image) → ByRules t c a t'
    → Kept t'.entries (view t' live image)
kept_by_all K t t' live image c a kept rules = kept_by_sessions K t t' live image c a kept (rules.0, λ l i n. rules.1 l i n K)
