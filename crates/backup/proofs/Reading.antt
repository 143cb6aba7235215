-- A read from the live table.
use Rattle.std.proofs.Common.{◌≡◌, ℕ, List, length, take, drop, Result, sym, refl, ap, ◌∙◌, subst, ⊎_elim}
use Rattle.std.proofs.lemmas.List.{take_at, drop_at}
use Rattle.std.proofs.lemmas.Bool.{cases_lt, cond-true, cond-false, lt-ltb, le-ltb}
use Rattle.tables.specs.Tables.{Table, entry}
use Rattle.tables.specs.Answers.{Front, TextAnswer}
use Rattle.tables.specs.declared.refusal.Refusal.{Refusal}
use Rattle.tables.specs.declared.refusal.Refusal.TheVariants.{ShortBuffer}
use Rattle.rules.specs.Office.{refused, found}
use Rattle.sessions.specs.Answers.{fetched}
use Rattle.backup.specs.Answers.{read_out, RestKept}

-- a text put at the front of a buffer is read out, or the buffer is too short for it
pub front_read : (t buf buf' : List ℕ) (r : Result ℕ Refusal) → Front t buf r buf' → fetched (length buf) t ≡ read_out r buf'
front_read t buf buf' r a =
    ⊎_elim
    (λ short. cond-true _ (refused ShortBuffer) (found t) (lt-ltb _ _ short) ∙ ap (λ x. read_out x buf') (sym (a.1 short).0))
    (λ fits.
    cond-false _ (refused ShortBuffer) (found t) (le-ltb _ _ fits)
    ∙ ap found (sym (ap (take (length t)) (a.0 fits).1 ∙ take_at t (drop (length t) buf) (length t) refl))
    ∙ ap (λ x. read_out x buf') (sym (a.0 fits).0))
    (cases_lt (length buf) (length t))

front_rest : (t buf buf' : List ℕ) (r : Result ℕ Refusal) → Front t buf r buf' → RestKept r buf buf'
front_rest t buf buf' r a =
    let P : Result ℕ Refusal → Type 0 = λ x. RestKept x buf buf' in
    ⊎_elim
    (λ short. subst P (sym (a.1 short).0) (a.1 short).1)
    (λ fits. subst P (sym (a.0 fits).0) (ap (drop (length t)) (a.0 fits).1 ∙ drop_at t (drop (length t) buf) (length t) refl))
    (cases_lt (length buf) (length t))

-- a table's text leaves the rest of the buffer
pub text_rest : (T : Table) (e : ℕ) (buf buf' : List ℕ) (r : Result ℕ Refusal) → TextAnswer T e buf r buf' → RestKept r buf buf'
text_rest T e buf buf' r a =
    let P : Result ℕ Refusal → Type 0 = λ x. RestKept x buf buf' in
    ⊎_elim
    (λ within. front_rest (entry T e).text buf buf' r (a.0 within))
    (λ past. subst P (sym (a.1 past).0) (a.1 past).1)
    (cases_lt e (length T))
