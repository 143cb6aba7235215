-- The file over which a reader is made.
use Rattle.std.proofs.Common.{◌≡◌, ℕ, ◌<◌, ◌⊎◌, List, [], ◌∷◌, get_or, sym, refl, ap, ◌∙◌, subst, inl, inr, arith}
use Rattle.tables.specs.Tables.{Table, Lawful}
use Rattle.imageformat.specs.Format.{written}
use Rattle.imagefile.specs.Shown.{Accepted, shown}
use Rattle.imagefile.specs.Rules.{Passes}
use Rattle.imagefile.proofs.Verdicts.{accepted_passes}
use Rattle.imagefile.proofs.Written.{shows}
use Rattle.imagefile.proofs.Back.{written_back}

-- the file of the empty table
abbrev empty : List ℕ
empty = 0 ∷ (1 ∷ (0 ∷ (0 ∷ [])))

-- the bytes that were lent where they are accepted, else the file of the empty table
abbrev pub Opened : List ℕ → List ℕ → Type 0
Opened bs file = (Accepted bs × (file ≡ bs)) ⊎ ((Accepted bs → ⊥) × (file ≡ empty))

-- the file of the empty table keeps all rules
empty_passes : Passes empty
empty_passes = ((omega arith, refl, omega arith, omega arith), (λ k h. absurd (omega arith)), refl)

-- the file keeps all rules
pub opened_passes : {bs file : List ℕ} → Opened bs file → Passes file
opened_passes {bs} (inl a) = let P : List ℕ → Type 0 = Passes in subst P (sym a.1) (accepted_passes bs a.0)
opened_passes (inr r) = let P : List ℕ → Type 0 = Passes in subst P (sym r.1) empty_passes

-- it shows the table that was written
pub opened_shows : {bs file : List ℕ} → Opened bs file → (t : Table) → Lawful t → bs ≡ written t → shown file ≡ t
opened_shows {bs} (inl a) t l e = ap shown a.1 ∙ shows t l bs e
opened_shows (inr r) t l e = absurd (r.0 (t, l, e))

-- it shows nothing where the bytes are refused
pub opened_refused : {bs file : List ℕ} → Opened bs file → (Accepted bs → ⊥) → shown file ≡ []
opened_refused (inl a) no_file = absurd (no_file a.0)
opened_refused (inr r) no_file = ap shown r.1

-- written again it is the bytes that were lent
pub opened_back : {bs file : List ℕ} → ((i : ℕ) → get_or bs i 0 < 256) → Opened bs file → Accepted bs → (written (shown file) ≡ bs) × (file ≡ bs)
opened_back {bs} small (inl a) _ = (ap (λ l. written (shown l)) a.1 ∙ written_back bs (accepted_passes bs a.0) small, a.1)
opened_back small (inr r) a = absurd (r.0 a)
