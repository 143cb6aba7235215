-- What a session has read and written, from its events.
use Rattle.std.proofs.Common.{◌≡◌, ℕ, Bool, true, false, ◌||◌, eqb, ◌⊎◌, List, [], ◌∷◌, None, unwrap_or, sym, refl, ap, ◌∙◌, inl, inr}
use Rattle.tables.specs.Tables.{Entry}
use Rattle.rules.specs.History.{SessionEvent, claims, reads, writes, commits, leaves}
use Rattle.rules.specs.Writing.{last_write, wrote}
use Rattle.rules.specs.Laying.{ReadsRight}
use Rattle.rules.proofs.Tests.{or_right, eqb_self}

-- a read of entry e was accepted
abbrev pub has_read : List SessionEvent → ℕ → Bool
has_read [] e = false
has_read (claims j ∷ vs) e = has_read vs e
has_read (reads j t ∷ vs) e = eqb e j || has_read vs e
has_read (writes j t ∷ vs) e = has_read vs e
has_read (commits ∷ vs) e = has_read vs e
has_read (leaves ∷ vs) e = has_read vs e

-- what was read is found in other entries too, if their texts are the same where it was read
pub reads_same : (f g : ℕ → Entry) (vs : List SessionEvent) → ((e : ℕ) → has_read vs e ≡ true → (f e).text ≡ (g e).text)
    → ReadsRight f vs → ReadsRight g vs
reads_same f g [] h r = tt
reads_same f g (claims j ∷ vs) h r = reads_same f g vs h r
reads_same f g (reads j t ∷ vs) h r = (
  ap (λ z. unwrap_or (last_write vs j) z) (sym (h j (ap (λ b. b || has_read vs j) (eqb_self j)))) ∙ r.0,
  reads_same f g vs (λ e q. h e (or_right (eqb e j) (has_read vs e) q)) r.1,
)
reads_same f g (writes j t ∷ vs) h r = reads_same f g vs h r
reads_same f g (commits ∷ vs) h r = reads_same f g vs h r
reads_same f g (leaves ∷ vs) h r = reads_same f g vs h r

-- a session that wrote nothing wrote nothing to an entry
pub wrote_if : (vs : List SessionEvent) (e : ℕ) → (last_write vs e ≡ None) ⊎ (wrote vs ≡ true)
wrote_if [] e = inl refl
wrote_if (claims j ∷ vs) e = wrote_if vs e
wrote_if (reads j t ∷ vs) e = wrote_if vs e
wrote_if (writes j t ∷ vs) e = inr refl
wrote_if (commits ∷ vs) e = wrote_if vs e
wrote_if (leaves ∷ vs) e = wrote_if vs e
