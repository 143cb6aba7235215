-- From answers that are compared to what the tables hold.
use Rattle.std.proofs.Common.{◌≡◌, ◌≢◌, ℕ, ◌<◌, ◌≤◌, Bool, List, ◌++◌, length, take, drop, Some, None, Option, Decides, sym, refl, ap, ◌∙◌, subst, arith}
use Rattle.std.specs.Option.{MatchOption}
use Rattle.std.proofs.lemmas.List.{take_at, ext_get_or}
use Rattle.tables.specs.Tables.{Table, blank, entry}
use Rattle.compare.specs.Compared.{Compared}
use Rattle.compare.specs.declared.Comparison.{Comparison}
use Rattle.compare.specs.declared.Comparison.TheVariants.{Same, Entry}

-- equal texts in equal buffers leave equal buffers, and equal lengths and buffers show equal texts
pub by_buffers : (s t z a b : List ℕ) (r : Bool) → length s ≡ length t → a ≡ s ++ drop (length s) z → b ≡ t ++ drop (length t) z → Decides r (a ≡ b) → Decides r (s ≡ t)
by_buffers s t z a b r l p q d = (
  λ h. sym (take_at s (drop (length s) z) (length s) refl)
      ∙ ap (take (length s)) (sym p ∙ d.0 h ∙ q)
      ∙ take_at t (drop (length t) z) (length s) (sym l),
  λ h. d.1 (p ∙ ap (λ x. x ++ drop (length x) z) h ∙ sym q),
)

-- the first entry below n that differs, if there is one, or the tables are the same
pub first_or_same : (t u : Table) (n : ℕ) (o : Option ℕ) (c : Comparison) → n ≡ length t → length t ≡ length u
    → MatchOption o ((k : ℕ) → 0 ≤ k → k < n → entry t k ≡ entry u k) (λ i. (0 ≤ i) × (i < n) × (entry t i ≢ entry u i) × ((k : ℕ) → 0 ≤ k → k < i → entry t k ≡ entry u k))
    → MatchOption o (c ≡ Same) (λ i. c ≡ Entry i) → Compared t u c
first_or_same t u n None c p q f m =
    subst (Compared t u) (sym m) (ext_get_or blank t u q (λ k l. f k (omega arith) (omega (arith, p))))
first_or_same t u n (Some i) c p q f m =
    subst (Compared t u) (sym m) (q, omega (arith, p, f.1), λ k l. f.3 k (omega arith) l, f.2)
