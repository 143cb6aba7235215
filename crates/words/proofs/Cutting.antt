-- Where the first separator stands, the bytes are cut.
use Rattle.std.proofs.Common.{◌≡◌, ℕ, zero, suc, ◌<◌, List, [], ◌∷◌, length, get_or, take, drop, Some, None, refl, ap, arith, eq-eqb, ne_eqb}
use Rattle.words.specs.Cuts.{before, after}

-- no separator stands before i
abbrev pub NoneBelow : ℕ → List ℕ → ℕ → Type 0
NoneBelow s bs i = (k : ℕ) → k < i → get_or bs k 0 ≡ s → ⊥

pub cut_found : (s : ℕ) (bs : List ℕ) (i : ℕ) → i < length bs → get_or bs i 0 ≡ s → NoneBelow s bs i → (take i bs ≡ before s bs) × (Some (drop (suc i) bs) ≡ after s bs)
cut_found s [] i h e none = absurd (omega arith)
cut_found s (b ∷ bs) zero h e none = let t = eq-eqb b s e in (simp t, simp t)
cut_found s (b ∷ bs) (suc i) h e none =
    let t = ne_eqb b s (none 0 (omega arith)) in
    let rest = cut_found s bs i (omega arith) e (λ k l. none (suc k) (omega arith)) in
    (simp t (ap (λ u. b ∷ u) rest.0), simp t rest.1)

pub cut_none : (s : ℕ) (bs : List ℕ) → NoneBelow s bs (length bs) → (bs ≡ before s bs) × (None ≡ after s bs)
cut_none s [] none = (refl, refl)
cut_none s (b ∷ bs) none =
    let t = ne_eqb b s (none 0 (omega arith)) in
    let rest = cut_none s bs (λ k l. none (suc k) (omega arith)) in
    (simp t (ap (λ u. b ∷ u) rest.0), simp t rest.1)
