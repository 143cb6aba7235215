-- Sums f 0 + .. + f (m - 1): what one place has in them, and what a move between two places leaves.
use Rattle.std.proofs.Common.{◌≡◌, ℕ, zero, suc, ◌+◌, ◌*◌, ◌<◌, ◌≤◌, cond, eqb, sym, refl, ap, ◌∙◌, ⊎_elim, arith}
use Rattle.std.proofs.lemmas.Bool.{cases_lt, cases_eq, eq-eqb, ne_eqb, cond-true, cond-false}
use Rattle.pages.specs.Chains.{total}

-- sums of equal parts
pub total_same : (f g : ℕ → ℕ) (m : ℕ) → ((o : ℕ) → o < m → f o ≡ g o) → total f m ≡ total g m
total_same f g zero e = refl
total_same f g (suc m) e =
    let below = total_same f g m (λ o l. e o (omega arith)) in
    let last = e m (omega arith) in
    omega arith

-- a sum of nothing
pub total_none : (f : ℕ → ℕ) (m : ℕ) → ((o : ℕ) → o < m → f o ≡ 0) → total f m ≡ 0
total_none f zero e = refl
total_none f (suc m) e =
    let below = total_none f m (λ o l. e o (omega arith)) in
    let last = e m (omega arith) in
    omega arith

-- f with nothing at a
abbrev out : ℕ → (ℕ → ℕ) → ℕ → ℕ
out a f o = cond (eqb o a) 0 (f o)

-- at a, elsewhere, and where two functions agree elsewhere
out_at : (f : ℕ → ℕ) (a o : ℕ) → o ≡ a → out a f o ≡ 0
out_at f a o e = cond-true (eqb o a) 0 (f o) (eq-eqb o a e)

out_off : (f : ℕ → ℕ) (a o : ℕ) → (o ≡ a → ⊥) → out a f o ≡ f o
out_off f a o ne = cond-false (eqb o a) 0 (f o) (ne_eqb o a ne)

out_same : (f g : ℕ → ℕ) (a o : ℕ) → ((o ≡ a → ⊥) → f o ≡ g o) → out a f o ≡ out a g o
out_same f g a o h =
    ⊎_elim
    (λ e. out_at f a o e ∙ sym (out_at g a o e))
    (λ ne. out_off f a o ne ∙ h ne ∙ sym (out_off g a o ne))
    (cases_eq o a)

-- the part of one place: one that lies below m, and m itself
out_below : (f : ℕ → ℕ) (a m : ℕ) → a < m → total f m ≡ total (out a f) m + f a → total f (suc m) ≡ total (out a f) (suc m) + f a
out_below f a m l below = let here = out_off f a m (λ e. omega arith) in omega arith

out_last : (f : ℕ → ℕ) (a m : ℕ) → m ≡ a → total f (suc m) ≡ total (out a f) (suc m) + f a
out_last f a m e =
    let below = total_same (out a f) f m (λ o l. out_off f a o (λ q. omega arith)) in
    let here = out_at f a m e in
    let same = ap f e in
    omega arith

total_out : (f : ℕ → ℕ) (a m : ℕ) → a < m → total f m ≡ total (out a f) m + f a
total_out f a zero l = absurd (omega arith)
total_out f a (suc m) l =
    ⊎_elim (λ less. out_below f a m less (total_out f a m less)) (λ last. out_last f a m (omega arith)) (cases_lt a m)

-- the parts of two places
total_out_two : (f : ℕ → ℕ) (a b m : ℕ) → a < m → b < m → (a ≡ b → ⊥) → total f m ≡ total (out b (out a f)) m + f b + f a
total_out_two f a b m la lb apart =
    let x = total_out f a m la in
    let y = total_out (out a f) b m lb in
    let z = out_off f a b (λ e. apart (sym e)) in
    omega arith

-- one part, and two, are in the sum
pub total_one : (f : ℕ → ℕ) (a m : ℕ) → a < m → f a ≤ total f m
total_one f a m l = let x = total_out f a m l in omega arith

pub total_two : (f : ℕ → ℕ) (a b m : ℕ) → a < m → b < m → (a ≡ b → ⊥) → f a + f b ≤ total f m
total_two f a b m la lb apart = let x = total_out_two f a b m la lb apart in omega arith

-- what a gives and b gets changes no sum
pub total_move : (f g : ℕ → ℕ) (a b m : ℕ) → a < m → b < m → (a ≡ b → ⊥) → f a + f b ≡ g a + g b → ((o : ℕ) → o < m → (o ≡ a → ⊥) → (o ≡ b → ⊥) → f o ≡ g o) → total f m ≡ total g m
total_move f g a b m la lb apart e rest =
    let x = total_out_two f a b m la lb apart in
    let y = total_out_two g a b m la lb apart in
    let z = total_same (out b (out a f)) (out b (out a g)) m (λ o l. out_same (out a f) (out a g) b o (λ nb. out_same f g a o (λ na. rest o l na nb))) in
    omega arith

-- where each part is at most 6, the sum is at most 6 for each
pub total_capped : (f : ℕ → ℕ) (m : ℕ) → ((o : ℕ) → o < m → f o ≤ 6) → total f m ≤ 6 * m
total_capped f zero h = omega arith
total_capped f (suc m) h =
    let below = total_capped f m (λ o l. h o (omega arith)) in
    let last = h m (omega arith) in
    omega arith

-- the last is the one that has none
room_last : (f : ℕ → ℕ) (e m : ℕ) → m ≡ e → f e ≡ 0 → f m ≡ 0
room_last f e m q z = ap f q ∙ z

-- where each has at most 6 and one has none, 6 are left
pub total_room : (f : ℕ → ℕ) (e m : ℕ) → e < m → f e ≡ 0 → ((o : ℕ) → o < m → f o ≤ 6) → total f m + 6 ≤ 6 * m
total_room f e zero l z h = absurd (omega arith)
total_room f e (suc m) l z h =
    let last = h m (omega arith) in
    ⊎_elim
    (λ less. omega (arith, total_room f e m less z (λ o k. h o (omega arith))))
    (λ here. omega (arith, total_capped f m (λ o k. h o (omega arith)), room_last f e m (omega arith) z))
    (cases_lt e m)
