-- Tables by their entries: each entry changed by its number, and the greatest hand.
use Rattle.std.proofs.Common.{◌≡◌, ℕ, zero, suc, ◌+◌, ◌<◌, ◌≤◌, [], ◌∷◌, length, sym, refl, ap, ◌∙◌, add-zero, zero-add, arith}
use Rattle.tables.specs.Tables.{Entry, Table, entry}
use Rattle.rules.specs.Office.{greatest_hand}
use Rattle.rules.specs.Rules.{each_from, each}

pub length_each_from : (i : ℕ) (f : ℕ → Entry → Entry) (t : Table) → length (each_from i f t) ≡ length t
length_each_from i f [] = refl
length_each_from i f (x ∷ t) = ap suc (length_each_from (suc i) f t)

pub length_each : (f : ℕ → Entry → Entry) (t : Table) → length (each f t) ≡ length t
length_each f t = length_each_from 0 f t

entry_each_from : (i : ℕ) (f : ℕ → Entry → Entry) (t : Table) (e : ℕ) → e < length t
    → entry (each_from i f t) e ≡ f (i + e) (entry t e)
entry_each_from i f [] e l = absurd (omega arith)
entry_each_from i f (x ∷ t) zero l = ap (λ k. f k x) (sym (add-zero i))
entry_each_from i f (x ∷ t) (suc e) l =
    let h : e < length t = omega arith in
    let k : suc i + e ≡ i + suc e = omega arith in
    entry_each_from (suc i) f t e h ∙ ap (λ k. f k (entry t e)) k

pub entry_each : (f : ℕ → Entry → Entry) (t : Table) (e : ℕ) → e < length t → entry (each f t) e ≡ f e (entry t e)
entry_each f t e l = entry_each_from 0 f t e l ∙ ap (λ k. f k (entry t e)) (zero-add e)

pub hand_greatest : (t : Table) (e : ℕ) → (entry t e).hand ≤ greatest_hand t
hand_greatest [] e = omega arith
hand_greatest (x ∷ t) zero = omega arith
hand_greatest (x ∷ t) (suc e) = omega (arith, hand_greatest t e)

pub greatest_lawful : (t : Table) → ((e : ℕ) → e < length t → (entry t e).hand ≤ 4_000_000_000) → greatest_hand t ≤ 4_000_000_000
greatest_lawful [] h = omega arith
greatest_lawful (x ∷ t) h =
    let a = h 0 (omega arith) in
    let b = greatest_lawful t (λ e lt. h (suc e) (omega arith)) in
    omega arith
