-- A work, copy by copy.
use Rattle.std.proofs.Common.{◌≡◌, ℕ, zero, suc, ◌+◌, ◌-◌, ◌<◌, ◌≤◌, Some, None, Option, refl, ap, ◌∙◌, arith}
use Rattle.rules.specs.Numbers.{maybe}
use Rattle.rules.specs.Office.{Office}
use Rattle.rules.specs.Rules.{next_of, after_copy, after_work}

-- what a work of one copy more does, as next says
worked : (k : ℕ) (o : Office) (x : Option ℕ) → next_of o ≡ x → after_work (suc k) o ≡ maybe {A = ℕ × Office} x (0, o) (λ e. (suc (after_work k (after_copy o e)).0, (after_work k (after_copy o e)).1))
worked k o x n = ap (λ y. maybe {A = ℕ × Office} y (0, o) (λ e. (suc (after_work k (after_copy o e)).0, (after_work k (after_copy o e)).1))) n

-- a work of the office o has come to the office p: so many copies are made, and the rest of the work is p's
pub record Going (limit made : ℕ) (o p : Office) : Type 0 where
  pub within : made ≤ limit
  pub copies : (after_work limit o).0 ≡ made + (after_work (limit - made) p).0
  pub office : (after_work limit o).1 ≡ (after_work (limit - made) p).1

-- one copy more
pub going_more : (limit made : ℕ) (o p : Office) (e : ℕ) → made < limit → Going limit made o p → next_of p ≡ Some e → Going limit (made + 1) o (after_copy p e)
going_more limit made o p e l g n =
    let k : limit - made ≡ suc (limit - (made + 1)) = omega arith in
    let w = ap (λ j. after_work j p) k ∙ worked (limit - (made + 1)) p (Some e) n in
    record {
      within = omega arith;
      copies = let a = g.copies in let b = ap (λ r. r.0) w in omega arith;
      office = g.office ∙ ap (λ r. r.1) w;
    }

-- the rest of the work copies nothing more, and leaves the office p
done : (limit made : ℕ) (o p : Office) → Going limit made o p → after_work (limit - made) p ≡ (0, p) → after_work limit o ≡ (made, p)
done limit made o p g rest =
    let none = ap (λ r. r.0) rest in
    let copies : (after_work limit o).0 ≡ made = (let c = g.copies in omega arith) in
    ap (λ k. (k, (after_work limit o).1)) copies ∙ ap (λ q. (made, q)) (g.office ∙ ap (λ r. r.1) rest)

-- next says none
pub going_stop : (limit made : ℕ) (o p : Office) → Going limit made o p → next_of p ≡ None → after_work limit o ≡ (made, p)
going_stop limit made o p g n = done limit made o p g (stopped (limit - made))
  where
    stopped : (k : ℕ) → after_work k p ≡ (0, p)
    stopped zero = refl
    stopped (suc k) = worked k p None n

-- the limit is reached
pub going_full : (limit : ℕ) (o p : Office) → Going limit limit o p → after_work limit o ≡ (limit, p)
going_full limit o p g = done limit limit o p g (ap (λ k. after_work k p) (let k : limit - limit ≡ 0 = omega arith in k))
