-- Which chains a page stands in.
use Rattle.std.proofs.Common.{◌≡◌, ℕ, suc, ◌+◌, ◌-◌, ◌*◌, ◌<◌, ◌≤◌, Bool, true, false, cond, ltb, List, ◌∷◌, length, get_or, sym, refl, ap, ◌∙◌, arith}
use Rattle.std.proofs.lemmas.Bool.{ltb-true}
use Rattle.pages.specs.declared.stock.Stock.{Stock}
use Rattle.pages.specs.Blocks.{blocks}
use Rattle.pages.specs.Chains.{page, linked, no_chain, size, chain, times, total}
use Rattle.pages.proofs.Totals.{total_one, total_two}
use Rattle.pages.proofs.Frames.{times_here, blocks_length}

-- a number that is 1 or 0
one_at_most : (b : Bool) → cond b 1 0 ≤ 1
one_at_most true = omega arith
one_at_most false = omega arith

one_when : (b : Bool) → 1 ≤ cond b 1 0 → b ≡ true
one_when true h = refl
one_when false h = absurd (omega arith)

-- how often page p stands in chain o of a stock
abbrev in_chain : Stock → ℕ → ℕ → ℕ
in_chain s p o = times p (chain s.pages s.chains o)

-- a page that stands in a chain is one of the array's
pub page_in : (s : Stock) (o p : ℕ) → o ≤ s.count → 1 ≤ times p (chain s.pages s.chains o) → p < 768
page_in s o p l h =
    let most : in_chain s p o ≤ total (in_chain s p) (suc s.count) = total_one (in_chain s p) o (suc s.count) (omega arith) in
    let all : total (in_chain s p) (suc s.count) ≡ cond (ltb p (6 * s.count)) 1 0 = s.once p in
    let below = ltb-true p (6 * s.count) (one_when (ltb p (6 * s.count)) (omega arith)) in
    omega (arith, s.lengths.2)

-- no chain has more pages than the array
pub size_in : (s : Stock) (o : ℕ) → o ≤ s.count → size s.chains o ≤ 768
size_in s o l =
    let most = total_one (size s.chains) o (suc s.count) (omega arith) in
    omega (arith, s.counted, s.lengths.2)

-- the first page of chain a
abbrev pub first : Stock → ℕ → ℕ
first s a = (get_or s.chains a no_chain).first

-- the pages of chain a after its first
abbrev pub tail : Stock → ℕ → List ℕ
tail s a = linked s.pages (size s.chains a - 1) (page s.pages (first s a)).next

-- a chain that has pages is its first page and the others
module _ (s : Stock) (a : ℕ) (la : a ≤ s.count) (held : 0 < length (blocks s a)) where
  pub some : 0 < size s.chains a
  some = let e = blocks_length s.pages s.chains a in omega (arith, held)

  pub first_tail : chain s.pages s.chains a ≡ first s a ∷ tail s a
  first_tail =
      ap (λ k. linked s.pages k (first s a)) (let e : size s.chains a ≡ suc (size s.chains a - 1) = omega (arith, some) in e)

  -- its first page stands in it, so it is one of the array's
  at_a : in_chain s (first s a) a ≡ 1 + times (first s a) (tail s a)
  at_a = ap (times (first s a)) first_tail ∙ times_here (first s a) (tail s a)

  pub first_in : first s a < 768
  first_in = let e = at_a in page_in s a (first s a) la (omega arith)

  -- it stands in all chains together at most once
  in_all : total (in_chain s (first s a)) (suc s.count) ≤ 1
  in_all = let e = s.once (first s a) in let m = one_at_most (ltb (first s a) (6 * s.count)) in omega arith

  -- so it does not stand in the others of a,
  pub off_tail : times (first s a) (tail s a) ≡ 0
  off_tail =
      let e = at_a in
      let m = total_one (in_chain s (first s a)) a (suc s.count) (omega arith) in
      let t = in_all in
      omega arith

  -- nor in another chain
  pub off_other : (o : ℕ) → o ≤ s.count → (o ≡ a → ⊥) → times (first s a) (chain s.pages s.chains o) ≡ 0
  off_other o l ne =
      let e = at_a in
      let m = total_two (in_chain s (first s a)) a o (suc s.count) (omega arith) (omega arith) (λ q. ne (sym q)) in
      let t = in_all in
      omega arith
