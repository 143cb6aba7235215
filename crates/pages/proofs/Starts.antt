-- A new stock is sound: all its pages stand in the free chain.
use Rattle.std.proofs.Common.{◌≡◌, ℕ, zero, suc, ◌+◌, ◌*◌, ◌<◌, ◌≤◌, cond, eqb, ltb, List, [], ◌∷◌, map, get_or, set, replicate, sym, refl, ap, ◌∙◌, ⊎_elim, arith}
use Rattle.std.specs.List.{range_with_len}
use Rattle.std.proofs.lemmas.List.{get_or-set_same, get_or-set_other, get_or-replicate}
use Rattle.std.proofs.lemmas.Bool.{cases_eq, eq-eqb, ne_eqb, lt-ltb, le-ltb, cond-true, cond-false}
use Rattle.pages.specs.declared.page.Page.{Page}
use Rattle.pages.specs.declared.page.Chain.{Chain}
use Rattle.pages.specs.Chains.{page, fresh, linked, no_chain, size, chain, blocks_in, times, Once, Counted, Small}
use Rattle.pages.proofs.Totals.{total_none}

-- a number below a is not counted from a on
times_below : (p a k : ℕ) → p < a → times p (range_with_len a k) ≡ 0
times_below p a zero l = refl
times_below p a (suc k) l =
    let here : ◌≡◌ {A = ℕ} (cond (eqb p a) 1 0) 0 = cond-false (eqb p a) 1 0 (ne_eqb p a (λ e. omega arith)) in
    let rest = times_below p (a + 1) k (omega arith) in
    omega arith

-- a itself is counted first, another number later
times_first : (p a k : ℕ) → p ≡ a → times p (range_with_len a (suc k)) ≡ cond (ltb p (a + suc k)) 1 0
times_first p a k e =
    let here : ◌≡◌ {A = ℕ} (cond (eqb p a) 1 0) 1 = cond-true (eqb p a) 1 0 (eq-eqb p a e) in
    let rest = times_below p (a + 1) k (omega arith) in
    let one : ◌≡◌ {A = ℕ} (cond (ltb p (a + suc k)) 1 0) 1 = cond-true (ltb p (a + suc k)) 1 0 (lt-ltb p (a + suc k) (omega arith)) in
    omega arith

times_later : (p a k : ℕ) → (p ≡ a → ⊥) → times p (range_with_len (a + 1) k) ≡ cond (ltb p (a + 1 + k)) 1 0 → times p (range_with_len a (suc k)) ≡ cond (ltb p (a + suc k)) 1 0
times_later p a k ne rest =
    let here : ◌≡◌ {A = ℕ} (cond (eqb p a) 1 0) 0 = cond-false (eqb p a) 1 0 (ne_eqb p a ne) in
    let same : ◌≡◌ {A = ℕ} (cond (ltb p (a + 1 + k)) 1 0) (cond (ltb p (a + suc k)) 1 0) = ap (λ m. cond (ltb p m) 1 0) (let q : a + 1 + k ≡ a + suc k = omega arith in q) in
    omega arith

-- of the k numbers from a on, each is counted once
times_counting : (p a k : ℕ) → a ≤ p → times p (range_with_len a k) ≡ cond (ltb p (a + k)) 1 0
times_counting p a zero l = sym (cond-false (ltb p (a + 0)) 1 0 (le-ltb p (a + 0) (omega arith)))
times_counting p a (suc k) l =
    ⊎_elim
    (λ e. times_first p a k e)
    (λ ne. times_later p a k ne (times_counting p (a + 1) k (omega arith)))
    (cases_eq p a)

-- the chains of a new stock
abbrev pub start : ℕ → List Chain
start n = set (replicate 129 no_chain) n (record { first = 0; pages = 6 * n })

-- with fresh pages
module _ (ps : List Page) (n : ℕ) (all : (p : ℕ) → p < 768 → page ps p ≡ fresh p) (few : n ≤ 128) where
  -- fresh pages are linked in the order of their numbers
  linked_fresh : (k h : ℕ) → h + k ≤ 768 → linked ps k h ≡ range_with_len h k
  linked_fresh zero h l = refl
  linked_fresh (suc k) h l =
      ap (λ y. h ∷ linked ps k y.next) (all h (omega arith)) ∙ ap (λ t. h ∷ t) (linked_fresh k (h + 1) (omega arith))

  -- the free chain, and the chains of the entries
  free : get_or (start n) n no_chain ≡ record { first = 0; pages = 6 * n }
  free = get_or-set_same (replicate 129 no_chain) n _ no_chain (omega arith)

  bare : (o : ℕ) → o < n → get_or (start n) o no_chain ≡ no_chain
  bare o l =
      get_or-set_other (replicate 129 no_chain) n o _ no_chain (λ e. omega arith) ∙ get_or-replicate 129 o no_chain no_chain (omega arith)

  -- no entry has a block
  pub start_blocks : (o : ℕ) → o < n → blocks_in ps (start n) o ≡ []
  start_blocks o l = ap (λ c. map (λ p. (page ps p).bytes) (linked ps c.pages c.first)) (bare o l)

  -- each page stands in the free chain, once
  in_free : (p : ℕ) → times p (chain ps (start n) n) ≡ cond (ltb p (6 * n)) 1 0
  in_free p =
      ap (λ c. times p (linked ps c.pages c.first)) free
      ∙ ap (times p) (linked_fresh (6 * n) 0 (omega arith))
      ∙ times_counting p 0 (6 * n) (omega arith)
      ∙ ap (λ m. cond (ltb p m) 1 0) (let q : 0 + 6 * n ≡ 6 * n = omega arith in q)

  -- and in no other
  pub start_once : Once ps (start n) n
  start_once p =
      let none = total_none (λ o. times p (chain ps (start n) o)) n (λ o l. ap (λ c. times p (linked ps c.pages c.first)) (bare o l)) in
      let last = in_free p in
      omega arith

  -- the free chain has all pages
  pub start_counted : Counted (start n) n
  start_counted =
      let none = total_none (size (start n)) n (λ o l. ap (λ c. c.pages) (bare o l)) in
      let last : size (start n) n ≡ 6 * n = ap (λ c. c.pages) free in
      omega arith

  -- and no entry has any
  pub start_small : Small (start n) n
  start_small o l = let none : size (start n) o ≡ 0 = ap (λ c. c.pages) (bare o l) in omega arith
