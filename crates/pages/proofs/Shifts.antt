-- The first page of chain a is moved to the front of chain b: what the chains hold then, and what the stock keeps.
use Rattle.std.proofs.Common.{◌≡◌, ℕ, suc, ◌+◌, ◌-◌, ◌<◌, ◌≤◌, cond, eqb, List, ◌∷◌, map, length, get_or, drop, set, sym, ap, ◌∙◌, ⊎_elim, add-one, arith}
use Rattle.std.proofs.lemmas.List.{get_or-set_same, get_or-set_other, length-set}
use Rattle.std.proofs.lemmas.Bool.{cases_eq}
use Rattle.pages.specs.declared.page.Page.{Page}
use Rattle.pages.specs.declared.page.Chain.{Chain}
use Rattle.pages.specs.declared.stock.Stock.{Stock}
use Rattle.pages.specs.Blocks.{blocks}
use Rattle.pages.specs.Chains.{no_page, page, linked, no_chain, size, chain, blocks_in, times, Whole, Once, Counted, Small}
use Rattle.pages.proofs.Totals.{total_move}
use Rattle.pages.proofs.Frames.{linked_frame, bytes_frame, blocks_length}
use Rattle.pages.proofs.Holders.{first, tail, some, first_tail, first_in, off_tail, off_other}

module _ (s : Stock) (a b : ℕ) (bs : List ℕ) (la : a ≤ s.count) (lb : b ≤ s.count) (apart : a ≡ b → ⊥) (held : 0 < length (blocks s a)) where
  abbrev ps : List Page
  ps = s.pages

  abbrev cs : List Chain
  cs = s.chains

  abbrev n : ℕ
  n = s.count

  -- the page that moves
  abbrev p : ℕ
  p = first s a

  -- the page as it is written
  abbrev x : Page
  x = record { bytes = bs; next = first s b }

  -- the chain a as it is written
  abbrev less : Chain
  less = record { first = (page ps p).next; pages = size cs a - 1 }

  -- the chain b as it is written
  abbrev more : Chain
  more = record { first = p; pages = size cs b + 1 }

  abbrev ps' : List Page
  ps' = set ps p x

  abbrev cs' : List Chain
  cs' = set (set cs a less) b more

  -- b has no page p before the move
  off_b : times p (chain ps cs b) ≡ 0
  off_b = off_other s a la held b lb (λ e. apart (sym e))

  -- what stands at each place after it
  at_p : page ps' p ≡ x
  at_p = get_or-set_same ps p x no_page (let l = first_in s a la held in omega (arith, s.lengths.0))

  at_a : get_or cs' a no_chain ≡ less
  at_a = get_or-set_other (set cs a less) b a more no_chain apart ∙ get_or-set_same cs a less no_chain (omega (arith, s.lengths))

  at_b : get_or cs' b no_chain ≡ more
  at_b = get_or-set_same (set cs a less) b more no_chain (simp length-set (omega (arith, s.lengths)))

  at_other : (o : ℕ) → (o ≡ a → ⊥) → (o ≡ b → ⊥) → get_or cs' o no_chain ≡ get_or cs o no_chain
  at_other o na nb = get_or-set_other (set cs a less) b o more no_chain nb ∙ get_or-set_other cs a o less no_chain na

  -- the pages of each chain
  chain_from : chain ps' cs' a ≡ tail s a
  chain_from =
      ap (λ c. linked ps' c.pages c.first) at_a
      ∙ linked_frame ps p x (size cs a - 1) (page ps p).next (off_tail s a la held)

  chain_onto : chain ps' cs' b ≡ p ∷ chain ps cs b
  chain_onto =
      ap (λ c. linked ps' c.pages c.first) at_b
      ∙ ap (λ k. linked ps' k p) (add-one (size cs b))
      ∙ ap (λ y. p ∷ linked ps' (size cs b) y.next) at_p
      ∙ ap (λ t. p ∷ t) (linked_frame ps p x (size cs b) (first s b) off_b)

  chain_rest : (o : ℕ) → o ≤ n → (o ≡ a → ⊥) → (o ≡ b → ⊥) → chain ps' cs' o ≡ chain ps cs o
  chain_rest o l na nb =
      ap (λ c. linked ps' c.pages c.first) (at_other o na nb)
      ∙ linked_frame ps p x (size cs o) (first s o) (off_other s a la held o l na)

  -- the blocks of each chain
  from : blocks_in ps' cs' a ≡ drop 1 (blocks_in ps cs a)
  from =
      ap (map (λ q. (page ps' q).bytes)) chain_from
      ∙ bytes_frame ps p x (tail s a) (off_tail s a la held)
      ∙ ap (λ l. drop 1 (map (λ q. (page ps q).bytes) l)) (sym (first_tail s a la held))

  onto : blocks_in ps' cs' b ≡ bs ∷ blocks_in ps cs b
  onto =
      ap (map (λ q. (page ps' q).bytes)) chain_onto
      ∙ ap (λ y. y.bytes ∷ map (λ q. (page ps' q).bytes) (chain ps cs b)) at_p
      ∙ ap (λ t. bs ∷ t) (bytes_frame ps p x (chain ps cs b) off_b)

  rest : (o : ℕ) → o ≤ n → (o ≡ a → ⊥) → (o ≡ b → ⊥) → blocks_in ps' cs' o ≡ blocks_in ps cs o
  rest o l na nb =
      ap (map (λ q. (page ps' q).bytes)) (chain_rest o l na nb)
      ∙ bytes_frame ps p x (chain ps cs o) (off_other s a la held o l na)

  -- all of these
  pub moved : (blocks_in ps' cs' a ≡ drop 1 (blocks_in ps cs a)) × (blocks_in ps' cs' b ≡ bs ∷ blocks_in ps cs b) × ((o : ℕ) → o ≤ n → (o ≡ a → ⊥) → (o ≡ b → ⊥) → blocks_in ps' cs' o ≡ blocks_in ps cs o)
  moved = (from, onto, rest)

  -- every page is whole
  whole : length bs ≡ 16 → Whole ps'
  whole long q l =
      ⊎_elim
      (λ e. ap (λ r. length (page ps' r).bytes) e ∙ ap (λ y. length y.bytes) at_p ∙ long)
      (λ ne. ap (λ y. length y.bytes) (get_or-set_other ps p q x no_page ne) ∙ s.whole q l)
      (cases_eq q p)

  -- page p stands in a once less and in b once more, and no other page moves
  once : Once ps' cs' n
  once q =
      let F : ℕ → ℕ = λ o. times q (chain ps cs o) in
      let G : ℕ → ℕ = λ o. times q (chain ps' cs' o) in
      let fa : F a ≡ cond (eqb q p) 1 0 + times q (tail s a) = ap (times q) (first_tail s a la held) in
      let ga : G a ≡ times q (tail s a) = ap (times q) chain_from in
      let gb : G b ≡ cond (eqb q p) 1 0 + F b = ap (times q) chain_onto in
      total_move G F a b (suc n) (omega arith) (omega arith) apart (omega arith) (λ o l na nb. ap (times q) (chain_rest o (omega arith) na nb))
      ∙ s.once q

  -- and as many pages
  counted : Counted cs' n
  counted =
      let ga : size cs' a ≡ size cs a - 1 = ap (λ c. c.pages) at_a in
      let gb : size cs' b ≡ size cs b + 1 = ap (λ c. c.pages) at_b in
      total_move (size cs') (size cs) a b (suc n) (omega arith) (omega arith) apart (omega (arith, some s a la held)) (λ o l na nb. ap (λ c. c.pages) (at_other o na nb))
      ∙ s.counted

  -- no entry has too many
  small : (b < n → length (blocks s b) < 6) → Small cs' n
  small room o l =
      let sized = blocks_length ps cs b in
      ⊎_elim
      (λ e. omega (arith, ap (size cs') e, ap (λ c. c.pages) at_a, s.small a (omega arith)))
      (λ na.
      ⊎_elim
      (λ e. omega (arith, ap (size cs') e, ap (λ c. c.pages) at_b, room (omega arith)))
      (λ nb. omega (arith, ap (λ c. c.pages) (at_other o na nb), s.small o l))
      (cases_eq o b))
      (cases_eq o a)

  -- what the stock keeps
  pub kept : length bs ≡ 16 → (b < n → length (blocks s b) < 6) → Whole ps' × Once ps' cs' n × Counted cs' n × Small cs' n
  kept long room = (whole long, once, counted, small room)
