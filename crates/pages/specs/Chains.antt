-- Pages, and the chains that they are linked into.
use Rattle.std.specs.Prelude.{◌≡◌, ℕ, zero, suc, ◌+◌, ◌*◌, ◌<◌, ◌≤◌, cond, List, [], ◌∷◌, map, length, get_or, replicate, ◌==◌, nat_lt, slice_index_or}
use Rattle.pages.specs.declared.page.Page.{Page}
use Rattle.pages.specs.declared.page.Chain.{Chain}

-- what stands past the last page
abbrev pub no_page : Page
no_page = record { bytes = []; next = 0 }

-- the page of a number
abbrev pub page : List Page → ℕ → Page
page ps p = slice_index_or ps p no_page

-- a page of zeros that is linked to the page after it
abbrev pub fresh : ℕ → Page
fresh p = record { bytes = replicate 16 0; next = p + 1 }

-- the numbers of the k pages from h on, each linked to the next
abbrev pub linked : List Page → ℕ → ℕ → List ℕ
linked ps zero h = []
linked ps (suc k) h = h ∷ linked ps k (page ps h).next

-- what stands past the last chain
abbrev pub no_chain : Chain
no_chain = record { first = 0; pages = 0 }

-- how many pages chain o has
abbrev pub size : List Chain → ℕ → ℕ
size cs o = (get_or cs o no_chain).pages

-- the numbers of the pages of chain o, in order
abbrev pub chain : List Page → List Chain → ℕ → List ℕ
chain ps cs o = linked ps (size cs o) (get_or cs o no_chain).first

-- the blocks in the pages of chain o, in order
abbrev pub blocks_in : List Page → List Chain → ℕ → List (List ℕ)
blocks_in ps cs o = map (λ p. (page ps p).bytes) (chain ps cs o)

-- how often p stands in a list
abbrev pub times : ℕ → List ℕ → ℕ
times p [] = 0
times p (q ∷ qs) = cond (p == q) 1 0 + times p qs

-- f 0 + f 1 + .. + f (m - 1)
abbrev pub total : (ℕ → ℕ) → ℕ → ℕ
total f zero = 0
total f (suc m) = total f m + f m

-- every page has 16 bytes
abbrev pub Whole : List Page → Type 0
Whole ps = (p : ℕ) → p < 768 → length (page ps p).bytes ≡ 16

-- each page below 6 × n stands in one of the chains 0 .. n, once; no other page stands in any
abbrev pub Once : List Page → List Chain → ℕ → Type 0
Once ps cs n = (p : ℕ) → total (λ o. times p (chain ps cs o)) (suc n) ≡ cond (nat_lt p (6 * n)) 1 0

-- the chains 0 .. n have 6 × n pages together
abbrev pub Counted : List Chain → ℕ → Type 0
Counted cs n = total (size cs) (suc n) ≡ 6 * n

-- no entry has more than 6 pages
abbrev pub Small : List Chain → ℕ → Type 0
Small cs n = (e : ℕ) → e < n → size cs e ≤ 6
