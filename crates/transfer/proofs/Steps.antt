-- What each step of a transfer leaves for the next.
use Rattle.std.proofs.Common.{◌≡◌, ℕ, ◌+◌, ◌*◌, ◌≤◌, List, ◌++◌, length, take, drop, Ok, Err, sym, refl, ap, ◌∙◌, ⊎_elim, arith}
use Rattle.std.proofs.lemmas.List.{take_at}
use Rattle.std.proofs.lemmas.Bool.{cases_lt}
use Rattle.tables.specs.Tables.{Table, Lawful, entry}
use Rattle.tables.specs.declared.refusal.Refusal.TheVariants.{CountsDiffer}
use Rattle.imageformat.specs.Format.{written}
use Rattle.imagerestore.specs.Outcome.{Outcome}
use Rattle.imagerestore.specs.declared.fault.RestoreFault.{RestoreFault}
use Rattle.imagerestore.specs.declared.fault.RestoreFault.TheVariants.{Table as OfTable}
use Rattle.imagesave.specs.Saving.{WriteAnswer}
use Rattle.compare.specs.Compared.{Compared}
use Rattle.compare.specs.declared.Comparison.{Comparison}
use Rattle.compare.specs.declared.Comparison.TheVariants.{Same, CountsDiffer as CountsApart, Entry}
use Rattle.transfer.specs.Transferred.{Transferred}
use Rattle.transfer.specs.declared.fault.TransferFault.TheVariants.{Restore}

-- two tables that are equal compare the same
compared_same : (t u : Table) (c : Comparison) → t ≡ u → Compared t u c → c ≡ Same
compared_same t u Same e h = refl
compared_same t u CountsApart e h = absurd (h (ap length e))
compared_same t u (Entry k) e h = absurd (h.3 (ap (λ x. entry x k) e))

-- t is the source's table; the writer answered a length, and left file'
module _ (t : Table) (file file' : List ℕ) (len : ℕ) (wrote : WriteAnswer t file (Ok len) file') where
  pub wide : 4 + 110 * length t ≤ length file
  wide =
      ⊎_elim
      (λ short. let r = (wrote.1 short).0 in absurd (cc))
      (λ w. w)
      (cases_lt (length file) (4 + 110 * length t))

  length_is : len ≡ length (written t)
  length_is = let r = (wrote.0 wide).0 in cc

  pub stands : file' ≡ written t ++ drop (length (written t)) file
  stands = (wrote.0 wide).1

  -- the front of the buffer is the file
  pub front : take len file' ≡ written t
  front = ap (take len) stands ∙ take_at (written t) _ len (sym length_is)

  -- s and s' are the store's table before and after the restore from the front of the buffer
  module _ (s s' : Table) (lawful : Lawful t) where
    -- the restore was refused, so the counts differ
    pub transfer_refused : (x : RestoreFault) → Outcome (take len file') s (Err x) s' → Transferred t file s (Err (Restore x)) file' s'
    transfer_refused x o = (
      (λ short. let w = wide in absurd (omega arith)),
      (λ w differ. let r = o.1 t lawful front differ in (ap (λ e. Err (Restore e)) (let same : x ≡ OfTable CountsDiffer = (let q = r.0 in cc) in same), stands, r.1)),
      (λ w equal. let r = (o.0 t lawful front equal).0 in absurd (cc)),
    )

    -- the restore was done, so the counts are equal
    pub transfer_done : (n : ℕ) (c : Comparison) → Outcome (take len file') s (Ok tt) s' → n ≡ length t → Compared t s' c → Transferred t file s (Ok (record { file_length = len; entries = n; compared = c })) file' s'
    transfer_done n c o counted compared = (
      (λ short. let w = wide in absurd (omega arith)),
      (λ w differ. let r = (o.1 t lawful front differ).0 in absurd (cc)),
      (λ w equal.
          let r = o.0 t lawful front equal in
          let same = compared_same t s' c (sym r.1) compared in
          let l = length_is in
          (simp (l, counted, same), stands, r.1)),
    )
