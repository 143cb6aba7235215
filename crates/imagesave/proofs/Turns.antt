-- One turn of each loop over a table's entries.
use Rattle.std.proofs.Common.{◌≡◌, ℕ, ◌+◌, ◌<◌, ◌≤◌, List, [], ◌∷◌, ◌++◌, length, take, drop, Ok, Result, sym, ap, ◌∙◌, subst, arith}
use Rattle.std.proofs.lemmas.List.{length-append, length-take-le, take_at, take_more, take-append-drop}
use Rattle.tables.specs.declared.refusal.Refusal.{Refusal}
use Rattle.tables.specs.Answers.{StampAnswer, TextAnswer}
use Rattle.tables.specs.Tables.{Table, Lawful, blank, entry, of}
use Rattle.imageformat.proofs.Lengths.{length_written}
use Rattle.imageformat.specs.Format.{row, bodies, written}
use Rattle.imagewriter.specs.Places.{room, row_place}
use Rattle.imagewriter.specs.Answers.{RowAnswer, BodyAnswer}
use Rattle.imagewriter.specs.Standing.{RowsStand, BodiesStand, RowMeans, BodyMeans}
use Rattle.imagewriter.specs.declared.writer.TakesRows.{TakesRows}
use Rattle.imagewriter.specs.declared.writer.TakesBodies.{TakesBodies}
use Rattle.imagewriter.specs.declared.writer.Writer.{Writer}
use Rattle.imagewriter.proofs.Overwriting.{drop_put}
use Rattle.imagewriter.proofs.Files.{bodies_append}
use Rattle.imagewriter.proofs.BodiesStand.{own_fits}

-- the first bodies are no longer than all
bodies_within : (t : Table) (k : ℕ) → length (bodies (take k t)) ≤ length (bodies t)
bodies_within t k =
    let parts = ap bodies (take-append-drop k t) in
    omega (arith, ap length (bodies_append (take k t) (drop k t)), ap length parts, length-append (bodies (take k t)) (bodies (drop k t)))

-- what stands behind the table's file is as it was
abbrev pub Behind : Table → List ℕ → List ℕ → Type 0
Behind t buf buf' = drop (length (written t)) buf' ≡ drop (length (written t)) buf

module _ (t : Table) (was : List ℕ) where
  -- the rows of the first e entries are written, into a buffer that was another
  pub record RowsSaved (e : ℕ) (w : Writer TakesRows) (buf : List ℕ) : Type 0 where
    pub counted : w.count ≡ length t
    pub wide : room (length t) ≤ length buf
    pub stand : RowsStand (take e t) w buf
    pub behind : Behind t was buf

  -- all rows and the bodies of the first e entries are
  pub record BodiesSaved (e : ℕ) (w : Writer TakesBodies) (buf : List ℕ) : Type 0 where
    pub next : w.standing ≡ e
    pub wide : room (length t) ≤ length buf
    pub stand : BodiesStand t w buf
    pub behind : Behind t was buf

  -- the row of entry e is written
  pub row_saved : (e : ℕ) (w w' : Writer TakesRows) (buf buf' text text' : List ℕ) (edition hand len : ℕ) (r : Result (Unit {0}) Refusal) → Lawful t → e < length t → length text ≡ 96 → StampAnswer t e (Ok (edition, hand)) → TextAnswer t e text (Ok len) text' → length buf' ≡ length buf → RowsSaved e w buf → RowAnswer w buf edition hand len r w' buf' → RowMeans w buf edition hand len r w' buf' → (r ≡ Ok tt) × RowsSaved (e + 1) w' buf'
  row_saved e w w' buf buf' text text' edition hand len r lawful low long stamp fetched size s answer meaning =
      let x = entry t e in
      let ok = lawful.1 e low in
      let pair : ◌≡◌ {A = ℕ × ℕ} (edition, hand) (x.edition, x.hand) = cc (stamp.0 low) in
      let shown = ((fetched.0 low).0 (omega arith)).0 in
      let ed = ap (λ p. p.0) pair in
      let ha = ap (λ p. p.1) pair in
      let ln : len ≡ length x.text = cc shown in
      let here : w.standing ≡ e = s.stand.1 ∙ length-take-le e t (omega arith) in
      let done = answer.4 (omega arith, omega arith) (omega arith) (omega (arith, s.counted, s.wide)) (omega (arith, s.counted)) in
      let same : of x.text edition hand ≡ x = ap (λ n. of x.text n hand) ed ∙ ap (λ n. of x.text x.edition n) ha in
      let more : take e t ++ (of x.text edition hand ∷ []) ≡ take (e + 1) t = ap (λ y. take e t ++ (y ∷ [])) same ∙ sym (take_more t e blank low) in
      let P : Table → Type 0 = λ z. RowsStand z w' buf' in (
        done.0,
        record {
          counted = done.1.0 ∙ s.counted;
          wide = omega (arith, s.wide);
          stand = subst P more (meaning (take e t) x.text s.stand (sym ln) done.0);
          behind =
              ap (drop (length (written t))) done.2
              ∙ drop_put (row_place w.standing) (row edition hand w.place len) buf (omega (arith, s.counted, s.wide)) (length (written t)) (omega (arith, length_written t))
              ∙ s.behind;
        },
      )

  -- the body of entry e is written
  pub body_saved : (e : ℕ) (w w' : Writer TakesBodies) (buf buf' text text' : List ℕ) (len : ℕ) (r : Result (Unit {0}) Refusal) → Lawful t → e < length t → length text ≡ 96 → TextAnswer t e text (Ok len) text' → length buf' ≡ length buf → BodiesSaved e w buf → BodyAnswer w buf (take len text') r w' buf' → BodyMeans w buf (take len text') r w' buf' → (r ≡ Ok tt) × BodiesSaved (e + 1) w' buf'
  body_saved e w w' buf buf' text text' len r lawful low long fetched size s answer meaning =
      let x = entry t e in
      let ok = lawful.1 e low in
      let shown = (fetched.0 low).0 (omega arith) in
      let ln : len ≡ length x.text = cc (shown.0) in
      let own : take len text' ≡ x.text = ap (take len) shown.1 ∙ take_at x.text _ len (sym ln) in
      let more : w.standing < w.count = omega (arith, s.next, s.stand.1) in
      let roomy : room w.count ≤ length buf = omega (arith, s.wide, s.stand.1) in
      let mine : take len text' ≡ (entry t w.standing).text = own ∙ ap (λ k. (entry t k).text) (sym s.next) in
      let means = meaning t s.stand roomy more in
      let done = answer.3 roomy more (own_fits t w buf (take len text') more s.stand (ap length mine)) in
      let stand = means.2 mine in (
        done.0,
        record {
          next = done.1.1 ∙ ap (λ k. k + 1) s.next;
          wide = omega (arith, s.wide);
          stand = stand;
          behind =
              ap (drop (length (written t))) done.2
              ∙ drop_put w.place (take len text') buf (omega arith) (length (written t)) (omega (arith, length_written t, bodies_within t w'.standing))
              ∙ s.behind;
        },
      )
