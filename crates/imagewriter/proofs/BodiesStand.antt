-- What stands in the buffer once a body is written, and at the end.
use Rattle.std.proofs.Common.{◌≡◌, ℕ, ◌+◌, ◌-◌, ◌*◌, ◌<◌, ◌≤◌, List, ◌++◌, length, take, drop, sym, ap, ◌∙◌, arith}
use lib.Seq.{drop-append-add}
use Rattle.std.proofs.lemmas.List.{append_assoc, length-append, take-take, take_all, drop-take}
use Rattle.tables.specs.Tables.{Table, entry}
use Rattle.std.specs.Int.Digits.{number_from_digits}
use Rattle.imageformat.specs.Format.{head, rows, bodies, written}
use Rattle.imageformat.proofs.Lengths.{length_written}
use Rattle.imageformat.proofs.Numbers.{coded_digits}
use Rattle.imagewriter.specs.Places.{room, row_place, put_at}
use Rattle.imagewriter.specs.Answers.{At, BodyFits, length_named}
use Rattle.imagewriter.specs.Standing.{BodiesStand}
use Rattle.imagewriter.specs.declared.writer.TakesBodies.{TakesBodies}
use Rattle.imagewriter.specs.declared.writer.Writer.{Writer}
use Rattle.imagewriter.proofs.Overwriting.{take_put}
use Rattle.imagewriter.proofs.Files.{length_in_rows, bodies_more}

-- two bytes within the front of a buffer
within_front : (m p : ℕ) (buf : List ℕ) → m + 2 ≤ p → take 2 (drop m buf) ≡ take 2 (drop m (take p buf))
within_front m p buf h =
    let q : m + (p - m) ≡ p = omega arith in
    sym (take-take 2 (p - m) (drop m buf) (omega arith))
    ∙ ap (take 2) (sym (drop-take m (p - m) buf))
    ∙ ap (λ z. take 2 (drop m (take z buf))) q

-- the next row names the length of its entry's text
pub named : (t : Table) (w : Writer TakesBodies) (buf : List ℕ) → w.standing < w.count → BodiesStand t w buf → length_named w.standing buf ≡ length (entry t w.standing).text
named t w buf more (lawful, all, at, front) =
    let n = w.count in
    let k = w.standing in
    let p = row_place n in
    let low : k < length t = omega arith in
    let short : length (entry t k).text ≤ 96 = (lawful.1 k low).0 in
    let from : row_place k + 12 ≡ 4 + (14 * k + 12) = omega arith in
    ap (number_from_digits 256)
    (within_front (row_place k + 12) w.place buf (omega arith)
    ∙ ap (λ z. take 2 (drop (row_place k + 12) z)) front
    ∙ ap (λ m. take 2 (drop m (head n ++ (rows p t ++ bodies (take k t))))) from
    ∙ ap (take 2) (drop-append-add (head n) (rows p t ++ bodies (take k t)) (14 * k + 12))
    ∙ length_in_rows p t k (bodies (take k t)) low)
    ∙ coded_digits 2 (length (entry t k).text) (omega arith)

-- a text as long as its entry's fits its row
pub own_fits : (t : Table) (w : Writer TakesBodies) (buf text : List ℕ) → w.standing < w.count → BodiesStand t w buf → length text ≡ length (entry t w.standing).text → BodyFits w.standing buf text
own_fits t w buf text more stood same =
    (omega (arith, (stood.0.1 w.standing (omega arith)).0), same ∙ sym (named t w buf more stood))

-- one more body stands: the text of the next entry
module _ (t : Table) (text : List ℕ) (w w' : Writer TakesBodies) (buf buf' : List ℕ) (own : text ≡ (entry t w.standing).text) (put : buf' ≡ put_at w.place text buf) (now : At w.count (w.standing + 1) (w.place + length text) w') where
  -- the bodies that stand then
  abbrev taken : List ℕ
  taken = bodies (take (w.standing + 1) t)

  pub body_stands : room w.count ≤ length buf → w.standing < w.count → BodiesStand t w buf → BodiesStand t w' buf'
  body_stands roomy more (lawful, all, at, front) =
      let n = w.count in
      let r = rows (row_place n) t in
      let b = bodies (take w.standing t) in
      let low : w.standing < length t = omega arith in
      let next : taken ≡ b ++ text = bodies_more t w.standing low ∙ ap (λ z. b ++ z) (sym own) in
      let same : bodies (take w'.standing t) ≡ taken = ap (λ k. bodies (take k t)) now.1 in
      let here = ap length same in
      let short : length text ≤ 96 = omega (arith, (lawful.1 w.standing low).0, ap length own) in (
        lawful,
        now.0 ∙ all,
        omega (arith, now.0, now.2, here, ap length next, length-append b text),
        ap (λ m. take m buf') now.2
            ∙ ap (take (w.place + length text)) put
            ∙ take_put w.place text buf (omega arith)
            ∙ ap (λ z. z ++ text) front
            ∙ append_assoc (head n) (r ++ b) text
            ∙ ap (λ z. head n ++ z) (append_assoc r b text ∙ ap (λ z. r ++ z) (sym next))
            ∙ ap (λ m. head m ++ (rows (row_place m) t ++ taken)) (sym now.0)
            ∙ ap (λ z. head w'.count ++ (rows (row_place w'.count) t ++ z)) (sym same),
      )

-- a finished file is its table's
pub finish_stands : (t : Table) (w : Writer TakesBodies) (buf : List ℕ) → w.standing ≡ w.count → BodiesStand t w buf → (w.place ≡ length (written t)) × (take (length (written t)) buf ≡ written t)
finish_stands t w buf every (lawful, all, at, front) = (long, ap (λ m. take m buf) (sym long) ∙ front ∙ whole)
  where
    those : take w.standing t ≡ t
    those = take_all w.standing t (omega arith)

    long : w.place ≡ length (written t)
    long = omega (arith, ap (λ z. length (bodies z)) those, length_written t)

    whole : head w.count ++ (rows (row_place w.count) t ++ bodies (take w.standing t)) ≡ written t
    whole =
        ap (λ z. head w.count ++ (rows (row_place w.count) t ++ bodies z)) those
        ∙ ap (λ m. head m ++ (rows (row_place m) t ++ bodies t)) all
