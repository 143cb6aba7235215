-- Worked examples of the rules, as a table.
use Rattle.std.specs.Prelude.{◌≡◌, ℕ, List, [], ◌∷◌, ◌++◌, replicate, Some, None, Ok, Err, Option, Result}
use Rattle.tables.specs.Tables.{of, blank, Table}
use Rattle.tables.specs.declared.refusal.Refusal.{Refusal}
use Rattle.tables.specs.declared.refusal.Refusal.TheVariants.{
  NoSession,
  NoEntry,
  NoMode,
  HoldsFull,
  Conflict,
  Paused,
  Ended,
  NotReading,
  ShortBuffer,
  NotWriting,
  LongText,
  SessionsFull,
  RoundOpen,
  CountsDiffer,
  NoRound,
  Copied,
  Held,
  Uncopied,
}
use Rattle.modes.specs.Kind.{Kind, plain, draft}
use Rattle.rules.specs.Office.{
  Office,
  new_office,
  Call,
  begin,
  claim,
  read,
  write,
  commit,
  leave,
  open_round,
  copy,
  work,
  close_round,
  drop_round,
  Answer,
  refused,
  done,
  number,
  found,
  counts,
}
use Rattle.rules.specs.Rules.{next_answer, step}

-- calls, oldest first, on a new office over two tables: the answers, and then the answer to next and the image
pub record Example : Type 0 where
  pub kind : Kind
  pub live : Table
  pub image : Table
  pub calls : List Call
  pub answers : List Answer
  pub next : Result (Option ℕ) Refusal
  pub image_then : Table

-- the answers to calls, oldest first, and the office after them
abbrev pub run : Kind → Office → List Call → List Answer × Office
run K o [] = ([], o)
run K o (c ∷ cs) = ((step K o c).0 ∷ (run K (step K o c).1 cs).0, (run K (step K o c).1 cs).1)

-- the example is as the rules say
abbrev pub Right : Example → Type 0
Right x =
    ((run x.kind (new_office x.live x.image) x.calls).0 ≡ x.answers)
    × (next_answer (run x.kind (new_office x.live x.image) x.calls).1 ≡ x.next)
    × ((run x.kind (new_office x.live x.image) x.calls).1.image ≡ x.image_then)

-- all examples are
abbrev pub AllRight : List Example → Type 0
AllRight [] = Unit {0}
AllRight (x ∷ xs) = Right x × AllRight xs

-- a table of n blank entries
abbrev pub blanks : ℕ → Table
blanks n = replicate n blank

-- eight entries held: a ninth is refused by 4, and a held one again is granted
abbrev pub eight_holds : Example
eight_holds =
    record {
      kind = plain;
      live = blanks 9;
      image = blanks 9;
      calls =
          begin ∷ claim 1 0 0 ∷ claim 1 1 0 ∷ claim 1 2 0 ∷ claim 1 3 0 ∷ claim 1 4 0 ∷ claim 1 5 0 ∷ claim 1 6 0 ∷ claim 1 7 0
          ∷ claim 1 8 0 ∷ claim 1 3 1 ∷ [];
      answers = number 1 ∷ replicate 8 done ++ (refused HoldsFull ∷ done ∷ []);
      next = Err NoRound;
      image_then = blanks 9;
    }

-- a seventeenth begin is refused by 12, and after one leave it is granted
abbrev pub sixteen_sessions : Example
sixteen_sessions =
    record {
      kind = plain;
      live = [];
      image = [];
      calls = replicate 16 begin ++ (begin ∷ leave 5 ∷ begin ∷ []);
      answers =
          number 1 ∷ number 2 ∷ number 3 ∷ number 4 ∷ number 5 ∷ number 6 ∷ number 7 ∷ number 8 ∷ number 9 ∷ number 10 ∷ number 11
          ∷ number 12 ∷ number 13 ∷ number 14 ∷ number 15 ∷ number 16 ∷ refused SessionsFull ∷ done ∷ number 17 ∷ [];
      next = Err NoRound;
      image_then = [];
    }

-- draft: reserve beside reserve is refused by 5, read beside reserve is granted
abbrev pub reserve_beside : Example
reserve_beside =
    record {
      kind = draft;
      live = blanks 1;
      image = blanks 1;
      calls = begin ∷ begin ∷ claim 1 0 1 ∷ claim 2 0 1 ∷ claim 2 0 0 ∷ [];
      answers = number 1 ∷ number 2 ∷ done ∷ refused Conflict ∷ done ∷ [];
      next = Err NoRound;
      image_then = blanks 1;
    }

-- a Before session claims an uncopied entry: granted
abbrev pub before_uncopied : Example
before_uncopied =
    record {
      kind = plain;
      live = blanks 3;
      image = blanks 3;
      calls = open_round ∷ begin ∷ claim 1 0 0 ∷ claim 1 1 0 ∷ [];
      answers = done ∷ number 1 ∷ done ∷ done ∷ [];
      next = Ok (Some 2);
      image_then = blanks 3;
    }

-- a Before session claims a copied entry: refused by 7, and it is ended
abbrev pub before_copied : Example
before_copied =
    record {
      kind = plain;
      live = blanks 2;
      image = blanks 2;
      calls = open_round ∷ begin ∷ claim 1 0 0 ∷ copy 1 ∷ claim 1 1 0 ∷ leave 1 ∷ [];
      answers = done ∷ number 1 ∷ done ∷ done ∷ refused Ended ∷ refused NoSession ∷ [];
      next = Ok (Some 0);
      image_then = blanks 2;
    }

-- an After session claims a copied entry: granted
abbrev pub after_copied : Example
after_copied =
    record {
      kind = plain;
      live = blanks 2;
      image = blanks 2;
      calls = open_round ∷ work 2 ∷ begin ∷ claim 1 0 0 ∷ claim 1 1 0 ∷ [];
      answers = done ∷ counts 2 0 ∷ number 1 ∷ done ∷ done ∷ [];
      next = Ok None;
      image_then = blanks 2;
    }

-- an After session claims an uncopied entry: refused by 6, and it stays
abbrev pub after_uncopied : Example
after_uncopied =
    record {
      kind = plain;
      live = blanks 2;
      image = blanks 2;
      calls = open_round ∷ work 1 ∷ begin ∷ claim 1 0 0 ∷ claim 1 1 0 ∷ leave 1 ∷ [];
      answers = done ∷ counts 1 1 ∷ number 1 ∷ done ∷ refused Paused ∷ done ∷ [];
      next = Ok (Some 1);
      image_then = blanks 2;
    }

-- a whole round: session 1 is Before and session 2 After, which commits first; the image has what session 1 wrote
abbrev pub whole_round : Example
whole_round =
    record {
      kind = plain;
      live = of (79 ∷ []) 1 1 ∷ blank ∷ [];
      image = blanks 2;
      calls =
          open_round ∷ begin ∷ claim 2 0 1 ∷ read 2 0 96 ∷ write 2 0 (65 ∷ []) ∷ read 2 0 96 ∷ copy 1 ∷ begin ∷ claim 3 1 1 ∷ write 3 1 (66 ∷ [])
          ∷ commit 3 ∷ commit 2 ∷ work 5 ∷ close_round ∷ [];
      answers =
          done ∷ number 2 ∷ done ∷ found (79 ∷ []) ∷ done ∷ found (65 ∷ []) ∷ done ∷ number 3 ∷ done ∷ done
          ∷ done ∷ done ∷ counts 1 0 ∷ done ∷ [];
      next = Err NoRound;
      image_then = of (65 ∷ []) 2 3 ∷ blank ∷ [];
    }

-- a dropped round: the image keeps what it got
abbrev pub dropped_round : Example
dropped_round =
    record {
      kind = plain;
      live = of (79 ∷ []) 1 1 ∷ of (80 ∷ []) 1 2 ∷ [];
      image = blanks 2;
      calls = open_round ∷ copy 1 ∷ drop_round ∷ drop_round ∷ [];
      answers = done ∷ done ∷ done ∷ refused NoRound ∷ [];
      next = Err NoRound;
      image_then = blank ∷ of (80 ∷ []) 1 2 ∷ [];
    }

-- the other refusals of a session's calls
abbrev pub session_refusals : Example
session_refusals =
    record {
      kind = plain;
      live = of (79 ∷ []) 1 1 ∷ [];
      image = blanks 2;
      calls =
          begin ∷ claim 2 1 0 ∷ claim 2 0 2 ∷ read 2 0 96 ∷ claim 2 0 0 ∷ read 2 0 0 ∷ write 2 0 [] ∷ claim 2 0 1 ∷ write 2 0 (replicate 97 65)
          ∷ open_round ∷ copy 0 ∷ copy 1 ∷ [];
      answers =
          number 2 ∷ refused NoEntry ∷ refused NoMode ∷ refused NotReading ∷ done ∷ refused ShortBuffer ∷ refused NotWriting ∷ done ∷ refused LongText
          ∷ refused CountsDiffer ∷ refused NoRound ∷ refused NoEntry ∷ [];
      next = Err NoRound;
      image_then = blanks 2;
    }

-- the other refusals of a round's calls
abbrev pub round_refusals : Example
round_refusals =
    record {
      kind = plain;
      live = blanks 2;
      image = blanks 2;
      calls = open_round ∷ open_round ∷ begin ∷ claim 1 0 0 ∷ copy 0 ∷ copy 1 ∷ copy 1 ∷ work 9 ∷ close_round ∷ [];
      answers = done ∷ refused RoundOpen ∷ number 1 ∷ done ∷ refused Held ∷ done ∷ refused Copied ∷ counts 0 1 ∷ refused Uncopied ∷ [];
      next = Ok None;
      image_then = blanks 2;
    }

-- the table
abbrev pub examples : List Example
examples =
    eight_holds ∷ sixteen_sessions ∷ reserve_beside ∷ before_uncopied ∷ before_copied ∷ after_copied ∷ after_uncopied
    ∷ whole_round ∷ dropped_round ∷ session_refusals ∷ round_refusals ∷ []
