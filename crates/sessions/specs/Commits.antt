-- What a commit puts into the live table, hold by hold.
use Rattle.std.specs.Prelude.{ℕ, suc, min, List, [], ◌∷◌, Option, option_map, slice_set}
use Rattle.std.specs.Option.{option_map_or, unwrap_or}
use Rattle.tables.specs.Tables.{of, Table, entry}
use Rattle.tables.specs.Texts.{bytes_of}
use Rattle.keyed.specs.Keyed.{held}
use Rattle.sessions.specs.Sessions.{session_number}
use Rattle.sessions.specs.declared.hold.Hold.{Hold}
use Rattle.sessions.specs.declared.table.SessionTable.{SessionTable}

-- the holds of the live session of number s
abbrev pub holds_of : SessionTable → ℕ → Option (List (Option Hold))
holds_of t s = option_map (λ x. x.holds) (held session_number t.sessions s)

-- the table t after the put of a hold's text, if it keeps one: with the edition one higher, or equal to the hand if that is less
abbrev pub put_hold : ℕ → Hold → Table → Table
put_hold hand h t =
    option_map_or (λ text. slice_set t h.entry (of (bytes_of text) (min (suc (entry t h.entry).edition) hand) hand)) h.written t

-- the same of each place for a hold, in order
abbrev pub put_holds : ℕ → List (Option Hold) → Table → Table
put_holds hand [] t = t
put_holds hand (x ∷ xs) t = put_holds hand xs (option_map_or (λ h. put_hold hand h t) x t)

-- the live table after the texts of session s are put with the next hand; as it was, if there is no such session
abbrev pub put_written : SessionTable → ℕ → Table → Table
put_written t s live = put_holds t.next_hand (unwrap_or (holds_of t s) []) live
