-- The text under which the reply to a read is kept, and the dateline that a read has.
use Rattle.std.specs.Prelude.{◌≡◌, ℕ, List, Option, None, Some, Result, Ok, Err, nat_le, option_map, if◌then◌else◌, codes}
use Rattle.gd_tree.specs.Json.{Json, compact}
use Rattle.gd_tree.specs.Look.{member_of}
use Rattle.gd_json.specs.declared.from.JsonFault.{JsonFault}
use Rattle.gd_json.specs.Reading.{json_from}
use Rattle.gd_bytes.specs.Cursor.{Cursor, cursor_of}
use Rattle.gd_runs.specs.Request.{CursorAsk, page_after, ReadSet, one_query, queries, read}
use Rattle.gd_runs.specs.Input.{line_from}

-- the compact text of the member `read` of a value
abbrev pub read_text : Json → Option (List ℕ)
read_text j = option_map compact (member_of (codes "read") j)

-- the text of what a read line asks, if its bytes are JSON with a member `read`: the compact text of that
abbrev pub key_of : List ℕ → Option (List ℕ)
key_of bytes = by (json_from bytes)
  where
    by : Result Json JsonFault → Option (List ℕ)
    by (Ok j) = read_text j
    by (Err f) = None

-- the text of a line that asks this read
pub record IsTextOf (text : List ℕ) (q : ReadSet) : Type 0 where
  pub bytes : List ℕ
  pub session : ℕ
  pub asks : line_from bytes ≡ Ok (read session q)
  pub key : key_of bytes ≡ Some text

-- a text is the key of a read: it is that of some line which asks this
abbrev pub IsKeyOf : List ℕ → ReadSet → Type 0
IsKeyOf text q = ∥ IsTextOf text q ∥₁

-- the dateline of a cursor over so many batches, none where the text is no cursor or is ahead of them
abbrev pub of_cursor : ℕ → Result Cursor ℕ → Option ℕ
of_cursor n (Ok c) = if nat_le c.dateline n then Some c.dateline else None
of_cursor n (Err offset) = None

-- the dateline at which a page is read over so many batches
abbrev pub ask_at : ℕ → CursorAsk → Option ℕ
ask_at n (page_after t) = of_cursor n (cursor_of t)
ask_at n _ = Some n

-- the dateline at which a read is answered over so many batches, none where it is refused for its cursor
abbrev pub dateline_at : ℕ → ReadSet → Option ℕ
dateline_at n (one_query r) = ask_at n r.cursor
dateline_at n (queries rs) = Some n
