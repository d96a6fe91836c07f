-- What the replies to generated lines come to.
use Rattle.std.specs.Prelude.{ℕ, ◌-◌, List, [], ◌∷◌, ◌&&◌, Option, Some, None, length, take, drop, map, nat_le, if◌then◌else◌, codes}
use Rattle.std.specs.List.{list_all}
use Rattle.gd_tree.specs.Json.{Json, list}
use Rattle.gd_json.specs.View.{items_of}
use Rattle.gd_defs.specs.Lines.{count_json, line_text}
use Rattle.gd_gen.specs.Replies.{reply_lines, is_ok_line, result_of}

-- the members of a summary: the results of the first reads, the number of writes and the results of the second reads
abbrev pub summary_members : List Json → ℕ → List Json → List (List ℕ × Json)
summary_members counts entries linked = (codes "counts", list (items_of counts)) ∷ (codes "entries", count_json entries) ∷ (codes "linked", list (items_of linked)) ∷ []

-- their line of JSON
unfoldable pub summary : List Json → ℕ → List Json → List ℕ
summary counts entries linked = line_text (summary_members counts entries linked)

-- the summary of reply lines of which the last 20 are those of reads, and the others those of writes
unfoldable pub summary_of_lines : List (List ℕ) → List ℕ
summary_of_lines lines = summary (map result_of (take 10 reads)) writes (map result_of (drop 10 reads))
  where
    writes : ℕ
    writes = length lines - 20

    reads : List (List ℕ)
    reads = drop writes lines

-- how many lines there are, where each is ok
abbrev pub ok_count : List (List ℕ) → Option ℕ
ok_count lines = if list_all is_ok_line lines then Some (length lines) else None

-- the summary of an output; none where a line is not ok, or where there are fewer than 20 lines
unfoldable pub summary_of : List ℕ → Option (List ℕ)
summary_of output = if list_all is_ok_line (reply_lines output) && nat_le 20 (length (reply_lines output))
    then Some (summary_of_lines (reply_lines output)) else None
