-- The reply lines of an output, and what they tell.
use Rattle.std.specs.Prelude.{ℕ, List, [], ◌∷◌, Bool, false, Option, option_and_then, unwrap_or, ◌==◌, codes, bytes_eq}
use Rattle.std.specs.List.{slice_split}
use Rattle.std.specs.Option.{option_map_or}
use Rattle.std.specs.Result.{result_ok}
use Rattle.gd_tree.specs.Json.{Json, null}
use Rattle.gd_tree.specs.Look.{member_of, text_of}
use Rattle.gd_json.specs.Reading.{json_from}

-- the byte is a newline
abbrev pub is_newline : ℕ → Bool
is_newline c = c == 10

-- parts without the last one, where that is empty
abbrev pub without_last : List (List ℕ) → List (List ℕ)
without_last [] = []
without_last ([] ∷ []) = []
without_last ((c ∷ cs) ∷ []) = (c ∷ cs) ∷ []
without_last (p ∷ q ∷ ps) = p ∷ without_last (q ∷ ps)

-- the lines of an output: what stands before each newline; what stands behind the last one is a line too, where there is anything
unfoldable pub reply_lines : List ℕ → List (List ℕ)
reply_lines output = without_last (slice_split is_newline output)

-- the value that a line is, if it is JSON of this profile
abbrev pub reply_of : List ℕ → Option Json
reply_of line = result_ok (json_from line)

-- the member `code` of a reply is the text that tells success
abbrev pub is_ok : Json → Bool
is_ok reply = option_map_or (bytes_eq (codes "/api/status/ok")) (option_and_then text_of (member_of (codes "code") reply)) false

-- the member `result` of a reply, null where there is none
abbrev pub result_in : Json → Json
result_in reply = unwrap_or (member_of (codes "result") reply) null

-- a line is a reply that tells success
unfoldable pub is_ok_line : List ℕ → Bool
is_ok_line line = option_map_or is_ok (reply_of line) false

-- the result that a line tells
unfoldable pub result_of : List ℕ → Json
result_of line = option_map_or result_in (reply_of line) null
