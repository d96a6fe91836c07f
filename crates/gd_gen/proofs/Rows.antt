-- Numbers, lines and summaries, computed; what is expected was worked out from the rules, and not by the program.
use Rattle.std.proofs.Common.{◌≡◌, refl, ℕ, zero, suc, List, [], ◌∷◌, ◌++◌, map, flat_map, Some, None, codes}
use Rattle.std.specs.Prelude.{replicate}
use Rattle.gd_runs.specs.Explained.Lines.{lines_of as lines_in}
use Rattle.gd_runs.proofs.Plain.{computing, replies}
use Rattle.gd_gen.specs.Draws.{following, draw}
use Rattle.gd_gen.specs.Lines.{read_front, write_line, type_query, property_query, next_member, node_query, later_node, later_nodes, nodes, count_query, linked_member, read_lines, lines_of}
use Rattle.gd_gen.specs.Replies.{reply_lines, is_ok_line, result_of}
use Rattle.gd_gen.specs.Summary.{summary, summary_of_lines, summary_of}

-- names what the text of lines is computed from
unfoldable written : Unit {0}
unfolding following draw read_front write_line type_query property_query next_member node_query later_node later_nodes nodes count_query linked_member read_lines lines_of
written = tt

-- names what a summary is computed from
unfoldable summarized : Unit {0}
unfolding computing reply_lines is_ok_line result_of summary summary_of_lines summary_of
summarized = tt

-- the first so many draws behind a number
abbrev draws : ℕ → ℕ → List ℕ
draws zero x = []
draws (suc n) x = draw (following x) ∷ draws n (following x)

pub first_draws : draws 5 0 ≡ 15470 ∷ 18256 ∷ 53708 ∷ 43769 ∷ 25170 ∷ []
unfolding written
first_draws = refl

-- the lines of number 0 and three nodes
abbrev three_nodes : List ℕ
three_nodes =
    codes "{\"sid\":0,\"write\":{\"query\":{\"create\":\"unconditional\",\"key\":{\"namespace\":\"/\",\"value\":\"g\"},\"type\":\"/type/type\"}}}\n"
    ++ codes "{\"sid\":0,\"write\":{\"query\":{\"create\":\"unconditional\",\"expected_type\":\"/g\",\"key\":{\"namespace\":\"/g\",\"value\":\"next\"},\"type\":\"/type/property\"}}}\n"
    ++ codes "{\"sid\":0,\"write\":{\"query\":{\"create\":\"unconditional\",\"name\":\"n0\",\"type\":\"/g\"}}}\n"
    ++ codes "{\"sid\":0,\"write\":{\"query\":{\"create\":\"unconditional\",\"name\":\"n6\",\"next\":{\"id\":\"#0000000000000001000000000000004d\"},\"type\":\"/g\"}}}\n"
    ++ codes "{\"sid\":0,\"write\":{\"query\":{\"create\":\"unconditional\",\"name\":\"n9\",\"next\":{\"id\":\"#0000000000000001000000000000004d\"},\"type\":\"/g\"}}}\n"
    ++ codes "\n"
    ++ codes "{\"sid\":0,\"read\":{\"query\":[{\"limit\":1000,\"name\":\"n0\",\"return\":\"count\",\"type\":\"/g\"}]}}\n"
    ++ codes "{\"sid\":1,\"read\":{\"query\":[{\"limit\":1000,\"name\":\"n1\",\"return\":\"count\",\"type\":\"/g\"}]}}\n"
    ++ codes "{\"sid\":2,\"read\":{\"query\":[{\"limit\":1000,\"name\":\"n2\",\"return\":\"count\",\"type\":\"/g\"}]}}\n"
    ++ codes "{\"sid\":3,\"read\":{\"query\":[{\"limit\":1000,\"name\":\"n3\",\"return\":\"count\",\"type\":\"/g\"}]}}\n"
    ++ codes "{\"sid\":4,\"read\":{\"query\":[{\"limit\":1000,\"name\":\"n4\",\"return\":\"count\",\"type\":\"/g\"}]}}\n"
    ++ codes "{\"sid\":5,\"read\":{\"query\":[{\"limit\":1000,\"name\":\"n5\",\"return\":\"count\",\"type\":\"/g\"}]}}\n"
    ++ codes "{\"sid\":6,\"read\":{\"query\":[{\"limit\":1000,\"name\":\"n6\",\"return\":\"count\",\"type\":\"/g\"}]}}\n"
    ++ codes "{\"sid\":7,\"read\":{\"query\":[{\"limit\":1000,\"name\":\"n7\",\"return\":\"count\",\"type\":\"/g\"}]}}\n"
    ++ codes "{\"sid\":8,\"read\":{\"query\":[{\"limit\":1000,\"name\":\"n8\",\"return\":\"count\",\"type\":\"/g\"}]}}\n"
    ++ codes "{\"sid\":9,\"read\":{\"query\":[{\"limit\":1000,\"name\":\"n9\",\"return\":\"count\",\"type\":\"/g\"}]}}\n"
    ++ codes "{\"sid\":0,\"read\":{\"query\":[{\"limit\":1000,\"name\":\"n0\",\"next\":{\"name\":\"n0\"},\"return\":\"count\",\"type\":\"/g\"}]}}\n"
    ++ codes "{\"sid\":1,\"read\":{\"query\":[{\"limit\":1000,\"name\":\"n1\",\"next\":{\"name\":\"n0\"},\"return\":\"count\",\"type\":\"/g\"}]}}\n"
    ++ codes "{\"sid\":2,\"read\":{\"query\":[{\"limit\":1000,\"name\":\"n2\",\"next\":{\"name\":\"n0\"},\"return\":\"count\",\"type\":\"/g\"}]}}\n"
    ++ codes "{\"sid\":3,\"read\":{\"query\":[{\"limit\":1000,\"name\":\"n3\",\"next\":{\"name\":\"n0\"},\"return\":\"count\",\"type\":\"/g\"}]}}\n"
    ++ codes "{\"sid\":4,\"read\":{\"query\":[{\"limit\":1000,\"name\":\"n4\",\"next\":{\"name\":\"n0\"},\"return\":\"count\",\"type\":\"/g\"}]}}\n"
    ++ codes "{\"sid\":5,\"read\":{\"query\":[{\"limit\":1000,\"name\":\"n5\",\"next\":{\"name\":\"n0\"},\"return\":\"count\",\"type\":\"/g\"}]}}\n"
    ++ codes "{\"sid\":6,\"read\":{\"query\":[{\"limit\":1000,\"name\":\"n6\",\"next\":{\"name\":\"n0\"},\"return\":\"count\",\"type\":\"/g\"}]}}\n"
    ++ codes "{\"sid\":7,\"read\":{\"query\":[{\"limit\":1000,\"name\":\"n7\",\"next\":{\"name\":\"n0\"},\"return\":\"count\",\"type\":\"/g\"}]}}\n"
    ++ codes "{\"sid\":8,\"read\":{\"query\":[{\"limit\":1000,\"name\":\"n8\",\"next\":{\"name\":\"n0\"},\"return\":\"count\",\"type\":\"/g\"}]}}\n"
    ++ codes "{\"sid\":9,\"read\":{\"query\":[{\"limit\":1000,\"name\":\"n9\",\"next\":{\"name\":\"n0\"},\"return\":\"count\",\"type\":\"/g\"}]}}\n"

pub lines_of_three : lines_of 0 3 ≡ three_nodes
unfolding written
lines_of_three = refl

-- a line to which the result is 7
abbrev seven : List ℕ
seven = codes "{\"code\":\"/api/status/ok\",\"result\":7}\n"

-- so many lines, one like the other
abbrev times : ℕ → List ℕ → List ℕ
times n line = flat_map (λ l. l) (replicate n line)

pub just_reads : summary_of (times 20 seven) ≡ Some (codes "{\"counts\":[7,7,7,7,7,7,7,7,7,7],\"entries\":0,\"linked\":[7,7,7,7,7,7,7,7,7,7]}")
unfolding summarized
just_reads = refl

-- a line more in front is a write; the last newline may be missing, and a result too
pub one_write : summary_of (times 20 seven ++ codes "{\"code\":\"/api/status/ok\"}")
    ≡ Some (codes "{\"counts\":[7,7,7,7,7,7,7,7,7,7],\"entries\":1,\"linked\":[7,7,7,7,7,7,7,7,7,null]}")
unfolding summarized
one_write = refl

pub too_few : summary_of (times 19 seven) ≡ None
unfolding summarized
too_few = refl

pub no_lines : summary_of [] ≡ None
unfolding summarized
no_lines = refl

-- a write that was refused, a blank line, a line that is no JSON
pub refused : summary_of (codes "{\"code\":\"/api/status/error\",\"error\":\"Memory\",\"info\":{},\"line\":0}\n" ++ times 20 seven) ≡ None
unfolding summarized
refused = refl

pub blank : summary_of (times 20 seven ++ codes "\n") ≡ None
unfolding summarized
blank = refl

pub no_json : summary_of (times 20 seven ++ codes "{") ≡ None
unfolding summarized
no_json = refl

-- the replies to the lines of number 0 and three nodes on a fresh store, by the definitions, each with a newline
abbrev output_of_three : List ℕ
output_of_three = flat_map (λ r. r ++ 10 ∷ []) (replies (map (λ l. l.bytes) (lines_in (lines_of 0 3))))

pub summary_of_three : summary_of output_of_three
    ≡ Some (codes "{\"counts\":[1,0,0,0,0,0,1,0,0,1],\"entries\":5,\"linked\":[0,0,0,0,0,0,1,0,0,1]}")
unfolding written summarized replies
summary_of_three = refl
