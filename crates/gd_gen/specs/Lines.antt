-- The lines that a number and a count of nodes stand for.
use Rattle.std.specs.Prelude.{ℕ, zero, suc, ◌+◌, ◌-◌, ◌*◌, ◌%◌, List, [], ◌∷◌, ◌++◌, ◌==◌, if◌then◌else◌, codes}
use Rattle.gd_defs.specs.Ids.{guid}
use Rattle.gd_gen.specs.Draws.{following, draw}

-- a digit as a byte
abbrev pub digit : ℕ → ℕ
digit n = 48 + n

-- the line in which session 0 writes by this query
unfoldable pub write_line : List ℕ → List ℕ
write_line query = codes "{\"sid\":0,\"write\":{\"query\":" ++ query ++ codes "}}\n"

-- what stands before the query in the line in which a session reads
unfoldable pub read_front : ℕ → List ℕ
read_front session = codes "{\"sid\":" ++ digit session ∷ codes ",\"read\":{\"query\":"

-- the line in which a session reads by this query
abbrev pub read_line : ℕ → List ℕ → List ℕ
read_line session query = read_front session ++ query ++ codes "}}\n"

-- the text of a query in parts: a front up to the n of a name, the digit of that name, members behind the name, and a back
abbrev pub named_query : List ℕ → ℕ → List ℕ → List ℕ → List ℕ
named_query front name members back = front ++ digit name ∷ codes "\"," ++ members ++ back

-- ---- writes

-- the query that creates the type of nodes
unfoldable pub type_query : List ℕ
type_query = codes "{\"create\":\"unconditional\",\"key\":{\"namespace\":\"/\",\"value\":\"g\"},\"type\":\"/type/type\"}"

-- the query that creates the property by which a node leads to another
unfoldable pub property_query : List ℕ
property_query = codes "{\"create\":\"unconditional\",\"expected_type\":\"/g\",\"key\":{\"namespace\":\"/g\",\"value\":\"next\"},\"type\":\"/type/property\"}"

-- the lines that make the type and its property
abbrev pub schema_lines : List ℕ
schema_lines = write_line type_query ++ write_line property_query

-- the place of a node, the first being node 1, by the primitives that the lines before it add to a fresh store
abbrev pub node_place : ℕ → ℕ
node_place node = if node == 1 then 77 else 72 + 4 * node

-- the member by which a node leads to this one
unfoldable pub next_member : ℕ → List ℕ
next_member node = codes "\"next\":{\"id\":\"" ++ guid (node_place node) ++ codes "\"},"

-- the query that creates a node of a name, with these members behind its name
unfoldable pub node_query : ℕ → List ℕ → List ℕ
node_query name members = named_query (codes "{\"create\":\"unconditional\",\"name\":\"n") name members (codes "\"type\":\"/g\"}")

-- the line of node i, i being above 1, where the last draw was that of number x: the next draw gives its name, and the one behind it the node to which it leads
unfoldable pub later_node : ℕ → ℕ → List ℕ
later_node i x = write_line (node_query (draw (following x) % 10) (next_member (1 + draw (following (following x)) % (i - 1))))

-- the lines of so many nodes from node i on, i being above 1, where the last draw was that of number x
unfoldable pub later_nodes : ℕ → ℕ → ℕ → List ℕ
later_nodes zero i x = []
later_nodes (suc left) i x = later_node i x ++ later_nodes left (i + 1) (following (following x))

-- the line of node 1, by the draw behind a number
abbrev pub first_node : ℕ → List ℕ
first_node number = write_line (node_query (draw (following number) % 10) [])

-- the lines of so many nodes, by the draws behind a number
unfoldable pub nodes : ℕ → ℕ → List ℕ
nodes zero number = []
nodes (suc left) number = first_node number ++ later_nodes left 2 (following number)

-- ---- reads

-- the query that counts the nodes of a name, with these members behind its name
unfoldable pub count_query : ℕ → List ℕ → List ℕ
count_query name members = named_query (codes "[{\"limit\":1000,\"name\":\"n") name members (codes "\"return\":\"count\",\"type\":\"/g\"}]")

-- the member that asks for the nodes that lead to one of name n0
unfoldable pub linked_member : List ℕ
linked_member = codes "\"next\":{\"name\":\"n0\"},"

-- the line in which a session counts the nodes of the name of its number
abbrev pub count_line : ℕ → List ℕ → List ℕ
count_line session members = read_line session (count_query session members)

-- the lines in which so many sessions, from session k on, count such nodes
unfoldable pub read_lines : List ℕ → ℕ → ℕ → List ℕ
read_lines members zero k = []
read_lines members (suc left) k = count_line k members ++ read_lines members left (k + 1)

-- the reads: of all nodes of each name, and then of those that lead to a node of the name n0
abbrev pub all_reads : List ℕ
all_reads = read_lines [] 10 0 ++ read_lines linked_member 10 0

-- ---- all

-- the lines of a number and a count: writes that make the schema and the nodes, a blank line, and twice ten reads
unfoldable pub lines_of : ℕ → ℕ → List ℕ
lines_of number count = schema_lines ++ nodes count number ++ codes "\n" ++ all_reads
