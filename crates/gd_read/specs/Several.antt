-- What the reading of several queries stands for.
use Rattle.std.specs.Prelude.{◌≡◌, ℕ, List, All, map, length, Bool, true, false, None}
use Rattle.gd_prim.specs.declared.Batch.{Batch}
use Rattle.gd_prim.specs.History.{prims_of}
use Rattle.gd_tree.specs.Json.{compact}
use Rattle.gd_defs.specs.Reply.{Answer, answer, answer_item}
use Rattle.gd_runs.specs.Core as core
use Rattle.gd_runs.specs.Request.{ReadRequest, ReadSet, one_query, queries, asks_page}
use Rattle.gd_mql.specs.Requests.{read_view}
use Rattle.gd_read.specs.Query.{QueryGoes}
use Rattle.gd_read.specs.declared.several.Part.{Part}
use Rattle.gd_read.specs.declared.several.Part.TheVariants as part
use Rattle.gd_read.specs.declared.several.SeveralReading.{SeveralReading}

-- a read is of several queries
abbrev pub asks_several : ReadSet → Bool
asks_several (one_query r) = false
asks_several (queries rs) = true

-- what a part asks
abbrev pub part_request : Part → ReadRequest
part_request (part.Going r) = read_view r.subject.request
part_request (part.Answered request text) = read_view request

-- the reading of the core
abbrev pub several_view : SeveralReading → core.Reading
several_view r = record { request = queries (map part_request r.parts.items); dateline = r.dateline; after = None; thawed = None }

-- what a query among others comes to, over the batches below the dateline of all
abbrev pub answer_among : List Batch → ReadRequest → Answer
answer_among batches r = answer (prims_of batches) (length batches) (asks_page r.cursor) None r.query

-- the text of that answer, as it prints among others
abbrev pub text_among : List Batch → ReadRequest → List ℕ
text_among batches r = compact (answer_item (answer_among batches r))

-- a part goes on from no cursor, over the batches below the dateline of all, or has the text of its answer there
abbrev pub PartGoes : List Batch → Part → Type 0
PartGoes batches (part.Going r) = QueryGoes batches r × (r.subject.after ≡ None)
PartGoes batches (part.Answered request text) = text.items ≡ text_among batches (read_view request)

-- a part has its answer
abbrev pub is_answered : Part → Bool
is_answered (part.Going r) = false
is_answered (part.Answered request text) = true

-- each part of a reading does so, over the batches below its dateline
pub record SeveralGo (batches : List Batch) (r : SeveralReading) : Type 0 where
  pub below : length batches ≡ r.dateline
  pub parts : All (PartGoes batches) r.parts.items
