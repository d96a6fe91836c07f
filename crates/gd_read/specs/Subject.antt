-- What a reading reads, as the definitions have it.
use Rattle.std.specs.Prelude.{List, None}
use Rattle.gd_prim.specs.declared.Batch.{Batch}
use Rattle.gd_prim.specs.History.{prims_of}
use Rattle.gd_defs.specs.Query.{Query}
use Rattle.gd_defs.specs.Reply.{Answer, answer}
use Rattle.gd_runs.specs.Core as core
use Rattle.gd_runs.specs.Request.{asks_page, one_query}
use Rattle.gd_mql.specs.Requests.{cursor_view, read_view}
use Rattle.gd_read.specs.Marked.{mark_of}
use Rattle.gd_read.specs.declared.subject.Subject.{Subject}

-- the reading of the core that reads it
abbrev pub core_reading : Subject → core.Reading
core_reading s = record { request = one_query (read_view s.request); dateline = s.dateline; after = mark_of s.after; thawed = None }

-- its query as it is written
abbrev pub written : Subject → Query
written s = (read_view s.request).query

-- what it comes to, over the batches below its dateline
abbrev pub answer_of : List Batch → Subject → Answer
answer_of batches s = answer (prims_of batches) s.dateline (asks_page (cursor_view s.request.cursor)) (mark_of s.after) (written s)
