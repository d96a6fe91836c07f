-- Replies, and pieces of their lines.
use Rattle.std.specs.Prelude.{ℕ, List, ◌++◌, codes, decimal, Option, None, Some, Result, Ok, Err}
use Rattle.std.specs.Global.{Vec}
use Rattle.gd_tree.specs.Json.{Json, compact}
use Rattle.gd_base.specs.declared.memory.Memory.{Memory}
use Rattle.gd_runs.specs.Explained.{memory_line, disk_line, late_line}
use Rattle.gd_reply.specs.declared.reply.Failure.{Failure}
use Rattle.gd_reply.specs.declared.reply.Failure.TheVariants.{NoMemory, MaybeStored, NotStored}
use Rattle.gd_reply.specs.declared.reply.Reply.{Reply}
use Rattle.gd_reply.specs.declared.reply.Reply.TheVariants.{Line, Failed, Late}

-- the line that tells a failure at the line of this number
abbrev pub failure_line : Failure → ℕ → List ℕ
failure_line NoMemory k = memory_line k
failure_line MaybeStored k = disk_line k (codes "maybe")
failure_line NotStored k = disk_line k (codes "no")

-- the bytes of what a line is told
abbrev pub reply_text : Reply → List ℕ
reply_text (Line bytes) = bytes.items
reply_text (Failed failure k) = failure_line failure k
reply_text (Late k e) = late_line k e

-- the bytes of a line that was made for line k, or of the reply that there was no memory
abbrev pub made_text : ℕ → Result (Vec ℕ) Memory → List ℕ
made_text k (Ok v) = v.items
made_text k (Err e) = memory_line k

-- what stands before the number of the line where a write is stored as this entry and is not shown yet
abbrev pub late_front : ℕ → List ℕ
late_front entry = codes "{\"code\":\"/api/status/error\",\"error\":\"MemoryLate\",\"info\":{\"entry\":" ++ (decimal entry ++ codes "},\"line\":")

-- what stands before the result in the reply line of an answer
abbrev pub ok_front_of : ℕ → ℕ → List ℕ
ok_front_of dateline line = codes "{\"code\":\"/api/status/ok\",\"dateline\":" ++ decimal dateline ++ codes ",\"line\":" ++ decimal line ++ codes ",\"result\":"

-- the same in the reply line of an answer with a cursor
abbrev pub cursor_front_of : ℕ → ℕ → Json → List ℕ
cursor_front_of dateline line cursor =
    codes "{\"code\":\"/api/status/ok\",\"cursor\":" ++ compact cursor ++ codes ",\"dateline\":" ++ decimal dateline ++ codes ",\"line\":" ++ decimal line ++ codes ",\"result\":"

-- the same, with the cursor where one is asked
abbrev pub found_front : ℕ → ℕ → Option Json → List ℕ
found_front dateline line None = ok_front_of dateline line
found_front dateline line (Some cursor) = cursor_front_of dateline line cursor

-- what stands before the result of an answer among others, with the cursor where one is asked
abbrev pub item_front : Option Json → List ℕ
item_front None = codes "{\"result\":"
item_front (Some cursor) = codes "{\"cursor\":" ++ compact cursor ++ codes ",\"result\":"
