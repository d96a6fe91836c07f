-- Limits, orders, and pages that stay at their dateline.
-- Written by tools/row.py from rows/pages.txt.
use Rattle.std.proofs.Common.{refl, [], ◌∷◌, codes}
use Rattle.gd_runs.proofs.Plain.{◌⇒◌, replies, AreReplies}

-- A further page answers at the dateline of its cursor, whatever was written since.
pub page_at_its_dateline : AreReplies (
    codes "{\"sid\":0,\"write\":{\"query\":{\"create\":\"unconditional\",\"guid\":null,\"type\":\"/type/namespace\"}}}"
    ⇒ codes "{\"code\":\"/api/status/ok\",\"dateline\":1,\"line\":0,\"result\":{\"create\":\"created\",\"guid\":\"#00000000000000010000000000000046\",\"type\":\"/type/namespace\"}}"
    ∷ codes "{\"sid\":0,\"read\":{\"cursor\":true,\"query\":[{\"guid\":null,\"limit\":3,\"type\":\"/type/namespace\"}]}}"
    ⇒ codes "{\"code\":\"/api/status/ok\",\"cursor\":\"c1:1:2\",\"dateline\":1,\"line\":1,\"result\":[{\"guid\":\"#00000000000000010000000000000000\",\"type\":\"/type/namespace\"},{\"guid\":\"#00000000000000010000000000000001\",\"type\":\"/type/namespace\"},{\"guid\":\"#00000000000000010000000000000002\",\"type\":\"/type/namespace\"}]}"
    ∷ codes "{\"sid\":0,\"write\":{\"query\":{\"id\":\"#00000000000000010000000000000046\",\"type\":{\"connect\":\"delete\",\"id\":\"/type/namespace\"}}}}"
    ⇒ codes "{\"code\":\"/api/status/ok\",\"dateline\":2,\"line\":2,\"result\":{\"id\":\"#00000000000000010000000000000046\",\"type\":{\"connect\":\"deleted\",\"id\":\"/type/namespace\"}}}"
    ∷ codes "{\"sid\":0,\"write\":{\"query\":{\"id\":\"#00000000000000010000000000000046\",\"type\":{\"connect\":\"delete\",\"id\":\"/type/namespace\"}}}}"
    ⇒ codes "{\"code\":\"/api/status/ok\",\"dateline\":3,\"line\":3,\"result\":{\"id\":\"#00000000000000010000000000000046\",\"type\":{\"connect\":\"absent\",\"id\":\"/type/namespace\"}}}"
    ∷ codes "{\"sid\":0,\"read\":{\"cursor\":\"c1:1:2\",\"query\":[{\"guid\":null,\"limit\":3,\"type\":\"/type/namespace\"}]}}"
    ⇒ codes "{\"code\":\"/api/status/ok\",\"cursor\":false,\"dateline\":1,\"line\":4,\"result\":[{\"guid\":\"#00000000000000010000000000000046\",\"type\":\"/type/namespace\"}]}"
    ∷ codes "{\"sid\":0,\"read\":{\"query\":[{\"guid\":null,\"limit\":3,\"type\":\"/type/namespace\"}]}}"
    ⇒ codes "{\"code\":\"/api/status/ok\",\"dateline\":3,\"line\":5,\"result\":[{\"guid\":\"#00000000000000010000000000000000\",\"type\":\"/type/namespace\"},{\"guid\":\"#00000000000000010000000000000001\",\"type\":\"/type/namespace\"},{\"guid\":\"#00000000000000010000000000000002\",\"type\":\"/type/namespace\"}]}"
    ∷ [])
unfolding replies
page_at_its_dateline = refl

-- The pages joined are the whole answer, and the last cursor is false.
pub three_pages : AreReplies (
    codes "{\"sid\":0,\"write\":{\"query\":{\"create\":\"unconditional\",\"name\":\"Q\"}}}"
    ⇒ codes "{\"code\":\"/api/status/ok\",\"dateline\":1,\"line\":0,\"result\":{\"create\":\"created\",\"name\":\"Q\"}}"
    ∷ codes "{\"sid\":0,\"write\":{\"query\":{\"create\":\"unconditional\",\"name\":\"Q\"}}}"
    ⇒ codes "{\"code\":\"/api/status/ok\",\"dateline\":2,\"line\":1,\"result\":{\"create\":\"created\",\"name\":\"Q\"}}"
    ∷ codes "{\"sid\":0,\"write\":{\"query\":{\"create\":\"unconditional\",\"name\":\"Q\"}}}"
    ⇒ codes "{\"code\":\"/api/status/ok\",\"dateline\":3,\"line\":2,\"result\":{\"create\":\"created\",\"name\":\"Q\"}}"
    ∷ codes "{\"sid\":0,\"write\":{\"query\":{\"create\":\"unconditional\",\"name\":\"Q\"}}}"
    ⇒ codes "{\"code\":\"/api/status/ok\",\"dateline\":4,\"line\":3,\"result\":{\"create\":\"created\",\"name\":\"Q\"}}"
    ∷ codes "{\"sid\":0,\"write\":{\"query\":{\"create\":\"unconditional\",\"name\":\"Q\"}}}"
    ⇒ codes "{\"code\":\"/api/status/ok\",\"dateline\":5,\"line\":4,\"result\":{\"create\":\"created\",\"name\":\"Q\"}}"
    ∷ codes "{\"sid\":0,\"read\":{\"cursor\":true,\"query\":[{\"guid\":null,\"limit\":2,\"name\":\"Q\"}]}}"
    ⇒ codes "{\"code\":\"/api/status/ok\",\"cursor\":\"c1:5:72\",\"dateline\":5,\"line\":5,\"result\":[{\"guid\":\"#00000000000000010000000000000046\",\"name\":\"Q\"},{\"guid\":\"#00000000000000010000000000000048\",\"name\":\"Q\"}]}"
    ∷ codes "{\"sid\":0,\"write\":{\"query\":{\"create\":\"unconditional\",\"name\":\"Q\"}}}"
    ⇒ codes "{\"code\":\"/api/status/ok\",\"dateline\":6,\"line\":6,\"result\":{\"create\":\"created\",\"name\":\"Q\"}}"
    ∷ codes "{\"sid\":0,\"read\":{\"cursor\":\"c1:5:72\",\"query\":[{\"guid\":null,\"limit\":2,\"name\":\"Q\"}]}}"
    ⇒ codes "{\"code\":\"/api/status/ok\",\"cursor\":\"c1:5:76\",\"dateline\":5,\"line\":7,\"result\":[{\"guid\":\"#0000000000000001000000000000004a\",\"name\":\"Q\"},{\"guid\":\"#0000000000000001000000000000004c\",\"name\":\"Q\"}]}"
    ∷ codes "{\"sid\":0,\"read\":{\"cursor\":\"c1:5:76\",\"query\":[{\"guid\":null,\"limit\":2,\"name\":\"Q\"}]}}"
    ⇒ codes "{\"code\":\"/api/status/ok\",\"cursor\":false,\"dateline\":5,\"line\":8,\"result\":[{\"guid\":\"#0000000000000001000000000000004e\",\"name\":\"Q\"}]}"
    ∷ [])
unfolding replies
three_pages = refl

-- A page that no row follows has the cursor false, also where it is full.
pub one_full_page : AreReplies (
    codes "{\"sid\":0,\"write\":{\"query\":{\"create\":\"unconditional\",\"name\":\"Q\"}}}"
    ⇒ codes "{\"code\":\"/api/status/ok\",\"dateline\":1,\"line\":0,\"result\":{\"create\":\"created\",\"name\":\"Q\"}}"
    ∷ codes "{\"sid\":0,\"write\":{\"query\":{\"create\":\"unconditional\",\"name\":\"Q\"}}}"
    ⇒ codes "{\"code\":\"/api/status/ok\",\"dateline\":2,\"line\":1,\"result\":{\"create\":\"created\",\"name\":\"Q\"}}"
    ∷ codes "{\"sid\":0,\"write\":{\"query\":{\"create\":\"unconditional\",\"name\":\"Q\"}}}"
    ⇒ codes "{\"code\":\"/api/status/ok\",\"dateline\":3,\"line\":2,\"result\":{\"create\":\"created\",\"name\":\"Q\"}}"
    ∷ codes "{\"sid\":0,\"write\":{\"query\":{\"create\":\"unconditional\",\"name\":\"Q\"}}}"
    ⇒ codes "{\"code\":\"/api/status/ok\",\"dateline\":4,\"line\":3,\"result\":{\"create\":\"created\",\"name\":\"Q\"}}"
    ∷ codes "{\"sid\":0,\"write\":{\"query\":{\"create\":\"unconditional\",\"name\":\"Q\"}}}"
    ⇒ codes "{\"code\":\"/api/status/ok\",\"dateline\":5,\"line\":4,\"result\":{\"create\":\"created\",\"name\":\"Q\"}}"
    ∷ codes "{\"sid\":0,\"read\":{\"cursor\":true,\"query\":[{\"guid\":null,\"limit\":5,\"name\":\"Q\"}]}}"
    ⇒ codes "{\"code\":\"/api/status/ok\",\"cursor\":false,\"dateline\":5,\"line\":5,\"result\":[{\"guid\":\"#00000000000000010000000000000046\",\"name\":\"Q\"},{\"guid\":\"#00000000000000010000000000000048\",\"name\":\"Q\"},{\"guid\":\"#0000000000000001000000000000004a\",\"name\":\"Q\"},{\"guid\":\"#0000000000000001000000000000004c\",\"name\":\"Q\"},{\"guid\":\"#0000000000000001000000000000004e\",\"name\":\"Q\"}]}"
    ∷ codes "{\"sid\":0,\"read\":{\"cursor\":false,\"query\":[{\"guid\":null,\"limit\":2,\"name\":\"Q\"}]}}"
    ⇒ codes "{\"code\":\"/api/status/ok\",\"dateline\":5,\"line\":6,\"result\":[{\"guid\":\"#00000000000000010000000000000046\",\"name\":\"Q\"},{\"guid\":\"#00000000000000010000000000000048\",\"name\":\"Q\"}]}"
    ∷ [])
unfolding replies
one_full_page = refl

-- A cursor ahead of the store, and texts that are no cursor.
pub bad_cursors : AreReplies (
    codes "{\"sid\":0,\"write\":{\"query\":{\"create\":\"unconditional\",\"name\":\"Q\"}}}"
    ⇒ codes "{\"code\":\"/api/status/ok\",\"dateline\":1,\"line\":0,\"result\":{\"create\":\"created\",\"name\":\"Q\"}}"
    ∷ codes "{\"sid\":0,\"write\":{\"query\":{\"create\":\"unconditional\",\"name\":\"Q\"}}}"
    ⇒ codes "{\"code\":\"/api/status/ok\",\"dateline\":2,\"line\":1,\"result\":{\"create\":\"created\",\"name\":\"Q\"}}"
    ∷ codes "{\"sid\":0,\"write\":{\"query\":{\"create\":\"unconditional\",\"name\":\"Q\"}}}"
    ⇒ codes "{\"code\":\"/api/status/ok\",\"dateline\":3,\"line\":2,\"result\":{\"create\":\"created\",\"name\":\"Q\"}}"
    ∷ codes "{\"sid\":0,\"read\":{\"cursor\":\"c1:999:5\",\"query\":[{\"guid\":null,\"limit\":2,\"name\":\"Q\"}]}}"
    ⇒ codes "{\"code\":\"/api/status/error\",\"dateline\":3,\"error\":\"CursorAhead\",\"info\":{\"asked\":999,\"have\":3},\"line\":3}"
    ∷ codes "{\"sid\":0,\"read\":{\"cursor\":\"c1:03:5\",\"query\":[{\"guid\":null,\"limit\":2,\"name\":\"Q\"}]}}"
    ⇒ codes "{\"code\":\"/api/status/error\",\"dateline\":3,\"error\":\"BadCursor\",\"info\":{\"offset\":4},\"line\":4}"
    ∷ codes "{\"sid\":0,\"read\":{\"cursor\":\"c1:\",\"query\":[{\"guid\":null,\"limit\":2,\"name\":\"Q\"}]}}"
    ⇒ codes "{\"code\":\"/api/status/error\",\"dateline\":3,\"error\":\"BadCursor\",\"info\":{\"offset\":3},\"line\":5}"
    ∷ codes "{\"sid\":0,\"read\":{\"cursor\":\"c2:0:0\",\"query\":[{\"guid\":null,\"limit\":2,\"name\":\"Q\"}]}}"
    ⇒ codes "{\"code\":\"/api/status/error\",\"dateline\":3,\"error\":\"BadCursor\",\"info\":{\"offset\":1},\"line\":6}"
    ∷ codes "{\"sid\":0,\"read\":{\"cursor\":\"c1:0:0:\",\"query\":[{\"guid\":null,\"limit\":2,\"name\":\"Q\"}]}}"
    ⇒ codes "{\"code\":\"/api/status/error\",\"dateline\":3,\"error\":\"BadCursor\",\"info\":{\"offset\":7},\"line\":7}"
    ∷ codes "{\"sid\":0,\"read\":{\"cursor\":\"c1:0:0:-:-:-:-:-\",\"query\":[{\"guid\":null,\"limit\":2,\"name\":\"Q\"}]}}"
    ⇒ codes "{\"code\":\"/api/status/error\",\"dateline\":3,\"error\":\"BadCursor\",\"info\":{\"offset\":14},\"line\":8}"
    ∷ codes "{\"sid\":0,\"read\":{\"cursor\":\"c1:4194304:0\",\"query\":[{\"guid\":null,\"limit\":2,\"name\":\"Q\"}]}}"
    ⇒ codes "{\"code\":\"/api/status/error\",\"dateline\":3,\"error\":\"BadCursor\",\"info\":{\"offset\":9},\"line\":9}"
    ∷ codes "{\"sid\":0,\"read\":{\"cursor\":\"c1:3:70:-:5\",\"query\":[{\"guid\":null,\"limit\":2,\"name\":\"Q\"}]}}"
    ⇒ codes "{\"code\":\"/api/status/ok\",\"cursor\":false,\"dateline\":3,\"line\":10,\"result\":[{\"guid\":\"#00000000000000010000000000000048\",\"name\":\"Q\"},{\"guid\":\"#0000000000000001000000000000004a\",\"name\":\"Q\"}]}"
    ∷ [])
unfolding replies
bad_cursors = refl

-- A missing name comes last, also downward, and ties stand in the order of the objects.
pub by_name_downward : AreReplies (
    codes "{\"sid\":0,\"write\":{\"query\":{\"create\":\"unconditional\",\"guid\":null,\"name\":\"B\",\"type\":\"/type/namespace\"}}}"
    ⇒ codes "{\"code\":\"/api/status/ok\",\"dateline\":1,\"line\":0,\"result\":{\"create\":\"created\",\"guid\":\"#00000000000000010000000000000046\",\"name\":\"B\",\"type\":\"/type/namespace\"}}"
    ∷ codes "{\"sid\":0,\"write\":{\"query\":{\"create\":\"unconditional\",\"guid\":null,\"name\":\"A\",\"type\":\"/type/namespace\"}}}"
    ⇒ codes "{\"code\":\"/api/status/ok\",\"dateline\":2,\"line\":1,\"result\":{\"create\":\"created\",\"guid\":\"#00000000000000010000000000000049\",\"name\":\"A\",\"type\":\"/type/namespace\"}}"
    ∷ codes "{\"sid\":0,\"write\":{\"query\":{\"create\":\"unconditional\",\"guid\":null,\"name\":\"B\",\"type\":\"/type/namespace\"}}}"
    ⇒ codes "{\"code\":\"/api/status/ok\",\"dateline\":3,\"line\":2,\"result\":{\"create\":\"created\",\"guid\":\"#0000000000000001000000000000004c\",\"name\":\"B\",\"type\":\"/type/namespace\"}}"
    ∷ codes "{\"sid\":0,\"write\":{\"query\":{\"create\":\"unconditional\",\"guid\":null,\"type\":\"/type/namespace\"}}}"
    ⇒ codes "{\"code\":\"/api/status/ok\",\"dateline\":4,\"line\":3,\"result\":{\"create\":\"created\",\"guid\":\"#0000000000000001000000000000004f\",\"type\":\"/type/namespace\"}}"
    ∷ codes "{\"sid\":0,\"read\":{\"query\":[{\"guid\":null,\"name\":null,\"sort\":\"-name\",\"type\":\"/type/namespace\"}]}}"
    ⇒ codes "{\"code\":\"/api/status/ok\",\"dateline\":4,\"line\":4,\"result\":[{\"guid\":\"#00000000000000010000000000000001\",\"name\":\"Type\",\"type\":\"/type/namespace\"},{\"guid\":\"#00000000000000010000000000000000\",\"name\":\"Root\",\"type\":\"/type/namespace\"},{\"guid\":\"#00000000000000010000000000000046\",\"name\":\"B\",\"type\":\"/type/namespace\"},{\"guid\":\"#0000000000000001000000000000004c\",\"name\":\"B\",\"type\":\"/type/namespace\"},{\"guid\":\"#00000000000000010000000000000049\",\"name\":\"A\",\"type\":\"/type/namespace\"},{\"guid\":\"#00000000000000010000000000000002\",\"name\":null,\"type\":\"/type/namespace\"},{\"guid\":\"#0000000000000001000000000000004f\",\"name\":null,\"type\":\"/type/namespace\"}]}"
    ∷ codes "{\"sid\":0,\"read\":{\"query\":[{\"guid\":null,\"name\":null,\"sort\":\"name\",\"type\":\"/type/namespace\"}]}}"
    ⇒ codes "{\"code\":\"/api/status/ok\",\"dateline\":4,\"line\":5,\"result\":[{\"guid\":\"#00000000000000010000000000000049\",\"name\":\"A\",\"type\":\"/type/namespace\"},{\"guid\":\"#00000000000000010000000000000046\",\"name\":\"B\",\"type\":\"/type/namespace\"},{\"guid\":\"#0000000000000001000000000000004c\",\"name\":\"B\",\"type\":\"/type/namespace\"},{\"guid\":\"#00000000000000010000000000000000\",\"name\":\"Root\",\"type\":\"/type/namespace\"},{\"guid\":\"#00000000000000010000000000000001\",\"name\":\"Type\",\"type\":\"/type/namespace\"},{\"guid\":\"#00000000000000010000000000000002\",\"name\":null,\"type\":\"/type/namespace\"},{\"guid\":\"#0000000000000001000000000000004f\",\"name\":null,\"type\":\"/type/namespace\"}]}"
    ∷ codes "{\"sid\":0,\"read\":{\"query\":[{\"guid\":null,\"name\":null,\"sort\":[\"name\",\"-guid\"],\"type\":\"/type/namespace\"}]}}"
    ⇒ codes "{\"code\":\"/api/status/ok\",\"dateline\":4,\"line\":6,\"result\":[{\"guid\":\"#00000000000000010000000000000049\",\"name\":\"A\",\"type\":\"/type/namespace\"},{\"guid\":\"#0000000000000001000000000000004c\",\"name\":\"B\",\"type\":\"/type/namespace\"},{\"guid\":\"#00000000000000010000000000000046\",\"name\":\"B\",\"type\":\"/type/namespace\"},{\"guid\":\"#00000000000000010000000000000000\",\"name\":\"Root\",\"type\":\"/type/namespace\"},{\"guid\":\"#00000000000000010000000000000001\",\"name\":\"Type\",\"type\":\"/type/namespace\"},{\"guid\":\"#0000000000000001000000000000004f\",\"name\":null,\"type\":\"/type/namespace\"},{\"guid\":\"#00000000000000010000000000000002\",\"name\":null,\"type\":\"/type/namespace\"}]}"
    ∷ codes "{\"sid\":0,\"read\":{\"cursor\":true,\"query\":[{\"guid\":null,\"limit\":4,\"name\":null,\"sort\":\"name\",\"type\":\"/type/namespace\"}]}}"
    ⇒ codes "{\"code\":\"/api/status/ok\",\"cursor\":\"c1:4:0:66\",\"dateline\":4,\"line\":7,\"result\":[{\"guid\":\"#00000000000000010000000000000049\",\"name\":\"A\",\"type\":\"/type/namespace\"},{\"guid\":\"#00000000000000010000000000000046\",\"name\":\"B\",\"type\":\"/type/namespace\"},{\"guid\":\"#0000000000000001000000000000004c\",\"name\":\"B\",\"type\":\"/type/namespace\"},{\"guid\":\"#00000000000000010000000000000000\",\"name\":\"Root\",\"type\":\"/type/namespace\"}]}"
    ∷ codes "{\"sid\":0,\"read\":{\"cursor\":\"c1:4:0:66\",\"query\":[{\"guid\":null,\"limit\":4,\"name\":null,\"sort\":\"name\",\"type\":\"/type/namespace\"}]}}"
    ⇒ codes "{\"code\":\"/api/status/ok\",\"cursor\":false,\"dateline\":4,\"line\":8,\"result\":[{\"guid\":\"#00000000000000010000000000000001\",\"name\":\"Type\",\"type\":\"/type/namespace\"},{\"guid\":\"#00000000000000010000000000000002\",\"name\":null,\"type\":\"/type/namespace\"},{\"guid\":\"#0000000000000001000000000000004f\",\"name\":null,\"type\":\"/type/namespace\"}]}"
    ∷ codes "{\"sid\":0,\"read\":{\"cursor\":\"c1:4:2:-\",\"query\":[{\"guid\":null,\"limit\":4,\"name\":null,\"sort\":\"name\",\"type\":\"/type/namespace\"}]}}"
    ⇒ codes "{\"code\":\"/api/status/ok\",\"cursor\":false,\"dateline\":4,\"line\":9,\"result\":[{\"guid\":\"#0000000000000001000000000000004f\",\"name\":null,\"type\":\"/type/namespace\"}]}"
    ∷ [])
unfolding replies
by_name_downward = refl

-- A nested list has its own order and limit; an object form with the limit 1 takes the first.
pub nested_lists : AreReplies (
    codes "{\"sid\":0,\"write\":{\"query\":{\"create\":\"unconditional\",\"guid\":null,\"name\":\"B\",\"type\":\"/type/namespace\"}}}"
    ⇒ codes "{\"code\":\"/api/status/ok\",\"dateline\":1,\"line\":0,\"result\":{\"create\":\"created\",\"guid\":\"#00000000000000010000000000000046\",\"name\":\"B\",\"type\":\"/type/namespace\"}}"
    ∷ codes "{\"sid\":0,\"write\":{\"query\":{\"create\":\"unconditional\",\"guid\":null,\"name\":\"A\",\"type\":\"/type/namespace\"}}}"
    ⇒ codes "{\"code\":\"/api/status/ok\",\"dateline\":2,\"line\":1,\"result\":{\"create\":\"created\",\"guid\":\"#00000000000000010000000000000049\",\"name\":\"A\",\"type\":\"/type/namespace\"}}"
    ∷ codes "{\"sid\":0,\"write\":{\"query\":{\"create\":\"unconditional\",\"guid\":null,\"name\":\"B\",\"type\":\"/type/namespace\"}}}"
    ⇒ codes "{\"code\":\"/api/status/ok\",\"dateline\":3,\"line\":2,\"result\":{\"create\":\"created\",\"guid\":\"#0000000000000001000000000000004c\",\"name\":\"B\",\"type\":\"/type/namespace\"}}"
    ∷ codes "{\"sid\":0,\"write\":{\"query\":{\"create\":\"unconditional\",\"guid\":null,\"type\":\"/type/namespace\"}}}"
    ⇒ codes "{\"code\":\"/api/status/ok\",\"dateline\":4,\"line\":3,\"result\":{\"create\":\"created\",\"guid\":\"#0000000000000001000000000000004f\",\"type\":\"/type/namespace\"}}"
    ∷ codes "{\"sid\":0,\"read\":{\"query\":[{\"!/type/object/type\":[{\"limit\":3,\"name\":null,\"sort\":\"-name\"}],\"id\":\"/type/namespace\"}]}}"
    ⇒ codes "{\"code\":\"/api/status/ok\",\"dateline\":4,\"line\":4,\"result\":[{\"!/type/object/type\":[{\"name\":\"Type\"},{\"name\":\"Root\"},{\"name\":\"B\"}],\"id\":\"/type/namespace\"}]}"
    ∷ codes "{\"sid\":0,\"read\":{\"query\":[{\"!/type/object/type\":{\"limit\":1,\"name\":null,\"sort\":\"name\"},\"id\":\"/type/namespace\"}]}}"
    ⇒ codes "{\"code\":\"/api/status/ok\",\"dateline\":4,\"line\":5,\"result\":[{\"!/type/object/type\":{\"name\":\"A\"},\"id\":\"/type/namespace\"}]}"
    ∷ codes "{\"sid\":0,\"read\":{\"query\":[{\"!/type/object/type\":null,\"id\":\"/type/namespace\"}]}}"
    ⇒ codes "{\"code\":\"/api/status/error\",\"dateline\":4,\"error\":\"NotUnique\",\"info\":{\"path\":[\"!/type/object/type\"]},\"line\":6}"
    ∷ codes "{\"sid\":0,\"read\":{\"query\":[{\"!/type/object/type\":{\"name\":null},\"id\":\"/type/namespace\"}]}}"
    ⇒ codes "{\"code\":\"/api/status/error\",\"dateline\":4,\"error\":\"NotUnique\",\"info\":{\"path\":[\"!/type/object/type\"]},\"line\":7}"
    ∷ [])
unfolding replies
nested_lists = refl
