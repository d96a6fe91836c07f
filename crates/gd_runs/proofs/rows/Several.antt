-- Several queries in one line.
-- Written by tools/row.py from rows/several.txt.
use Rattle.std.proofs.Common.{refl, [], ◌∷◌, codes}
use Rattle.gd_runs.proofs.Plain.{◌⇒◌, replies, AreReplies}

-- Each query is answered or refused by itself, all at one dateline; a page has its cursor where one is asked.
pub reads : AreReplies (
    codes "{\"sid\":0,\"read\":{\"queries\":[{\"query\":[{\"guid\":null,\"name\":\"English\"}]},{\"query\":{\"guid\":null,\"name\":\"Type\"}},{\"cursor\":true,\"query\":[{\"guid\":null,\"limit\":1,\"name\":\"Type\"}]}]}}"
    ⇒ codes "{\"code\":\"/api/status/ok\",\"dateline\":0,\"line\":0,\"result\":[{\"result\":[{\"guid\":\"#00000000000000010000000000000003\",\"name\":\"English\"}]},{\"error\":\"NotUnique\",\"info\":{\"path\":[]}},{\"cursor\":\"c1:0:1\",\"result\":[{\"guid\":\"#00000000000000010000000000000001\",\"name\":\"Type\"}]}]}"
    ∷ codes "{\"sid\":0,\"read\":{\"queries\":[{\"query\":[{\"age\":5}]},{\"cursor\":true,\"query\":[{\"id\":\"/type\",\"name\":null}]},{\"cursor\":false,\"query\":{\"id\":\"/x\"}}]}}"
    ⇒ codes "{\"code\":\"/api/status/ok\",\"dateline\":0,\"line\":1,\"result\":[{\"error\":\"NoSuchProperty\",\"info\":{\"path\":[\"age\"]}},{\"cursor\":false,\"result\":[{\"id\":\"/type\",\"name\":\"Type\"}]},{\"error\":\"NoSuchId\",\"info\":{\"path\":\"/x\"}}]}"
    ∷ [])
unfolding replies
reads = refl

-- All changes are looked up before any is carried out, and then each sees what those before it made; they are one batch.
pub writes : AreReplies (
    codes "{\"sid\":0,\"write\":{\"queries\":[{\"create\":\"unconditional\",\"guid\":null,\"name\":\"A\"},{\"create\":\"unless_exists\",\"guid\":null,\"name\":\"A\"}]}}"
    ⇒ codes "{\"code\":\"/api/status/ok\",\"dateline\":1,\"line\":0,\"result\":[{\"create\":\"created\",\"guid\":\"#00000000000000010000000000000046\",\"name\":\"A\"},{\"create\":\"existed\",\"guid\":\"#00000000000000010000000000000046\",\"name\":\"A\"}]}"
    ∷ codes "{\"sid\":0,\"write\":{\"queries\":[{\"create\":\"unconditional\",\"key\":{\"namespace\":\"/\",\"value\":\"k\"}},{\"id\":\"/k\",\"name\":{\"connect\":\"insert\",\"value\":\"K\"}}]}}"
    ⇒ codes "{\"code\":\"/api/status/error\",\"dateline\":1,\"error\":\"NoSuchId\",\"info\":{\"path\":\"/k\"},\"line\":1}"
    ∷ codes "{\"sid\":0,\"write\":{\"queries\":[{\"create\":\"unconditional\",\"id\":null,\"name\":\"B\"},{\"create\":\"unconditional\",\"key\":{\"namespace\":\"/\",\"value\":\"k\"}},{\"id\":\"#00000000000000010000000000000046\",\"name\":{\"connect\":\"update\",\"value\":\"C\"}}],\"scope\":\"/type\"}}"
    ⇒ codes "{\"code\":\"/api/status/ok\",\"dateline\":2,\"line\":2,\"result\":[{\"create\":\"created\",\"id\":\"#00000000000000010000000000000048\",\"name\":\"B\"},{\"create\":\"created\",\"key\":{\"namespace\":\"/\",\"value\":\"k\"}},{\"id\":\"#00000000000000010000000000000046\",\"name\":{\"connect\":\"updated\",\"value\":\"C\"}}]}"
    ∷ codes "{\"sid\":0,\"read\":{\"queries\":[{\"query\":[{\"guid\":null,\"name|=\":[\"A\",\"B\",\"C\"]}]},{\"query\":{\"guid\":null,\"id\":\"/k\"}}]}}"
    ⇒ codes "{\"code\":\"/api/status/ok\",\"dateline\":2,\"line\":3,\"result\":[{\"result\":[{\"guid\":\"#00000000000000010000000000000046\",\"name|=\":[\"A\",\"B\",\"C\"]},{\"guid\":\"#00000000000000010000000000000048\",\"name|=\":[\"A\",\"B\",\"C\"]}]},{\"result\":{\"guid\":\"#0000000000000001000000000000004a\",\"id\":\"/k\"}}]}"
    ∷ [])
unfolding replies
writes = refl

-- A refusal of one change refuses all of them, and the number of its query begins its path.
pub refused : AreReplies (
    codes "{\"sid\":0,\"write\":{\"queries\":[{\"create\":\"unconditional\",\"guid\":null,\"name\":\"A\"},{\"create\":\"unless_exists\",\"name\":\"Type\"}]}}"
    ⇒ codes "{\"code\":\"/api/status/error\",\"dateline\":0,\"error\":\"NotUnique\",\"info\":{\"path\":[\"1\"]},\"line\":0}"
    ∷ codes "{\"sid\":0,\"write\":{\"queries\":[{\"create\":\"unconditional\",\"name\":\"A\"},{\"create\":\"unconditional\",\"name\":[\"A\",\"B\"]}]}}"
    ⇒ codes "{\"code\":\"/api/status/error\",\"dateline\":0,\"error\":\"NotUnique\",\"info\":{\"path\":[\"1\",\"name\"]},\"line\":1}"
    ∷ codes "{\"sid\":0,\"write\":{\"queries\":[{\"create\":\"unconditional\",\"age\":5},{\"id\":\"/x\"}]}}"
    ⇒ codes "{\"code\":\"/api/status/error\",\"dateline\":0,\"error\":\"NoSuchProperty\",\"info\":{\"path\":[\"0\",\"age\"]},\"line\":2}"
    ∷ codes "{\"sid\":0,\"write\":{\"queries\":[{\"create\":\"unconditional\",\"name\":\"A\"},{\"create\":\"unconditional\",\"name\":5}]}}"
    ⇒ codes "{\"code\":\"/api/status/error\",\"dateline\":0,\"error\":\"BadQuery\",\"info\":{\"code\":\"bad_value\",\"path\":[\"1\",\"name\"]},\"line\":3}"
    ∷ codes "{\"sid\":0,\"read\":{\"query\":[{\"guid\":null,\"name\":\"A\"}]}}"
    ⇒ codes "{\"code\":\"/api/status/ok\",\"dateline\":0,\"line\":4,\"result\":[]}"
    ∷ [])
unfolding replies
refused = refl

-- A fault of form refuses the line; the number of its query begins its path.
pub forms : AreReplies (
    codes "{\"sid\":0,\"read\":{\"queries\":[{\"query\":[{\"guid\":null}]},{\"query\":[{\"name\":[1,2]}]}]}}"
    ⇒ codes "{\"code\":\"/api/status/error\",\"error\":\"BadQuery\",\"info\":{\"code\":\"list_form\",\"path\":[\"1\",\"name\"]},\"line\":0}"
    ∷ codes "{\"sid\":0,\"read\":{\"queries\":[{\"cursor\":\"c1:0:1\",\"query\":[{\"guid\":null}]}]}}"
    ⇒ codes "{\"code\":\"/api/status/error\",\"error\":\"BadQuery\",\"info\":{\"code\":\"envelope\",\"path\":[\"0\"]},\"line\":1}"
    ∷ codes "{\"sid\":0,\"read\":{\"queries\":[{\"query\":[{\"guid\":null}]},{\"cursor\":true,\"query\":{\"guid\":null}}]}}"
    ⇒ codes "{\"code\":\"/api/status/error\",\"error\":\"BadQuery\",\"info\":{\"code\":\"envelope\",\"path\":[\"1\"]},\"line\":2}"
    ∷ codes "{\"sid\":0,\"read\":{\"queries\":[]}}"
    ⇒ codes "{\"code\":\"/api/status/error\",\"error\":\"BadQuery\",\"info\":{\"code\":\"envelope\",\"path\":[]},\"line\":3}"
    ∷ codes "{\"sid\":0,\"read\":{\"queries\":[{\"query\":{\"id\":\"/\"}},{\"query\":{\"id\":\"/\"}},{\"query\":{\"id\":\"/\"}},{\"query\":{\"id\":\"/\"}},{\"query\":{\"id\":\"/\"}},{\"query\":{\"id\":\"/\"}},{\"query\":{\"id\":\"/\"}},{\"query\":{\"id\":\"/\"}},{\"query\":{\"id\":\"/\"}},{\"query\":{\"id\":\"/\"}},{\"query\":{\"id\":\"/\"}},{\"query\":{\"id\":\"/\"}},{\"query\":{\"id\":\"/\"}},{\"query\":{\"id\":\"/\"}},{\"query\":{\"id\":\"/\"}},{\"query\":{\"id\":\"/\"}},{\"query\":{\"id\":\"/\"}}]}}"
    ⇒ codes "{\"code\":\"/api/status/error\",\"error\":\"BadQuery\",\"info\":{\"code\":\"envelope\",\"path\":[]},\"line\":4}"
    ∷ codes "{\"sid\":0,\"read\":{\"queries\":[{\"query\":{\"id\":\"/\"}}],\"query\":{\"id\":\"/\"}}}"
    ⇒ codes "{\"code\":\"/api/status/error\",\"error\":\"BadQuery\",\"info\":{\"code\":\"envelope\",\"path\":[]},\"line\":5}"
    ∷ codes "{\"sid\":0,\"read\":{\"cursor\":true,\"queries\":[{\"query\":{\"id\":\"/\"}}]}}"
    ⇒ codes "{\"code\":\"/api/status/error\",\"error\":\"BadQuery\",\"info\":{\"code\":\"envelope\",\"path\":[]},\"line\":6}"
    ∷ codes "{\"sid\":0,\"read\":{\"queries\":{\"query\":{\"id\":\"/\"}}}}"
    ⇒ codes "{\"code\":\"/api/status/error\",\"error\":\"BadQuery\",\"info\":{\"code\":\"envelope\",\"path\":[]},\"line\":7}"
    ∷ codes "{\"sid\":0,\"read\":{\"queries\":[{\"query\":5}]}}"
    ⇒ codes "{\"code\":\"/api/status/error\",\"error\":\"BadQuery\",\"info\":{\"code\":\"envelope\",\"path\":[\"0\"]},\"line\":8}"
    ∷ codes "{\"sid\":0,\"write\":{\"queries\":[{\"create\":\"unconditional\"},[]]}}"
    ⇒ codes "{\"code\":\"/api/status/error\",\"error\":\"BadQuery\",\"info\":{\"code\":\"envelope\",\"path\":[\"1\"]},\"line\":9}"
    ∷ codes "{\"sid\":0,\"write\":{\"queries\":[{\"create\":\"unconditional\"},{\"name\":\"A\"}]}}"
    ⇒ codes "{\"code\":\"/api/status/error\",\"error\":\"BadQuery\",\"info\":{\"code\":\"bad_write\",\"path\":[\"1\"]},\"line\":10}"
    ∷ codes "{\"sid\":0,\"write\":{\"queries\":[{\"create\":\"unconditional\"},{\"create\":\"perhaps\",\"name\":\"A\"}]}}"
    ⇒ codes "{\"code\":\"/api/status/error\",\"error\":\"BadQuery\",\"info\":{\"code\":\"bad_create\",\"path\":[\"1\",\"create\"]},\"line\":11}"
    ∷ codes "{\"sid\":0,\"write\":{\"query\":{\"create\":\"unconditional\"},\"queries\":[{\"create\":\"unconditional\"}]}}"
    ⇒ codes "{\"code\":\"/api/status/error\",\"error\":\"BadQuery\",\"info\":{\"code\":\"envelope\",\"path\":[]},\"line\":12}"
    ∷ codes "{\"sid\":0,\"write\":{\"scope\":\"/type\"}}"
    ⇒ codes "{\"code\":\"/api/status/error\",\"error\":\"BadQuery\",\"info\":{\"code\":\"envelope\",\"path\":[]},\"line\":13}"
    ∷ codes "{\"sid\":0,\"read\":{\"queries\":[{\"query\":{\"id\":\"/\"}},{\"query\":{\"id\":\"/\"}},{\"query\":{\"id\":\"/\"}},{\"query\":{\"id\":\"/\"}},{\"query\":{\"id\":\"/\"}},{\"query\":{\"id\":\"/\"}},{\"query\":{\"id\":\"/\"}},{\"query\":{\"id\":\"/\"}},{\"query\":{\"id\":\"/\"}},{\"query\":{\"id\":\"/\"}},{\"query\":{\"id\":\"/\"}},{\"query\":{\"id\":\"/\"}},{\"query\":{\"id\":\"/\"}},{\"query\":{\"id\":\"/\"}},{\"query\":{\"id\":\"/\"}},{\"query\":{\"id|=\":[]}}]}}"
    ⇒ codes "{\"code\":\"/api/status/error\",\"error\":\"BadQuery\",\"info\":{\"code\":\"bad_operand\",\"path\":[\"15\",\"id|=\"]},\"line\":14}"
    ∷ [])
unfolding replies
forms = refl
