-- Requests that are refused by their form alone, at no dateline.
-- Written by tools/row.py from rows/forms.txt.
use Rattle.std.proofs.Common.{refl, [], ◌∷◌, codes}
use Rattle.gd_runs.proofs.Plain.{◌⇒◌, replies, AreReplies}

-- The members of a request, and a query that is none.
pub envelopes : AreReplies (
    codes "{\"sid\":0,\"read\":{}}"
    ⇒ codes "{\"code\":\"/api/status/error\",\"error\":\"BadQuery\",\"info\":{\"code\":\"envelope\",\"path\":[]},\"line\":0}"
    ∷ codes "{\"sid\":0,\"read\":{\"query\":[{}],\"x\":1}}"
    ⇒ codes "{\"code\":\"/api/status/error\",\"error\":\"BadQuery\",\"info\":{\"code\":\"envelope\",\"path\":[]},\"line\":1}"
    ∷ codes "{\"sid\":0,\"read\":5}"
    ⇒ codes "{\"code\":\"/api/status/error\",\"error\":\"BadQuery\",\"info\":{\"code\":\"envelope\",\"path\":[]},\"line\":2}"
    ∷ codes "{\"sid\":0,\"read\":{\"query\":[]}}"
    ⇒ codes "{\"code\":\"/api/status/error\",\"error\":\"BadQuery\",\"info\":{\"code\":\"envelope\",\"path\":[]},\"line\":3}"
    ∷ codes "{\"sid\":0,\"read\":{\"query\":null}}"
    ⇒ codes "{\"code\":\"/api/status/error\",\"error\":\"BadQuery\",\"info\":{\"code\":\"envelope\",\"path\":[]},\"line\":4}"
    ∷ codes "{\"sid\":0,\"write\":{\"query\":[{}]}}"
    ⇒ codes "{\"code\":\"/api/status/error\",\"error\":\"BadQuery\",\"info\":{\"code\":\"envelope\",\"path\":[]},\"line\":5}"
    ∷ codes "{\"sid\":0,\"write\":{\"query\":{\"id\":\"/\"},\"scope\":\"abc\"}}"
    ⇒ codes "{\"code\":\"/api/status/error\",\"error\":\"BadQuery\",\"info\":{\"code\":\"envelope\",\"path\":[]},\"line\":6}"
    ∷ codes "{\"sid\":0,\"read\":{\"cursor\":5,\"query\":[{}]}}"
    ⇒ codes "{\"code\":\"/api/status/error\",\"error\":\"BadQuery\",\"info\":{\"code\":\"envelope\",\"path\":[]},\"line\":7}"
    ∷ [])
unfolding replies
envelopes = refl

-- A cursor wants a list without `return`; that is tested before the clause.
pub cursors_of_envelopes : AreReplies (
    codes "{\"sid\":0,\"read\":{\"cursor\":true,\"query\":{}}}"
    ⇒ codes "{\"code\":\"/api/status/error\",\"error\":\"BadQuery\",\"info\":{\"code\":\"envelope\",\"path\":[]},\"line\":0}"
    ∷ codes "{\"sid\":0,\"read\":{\"cursor\":true,\"query\":{\"limit\":0}}}"
    ⇒ codes "{\"code\":\"/api/status/error\",\"error\":\"BadQuery\",\"info\":{\"code\":\"envelope\",\"path\":[]},\"line\":1}"
    ∷ codes "{\"sid\":0,\"read\":{\"cursor\":true,\"query\":[{\"limit\":0,\"return\":\"x\"}]}}"
    ⇒ codes "{\"code\":\"/api/status/error\",\"error\":\"BadQuery\",\"info\":{\"code\":\"envelope\",\"path\":[]},\"line\":2}"
    ∷ [])
unfolding replies
cursors_of_envelopes = refl

-- A list stands for itself where it is empty or of one object, or behind `|=`.
pub lists : AreReplies (
    codes "{\"sid\":0,\"read\":{\"query\":[{},{}]}}"
    ⇒ codes "{\"code\":\"/api/status/error\",\"error\":\"BadQuery\",\"info\":{\"code\":\"list_form\",\"path\":[]},\"line\":0}"
    ∷ codes "{\"sid\":0,\"read\":{\"query\":[5]}}"
    ⇒ codes "{\"code\":\"/api/status/error\",\"error\":\"BadQuery\",\"info\":{\"code\":\"list_form\",\"path\":[]},\"line\":1}"
    ∷ codes "{\"sid\":0,\"read\":{\"query\":[{\"name\":[1,2]}]}}"
    ⇒ codes "{\"code\":\"/api/status/error\",\"error\":\"BadQuery\",\"info\":{\"code\":\"list_form\",\"path\":[\"name\"]},\"line\":2}"
    ∷ codes "{\"sid\":0,\"read\":{\"query\":[{\"id\":[1,2]}]}}"
    ⇒ codes "{\"code\":\"/api/status/error\",\"error\":\"BadQuery\",\"info\":{\"code\":\"list_form\",\"path\":[\"id\"]},\"line\":3}"
    ∷ [])
unfolding replies
lists = refl

-- A list within a list, null within one, and literals beside forms have no form, in a read and in an existing clause of a write.
pub items_of_lists : AreReplies (
    codes "{\"sid\":0,\"read\":{\"query\":[{\"name\":[[\"x\"]]}]}}"
    ⇒ codes "{\"code\":\"/api/status/error\",\"error\":\"BadQuery\",\"info\":{\"code\":\"list_form\",\"path\":[\"name\"]},\"line\":0}"
    ∷ codes "{\"sid\":0,\"read\":{\"query\":[{\"name\":[null]}]}}"
    ⇒ codes "{\"code\":\"/api/status/error\",\"error\":\"BadQuery\",\"info\":{\"code\":\"list_form\",\"path\":[\"name\"]},\"line\":1}"
    ∷ codes "{\"sid\":0,\"read\":{\"query\":[{\"type\":[\"x\",{\"id\":\"/\"}]}]}}"
    ⇒ codes "{\"code\":\"/api/status/error\",\"error\":\"BadQuery\",\"info\":{\"code\":\"list_form\",\"path\":[\"type\"]},\"line\":2}"
    ∷ codes "{\"sid\":0,\"write\":{\"query\":{\"id\":\"/\",\"name\":[[\"x\"]]}}}"
    ⇒ codes "{\"code\":\"/api/status/error\",\"error\":\"BadQuery\",\"info\":{\"code\":\"list_form\",\"path\":[\"name\"]},\"line\":3}"
    ∷ codes "{\"sid\":0,\"write\":{\"query\":{\"id\":\"/\",\"name\":[null]}}}"
    ⇒ codes "{\"code\":\"/api/status/error\",\"error\":\"BadQuery\",\"info\":{\"code\":\"list_form\",\"path\":[\"name\"]},\"line\":4}"
    ∷ codes "{\"sid\":0,\"write\":{\"query\":{\"id\":\"/\",\"name\":[\"x\",{\"connect\":\"insert\",\"value\":\"y\"}]}}}"
    ⇒ codes "{\"code\":\"/api/status/error\",\"error\":\"BadQuery\",\"info\":{\"code\":\"list_form\",\"path\":[\"name\"]},\"line\":5}"
    ∷ [])
unfolding replies
items_of_lists = refl

-- What is no word, and words that are left out.
pub words : AreReplies (
    codes "{\"sid\":0,\"read\":{\"query\":[{\"!name\":null}]}}"
    ⇒ codes "{\"code\":\"/api/status/error\",\"error\":\"BadQuery\",\"info\":{\"code\":\"bad_word\",\"path\":[\"!name\"]},\"line\":0}"
    ∷ codes "{\"sid\":0,\"read\":{\"query\":[{\"link\":null}]}}"
    ⇒ codes "{\"code\":\"/api/status/error\",\"error\":\"BadQuery\",\"info\":{\"code\":\"bad_word\",\"path\":[\"link\"]},\"line\":1}"
    ∷ codes "{\"sid\":0,\"read\":{\"query\":[{\"!id\":null}]}}"
    ⇒ codes "{\"code\":\"/api/status/error\",\"error\":\"BadQuery\",\"info\":{\"code\":\"bad_word\",\"path\":[\"!id\"]},\"line\":2}"
    ∷ codes "{\"sid\":0,\"read\":{\"query\":[{\"\":null}]}}"
    ⇒ codes "{\"code\":\"/api/status/error\",\"error\":\"BadQuery\",\"info\":{\"code\":\"bad_word\",\"path\":[\"\"]},\"line\":3}"
    ∷ codes "{\"sid\":0,\"read\":{\"query\":[{\"A:name\":null}]}}"
    ⇒ codes "{\"code\":\"/api/status/error\",\"error\":\"BadQuery\",\"info\":{\"code\":\"bad_word\",\"path\":[\"A:name\"]},\"line\":4}"
    ∷ codes "{\"sid\":0,\"read\":{\"query\":[{\"name=\":null}]}}"
    ⇒ codes "{\"code\":\"/api/status/error\",\"error\":\"BadQuery\",\"info\":{\"code\":\"bad_word\",\"path\":[\"name=\"]},\"line\":5}"
    ∷ codes "{\"sid\":0,\"read\":{\"query\":[{\"a//b\":null}]}}"
    ⇒ codes "{\"code\":\"/api/status/error\",\"error\":\"BadQuery\",\"info\":{\"code\":\"bad_word\",\"path\":[\"a//b\"]},\"line\":6}"
    ∷ codes "{\"sid\":0,\"read\":{\"query\":[{\"*\":null}]}}"
    ⇒ codes "{\"code\":\"/api/status/error\",\"error\":\"BadQuery\",\"info\":{\"code\":\"left_out\",\"path\":[\"*\"]},\"line\":7}"
    ∷ codes "{\"sid\":0,\"read\":{\"query\":[{\"a:*\":null}]}}"
    ⇒ codes "{\"code\":\"/api/status/error\",\"error\":\"BadQuery\",\"info\":{\"code\":\"left_out\",\"path\":[\"a:*\"]},\"line\":8}"
    ∷ codes "{\"sid\":0,\"read\":{\"query\":[{\"count\":null}]}}"
    ⇒ codes "{\"code\":\"/api/status/error\",\"error\":\"BadQuery\",\"info\":{\"code\":\"left_out\",\"path\":[\"count\"]},\"line\":9}"
    ∷ codes "{\"sid\":0,\"read\":{\"query\":[{\"estimate-count\":null}]}}"
    ⇒ codes "{\"code\":\"/api/status/error\",\"error\":\"BadQuery\",\"info\":{\"code\":\"left_out\",\"path\":[\"estimate-count\"]},\"line\":10}"
    ∷ [])
unfolding replies
words = refl

-- The values of directives, and where they stand.
pub directives : AreReplies (
    codes "{\"sid\":0,\"read\":{\"query\":[{\"limit\":0}]}}"
    ⇒ codes "{\"code\":\"/api/status/error\",\"error\":\"BadQuery\",\"info\":{\"code\":\"bad_directive\",\"path\":[\"limit\"]},\"line\":0}"
    ∷ codes "{\"sid\":0,\"read\":{\"query\":[{\"limit\":1001}]}}"
    ⇒ codes "{\"code\":\"/api/status/error\",\"error\":\"BadQuery\",\"info\":{\"code\":\"bad_directive\",\"path\":[\"limit\"]},\"line\":1}"
    ∷ codes "{\"sid\":0,\"read\":{\"query\":[{\"name\":{\"limit\":0}}]}}"
    ⇒ codes "{\"code\":\"/api/status/error\",\"error\":\"BadQuery\",\"info\":{\"code\":\"bad_directive\",\"path\":[\"name\",\"limit\"]},\"line\":2}"
    ∷ codes "{\"sid\":0,\"read\":{\"query\":[{\"optional\":true}]}}"
    ⇒ codes "{\"code\":\"/api/status/error\",\"error\":\"BadQuery\",\"info\":{\"code\":\"bad_directive\",\"path\":[\"optional\"]},\"line\":3}"
    ∷ codes "{\"sid\":0,\"read\":{\"query\":[{\"name\":{\"optional\":\"maybe\"}}]}}"
    ⇒ codes "{\"code\":\"/api/status/error\",\"error\":\"BadQuery\",\"info\":{\"code\":\"bad_directive\",\"path\":[\"name\",\"optional\"]},\"line\":4}"
    ∷ codes "{\"sid\":0,\"read\":{\"query\":[{\"return\":\"x\"}]}}"
    ⇒ codes "{\"code\":\"/api/status/error\",\"error\":\"BadQuery\",\"info\":{\"code\":\"bad_directive\",\"path\":[\"return\"]},\"line\":5}"
    ∷ codes "{\"sid\":0,\"read\":{\"query\":[{\"type\":{\"return\":\"count\"}}]}}"
    ⇒ codes "{\"code\":\"/api/status/error\",\"error\":\"BadQuery\",\"info\":{\"code\":\"bad_directive\",\"path\":[\"type\",\"return\"]},\"line\":6}"
    ∷ codes "{\"sid\":0,\"read\":{\"query\":[{\"sort\":[]}]}}"
    ⇒ codes "{\"code\":\"/api/status/error\",\"error\":\"BadQuery\",\"info\":{\"code\":\"bad_directive\",\"path\":[\"sort\"]},\"line\":7}"
    ∷ codes "{\"sid\":0,\"read\":{\"query\":[{\"sort\":5}]}}"
    ⇒ codes "{\"code\":\"/api/status/error\",\"error\":\"BadQuery\",\"info\":{\"code\":\"bad_directive\",\"path\":[\"sort\"]},\"line\":8}"
    ∷ [])
unfolding replies
directives = refl

-- The form of an operand.
pub operands : AreReplies (
    codes "{\"sid\":0,\"read\":{\"query\":[{\"id\":\"abc\"}]}}"
    ⇒ codes "{\"code\":\"/api/status/error\",\"error\":\"BadQuery\",\"info\":{\"code\":\"bad_operand\",\"path\":[\"id\"]},\"line\":0}"
    ∷ codes "{\"sid\":0,\"read\":{\"query\":[{\"id\":[{}]}]}}"
    ⇒ codes "{\"code\":\"/api/status/error\",\"error\":\"BadQuery\",\"info\":{\"code\":\"bad_operand\",\"path\":[\"id\"]},\"line\":1}"
    ∷ codes "{\"sid\":0,\"read\":{\"query\":[{\"id<\":true}]}}"
    ⇒ codes "{\"code\":\"/api/status/error\",\"error\":\"BadQuery\",\"info\":{\"code\":\"bad_operand\",\"path\":[\"id<\"]},\"line\":2}"
    ∷ codes "{\"sid\":0,\"read\":{\"query\":[{\"name<\":true}]}}"
    ⇒ codes "{\"code\":\"/api/status/error\",\"error\":\"BadQuery\",\"info\":{\"code\":\"bad_operand\",\"path\":[\"name<\"]},\"line\":3}"
    ∷ codes "{\"sid\":0,\"read\":{\"query\":[{\"name~=\":\"a  b\"}]}}"
    ⇒ codes "{\"code\":\"/api/status/error\",\"error\":\"BadQuery\",\"info\":{\"code\":\"bad_operand\",\"path\":[\"name~=\"]},\"line\":4}"
    ∷ codes "{\"sid\":0,\"read\":{\"query\":[{\"name|=\":[]}]}}"
    ⇒ codes "{\"code\":\"/api/status/error\",\"error\":\"BadQuery\",\"info\":{\"code\":\"bad_operand\",\"path\":[\"name|=\"]},\"line\":5}"
    ∷ codes "{\"sid\":0,\"read\":{\"query\":[{\"name!=\":null}]}}"
    ⇒ codes "{\"code\":\"/api/status/error\",\"error\":\"BadQuery\",\"info\":{\"code\":\"bad_operand\",\"path\":[\"name!=\"]},\"line\":6}"
    ∷ codes "{\"sid\":0,\"read\":{\"query\":[{\"timestamp\":\"1970\"}]}}"
    ⇒ codes "{\"code\":\"/api/status/error\",\"error\":\"BadQuery\",\"info\":{\"code\":\"bad_operand\",\"path\":[\"timestamp\"]},\"line\":7}"
    ∷ codes "{\"sid\":0,\"read\":{\"query\":[{\"timestamp\":[]}]}}"
    ⇒ codes "{\"code\":\"/api/status/error\",\"error\":\"BadQuery\",\"info\":{\"code\":\"bad_operand\",\"path\":[\"timestamp\"]},\"line\":8}"
    ∷ codes "{\"sid\":0,\"read\":{\"query\":[{\"timestamp<\":\"abc\"}]}}"
    ⇒ codes "{\"code\":\"/api/status/error\",\"error\":\"BadQuery\",\"info\":{\"code\":\"bad_operand\",\"path\":[\"timestamp<\"]},\"line\":9}"
    ∷ codes "{\"sid\":0,\"read\":{\"query\":[{\"name\":{\"link\":\"x\"}}]}}"
    ⇒ codes "{\"code\":\"/api/status/error\",\"error\":\"BadQuery\",\"info\":{\"code\":\"bad_operand\",\"path\":[\"name\",\"link\"]},\"line\":10}"
    ∷ codes "{\"sid\":0,\"read\":{\"query\":[{\"name\":{\"link!=\":null}}]}}"
    ⇒ codes "{\"code\":\"/api/status/error\",\"error\":\"BadQuery\",\"info\":{\"code\":\"bad_operand\",\"path\":[\"name\",\"link!=\"]},\"line\":11}"
    ∷ [])
unfolding replies
operands = refl

-- The word of a create, which is unless_exists only beside a fact.
pub creates : AreReplies (
    codes "{\"sid\":0,\"write\":{\"query\":{\"create\":\"always\"}}}"
    ⇒ codes "{\"code\":\"/api/status/error\",\"error\":\"BadQuery\",\"info\":{\"code\":\"bad_create\",\"path\":[\"create\"]},\"line\":0}"
    ∷ codes "{\"sid\":0,\"write\":{\"query\":{\"create\":\"unless_exists\"}}}"
    ⇒ codes "{\"code\":\"/api/status/error\",\"error\":\"BadQuery\",\"info\":{\"code\":\"bad_create\",\"path\":[\"create\"]},\"line\":1}"
    ∷ codes "{\"sid\":0,\"write\":{\"query\":{\"create\":\"unless_exists\",\"id\":null,\"name\":null}}}"
    ⇒ codes "{\"code\":\"/api/status/error\",\"error\":\"BadQuery\",\"info\":{\"code\":\"bad_create\",\"path\":[\"create\"]},\"line\":2}"
    ∷ codes "{\"sid\":0,\"write\":{\"query\":{\"create\":\"unless_exists\",\"name\":\"x\",\"type\":{\"create\":\"unless_exists\",\"guid\":null}}}}"
    ⇒ codes "{\"code\":\"/api/status/error\",\"error\":\"BadQuery\",\"info\":{\"code\":\"bad_create\",\"path\":[\"type\",\"create\"]},\"line\":3}"
    ∷ [])
unfolding replies
creates = refl

-- A clause that creates nothing names its object once.
pub named_objects : AreReplies (
    codes "{\"sid\":0,\"write\":{\"query\":{}}}"
    ⇒ codes "{\"code\":\"/api/status/error\",\"error\":\"BadQuery\",\"info\":{\"code\":\"bad_write\",\"path\":[]},\"line\":0}"
    ∷ codes "{\"sid\":0,\"write\":{\"query\":{\"id\":null}}}"
    ⇒ codes "{\"code\":\"/api/status/error\",\"error\":\"BadQuery\",\"info\":{\"code\":\"bad_write\",\"path\":[]},\"line\":1}"
    ∷ codes "{\"sid\":0,\"write\":{\"query\":{\"id\":\"abc\"}}}"
    ⇒ codes "{\"code\":\"/api/status/error\",\"error\":\"BadQuery\",\"info\":{\"code\":\"bad_operand\",\"path\":[\"id\"]},\"line\":2}"
    ∷ codes "{\"sid\":0,\"write\":{\"query\":{\"a:id\":\"/\",\"id\":\"/\"}}}"
    ⇒ codes "{\"code\":\"/api/status/error\",\"error\":\"BadQuery\",\"info\":{\"code\":\"bad_write\",\"path\":[\"a:id\"]},\"line\":3}"
    ∷ codes "{\"sid\":0,\"write\":{\"query\":{\"guid\":\"#00000000000000010000000000000005\",\"id\":\"/type/type\"}}}"
    ⇒ codes "{\"code\":\"/api/status/error\",\"error\":\"BadQuery\",\"info\":{\"code\":\"bad_write\",\"path\":[\"guid\"]},\"line\":4}"
    ∷ codes "{\"sid\":0,\"write\":{\"query\":{\"guid\":\"#00000000000000010000000000000005\",\"id\":null}}}"
    ⇒ codes "{\"code\":\"/api/status/error\",\"error\":\"BadQuery\",\"info\":{\"code\":\"bad_write\",\"path\":[\"id\"]},\"line\":5}"
    ∷ codes "{\"sid\":0,\"write\":{\"query\":{\"create\":\"unconditional\",\"id\":\"/type\"}}}"
    ⇒ codes "{\"code\":\"/api/status/error\",\"error\":\"BadQuery\",\"info\":{\"code\":\"bad_write\",\"path\":[\"id\"]},\"line\":6}"
    ∷ [])
unfolding replies
named_objects = refl

-- The members of a connect form.
pub connect_forms : AreReplies (
    codes "{\"sid\":0,\"write\":{\"query\":{\"id\":\"/type\",\"name\":{\"connect\":\"put\",\"value\":\"x\"}}}}"
    ⇒ codes "{\"code\":\"/api/status/error\",\"error\":\"BadQuery\",\"info\":{\"code\":\"bad_connect\",\"path\":[\"name\",\"connect\"]},\"line\":0}"
    ∷ codes "{\"sid\":0,\"write\":{\"query\":{\"id\":\"/type\",\"name\":{\"connect\":\"put\",\"id\":\"/\",\"value\":\"x\"}}}}"
    ⇒ codes "{\"code\":\"/api/status/error\",\"error\":\"BadQuery\",\"info\":{\"code\":\"bad_write\",\"path\":[\"name\"]},\"line\":1}"
    ∷ codes "{\"sid\":0,\"write\":{\"query\":{\"id\":\"/type\",\"type\":{\"connect\":\"insert\",\"id\":\"abc\"}}}}"
    ⇒ codes "{\"code\":\"/api/status/error\",\"error\":\"BadQuery\",\"info\":{\"code\":\"bad_operand\",\"path\":[\"type\",\"id\"]},\"line\":2}"
    ∷ codes "{\"sid\":0,\"write\":{\"query\":{\"id\":\"/type\",\"name\":{\"connect\":\"insert\",\"previous\":\"#00000000000000010000000000000005\",\"value\":\"x\"}}}}"
    ⇒ codes "{\"code\":\"/api/status/error\",\"error\":\"BadQuery\",\"info\":{\"code\":\"bad_write\",\"path\":[\"name\",\"previous\"]},\"line\":3}"
    ∷ codes "{\"sid\":0,\"write\":{\"query\":{\"id\":\"/type\",\"name\":{\"connect\":\"update\",\"previous\":\"/\",\"value\":\"x\"}}}}"
    ⇒ codes "{\"code\":\"/api/status/error\",\"error\":\"BadQuery\",\"info\":{\"code\":\"bad_operand\",\"path\":[\"name\",\"previous\"]},\"line\":4}"
    ∷ [])
unfolding replies
connect_forms = refl

-- What a write does not have.
pub forms_of_reads : AreReplies (
    codes "{\"sid\":0,\"write\":{\"query\":{\"create\":\"unconditional\",\"name\":{}}}}"
    ⇒ codes "{\"code\":\"/api/status/error\",\"error\":\"BadQuery\",\"info\":{\"code\":\"bad_write\",\"path\":[\"name\"]},\"line\":0}"
    ∷ codes "{\"sid\":0,\"write\":{\"query\":{\"create\":\"unconditional\",\"name\":null}}}"
    ⇒ codes "{\"code\":\"/api/status/error\",\"error\":\"BadQuery\",\"info\":{\"code\":\"bad_write\",\"path\":[\"name\"]},\"line\":1}"
    ∷ codes "{\"sid\":0,\"write\":{\"query\":{\"create\":\"unconditional\",\"name\":[]}}}"
    ⇒ codes "{\"code\":\"/api/status/error\",\"error\":\"BadQuery\",\"info\":{\"code\":\"bad_write\",\"path\":[\"name\"]},\"line\":2}"
    ∷ codes "{\"sid\":0,\"write\":{\"query\":{\"create\":\"unconditional\",\"name|=\":[\"a\"]}}}"
    ⇒ codes "{\"code\":\"/api/status/error\",\"error\":\"BadQuery\",\"info\":{\"code\":\"bad_write\",\"path\":[\"name|=\"]},\"line\":3}"
    ∷ codes "{\"sid\":0,\"write\":{\"query\":{\"create\":\"unconditional\",\"timestamp\":null}}}"
    ⇒ codes "{\"code\":\"/api/status/error\",\"error\":\"BadQuery\",\"info\":{\"code\":\"bad_write\",\"path\":[\"timestamp\"]},\"line\":4}"
    ∷ codes "{\"sid\":0,\"write\":{\"query\":{\"create\":\"unconditional\",\"limit\":1}}}"
    ⇒ codes "{\"code\":\"/api/status/error\",\"error\":\"BadQuery\",\"info\":{\"code\":\"bad_directive\",\"path\":[\"limit\"]},\"line\":5}"
    ∷ codes "{\"sid\":0,\"write\":{\"query\":{\"id\":\"/type\",\"name\":[\"x\"]}}}"
    ⇒ codes "{\"code\":\"/api/status/error\",\"error\":\"BadQuery\",\"info\":{\"code\":\"bad_write\",\"path\":[\"name\"]},\"line\":6}"
    ∷ codes "{\"sid\":0,\"write\":{\"query\":{\"create\":\"unconditional\",\"type\":[\"/type/type\",{\"id\":\"/type/type\"}]}}}"
    ⇒ codes "{\"code\":\"/api/status/error\",\"error\":\"BadQuery\",\"info\":{\"code\":\"list_form\",\"path\":[\"type\"]},\"line\":7}"
    ∷ codes "{\"sid\":0,\"write\":{\"query\":{\"id\":\"/type\",\"link\":null}}}"
    ⇒ codes "{\"code\":\"/api/status/error\",\"error\":\"BadQuery\",\"info\":{\"code\":\"bad_word\",\"path\":[\"link\"]},\"line\":8}"
    ∷ codes "{\"sid\":0,\"write\":{\"query\":{\"create\":\"unconditional\",\"type\":{\"create\":\"unconditional\",\"link\":null}}}}"
    ⇒ codes "{\"code\":\"/api/status/error\",\"error\":\"BadQuery\",\"info\":{\"code\":\"bad_write\",\"path\":[\"type\",\"link\"]},\"line\":9}"
    ∷ [])
unfolding replies
forms_of_reads = refl

-- A clause is tested before its members, and these in byte order of names.
pub first_in_order : AreReplies (
    codes "{\"sid\":0,\"read\":{\"query\":[{\"b<\":true,\"a<\":true}]}}"
    ⇒ codes "{\"code\":\"/api/status/error\",\"error\":\"BadQuery\",\"info\":{\"code\":\"bad_operand\",\"path\":[\"a<\"]},\"line\":0}"
    ∷ codes "{\"sid\":0,\"read\":{\"query\":[{\"a\":{\"optional\":5},\"a<\":true}]}}"
    ⇒ codes "{\"code\":\"/api/status/error\",\"error\":\"BadQuery\",\"info\":{\"code\":\"bad_directive\",\"path\":[\"a\",\"optional\"]},\"line\":1}"
    ∷ codes "{\"sid\":0,\"write\":{\"query\":{\"create\":\"always\",\"a<\":1}}}"
    ⇒ codes "{\"code\":\"/api/status/error\",\"error\":\"BadQuery\",\"info\":{\"code\":\"bad_write\",\"path\":[\"a<\"]},\"line\":2}"
    ∷ [])
unfolding replies
first_in_order = refl
