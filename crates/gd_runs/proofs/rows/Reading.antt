-- Reading the store that only the built-in list is in.
-- Written by tools/row.py from rows/reading.txt.
use Rattle.std.proofs.Common.{refl, [], ◌∷◌, codes}
use Rattle.gd_runs.proofs.Plain.{◌⇒◌, replies, AreReplies}

-- A list, an empty list, and an object form that nothing answers.
pub by_name : AreReplies (
    codes "{\"sid\":0,\"read\":{\"query\":[{\"guid\":null,\"name\":\"English\"}]}}"
    ⇒ codes "{\"code\":\"/api/status/ok\",\"dateline\":0,\"line\":0,\"result\":[{\"guid\":\"#00000000000000010000000000000003\",\"name\":\"English\"}]}"
    ∷ codes "{\"sid\":0,\"read\":{\"query\":[{\"guid\":null,\"name\":\"Nobody\"}]}}"
    ⇒ codes "{\"code\":\"/api/status/ok\",\"dateline\":0,\"line\":1,\"result\":[]}"
    ∷ codes "{\"sid\":0,\"read\":{\"query\":{\"guid\":null,\"name\":\"Nobody\"}}}"
    ⇒ codes "{\"code\":\"/api/status/ok\",\"dateline\":0,\"line\":2,\"result\":null}"
    ∷ [])
unfolding replies
by_name = refl

-- An object form wants one answer alone, unless its limit is 1.
pub two_of_a_name : AreReplies (
    codes "{\"sid\":0,\"read\":{\"query\":{\"guid\":null,\"name\":\"Type\"}}}"
    ⇒ codes "{\"code\":\"/api/status/error\",\"dateline\":0,\"error\":\"NotUnique\",\"info\":{\"path\":[]},\"line\":0}"
    ∷ codes "{\"sid\":0,\"read\":{\"query\":[{\"guid\":null,\"name\":\"Type\"}]}}"
    ⇒ codes "{\"code\":\"/api/status/ok\",\"dateline\":0,\"line\":1,\"result\":[{\"guid\":\"#00000000000000010000000000000001\",\"name\":\"Type\"},{\"guid\":\"#00000000000000010000000000000005\",\"name\":\"Type\"}]}"
    ∷ codes "{\"sid\":0,\"read\":{\"query\":{\"guid\":null,\"limit\":1,\"name\":\"Type\"}}}"
    ⇒ codes "{\"code\":\"/api/status/ok\",\"dateline\":0,\"line\":2,\"result\":{\"guid\":\"#00000000000000010000000000000001\",\"name\":\"Type\"}}"
    ∷ [])
unfolding replies
two_of_a_name = refl

-- Ids, guids and timestamps are computed.
pub computed : AreReplies (
    codes "{\"sid\":0,\"read\":{\"query\":{\"id\":\"/\",\"guid\":null,\"timestamp\":null}}}"
    ⇒ codes "{\"code\":\"/api/status/ok\",\"dateline\":0,\"line\":0,\"result\":{\"guid\":\"#00000000000000010000000000000000\",\"id\":\"/\",\"timestamp\":\"1970-01-01T00:00:00.000Z\"}}"
    ∷ codes "{\"sid\":0,\"read\":{\"query\":{\"guid\":\"#0000000000000001000000000000000d\",\"id\":null,\"name\":null,\"type\":[]}}}"
    ⇒ codes "{\"code\":\"/api/status/ok\",\"dateline\":0,\"line\":1,\"result\":{\"guid\":\"#0000000000000001000000000000000d\",\"id\":\"/type/object/name\",\"name\":null,\"type\":[\"/type/property\"]}}"
    ∷ codes "{\"sid\":0,\"read\":{\"query\":[{\"guid\":null,\"id\":null,\"name\":\"Type\"}]}}"
    ⇒ codes "{\"code\":\"/api/status/ok\",\"dateline\":0,\"line\":2,\"result\":[{\"guid\":\"#00000000000000010000000000000001\",\"id\":\"/type\",\"name\":\"Type\"},{\"guid\":\"#00000000000000010000000000000005\",\"id\":\"/type/type\",\"name\":\"Type\"}]}"
    ∷ [])
unfolding replies
computed = refl

-- The empty form asks for the id, the name and the types.
pub default_members : AreReplies (
    codes "{\"sid\":0,\"read\":{\"query\":[{\"id\":\"/lang/en\",\"key\":{}}]}}"
    ⇒ codes "{\"code\":\"/api/status/error\",\"dateline\":0,\"error\":\"BadQuery\",\"info\":{\"code\":\"object_form\",\"path\":[\"key\",\"id\"]},\"line\":0}"
    ∷ codes "{\"sid\":0,\"read\":{\"query\":{\"id\":\"/type\",\"!/type/object/type\":[{}]}}}"
    ⇒ codes "{\"code\":\"/api/status/ok\",\"dateline\":0,\"line\":1,\"result\":{\"!/type/object/type\":[],\"id\":\"/type\"}}"
    ∷ codes "{\"sid\":0,\"read\":{\"query\":{\"id\":\"/type/namespace\",\"!/type/object/type\":[{}]}}}"
    ⇒ codes "{\"code\":\"/api/status/ok\",\"dateline\":0,\"line\":2,\"result\":{\"!/type/object/type\":[{\"id\":\"/\",\"name\":\"Root\",\"type\":[\"/type/namespace\"]},{\"id\":\"/type\",\"name\":\"Type\",\"type\":[\"/type/namespace\"]},{\"id\":\"/lang\",\"name\":null,\"type\":[\"/type/namespace\"]}],\"id\":\"/type/namespace\"}}"
    ∷ [])
unfolding replies
default_members = refl

-- An id or a guid names one object, a list of them some, and `!=` all others.
pub identities : AreReplies (
    codes "{\"sid\":0,\"read\":{\"query\":[{\"guid\":null,\"id|=\":[\"/type/text\",\"/lang/en\"]}]}}"
    ⇒ codes "{\"code\":\"/api/status/ok\",\"dateline\":0,\"line\":0,\"result\":[{\"guid\":\"#00000000000000010000000000000003\",\"id|=\":[\"/type/text\",\"/lang/en\"]},{\"guid\":\"#00000000000000010000000000000007\",\"id|=\":[\"/type/text\",\"/lang/en\"]}]}"
    ∷ codes "{\"sid\":0,\"read\":{\"query\":[{\"guid\":null,\"id!=\":\"/lang\",\"type\":\"/type/namespace\"}]}}"
    ⇒ codes "{\"code\":\"/api/status/ok\",\"dateline\":0,\"line\":1,\"result\":[{\"guid\":\"#00000000000000010000000000000000\",\"id!=\":\"/lang\",\"type\":\"/type/namespace\"},{\"guid\":\"#00000000000000010000000000000001\",\"id!=\":\"/lang\",\"type\":\"/type/namespace\"}]}"
    ∷ codes "{\"sid\":0,\"read\":{\"query\":[{\"guid\":\"#0000000000000001000000000000000d\",\"id\":\"/type/object/name\"}]}}"
    ⇒ codes "{\"code\":\"/api/status/ok\",\"dateline\":0,\"line\":2,\"result\":[{\"guid\":\"#0000000000000001000000000000000d\",\"id\":\"/type/object/name\"}]}"
    ∷ codes "{\"sid\":0,\"read\":{\"query\":[{\"guid\":\"#0000000000000001000000000000000d\",\"id\":\"/type/object/type\"}]}}"
    ⇒ codes "{\"code\":\"/api/status/ok\",\"dateline\":0,\"line\":3,\"result\":[]}"
    ∷ codes "{\"sid\":0,\"read\":{\"query\":[{\"guid\":\"#00000000000000010000000000000013\"}]}}"
    ⇒ codes "{\"code\":\"/api/status/error\",\"dateline\":0,\"error\":\"NoSuchId\",\"info\":{\"path\":\"#00000000000000010000000000000013\"},\"line\":4}"
    ∷ [])
unfolding replies
identities = refl

-- What is not there is refused by name.
pub no_such : AreReplies (
    codes "{\"sid\":0,\"read\":{\"query\":[{\"age\":5}]}}"
    ⇒ codes "{\"code\":\"/api/status/error\",\"dateline\":0,\"error\":\"NoSuchProperty\",\"info\":{\"path\":[\"age\"]},\"line\":0}"
    ∷ codes "{\"sid\":0,\"read\":{\"query\":{\"id\":\"/x/y\"}}}"
    ⇒ codes "{\"code\":\"/api/status/error\",\"dateline\":0,\"error\":\"NoSuchId\",\"info\":{\"path\":\"/x/y\"},\"line\":1}"
    ∷ codes "{\"sid\":0,\"read\":{\"query\":[{\"/type/text\":null}]}}"
    ⇒ codes "{\"code\":\"/api/status/error\",\"dateline\":0,\"error\":\"NoSuchProperty\",\"info\":{\"path\":[\"/type/text\"]},\"line\":2}"
    ∷ codes "{\"sid\":0,\"read\":{\"query\":[{\"type\":\"/x\",\"age\":5}]}}"
    ⇒ codes "{\"code\":\"/api/status/error\",\"dateline\":0,\"error\":\"NoSuchId\",\"info\":{\"path\":\"/x\"},\"line\":3}"
    ∷ [])
unfolding replies
no_such = refl

-- A clause is required unless it says otherwise; a forbidden one has no answer that meets it.
pub optional_clauses : AreReplies (
    codes "{\"sid\":0,\"read\":{\"query\":[{\"guid\":null,\"name\":{\"optional\":\"forbidden\",\"value\":null},\"type\":\"/type/namespace\"}]}}"
    ⇒ codes "{\"code\":\"/api/status/ok\",\"dateline\":0,\"line\":0,\"result\":[{\"guid\":\"#00000000000000010000000000000002\",\"name\":null,\"type\":\"/type/namespace\"}]}"
    ∷ codes "{\"sid\":0,\"read\":{\"query\":[{\"guid\":null,\"name\":{\"value\":null},\"type\":\"/type/namespace\"}]}}"
    ⇒ codes "{\"code\":\"/api/status/ok\",\"dateline\":0,\"line\":1,\"result\":[{\"guid\":\"#00000000000000010000000000000000\",\"name\":{\"value\":\"Root\"},\"type\":\"/type/namespace\"},{\"guid\":\"#00000000000000010000000000000001\",\"name\":{\"value\":\"Type\"},\"type\":\"/type/namespace\"}]}"
    ∷ codes "{\"sid\":0,\"read\":{\"query\":[{\"guid\":null,\"name\":{\"optional\":true,\"value\":\"Root\"},\"type\":\"/type/namespace\"}]}}"
    ⇒ codes "{\"code\":\"/api/status/ok\",\"dateline\":0,\"line\":2,\"result\":[{\"guid\":\"#00000000000000010000000000000000\",\"name\":{\"value\":\"Root\"},\"type\":\"/type/namespace\"},{\"guid\":\"#00000000000000010000000000000001\",\"name\":null,\"type\":\"/type/namespace\"},{\"guid\":\"#00000000000000010000000000000002\",\"name\":null,\"type\":\"/type/namespace\"}]}"
    ∷ codes "{\"sid\":0,\"read\":{\"query\":[{\"guid\":null,\"name\":[{\"optional\":\"forbidden\",\"value~=\":\"type\"}],\"type\":\"/type/namespace\"}]}}"
    ⇒ codes "{\"code\":\"/api/status/ok\",\"dateline\":0,\"line\":3,\"result\":[{\"guid\":\"#00000000000000010000000000000000\",\"name\":[],\"type\":\"/type/namespace\"},{\"guid\":\"#00000000000000010000000000000002\",\"name\":[],\"type\":\"/type/namespace\"}]}"
    ∷ [])
unfolding replies
optional_clauses = refl

-- An operator asks for an answer that stands in its relation.
pub operators : AreReplies (
    codes "{\"sid\":0,\"read\":{\"query\":[{\"guid\":null,\"name|=\":[\"English\",\"Root\"]}]}}"
    ⇒ codes "{\"code\":\"/api/status/ok\",\"dateline\":0,\"line\":0,\"result\":[{\"guid\":\"#00000000000000010000000000000000\",\"name|=\":[\"English\",\"Root\"]},{\"guid\":\"#00000000000000010000000000000003\",\"name|=\":[\"English\",\"Root\"]}]}"
    ∷ codes "{\"sid\":0,\"read\":{\"query\":[{\"guid\":null,\"name!=\":\"Type\"}]}}"
    ⇒ codes "{\"code\":\"/api/status/ok\",\"dateline\":0,\"line\":1,\"result\":[{\"guid\":\"#00000000000000010000000000000000\",\"name!=\":\"Type\"},{\"guid\":\"#00000000000000010000000000000003\",\"name!=\":\"Type\"},{\"guid\":\"#00000000000000010000000000000006\",\"name!=\":\"Type\"}]}"
    ∷ codes "{\"sid\":0,\"read\":{\"query\":[{\"guid\":null,\"name<\":\"Property\"}]}}"
    ⇒ codes "{\"code\":\"/api/status/ok\",\"dateline\":0,\"line\":2,\"result\":[{\"guid\":\"#00000000000000010000000000000003\",\"name<\":\"Property\"}]}"
    ∷ codes "{\"sid\":0,\"read\":{\"query\":[{\"guid\":null,\"name<=\":\"Property\"}]}}"
    ⇒ codes "{\"code\":\"/api/status/ok\",\"dateline\":0,\"line\":3,\"result\":[{\"guid\":\"#00000000000000010000000000000003\",\"name<=\":\"Property\"},{\"guid\":\"#00000000000000010000000000000006\",\"name<=\":\"Property\"}]}"
    ∷ codes "{\"sid\":0,\"read\":{\"query\":[{\"guid\":null,\"name>\":\"Property\"}]}}"
    ⇒ codes "{\"code\":\"/api/status/ok\",\"dateline\":0,\"line\":4,\"result\":[{\"guid\":\"#00000000000000010000000000000000\",\"name>\":\"Property\"},{\"guid\":\"#00000000000000010000000000000001\",\"name>\":\"Property\"},{\"guid\":\"#00000000000000010000000000000005\",\"name>\":\"Property\"}]}"
    ∷ codes "{\"sid\":0,\"read\":{\"query\":[{\"guid\":null,\"a:name>\":\"P\",\"b:name<\":\"R\"}]}}"
    ⇒ codes "{\"code\":\"/api/status/ok\",\"dateline\":0,\"line\":5,\"result\":[{\"a:name>\":\"P\",\"b:name<\":\"R\",\"guid\":\"#00000000000000010000000000000006\"}]}"
    ∷ [])
unfolding replies
operators = refl

-- A pattern is of words, without regard to case; with a star the last one may be a beginning.
pub patterns : AreReplies (
    codes "{\"sid\":0,\"read\":{\"query\":[{\"guid\":null,\"name~=\":\"eng*\"}]}}"
    ⇒ codes "{\"code\":\"/api/status/ok\",\"dateline\":0,\"line\":0,\"result\":[{\"guid\":\"#00000000000000010000000000000003\",\"name~=\":\"eng*\"}]}"
    ∷ codes "{\"sid\":0,\"read\":{\"query\":[{\"guid\":null,\"name~=\":\"eng\"}]}}"
    ⇒ codes "{\"code\":\"/api/status/ok\",\"dateline\":0,\"line\":1,\"result\":[]}"
    ∷ codes "{\"sid\":0,\"read\":{\"query\":[{\"guid\":null,\"name~=\":\"ENGLISH\"}]}}"
    ⇒ codes "{\"code\":\"/api/status/ok\",\"dateline\":0,\"line\":2,\"result\":[{\"guid\":\"#00000000000000010000000000000003\",\"name~=\":\"ENGLISH\"}]}"
    ∷ codes "{\"sid\":0,\"read\":{\"query\":[{\"guid\":null,\"key~=\":\"en\"}]}}"
    ⇒ codes "{\"code\":\"/api/status/ok\",\"dateline\":0,\"line\":3,\"result\":[{\"guid\":\"#00000000000000010000000000000003\",\"key~=\":\"en\"}]}"
    ∷ [])
unfolding replies
patterns = refl

-- Timestamps are compared as moments of full precision, which is above a year at its first moment.
pub timestamps : AreReplies (
    codes "{\"sid\":0,\"read\":{\"query\":[{\"guid\":null,\"name\":\"Root\",\"timestamp>\":\"1970\"}]}}"
    ⇒ codes "{\"code\":\"/api/status/ok\",\"dateline\":0,\"line\":0,\"result\":[{\"guid\":\"#00000000000000010000000000000000\",\"name\":\"Root\",\"timestamp>\":\"1970\"}]}"
    ∷ codes "{\"sid\":0,\"read\":{\"query\":[{\"guid\":null,\"name\":\"Root\",\"timestamp<=\":\"1970\"}]}}"
    ⇒ codes "{\"code\":\"/api/status/ok\",\"dateline\":0,\"line\":1,\"result\":[]}"
    ∷ codes "{\"sid\":0,\"read\":{\"query\":[{\"guid\":null,\"name\":\"Root\",\"timestamp<=\":\"1970-01-01T00:00:00\"}]}}"
    ⇒ codes "{\"code\":\"/api/status/ok\",\"dateline\":0,\"line\":2,\"result\":[{\"guid\":\"#00000000000000010000000000000000\",\"name\":\"Root\",\"timestamp<=\":\"1970-01-01T00:00:00\"}]}"
    ∷ codes "{\"sid\":0,\"read\":{\"query\":[{\"guid\":null,\"name\":\"Root\",\"timestamp<\":\"1970-01-01T00:00:00.001Z\"}]}}"
    ⇒ codes "{\"code\":\"/api/status/ok\",\"dateline\":0,\"line\":3,\"result\":[{\"guid\":\"#00000000000000010000000000000000\",\"name\":\"Root\",\"timestamp<\":\"1970-01-01T00:00:00.001Z\"}]}"
    ∷ [])
unfolding replies
timestamps = refl

-- A key is asked for with its namespace and its link.
pub keys_of_objects : AreReplies (
    codes "{\"sid\":0,\"read\":{\"query\":{\"id\":\"/lang/en\",\"key\":[{\"link\":null,\"namespace\":null,\"value\":null}]}}}"
    ⇒ codes "{\"code\":\"/api/status/ok\",\"dateline\":0,\"line\":0,\"result\":{\"id\":\"/lang/en\",\"key\":[{\"link\":\"#00000000000000010000000000000015\",\"namespace\":\"/lang\",\"value\":\"en\"}]}}"
    ∷ codes "{\"sid\":0,\"read\":{\"query\":[{\"id\":null,\"key\":{\"namespace\":\"/type\",\"value\":\"type\"}}]}}"
    ⇒ codes "{\"code\":\"/api/status/ok\",\"dateline\":0,\"line\":1,\"result\":[{\"id\":\"/type/type\",\"key\":{\"namespace\":\"/type\",\"value\":\"type\"}}]}"
    ∷ [])
unfolding replies
keys_of_objects = refl

-- Behind `!` a property is asked for backwards, and its answers are objects.
pub reversed : AreReplies (
    codes "{\"sid\":0,\"read\":{\"query\":[{\"!/type/property/expected_type\":[{\"id\":null,\"sort\":\"guid\"}],\"id\":\"/type/type\"}]}}"
    ⇒ codes "{\"code\":\"/api/status/ok\",\"dateline\":0,\"line\":0,\"result\":[{\"!/type/property/expected_type\":[{\"id\":\"/type/object/type\"},{\"id\":\"/type/property/expected_type\"}],\"id\":\"/type/type\"}]}"
    ∷ codes "{\"sid\":0,\"read\":{\"query\":{\"!/type/property/expected_type\":[],\"id\":\"/type/boolean\"}}}"
    ⇒ codes "{\"code\":\"/api/status/ok\",\"dateline\":0,\"line\":1,\"result\":{\"!/type/property/expected_type\":[null],\"id\":\"/type/boolean\"}}"
    ∷ [])
unfolding replies
reversed = refl

-- A count is the number of rows up to the limit.
pub counted : AreReplies (
    codes "{\"sid\":0,\"read\":{\"query\":[{\"return\":\"count\",\"type\":\"/type/namespace\"}]}}"
    ⇒ codes "{\"code\":\"/api/status/ok\",\"dateline\":0,\"line\":0,\"result\":3}"
    ∷ codes "{\"sid\":0,\"read\":{\"query\":[{\"limit\":2,\"return\":\"count\",\"type\":\"/type/namespace\"}]}}"
    ⇒ codes "{\"code\":\"/api/status/ok\",\"dateline\":0,\"line\":1,\"result\":2}"
    ∷ codes "{\"sid\":0,\"read\":{\"query\":{\"return\":\"count\",\"type\":\"/lang\"}}}"
    ⇒ codes "{\"code\":\"/api/status/ok\",\"dateline\":0,\"line\":2,\"result\":0}"
    ∷ codes "{\"sid\":0,\"read\":{\"query\":{\"return\":\"count\",\"type\":\"/type/namespace\"}}}"
    ⇒ codes "{\"code\":\"/api/status/error\",\"dateline\":0,\"error\":\"NotUnique\",\"info\":{\"path\":[]},\"line\":3}"
    ∷ [])
unfolding replies
counted = refl
