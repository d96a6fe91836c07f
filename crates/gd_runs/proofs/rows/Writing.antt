-- Creating objects, connecting and disconnecting them, and what a write prints.
-- Written by tools/row.py from rows/writing.txt.
use Rattle.std.proofs.Common.{refl, [], ◌∷◌, codes}
use Rattle.gd_runs.proofs.Plain.{◌⇒◌, replies, AreReplies}

-- Each unconditional create makes an object, and its name is a link behind it.
pub created : AreReplies (
    codes "{\"sid\":0,\"write\":{\"query\":{\"create\":\"unconditional\",\"guid\":null,\"name\":\"Ann\"}}}"
    ⇒ codes "{\"code\":\"/api/status/ok\",\"dateline\":1,\"line\":0,\"result\":{\"create\":\"created\",\"guid\":\"#00000000000000010000000000000046\",\"name\":\"Ann\"}}"
    ∷ codes "{\"sid\":0,\"write\":{\"query\":{\"create\":\"unconditional\",\"guid\":null,\"name\":\"Ann\"}}}"
    ⇒ codes "{\"code\":\"/api/status/ok\",\"dateline\":2,\"line\":1,\"result\":{\"create\":\"created\",\"guid\":\"#00000000000000010000000000000048\",\"name\":\"Ann\"}}"
    ∷ codes "{\"sid\":0,\"read\":{\"query\":[{\"guid\":null,\"name\":\"Ann\"}]}}"
    ⇒ codes "{\"code\":\"/api/status/ok\",\"dateline\":2,\"line\":2,\"result\":[{\"guid\":\"#00000000000000010000000000000046\",\"name\":\"Ann\"},{\"guid\":\"#00000000000000010000000000000048\",\"name\":\"Ann\"}]}"
    ∷ [])
unfolding replies
created = refl

-- An object needs no name; a name is a text.
pub bare_creates : AreReplies (
    codes "{\"sid\":0,\"write\":{\"query\":{\"create\":\"unconditional\"}}}"
    ⇒ codes "{\"code\":\"/api/status/ok\",\"dateline\":1,\"line\":0,\"result\":{\"create\":\"created\"}}"
    ∷ codes "{\"sid\":0,\"write\":{\"query\":{\"create\":\"unconditional\",\"name\":0}}}"
    ⇒ codes "{\"code\":\"/api/status/error\",\"dateline\":1,\"error\":\"BadQuery\",\"info\":{\"code\":\"bad_value\",\"path\":[\"name\"]},\"line\":1}"
    ∷ codes "{\"sid\":0,\"write\":{\"query\":{\"create\":\"unconditional\",\"name\":\"a\"},\"scope\":\"/\"}}"
    ⇒ codes "{\"code\":\"/api/status/ok\",\"dateline\":2,\"line\":2,\"result\":{\"create\":\"created\",\"name\":\"a\"}}"
    ∷ [])
unfolding replies
bare_creates = refl

-- The second request finds the object of the first; its batch is empty, and counts. Two such objects are one too many.
pub created_then_existed : AreReplies (
    codes "{\"sid\":0,\"write\":{\"query\":{\"create\":\"unless_exists\",\"guid\":null,\"name\":\"Ann\"}}}"
    ⇒ codes "{\"code\":\"/api/status/ok\",\"dateline\":1,\"line\":0,\"result\":{\"create\":\"created\",\"guid\":\"#00000000000000010000000000000046\",\"name\":\"Ann\"}}"
    ∷ codes "{\"sid\":0,\"write\":{\"query\":{\"create\":\"unless_exists\",\"guid\":null,\"name\":\"Ann\"}}}"
    ⇒ codes "{\"code\":\"/api/status/ok\",\"dateline\":2,\"line\":1,\"result\":{\"create\":\"existed\",\"guid\":\"#00000000000000010000000000000046\",\"name\":\"Ann\"}}"
    ∷ codes "{\"sid\":0,\"write\":{\"query\":{\"create\":\"unless_exists\",\"guid\":null,\"name\":\"Type\"}}}"
    ⇒ codes "{\"code\":\"/api/status/error\",\"dateline\":2,\"error\":\"NotUnique\",\"info\":{\"path\":[]},\"line\":2}"
    ∷ [])
unfolding replies
created_then_existed = refl

-- An object exists where it has all of the clause's own facts.
pub all_facts : AreReplies (
    codes "{\"sid\":0,\"write\":{\"query\":{\"create\":\"unless_exists\",\"guid\":null,\"name\":\"Type\",\"type\":\"/type/namespace\"}}}"
    ⇒ codes "{\"code\":\"/api/status/ok\",\"dateline\":1,\"line\":0,\"result\":{\"create\":\"existed\",\"guid\":\"#00000000000000010000000000000001\",\"name\":\"Type\",\"type\":\"/type/namespace\"}}"
    ∷ codes "{\"sid\":0,\"write\":{\"query\":{\"create\":\"unless_exists\",\"guid\":null,\"name\":\"Type\",\"type\":\"/type/property\"}}}"
    ⇒ codes "{\"code\":\"/api/status/ok\",\"dateline\":2,\"line\":1,\"result\":{\"create\":\"created\",\"guid\":\"#00000000000000010000000000000046\",\"name\":\"Type\",\"type\":\"/type/property\"}}"
    ∷ [])
unfolding replies
all_facts = refl

-- What existed keeps its facts as they are, and its connect forms are carried out.
pub existed_and_connected : AreReplies (
    codes "{\"sid\":0,\"write\":{\"query\":{\"create\":\"unless_exists\",\"id\":null,\"name\":\"English\",\"key\":{\"connect\":\"insert\",\"namespace\":\"/lang\",\"value\":\"anglais\"}}}}"
    ⇒ codes "{\"code\":\"/api/status/ok\",\"dateline\":1,\"line\":0,\"result\":{\"create\":\"existed\",\"id\":\"/lang/en\",\"key\":{\"connect\":\"inserted\",\"namespace\":\"/lang\",\"value\":\"anglais\"},\"name\":\"English\"}}"
    ∷ codes "{\"sid\":0,\"read\":{\"query\":{\"guid\":null,\"id\":\"/lang/anglais\"}}}"
    ⇒ codes "{\"code\":\"/api/status/ok\",\"dateline\":1,\"line\":1,\"result\":{\"guid\":\"#00000000000000010000000000000003\",\"id\":\"/lang/anglais\"}}"
    ∷ codes "{\"sid\":0,\"read\":{\"query\":{\"guid\":\"#00000000000000010000000000000003\",\"id\":null}}}"
    ⇒ codes "{\"code\":\"/api/status/ok\",\"dateline\":1,\"line\":2,\"result\":{\"guid\":\"#00000000000000010000000000000003\",\"id\":\"/lang/en\"}}"
    ∷ [])
unfolding replies
existed_and_connected = refl

-- A list is a fact for each of its parts; the id is that at the state after the request.
pub lists_of_facts : AreReplies (
    codes "{\"sid\":0,\"write\":{\"query\":{\"create\":\"unconditional\",\"guid\":null,\"id\":null,\"key\":[{\"namespace\":\"/\",\"value\":\"u\"},{\"namespace\":\"/\",\"value\":\"v\"}],\"name\":[\"A\"],\"type\":[\"/type/namespace\",\"/type/type\"]}}}"
    ⇒ codes "{\"code\":\"/api/status/ok\",\"dateline\":1,\"line\":0,\"result\":{\"create\":\"created\",\"guid\":\"#00000000000000010000000000000046\",\"id\":\"/u\",\"key\":[{\"namespace\":\"/\",\"value\":\"u\"},{\"namespace\":\"/\",\"value\":\"v\"}],\"name\":[\"A\"],\"type\":[\"/type/namespace\",\"/type/type\"]}}"
    ∷ [])
unfolding replies
lists_of_facts = refl

-- A nested create is carried out whole, and then linked.
pub nested_create : AreReplies (
    codes "{\"sid\":0,\"write\":{\"query\":{\"create\":\"unconditional\",\"name\":\"p\",\"type\":{\"create\":\"unconditional\",\"guid\":null,\"name\":\"q\"}}}}"
    ⇒ codes "{\"code\":\"/api/status/ok\",\"dateline\":1,\"line\":0,\"result\":{\"create\":\"created\",\"name\":\"p\",\"type\":{\"create\":\"created\",\"guid\":\"#00000000000000010000000000000048\",\"name\":\"q\"}}}"
    ∷ codes "{\"sid\":0,\"read\":{\"query\":[{\"guid\":null,\"name\":\"p\",\"type\":{\"guid\":null,\"link\":null}}]}}"
    ⇒ codes "{\"code\":\"/api/status/ok\",\"dateline\":1,\"line\":1,\"result\":[{\"guid\":\"#00000000000000010000000000000046\",\"name\":\"p\",\"type\":{\"guid\":\"#00000000000000010000000000000048\",\"link\":\"#0000000000000001000000000000004a\"}}]}"
    ∷ [])
unfolding replies
nested_create = refl

-- Inserting what is there changes nothing; another value of a unique property is not taken.
pub inserted_then_present : AreReplies (
    codes "{\"sid\":0,\"write\":{\"query\":{\"id\":\"/lang\",\"name\":{\"connect\":\"insert\",\"value\":\"Language\"}}}}"
    ⇒ codes "{\"code\":\"/api/status/ok\",\"dateline\":1,\"line\":0,\"result\":{\"id\":\"/lang\",\"name\":{\"connect\":\"inserted\",\"value\":\"Language\"}}}"
    ∷ codes "{\"sid\":0,\"write\":{\"query\":{\"id\":\"/lang\",\"name\":{\"connect\":\"insert\",\"value\":\"Language\"}}}}"
    ⇒ codes "{\"code\":\"/api/status/ok\",\"dateline\":2,\"line\":1,\"result\":{\"id\":\"/lang\",\"name\":{\"connect\":\"present\",\"value\":\"Language\"}}}"
    ∷ codes "{\"sid\":0,\"write\":{\"query\":{\"id\":\"/lang\",\"name\":{\"connect\":\"insert\",\"value\":\"Langue\"}}}}"
    ⇒ codes "{\"code\":\"/api/status/error\",\"dateline\":2,\"error\":\"NotUnique\",\"info\":{\"path\":[\"name\"]},\"line\":2}"
    ∷ [])
unfolding replies
inserted_then_present = refl

-- Deleting gives each equal link a successor that is not live.
pub deleted_then_absent : AreReplies (
    codes "{\"sid\":0,\"write\":{\"query\":{\"create\":\"unconditional\",\"guid\":null,\"name\":\"Ann\",\"type\":\"/type/namespace\"}}}"
    ⇒ codes "{\"code\":\"/api/status/ok\",\"dateline\":1,\"line\":0,\"result\":{\"create\":\"created\",\"guid\":\"#00000000000000010000000000000046\",\"name\":\"Ann\",\"type\":\"/type/namespace\"}}"
    ∷ codes "{\"sid\":0,\"write\":{\"query\":{\"id\":\"#00000000000000010000000000000046\",\"name\":{\"connect\":\"delete\",\"value\":\"Ann\"}}}}"
    ⇒ codes "{\"code\":\"/api/status/ok\",\"dateline\":2,\"line\":1,\"result\":{\"id\":\"#00000000000000010000000000000046\",\"name\":{\"connect\":\"deleted\",\"value\":\"Ann\"}}}"
    ∷ codes "{\"sid\":0,\"write\":{\"query\":{\"id\":\"#00000000000000010000000000000046\",\"name\":{\"connect\":\"delete\",\"value\":\"Ann\"}}}}"
    ⇒ codes "{\"code\":\"/api/status/ok\",\"dateline\":3,\"line\":2,\"result\":{\"id\":\"#00000000000000010000000000000046\",\"name\":{\"connect\":\"absent\",\"value\":\"Ann\"}}}"
    ∷ codes "{\"sid\":0,\"read\":{\"query\":[{\"guid\":null,\"name\":{\"optional\":\"forbidden\",\"value\":null},\"type\":\"/type/namespace\"}]}}"
    ⇒ codes "{\"code\":\"/api/status/ok\",\"dateline\":3,\"line\":3,\"result\":[{\"guid\":\"#00000000000000010000000000000002\",\"name\":null,\"type\":\"/type/namespace\"},{\"guid\":\"#00000000000000010000000000000046\",\"name\":null,\"type\":\"/type/namespace\"}]}"
    ∷ [])
unfolding replies
deleted_then_absent = refl

-- A literal in a clause that names its object is a fact that must hold.
pub facts_that_must_hold : AreReplies (
    codes "{\"sid\":0,\"write\":{\"query\":{\"id\":\"/type\",\"guid\":null,\"name\":\"Type\"}}}"
    ⇒ codes "{\"code\":\"/api/status/ok\",\"dateline\":1,\"line\":0,\"result\":{\"guid\":\"#00000000000000010000000000000001\",\"id\":\"/type\",\"name\":\"Type\"}}"
    ∷ codes "{\"sid\":0,\"write\":{\"query\":{\"id\":\"/lang/en\",\"guid\":null,\"key\":\"en\"}}}"
    ⇒ codes "{\"code\":\"/api/status/ok\",\"dateline\":2,\"line\":1,\"result\":{\"guid\":\"#00000000000000010000000000000003\",\"id\":\"/lang/en\",\"key\":\"en\"}}"
    ∷ codes "{\"sid\":0,\"write\":{\"query\":{\"id\":\"/type\",\"name\":\"X\"}}}"
    ⇒ codes "{\"code\":\"/api/status/error\",\"dateline\":2,\"error\":\"BadQuery\",\"info\":{\"code\":\"not_met\",\"path\":[\"name\"]},\"line\":2}"
    ∷ codes "{\"sid\":0,\"write\":{\"query\":{\"id\":\"/lang/en\",\"key\":\"de\"}}}"
    ⇒ codes "{\"code\":\"/api/status/error\",\"dateline\":2,\"error\":\"BadQuery\",\"info\":{\"code\":\"not_met\",\"path\":[\"key\"]},\"line\":3}"
    ∷ [])
unfolding replies
facts_that_must_hold = refl

-- A scope is the id of an object, and is resolved first.
pub scopes : AreReplies (
    codes "{\"sid\":0,\"write\":{\"scope\":\"/lang\",\"query\":{\"create\":\"unconditional\",\"guid\":null}}}"
    ⇒ codes "{\"code\":\"/api/status/ok\",\"dateline\":1,\"line\":0,\"result\":{\"create\":\"created\",\"guid\":\"#00000000000000010000000000000046\"}}"
    ∷ codes "{\"sid\":0,\"write\":{\"scope\":\"/x\",\"query\":{\"id\":\"/y\"}}}"
    ⇒ codes "{\"code\":\"/api/status/error\",\"dateline\":1,\"error\":\"NoSuchId\",\"info\":{\"path\":\"/x\"},\"line\":1}"
    ∷ [])
unfolding replies
scopes = refl

-- A moment prints in its own precision, a number and a truth value as they are.
pub moments_and_numbers : AreReplies (
    codes "{\"sid\":0,\"write\":{\"query\":{\"create\":\"unconditional\",\"key\":{\"namespace\":\"/\",\"value\":\"p\"},\"expected_type\":\"/type/datetime\",\"type\":\"/type/property\"}}}"
    ⇒ codes "{\"code\":\"/api/status/ok\",\"dateline\":1,\"line\":0,\"result\":{\"create\":\"created\",\"expected_type\":\"/type/datetime\",\"key\":{\"namespace\":\"/\",\"value\":\"p\"},\"type\":\"/type/property\"}}"
    ∷ codes "{\"sid\":0,\"write\":{\"query\":{\"create\":\"unconditional\",\"/p\":[\"0000\",\"2024-02\",\"2024-02-29\",\"2024-02-29T12:00:00\",\"2024-02-29T12:00:00.5\"]}}}"
    ⇒ codes "{\"code\":\"/api/status/error\",\"dateline\":1,\"error\":\"BadQuery\",\"info\":{\"code\":\"bad_value\",\"path\":[\"/p\"]},\"line\":1}"
    ∷ codes "{\"sid\":0,\"write\":{\"query\":{\"create\":\"unconditional\",\"/p\":[\"0000\",\"2024-02\",\"2024-02-29\",\"2024-02-29T12:00:00\"]}}}"
    ⇒ codes "{\"code\":\"/api/status/ok\",\"dateline\":2,\"line\":2,\"result\":{\"/p\":[\"0000\",\"2024-02\",\"2024-02-29\",\"2024-02-29T12:00:00\"],\"create\":\"created\"}}"
    ∷ codes "{\"sid\":0,\"read\":{\"query\":[{\"/p\":[{\"value\":null}]}]}}"
    ⇒ codes "{\"code\":\"/api/status/ok\",\"dateline\":2,\"line\":3,\"result\":[{\"/p\":[{\"value\":\"0000\"},{\"value\":\"2024-02\"},{\"value\":\"2024-02-29\"},{\"value\":\"2024-02-29T12:00:00.000Z\"}]}]}"
    ∷ [])
unfolding replies
moments_and_numbers = refl
