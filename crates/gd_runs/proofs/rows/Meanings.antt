-- Requests that have no meaning at a dateline, or that its state refuses.
-- Written by tools/row.py from rows/meanings.txt.
use Rattle.std.proofs.Common.{refl, [], ◌∷◌, codes}
use Rattle.gd_runs.proofs.Plain.{◌⇒◌, replies, AreReplies}

-- A literal that is not of the kind of its property.
pub values : AreReplies (
    codes "{\"sid\":0,\"read\":{\"query\":[{\"name\":5}]}}"
    ⇒ codes "{\"code\":\"/api/status/error\",\"dateline\":0,\"error\":\"BadQuery\",\"info\":{\"code\":\"bad_value\",\"path\":[\"name\"]},\"line\":0}"
    ∷ codes "{\"sid\":0,\"read\":{\"query\":[{\"type\":5}]}}"
    ⇒ codes "{\"code\":\"/api/status/error\",\"dateline\":0,\"error\":\"BadQuery\",\"info\":{\"code\":\"bad_value\",\"path\":[\"type\"]},\"line\":1}"
    ∷ codes "{\"sid\":0,\"read\":{\"query\":[{\"name\":{\"value\":5}}]}}"
    ⇒ codes "{\"code\":\"/api/status/error\",\"dateline\":0,\"error\":\"BadQuery\",\"info\":{\"code\":\"bad_value\",\"path\":[\"name\",\"value\"]},\"line\":2}"
    ∷ codes "{\"sid\":0,\"read\":{\"query\":[{\"key\":\"a b\"}]}}"
    ⇒ codes "{\"code\":\"/api/status/error\",\"dateline\":0,\"error\":\"BadQuery\",\"info\":{\"code\":\"bad_value\",\"path\":[\"key\"]},\"line\":3}"
    ∷ codes "{\"sid\":0,\"read\":{\"query\":[{\"type|=\":[\"/type/type\",5]}]}}"
    ⇒ codes "{\"code\":\"/api/status/error\",\"dateline\":0,\"error\":\"BadQuery\",\"info\":{\"code\":\"bad_value\",\"path\":[\"type|=\"]},\"line\":4}"
    ∷ codes "{\"sid\":0,\"read\":{\"query\":[{\"name<\":5}]}}"
    ⇒ codes "{\"code\":\"/api/status/error\",\"dateline\":0,\"error\":\"BadQuery\",\"info\":{\"code\":\"bad_value\",\"path\":[\"name<\"]},\"line\":5}"
    ∷ [])
unfolding replies
values = refl

-- An operator that its word or its property does not take.
pub operators : AreReplies (
    codes "{\"sid\":0,\"read\":{\"query\":[{\"type~=\":\"x\"}]}}"
    ⇒ codes "{\"code\":\"/api/status/error\",\"dateline\":0,\"error\":\"BadQuery\",\"info\":{\"code\":\"bad_operator\",\"path\":[\"type~=\"]},\"line\":0}"
    ∷ codes "{\"sid\":0,\"read\":{\"query\":[{\"type<\":\"x\"}]}}"
    ⇒ codes "{\"code\":\"/api/status/error\",\"dateline\":0,\"error\":\"BadQuery\",\"info\":{\"code\":\"bad_operator\",\"path\":[\"type<\"]},\"line\":1}"
    ∷ codes "{\"sid\":0,\"read\":{\"query\":[{\"name\":{\"link!=\":\"x\"}}]}}"
    ⇒ codes "{\"code\":\"/api/status/error\",\"dateline\":0,\"error\":\"BadQuery\",\"info\":{\"code\":\"bad_operator\",\"path\":[\"name\",\"link!=\"]},\"line\":2}"
    ∷ codes "{\"sid\":0,\"read\":{\"query\":[{\"timestamp|=\":[\"1970\"]}]}}"
    ⇒ codes "{\"code\":\"/api/status/error\",\"dateline\":0,\"error\":\"BadQuery\",\"info\":{\"code\":\"bad_operator\",\"path\":[\"timestamp|=\"]},\"line\":3}"
    ∷ codes "{\"sid\":0,\"read\":{\"query\":[{\"id<\":\"/\"}]}}"
    ⇒ codes "{\"code\":\"/api/status/error\",\"dateline\":0,\"error\":\"BadQuery\",\"info\":{\"code\":\"bad_operator\",\"path\":[\"id<\"]},\"line\":4}"
    ∷ codes "{\"sid\":0,\"read\":{\"query\":[{\"type\":\"/type/property\",\"unique<\":5}]}}"
    ⇒ codes "{\"code\":\"/api/status/error\",\"dateline\":0,\"error\":\"BadQuery\",\"info\":{\"code\":\"bad_operator\",\"path\":[\"unique<\"]},\"line\":5}"
    ∷ codes "{\"sid\":0,\"read\":{\"query\":[{\"key\":{\"namespace!=\":\"/\"}}]}}"
    ⇒ codes "{\"code\":\"/api/status/error\",\"dateline\":0,\"error\":\"BadQuery\",\"info\":{\"code\":\"bad_operator\",\"path\":[\"key\",\"namespace!=\"]},\"line\":6}"
    ∷ [])
unfolding replies
operators = refl

-- A form on a value has no members of objects.
pub forms_on_values : AreReplies (
    codes "{\"sid\":0,\"read\":{\"query\":[{\"name\":{\"type\":[]}}]}}"
    ⇒ codes "{\"code\":\"/api/status/error\",\"dateline\":0,\"error\":\"BadQuery\",\"info\":{\"code\":\"object_form\",\"path\":[\"name\",\"type\"]},\"line\":0}"
    ∷ codes "{\"sid\":0,\"read\":{\"query\":[{\"name\":{}}]}}"
    ⇒ codes "{\"code\":\"/api/status/error\",\"dateline\":0,\"error\":\"BadQuery\",\"info\":{\"code\":\"object_form\",\"path\":[\"name\",\"id\"]},\"line\":1}"
    ∷ codes "{\"sid\":0,\"read\":{\"query\":[{\"name\":{\"namespace\":null}}]}}"
    ⇒ codes "{\"code\":\"/api/status/error\",\"dateline\":0,\"error\":\"BadQuery\",\"info\":{\"code\":\"object_form\",\"path\":[\"name\",\"namespace\"]},\"line\":2}"
    ∷ codes "{\"sid\":0,\"read\":{\"query\":[{\"name\":{\"sort\":\"name\",\"value\":null}}]}}"
    ⇒ codes "{\"code\":\"/api/status/error\",\"dateline\":0,\"error\":\"BadQuery\",\"info\":{\"code\":\"object_form\",\"path\":[\"name\",\"sort\"]},\"line\":3}"
    ∷ [])
unfolding replies
forms_on_values = refl

-- A namespace is null or the text of an id.
pub namespaces_of_keys : AreReplies (
    codes "{\"sid\":0,\"read\":{\"query\":[{\"key\":{\"namespace\":\"/x\"}}]}}"
    ⇒ codes "{\"code\":\"/api/status/error\",\"dateline\":0,\"error\":\"NoSuchId\",\"info\":{\"path\":\"/x\"},\"line\":0}"
    ∷ codes "{\"sid\":0,\"read\":{\"query\":[{\"key\":{\"namespace\":\"x\"}}]}}"
    ⇒ codes "{\"code\":\"/api/status/error\",\"dateline\":0,\"error\":\"NoSuchId\",\"info\":{\"path\":\"x\"},\"line\":1}"
    ∷ codes "{\"sid\":0,\"read\":{\"query\":[{\"key\":{\"namespace\":5}}]}}"
    ⇒ codes "{\"code\":\"/api/status/error\",\"dateline\":0,\"error\":\"BadQuery\",\"info\":{\"code\":\"bad_value\",\"path\":[\"key\",\"namespace\"]},\"line\":2}"
    ∷ codes "{\"sid\":0,\"read\":{\"query\":[{\"key\":{\"namespace\":[]}}]}}"
    ⇒ codes "{\"code\":\"/api/status/error\",\"dateline\":0,\"error\":\"BadQuery\",\"info\":{\"code\":\"object_form\",\"path\":[\"key\",\"namespace\"]},\"line\":3}"
    ∷ codes "{\"sid\":0,\"read\":{\"query\":[{\"key\":{\"namespace\":{\"id\":null}}}]}}"
    ⇒ codes "{\"code\":\"/api/status/error\",\"dateline\":0,\"error\":\"BadQuery\",\"info\":{\"code\":\"object_form\",\"path\":[\"key\",\"namespace\"]},\"line\":4}"
    ∷ [])
unfolding replies
namespaces_of_keys = refl

-- A sort word is guid, timestamp or a value property that is no key.
pub sort_words : AreReplies (
    codes "{\"sid\":0,\"read\":{\"query\":[{\"sort\":\"type\"}]}}"
    ⇒ codes "{\"code\":\"/api/status/error\",\"dateline\":0,\"error\":\"BadQuery\",\"info\":{\"code\":\"bad_sort\",\"path\":[\"sort\"]},\"line\":0}"
    ∷ codes "{\"sid\":0,\"read\":{\"query\":[{\"name\":null,\"sort\":\"id\"}]}}"
    ⇒ codes "{\"code\":\"/api/status/error\",\"dateline\":0,\"error\":\"BadQuery\",\"info\":{\"code\":\"bad_sort\",\"path\":[\"sort\"]},\"line\":1}"
    ∷ codes "{\"sid\":0,\"read\":{\"query\":[{\"sort\":\"key\"}]}}"
    ⇒ codes "{\"code\":\"/api/status/error\",\"dateline\":0,\"error\":\"BadQuery\",\"info\":{\"code\":\"bad_sort\",\"path\":[\"sort\"]},\"line\":2}"
    ∷ codes "{\"sid\":0,\"read\":{\"query\":[{\"sort\":\"-\"}]}}"
    ⇒ codes "{\"code\":\"/api/status/error\",\"dateline\":0,\"error\":\"NoSuchProperty\",\"info\":{\"path\":[\"sort\"]},\"line\":3}"
    ∷ codes "{\"sid\":0,\"read\":{\"query\":[{\"sort\":\"age\"}]}}"
    ⇒ codes "{\"code\":\"/api/status/error\",\"dateline\":0,\"error\":\"NoSuchProperty\",\"info\":{\"path\":[\"sort\"]},\"line\":4}"
    ∷ [])
unfolding replies
sort_words = refl

-- A value that a write may not link.
pub written_values : AreReplies (
    codes "{\"sid\":0,\"write\":{\"query\":{\"id\":\"/type\",\"name\":{\"connect\":\"insert\",\"value\":5}}}}"
    ⇒ codes "{\"code\":\"/api/status/error\",\"dateline\":0,\"error\":\"BadQuery\",\"info\":{\"code\":\"bad_value\",\"path\":[\"name\",\"value\"]},\"line\":0}"
    ∷ codes "{\"sid\":0,\"write\":{\"query\":{\"id\":\"/type\",\"name\":{\"connect\":\"insert\",\"id\":\"/\"}}}}"
    ⇒ codes "{\"code\":\"/api/status/error\",\"dateline\":0,\"error\":\"BadQuery\",\"info\":{\"code\":\"bad_value\",\"path\":[\"name\",\"id\"]},\"line\":1}"
    ∷ codes "{\"sid\":0,\"write\":{\"query\":{\"id\":\"/type\",\"key\":{\"connect\":\"insert\",\"namespace\":\"/\",\"value\":5}}}}"
    ⇒ codes "{\"code\":\"/api/status/error\",\"dateline\":0,\"error\":\"BadQuery\",\"info\":{\"code\":\"bad_value\",\"path\":[\"key\",\"value\"]},\"line\":2}"
    ∷ codes "{\"sid\":0,\"write\":{\"query\":{\"id\":\"/type\",\"key\":{\"connect\":\"insert\",\"value\":\"x\"}}}}"
    ⇒ codes "{\"code\":\"/api/status/error\",\"dateline\":0,\"error\":\"BadQuery\",\"info\":{\"code\":\"bad_value\",\"path\":[\"key\",\"value\"]},\"line\":3}"
    ∷ codes "{\"sid\":0,\"write\":{\"query\":{\"id\":\"/lang/en\",\"key\":\"/\"}}}"
    ⇒ codes "{\"code\":\"/api/status/error\",\"dateline\":0,\"error\":\"BadQuery\",\"info\":{\"code\":\"bad_value\",\"path\":[\"key\"]},\"line\":4}"
    ∷ codes "{\"sid\":0,\"write\":{\"query\":{\"create\":\"unconditional\",\"key\":\"de\"}}}"
    ⇒ codes "{\"code\":\"/api/status/error\",\"dateline\":0,\"error\":\"BadQuery\",\"info\":{\"code\":\"bad_value\",\"path\":[\"key\"]},\"line\":5}"
    ∷ codes "{\"sid\":0,\"write\":{\"query\":{\"create\":\"unconditional\",\"expected_type\":\"x\",\"type\":\"/type/property\"}}}"
    ⇒ codes "{\"code\":\"/api/status/error\",\"dateline\":0,\"error\":\"BadQuery\",\"info\":{\"code\":\"bad_value\",\"path\":[\"expected_type\"]},\"line\":6}"
    ∷ codes "{\"sid\":0,\"write\":{\"query\":{\"create\":\"unconditional\",\"expected_type\":\"/x\",\"type\":\"/type/property\"}}}"
    ⇒ codes "{\"code\":\"/api/status/error\",\"dateline\":0,\"error\":\"NoSuchId\",\"info\":{\"path\":\"/x\"},\"line\":7}"
    ∷ codes "{\"sid\":0,\"write\":{\"query\":{\"create\":\"unconditional\",\"type\":\"x\"}}}"
    ⇒ codes "{\"code\":\"/api/status/error\",\"dateline\":0,\"error\":\"NoSuchId\",\"info\":{\"path\":\"x\"},\"line\":8}"
    ∷ [])
unfolding replies
written_values = refl

-- An update is of a unique property, and of no key.
pub updates : AreReplies (
    codes "{\"sid\":0,\"write\":{\"query\":{\"id\":\"/type\",\"type\":{\"connect\":\"update\",\"id\":\"/type/type\"}}}}"
    ⇒ codes "{\"code\":\"/api/status/error\",\"dateline\":0,\"error\":\"BadQuery\",\"info\":{\"code\":\"bad_connect\",\"path\":[\"type\",\"connect\"]},\"line\":0}"
    ∷ codes "{\"sid\":0,\"write\":{\"query\":{\"id\":\"/type\",\"key\":{\"connect\":\"update\",\"namespace\":\"/\",\"value\":\"x\"}}}}"
    ⇒ codes "{\"code\":\"/api/status/error\",\"dateline\":0,\"error\":\"BadQuery\",\"info\":{\"code\":\"bad_connect\",\"path\":[\"key\",\"connect\"]},\"line\":1}"
    ∷ [])
unfolding replies
updates = refl

-- All ids, properties and facts are tested before the first link is written.
pub first_in_order : AreReplies (
    codes "{\"sid\":0,\"write\":{\"query\":{\"id\":\"/lang\",\"name\":{\"connect\":\"insert\",\"value\":5},\"key\":{\"connect\":\"update\",\"namespace\":\"/\",\"value\":\"x\"}}}}"
    ⇒ codes "{\"code\":\"/api/status/error\",\"dateline\":0,\"error\":\"BadQuery\",\"info\":{\"code\":\"bad_value\",\"path\":[\"name\",\"value\"]},\"line\":0}"
    ∷ codes "{\"sid\":0,\"write\":{\"query\":{\"id\":\"/type\",\"name\":{\"connect\":\"insert\",\"value\":\"X\"},\"type\":{\"connect\":\"insert\",\"id\":\"/x\"}}}}"
    ⇒ codes "{\"code\":\"/api/status/error\",\"dateline\":0,\"error\":\"NoSuchId\",\"info\":{\"path\":\"/x\"},\"line\":1}"
    ∷ codes "{\"sid\":0,\"read\":{\"query\":[{\"b\":5,\"a\":5}]}}"
    ⇒ codes "{\"code\":\"/api/status/error\",\"dateline\":0,\"error\":\"NoSuchProperty\",\"info\":{\"path\":[\"a\"]},\"line\":2}"
    ∷ [])
unfolding replies
first_in_order = refl
