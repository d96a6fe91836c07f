-- Properties of one's own: types, masters, directions.
-- Written by tools/row.py from rows/properties.txt.
use Rattle.std.proofs.Common.{refl, [], ◌∷◌, codes}
use Rattle.gd_runs.proofs.Plain.{◌⇒◌, replies, AreReplies}

-- A property with a master is the master backwards, and backwards it is the master.
pub master : AreReplies (
    codes "{\"sid\":0,\"write\":{\"query\":{\"create\":\"unconditional\",\"guid\":null,\"key\":{\"namespace\":\"/\",\"value\":\"d\"},\"type\":\"/type/namespace\"}}}"
    ⇒ codes "{\"code\":\"/api/status/ok\",\"dateline\":1,\"line\":0,\"result\":{\"create\":\"created\",\"guid\":\"#00000000000000010000000000000046\",\"key\":{\"namespace\":\"/\",\"value\":\"d\"},\"type\":\"/type/namespace\"}}"
    ∷ codes "{\"sid\":0,\"write\":{\"query\":{\"create\":\"unconditional\",\"guid\":null,\"key\":{\"namespace\":\"/d\",\"value\":\"t\"},\"type\":\"/type/type\"}}}"
    ⇒ codes "{\"code\":\"/api/status/ok\",\"dateline\":2,\"line\":1,\"result\":{\"create\":\"created\",\"guid\":\"#00000000000000010000000000000049\",\"key\":{\"namespace\":\"/d\",\"value\":\"t\"},\"type\":\"/type/type\"}}"
    ∷ codes "{\"sid\":0,\"write\":{\"query\":{\"create\":\"unconditional\",\"expected_type\":\"/d/t\",\"guid\":null,\"key\":{\"namespace\":\"/d/t\",\"value\":\"m\"},\"type\":\"/type/property\"}}}"
    ⇒ codes "{\"code\":\"/api/status/ok\",\"dateline\":3,\"line\":2,\"result\":{\"create\":\"created\",\"expected_type\":\"/d/t\",\"guid\":\"#0000000000000001000000000000004c\",\"key\":{\"namespace\":\"/d/t\",\"value\":\"m\"},\"type\":\"/type/property\"}}"
    ∷ codes "{\"sid\":0,\"write\":{\"query\":{\"create\":\"unconditional\",\"expected_type\":\"/d/t\",\"guid\":null,\"key\":{\"namespace\":\"/d/t\",\"value\":\"q\"},\"master_property\":\"/d/t/m\",\"type\":\"/type/property\"}}}"
    ⇒ codes "{\"code\":\"/api/status/ok\",\"dateline\":4,\"line\":3,\"result\":{\"create\":\"created\",\"expected_type\":\"/d/t\",\"guid\":\"#00000000000000010000000000000050\",\"key\":{\"namespace\":\"/d/t\",\"value\":\"q\"},\"master_property\":\"/d/t/m\",\"type\":\"/type/property\"}}"
    ∷ codes "{\"sid\":0,\"write\":{\"query\":{\"create\":\"unconditional\",\"guid\":null,\"name\":\"a\",\"type\":\"/d/t\"}}}"
    ⇒ codes "{\"code\":\"/api/status/ok\",\"dateline\":5,\"line\":4,\"result\":{\"create\":\"created\",\"guid\":\"#00000000000000010000000000000055\",\"name\":\"a\",\"type\":\"/d/t\"}}"
    ∷ codes "{\"sid\":0,\"write\":{\"query\":{\"create\":\"unconditional\",\"guid\":null,\"name\":\"b\",\"type\":\"/d/t\"}}}"
    ⇒ codes "{\"code\":\"/api/status/ok\",\"dateline\":6,\"line\":5,\"result\":{\"create\":\"created\",\"guid\":\"#00000000000000010000000000000058\",\"name\":\"b\",\"type\":\"/d/t\"}}"
    ∷ codes "{\"sid\":0,\"write\":{\"query\":{\"id\":\"#00000000000000010000000000000055\",\"/d/t/m\":{\"connect\":\"insert\",\"id\":\"#00000000000000010000000000000058\"}}}}"
    ⇒ codes "{\"code\":\"/api/status/ok\",\"dateline\":7,\"line\":6,\"result\":{\"/d/t/m\":{\"connect\":\"inserted\",\"id\":\"#00000000000000010000000000000058\"},\"id\":\"#00000000000000010000000000000055\"}}"
    ∷ codes "{\"sid\":0,\"read\":{\"query\":{\"!/d/t/q\":[{\"name\":null}],\"name\":\"a\"}}}"
    ⇒ codes "{\"code\":\"/api/status/ok\",\"dateline\":7,\"line\":7,\"result\":{\"!/d/t/q\":[{\"name\":\"b\"}],\"name\":\"a\"}}"
    ∷ codes "{\"sid\":0,\"read\":{\"query\":{\"/d/t/q\":[],\"name\":\"b\"}}}"
    ⇒ codes "{\"code\":\"/api/status/ok\",\"dateline\":7,\"line\":8,\"result\":{\"/d/t/q\":[\"a\"],\"name\":\"b\"}}"
    ∷ codes "{\"sid\":0,\"read\":{\"query\":[{\"m\":null,\"name\":\"a\",\"type\":\"/d/t\"}]}}"
    ⇒ codes "{\"code\":\"/api/status/ok\",\"dateline\":7,\"line\":9,\"result\":[{\"m\":\"b\",\"name\":\"a\",\"type\":\"/d/t\"}]}"
    ∷ codes "{\"sid\":0,\"read\":{\"query\":[{\"m\":\"b\",\"name\":null,\"type\":\"/d/t\"}]}}"
    ⇒ codes "{\"code\":\"/api/status/ok\",\"dateline\":7,\"line\":10,\"result\":[{\"m\":\"b\",\"name\":\"a\",\"type\":\"/d/t\"}]}"
    ∷ codes "{\"sid\":0,\"read\":{\"query\":[{\"m!=\":\"a\",\"name\":null,\"type\":\"/d/t\"}]}}"
    ⇒ codes "{\"code\":\"/api/status/ok\",\"dateline\":7,\"line\":11,\"result\":[{\"m!=\":\"a\",\"name\":\"a\",\"type\":\"/d/t\"}]}"
    ∷ codes "{\"sid\":0,\"read\":{\"query\":[{\"m\":{\"m\":null,\"name\":null,\"q\":null},\"name\":\"a\",\"type\":\"/d/t\"}]}}"
    ⇒ codes "{\"code\":\"/api/status/ok\",\"dateline\":7,\"line\":12,\"result\":[{\"m\":{\"m\":null,\"name\":\"b\",\"q\":\"a\"},\"name\":\"a\",\"type\":\"/d/t\"}]}"
    ∷ [])
unfolding replies
master = refl

-- A value property is not asked for backwards; with a master and `!` it goes forward, and is then one of objects.
pub value_backwards : AreReplies (
    codes "{\"sid\":0,\"write\":{\"query\":{\"create\":\"unconditional\",\"expected_type\":\"/type/text\",\"key\":{\"namespace\":\"/\",\"value\":\"r\"},\"master_property\":\"/type/object/name\",\"type\":\"/type/property\"}}}"
    ⇒ codes "{\"code\":\"/api/status/ok\",\"dateline\":1,\"line\":0,\"result\":{\"create\":\"created\",\"expected_type\":\"/type/text\",\"key\":{\"namespace\":\"/\",\"value\":\"r\"},\"master_property\":\"/type/object/name\",\"type\":\"/type/property\"}}"
    ∷ codes "{\"sid\":0,\"read\":{\"query\":[{\"/r\":null}]}}"
    ⇒ codes "{\"code\":\"/api/status/error\",\"dateline\":1,\"error\":\"BadQuery\",\"info\":{\"code\":\"value_reversed\",\"path\":[\"/r\"]},\"line\":1}"
    ∷ codes "{\"sid\":0,\"read\":{\"query\":{\"!/r\":[],\"id\":\"/type/type\"}}}"
    ⇒ codes "{\"code\":\"/api/status/ok\",\"dateline\":1,\"line\":2,\"result\":{\"!/r\":[],\"id\":\"/type/type\"}}"
    ∷ codes "{\"sid\":0,\"read\":{\"query\":[{\"!/type/object/name\":null}]}}"
    ⇒ codes "{\"code\":\"/api/status/error\",\"dateline\":1,\"error\":\"BadQuery\",\"info\":{\"code\":\"value_reversed\",\"path\":[\"!/type/object/name\"]},\"line\":3}"
    ∷ [])
unfolding replies
value_backwards = refl

-- A property that is marked unique takes one answer.
pub unique_property : AreReplies (
    codes "{\"sid\":0,\"write\":{\"query\":{\"create\":\"unconditional\",\"expected_type\":\"/type/int\",\"key\":{\"namespace\":\"/\",\"value\":\"n\"},\"type\":\"/type/property\",\"unique\":true}}}"
    ⇒ codes "{\"code\":\"/api/status/ok\",\"dateline\":1,\"line\":0,\"result\":{\"create\":\"created\",\"expected_type\":\"/type/int\",\"key\":{\"namespace\":\"/\",\"value\":\"n\"},\"type\":\"/type/property\",\"unique\":true}}"
    ∷ codes "{\"sid\":0,\"write\":{\"query\":{\"create\":\"unconditional\",\"/n\":[1,2]}}}"
    ⇒ codes "{\"code\":\"/api/status/error\",\"dateline\":1,\"error\":\"NotUnique\",\"info\":{\"path\":[\"/n\"]},\"line\":1}"
    ∷ codes "{\"sid\":0,\"write\":{\"query\":{\"create\":\"unconditional\",\"/n\":[1,1]}}}"
    ⇒ codes "{\"code\":\"/api/status/ok\",\"dateline\":2,\"line\":2,\"result\":{\"/n\":[1,1],\"create\":\"created\"}}"
    ∷ codes "{\"sid\":0,\"read\":{\"query\":[{\"/n>\":0,\"guid\":null}]}}"
    ⇒ codes "{\"code\":\"/api/status/ok\",\"dateline\":2,\"line\":3,\"result\":[{\"/n>\":0,\"guid\":\"#0000000000000001000000000000004b\"}]}"
    ∷ [])
unfolding replies
unique_property = refl
