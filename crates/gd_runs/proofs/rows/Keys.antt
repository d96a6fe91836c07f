-- Keys in namespaces, and the ids that they make.
-- Written by tools/row.py from rows/keys.txt.
use Rattle.std.proofs.Common.{refl, [], ◌∷◌, codes}
use Rattle.gd_runs.proofs.Plain.{◌⇒◌, replies, AreReplies}

-- A key leads to one object.
pub taken : AreReplies (
    codes "{\"sid\":0,\"write\":{\"query\":{\"create\":\"unconditional\",\"key\":{\"namespace\":\"/\",\"value\":\"k\"}}}}"
    ⇒ codes "{\"code\":\"/api/status/ok\",\"dateline\":1,\"line\":0,\"result\":{\"create\":\"created\",\"key\":{\"namespace\":\"/\",\"value\":\"k\"}}}"
    ∷ codes "{\"sid\":1,\"write\":{\"query\":{\"create\":\"unconditional\",\"key\":{\"namespace\":\"/\",\"value\":\"k\"}}}}"
    ⇒ codes "{\"code\":\"/api/status/error\",\"dateline\":1,\"error\":\"KeyTaken\",\"info\":{\"holder\":\"#00000000000000010000000000000046\",\"key\":\"k\"},\"line\":1}"
    ∷ codes "{\"sid\":0,\"read\":{\"query\":{\"guid\":null,\"id\":\"/k\"}}}"
    ⇒ codes "{\"code\":\"/api/status/ok\",\"dateline\":1,\"line\":2,\"result\":{\"guid\":\"#00000000000000010000000000000046\",\"id\":\"/k\"}}"
    ∷ [])
unfolding replies
taken = refl

-- A key that was deleted may be given to another object.
pub freed : AreReplies (
    codes "{\"sid\":0,\"write\":{\"query\":{\"create\":\"unconditional\",\"key\":{\"namespace\":\"/\",\"value\":\"k\"}}}}"
    ⇒ codes "{\"code\":\"/api/status/ok\",\"dateline\":1,\"line\":0,\"result\":{\"create\":\"created\",\"key\":{\"namespace\":\"/\",\"value\":\"k\"}}}"
    ∷ codes "{\"sid\":0,\"write\":{\"query\":{\"id\":\"/k\",\"key\":{\"connect\":\"delete\",\"namespace\":\"/\",\"value\":\"k\"}}}}"
    ⇒ codes "{\"code\":\"/api/status/ok\",\"dateline\":2,\"line\":1,\"result\":{\"id\":\"/k\",\"key\":{\"connect\":\"deleted\",\"namespace\":\"/\",\"value\":\"k\"}}}"
    ∷ codes "{\"sid\":0,\"read\":{\"query\":{\"guid\":null,\"id\":\"/k\"}}}"
    ⇒ codes "{\"code\":\"/api/status/error\",\"dateline\":2,\"error\":\"NoSuchId\",\"info\":{\"path\":\"/k\"},\"line\":2}"
    ∷ codes "{\"sid\":0,\"write\":{\"query\":{\"create\":\"unconditional\",\"key\":{\"namespace\":\"/\",\"value\":\"k\"}}}}"
    ⇒ codes "{\"code\":\"/api/status/ok\",\"dateline\":3,\"line\":3,\"result\":{\"create\":\"created\",\"key\":{\"namespace\":\"/\",\"value\":\"k\"}}}"
    ∷ codes "{\"sid\":0,\"read\":{\"query\":[{\"guid\":null,\"id\":\"/k\"}]}}"
    ⇒ codes "{\"code\":\"/api/status/ok\",\"dateline\":3,\"line\":4,\"result\":[{\"guid\":\"#00000000000000010000000000000049\",\"id\":\"/k\"}]}"
    ∷ [])
unfolding replies
freed = refl

-- An id is looked for among an object's first eight keys: one that lost these prints its guid, though its ninth key finds it.
pub ninth_key : AreReplies (
    codes "{\"sid\":0,\"write\":{\"query\":{\"create\":\"unconditional\",\"guid\":null,\"key\":[{\"namespace\":\"/\",\"value\":\"k1\"},{\"namespace\":\"/\",\"value\":\"k2\"},{\"namespace\":\"/\",\"value\":\"k3\"},{\"namespace\":\"/\",\"value\":\"k4\"},{\"namespace\":\"/\",\"value\":\"k5\"},{\"namespace\":\"/\",\"value\":\"k6\"},{\"namespace\":\"/\",\"value\":\"k7\"},{\"namespace\":\"/\",\"value\":\"k8\"}]}}}"
    ⇒ codes "{\"code\":\"/api/status/ok\",\"dateline\":1,\"line\":0,\"result\":{\"create\":\"created\",\"guid\":\"#00000000000000010000000000000046\",\"key\":[{\"namespace\":\"/\",\"value\":\"k1\"},{\"namespace\":\"/\",\"value\":\"k2\"},{\"namespace\":\"/\",\"value\":\"k3\"},{\"namespace\":\"/\",\"value\":\"k4\"},{\"namespace\":\"/\",\"value\":\"k5\"},{\"namespace\":\"/\",\"value\":\"k6\"},{\"namespace\":\"/\",\"value\":\"k7\"},{\"namespace\":\"/\",\"value\":\"k8\"}]}}"
    ∷ codes "{\"sid\":0,\"write\":{\"query\":{\"id\":\"#00000000000000010000000000000046\",\"key\":[{\"connect\":\"delete\",\"namespace\":\"/\",\"value\":\"k1\"},{\"connect\":\"delete\",\"namespace\":\"/\",\"value\":\"k2\"},{\"connect\":\"delete\",\"namespace\":\"/\",\"value\":\"k3\"},{\"connect\":\"delete\",\"namespace\":\"/\",\"value\":\"k4\"},{\"connect\":\"delete\",\"namespace\":\"/\",\"value\":\"k5\"},{\"connect\":\"delete\",\"namespace\":\"/\",\"value\":\"k6\"},{\"connect\":\"delete\",\"namespace\":\"/\",\"value\":\"k7\"},{\"connect\":\"delete\",\"namespace\":\"/\",\"value\":\"k8\"}]}}}"
    ⇒ codes "{\"code\":\"/api/status/ok\",\"dateline\":2,\"line\":1,\"result\":{\"id\":\"#00000000000000010000000000000046\",\"key\":[{\"connect\":\"deleted\",\"namespace\":\"/\",\"value\":\"k1\"},{\"connect\":\"deleted\",\"namespace\":\"/\",\"value\":\"k2\"},{\"connect\":\"deleted\",\"namespace\":\"/\",\"value\":\"k3\"},{\"connect\":\"deleted\",\"namespace\":\"/\",\"value\":\"k4\"},{\"connect\":\"deleted\",\"namespace\":\"/\",\"value\":\"k5\"},{\"connect\":\"deleted\",\"namespace\":\"/\",\"value\":\"k6\"},{\"connect\":\"deleted\",\"namespace\":\"/\",\"value\":\"k7\"},{\"connect\":\"deleted\",\"namespace\":\"/\",\"value\":\"k8\"}]}}"
    ∷ codes "{\"sid\":0,\"write\":{\"query\":{\"id\":\"#00000000000000010000000000000046\",\"key\":{\"connect\":\"insert\",\"namespace\":\"/\",\"value\":\"k9\"}}}}"
    ⇒ codes "{\"code\":\"/api/status/ok\",\"dateline\":3,\"line\":2,\"result\":{\"id\":\"#00000000000000010000000000000046\",\"key\":{\"connect\":\"inserted\",\"namespace\":\"/\",\"value\":\"k9\"}}}"
    ∷ codes "{\"sid\":0,\"read\":{\"query\":{\"guid\":\"#00000000000000010000000000000046\",\"id\":null}}}"
    ⇒ codes "{\"code\":\"/api/status/ok\",\"dateline\":3,\"line\":3,\"result\":{\"guid\":\"#00000000000000010000000000000046\",\"id\":\"#00000000000000010000000000000046\"}}"
    ∷ codes "{\"sid\":0,\"read\":{\"query\":{\"guid\":null,\"id\":\"/k9\"}}}"
    ⇒ codes "{\"code\":\"/api/status/ok\",\"dateline\":3,\"line\":4,\"result\":{\"guid\":\"#00000000000000010000000000000046\",\"id\":\"/k9\"}}"
    ∷ [])
unfolding replies
ninth_key = refl

-- A namespace is an object with keys in it; a path is walked from the root.
pub paths : AreReplies (
    codes "{\"sid\":0,\"write\":{\"query\":{\"create\":\"unconditional\",\"key\":{\"namespace\":\"/\",\"value\":\"a\"}}}}"
    ⇒ codes "{\"code\":\"/api/status/ok\",\"dateline\":1,\"line\":0,\"result\":{\"create\":\"created\",\"key\":{\"namespace\":\"/\",\"value\":\"a\"}}}"
    ∷ codes "{\"sid\":0,\"write\":{\"query\":{\"create\":\"unconditional\",\"id\":null,\"key\":{\"namespace\":\"/a\",\"value\":\"b\"}}}}"
    ⇒ codes "{\"code\":\"/api/status/ok\",\"dateline\":2,\"line\":1,\"result\":{\"create\":\"created\",\"id\":\"/a/b\",\"key\":{\"namespace\":\"/a\",\"value\":\"b\"}}}"
    ∷ codes "{\"sid\":0,\"read\":{\"query\":[{\"id\":null,\"key\":{\"namespace\":\"/a\",\"value\":null}}]}}"
    ⇒ codes "{\"code\":\"/api/status/ok\",\"dateline\":2,\"line\":2,\"result\":[{\"id\":\"/a/b\",\"key\":{\"namespace\":\"/a\",\"value\":\"b\"}}]}"
    ∷ codes "{\"sid\":0,\"read\":{\"query\":{\"id\":\"/a/c\"}}}"
    ⇒ codes "{\"code\":\"/api/status/error\",\"dateline\":2,\"error\":\"NoSuchId\",\"info\":{\"path\":\"/a/c\"},\"line\":3}"
    ∷ [])
unfolding replies
paths = refl
