-- Links that succeed one another.
-- Written by tools/row.py from rows/versions.txt.
use Rattle.std.proofs.Common.{refl, [], ◌∷◌, codes}
use Rattle.gd_runs.proofs.Plain.{◌⇒◌, replies, AreReplies}

-- An update names the version that it follows, and a version is followed once.
pub updated : AreReplies (
    codes "{\"sid\":0,\"write\":{\"query\":{\"create\":\"unconditional\",\"guid\":null,\"name\":\"X\"}}}"
    ⇒ codes "{\"code\":\"/api/status/ok\",\"dateline\":1,\"line\":0,\"result\":{\"create\":\"created\",\"guid\":\"#00000000000000010000000000000046\",\"name\":\"X\"}}"
    ∷ codes "{\"sid\":0,\"write\":{\"query\":{\"id\":\"#00000000000000010000000000000046\",\"name\":{\"connect\":\"update\",\"previous\":\"#00000000000000010000000000000047\",\"value\":\"Y\"}}}}"
    ⇒ codes "{\"code\":\"/api/status/ok\",\"dateline\":2,\"line\":1,\"result\":{\"id\":\"#00000000000000010000000000000046\",\"name\":{\"connect\":\"updated\",\"previous\":\"#00000000000000010000000000000047\",\"value\":\"Y\"}}}"
    ∷ codes "{\"sid\":0,\"write\":{\"query\":{\"id\":\"#00000000000000010000000000000046\",\"name\":{\"connect\":\"update\",\"previous\":\"#00000000000000010000000000000047\",\"value\":\"Z\"}}}}"
    ⇒ codes "{\"code\":\"/api/status/error\",\"dateline\":2,\"error\":\"StaleVersion\",\"info\":{\"previous\":\"#00000000000000010000000000000047\",\"successor\":\"#00000000000000010000000000000048\"},\"line\":2}"
    ∷ codes "{\"sid\":0,\"read\":{\"query\":{\"guid\":\"#00000000000000010000000000000046\",\"name\":{\"link\":null,\"value\":null}}}}"
    ⇒ codes "{\"code\":\"/api/status/ok\",\"dateline\":2,\"line\":3,\"result\":{\"guid\":\"#00000000000000010000000000000046\",\"name\":{\"link\":\"#00000000000000010000000000000048\",\"value\":\"Y\"}}}"
    ∷ [])
unfolding replies
updated = refl

-- An update that names none follows the one answer there is, or inserts the first.
pub updated_without_previous : AreReplies (
    codes "{\"sid\":0,\"write\":{\"query\":{\"id\":\"/lang\",\"name\":{\"connect\":\"update\",\"value\":\"A\"}}}}"
    ⇒ codes "{\"code\":\"/api/status/ok\",\"dateline\":1,\"line\":0,\"result\":{\"id\":\"/lang\",\"name\":{\"connect\":\"inserted\",\"value\":\"A\"}}}"
    ∷ codes "{\"sid\":0,\"write\":{\"query\":{\"id\":\"/lang\",\"name\":{\"connect\":\"update\",\"value\":\"A\"}}}}"
    ⇒ codes "{\"code\":\"/api/status/ok\",\"dateline\":2,\"line\":1,\"result\":{\"id\":\"/lang\",\"name\":{\"connect\":\"present\",\"value\":\"A\"}}}"
    ∷ codes "{\"sid\":0,\"write\":{\"query\":{\"id\":\"/lang\",\"name\":{\"connect\":\"update\",\"value\":\"B\"}}}}"
    ⇒ codes "{\"code\":\"/api/status/ok\",\"dateline\":3,\"line\":2,\"result\":{\"id\":\"/lang\",\"name\":{\"connect\":\"updated\",\"value\":\"B\"}}}"
    ∷ codes "{\"sid\":0,\"read\":{\"query\":{\"guid\":null,\"id\":\"/lang\",\"name\":{\"link\":null,\"value\":null}}}}"
    ⇒ codes "{\"code\":\"/api/status/ok\",\"dateline\":3,\"line\":3,\"result\":{\"guid\":\"#00000000000000010000000000000002\",\"id\":\"/lang\",\"name\":{\"link\":\"#00000000000000010000000000000047\",\"value\":\"B\"}}}"
    ∷ [])
unfolding replies
updated_without_previous = refl

-- What is no link of this object and property is no version to follow.
pub no_such_version : AreReplies (
    codes "{\"sid\":0,\"write\":{\"query\":{\"id\":\"/type\",\"name\":{\"connect\":\"update\",\"previous\":\"#00000000000000010000000000000044\",\"value\":\"X\"}}}}"
    ⇒ codes "{\"code\":\"/api/status/error\",\"dateline\":0,\"error\":\"BadQuery\",\"info\":{\"code\":\"bad_previous\",\"path\":[\"name\",\"previous\"]},\"line\":0}"
    ∷ codes "{\"sid\":0,\"write\":{\"query\":{\"id\":\"/type\",\"name\":{\"connect\":\"update\",\"previous\":\"#00000000000000010000000000000005\",\"value\":\"X\"}}}}"
    ⇒ codes "{\"code\":\"/api/status/error\",\"dateline\":0,\"error\":\"BadQuery\",\"info\":{\"code\":\"bad_previous\",\"path\":[\"name\",\"previous\"]},\"line\":1}"
    ∷ codes "{\"sid\":0,\"write\":{\"query\":{\"id\":\"/type\",\"name\":{\"connect\":\"update\",\"previous\":\"#00000000000000010000000000000043\",\"value\":\"Type\"}}}}"
    ⇒ codes "{\"code\":\"/api/status/ok\",\"dateline\":1,\"line\":2,\"result\":{\"id\":\"/type\",\"name\":{\"connect\":\"present\",\"previous\":\"#00000000000000010000000000000043\",\"value\":\"Type\"}}}"
    ∷ [])
unfolding replies
no_such_version = refl
