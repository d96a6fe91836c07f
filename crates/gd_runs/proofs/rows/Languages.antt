-- Texts in languages.
-- Written by tools/row.py from rows/languages.txt.
use Rattle.std.proofs.Common.{refl, [], ◌∷◌, codes}
use Rattle.std.specs.Prelude.{encode_utf8_all}
use Rattle.gd_runs.proofs.Plain.{◌⇒◌, replies, AreReplies}

-- An object has a name in each language; a read asks for the English one where it says nothing else.
pub munich : AreReplies (
    codes "{\"sid\":0,\"write\":{\"query\":{\"create\":\"unconditional\",\"guid\":null,\"key\":{\"namespace\":\"/lang\",\"value\":\"de\"}}}}"
    ⇒ codes "{\"code\":\"/api/status/ok\",\"dateline\":1,\"line\":0,\"result\":{\"create\":\"created\",\"guid\":\"#00000000000000010000000000000046\",\"key\":{\"namespace\":\"/lang\",\"value\":\"de\"}}}"
    ∷ encode_utf8_all (codes "{\"sid\":0,\"write\":{\"query\":{\"a:name\":{\"lang\":\"/lang/de\",\"value\":\"München\"},\"create\":\"unconditional\",\"guid\":null,\"name\":\"Munich\"}}}")
    ⇒ encode_utf8_all (codes "{\"code\":\"/api/status/ok\",\"dateline\":2,\"line\":1,\"result\":{\"a:name\":{\"lang\":\"/lang/de\",\"value\":\"München\"},\"create\":\"created\",\"guid\":\"#00000000000000010000000000000048\",\"name\":\"Munich\"}}")
    ∷ codes "{\"sid\":0,\"read\":{\"query\":[{\"d:name\":[{\"lang\":null,\"value\":null}],\"guid\":null,\"name\":\"Munich\"}]}}"
    ⇒ encode_utf8_all (codes "{\"code\":\"/api/status/ok\",\"dateline\":2,\"line\":2,\"result\":[{\"d:name\":[{\"lang\":\"/lang/de\",\"value\":\"München\"},{\"lang\":\"/lang/en\",\"value\":\"Munich\"}],\"guid\":\"#00000000000000010000000000000048\",\"name\":\"Munich\"}]}")
    ∷ encode_utf8_all (codes "{\"sid\":0,\"read\":{\"query\":[{\"guid\":null,\"name\":\"München\"}]}}")
    ⇒ codes "{\"code\":\"/api/status/ok\",\"dateline\":2,\"line\":3,\"result\":[]}"
    ∷ codes "{\"sid\":0,\"write\":{\"query\":{\"id\":\"#00000000000000010000000000000048\",\"name\":{\"connect\":\"insert\",\"lang\":\"/lang/de\",\"value\":\"Muenchen\"}}}}"
    ⇒ codes "{\"code\":\"/api/status/error\",\"dateline\":2,\"error\":\"NotUnique\",\"info\":{\"path\":[\"name\"]},\"line\":4}"
    ∷ codes "{\"sid\":0,\"write\":{\"query\":{\"id\":\"#00000000000000010000000000000048\",\"name\":{\"connect\":\"insert\",\"lang\":\"/type\",\"value\":\"Muenchen\"}}}}"
    ⇒ codes "{\"code\":\"/api/status/error\",\"dateline\":2,\"error\":\"BadQuery\",\"info\":{\"code\":\"bad_lang\",\"path\":[\"name\",\"lang\"]},\"line\":5}"
    ∷ [])
unfolding replies
munich = refl

-- A form may ask for one language, and several such members ask for all of them at once.
pub one_language : AreReplies (
    codes "{\"sid\":0,\"write\":{\"query\":{\"create\":\"unconditional\",\"key\":{\"namespace\":\"/lang\",\"value\":\"de\"}}}}"
    ⇒ codes "{\"code\":\"/api/status/ok\",\"dateline\":1,\"line\":0,\"result\":{\"create\":\"created\",\"key\":{\"namespace\":\"/lang\",\"value\":\"de\"}}}"
    ∷ encode_utf8_all (codes "{\"sid\":0,\"write\":{\"query\":{\"a:name\":{\"lang\":\"/lang/de\",\"value\":\"Köln\"},\"create\":\"unconditional\",\"guid\":null,\"name\":\"Cologne\"}}}")
    ⇒ encode_utf8_all (codes "{\"code\":\"/api/status/ok\",\"dateline\":2,\"line\":1,\"result\":{\"a:name\":{\"lang\":\"/lang/de\",\"value\":\"Köln\"},\"create\":\"created\",\"guid\":\"#00000000000000010000000000000048\",\"name\":\"Cologne\"}}")
    ∷ encode_utf8_all (codes "{\"sid\":0,\"read\":{\"query\":{\"b:name\":{\"lang\":\"/lang/en\",\"value\":null},\"guid\":null,\"name\":{\"lang\":\"/lang/de\",\"value\":\"Köln\"}}}}")
    ⇒ encode_utf8_all (codes "{\"code\":\"/api/status/ok\",\"dateline\":2,\"line\":2,\"result\":{\"b:name\":{\"lang\":\"/lang/en\",\"value\":\"Cologne\"},\"guid\":\"#00000000000000010000000000000048\",\"name\":{\"lang\":\"/lang/de\",\"value\":\"Köln\"}}}")
    ∷ codes "{\"sid\":0,\"read\":{\"query\":{\"guid\":\"#00000000000000010000000000000048\",\"name\":{\"value\":null}}}}"
    ⇒ codes "{\"code\":\"/api/status/ok\",\"dateline\":2,\"line\":3,\"result\":{\"guid\":\"#00000000000000010000000000000048\",\"name\":{\"value\":\"Cologne\"}}}"
    ∷ codes "{\"sid\":0,\"read\":{\"query\":{\"guid\":\"#00000000000000010000000000000048\",\"name\":[{\"a:lang\":null,\"lang\":\"#00000000000000010000000000000046\",\"link\":null,\"value\":null}]}}}"
    ⇒ encode_utf8_all (codes "{\"code\":\"/api/status/ok\",\"dateline\":2,\"line\":4,\"result\":{\"guid\":\"#00000000000000010000000000000048\",\"name\":[{\"a:lang\":\"/lang/de\",\"lang\":\"#00000000000000010000000000000046\",\"link\":\"#00000000000000010000000000000049\",\"value\":\"Köln\"}]}}")
    ∷ codes "{\"sid\":0,\"read\":{\"query\":{\"guid\":\"#00000000000000010000000000000048\",\"name\":[{\"a:lang\":\"/lang/en\",\"lang\":\"/lang/de\",\"value\":null}]}}}"
    ⇒ codes "{\"code\":\"/api/status/ok\",\"dateline\":2,\"line\":5,\"result\":null}"
    ∷ codes "{\"sid\":0,\"read\":{\"query\":{\"guid\":\"#00000000000000010000000000000048\",\"name\":{\"lang\":null,\"value\":null}}}}"
    ⇒ codes "{\"code\":\"/api/status/error\",\"dateline\":2,\"error\":\"NotUnique\",\"info\":{\"path\":[\"name\"]},\"line\":6}"
    ∷ codes "{\"sid\":0,\"read\":{\"query\":{\"guid\":\"#00000000000000010000000000000048\",\"name\":[{\"lang\":\"/type\",\"optional\":true,\"value\":null}]}}}"
    ⇒ codes "{\"code\":\"/api/status/error\",\"dateline\":2,\"error\":\"BadQuery\",\"info\":{\"code\":\"bad_lang\",\"path\":[\"name\",\"lang\"]},\"line\":7}"
    ∷ [])
unfolding replies
one_language = refl

-- A text is changed and taken away in its own language, and its versions keep that.
pub changed : AreReplies (
    codes "{\"sid\":0,\"write\":{\"query\":{\"create\":\"unconditional\",\"key\":{\"namespace\":\"/lang\",\"value\":\"de\"}}}}"
    ⇒ codes "{\"code\":\"/api/status/ok\",\"dateline\":1,\"line\":0,\"result\":{\"create\":\"created\",\"key\":{\"namespace\":\"/lang\",\"value\":\"de\"}}}"
    ∷ codes "{\"sid\":0,\"write\":{\"query\":{\"create\":\"unconditional\",\"guid\":null,\"name\":[{\"lang\":\"/lang/de\",\"value\":\"Wien\"},{\"lang\":\"/lang/en\",\"value\":\"Vienna\"}]}}}"
    ⇒ codes "{\"code\":\"/api/status/ok\",\"dateline\":2,\"line\":1,\"result\":{\"create\":\"created\",\"guid\":\"#00000000000000010000000000000048\",\"name\":[{\"lang\":\"/lang/de\",\"value\":\"Wien\"},{\"lang\":\"/lang/en\",\"value\":\"Vienna\"}]}}"
    ∷ codes "{\"sid\":0,\"write\":{\"query\":{\"id\":\"#00000000000000010000000000000048\",\"name\":{\"connect\":\"update\",\"lang\":\"/lang/de\",\"value\":\"Vindobona\"}}}}"
    ⇒ codes "{\"code\":\"/api/status/ok\",\"dateline\":3,\"line\":2,\"result\":{\"id\":\"#00000000000000010000000000000048\",\"name\":{\"connect\":\"updated\",\"lang\":\"/lang/de\",\"value\":\"Vindobona\"}}}"
    ∷ codes "{\"sid\":0,\"read\":{\"query\":{\"guid\":\"#00000000000000010000000000000048\",\"name\":[{\"lang\":null,\"link\":null,\"value\":null}]}}}"
    ⇒ codes "{\"code\":\"/api/status/ok\",\"dateline\":3,\"line\":3,\"result\":{\"guid\":\"#00000000000000010000000000000048\",\"name\":[{\"lang\":\"/lang/en\",\"link\":\"#0000000000000001000000000000004a\",\"value\":\"Vienna\"},{\"lang\":\"/lang/de\",\"link\":\"#0000000000000001000000000000004b\",\"value\":\"Vindobona\"}]}}"
    ∷ codes "{\"sid\":0,\"write\":{\"query\":{\"id\":\"#00000000000000010000000000000048\",\"name\":{\"connect\":\"update\",\"previous\":\"#0000000000000001000000000000004b\",\"value\":\"Vindobona\"}}}}"
    ⇒ codes "{\"code\":\"/api/status/error\",\"dateline\":3,\"error\":\"BadQuery\",\"info\":{\"code\":\"bad_previous\",\"path\":[\"name\",\"previous\"]},\"line\":4}"
    ∷ codes "{\"sid\":0,\"write\":{\"query\":{\"id\":\"#00000000000000010000000000000048\",\"name\":{\"connect\":\"update\",\"lang\":\"/lang/de\",\"previous\":\"#0000000000000001000000000000004b\",\"value\":\"Wien\"}}}}"
    ⇒ codes "{\"code\":\"/api/status/ok\",\"dateline\":4,\"line\":5,\"result\":{\"id\":\"#00000000000000010000000000000048\",\"name\":{\"connect\":\"updated\",\"lang\":\"/lang/de\",\"previous\":\"#0000000000000001000000000000004b\",\"value\":\"Wien\"}}}"
    ∷ codes "{\"sid\":0,\"write\":{\"query\":{\"id\":\"#00000000000000010000000000000048\",\"name\":{\"connect\":\"delete\",\"value\":\"Wien\"}}}}"
    ⇒ codes "{\"code\":\"/api/status/ok\",\"dateline\":5,\"line\":6,\"result\":{\"id\":\"#00000000000000010000000000000048\",\"name\":{\"connect\":\"absent\",\"value\":\"Wien\"}}}"
    ∷ codes "{\"sid\":0,\"write\":{\"query\":{\"id\":\"#00000000000000010000000000000048\",\"name\":{\"connect\":\"delete\",\"lang\":\"/lang/de\",\"value\":\"Wien\"}}}}"
    ⇒ codes "{\"code\":\"/api/status/ok\",\"dateline\":6,\"line\":7,\"result\":{\"id\":\"#00000000000000010000000000000048\",\"name\":{\"connect\":\"deleted\",\"lang\":\"/lang/de\",\"value\":\"Wien\"}}}"
    ∷ codes "{\"sid\":0,\"read\":{\"query\":{\"guid\":\"#00000000000000010000000000000048\",\"name\":[{\"lang\":null,\"value\":null}]}}}"
    ⇒ codes "{\"code\":\"/api/status/ok\",\"dateline\":6,\"line\":8,\"result\":{\"guid\":\"#00000000000000010000000000000048\",\"name\":[{\"lang\":\"/lang/en\",\"value\":\"Vienna\"}]}}"
    ∷ [])
unfolding replies
changed = refl

-- Where a language may stand, and what names one.
pub refused : AreReplies (
    codes "{\"sid\":0,\"read\":{\"query\":[{\"id\":null,\"key\":[{\"lang\":null}]}]}}"
    ⇒ codes "{\"code\":\"/api/status/error\",\"dateline\":0,\"error\":\"BadQuery\",\"info\":{\"code\":\"object_form\",\"path\":[\"key\",\"lang\"]},\"line\":0}"
    ∷ codes "{\"sid\":0,\"read\":{\"query\":[{\"/type/property/unique\":{\"lang\":null,\"value\":null}}]}}"
    ⇒ codes "{\"code\":\"/api/status/error\",\"dateline\":0,\"error\":\"BadQuery\",\"info\":{\"code\":\"object_form\",\"path\":[\"/type/property/unique\",\"lang\"]},\"line\":1}"
    ∷ codes "{\"sid\":0,\"read\":{\"query\":[{\"name\":{\"lang\":\"/lang/xx\",\"value\":null}}]}}"
    ⇒ codes "{\"code\":\"/api/status/error\",\"dateline\":0,\"error\":\"NoSuchId\",\"info\":{\"path\":\"/lang/xx\"},\"line\":2}"
    ∷ codes "{\"sid\":0,\"read\":{\"query\":[{\"name\":{\"lang!=\":\"/lang/en\",\"value\":null}}]}}"
    ⇒ codes "{\"code\":\"/api/status/error\",\"dateline\":0,\"error\":\"BadQuery\",\"info\":{\"code\":\"bad_operator\",\"path\":[\"name\",\"lang!=\"]},\"line\":3}"
    ∷ codes "{\"sid\":0,\"read\":{\"query\":[{\"name\":{\"lang\":[],\"value\":null}}]}}"
    ⇒ codes "{\"code\":\"/api/status/error\",\"dateline\":0,\"error\":\"BadQuery\",\"info\":{\"code\":\"object_form\",\"path\":[\"name\",\"lang\"]},\"line\":4}"
    ∷ codes "{\"sid\":0,\"read\":{\"query\":[{\"name\":{\"lang\":3,\"value\":null}}]}}"
    ⇒ codes "{\"code\":\"/api/status/error\",\"dateline\":0,\"error\":\"BadQuery\",\"info\":{\"code\":\"bad_value\",\"path\":[\"name\",\"lang\"]},\"line\":5}"
    ∷ codes "{\"sid\":0,\"write\":{\"query\":{\"create\":\"unconditional\",\"name\":{\"lang\":\"/lang/xx\",\"value\":5}}}}"
    ⇒ codes "{\"code\":\"/api/status/error\",\"dateline\":0,\"error\":\"NoSuchId\",\"info\":{\"path\":\"/lang/xx\"},\"line\":6}"
    ∷ codes "{\"sid\":0,\"write\":{\"query\":{\"create\":\"unconditional\",\"name\":{\"lang\":\"/lang\",\"value\":5}}}}"
    ⇒ codes "{\"code\":\"/api/status/error\",\"dateline\":0,\"error\":\"BadQuery\",\"info\":{\"code\":\"bad_lang\",\"path\":[\"name\",\"lang\"]},\"line\":7}"
    ∷ codes "{\"sid\":0,\"write\":{\"query\":{\"create\":\"unconditional\",\"name\":{\"lang\":\"/lang/en\",\"value\":5}}}}"
    ⇒ codes "{\"code\":\"/api/status/error\",\"dateline\":0,\"error\":\"BadQuery\",\"info\":{\"code\":\"bad_value\",\"path\":[\"name\",\"value\"]},\"line\":8}"
    ∷ codes "{\"sid\":0,\"write\":{\"query\":{\"create\":\"unconditional\",\"unique\":{\"lang\":\"/lang/en\",\"value\":true},\"type\":\"/type/property\"}}}"
    ⇒ codes "{\"code\":\"/api/status/error\",\"dateline\":0,\"error\":\"BadQuery\",\"info\":{\"code\":\"bad_value\",\"path\":[\"unique\",\"lang\"]},\"line\":9}"
    ∷ codes "{\"sid\":0,\"write\":{\"query\":{\"create\":\"unconditional\",\"name\":{\"lang\":3,\"value\":\"X\"}}}}"
    ⇒ codes "{\"code\":\"/api/status/error\",\"error\":\"BadQuery\",\"info\":{\"code\":\"bad_operand\",\"path\":[\"name\",\"lang\"]},\"line\":10}"
    ∷ codes "{\"sid\":0,\"write\":{\"query\":{\"id\":\"/type\",\"name\":{\"lang\":\"/lang/en\",\"value\":\"Type\"}}}}"
    ⇒ codes "{\"code\":\"/api/status/error\",\"error\":\"BadQuery\",\"info\":{\"code\":\"bad_write\",\"path\":[\"name\"]},\"line\":11}"
    ∷ codes "{\"sid\":0,\"write\":{\"query\":{\"create\":\"unconditional\",\"key\":{\"lang\":\"/lang/en\",\"namespace\":\"/\",\"value\":\"k\"}}}}"
    ⇒ codes "{\"code\":\"/api/status/error\",\"error\":\"BadQuery\",\"info\":{\"code\":\"bad_write\",\"path\":[\"key\"]},\"line\":12}"
    ∷ [])
unfolding replies
refused = refl

-- What an object prints as its name and what sorts a row is the first English text, whatever else the members ask.
pub of_names_and_keys : AreReplies (
    codes "{\"sid\":0,\"write\":{\"query\":{\"create\":\"unconditional\",\"key\":{\"namespace\":\"/lang\",\"value\":\"de\"}}}}"
    ⇒ codes "{\"code\":\"/api/status/ok\",\"dateline\":1,\"line\":0,\"result\":{\"create\":\"created\",\"key\":{\"namespace\":\"/lang\",\"value\":\"de\"}}}"
    ∷ codes "{\"sid\":0,\"write\":{\"query\":{\"create\":\"unconditional\",\"key\":{\"namespace\":\"/\",\"value\":\"t\"},\"name\":{\"lang\":\"/lang/de\",\"value\":\"Typ\"},\"type\":\"/type/type\"}}}"
    ⇒ codes "{\"code\":\"/api/status/ok\",\"dateline\":2,\"line\":1,\"result\":{\"create\":\"created\",\"key\":{\"namespace\":\"/\",\"value\":\"t\"},\"name\":{\"lang\":\"/lang/de\",\"value\":\"Typ\"},\"type\":\"/type/type\"}}"
    ∷ codes "{\"sid\":0,\"write\":{\"query\":{\"create\":\"unconditional\",\"key\":{\"namespace\":\"/t\",\"value\":\"p\"},\"expected_type\":\"/t\",\"type\":\"/type/property\"}}}"
    ⇒ codes "{\"code\":\"/api/status/ok\",\"dateline\":3,\"line\":2,\"result\":{\"create\":\"created\",\"expected_type\":\"/t\",\"key\":{\"namespace\":\"/t\",\"value\":\"p\"},\"type\":\"/type/property\"}}"
    ∷ codes "{\"sid\":0,\"write\":{\"query\":{\"a:name\":{\"lang\":\"/lang/de\",\"value\":\"A\"},\"create\":\"unconditional\",\"name\":\"z\",\"type\":\"/t\"}}}"
    ⇒ codes "{\"code\":\"/api/status/ok\",\"dateline\":4,\"line\":3,\"result\":{\"a:name\":{\"lang\":\"/lang/de\",\"value\":\"A\"},\"create\":\"created\",\"name\":\"z\",\"type\":\"/t\"}}"
    ∷ codes "{\"sid\":0,\"write\":{\"query\":{\"create\":\"unconditional\",\"name\":\"m\",\"p\":[{\"create\":\"unconditional\",\"name\":{\"lang\":\"/lang/de\",\"value\":\"B\"},\"type\":\"/t\"}],\"type\":\"/t\"}}}"
    ⇒ codes "{\"code\":\"/api/status/ok\",\"dateline\":5,\"line\":4,\"result\":{\"create\":\"created\",\"name\":\"m\",\"p\":[{\"create\":\"created\",\"name\":{\"lang\":\"/lang/de\",\"value\":\"B\"},\"type\":\"/t\"}],\"type\":\"/t\"}}"
    ∷ codes "{\"sid\":0,\"read\":{\"query\":[{\"name\":[{\"lang\":null,\"value\":null}],\"sort\":\"name\",\"type\":\"/t\"}]}}"
    ⇒ codes "{\"code\":\"/api/status/ok\",\"dateline\":5,\"line\":5,\"result\":[{\"name\":[{\"lang\":\"/lang/en\",\"value\":\"m\"}],\"type\":\"/t\"},{\"name\":[{\"lang\":\"/lang/de\",\"value\":\"A\"},{\"lang\":\"/lang/en\",\"value\":\"z\"}],\"type\":\"/t\"},{\"name\":[{\"lang\":\"/lang/de\",\"value\":\"B\"}],\"type\":\"/t\"}]}"
    ∷ codes "{\"sid\":0,\"read\":{\"query\":[{\"name\":\"m\",\"p\":[],\"q:p\":[{\"name\":{\"lang\":\"/lang/de\",\"value\":\"B\"}}],\"type\":\"/t\"}]}}"
    ⇒ codes "{\"code\":\"/api/status/ok\",\"dateline\":5,\"line\":6,\"result\":[{\"name\":\"m\",\"p\":[null],\"q:p\":[{\"name\":{\"lang\":\"/lang/de\",\"value\":\"B\"}}],\"type\":\"/t\"}]}"
    ∷ codes "{\"sid\":0,\"read\":{\"query\":[{\"name\":\"m\",\"p\":\"B\",\"type\":\"/t\"}]}}"
    ⇒ codes "{\"code\":\"/api/status/ok\",\"dateline\":5,\"line\":7,\"result\":[]}"
    ∷ [])
unfolding replies
of_names_and_keys = refl

-- What the text of a language names has to be one, in a read as in a write: an object with a key among languages.
pub no_language : AreReplies (
    codes "{\"sid\":0,\"write\":{\"query\":{\"create\":\"unconditional\",\"key\":{\"namespace\":\"/\",\"value\":\"k\"}}}}"
    ⇒ codes "{\"code\":\"/api/status/ok\",\"dateline\":1,\"line\":0,\"result\":{\"create\":\"created\",\"key\":{\"namespace\":\"/\",\"value\":\"k\"}}}"
    ∷ codes "{\"sid\":0,\"read\":{\"query\":[{\"name\":{\"lang\":\"/k\",\"value\":null}}]}}"
    ⇒ codes "{\"code\":\"/api/status/error\",\"dateline\":1,\"error\":\"BadQuery\",\"info\":{\"code\":\"bad_lang\",\"path\":[\"name\",\"lang\"]},\"line\":1}"
    ∷ codes "{\"sid\":0,\"read\":{\"query\":[{\"name\":[{\"b:lang\":\"/lang\",\"optional\":true,\"value\":null}]}]}}"
    ⇒ codes "{\"code\":\"/api/status/error\",\"dateline\":1,\"error\":\"BadQuery\",\"info\":{\"code\":\"bad_lang\",\"path\":[\"name\",\"b:lang\"]},\"line\":2}"
    ∷ codes "{\"sid\":0,\"read\":{\"query\":{\"id\":null,\"type\":[{\"name\":{\"lang\":\"/type\",\"value\":null}}]}}}"
    ⇒ codes "{\"code\":\"/api/status/error\",\"dateline\":1,\"error\":\"BadQuery\",\"info\":{\"code\":\"bad_lang\",\"path\":[\"type\",\"name\",\"lang\"]},\"line\":3}"
    ∷ codes "{\"sid\":0,\"read\":{\"query\":[{\"name\":{\"a:lang\":\"/lang/xx\",\"lang\":\"/k\",\"value\":null}}]}}"
    ⇒ codes "{\"code\":\"/api/status/error\",\"dateline\":1,\"error\":\"NoSuchId\",\"info\":{\"path\":\"/lang/xx\"},\"line\":4}"
    ∷ codes "{\"sid\":0,\"read\":{\"query\":[{\"name\":{\"a:lang\":\"/k\",\"lang\":\"/lang/xx\",\"value\":null}}]}}"
    ⇒ codes "{\"code\":\"/api/status/error\",\"dateline\":1,\"error\":\"BadQuery\",\"info\":{\"code\":\"bad_lang\",\"path\":[\"name\",\"a:lang\"]},\"line\":5}"
    ∷ codes "{\"sid\":0,\"read\":{\"query\":[{\"name\":{\"lang\":\"/k\",\"value\":5}}]}}"
    ⇒ codes "{\"code\":\"/api/status/error\",\"dateline\":1,\"error\":\"BadQuery\",\"info\":{\"code\":\"bad_lang\",\"path\":[\"name\",\"lang\"]},\"line\":6}"
    ∷ codes "{\"sid\":0,\"read\":{\"query\":[{\"name\":{\"a:value\":5,\"lang\":\"/k\"}}]}}"
    ⇒ codes "{\"code\":\"/api/status/error\",\"dateline\":1,\"error\":\"BadQuery\",\"info\":{\"code\":\"bad_value\",\"path\":[\"name\",\"a:value\"]},\"line\":7}"
    ∷ [])
unfolding replies
no_language = refl

-- A language that has lost its key is none any more, though texts keep it and print it; with another key it is one again.
pub lost_language : AreReplies (
    codes "{\"sid\":0,\"write\":{\"query\":{\"create\":\"unconditional\",\"key\":{\"namespace\":\"/lang\",\"value\":\"de\"}}}}"
    ⇒ codes "{\"code\":\"/api/status/ok\",\"dateline\":1,\"line\":0,\"result\":{\"create\":\"created\",\"key\":{\"namespace\":\"/lang\",\"value\":\"de\"}}}"
    ∷ encode_utf8_all (codes "{\"sid\":0,\"write\":{\"query\":{\"create\":\"unconditional\",\"guid\":null,\"name\":{\"lang\":\"/lang/de\",\"value\":\"Köln\"}}}}")
    ⇒ encode_utf8_all (codes "{\"code\":\"/api/status/ok\",\"dateline\":2,\"line\":1,\"result\":{\"create\":\"created\",\"guid\":\"#00000000000000010000000000000048\",\"name\":{\"lang\":\"/lang/de\",\"value\":\"Köln\"}}}")
    ∷ encode_utf8_all (codes "{\"sid\":0,\"read\":{\"query\":{\"guid\":null,\"name\":{\"lang\":\"/lang/de\",\"value\":\"Köln\"}}}}")
    ⇒ encode_utf8_all (codes "{\"code\":\"/api/status/ok\",\"dateline\":2,\"line\":2,\"result\":{\"guid\":\"#00000000000000010000000000000048\",\"name\":{\"lang\":\"/lang/de\",\"value\":\"Köln\"}}}")
    ∷ codes "{\"sid\":0,\"write\":{\"query\":{\"id\":\"/lang/de\",\"key\":{\"connect\":\"delete\",\"namespace\":\"/lang\",\"value\":\"de\"}}}}"
    ⇒ codes "{\"code\":\"/api/status/ok\",\"dateline\":3,\"line\":3,\"result\":{\"id\":\"/lang/de\",\"key\":{\"connect\":\"deleted\",\"namespace\":\"/lang\",\"value\":\"de\"}}}"
    ∷ encode_utf8_all (codes "{\"sid\":0,\"read\":{\"query\":{\"guid\":null,\"name\":{\"lang\":\"/lang/de\",\"value\":\"Köln\"}}}}")
    ⇒ codes "{\"code\":\"/api/status/error\",\"dateline\":3,\"error\":\"NoSuchId\",\"info\":{\"path\":\"/lang/de\"},\"line\":4}"
    ∷ encode_utf8_all (codes "{\"sid\":0,\"read\":{\"query\":{\"guid\":null,\"name\":{\"lang\":\"#00000000000000010000000000000046\",\"value\":\"Köln\"}}}}")
    ⇒ codes "{\"code\":\"/api/status/error\",\"dateline\":3,\"error\":\"BadQuery\",\"info\":{\"code\":\"bad_lang\",\"path\":[\"name\",\"lang\"]},\"line\":5}"
    ∷ encode_utf8_all (codes "{\"sid\":0,\"read\":{\"query\":{\"guid\":null,\"name\":{\"lang\":null,\"value\":\"Köln\"}}}}")
    ⇒ encode_utf8_all (codes "{\"code\":\"/api/status/ok\",\"dateline\":3,\"line\":6,\"result\":{\"guid\":\"#00000000000000010000000000000048\",\"name\":{\"lang\":\"#00000000000000010000000000000046\",\"value\":\"Köln\"}}}")
    ∷ codes "{\"sid\":0,\"write\":{\"query\":{\"id\":\"#00000000000000010000000000000048\",\"name\":{\"connect\":\"insert\",\"lang\":\"#00000000000000010000000000000046\",\"value\":\"Colonia\"}}}}"
    ⇒ codes "{\"code\":\"/api/status/error\",\"dateline\":3,\"error\":\"BadQuery\",\"info\":{\"code\":\"bad_lang\",\"path\":[\"name\",\"lang\"]},\"line\":7}"
    ∷ codes "{\"sid\":0,\"write\":{\"query\":{\"id\":\"#00000000000000010000000000000046\",\"key\":{\"connect\":\"insert\",\"namespace\":\"/lang\",\"value\":\"ksh\"}}}}"
    ⇒ codes "{\"code\":\"/api/status/ok\",\"dateline\":4,\"line\":8,\"result\":{\"id\":\"#00000000000000010000000000000046\",\"key\":{\"connect\":\"inserted\",\"namespace\":\"/lang\",\"value\":\"ksh\"}}}"
    ∷ codes "{\"sid\":0,\"read\":{\"query\":{\"guid\":null,\"name\":{\"lang\":\"/lang/ksh\",\"value\":null}}}}"
    ⇒ encode_utf8_all (codes "{\"code\":\"/api/status/ok\",\"dateline\":4,\"line\":9,\"result\":{\"guid\":\"#00000000000000010000000000000048\",\"name\":{\"lang\":\"/lang/ksh\",\"value\":\"Köln\"}}}")
    ∷ [])
unfolding replies
lost_language = refl
