-- Lines as bytes: which of them are requests, and how the others are refused.
-- Written by tools/row.py from rows/lines.txt.
use Rattle.std.proofs.Common.{refl, [], ◌∷◌, codes}
use Rattle.std.specs.Prelude.{encode_utf8_all}
use Rattle.gd_runs.proofs.Plain.{◌⇒◌, replies, AreReplies}

-- The members of a line and of a query may stand in any order.
pub request : AreReplies (
    codes "{\"sid\":0,\"read\":{\"query\":[{\"guid\":null,\"name\":\"English\"}]}}"
    ⇒ codes "{\"code\":\"/api/status/ok\",\"dateline\":0,\"line\":0,\"result\":[{\"guid\":\"#00000000000000010000000000000003\",\"name\":\"English\"}]}"
    ∷ codes "{\"read\":{\"query\":[{\"name\":\"English\",\"guid\":null}]},\"sid\":0}"
    ⇒ codes "{\"code\":\"/api/status/ok\",\"dateline\":0,\"line\":1,\"result\":[{\"guid\":\"#00000000000000010000000000000003\",\"name\":\"English\"}]}"
    ∷ codes "{ \"sid\" : 0, \"read\" : { \"query\" : [ { \"guid\" : null, \"name\" : \"English\" } ] } }"
    ⇒ codes "{\"code\":\"/api/status/ok\",\"dateline\":0,\"line\":2,\"result\":[{\"guid\":\"#00000000000000010000000000000003\",\"name\":\"English\"}]}"
    ∷ [])
unfolding replies
request = refl

-- Of two members with one name the last counts.
pub last_of_two : AreReplies (
    codes "{\"sid\":64,\"sid\":0,\"read\":{\"query\":[{\"guid\":null,\"name\":\"Type\",\"name\":\"English\"}]}}"
    ⇒ codes "{\"code\":\"/api/status/ok\",\"dateline\":0,\"line\":0,\"result\":[{\"guid\":\"#00000000000000010000000000000003\",\"name\":\"English\"}]}"
    ∷ [])
unfolding replies
last_of_two = refl

-- Escapes are read as what they stand for, and printed only where they must be.
pub escapes : AreReplies (
    codes "{\"sid\":0,\"read\":{\"query\":[{\"guid\":null,\"name\":\"\\u0045nglish\"}]}}"
    ⇒ codes "{\"code\":\"/api/status/ok\",\"dateline\":0,\"line\":0,\"result\":[{\"guid\":\"#00000000000000010000000000000003\",\"name\":\"English\"}]}"
    ∷ codes "{\"sid\":0,\"read\":{\"query\":[{\"guid\":null,\"name\":\"\\\"\\\\\\/\\b\\f\\n\\r\\t\\u0001\\u00e9\"}]}}"
    ⇒ codes "{\"code\":\"/api/status/ok\",\"dateline\":0,\"line\":1,\"result\":[]}"
    ∷ codes "{\"sid\":0,\"write\":{\"query\":{\"create\":\"unconditional\",\"name\":\"\\\"\\\\\\/\\b\\f\\n\\r\\t\\u0001\\u00e9\"}}}"
    ⇒ encode_utf8_all (codes "{\"code\":\"/api/status/ok\",\"dateline\":1,\"line\":2,\"result\":{\"create\":\"created\",\"name\":\"\\\"\\\\/\\b\\f\\n\\r\\t\\u0001é\"}}")
    ∷ [])
unfolding replies
escapes = refl

-- What is no JSON, or no UTF-8.
pub no_json : AreReplies (
    codes "{"
    ⇒ codes "{\"code\":\"/api/status/error\",\"error\":\"BadJson\",\"info\":{},\"line\":0}"
    ∷ codes "nul"
    ⇒ codes "{\"code\":\"/api/status/error\",\"error\":\"BadJson\",\"info\":{},\"line\":1}"
    ∷ codes "{} {}"
    ⇒ codes "{\"code\":\"/api/status/error\",\"error\":\"BadJson\",\"info\":{},\"line\":2}"
    ∷ codes "[1,]"
    ⇒ codes "{\"code\":\"/api/status/error\",\"error\":\"BadJson\",\"info\":{},\"line\":3}"
    ∷ codes "{'sid':0}"
    ⇒ codes "{\"code\":\"/api/status/error\",\"error\":\"BadJson\",\"info\":{},\"line\":4}"
    ∷ codes "[01]"
    ⇒ codes "{\"code\":\"/api/status/error\",\"error\":\"BadJson\",\"info\":{},\"line\":5}"
    ∷ (34 ∷ 255 ∷ 34 ∷ [])
    ⇒ codes "{\"code\":\"/api/status/error\",\"error\":\"BadJson\",\"info\":{},\"line\":6}"
    ∷ [])
unfolding replies
no_json = refl

-- The 17th level is too deep, and the 128th is none that is read at all.
pub too_deep : AreReplies (
    codes "[[[[[[[[[[[[[[[[]]]]]]]]]]]]]]]]"
    ⇒ codes "{\"code\":\"/api/status/error\",\"error\":\"BadLine\",\"info\":{},\"line\":0}"
    ∷ codes "[[[[[[[[[[[[[[[[[]]]]]]]]]]]]]]]]]"
    ⇒ codes "{\"code\":\"/api/status/error\",\"error\":\"TooDeep\",\"info\":{},\"line\":1}"
    ∷ codes "[[[[[[[[[[[[[[[[[[[[[[[[[[[[[[[[[[[[[[[[[[[[[[[[[[[[[[[[[[[[[[[[[[[[[[[[[[[[[[[[[[[[[[[[[[[[[[[[[[[[[[[[[[[[[[[[[[[[[[[[[[[[[[[]]]]]]]]]]]]]]]]]]]]]]]]]]]]]]]]]]]]]]]]]]]]]]]]]]]]]]]]]]]]]]]]]]]]]]]]]]]]]]]]]]]]]]]]]]]]]]]]]]]]]]]]]]]]]]]]]]]]]]]]]]]]]]]"
    ⇒ codes "{\"code\":\"/api/status/error\",\"error\":\"TooDeep\",\"info\":{},\"line\":2}"
    ∷ codes "[[[[[[[[[[[[[[[[[[[[[[[[[[[[[[[[[[[[[[[[[[[[[[[[[[[[[[[[[[[[[[[[[[[[[[[[[[[[[[[[[[[[[[[[[[[[[[[[[[[[[[[[[[[[[[[[[[[[[[[[[[[[[[[[]]]]]]]]]]]]]]]]]]]]]]]]]]]]]]]]]]]]]]]]]]]]]]]]]]]]]]]]]]]]]]]]]]]]]]]]]]]]]]]]]]]]]]]]]]]]]]]]]]]]]]]]]]]]]]]]]]]]]]]]]]]]]]]]"
    ⇒ codes "{\"code\":\"/api/status/error\",\"error\":\"BadJson\",\"info\":{},\"line\":3}"
    ∷ [])
unfolding replies
too_deep = refl

-- A list or an object has at most 64 parts.
pub too_wide : AreReplies (
    codes "[1,1,1,1,1,1,1,1,1,1,1,1,1,1,1,1,1,1,1,1,1,1,1,1,1,1,1,1,1,1,1,1,1,1,1,1,1,1,1,1,1,1,1,1,1,1,1,1,1,1,1,1,1,1,1,1,1,1,1,1,1,1,1,1]"
    ⇒ codes "{\"code\":\"/api/status/error\",\"error\":\"BadLine\",\"info\":{},\"line\":0}"
    ∷ codes "[1,1,1,1,1,1,1,1,1,1,1,1,1,1,1,1,1,1,1,1,1,1,1,1,1,1,1,1,1,1,1,1,1,1,1,1,1,1,1,1,1,1,1,1,1,1,1,1,1,1,1,1,1,1,1,1,1,1,1,1,1,1,1,1,1]"
    ⇒ codes "{\"code\":\"/api/status/error\",\"error\":\"TooWide\",\"info\":{},\"line\":1}"
    ∷ codes "{\"k0\":1,\"k1\":1,\"k2\":1,\"k3\":1,\"k4\":1,\"k5\":1,\"k6\":1,\"k7\":1,\"k8\":1,\"k9\":1,\"k10\":1,\"k11\":1,\"k12\":1,\"k13\":1,\"k14\":1,\"k15\":1,\"k16\":1,\"k17\":1,\"k18\":1,\"k19\":1,\"k20\":1,\"k21\":1,\"k22\":1,\"k23\":1,\"k24\":1,\"k25\":1,\"k26\":1,\"k27\":1,\"k28\":1,\"k29\":1,\"k30\":1,\"k31\":1,\"k32\":1,\"k33\":1,\"k34\":1,\"k35\":1,\"k36\":1,\"k37\":1,\"k38\":1,\"k39\":1,\"k40\":1,\"k41\":1,\"k42\":1,\"k43\":1,\"k44\":1,\"k45\":1,\"k46\":1,\"k47\":1,\"k48\":1,\"k49\":1,\"k50\":1,\"k51\":1,\"k52\":1,\"k53\":1,\"k54\":1,\"k55\":1,\"k56\":1,\"k57\":1,\"k58\":1,\"k59\":1,\"k60\":1,\"k61\":1,\"k62\":1,\"k63\":1,\"k64\":1}"
    ⇒ codes "{\"code\":\"/api/status/error\",\"error\":\"TooWide\",\"info\":{},\"line\":2}"
    ∷ [])
unfolding replies
too_wide = refl

-- A value is tested before its parts, and members in byte order of names.
pub first_fault : AreReplies (
    codes "{\"b\":1.5,\"a\":[1,1,1,1,1,1,1,1,1,1,1,1,1,1,1,1,1,1,1,1,1,1,1,1,1,1,1,1,1,1,1,1,1,1,1,1,1,1,1,1,1,1,1,1,1,1,1,1,1,1,1,1,1,1,1,1,1,1,1,1,1,1,1,1,1]}"
    ⇒ codes "{\"code\":\"/api/status/error\",\"error\":\"TooWide\",\"info\":{},\"line\":0}"
    ∷ codes "{\"b\":[1,1,1,1,1,1,1,1,1,1,1,1,1,1,1,1,1,1,1,1,1,1,1,1,1,1,1,1,1,1,1,1,1,1,1,1,1,1,1,1,1,1,1,1,1,1,1,1,1,1,1,1,1,1,1,1,1,1,1,1,1,1,1,1,1],\"a\":1.5}"
    ⇒ codes "{\"code\":\"/api/status/error\",\"error\":\"FloatValue\",\"info\":{},\"line\":1}"
    ∷ [])
unfolding replies
first_fault = refl

-- Numbers are whole and of 64 bits with a sign.
pub numbers : AreReplies (
    codes "{\"sid\":0,\"read\":{\"query\":[{\"age\":1.5}]}}"
    ⇒ codes "{\"code\":\"/api/status/error\",\"error\":\"FloatValue\",\"info\":{},\"line\":0}"
    ∷ codes "{\"sid\":0,\"read\":{\"query\":[{\"age\":1e2}]}}"
    ⇒ codes "{\"code\":\"/api/status/error\",\"error\":\"FloatValue\",\"info\":{},\"line\":1}"
    ∷ codes "{\"sid\":0,\"read\":{\"query\":[{\"age\":9223372036854775807}]}}"
    ⇒ codes "{\"code\":\"/api/status/error\",\"dateline\":0,\"error\":\"NoSuchProperty\",\"info\":{\"path\":[\"age\"]},\"line\":2}"
    ∷ codes "{\"sid\":0,\"read\":{\"query\":[{\"age\":9223372036854775808}]}}"
    ⇒ codes "{\"code\":\"/api/status/error\",\"error\":\"FloatValue\",\"info\":{},\"line\":3}"
    ∷ codes "{\"sid\":0,\"read\":{\"query\":[{\"age\":-9223372036854775808}]}}"
    ⇒ codes "{\"code\":\"/api/status/error\",\"dateline\":0,\"error\":\"NoSuchProperty\",\"info\":{\"path\":[\"age\"]},\"line\":4}"
    ∷ codes "{\"sid\":0,\"read\":{\"query\":[{\"age\":-9223372036854775809}]}}"
    ⇒ codes "{\"code\":\"/api/status/error\",\"error\":\"FloatValue\",\"info\":{},\"line\":5}"
    ∷ codes "{\"sid\":0,\"read\":{\"query\":[{\"age\":18446744073709551616}]}}"
    ⇒ codes "{\"code\":\"/api/status/error\",\"error\":\"FloatValue\",\"info\":{},\"line\":6}"
    ∷ [])
unfolding replies
numbers = refl

-- A line has just a session from 0 to 63, and a read or a write.
pub no_line : AreReplies (
    codes "{\"sid\":64,\"read\":{\"query\":[{}]}}"
    ⇒ codes "{\"code\":\"/api/status/error\",\"error\":\"BadLine\",\"info\":{},\"line\":0}"
    ∷ codes "{\"sid\":-1,\"read\":{\"query\":[{}]}}"
    ⇒ codes "{\"code\":\"/api/status/error\",\"error\":\"BadLine\",\"info\":{},\"line\":1}"
    ∷ codes "{\"sid\":\"0\",\"read\":{\"query\":[{}]}}"
    ⇒ codes "{\"code\":\"/api/status/error\",\"error\":\"BadLine\",\"info\":{},\"line\":2}"
    ∷ codes "{\"read\":{\"query\":[{}]}}"
    ⇒ codes "{\"code\":\"/api/status/error\",\"error\":\"BadLine\",\"info\":{},\"line\":3}"
    ∷ codes "{\"sid\":0}"
    ⇒ codes "{\"code\":\"/api/status/error\",\"error\":\"BadLine\",\"info\":{},\"line\":4}"
    ∷ codes "{\"sid\":0,\"read\":{\"query\":[{}]},\"write\":{\"query\":{}}}"
    ⇒ codes "{\"code\":\"/api/status/error\",\"error\":\"BadLine\",\"info\":{},\"line\":5}"
    ∷ codes "{\"sid\":0,\"read\":{\"query\":[{}]},\"x\":0}"
    ⇒ codes "{\"code\":\"/api/status/error\",\"error\":\"BadLine\",\"info\":{},\"line\":6}"
    ∷ codes "[]"
    ⇒ codes "{\"code\":\"/api/status/error\",\"error\":\"BadLine\",\"info\":{},\"line\":7}"
    ∷ codes "0"
    ⇒ codes "{\"code\":\"/api/status/error\",\"error\":\"BadLine\",\"info\":{},\"line\":8}"
    ∷ [])
unfolding replies
no_line = refl
