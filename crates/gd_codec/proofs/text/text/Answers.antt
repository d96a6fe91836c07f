use Rattle.std.proofs.Common.{◌≡◌, ◌≤◌, ℕ, List, [], ◌∷◌, Ok, length, true, refl, arith}
use Rattle.std.specs.Str.{is_utf8}
use Rattle.std.proofs.lemmas.Str.{is_utf8-from_IsUtf8}
use Rattle.gd_grammar.specs.Reading.{number_at}
use Rattle.gd_grammar.proofs.Ranges.{number_within}
use Rattle.gd_utf8.specs.Utf8.{utf8_at}
use Rattle.gd_utf8.proofs.Exact.{utf8_read}
use Rattle.gd_codec.proofs.text.text.Goals as goal

-- what was read is UTF-8, and short
read_text : (bytes : List ℕ) (count : ℕ) (rest front behind : List ℕ) → number_at ((0, 4096) ∷ []) 2 bytes ≡ Ok (count, rest) → utf8_at count rest ≡ Ok (front, behind) → (length front ≤ 4096) × (is_utf8 front ≡ true)
read_text bytes count rest front behind counted read =
    let within = number_within 4096 2 bytes count rest refl refl counted in
    let (long, utf8) = utf8_read count rest front behind read in
    (omega (arith, long, within), is_utf8-from_IsUtf8 front utf8)

pub text_of_utf8-requires-clause-short : goal.text_of_utf8-requires-clause-short
text_of_utf8-requires-clause-short c = (read_text c.args.bytes.now c.in_ok-count.count c.in_ok-count.rest.now c.in_ok-front.front.now c.in_ok-front.rest.now c.in_ok-count.ensures c.in_ok-front.ensures).0

pub text_of_utf8-requires-clause-utf8 : goal.text_of_utf8-requires-clause-utf8
text_of_utf8-requires-clause-utf8 c = (read_text c.args.bytes.now c.in_ok-count.count c.in_ok-count.rest.now c.in_ok-front.front.now c.in_ok-front.rest.now c.in_ok-count.ensures c.in_ok-front.ensures).1
