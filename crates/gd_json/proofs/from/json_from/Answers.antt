use Rattle.std.proofs.Common.{◌≡◌, ℕ, List, Bool, true, false, Result, Ok, Err, IfOk, sym, ap, ◌∙◌, subst, refl}
use Rattle.std.specs.Str.{is_utf8, IsUtf8}
use Rattle.std.proofs.lemmas.Str.{IsUtf8-from_is_utf8, is_utf8-from_IsUtf8}
use Rattle.gd_base.specs.Answers.{Gives}
use Rattle.gd_json.specs.View.{view}
use Rattle.gd_json.specs.Reading.{json_from}
use Rattle.gd_json.specs.Text.{text_reading}
use Rattle.gd_json.specs.Bounded.{IsBounded}
use Rattle.gd_json.specs.declared.value.Json.{Json}
use Rattle.gd_json.specs.declared.from.JsonFault.{JsonFault}
use Rattle.gd_json.specs.declared.from.JsonFault.TheVariants.{BadJson, Memory}
use Rattle.gd_json.proofs.Levels.{json_is_bounded}
use Rattle.gd_json.proofs.from.json_from.Goals as goal

-- a text in UTF-8
read_as : (bytes : List ℕ) → IsUtf8 bytes → json_from bytes ≡ text_reading bytes
read_as bytes utf8 = rw (is_utf8-from_IsUtf8 bytes utf8) refl

not_utf8 : (bytes : List ℕ) (b : Bool) → is_utf8 bytes ≡ b → ¬ (IsUtf8 bytes) → json_from bytes ≡ Err BadJson
not_utf8 bytes true is refused = absurd (refused (IsUtf8-from_is_utf8 bytes is))
not_utf8 bytes false is refused = rw is refl

-- a value that was read is bounded
bounded : (bytes : List ℕ) (r : Result Json JsonFault) → Gives view Memory (json_from bytes) r → IfOk r (λ json. IsBounded (view json))
bounded bytes (Ok json) gives = json_is_bounded bytes (view json) gives
bounded bytes (Err fault) gives = tt

pub returns-in-Ok : goal.returns-in-Ok
returns-in-Ok c =
    let same = c.in-Ok.ensures.cases in
    let read : Gives view Memory (json_from c.args.bytes.now) c.text_value.result =
    subst (λ e. Gives view Memory e c.text_value.result) (sym (read_as c.args.bytes.now same.1 ∙ ap text_reading (sym same.0))) c.text_value.ensures in
    record { read = read; bounded = bounded c.args.bytes.now c.text_value.result read }

pub returns-in-Err-clause-read : goal.returns-in-Err-clause-read
returns-in-Err-clause-read c never = not_utf8 c.args.bytes.now (is_utf8 c.args.bytes.now) refl c.in-Err.ensures.cases.0
