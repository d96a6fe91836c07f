use Rattle.std.proofs.Common.{◌≡◌, ◌∙◌, ap, ℕ, Option, arith}
use Rattle.std.specs.Prelude.{option_and_then, unwrap_or, slice_get, []}
use Rattle.gd_tree.specs.Json.{Json}
use Rattle.gd_json.specs.View.{view}
use Rattle.gd_defs.specs.Query.{sort_of}
use Rattle.gd_defs.specs.Query.Directive.{sort_word}
use Rattle.gd_mql.proofs.SortedBy.{word_of, text_word, text_end, item_word}
use Rattle.gd_mql.proofs.clause.SortWords.word.Goals as goal

pub returns-then-index-gt0 : goal.returns-then-index-gt0
returns-then-index-gt0 c = text_end (view c.args.self.now.spelled.now) c.in-Some.text.now c.args.index c.args.self.now.sorts c.in-Some.ensures (omega arith)

pub returns-in-Some : goal.returns-in-Some
returns-in-Some c =
    let j = view c.args.self.now.spelled.now in
    let first : 0 ≡ c.args.index = omega arith in
    c.sort_word.ensures ∙ (ap sort_word c.as_str.ensures ∙ (text_word j c.in-Some.text.now c.args.self.now.sorts c.in-Some.ensures ∙ ap (λ (n : ℕ). slice_get (unwrap_or (sort_of j) []) n) first))

pub returns-in-Some-item : goal.returns-in-Some-item
returns-in-Some-item c = let j = view c.args.self.now.spelled.now in
    c.item_word.ensures ∙ (ap (λ (o : Option Json). option_and_then word_of o) c.in-Some-item.ensures ∙ item_word j c.args.index c.args.self.now.sorts c.in_default.ensures)

pub returns-in-None : goal.returns-in-None
returns-in-None c = let j = view c.args.self.now.spelled.now in
    ap (λ (o : Option Json). option_and_then word_of o) c.in-None.ensures ∙ item_word j c.args.index c.args.self.now.sorts c.in_default.ensures
