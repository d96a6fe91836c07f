use Rattle.std.proofs.Common.{◌≡◌, ◌++◌, ap, ◌∙◌}
use Rattle.json.specs.Print.{print}
use Rattle.gd_json.specs.View.{view}
use Rattle.gd_json.specs.Tokens.{tokens_of}
use Rattle.gd_json.proofs.Printing.{print-tokens_of}
use Rattle.gd_json.proofs.text.with_json.Goals as goal

pub returns : goal.returns
returns c =
    let ts = c.write.new.out.tokens in
    let before : c.write.new.out.before ≡ c.args.bytes.items = c.write.ensures.before ∙ c.new-out.ensures.before in
    let written : ts ≡ tokens_of (view c.args.value.now) = c.in_ok-write.ensures.ok ∙ ap (λ old. old ++ tokens_of (view c.args.value.now)) c.new-out.ensures.tokens in
    c.into_inner.ensures.items ∙ ap (λ b. b ++ print ts) before ∙ ap (λ text. c.args.bytes.items ++ text) (ap print written ∙ print-tokens_of (view c.args.value.now))
