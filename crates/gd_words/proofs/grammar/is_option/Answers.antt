use Rattle.std.proofs.Common.{rules, ◌≡◌, ◌∙◌, sym, map, true, false}
use Rattle.gd_words.specs.Options.{is_name}
use Rattle.gd_words.proofs.Counted.{named_is}
use Rattle.gd_words.proofs.grammar.is_option.Goals as goal

pub returns-then-is_name : goal.returns-then-is_name
returns-then-is_name c =
    let known : is_name (map (λ n. n.now) c.args.names.now) c.args.name.now ≡ true =
    sym (named_is (λ n. n.now) c.args.name.now c.args.names.now) ∙ sym c.is_name.ensures ∙ c.if-is_name.true in
    rw known (search rules)

pub returns-else-is_name : goal.returns-else-is_name
returns-else-is_name c =
    let unknown : is_name (map (λ n. n.now) c.args.names.now) c.args.name.now ≡ false =
    sym (named_is (λ n. n.now) c.args.name.now c.args.names.now) ∙ sym c.is_name.ensures ∙ c.if-is_name.false in
    rw unknown (search rules)
