use Rattle.std.proofs.Common.{ap, sym, ◌∙◌, Bool}
use Rattle.std.proofs.lemmas.Result.{on_ok_weaker}
use Rattle.std.specs.Option.{option_copied}
use Rattle.gd_keys.specs.Keys.{key_list, with_entry}
use Rattle.gd_keys.proofs.Entries.{is_under-none}
use Rattle.gd_keys.proofs.keys.Keys.add.Goals as goal

pub add_with_key-requires-clause-above_keys : goal.add_with_key-requires-clause-above_keys
add_with_key-requires-clause-above_keys c = λ n is. c.requires.above_keys n is c.in-Some.key.now (ap option_copied c.in-Some.is)

pub returns-in-None-clause-by_key : goal.returns-in-None-clause-by_key
returns-in-None-clause-by_key c =
    on_ok_weaker c.add_to_object.result
    (λ _ n k. c.add_to_object.ensures.by_key n k
    ∙ sym (ap (λ (test : Bool). with_entry test c.args.id (key_list c.args.self.now n k).ids) (is_under-none c.args.namespace (option_copied c.args.key) (ap option_copied c.in-None.is) n k)))
    c.add_to_object.ensures.by_object
