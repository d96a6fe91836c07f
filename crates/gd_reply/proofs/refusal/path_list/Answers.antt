use Rattle.std.proofs.Common.{ap, ◌∙◌, map}
use Rattle.gd_tree.specs.Json.{list, text}
use Rattle.gd_json.specs.View.{items_of}
use Rattle.gd_reply.proofs.Texts.{items_of_texts}
use Rattle.gd_reply.proofs.refusal.path_list.Goals as goal

pub returns : goal.returns
returns c = c.list.ensures ∙ ap list (ap items_of (c.in_ok-names.ensures ∙ ap (map text) c.names.ensures) ∙ items_of_texts c.args.path.now)
