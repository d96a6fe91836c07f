use Rattle.std.proofs.Common.{ap, ◌∙◌, map, ◌++◌, ◌∷◌, []}
use Rattle.gd_tree.specs.Json.{text}
use Rattle.gd_json.specs.View.{member_view}
use Rattle.gd_reply.proofs.refusal.push_guid.Goals as goal

pub returns : goal.returns
returns c = c.in_ok-push_text.ensures ∙ ap (λ t. map member_view c.args.members.now.items ++ (c.args.name.now, text t) ∷ []) (c.as_str.ensures ∙ c.in_ok-text.ensures)
