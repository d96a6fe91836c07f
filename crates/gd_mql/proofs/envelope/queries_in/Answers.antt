use Rattle.gd_json.specs.View.{view}
use Rattle.gd_mql.proofs.Envelopes.{items_below}
use Rattle.gd_mql.proofs.envelope.queries_in.Goals as goal

pub returns-in_ok-take-clause-shallow : goal.returns-in_ok-take-clause-shallow
returns-in_ok-take-clause-shallow c = items_below (view c.args.envelope) (view c.in_ok-take.field-0) c.few_items.result c.requires c.in_ok-take.ensures c.few_items.ensures.items
