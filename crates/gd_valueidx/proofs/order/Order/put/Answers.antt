use Rattle.std.proofs.Common.{◌∙◌, ap, List, ℕ}
use Rattle.std.specs.Prelude.{slice_set}
use Rattle.std.specs.List.{insert}
use Rattle.std.proofs.lemmas.Result.{on_ok_weaker}
use Rattle.gd_valueidx.specs.Runs.{flat}
use Rattle.gd_valueidx.proofs.Runs.{flat_insert, own_run}
use Rattle.gd_valueidx.proofs.order.Order.put.Goals as goal

pub returns-clause-ok : goal.returns-clause-ok
returns-clause-ok c =
    let runs = c.args.self.now.runs.items in
    on_ok_weaker c.insert.result (λ is.
    ap (λ (s : List ℕ). flat (slice_set runs c.args.place.run s))
    (is ∙ ap (λ (s : List ℕ). insert s c.args.place.index c.args.number) (own_run runs c.args.place.run c.index_mut.result.now c.requires.there c.index_mut.ensures.value))
    ∙ flat_insert runs c.args.place.run c.args.place.index c.args.number c.requires.there c.requires.place) c.insert.ensures.ok
