use Rattle.std.proofs.Common.{◌∙◌, ap, take}
use Rattle.std.specs.Prelude.{None}
use Rattle.std.specs.List.{last_or}
use Rattle.gd_prim.specs.Live.{places_where}
use Rattle.gd_store.specs.Keys.{is_key_link}
use Rattle.gd_store.proofs.Entered.{below_where}
use Rattle.gd_store.proofs.indexed.IndexedPrims.last_key_link.Goals as goal

pub returns-clause-last : goal.returns-clause-last
returns-clause-last g c =
    c.last_key_link.ensures.last
    ∙ ap (last_or None) (below_where (is_key_link c.args.namespace c.args.key.now) c.args.end c.self.inside.prims _ (c.self.invariant.indexed.keys.by_key c.args.namespace c.args.key.now))
    ∙ ap (λ prims. last_or None (places_where (is_key_link c.args.namespace c.args.key.now) (take c.args.end prims))) c.self.view_is
