use Rattle.std.proofs.Common.{◌≡◌, true, subst, List}
use Rattle.gd_prim.specs.declared.Batch.{Batch}
use Rattle.gd_prim.specs.History.{is_history}
use Rattle.gd_store.proofs.Held.{history_held, history_timed}
use Rattle.gd_store.proofs.Stored.{history_of_batches}
use Rattle.gd_store.proofs.store.Store.primitives.Goals as goal

history : (c : goal.After-as_slice) → is_history c.args.self.now ≡ true
history c =
    let P : List Batch → Type 0 = λ bs. is_history bs ≡ true in
    subst P c.self.view_is (history_of_batches c.self.inside.prims c.self.inside.requests.items c.self.inside.text c.self.invariant)

pub returns-clause-held : goal.returns-clause-held
returns-clause-held c = history_held c.args.self.now (history c)

pub returns-clause-timed : goal.returns-clause-timed
returns-clause-timed c = history_timed c.args.self.now (history c)
