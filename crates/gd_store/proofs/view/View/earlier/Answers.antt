use Rattle.std.proofs.Common.{◌≤◌, length, take, sym, ap, ◌∙◌, arith}
use Rattle.std.proofs.lemmas.List.{take-take, length-take-le}
use Rattle.gd_prim.specs.History.{is_history}
use Rattle.gd_store.proofs.Held.{history_front}
use Rattle.gd_store.proofs.view.View.earlier.Goals as goal

pub invariant_of-result : goal.invariant_of-result
invariant_of-result c =
    let count = length-take-le c.self.inside.dateline c.self.inside.store.now c.self.invariant.there in
    let less : c.args.dateline ≤ c.self.inside.dateline = omega (arith, c.requires, ap length c.self.view_is, count) in
    record {
      there = omega (arith, less, c.self.invariant.there);
      history = ap is_history (sym (take-take c.args.dateline c.self.inside.dateline c.self.inside.store.now less))
          ∙ history_front (take c.self.inside.dateline c.self.inside.store.now) c.args.dateline c.self.invariant.history;
    }
