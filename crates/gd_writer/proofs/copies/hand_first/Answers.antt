use Rattle.std.proofs.Common.{◌++◌, sym, subst}
use Rattle.gd_shared.specs.Shared.{MayFollow}
use Rattle.gd_writer.proofs.Waiting.{may_hand}
use Rattle.gd_writer.proofs.copies.hand_first.Goals as goal

pub append-requires : goal.append-requires
append-requires c =
    let p = c.args.publisher.now in
    record {
      follows = subst (MayFollow (p.shown ++ p.pending)) (sym c.in_ok-batch.ensures)
          (may_hand p.shown p.pending c.args.waiting.now.items c.first.result.now _ c.first.ensures c.requires.history);
    }
