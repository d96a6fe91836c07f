use Rattle.std.proofs.Common.{refl, sym, ◌∙◌}
use Rattle.gd_log.proofs.Replays.{mark_taken, payload_taken}
use Rattle.gd_log.proofs.replay.absorb_record.Goals as goal

pub returns-then-is_mark : goal.returns-then-is_mark
returns-then-is_mark c = mark_taken c.args.marked.now _ c.args.store.now c.args.bytes.now (sym c.is_mark.ensures ∙ c.if-is_mark.true) refl

pub returns : goal.returns
returns c = payload_taken c.args.marked.now _ c.in_ok-taken.taken c.args.store.now c.args.bytes.now c.absorb_bytes.new.store (sym c.is_mark.ensures ∙ c.if-is_mark.false) refl c.in_ok-taken.ensures
