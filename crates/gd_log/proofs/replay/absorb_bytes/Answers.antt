use Rattle.std.proofs.Common.{refl, sym, ◌∙◌}
use Rattle.gd_bytes.specs.File.{has_lang}
use Rattle.gd_log.proofs.Replays.{group_taken, early_lang, no_group}
use Rattle.gd_log.proofs.replay.absorb_bytes.Goals as goal

pub returns-then-is_early : goal.returns-then-is_early
returns-then-is_early c =
    early_lang c.args.marked (has_lang c.in-Ok.group) c.args.store.now c.args.bytes.now c.in-Ok.group c.in-Ok.ensures.meant refl (sym c.is_early.ensures ∙ c.if-is_early.true)

pub returns-in_ok-taken-in-Ok : goal.returns-in_ok-taken-in-Ok
returns-in_ok-taken-in-Ok c =
    let ok = c.in_ok-taken-in-Ok in
    group_taken c.args.marked (has_lang c.in-Ok.group) c.args.store.now c.args.bytes.now c.in-Ok.group c.batches.result.now c.absorb_all.new.store ok.taken c.in-Ok.ensures.read c.in-Ok.ensures.meant (cc) refl (sym c.is_early.ensures ∙ c.if-is_early.false) ok.ensures.taken ok.ensures.more

pub returns-in-Err-BadBytes : goal.returns-in-Err-BadBytes
returns-in-Err-BadBytes c =
    let bad = c.in-Err-BadBytes in
    no_group c.args.marked c.args.store.now c.args.bytes.now bad.field-0 bad.field-0-0 bad.field-0-is bad.ensures.meant
