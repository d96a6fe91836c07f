use Rattle.std.proofs.Common.{◌+◌, ◌∙◌, ap, sym, map, drop, List, Ok, refl}
use Rattle.std.proofs.lemmas.Result.{err_from_is_err_and}
use Rattle.gd_grammar.specs.Chain.{◌>>=◌}
use Rattle.gd_defs.specs.Write as write
use Rattle.gd_defs.specs.Write.{Resolved}
use Rattle.gd_growing.specs.State.{so_far}
use Rattle.gd_intent.specs.Seen.{resolved_view}
use Rattle.gd_carry.specs.Outcome.{many_led, fault_of}
use Rattle.gd_carry.specs.declared.print.Printed.{Printed}
use Rattle.gd_carry.proofs.Walks.{no_item_led}
use Rattle.gd_carry.proofs.Whole.{changes_left, change_made, change_refused}
use Rattle.gd_carry.proofs.exec.carried_all.Goals as goal

pub loop-change-init : goal.loop-change-init
loop-change-init c =
    let whole = write.carried_all c.args.stamp.now (so_far c.args.growing.now) (map resolved_view c.args.changes.now) in
    record {
      whole = no_item_led whole ∙ ap (λ (ps : List Printed). whole >>= λ d. Ok (many_led ps d)) (sym c.new-parts.ensures.items);
      below = refl;
    }

pub loop-change-preserved : goal.loop-change-preserved
loop-change-preserved c =
    let s = c.args.stamp.now in
    let then = so_far c.loop-change.growing in
    let x = c.change-item.result in
    let i = c.loop-change.change-index in
    let rest = map resolved_view (drop (i + 1) c.args.changes.now) in
    let old = c.loop-change.parts.items in
    record {
      whole = c.loop-change.invariant.whole
          ∙ (ap (λ (rs : List Resolved). write.carried_all s then rs >>= λ d. Ok (many_led old d)) (changes_left c.args.changes.now i x c.loop-change-test.true c.change-item.is)
          ∙ change_made s then (so_far c.carried_root.new.growing) (resolved_view x) rest c.in_ok-fields.fields old c.push_printed.new.items.items c.in_ok-fields.ensures.root c.in_ok-push_printed.ensures);
      below = c.in_ok-fields.ensures.below ∙ c.loop-change.invariant.below;
    }

pub returns-in_err-fields-clause-all : goal.returns-in_err-fields-clause-all
returns-in_err-fields-clause-all c =
    let p = err_from_is_err_and c.from_residual.result c.from_residual.ensures.1 in
    let s = c.args.stamp.now in
    let then = so_far c.loop-change.growing in
    let x = c.change-item.result in
    let i = c.loop-change.change-index in
    let rest = map resolved_view (drop (i + 1) c.args.changes.now) in
    let old = c.loop-change.parts.items in
    rw (p.1, p.2) (λ known. c.loop-change.invariant.whole
    ∙ (ap (λ (rs : List Resolved). write.carried_all s then rs >>= λ d. Ok (many_led old d)) (changes_left c.args.changes.now i x c.loop-change-test.true c.change-item.is)
    ∙ change_refused s then (resolved_view x) rest old (fault_of c.in_err-fields.field-0.0) (c.in_err-fields.ensures.root known)))
