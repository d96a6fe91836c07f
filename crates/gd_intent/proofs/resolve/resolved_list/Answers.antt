use Rattle.std.proofs.Common.{◌∙◌, ◌∷◌, [], ◌+◌, ◌++◌, ap, map, drop, List, ℕ, Ok, decimal, arith}
use Rattle.gd_grammar.specs.Chain.{◌>>=◌}
use Rattle.gd_prim.specs.History.{prims_of}
use Rattle.gd_defs.specs.Change.{Change}
use Rattle.gd_defs.specs.Write.{numbered, resolved_all}
use Rattle.gd_mql.specs.Requests.{asked_change}
use Rattle.gd_intent.specs.Seen.{resolved_view}
use Rattle.gd_intent.proofs.Changes.{change_added, first_resolved, numbered_left}
use Rattle.gd_intent.proofs.resolve.resolved_list.Goals as goal

pub loop-number-preserved : goal.loop-number-preserved
loop-number-preserved g c =
    let prims = prims_of c.args.view.now in
    let n = c.loop-number.number in
    let r = c.index-requests-number.result in
    let old = c.loop-number.changes.items in
    let others = numbered (n + 1) (map asked_change (drop (n + 1) c.args.requests.now)) in
    record {
      whole = c.loop-number.invariant.whole
          ∙ (ap (λ (cs : List (List (List ℕ) × Change)). resolved_all prims cs >>= λ rs. Ok (map resolved_view old ++ rs)) (numbered_left c.args.requests.now n r c.loop-number-test.true c.index-requests-number.is)
          ∙ change_added (resolved_all prims ((decimal n ∷ [], asked_change r) ∷ others)) (resolved_all prims others) old c.push_change.new.changes.items c.in_ok-change.change
          (first_resolved prims (decimal n ∷ []) (asked_change r) others (resolved_view c.in_ok-change.change) c.in_ok-change.ensures.change) c.in_ok-push_change.ensures);
      later = omega arith;
    }
