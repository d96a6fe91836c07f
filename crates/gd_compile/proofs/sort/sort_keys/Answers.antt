use Rattle.std.specs.Prelude.{sum_by}
use Rattle.std.proofs.Common.{◌≡◌, ◌≤◌, ◌<◌, ◌+◌, drop, ◌∙◌, ap, sym, subst, map, length, Bor, List, ℕ, Option, Ok, Err, arith}
use Rattle.std.proofs.lemmas.List.{map_push}
use Rattle.std.proofs.lemmas.Option.{slice_get_within}
use Rattle.std.proofs.lemmas.Result.{err_from_is_err_and}
use Rattle.gd_prim.specs.History.{prims_of}
use Rattle.gd_defs.specs.Asked as defs
use Rattle.gd_mql.specs.Clauses.{sort_view}
use Rattle.gd_mql.specs.Directives.{sort_word_view}
use Rattle.gd_plan.specs.Seen.{sort_key_view}
use Rattle.gd_plan.specs.declared.asked.SortKey.{SortKey}
use Rattle.gd_compile.specs.Fault.{unknown_of}
use Rattle.gd_compile.proofs.SortWords.{key_taken, key_refused, keys_end, word_there}
use Rattle.gd_compile.specs.Looks.{sort_steps}
use Rattle.gd_compile.proofs.Looked.{sorts_next, items_ended}
use Rattle.gd_compile.proofs.sort.sort_keys.Goals as goal

pub returns-in_err-key-clause-keys : goal.returns-in_err-key-clause-keys
returns-in_err-key-clause-keys g c =
    let p = err_from_is_err_and c.from_residual.result c.from_residual.ensures.1 in
    let prims = prims_of c.args.view.now in
    let path = map (λ (n : Bor (List ℕ)). n.now) c.args.path.now in
    let ws = sort_view c.args.words.now in
    let w = sort_word_view c.in-Some.word in
    let e = unknown_of c.in_err-key.field-0.0 in
    rw (p.1, p.2) (λ known. key_refused prims c.args.context path ws c.loop-word.index w (map sort_key_view c.loop-word.keys.items) e (defs.sort_keys prims c.args.context path ws) c.loop-word.invariant.left c.in-Some.ensures
    (subst (λ (o : Option ℕ). defs.sort_key prims o path w ≡ Err e) c.same.ensures (c.in_err-key.ensures.key known)))

pub loop-word-smaller : goal.loop-word-smaller
loop-word-smaller g c =
    let within : c.loop-word.index < length (sort_view c.args.words.now) = slice_get_within (sort_view c.args.words.now) c.loop-word.index (sort_word_view c.in-Some.word) (sym c.in-Some.ensures) in
    omega arith

pub loop-word-preserved : goal.loop-word-preserved
loop-word-preserved g c =
    let prims = prims_of c.args.view.now in
    let path = map (λ (n : Bor (List ℕ)). n.now) c.args.path.now in
    let ws = sort_view c.args.words.now in
    let w = sort_word_view c.in-Some.word in
    let k = sort_key_view c.in_ok-key.key in
    let within : c.loop-word.index < length ws = slice_get_within ws c.loop-word.index w (sym c.in-Some.ensures) in
    record {
      left = key_taken prims c.args.context path ws c.loop-word.index w (map sort_key_view c.loop-word.keys.items) (map sort_key_view c.push_key.new.keys.items) k (defs.sort_keys prims c.args.context path ws)
          c.loop-word.invariant.left c.in-Some.ensures (subst (λ (o : Option ℕ). defs.sort_key prims o path w ≡ Ok k) c.same.ensures c.in_ok-key.ensures.key)
          (ap (λ (keys : List SortKey). map sort_key_view keys) c.in_ok-push_key.ensures ∙ map_push sort_key_view c.loop-word.keys.items c.in_ok-key.key);
      within = omega arith;
      looks = sorts_next (sort_steps prims c.args.context) (drop c.loop-word.index ws) (drop (c.loop-word.index + 1) ws) w c.loop-word.steps c.sort_key.new.steps (c.args.steps.now + sum_by (sort_steps prims c.args.context) ws)
          (word_there ws c.loop-word.index w c.in-Some.ensures) c.loop-word.invariant.looks (subst (λ (o : Option ℕ). c.sort_key.new.steps ≤ c.loop-word.steps + sort_steps prims o w) c.same.ensures c.sort_key.ensures.looks);
      later = omega arith;
    }

pub returns-clause-keys : goal.returns-clause-keys
returns-clause-keys g c =
    let prims = prims_of c.args.view.now in
    let path = map (λ (n : Bor (List ℕ)). n.now) c.args.path.now in
    let ws = sort_view c.args.words.now in
    keys_end prims c.args.context path ws c.loop-word.index (map sort_key_view c.loop-word.keys.items) (defs.sort_keys prims c.args.context path ws) c.loop-word.invariant.left c.in_default.ensures

pub returns-in_err-key-clause-looks : goal.returns-in_err-key-clause-looks
returns-in_err-key-clause-looks g c =
    let prims = prims_of c.args.view.now in
    let ws = sort_view c.args.words.now in
    let w = sort_word_view c.in-Some.word in
    items_ended _ _ _ (sorts_next (sort_steps prims c.args.context) (drop c.loop-word.index ws) (drop (c.loop-word.index + 1) ws) w c.loop-word.steps c.sort_key.new.steps (c.args.steps.now + sum_by (sort_steps prims c.args.context) ws)
    (word_there ws c.loop-word.index w c.in-Some.ensures) c.loop-word.invariant.looks (subst (λ (o : Option ℕ). c.sort_key.new.steps ≤ c.loop-word.steps + sort_steps prims o w) c.same.ensures c.sort_key.ensures.looks))

pub returns-in_err-push_key-clause-looks : goal.returns-in_err-push_key-clause-looks
returns-in_err-push_key-clause-looks g c =
    let prims = prims_of c.args.view.now in
    let ws = sort_view c.args.words.now in
    let w = sort_word_view c.in-Some.word in
    items_ended _ _ _ (sorts_next (sort_steps prims c.args.context) (drop c.loop-word.index ws) (drop (c.loop-word.index + 1) ws) w c.loop-word.steps c.sort_key.new.steps (c.args.steps.now + sum_by (sort_steps prims c.args.context) ws)
    (word_there ws c.loop-word.index w c.in-Some.ensures) c.loop-word.invariant.looks (subst (λ (o : Option ℕ). c.sort_key.new.steps ≤ c.loop-word.steps + sort_steps prims o w) c.same.ensures c.sort_key.ensures.looks))

pub returns-clause-looks : goal.returns-clause-looks
returns-clause-looks g c = items_ended _ _ _ c.loop-word.invariant.looks
