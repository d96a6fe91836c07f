use Rattle.std.proofs.Common.{◌∙◌, ap, sym, drop, false}
use Rattle.std.specs.List.{filter}
use Rattle.std.specs.Map.{keys_of}
use Rattle.std.specs.Option.{option_copied}
use Rattle.gd_valueidx.specs.Runs.{flat, is_from, stands}
use Rattle.gd_valueidx.proofs.Ranked.{ordered_parted, split_drop, all_from}
use Rattle.gd_valueidx.proofs.between.place_from.Goals as goal

pub place-requires : goal.place-requires
place-requires c = ordered_parted (keys_of c.args.lists.now.entries) c.in-Some.least.now false (flat c.args.order.now.runs.items) c.requires

pub returns-in-Some-clause-rest : goal.returns-in-Some-clause-rest
returns-in-Some-clause-rest c =
    split_drop (stands (keys_of c.args.lists.now.entries) c.in-Some.least.now false) (flat c.args.order.now.runs.items) _ c.place.ensures.split
    ∙ ap (λ o. filter (is_from (keys_of c.args.lists.now.entries) (option_copied o)) (flat c.args.order.now.runs.items)) (sym c.in-Some.is)

pub returns-in-None-clause-rest : goal.returns-in-None-clause-rest
returns-in-None-clause-rest c =
    ap (λ k. drop k (flat c.args.order.now.runs.items)) c.start.ensures.rank
    ∙ sym (all_from (keys_of c.args.lists.now.entries) (flat c.args.order.now.runs.items))
    ∙ ap (λ o. filter (is_from (keys_of c.args.lists.now.entries) (option_copied o)) (flat c.args.order.now.runs.items)) (sym c.in-None.is)
