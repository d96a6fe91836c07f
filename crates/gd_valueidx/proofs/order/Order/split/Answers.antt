use Rattle.std.proofs.Common.{◌≡◌, ◌∙◌, ◌+◌, ap, List, ℕ, [], suc, take, drop, arith}
use Rattle.std.specs.Prelude.{slice_set, slice_index_or}
use Rattle.std.specs.List.{insert}
use Rattle.gd_valueidx.proofs.Runs.{own_run}
use Rattle.gd_valueidx.proofs.order.Order.split.Goals as goal

pub returns-clause-ok : goal.returns-clause-ok
returns-clause-ok c =
    let runs = c.args.self.now.runs.items in
    let at = c.args.run in
    let same = c.in_ok-reserve.ensures.items in
    let next : at + 1 ≡ suc at = omega arith in
    let is : c.index_mut.result.now ≡ slice_index_or runs at [] = own_run runs at c.index_mut.result.now c.requires.there (c.index_mut.ensures.value ∙ ap (λ (rs : List (List ℕ)). slice_index_or rs at c.index_mut.result.now) same) in
    c.in-Ok.ensures.items
    ∙ ap (λ (rs : List (List ℕ)). insert (slice_set rs at c.split.new.self) (at + 1) c.in_ok-rest.rest) same
    ∙ ap (λ (s : List ℕ). insert (slice_set runs at s) (at + 1) c.in_ok-rest.rest) (c.in_ok-rest.ensures.kept ∙ ap (take 256) is)
    ∙ ap (λ k. insert (slice_set runs at (take 256 (slice_index_or runs at []))) k c.in_ok-rest.rest) next
    ∙ ap (λ (s : List ℕ). insert (slice_set runs at (take 256 (slice_index_or runs at []))) (suc at) s) (c.in_ok-rest.ensures.rest ∙ ap (drop 256) is)
