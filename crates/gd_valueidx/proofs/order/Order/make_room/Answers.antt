use Rattle.std.proofs.Common.{◌≡◌, ◌∙◌, ◌+◌, ◌-◌, ap, sym, List, ℕ, [], length, take, drop, arith, suc}
use Rattle.std.specs.Prelude.{slice_index_or, slice_set}
use Rattle.std.specs.List.{insert}
use Rattle.std.proofs.lemmas.List.{take-append-drop}
use Rattle.gd_valueidx.specs.Runs.{flat, rank}
use Rattle.gd_valueidx.proofs.Runs.{flat_split, rank_kept, rank_moved, split_count, split_first, split_second, first_half, second_half, own_run}
use Rattle.gd_valueidx.proofs.order.Order.make_room.Goals as goal

pub returns-then-place-clause-same : goal.returns-then-place-clause-same
returns-then-place-clause-same c =
    let runs = c.args.self.now.runs.items in
    let r = slice_index_or runs c.args.place.run [] in
    ap flat c.in_ok-split.ensures.ok ∙ flat_split runs c.args.place.run (take 256 r) (drop 256 r) c.requires.there (sym (take-append-drop 256 r))

pub returns-then-place-clause-rank : goal.returns-then-place-clause-rank
returns-then-place-clause-rank c =
    let runs = c.args.self.now.runs.items in
    let r = slice_index_or runs c.args.place.run [] in
    ap (λ (rs : List (List ℕ)). rank rs c.args.place.run c.args.place.index) c.in_ok-split.ensures.ok ∙ rank_kept runs c.args.place.run c.args.place.index (take 256 r) (drop 256 r) c.requires.there

pub returns-then-place-clause-there : goal.returns-then-place-clause-there
returns-then-place-clause-there c =
    let runs = c.args.self.now.runs.items in
    let r = slice_index_or runs c.args.place.run [] in
    let long = ap length c.in_ok-split.ensures.ok ∙ split_count runs c.args.place.run (take 256 r) (drop 256 r) c.requires.there in
    omega (arith, long, c.requires.there)

pub returns-then-place-clause-place : goal.returns-then-place-clause-place
returns-then-place-clause-place c =
    let runs = c.args.self.now.runs.items in
    let r = slice_index_or runs c.args.place.run [] in
    let own = own_run runs c.args.place.run c.index.result.now c.requires.there c.index.ensures in
    let all : length r ≡ 512 = let same = ap length own in omega (arith, same, c.len.ensures.len, c.len.ensures.few, c.if-len-lt-RUN_LIMIT.false) in
    let half = ap (λ (rs : List (List ℕ)). length (slice_index_or rs c.args.place.run [])) c.in_ok-split.ensures.ok ∙ ap length (split_first runs c.args.place.run (take 256 r) (drop 256 r) c.requires.there) ∙ first_half r all in
    omega (arith, half, c.if-place.true)

pub returns-then-place-clause-room : goal.returns-then-place-clause-room
returns-then-place-clause-room c =
    let runs = c.args.self.now.runs.items in
    let r = slice_index_or runs c.args.place.run [] in
    let own = own_run runs c.args.place.run c.index.result.now c.requires.there c.index.ensures in
    let all : length r ≡ 512 = let same = ap length own in omega (arith, same, c.len.ensures.len, c.len.ensures.few, c.if-len-lt-RUN_LIMIT.false) in
    let half = ap (λ (rs : List (List ℕ)). length (slice_index_or rs c.args.place.run [])) c.in_ok-split.ensures.ok ∙ ap length (split_first runs c.args.place.run (take 256 r) (drop 256 r) c.requires.there) ∙ first_half r all in
    omega (arith, half)

pub returns-clause-same : goal.returns-clause-same
returns-clause-same c =
    let runs = c.args.self.now.runs.items in
    let r = slice_index_or runs c.args.place.run [] in
    ap flat c.in_ok-split.ensures.ok ∙ flat_split runs c.args.place.run (take 256 r) (drop 256 r) c.requires.there (sym (take-append-drop 256 r))

pub returns-clause-rank : goal.returns-clause-rank
returns-clause-rank c =
    let runs = c.args.self.now.runs.items in
    let r = slice_index_or runs c.args.place.run [] in
    let own = own_run runs c.args.place.run c.index.result.now c.requires.there c.index.ensures in
    let all : length r ≡ 512 = let same = ap length own in omega (arith, same, c.len.ensures.len, c.len.ensures.few, c.if-len-lt-RUN_LIMIT.false) in
    let half = first_half r all in
    let next : c.args.place.run + 1 ≡ suc c.args.place.run = omega arith in
    ap (λ (rs : List (List ℕ)). rank rs (c.args.place.run + 1) (c.args.place.index - 256)) c.in_ok-split.ensures.ok
    ∙ ap (λ k. rank (insert (slice_set runs c.args.place.run (take 256 r)) (suc c.args.place.run) (drop 256 r)) k (c.args.place.index - 256)) next
    ∙ rank_moved runs c.args.place.run c.args.place.index (c.args.place.index - 256) (take 256 r) (drop 256 r) c.requires.there (omega (arith, half, c.if-place.false))

pub returns-clause-there : goal.returns-clause-there
returns-clause-there c =
    let runs = c.args.self.now.runs.items in
    let r = slice_index_or runs c.args.place.run [] in
    let long = ap length c.in_ok-split.ensures.ok ∙ split_count runs c.args.place.run (take 256 r) (drop 256 r) c.requires.there in
    omega (arith, long, c.requires.there)

pub returns-clause-place : goal.returns-clause-place
returns-clause-place c =
    let runs = c.args.self.now.runs.items in
    let r = slice_index_or runs c.args.place.run [] in
    let own = own_run runs c.args.place.run c.index.result.now c.requires.there c.index.ensures in
    let all : length r ≡ 512 = let same = ap length own in omega (arith, same, c.len.ensures.len, c.len.ensures.few, c.if-len-lt-RUN_LIMIT.false) in
    let next : c.args.place.run + 1 ≡ suc c.args.place.run = omega arith in
    let half = ap (λ (rs : List (List ℕ)). length (slice_index_or rs (c.args.place.run + 1) [])) c.in_ok-split.ensures.ok
    ∙ ap (λ k. length (slice_index_or (insert (slice_set runs c.args.place.run (take 256 r)) (suc c.args.place.run) (drop 256 r)) k [])) next
    ∙ ap length (split_second runs c.args.place.run (take 256 r) (drop 256 r) c.requires.there) ∙ second_half r all in
    omega (arith, half, all, c.requires.place.1)

pub returns-clause-room : goal.returns-clause-room
returns-clause-room c =
    let runs = c.args.self.now.runs.items in
    let r = slice_index_or runs c.args.place.run [] in
    let own = own_run runs c.args.place.run c.index.result.now c.requires.there c.index.ensures in
    let all : length r ≡ 512 = let same = ap length own in omega (arith, same, c.len.ensures.len, c.len.ensures.few, c.if-len-lt-RUN_LIMIT.false) in
    let next : c.args.place.run + 1 ≡ suc c.args.place.run = omega arith in
    let half = ap (λ (rs : List (List ℕ)). length (slice_index_or rs (c.args.place.run + 1) [])) c.in_ok-split.ensures.ok
    ∙ ap (λ k. length (slice_index_or (insert (slice_set runs c.args.place.run (take 256 r)) (suc c.args.place.run) (drop 256 r)) k [])) next
    ∙ ap length (split_second runs c.args.place.run (take 256 r) (drop 256 r) c.requires.there) ∙ second_half r all in
    omega (arith, half)
