use Rattle.std.proofs.Common.{◌≡◌, ◌+◌, ◌-◌, ℕ, List, [], ◌∷◌, ◌++◌, Some, slice_get, length, map, replicate, reverse, sym, subst, ap, ◌∙◌, arith, length-append}
use Rattle.std.proofs.lemmas.List.{length-map, reverse-reverse}
use Rattle.gd_reply.specs.Replies.{reply_text}
use Rattle.gd_round_lines.specs.Works.{IsReadWithin}
use Rattle.gd_caller.proofs.Joins.{Joining, joining_none, joining_more, next_read, taken_worked, left_worked}
use Rattle.gd_caller.proofs.Counting.{Counting, counting_none, counting_more, is_reply_to}
use Rattle.gd_round_lines.proofs.Read.{all_at}
use Rattle.gd_round_lines.proofs.Sets.{replicate_all}
use Rattle.gd_caller.proofs.reads.answer_reads.Goals as goal

pub loop-read-init : goal.loop-read-init
loop-read-init g c =
    let s = c.args.standing.now in
    let reads = c.args.reads.items in
    record {
      done = [];
      all = sym (ap reverse c.reverse.ensures.items ∙ reverse-reverse reads);
      joining = λ outs are of. joining_none s.first c.args.begun reads s.writes.now s.store.now s.shown outs (map reply_text c.args.replies.now.items) (replicate 64 c.args.begun)
          (λ n f at. let is = replicate_all 64 n c.args.begun f at in omega (arith, is))
          (λ x q at. (all_at (IsReadWithin s.first (s.first + length c.args.replies.now.items)) reads x q c.requires.reads at).0);
      worked = λ j w at. at;
      counting = counting_none s.first (map reply_text c.args.replies.now.items) reads c.args.keeping.now;
      kept = c.requires.kept;
      floors = omega arith;
      count = omega arith;
    }

pub overflow_sub-place : goal.overflow_sub-place
overflow_sub-place g c =
    let s = c.args.standing.now in
    let inv = c.loop-read.invariant in
    let (at, rest) = next_read c.args.reads.items inv.done c.loop-read.reads.items c.pop.new.self.items c.in-Some.read inv.all c.in-Some.ensures.items in
    (all_at (IsReadWithin s.first (s.first + length c.args.replies.now.items)) c.args.reads.items (length inv.done) c.in-Some.read c.requires.reads at).0

pub answer_read-requires-clause-read : goal.answer_read-requires-clause-read
answer_read-requires-clause-read g c =
    let s = c.args.standing.now in
    let inv = c.loop-read.invariant in
    let (at, rest) = next_read c.args.reads.items inv.done c.loop-read.reads.items c.pop.new.self.items c.in-Some.read inv.all c.in-Some.ensures.items in
    subst (λ (n : ℕ). IsReadWithin s.first (s.first + n) c.in-Some.read) (sym inv.count)
    (all_at (IsReadWithin s.first (s.first + length c.args.replies.now.items)) c.args.reads.items (length inv.done) c.in-Some.read c.requires.reads at)

pub answer_read-requires-clause-worked : goal.answer_read-requires-clause-worked
answer_read-requires-clause-worked g c =
    let s = c.args.standing.now in
    let reads = c.args.reads.items in
    let r = c.in-Some.read in
    let place = r.line - s.first in
    let (at, rest) = next_read reads c.loop-read.invariant.done c.loop-read.reads.items c.pop.new.self.items r c.loop-read.invariant.all c.in-Some.ensures.items in
    is_reply_to s.first reads s.store.now s.shown (length c.loop-read.invariant.done) r c.take_kept-kept.result c.requires.shown c.requires.rise at
    (all_at (IsReadWithin s.first (s.first + length c.args.replies.now.items)) reads (length c.loop-read.invariant.done) r c.requires.reads at).0
    (taken_worked s.first reads s.store.now s.shown place c.loop-read.worked.items c.args.worked.items c.take_kept-kept.result c.requires.worked c.loop-read.invariant.worked c.take_kept-kept.ensures.taken)

pub loop-read-preserved : goal.loop-read-preserved
loop-read-preserved g c =
    let s = c.args.standing.now in
    let inv = c.loop-read.invariant in
    let reads = c.args.reads.items in
    let r = c.in-Some.read in
    let place = r.line - s.first in
    let (at, all) = next_read reads inv.done c.loop-read.reads.items c.pop.new.self.items r inv.all c.in-Some.ensures.items in
    let texts = map reply_text c.args.replies.now.items in
    let now = map reply_text c.loop-read.replies.items in
    let next = map reply_text c.answer_read.new.replies.items in
    let many = length-append inv.done (r ∷ []) in
    record {
      done = inv.done ++ r ∷ [];
      all = all;
      joining = λ outs are of. subst (λ (n : ℕ). Joining s.first c.args.begun reads s.writes.now s.store.now s.shown outs texts next c.answer_read.new.floors n) (omega (arith, many))
          (joining_more s.first c.args.begun reads s.writes.now s.store.now s.shown outs texts now next c.loop-read.floors c.answer_read.new.floors (length inv.done) r c.take_kept-kept.result c.requires.rise
          (λ x q there. (all_at (IsReadWithin s.first (s.first + length c.args.replies.now.items)) reads x q c.requires.reads there).0)
          c.requires.apart of at
          (taken_worked s.first reads s.store.now s.shown place c.loop-read.worked.items c.args.worked.items c.take_kept-kept.result c.requires.worked inv.worked c.take_kept-kept.ensures.taken)
          (inv.joining outs are of) (c.answer_read.ensures.answers outs are));
      worked = λ j w there. left_worked c.loop-read.worked.items c.args.worked.items place inv.worked j w (subst (λ (l : List _). slice_get l j ≡ Some (Some w)) c.take_kept-kept.ensures.left there);
      counting = subst (λ (n : ℕ). Counting s.first texts next reads n c.args.keeping.now c.answer_read.new.keeping) (sym many)
          (counting_more s.first texts now next reads (length inv.done) r c.args.keeping.now c.loop-read.keeping c.answer_read.new.keeping c.requires.rise
          (λ x q there. (all_at (IsReadWithin s.first (s.first + length c.args.replies.now.items)) reads x q c.requires.reads there).0)
          at
          (let within = all_at (IsReadWithin s.first (s.first + length c.args.replies.now.items)) reads (length inv.done) r c.requires.reads at in
          let low = within.0 in let high = within.1 in let count = inv.count in let long = length-map c.loop-read.replies.items reply_text in omega (arith, low, high, count, long))
          inv.counting c.answer_read.ensures.counted);
      kept = c.answer_read.ensures.kept;
      floors = c.answer_read.ensures.floors;
      count = c.answer_read.ensures.count ∙ inv.count;
    }
