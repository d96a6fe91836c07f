use Rattle.std.proofs.Common.{ℕ, ◌+◌, length, take, sym, subst, arith, rules}
use Rattle.std.proofs.lemmas.List.{length_push}
use Rattle.std.proofs.lemmas.Iterator.Adapters.{YieldsList-from_vec}
use Rattle.std.proofs.lemmas.Iterator.Consumers.{YieldsList-turn, YieldsList-end}
use Rattle.gd_round_lines.specs.Works.{AreRead, AreWithin}
use Rattle.gd_round_lines.proofs.Read.{none_read, none_within, next_read, all_read}
use Rattle.gd_round_lines.proofs.Sets.{item_there}
use Rattle.gd_round_lines.proofs.work.read_lines.Goals as goal

pub loop-asked-init : goal.loop-asked-init
loop-asked-init g c =
    let works = c.in_ok-works.works in
    let none = c.in_ok-works.ensures in
    record {
      read = λ given kept. none_read c.args.first given works none.reads none.writes none.numbers none.replies;
      within = subst (λ (n : ℕ). AreWithin c.args.first n works) (omega arith) (none_within c.args.first works none.reads none.writes none.numbers none.replies);
    }

pub loop-asked-preserved : goal.loop-asked-preserved
loop-asked-preserved g c =
    let inv = c.loop-asked.invariant in
    let had = c.loop-asked.yielded in
    let asked = c.in-Some.asked in
    let new = c.push.new.self in
    let first = c.args.first in
    let items = c.in_ok-asked-items.asked-items.items in
    let all = c.in_ok-asked-items.ensures in
    let turn = YieldsList-turn (YieldsList-from_vec {s = c.into_iter-asked-iterator.result} items (search rules) (search rules)) had c.loop-asked.asked-iterator c.loop-asked.yielded_by c.next.result c.next.new.self asked c.in-Some.is c.next.ensures.steps in
    let of = all.each (length had) asked (item_there items (length had) asked turn.0 turn.1) in
    let long = length_push had asked in
    record {
      read = λ given kept. subst (λ (n : ℕ). AreRead first (take n given) new) (sym long)
          (next_read first c.args.lines.now items given (length had) asked c.loop-asked.works new all kept turn.0 turn.1 (inv.read given kept) c.in_ok-push.ensures.takes);
      within = subst (λ (n : ℕ). AreWithin first n new) (omega (arith, long))
          (c.in_ok-push.ensures.within first (first + length had) (omega arith) of.line inv.within);
    }

pub returns : goal.returns
returns g c =
    let inv = c.loop-asked.invariant in
    let had = c.loop-asked.yielded in
    let works = c.loop-asked.works in
    let first = c.args.first in
    let lines = c.args.lines.now in
    let items = c.in_ok-asked-items.asked-items.items in
    let count = c.in_ok-asked-items.ensures.count in
    let end = YieldsList-end (YieldsList-from_vec {s = c.into_iter-asked-iterator.result} items (search rules) (search rules)) had c.loop-asked.asked-iterator c.loop-asked.yielded_by c.next.result c.next.new.self c.in-None.is c.next.ensures.steps in
    let long = end.1 in
    record {
      read = λ given kept. all_read first lines given (length had) works kept (omega (arith, count, long)) (inv.read given kept);
      within = subst (λ (n : ℕ). AreWithin first n works) (omega (arith, count, long)) inv.within;
    }
