use Rattle.std.proofs.Common.{◌≡◌, ◌+◌, length, rules, arith}
use Rattle.std.proofs.lemmas.Grind.{common_steps}
use Rattle.gd_threads.specs.Served.{state_at}
use Rattle.gd_round_lines.specs.Replies.{reply_texts}
use Rattle.gd_outside.proofs.Fronts.{at_err}
use Rattle.gd_top.proofs.Answered.{answered, caches_kept}
use Rattle.gd_top.proofs.Served.{whole_front, held_on, front_held}
use Rattle.gd_top.proofs.rounds.answer_round.Goals as goal

pub returns-in_err-printed : goal.returns-in_err-printed
returns-in_err-printed g c =
    let may = g.C.Clock.may c.args.rounds.now.side.clock in
    let s = state_at c.args.rounds.now.side in
    let k = c.args.rounds.now.lines in
    let t = state_at c.answer_round-replies.new.self.side in
    let n = c.answer_round-replies.new.self.lines in
    let old = g.K.Sink.held c.args.sink.now in
    let mid = g.K.Sink.held c.print_replies-printed.new.sink in
    let new = g.K.Sink.held c.flush-sent.new.self in
    let before = g.D.Disk.faults c.args.rounds.now.side.log.disk in
    let after = g.D.Disk.faults c.answer_round-replies.new.self.side.log.disk in
    let had = c.args.rounds.now.keeping in
    let has = c.answer_round-replies.new.self.keeping in
    let answers = answered g.D.Disk.content g.D.Disk.moment g.D.Disk.images g.D.Disk.images_since g.D.Disk.faults g.C.Clock.may c.args.lines.now c.args.rounds.now c.answer_round-replies.new.self (reply_texts c.answer_round-replies.result) c.answer_round-replies.ensures in
    record {
      all = first_of (search rules, grind (arith, common_steps));
      front = λ texts kept. at_err c.from_residual.result (front_held may s k t texts old mid new before after had has
          (record { replies = reply_texts c.answer_round-replies.result; answered = answers texts kept; front = c.in_err-printed.ensures.front }) c.flush-sent.ensures.bytes);
      sent = first_of (search rules, grind (arith, common_steps));
      next = first_of (search rules, grind (arith, common_steps));
      caches = caches_kept c.args.lines.now c.args.rounds.now c.answer_round-replies.new.self (reply_texts c.answer_round-replies.result) c.requires.short c.answer_round-replies.ensures.counted;
      loaded = c.answer_round-replies.ensures.loaded;
      told = c.answer_round-replies.ensures.told;
      clock = c.answer_round-replies.ensures.clock;
      failed = first_of (search rules, grind (arith, common_steps));
      later = first_of (search rules, grind (arith, common_steps));
      disk_later = c.answer_round-replies.ensures.later;
    }

pub returns-in_err-sent : goal.returns-in_err-sent
returns-in_err-sent g c =
    let may = g.C.Clock.may c.args.rounds.now.side.clock in
    let s = state_at c.args.rounds.now.side in
    let k = c.args.rounds.now.lines in
    let t = state_at c.answer_round-replies.new.self.side in
    let n = c.answer_round-replies.new.self.lines in
    let next : n ≡ k + length (reply_texts c.answer_round-replies.result) = omega (arith, c.answer_round-replies.ensures.next, c.answer_round-replies.ensures.many) in
    let old = g.K.Sink.held c.args.sink.now in
    let mid = g.K.Sink.held c.print_replies-printed.new.sink in
    let new = g.K.Sink.held c.flush-sent.new.self in
    let before = g.D.Disk.faults c.args.rounds.now.side.log.disk in
    let after = g.D.Disk.faults c.answer_round-replies.new.self.side.log.disk in
    let had = c.args.rounds.now.keeping in
    let has = c.answer_round-replies.new.self.keeping in
    let answers = answered g.D.Disk.content g.D.Disk.moment g.D.Disk.images g.D.Disk.images_since g.D.Disk.faults g.C.Clock.may c.args.lines.now c.args.rounds.now c.answer_round-replies.new.self (reply_texts c.answer_round-replies.result) c.answer_round-replies.ensures in
    record {
      all = first_of (search rules, grind (arith, common_steps));
      front = λ texts kept. at_err c.from_residual-in_err-sent.result (whole_front may s k t n texts old new before after had has (held_on may s k t n texts old mid new before after had has
          (record { replies = reply_texts c.answer_round-replies.result; answered = answers texts kept; next = next; gained = c.in_ok-printed.ensures.all }) c.flush-sent.ensures.bytes));
      sent = first_of (search rules, grind (arith, common_steps));
      next = first_of (search rules, grind (arith, common_steps));
      caches = caches_kept c.args.lines.now c.args.rounds.now c.answer_round-replies.new.self (reply_texts c.answer_round-replies.result) c.requires.short c.answer_round-replies.ensures.counted;
      loaded = c.answer_round-replies.ensures.loaded;
      told = c.answer_round-replies.ensures.told;
      clock = c.answer_round-replies.ensures.clock;
      failed = first_of (search rules, grind (arith, common_steps));
      later = first_of (search rules, grind (arith, common_steps));
      disk_later = c.answer_round-replies.ensures.later;
    }

pub returns : goal.returns
returns g c =
    let may = g.C.Clock.may c.args.rounds.now.side.clock in
    let s = state_at c.args.rounds.now.side in
    let k = c.args.rounds.now.lines in
    let t = state_at c.answer_round-replies.new.self.side in
    let n = c.answer_round-replies.new.self.lines in
    let next : n ≡ k + length (reply_texts c.answer_round-replies.result) = omega (arith, c.answer_round-replies.ensures.next, c.answer_round-replies.ensures.many) in
    let old = g.K.Sink.held c.args.sink.now in
    let mid = g.K.Sink.held c.print_replies-printed.new.sink in
    let new = g.K.Sink.held c.flush-sent.new.self in
    let before = g.D.Disk.faults c.args.rounds.now.side.log.disk in
    let after = g.D.Disk.faults c.answer_round-replies.new.self.side.log.disk in
    let had = c.args.rounds.now.keeping in
    let has = c.answer_round-replies.new.self.keeping in
    let answers = answered g.D.Disk.content g.D.Disk.moment g.D.Disk.images g.D.Disk.images_since g.D.Disk.faults g.C.Clock.may c.args.lines.now c.args.rounds.now c.answer_round-replies.new.self (reply_texts c.answer_round-replies.result) c.answer_round-replies.ensures in
    record {
      all = λ texts kept. held_on may s k t n texts old mid new before after had has
          (record { replies = reply_texts c.answer_round-replies.result; answered = answers texts kept; next = next; gained = c.in_ok-printed.ensures.all }) c.flush-sent.ensures.bytes;
      front = first_of (search rules, grind (arith, common_steps));
      sent = first_of (search rules, grind (arith, common_steps));
      next = c.answer_round-replies.ensures.next;
      caches = caches_kept c.args.lines.now c.args.rounds.now c.answer_round-replies.new.self (reply_texts c.answer_round-replies.result) c.requires.short c.answer_round-replies.ensures.counted;
      loaded = c.answer_round-replies.ensures.loaded;
      told = c.answer_round-replies.ensures.told;
      clock = c.answer_round-replies.ensures.clock;
      failed = first_of (search rules, grind (arith, common_steps));
      later = first_of (search rules, grind (arith, common_steps));
      disk_later = c.answer_round-replies.ensures.later;
    }
