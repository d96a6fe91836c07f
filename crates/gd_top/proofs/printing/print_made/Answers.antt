use Rattle.std.proofs.Common.{◌≡◌, ◌+◌, ℕ, suc, map, take, subst, arith}
use Rattle.std.proofs.lemmas.List.{length-map}
use Rattle.std.proofs.KnownBytes.{Appends-nil}
use Rattle.std.specs.Io.KnownBytes.{Appends}
use Rattle.gd_reply.specs.Replies.{reply_text}
use Rattle.gd_threads.specs.PassedOn.{printed}
use Rattle.gd_outside.proofs.Fronts.{at_err}
use Rattle.gd_top.proofs.Printed.{reply_at, printed_more, printed_stops, printed_all}
use Rattle.gd_top.proofs.printing.print_made.Goals as goal

pub loop-reply-init : goal.loop-reply-init
loop-reply-init g c = record { gained = Appends-nil (g.K.Sink.held c.args.sink.now); later = omega arith }

pub returns-in_err-print_reply-clause-front : goal.returns-in_err-print_reply-clause-front
returns-in_err-print_reply-clause-front g c = at_err c.from_residual.result
    (printed_stops (g.K.Sink.held c.args.sink.now) (g.K.Sink.held c.loop-reply.sink) (g.K.Sink.held c.print_reply.new.sink) (map reply_text c.args.replies.now) c.loop-reply.reply-index (reply_text c.reply-item.result)
    (reply_at c.args.replies.now c.loop-reply.reply-index c.reply-item.result c.loop-reply-test.true c.reply-item.is) c.loop-reply.invariant.gained c.in_err-print_reply.ensures.front)

pub loop-reply-preserved : goal.loop-reply-preserved
loop-reply-preserved g c =
    let i = c.loop-reply.reply-index in
    let one : suc i ≡ i + 1 = omega arith in
    record {
      gained = subst (λ (n : ℕ). Appends (g.K.Sink.held c.args.sink.now) (g.K.Sink.held c.print_reply.new.sink) (printed (take n (map reply_text c.args.replies.now)))) one
          (printed_more (g.K.Sink.held c.args.sink.now) (g.K.Sink.held c.loop-reply.sink) (g.K.Sink.held c.print_reply.new.sink) (map reply_text c.args.replies.now) i (reply_text c.reply-item.result)
          (reply_at c.args.replies.now i c.reply-item.result c.loop-reply-test.true c.reply-item.is) c.loop-reply.invariant.gained c.in_ok-print_reply.ensures.all);
      later = omega (arith, c.loop-reply.invariant.later, c.print_reply.ensures.later);
    }

pub returns-clause-all : goal.returns-clause-all
returns-clause-all g c =
    let many = length-map c.args.replies.now reply_text in
    printed_all (g.K.Sink.held c.args.sink.now) (g.K.Sink.held c.loop-reply.sink) (map reply_text c.args.replies.now) c.loop-reply.reply-index (omega (arith, many, c.loop-reply-test.false)) c.loop-reply.invariant.gained
