use Rattle.std.proofs.Common.{◌+◌, ◌≤◌, ℕ, Ok, refl, sym, ap, ◌∙◌, arith}
use Rattle.gd_json.specs.View.{view}
use Rattle.gd_defs.specs.Lines.{ok_line}
use Rattle.gd_runs.specs.Legal.{size, history_bytes, kept_bytes, max_history}
use Rattle.gd_mql.specs.Requests.{write_view}
use Rattle.gd_writer.proofs.Judged.{full_line, done_line}
use Rattle.gd_writer.proofs.judge.judge_done.Goals as goal

pub refused-requires-clause-does : goal.refused-requires-clause-does
refused-requires-clause-does g c =
    let h = c.args.ledger.now.history in
    full_line h (write_view c.args.asked.request.now) c.args.moment c.args.asked.bytes c.args.batch (view c.args.answer) c.count_with-count.result c.requires.does
    (c.count_with-count.ensures.count ∙ ap (λ (n : ℕ). history_bytes h + n) (c.in_ok-kept.ensures.sum ∙ ap (λ (n : ℕ). c.args.asked.bytes + n) c.in_ok-reply.ensures.outcome)) c.if-count-gt-HISTORY_LIMIT.true

pub returns : goal.returns
returns g c =
    let h = c.args.ledger.now.history in
    let j = view c.args.answer in
    let counted = c.count_with-count.ensures.count in
    let sum = c.in_ok-kept.ensures.sum in
    let outcome = c.in_ok-reply.ensures.outcome in
    let room : history_bytes h + kept_bytes c.args.asked.bytes j ≤ max_history = omega (arith, counted, sum, outcome, c.if-count-gt-HISTORY_LIMIT.false) in
    record {
      does = done_line h (write_view c.args.asked.request.now) c.args.moment c.args.asked.bytes c.args.batch j c.requires.does room ∙ ap (λ x. Ok (c.args.batch, view x)) (sym c.of-stored.ensures);
      same = ap view (c.of-told.ensures ∙ sym c.of-stored.ensures);
      line_is = refl;
      bytes_is = refl;
      moment_is = refl;
      request_is = ap write_view c.of-request.ensures;
      may = c.requires.may;
      room = omega (arith, counted, c.if-count-gt-HISTORY_LIMIT.false);
      reply_is = c.in_ok-reply.ensures.line ∙ ap (λ (n : ℕ). ok_line (n + 1) c.args.asked.line j) c.requests.ensures.count ∙ ap (λ x. ok_line (size h + 1) c.args.asked.line (view x)) (sym c.of-told.ensures);
    }
