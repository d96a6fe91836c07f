use Rattle.std.proofs.Common.{◌-◌, ℕ, List, inl, map, subst, ap, ◌∙◌}
use Rattle.std.proofs.lemmas.List.{map-set}
use Rattle.gd_mql.specs.Requests.{read_set_view}
use Rattle.gd_reply.specs.declared.reply.Reply.TheVariants.{Line}
use Rattle.gd_reply.specs.Replies.{reply_text}
use Rattle.gd_lookup.specs.Keeping.{CountsReply}
use Rattle.gd_caller.proofs.reads.settle.Goals as goal

pub returns-clause-replies : goal.returns-clause-replies
returns-clause-replies c = ap (map reply_text) c.put.ensures ∙ map-set reply_text c.args.replies.now.items (c.args.read.line - c.args.first) (Line c.args.reply)

pub returns-clause-counted : goal.returns-clause-counted
returns-clause-counted c =
    let r = c.args.read in
    inl (
      c.args.reply.items,
      ap (map reply_text) c.put.ensures ∙ map-set reply_text c.args.replies.now.items (r.line - c.args.first) (Line c.args.reply),
      subst (λ (x : List ℕ). CountsReply c.args.keeping.now r.session r.key r.line x c.count.new.self) c.as_slice.ensures.value c.count.ensures.counts,
    )

pub returns-clause-right : goal.returns-clause-right
returns-clause-right c = λ batches at within few is right. c.count.ensures.right batches at (read_set_view c.args.read.request) within few (c.as_slice.ensures.value ∙ is) c.requires.read.3 right
