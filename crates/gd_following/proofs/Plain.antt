-- Each reply of a node is one line.
use Rattle.std.proofs.Common.{◌≡◌, inl, inr, ℕ, List, [], ◌∷◌, length, codes, sym, subst}
use Rattle.gd_prim.specs.declared.Batch.{Batch}
use Rattle.gd_tree.specs.Json.{text}
use Rattle.gd_defs.specs.Lines.{refusal, count_json, cursor_ahead}
use Rattle.gd_core_laws.proofs.Shapes.{read_each}
use Rattle.gd_replay_laws.proofs.Plain.{Plain, plain_ok, plain_cursor, plain_err}
use Rattle.gd_replay_laws.proofs.Faults.{plain_fault, plain_memory, plain_disk}
use Rattle.gd_follow_laws.specs.Given as outcome
use Rattle.gd_follow_laws.specs.Given.{Outcome}
use Rattle.gd_follow_laws.specs.World.{Node, Run}
use Rattle.gd_follow.specs.Asks.{run_of}
use Rattle.gd_following.specs.Lines.{FollowLine, ask, give, read}
use Rattle.gd_following.specs.Replies.{AskReply, GiveReply, GroupReply, part_json, too_large, bad_group, outcome_line}
use Rattle.gd_following.specs.Follows.{Answers, FollowReply}

plain_by : (line reply : List ℕ) → reply ≡ line → Plain line → Plain reply
plain_by line reply is plain = subst Plain (sym is) plain

plain_ask : (list : List Batch) (k from most : ℕ) (reply : List ℕ) → AskReply list k from most reply → Plain reply
plain_ask list k from most reply (inl (ahead, is)) = plain_by _ reply is (plain_err (length list) k (cursor_ahead from (length list)))
plain_ask list k from most reply (inr (inl (none, is))) = plain_by _ reply is (plain_ok (length list) k (text (codes "nothing")))
plain_ask list k from most reply (inr (inr (inl (bytes, large, is)))) = plain_by _ reply is (plain_err (length list) k (too_large bytes from))
plain_ask list k from most reply (inr (inr (inr (some, (count, more, longest, is))))) = plain_by _ reply is (plain_ok (length list) k (part_json from (run_of list from count)))

plain_outcome : (k entries : ℕ) (o : Outcome) → Plain (outcome_line k entries o)
plain_outcome k entries outcome.gap = plain_ok entries k (text (codes "gap"))
plain_outcome k entries outcome.known = plain_ok entries k (text (codes "known"))
plain_outcome k entries outcome.taken = plain_ok entries k (text (codes "taken"))
plain_outcome k entries (outcome.fork at) = plain_err entries k (refusal (codes "Fork") ((codes "at", count_json at) ∷ []))
plain_outcome k entries (outcome.unfit entry) = plain_err entries k (refusal (codes "Unfit") ((codes "entry", count_json entry) ∷ []))

plain_group : (node : Node) (run : Run) (k : ℕ) (reply : List ℕ) (after : Node) → GroupReply node run k reply after → Plain reply
plain_group node run k reply after (inl (some, same, is)) = plain_by _ reply is (plain_disk k (codes "no"))
plain_group node run k reply after (inr (list, settled, inl (o, comes, same, is))) = plain_by _ reply is (plain_outcome k _ o)
plain_group node run k reply after (inr (list, settled, inr (comes, same, is))) = plain_by _ reply is (plain_disk k (codes "maybe"))

plain_give : (node : Node) (k from : ℕ) (bytes reply : List ℕ) (after : Node) → GiveReply node k from bytes reply after → Plain reply
plain_give node k from bytes reply after (inl (offset, bad, is, same)) = plain_by _ reply is (plain_err (length node.list) k (bad_group offset))
plain_give node k from bytes reply after (inr (inl (group, is, told))) = plain_group node (record { from = from; group = group }) k reply after told
plain_give node k from bytes reply after (inr (inr (is, same))) = plain_by _ reply is (plain_memory k)

plain_answer : (node : Node) (k : ℕ) (l : FollowLine) (reply : List ℕ) (after : Node) → Answers node k l reply after → Plain reply
plain_answer node k (ask from most) reply after (told, same) = plain_ask node.list k from most reply told
plain_answer node k (give from group) reply after told = plain_give node k from group reply after told
plain_answer node k (read session r) reply after (is, same) = plain_by _ reply is (read_each Plain plain_ok plain_cursor plain_err tt node.list (length node.list) k r)

pub plain_reply : (node : Node) (k : ℕ) (bytes reply : List ℕ) (after : Node) → FollowReply node k bytes reply after → Plain reply
plain_reply node k bytes reply after (inl (f, asked, is, same)) = plain_by _ reply is (plain_fault k f)
plain_reply node k bytes reply after (inr (inl (l, asked, told))) = plain_answer node k l reply after told
plain_reply node k bytes reply after (inr (inr (is, same))) = plain_by _ reply is (plain_memory k)
