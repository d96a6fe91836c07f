-- What a node answers to a group, as a line.
use Rattle.std.proofs.Common.{◌≡◌, ◌∙◌, ◌⊎◌, inl, inr, refl, ℕ, ◌+◌, ◌-◌, List, [], ◌∷◌, length, codes, Result, Ok, Err, IfOk, IfErr, sym, ap, subst, arith, length-append, length-drop}
use Rattle.std.specs.Global.{Vec}
use Rattle.gd_base.specs.declared.memory.Memory.{Memory}
use Rattle.gd_prim.specs.declared.Batch.{Batch}
use Rattle.gd_tree.specs.Json.{text}
use Rattle.gd_defs.specs.Lines.{err_line, refusal, count_json}
use Rattle.gd_bytes.specs.Group.{IsBadGroupAt}
use Rattle.gd_core_laws.proofs.Quiet.{Quiet, ok_quiet, err_quiet, memory_quiet}
use Rattle.gd_replay_laws.specs.Faults.{IsCounted}
use Rattle.gd_replay_laws.proofs.Faults.{quiet_counted}
use Rattle.gd_reply.specs.Replies.{made_text}
use Rattle.gd_follow_laws.specs.Given as outcome
use Rattle.gd_follow_laws.specs.Given.{Outcome, past, Comes}
use Rattle.gd_follow_laws.specs.World.{Node, Run, Settled, certain}
use Rattle.gd_follow.specs.declared.answer.Given.{Given}
use Rattle.gd_follow.specs.declared.answer.Given.TheVariants as given
use Rattle.gd_follow.specs.declared.answer.GiveFault.{GiveFault}
use Rattle.gd_follow.specs.declared.answer.GiveFault.TheVariants as fault
use Rattle.gd_follow.specs.Node.{Gave, HasReason}
use Rattle.gd_following.specs.Replies.{outcome_line, list_after, bad_group, GroupReply, LacksMemory, GiveReply}
use Rattle.gd_following.specs.Given.{GivenLine, MayBeLine}

-- ---- a group is answered

-- an outcome at the entries that there are then
at_entries : (list : List Batch) (run : Run) (after : Node) (o : Outcome) (k entries : ℕ) (reply : List ℕ) → after ≡ certain (list_after list run o) → entries ≡ length after.list → reply ≡ outcome_line k entries o
    → reply ≡ outcome_line k (length (list_after list run o)) o
at_entries list run after o k entries reply is many line = line ∙ ap (λ n. outcome_line k n o) (many ∙ ap (λ (n : Node). length n.list) is)

came : (node after : Node) (run : Run) (list : List Batch) (o : Outcome) (k entries : ℕ) (reply : List ℕ) → Settled node list → Comes list run.from run.group o → after ≡ certain (list_after list run o) → entries ≡ length after.list
    → reply ≡ outcome_line k entries o → GroupReply node run k reply after ⊎ LacksMemory node k reply after
came node after run list o k entries reply settled comes is many line = inl (inr (list, settled, inl (o, comes, is, at_entries list run after o k entries reply is many line)))

may_come : (node after : Node) (run : Run) (list : List Batch) (o : Outcome) (k entries : ℕ) (reply : List ℕ) → Settled node list → Comes list run.from run.group o → after ≡ certain (list_after list run o) → after ≡ certain list → entries ≡ length after.list
    → MayBeLine k (outcome_line k entries o) reply → GroupReply node run k reply after ⊎ LacksMemory node k reply after
may_come node after run list o k entries reply settled comes is same many (inl line) = came node after run list o k entries reply settled comes is many line
may_come node after run list o k entries reply settled comes is same many (inr none) = inr (none, inr (list, settled, same))

pub group_reply : (node after : Node) (run : Run) (k entries : ℕ) (result : Result Given GiveFault) (reply : List ℕ) → Gave node run result after → entries ≡ length after.list → GivenLine entries k result reply
    → GroupReply node run k reply after ⊎ LacksMemory node k reply after
group_reply node after run k entries (Ok given.Taken) reply (list, settled, (comes, is)) many line = came node after run list outcome.taken k entries reply settled comes is many line
group_reply node after run k entries (Ok given.Known) reply (list, settled, (comes, is)) many line = may_come node after run list outcome.known k entries reply settled comes is is many line
group_reply node after run k entries (Ok given.Gap) reply (list, settled, (comes, is)) many line = may_come node after run list outcome.gap k entries reply settled comes is is many line
group_reply node after run k entries (Err (fault.Fork at)) reply (list, settled, (comes, is)) many line = may_come node after run list (outcome.fork at) k entries reply settled comes is is many line
group_reply node after run k entries (Err (fault.Unfit entry)) reply (list, settled, (comes, is)) many line = may_come node after run list (outcome.unfit entry) k entries reply settled comes is is many line
group_reply node after run k entries (Err fault.DiskMaybe) reply (list, settled, (comes, is)) many line = inl (inr (list, settled, inr (comes, is, line)))
group_reply node after run k entries (Err fault.DiskNo) reply (some, same) many line = inl (inl (some, same, line))
group_reply node after run k entries (Err fault.Memory) reply lacks many line = inr (line, lacks)

-- ---- what was taken

-- behind a group that was taken there are as many entries as it ends at
pub taken_long : (node after : Node) (run : Run) (result : Result Given GiveFault) → result ≡ Ok given.Taken → Gave node run result after → length after.list ≡ run.from + length run.group
taken_long node after run result is gave = by (subst (λ r. Gave node run r after) is gave)
  where
    by : Gave node run (Ok given.Taken) after → length after.list ≡ run.from + length run.group
    by (list, settled, ((begins, agrees, some, follow), is)) =
        let here = ap (λ (n : Node). length n.list) is in
        let sum = length-append list (past list run.from run.group) in
        let rest = length-drop (length list - run.from) run.group in
        omega (arith, here, sum, rest, begins, some)

-- ---- failures of the disk

quiet_may : (k : ℕ) (line reply : List ℕ) (before now : ℕ) → Quiet k line → MayBeLine k line reply → IsCounted k reply before now
quiet_may k line reply before now quiet (inl is) = quiet_counted k reply before now (subst (Quiet k) (sym is) quiet)
quiet_may k line reply before now quiet (inr none) = quiet_counted k reply before now (subst (Quiet k) (sym none) (memory_quiet k k))

pub given_counted : (k entries : ℕ) (result : Result Given GiveFault) (reply : List ℕ) (before now : ℕ) → GivenLine entries k result reply → IfErr result (HasReason before now) → IsCounted k reply before now
given_counted k entries (Ok given.Taken) reply before now line cause = quiet_counted k reply before now (subst (Quiet k) (sym line) (ok_quiet k entries k (text (codes "taken"))))
given_counted k entries (Ok given.Known) reply before now line cause = quiet_may k _ reply before now (ok_quiet k entries k (text (codes "known"))) line
given_counted k entries (Ok given.Gap) reply before now line cause = quiet_may k _ reply before now (ok_quiet k entries k (text (codes "gap"))) line
given_counted k entries (Err (fault.Fork at)) reply before now line cause = quiet_may k _ reply before now (err_quiet k entries k (refusal (codes "Fork") ((codes "at", count_json at) ∷ []))) line
given_counted k entries (Err (fault.Unfit entry)) reply before now line cause = quiet_may k _ reply before now (err_quiet k entries k (refusal (codes "Unfit") ((codes "entry", count_json entry) ∷ []))) line
given_counted k entries (Err fault.DiskMaybe) reply before now line cause = λ _. cause
given_counted k entries (Err fault.DiskNo) reply before now line cause = λ _. cause
given_counted k entries (Err fault.Memory) reply before now line cause = quiet_counted k reply before now (subst (Quiet k) (sym line) (memory_quiet k k))

-- ---- bytes that are no group

pub bad_given : (node : Node) (k from : ℕ) (bytes : List ℕ) (offset entries : ℕ) (made : Result (Vec ℕ) Memory) → IsBadGroupAt bytes offset → entries ≡ length node.list
    → IfOk made (λ v. v.items ≡ err_line entries k (bad_group offset)) → GiveReply node k from bytes (made_text k made) node
bad_given node k from bytes offset entries (Ok v) bad many is = inl (offset, bad, is ∙ ap (λ n. err_line n k (bad_group offset)) many, refl)
bad_given node k from bytes offset entries (Err e) bad many is = inr (inr (refl, inl refl))
