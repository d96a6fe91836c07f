-- What a line of a node is answered, and that only a group that is given tells a failure of the disk.
use Rattle.std.proofs.Common.{◌≡◌, ◌∙◌, inl, inr, ⊎_elim, refl, ℕ, ◌<◌, List, length, codes, Bool, true, false, Option, Result, Ok, Err, IfOk, sym, ap, subst, arith, lt-ltb}
use Rattle.std.specs.Prelude.{if◌then◌else◌, ◌≢◌, IsErr}
use Rattle.std.specs.Global.{Vec}
use Rattle.gd_base.specs.declared.memory.Memory.{Memory}
use Rattle.gd_prim.specs.declared.Batch.{Batch}
use Rattle.gd_grammar.specs.Chain.{◌>>=◌, map_err}
use Rattle.gd_tree.specs.Json.{text}
use Rattle.gd_defs.specs.Lines.{err_line, cursor_ahead}
use Rattle.gd_fault.specs.declared.fault.LineFault.{LineFault}
use Rattle.gd_fault.specs.declared.fault.LineFault.TheVariants as fault
use Rattle.gd_mql.specs.Line.{fault_view}
use Rattle.gd_json.specs.Reading.{json_from}
use Rattle.gd_runs.specs.Request.{ReadSet, reply_of}
use Rattle.gd_runs.specs.Input.{input_fault_line, line_too_long, no_json, no_line}
use Rattle.gd_core_laws.proofs.Quiet.{Quiet, ok_quiet, err_quiet, fault_quiet, memory_quiet, read_quiet}
use Rattle.gd_replay_laws.specs.Faults.{IsCounted}
use Rattle.gd_replay_laws.proofs.Faults.{quiet_counted}
use Rattle.gd_reply.specs.Replies.{made_text}
use Rattle.gd_follow_laws.specs.World.{Node}
use Rattle.gd_follow.specs.declared.answer.AskFault.TheVariants as ask_fault
use Rattle.gd_follow.specs.Asks.{Asks, run_of}
use Rattle.gd_follow.specs.Node.{NodeValue, node_of}
use Rattle.gd_following.specs.Lines.{FollowLine, ask, read, max_line, follow_of, follow_from}
use Rattle.gd_following.specs.Replies.{AskReply, part_json, too_large}
use Rattle.gd_following.specs.Given.{MayBeLine, TellsAsk, TellsFault, MayAnswer, GoesOn, LineReply}

-- ---- an ask

pub ahead_told : (list : List Batch) (k from most entries asked have : ℕ) (made : Result (Vec ℕ) Memory) → Asks list from most (Err (ask_fault.CursorAhead asked have)) → entries ≡ length list
    → IfOk made (λ v. v.items ≡ err_line entries k (cursor_ahead asked entries)) → IfOk made (λ v. AskReply list k from most v.items)
ahead_told list k from most entries asked have (Err e) asks many is = tt
ahead_told list k from most entries asked have (Ok v) (ahead, number, there) many is = inl (ahead, is ∙ (λ i. err_line (many i) k (cursor_ahead (number i) (many i))))

ask_quiet : (list : List Batch) (k from most : ℕ) (reply : List ℕ) → AskReply list k from most reply → Quiet k reply
ask_quiet list k from most reply (inl (ahead, is)) = subst (Quiet k) (sym is) (err_quiet k (length list) k (cursor_ahead from (length list)))
ask_quiet list k from most reply (inr (inl (none, is))) = subst (Quiet k) (sym is) (ok_quiet k (length list) k (text (codes "nothing")))
ask_quiet list k from most reply (inr (inr (inl (bytes, large, is)))) = subst (Quiet k) (sym is) (err_quiet k (length list) k (too_large bytes from))
ask_quiet list k from most reply (inr (inr (inr (some, (count, more, longest, is))))) = subst (Quiet k) (sym is) (ok_quiet k (length list) k (part_json from (run_of list from count)))

pub ask_told : (list : List Batch) (k from most : ℕ) (made : Result (Vec ℕ) Memory) → IfOk made (λ v. AskReply list k from most v.items) → TellsAsk list k from most (made_text k made)
ask_told list k from most (Ok v) told = inl told
ask_told list k from most (Err e) told = inr refl

pub ask_counted : (list : List Batch) (k from most : ℕ) (reply : List ℕ) (before after : ℕ) → TellsAsk list k from most reply → IsCounted k reply before after
ask_counted list k from most reply before after (inl told) = quiet_counted k reply before after (ask_quiet list k from most reply told)
ask_counted list k from most reply before after (inr none) = quiet_counted k reply before after (subst (Quiet k) (sym none) (memory_quiet k k))

pub ask_may : (node : Node) (k from most : ℕ) (reply : List ℕ) → TellsAsk node.list k from most reply → MayAnswer node k (ask from most) reply node
ask_may node k from most reply (inl told) = inl (told, refl)
ask_may node k from most reply (inr none) = inr (none, refl)

-- ---- a line that was made

pub line_told : (k : ℕ) (line : List ℕ) (made : Result (Vec ℕ) Memory) → IfOk made (λ v. v.items ≡ line) → MayBeLine k line (made_text k made)
line_told k line (Ok v) is = inl is
line_told k line (Err e) is = inr refl

-- ---- a read

pub read_counted : (list : List Batch) (k : ℕ) (r : ReadSet) (reply : List ℕ) (before after : ℕ) → MayBeLine k (reply_of list (length list) k r) reply → IsCounted k reply before after
read_counted list k r reply before after (inl told) = quiet_counted k reply before after (subst (Quiet k) (sym told) (read_quiet k list (length list) k r))
read_counted list k r reply before after (inr none) = quiet_counted k reply before after (subst (Quiet k) (sym none) (memory_quiet k k))

pub read_may : (node : Node) (k session : ℕ) (r : ReadSet) (reply : List ℕ) → MayBeLine k (reply_of node.list (length node.list) k r) reply → MayAnswer node k (read session r) reply node
read_may node k session r reply (inl told) = inl (told, refl)
read_may node k session r reply (inr none) = inr (none, refl)

-- ---- what is no line

never : false ≡ true → ⊥
never is = cc

pub fault_told : (k : ℕ) (f : LineFault) (made : Result (Vec ℕ) Memory) → (f ≢ fault.Memory → IfOk made (λ v. v.items ≡ input_fault_line k (fault_view f))) → (f ≡ fault.Memory → IsErr made) → TellsFault k f (made_text k made)
fault_told k f (Ok v) told none = inl (some, told some)
  where
    some : f ≢ fault.Memory
    some lacks = never (none lacks)
fault_told k f (Err e) told none = inr refl

fault_counted : (k : ℕ) (f : LineFault) (reply : List ℕ) (before after : ℕ) → TellsFault k f reply → IsCounted k reply before after
fault_counted k f reply before after (inl (some, is)) = quiet_counted k reply before after (subst (Quiet k) (sym is) (fault_quiet k k (fault_view f)))
fault_counted k f reply before after (inr none) = quiet_counted k reply before after (subst (Quiet k) (sym none) (memory_quiet k k))

-- more bytes than a line has are none
long_is : (piece : List ℕ) → max_line < length piece → follow_from piece ≡ Err line_too_long
long_is piece long = ap (λ (b : Bool). if b then Err line_too_long else (map_err no_json (json_from piece) >>= λ j. map_err no_line (follow_of j))) (lt-ltb max_line (length piece) long)

-- ---- a node over a disk

module _ {D : Type 0} (content : D → Option (List ℕ)) (images : D → List ℕ → Type 0) (faults : D → ℕ) where
  pub stays : (node : NodeValue D) → GoesOn content images faults node node
  stays node = record { later = omega arith; told = refl; holds = λ h. h }

  -- a line that is answered
  pub asked_reply : (before after : NodeValue D) (k : ℕ) (bytes reply : List ℕ) (l : FollowLine) → follow_from bytes ≡ Ok l → MayAnswer (node_of before) k l reply (node_of after) → IsCounted k reply (faults before.log.disk) (faults after.log.disk)
      → GoesOn content images faults before after → LineReply content images faults before k bytes reply after
  asked_reply before after k bytes reply l asked may counted on = record {
    replies = ⊎_elim (λ told. inr (inl (l, asked, told))) (λ none. inr (inr none)) may;
    counted = counted;
    on = on;
  }

  -- bytes that are no line
  pub fault_reply : (node : NodeValue D) (k : ℕ) (bytes reply : List ℕ) (f : LineFault) → (f ≢ fault.Memory → follow_from bytes ≡ Err (fault_view f)) → TellsFault k f reply → LineReply content images faults node k bytes reply node
  fault_reply node k bytes reply f asked tells = record {
    replies = ⊎_elim (λ told. inl (fault_view f, asked told.0, told.1, refl)) (λ none. inr (inr (none, refl))) tells;
    counted = fault_counted k f reply (faults node.log.disk) (faults node.log.disk) tells;
    on = stays node;
  }

  -- too many bytes
  pub long_reply : (node : NodeValue D) (k : ℕ) (bytes reply : List ℕ) → max_line < length bytes → MayBeLine k (input_fault_line k line_too_long) reply → LineReply content images faults node k bytes reply node
  long_reply node k bytes reply long tells = record {
    replies = ⊎_elim (λ told. inl (line_too_long, long_is bytes long, told, refl)) (λ none. inr (inr (none, refl))) tells;
    counted = ⊎_elim
        (λ told. quiet_counted k reply (faults node.log.disk) (faults node.log.disk) (subst (Quiet k) (sym told) (fault_quiet k k line_too_long)))
        (λ none. quiet_counted k reply (faults node.log.disk) (faults node.log.disk) (subst (Quiet k) (sym none) (memory_quiet k k)))
        tells;
    on = stays node;
  }
