-- What an event comes to, with its reply or without memory for it.
use Rattle.std.proofs.Common.{◌≡◌, ℕ, List, Bool, false, Result, Ok, Err, IfOk, OnErr, sym, subst}
use Rattle.std.specs.Global.{Vec}
use Rattle.gd_base.specs.declared.memory.Memory.{Memory}
use Rattle.gd_runs.specs.Explained.{memory_line}
use Rattle.gd_runs.specs.Core.{Event, State}
use Rattle.gd_held.specs.PassedOn.{one_member}
use Rattle.gd_replay_laws.specs.Steps.{Takes}
use Rattle.gd_replay_laws.specs.Faults.{IsCounted, IsNoWrite}
use Rattle.gd_replay_laws.proofs.Faults.{takes_quiet, quiet_counted}
use Rattle.gd_reply.specs.Replies.{reply_text, made_text}
use Rattle.gd_reply.specs.declared.reply.Reply.{Reply}
use Rattle.gd_sessions.specs.Running.{Answers}

-- the reply of a call, or want of memory for it
pub made_takes : (R P : List ℕ → Type 0) (E : Type 0) (k : ℕ) (made : Result (Vec ℕ) Memory) (reply : List ℕ) → ((line : List ℕ) → R line → P line) → (E → P (memory_line k)) → reply ≡ made_text k made → IfOk made (λ bytes. R bytes.items) → OnErr made E → P reply
made_takes R P E k (Ok bytes) reply more none is told lacks = subst P (sym is) (more bytes.items told)
made_takes R P E k (Err e) reply more none is told lacks = subst P (sym is) (none lacks)

-- where nothing is said of want of memory
pub made_refuses : (R P : List ℕ → Type 0) (k : ℕ) (made : Result (Vec ℕ) Memory) (reply : List ℕ) → ((line : List ℕ) → R line → P line) → P (memory_line k) → reply ≡ made_text k made → IfOk made (λ bytes. R bytes.items) → P reply
made_refuses R P k (Ok bytes) reply more none is told = subst P (sym is) (more bytes.items told)
made_refuses R P k (Err e) reply more none is told = subst P (sym is) none

-- where something is given
pub made_paced : (G : Type 0) (P : List ℕ → Type 0) (k : ℕ) (made : Result (Vec ℕ) Memory) (reply : List ℕ) → P (memory_line k) → reply ≡ made_text k made → IfOk made (λ bytes. G → P bytes.items) → G → P reply
made_paced G P k (Ok bytes) reply none is told = λ given. subst P (sym is) (told given)
made_paced G P k (Err e) reply none is told = λ given. subst P (sym is) none

-- ---- answers

pub answers_more : (P Q : List ℕ → Type 0) (result : Result Reply Memory) → ((line : List ℕ) → P line → Q line) → Answers P result → Answers Q result
answers_more P Q (Ok reply) more given = more (reply_text reply) given
answers_more P Q (Err e) more (line, given) = (line, more line given)

-- the reply to an event that is no write tells no failure of the disk
pub takes_counted : (may : ℕ → Bool) (s : State) (k bytes : ℕ) (e : Event) (t : State) (before after : ℕ) (reply : List ℕ) → IsNoWrite e → ((told : Bool) → Takes told one_member may s k bytes e reply t) → IsCounted k reply before after
takes_counted may s k bytes e t before after reply other takes =
    quiet_counted k reply before after (takes_quiet k false one_member may s bytes e reply t other (takes false))
