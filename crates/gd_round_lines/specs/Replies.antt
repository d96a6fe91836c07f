-- The replies to the lines of a round.
use Rattle.std.specs.Prelude.{ℕ, zero, suc, ◌+◌, ◌-◌, List, [], ◌∷◌, map}
use Rattle.gd_runs.specs.Explained.{memory_line}
use Rattle.gd_reply.specs.Replies.{reply_text}
use Rattle.gd_round_lines.specs.declared.replies.Replies.{Replies}
use Rattle.gd_round_lines.specs.declared.replies.Replies.TheVariants.{Made, NoMemory}

-- the replies of want of memory to so many lines, from one on
abbrev pub no_memory : ℕ → ℕ → List (List ℕ)
no_memory line zero = []
no_memory line (suc count) = memory_line line ∷ no_memory (line + 1) count

-- the bytes of the replies to the lines of a round
abbrev pub reply_texts : Replies → List (List ℕ)
reply_texts (Made replies) = map reply_text replies.items
reply_texts (NoMemory first end) = no_memory first (end - first)
