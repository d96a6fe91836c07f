-- The bytes of answers.
use Rattle.std.specs.Prelude.{ℕ, List}
use Rattle.gd_reply.specs.Replies.{failure_line}
use Rattle.gd_answering.specs.declared.answer.Answer.{Answer}
use Rattle.gd_answering.specs.declared.answer.Answer.TheVariants.{Made, Fixed, Failed}

-- the bytes of what a line is answered
abbrev pub answer_text : Answer → List ℕ
answer_text (Made bytes) = bytes.items
answer_text (Fixed line) = line.now
answer_text (Failed failure k) = failure_line failure k
