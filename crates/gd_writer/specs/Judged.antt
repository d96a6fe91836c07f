-- What a write comes to before anything is stored.
use Rattle.std.specs.Prelude.{◌≡◌, ◌+◌, ◌≤◌, ℕ, [], ◌∷◌, Ok, Err}
use Rattle.gd_json.specs.View.{view}
use Rattle.gd_defs.specs.Lines.{ok_line, err_line}
use Rattle.gd_defs.specs.Write.{WriteRequest}
use Rattle.gd_log.specs.Stored.{MayAppend}
use Rattle.gd_mql.specs.Requests.{write_view}
use Rattle.gd_runs.specs.Legal.{History, batches, size, exec_line, history_bytes, max_history}
use Rattle.gd_runs.specs.Request.{change_refusal}
use Rattle.gd_change.specs.Fault.{fault_of}
use Rattle.gd_writer.specs.declared.judge.Next.{Next}
use Rattle.gd_writer.specs.declared.judge.Verdict.{Verdict}
use Rattle.gd_writer.specs.declared.judge.Verdict.TheVariants as verdict

-- The write does this after the history at the moment, its entry is of this line, its batch may be appended, the history has room for its bytes, and this reply line says that it is stored.
pub record IsStorable (h : History) (line bytes : ℕ) (w : WriteRequest) (moment : ℕ) (n : Next) : Type 0 where
  pub does : exec_line h w moment bytes ≡ Ok (n.made.batch, view n.made.entry.answer.value)
  pub same : view n.answer.value ≡ view n.made.entry.answer.value
  pub line_is : n.made.entry.line ≡ line
  pub bytes_is : n.made.entry.bytes ≡ bytes
  pub moment_is : n.made.entry.moment ≡ moment
  pub request_is : write_view n.made.entry.request.value ≡ w
  pub may : MayAppend (batches h) (n.made.batch ∷ [])
  pub room : history_bytes h + n.made.kept ≤ max_history
  pub reply_is : n.reply.items ≡ ok_line (size h + 1) line (view n.answer.value)

-- what a write line of so many bytes comes to at a moment: why it is refused, and this reply line says so, or it may be stored
abbrev pub IsJudged : History → ℕ → ℕ → WriteRequest → ℕ → Verdict → Type 0
IsJudged h line bytes w moment (verdict.Refused f reply) = (exec_line h w moment bytes ≡ Err (fault_of f.value)) × (reply.items ≡ err_line (size h) line (change_refusal (fault_of f.value)))
IsJudged h line bytes w moment (verdict.Storable n) = IsStorable h line bytes w moment n
