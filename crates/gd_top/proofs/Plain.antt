-- A reply is one line: no byte of it is a control character.
use Rattle.std.proofs.Common.{◌≡◌, ℕ, ◌+◌, List, [], ◌∷◌, codes, sym, subst}
use Rattle.gd_defs.specs.Lines.{refusal, count_json}
use Rattle.gd_runs.specs.Request.{change_refusal}
use Rattle.gd_runs.specs.Legal.{History, batches}
use Rattle.gd_runs.specs.Explained.{Outcome, no_request, no_memory, stored, refused, late, in_doubt, not_tried, answered, Prints}
use Rattle.gd_core_laws.proofs.Shapes.{read_each}
use Rattle.gd_replay_laws.proofs.Plain.{plain_ok, plain_cursor, plain_err, plain_refusal}
use Rattle.gd_replay_laws.proofs.Faults.{plain_fault, plain_memory, plain_disk}
pub use Rattle.gd_replay_laws.proofs.Plain.{Plain}

-- what a line prints
pub plain_reply : (h : History) (k : ℕ) (bytes : List ℕ) (o : Outcome) (line : List ℕ) → Prints h k bytes o line → Plain line
plain_reply h k bytes no_request line (f, at, is) = subst Plain (sym is) (plain_fault k f)
plain_reply h k bytes no_memory line is = subst Plain (sym is) (plain_memory k)
plain_reply h k bytes (stored e) line (x, s, of, asked, is) = subst Plain (sym is) (plain_ok (e + 1) k x.result)
plain_reply h k bytes (refused n) line (s, w, moment, f, asked, within, does, is) = subst Plain (sym is) (plain_err n k (change_refusal f))
plain_reply h k bytes (late e) line (x, of, is) = subst Plain (sym is) (plain_refusal k (refusal (codes "MemoryLate") ((codes "entry", count_json e) ∷ [])))
plain_reply h k bytes in_doubt line (writes, is) = subst Plain (sym is) (plain_disk k (codes "maybe"))
plain_reply h k bytes not_tried line (writes, is) = subst Plain (sym is) (plain_disk k (codes "no"))
plain_reply h k bytes (answered m) line (s, r, asked, most, is) = subst Plain (sym is) (read_each Plain plain_ok plain_cursor plain_err tt (batches h) m k r)
