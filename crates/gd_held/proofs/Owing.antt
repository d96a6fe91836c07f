-- What a reading owes that was thawed, over more batches than those below its dateline, and as what it is put away.
use Rattle.std.proofs.Common.{◌≡◌, ◌∙◌, refl, sym, ap, subst, ℕ, ◌≤◌, List, length, take, true, Bool, Result, Ok, arith}
use Rattle.gd_prim.specs.declared.Batch.{Batch}
use Rattle.gd_prim.specs.History.{prims_of, prims_at}
use Rattle.gd_defs.specs.Asked.{Asked, asked_query}
use Rattle.gd_defs.specs.Reply.{Answer, answer_line}
use Rattle.gd_bytes.specs.Frozen.{Frozen, IsFrozenText}
use Rattle.gd_runs.specs.Core as core
use Rattle.gd_runs.specs.Fitting.{fits}
use Rattle.gd_runs.specs.Request.{asks_page}
use Rattle.gd_runs.specs.Thawed.{thawed_line, thawed_reply}
use Rattle.gd_mql.specs.Requests.{cursor_view, read_view}
use Rattle.gd_thawed.specs.PassedOn.{one_member}
use Rattle.gd_thawed.specs.Freezing.{Freezes}
use Rattle.gd_thawed.specs.Query.{owed_by_text}
use Rattle.gd_thawed.specs.Subject.{asked_by}
use Rattle.gd_thawed.specs.declared.subject.Subject.{Subject}
use Rattle.gd_read.specs.Freezing.{IsTextOf}
use Rattle.gd_held.specs.Thawed.{frozen_of, thawed_view, text_owes, ThawedGoes, ThawedGoesOn}
use Rattle.gd_held.specs.declared.thawed.ThawedReading.{ThawedReading}

module _ (bs : List Batch) (t : ThawedReading) (goes : ThawedGoes (take (thawed_view t).dateline bs) t) where
  abbrev pub at : ℕ
  at = (thawed_view t).dateline

  abbrev pub q : Asked
  q = goes.query

  abbrev pub with_cursor : Bool
  with_cursor = asks_page (cursor_view t.request.cursor)

  -- the reply line of a frozen reading of its dateline, of its query
  line_of : (f : Frozen) (k : ℕ) → f.dateline ≡ at → thawed_reply bs k (read_view t.request) f ≡ answer_line at k (owed_by_text (take at bs) q with_cursor f)
  line_of f k is =
      ap (thawed_line (prims_at bs f.dateline) with_cursor k f) (ap (λ (n : ℕ). asked_query (prims_at bs n) (read_view t.request).query) is ∙ goes.asked)
      ∙ ap (λ (n : ℕ). answer_line n k (owed_by_text (take n bs) q with_cursor f)) is

  -- LAW: it owes the answer that its text owes
  pub owed_is : (k : ℕ) → core.owed_line bs k (thawed_view t) ≡ answer_line at k (text_owes (take at bs) t q)
  owed_is k = line_of (frozen_of t) k (sym goes.subject.dateline)

  -- LAW: as what it is put away, as the core has it
  pub frozen_as : (f : Frozen) (text : List ℕ) → Freezes (take at bs) (text_owes (take at bs) t q) t.query.subject f → IsFrozenText f text → IsTextOf bs (read_view t.request) (thawed_view t) text
  frozen_as f text freezes spelled = record {
    frozen = f;
    freezes = record {
      spelled = freezes.spelled;
      dateline = freezes.dateline;
      after = freezes.after;
      fitting = rw (ap (λ (n : ℕ). asked_query (prims_at bs n) (read_view t.request).query) freezes.dateline ∙ goes.asked)
          (subst (λ (n : ℕ). fits (prims_at bs n) one_member q f ≡ true) (sym freezes.dateline)
          (subst (λ (a : Asked). fits (prims_of (take at bs)) one_member a f ≡ true) goes.subject.asked freezes.fitting));
      same = λ k. line_of f k freezes.dateline ∙ ap (answer_line at k) owes ∙ sym (owed_is k);
    };
    spells = spelled.1;
  }
    where
      owes : owed_by_text (take at bs) q with_cursor f ≡ text_owes (take at bs) t q
      owes = sym (ap (λ (a : Asked). owed_by_text (take at bs) a with_cursor f) goes.subject.asked)
          ∙ sym (ap (λ (b : Bool). owed_by_text (take at bs) (asked_by t.query.subject) b f) goes.subject.cursor)
          ∙ freezes.owes
