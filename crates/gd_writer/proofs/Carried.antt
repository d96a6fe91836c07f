-- What carrying a write out comes to, over a history with nothing in doubt.
use Rattle.std.proofs.Common.{◌≡◌, ℕ, ◌+◌, Bool, Option, None, Some, Err, sym, subst, ap, ◌∙◌}
use Rattle.gd_json.specs.View.{view}
use Rattle.gd_tree.specs.Json.{Json}
use Rattle.gd_defs.specs.Write.{WriteRequest, ChangeFault}
use Rattle.gd_runs.specs.Legal.{Entry, History, size, with_entry, exec_line}
use Rattle.gd_runs.specs.Core.{State, Settles, Writable}
use Rattle.gd_runs.specs.Explained.{MayBe}
use Rattle.gd_runs.specs.Side.{kept_stored, kept_late, kept_refused, kept_doubt, kept_memory, WriteKeeps}
use Rattle.gd_writer.specs.declared.judge.Next.{Next}
use Rattle.gd_writer.specs.Entries.{entry_view}
use Rattle.gd_writer.specs.Judged.{IsStorable}
use Rattle.gd_writer.proofs.Steps.{state, keeps_stored, keeps_late, keeps_refused, keeps_doubt, keeps_memory, may_write}

module _ (may : ℕ → Bool) (h : History) (n : ℕ) (before : Option Entry) (none : before ≡ None) (line bytes : ℕ) (w : WriteRequest) where
  settled : (s : State) → Settles s (state h n before s.sessions) → Settles s (state h n None s.sessions)
  settled s ends = subst (λ (o : Option Entry). Settles s (state h n o s.sessions)) none ends

  -- it is refused
  pub step_refused : (moment : ℕ) (f : ChangeFault) (at : ℕ) → exec_line h w moment bytes ≡ Err f → at ≡ size h → (s : State) → Settles s (state h n before s.sessions) → WriteKeeps may s line bytes w (kept_refused f at) (state h n before s.sessions)
  step_refused moment f at does is s ends =
      subst (λ (o : Option Entry). WriteKeeps may s line bytes w (kept_refused f at) (state h n o s.sessions)) (sym none)
      (subst (λ (m : ℕ). WriteKeeps may s line bytes w (kept_refused f m) (state h n None s.sessions)) (sym is) (keeps_refused may s line bytes w h n s.sessions moment f (settled s ends) does))

  -- no memory was found for it
  pub step_memory : (g : History) (m : ℕ) (d : Option Entry) → g ≡ h → m ≡ n → d ≡ before → (s : State) → Settles s (state h n before s.sessions) → WriteKeeps may s line bytes w kept_memory (state g m d s.sessions)
  step_memory g m d same shown doubt s ends = keeps_memory may s line bytes w h n s.sessions g m d (settled s ends) same shown (doubt ∙ none)

  -- a write that may be stored
  module _ (moment : ℕ) (next : Next) (can : IsStorable h line bytes w moment next) (given : MayBe may moment) (at : ℕ) (is : at ≡ size h) where
    abbrev e : Entry
    e = entry_view next.made.entry next.made.batch

    writable : (s : State) → Settles s (state h n before s.sessions) → Writable may s line bytes w (state h n None s.sessions) e
    writable s ends = may_write may s line bytes w h n s.sessions e (settled s ends) moment can.moment_is given (ap (λ (m : ℕ). exec_line h w m bytes) can.moment_is ∙ can.does) can.line_is can.bytes_is can.request_is

    -- it is stored and shown
    pub step_stored : (g : History) (m : ℕ) (d : Option Entry) → g ≡ with_entry h e → m ≡ size h + 1 → d ≡ None
        → (s : State) → Settles s (state h n before s.sessions) → WriteKeeps may s line bytes w (kept_stored at (view next.answer.value)) (state g m d s.sessions)
    step_stored g m d same shown ended s ends =
        subst (λ (j : Json). WriteKeeps may s line bytes w (kept_stored at j) (state g m d s.sessions)) (sym can.same)
        (subst (λ (k : ℕ). WriteKeeps may s line bytes w (kept_stored k e.result) (state g m d s.sessions)) (sym is) (keeps_stored may s line bytes w h n s.sessions e g m d (writable s ends) same shown ended))

    -- it is stored and not shown
    pub step_late : (g : History) (m : ℕ) (d : Option Entry) → g ≡ with_entry h e → m ≡ n → d ≡ None
        → (s : State) → Settles s (state h n before s.sessions) → WriteKeeps may s line bytes w (kept_late at) (state g m d s.sessions)
    step_late g m d same shown ended s ends =
        subst (λ (k : ℕ). WriteKeeps may s line bytes w (kept_late k) (state g m d s.sessions)) (sym is) (keeps_late may s line bytes w h n s.sessions e g m d (writable s ends) same shown ended)

    -- it is in doubt
    pub step_doubt : (g : History) (m : ℕ) (d : Option Entry) → g ≡ h → m ≡ n → d ≡ Some e
        → (s : State) → Settles s (state h n before s.sessions) → WriteKeeps may s line bytes w (kept_doubt at) (state g m d s.sessions)
    step_doubt g m d same shown some s ends =
        subst (λ (k : ℕ). WriteKeeps may s line bytes w (kept_doubt k) (state g m d s.sessions)) (sym is) (keeps_doubt may s line bytes w h n s.sessions e g m d (writable s ends) same shown some)
