-- Steps of the core, by the parts of the state that they make.
use Rattle.std.proofs.Common.{◌≡◌, refl, ℕ, ◌+◌, ◌⊎◌, inl, inr, ⊎_elim, Bool, Option, None, Some, Ok, Err, sym, subst, ap, ◌∙◌}
use Rattle.gd_defs.specs.Write.{WriteRequest, ChangeFault}
use Rattle.gd_runs.specs.Legal.{Entry, History, size, with_entry, exec_line}
use Rattle.gd_runs.specs.Explained.{MayBe}
use Rattle.gd_runs.specs.Core.{State, Session, Settles, Writable}
use Rattle.gd_runs.specs.Side.{kept_stored, kept_late, kept_refused, kept_doubt, kept_memory, WriteKeeps, stores, stores_late, refuses, doubts, lacks_memory_settled}

-- a state, by its parts
abbrev pub state : History → ℕ → Option Entry → (ℕ → Session) → State
state h shown doubt sessions = record { history = h; shown = shown; doubt = doubt; sessions = sessions }

-- equal parts make equal states
pub states : (h g : History) (m n : ℕ) (c d : Option Entry) (sessions : ℕ → Session) → h ≡ g → m ≡ n → c ≡ d → state h m c sessions ≡ state g n d sessions
states h g m n c d sessions same number doubt =
    ap (λ (x : History). state x m c sessions) same ∙ ap (λ (x : ℕ). state g x c sessions) number ∙ ap (λ (x : Option Entry). state g n x sessions) doubt

-- no doubt, or one that counts for nothing
pub settles_none : (h : History) (n : ℕ) (doubt : Option Entry) (sessions : ℕ → Session) → Settles (state h n doubt sessions) (state h n None sessions)
settles_none h n None sessions = refl
settles_none h n (Some e) sessions = inl refl

-- one that counts, and is shown or not yet
pub settles_some : (h g : History) (m n : ℕ) (doubt : Option Entry) (e : Entry) (sessions : ℕ → Session) → doubt ≡ Some e → g ≡ with_entry h e → (n ≡ m) ⊎ (n ≡ size h + 1)
    → Settles (state h m doubt sessions) (state g n None sessions)
settles_some h g m n doubt e sessions some same shown =
    subst (λ (d : Option Entry). Settles (state h m d sessions) (state g n None sessions)) (sym some)
    (⊎_elim (λ stays. inr (inr (states g (with_entry h e) n m None None sessions same stays refl))) (λ all. inr (inl (states g (with_entry h e) n (size h + 1) None None sessions same all refl))) shown)

module _ (may : ℕ → Bool) (s : State) (k bytes : ℕ) (w : WriteRequest) (h : History) (n : ℕ) (sessions : ℕ → Session) where
  -- the state once an earlier doubt has ended
  abbrev t : State
  t = state h n None sessions

  -- the write becomes an entry, which is shown with all others
  pub keeps_stored : (e : Entry) (g : History) (m : ℕ) (d : Option Entry) → Writable may s k bytes w t e → g ≡ with_entry h e → m ≡ size h + 1 → d ≡ None
      → WriteKeeps may s k bytes w (kept_stored (size h) e.result) (state g m d sessions)
  keeps_stored e g m d can same shown none =
      subst (WriteKeeps may s k bytes w (kept_stored (size h) e.result)) (sym (states g (with_entry h e) m (size h + 1) d None sessions same shown none)) (stores t e can)

  -- or is not shown yet
  pub keeps_late : (e : Entry) (g : History) (m : ℕ) (d : Option Entry) → Writable may s k bytes w t e → g ≡ with_entry h e → m ≡ n → d ≡ None
      → WriteKeeps may s k bytes w (kept_late (size h)) (state g m d sessions)
  keeps_late e g m d can same shown none =
      subst (WriteKeeps may s k bytes w (kept_late (size h))) (sym (states g (with_entry h e) m n d None sessions same shown none)) (stores_late t e can)

  -- it is refused
  pub keeps_refused : (moment : ℕ) (f : ChangeFault) → Settles s t → exec_line h w moment bytes ≡ Err f → WriteKeeps may s k bytes w (kept_refused f (size h)) t
  keeps_refused moment f ends does = refuses t moment f ends does

  -- it is in doubt
  pub keeps_doubt : (e : Entry) (g : History) (m : ℕ) (d : Option Entry) → Writable may s k bytes w t e → g ≡ h → m ≡ n → d ≡ Some e
      → WriteKeeps may s k bytes w (kept_doubt (size h)) (state g m d sessions)
  keeps_doubt e g m d can same shown some =
      subst (WriteKeeps may s k bytes w (kept_doubt (size h))) (sym (states g h m n d (Some e) sessions same shown some)) (doubts t e can)

  -- no memory was found for it
  pub keeps_memory : (g : History) (m : ℕ) (d : Option Entry) → Settles s t → g ≡ h → m ≡ n → d ≡ None → WriteKeeps may s k bytes w kept_memory (state g m d sessions)
  keeps_memory g m d ends same shown none =
      subst (WriteKeeps may s k bytes w kept_memory) (sym (states g h m n d None sessions same shown none)) (lacks_memory_settled t ends)

  -- it may be written, by its parts
  pub may_write : (e : Entry) → Settles s t → (m : ℕ) → e.moment ≡ m → MayBe may m → exec_line h w e.moment bytes ≡ Ok (e.batch, e.result) → e.line ≡ k → e.bytes ≡ bytes → e.request ≡ w → Writable may s k bytes w t e
  may_write e ends m at may_be does line len request = record { settled = ends; moment = subst (MayBe may) (sym at) may_be; result = does; line = line; len = len; request = request }
