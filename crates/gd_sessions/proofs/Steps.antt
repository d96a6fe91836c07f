-- What an event does to its session is a step of the core.
use Rattle.std.proofs.Common.{◌≡◌, ℕ, List, Bool, true, false, Option, Some, None, Result, Ok, Err, ◌⊎◌, ◌==◌, inl, inr, ⊎_elim, refl, sym, ap, subst, ◌∙◌}
use Rattle.std.specs.Prelude.{if◌then◌else◌, nat_lt, codes}
use Rattle.std.proofs.lemmas.Bool.{eqb-true}
use Rattle.gd_defs.specs.Lines.{Refusal, err_line}
use Rattle.gd_runs.specs.Owed.{MembersOf}
use Rattle.gd_runs.specs.Legal.{batches}
use Rattle.gd_bytes.specs.Frozen.{Frozen}
use Rattle.gd_defs.specs.History.{prims_at}
use Rattle.gd_defs.specs.Asked.{Asked, Unknown, asked_query}
use Rattle.gd_runs.specs.Request.{ReadRequest, ReadSet, one_query, queries}
use Rattle.gd_runs.specs.Core as core
use Rattle.gd_runs.specs.Core.{Reading, Session, State, with_session, reading_of, BeginStep, SliceStep, LearnStep, FreezeStep, ThawsAs as StepThaws, ThawStep}
use Rattle.gd_held.specs.PassedOn.{one_member}
use Rattle.gd_held.specs.Thawing.{TextComes}
use Rattle.gd_sessions.specs.Sessions.{BeginsAs, SlicesAs, LearnsAs, FreezesAs, TellsThawed, ThawsAs}

-- ---- states with one session anew

same_number : (i j : ℕ) → (j == i) ≡ true → j ≡ i
same_number i j is = eqb-true j i is

-- a session that stays leaves the state as it is
stays : (s : State) (i : ℕ) → with_session s i (s.sessions i) ≡ s
stays s i = ap (λ (f : ℕ → Session). record s { sessions = f }) (λ k j. each j k)
  where
    each : (j : ℕ) → (if j == i then s.sessions i else s.sessions j) ≡ s.sessions j
    each j = by (j == i) refl
      where
        by : (b : Bool) → (j == i) ≡ b → (if b then s.sessions i else s.sessions j) ≡ s.sessions j
        by true is = ap s.sessions (sym (same_number i j is))
        by false is = refl

pub session_stays : (s : State) (i : ℕ) (x : Session) → x ≡ s.sessions i → with_session s i x ≡ s
session_stays s i x same = ap (with_session s i) same ∙ stays s i

-- ---- a step for each event

pub begin_step : (s t : State) (k i : ℕ) (r : ReadSet) (line : List ℕ) (x : Session) → BeginsAs (batches s.history) s.shown k r line x → t ≡ with_session s i x → BeginStep s k i r line t
begin_step s t k i r line x begins same = by (reading_of (batches s.history) s.shown r) refl
  where
    by : (o : Result Reading (ℕ × Refusal)) → reading_of (batches s.history) s.shown r ≡ o → BeginStep s k i r line t
    by (Ok reading) is = let b = rw is at begins in rw is (b.0, same ∙ ap (with_session s i) b.1)
    by (Err f) is = let b = rw is at begins in rw is (b.0, same ∙ ap (with_session s i) b.1)

pub slice_step : (members : MembersOf) (s t : State) (k i : ℕ) (line : List ℕ) (x : Session) → SlicesAs (batches s.history) s.shown k (s.sessions i) line x → t ≡ with_session s i x → SliceStep members s k i line t
slice_step members s t k i line x slices same = by (s.sessions i).reading refl
  where
    with_reading : Option Reading → Session
    with_reading o = record { seen = (s.sessions i).seen; reading = o }

    by : (o : Option Reading) → (s.sessions i).reading ≡ o → SliceStep members s k i line t
    by None is = let b = rw is at slices in rw is (b.0, same ∙ session_stays s i x (b.1 ∙ ap with_reading (sym is)))
    by (Some r) is = rw is (more (rw is at slices))
      where
        more : ((line ≡ core.said r.dateline k (codes "unfinished")) × (x ≡ record { seen = s.shown; reading = Some r })) ⊎ ((line ≡ core.owed_line (batches s.history) k r) × (x ≡ record { seen = s.shown; reading = None }))
            → ((line ≡ core.said r.dateline k (codes "unfinished")) × (t ≡ core.entered s i (Some r))) ⊎ ((line ≡ core.owed_line (batches s.history) k r) × (t ≡ core.entered s i None))
        more (inl b) = inl (b.0, same ∙ ap (with_session s i) b.1)
        more (inr b) = inr (b.0, same ∙ ap (with_session s i) b.1)

pub learn_step : (s t : State) (k i m : ℕ) (line : List ℕ) (x : Session) → LearnsAs s.shown k m (s.sessions i) line x → t ≡ with_session s i x → LearnStep s k i m line t
learn_step s t k i m line x learns same = by (nat_lt s.shown m) refl
  where
    by : (b : Bool) → nat_lt s.shown m ≡ b → LearnStep s k i m line t
    by true is = let b = rw is at learns in rw is (b.0, same ∙ session_stays s i x b.1)
    by false is = let b = rw is at learns in rw is (b.0, same ∙ ap (with_session s i) b.1)

-- ---- freezing, and thawing

pub freeze_step : (s : State) (k i : ℕ) (line : List ℕ) → FreezesAs (batches s.history) k (s.sessions i).reading line → FreezeStep one_member s k i line s
freeze_step s k i line freezes = by (s.sessions i).reading refl
  where
    of : (r : Reading) (q : ReadSet) → r.request ≡ q → (s.sessions i).reading ≡ Some r → FreezeStep one_member s k i line s
    of r (one_query q) one is = rw is (refl, rw one (rw one at (rw is at freezes)))
    of r (queries qs) several is = rw is (refl, rw several (rw several at (rw is at freezes)))

    by : (o : Option Reading) → (s.sessions i).reading ≡ o → FreezeStep one_member s k i line s
    by None is = rw is (rw is at freezes, refl)
    by (Some r) is = of r r.request refl is

module _ (s t : State) (k i : ℕ) (r : ReadRequest) (text line : List ℕ) (x : Session) (outcome : Result Reading (ℕ × Refusal)) (tells : TellsThawed s.shown k (s.sessions i) outcome line x) (same : t ≡ with_session s i x) where
  -- a refusal
  refused : (m : ℕ) (f : Refusal) → outcome ≡ Err (m, f) → (line ≡ err_line m k f) × (t ≡ core.refused_thaw s i)
  refused m f is = let told = subst (λ (o : Result Reading (ℕ × Refusal)). TellsThawed s.shown k (s.sessions i) o line x) is tells in (told.0, same ∙ ap (with_session s i) told.1)

  -- a reading that goes on
  goes : (y : Reading) → outcome ≡ Ok y → (line ≡ core.said y.dateline k (codes "thawed")) × (t ≡ core.entered s i (Some y))
  goes y is = let told = subst (λ (o : Result Reading (ℕ × Refusal)). TellsThawed s.shown k (s.sessions i) o line x) is tells in (told.0, same ∙ ap (with_session s i) told.1)

  text_step : (f : Frozen) → TextComes (batches s.history) s.shown r text f outcome → StepThaws one_member s k i r text f line t
  text_step f comes = by (nat_lt s.shown f.dateline) refl
    where
      asked : (o : Result Asked Unknown) → nat_lt s.shown f.dateline ≡ false → asked_query (prims_at (batches s.history) f.dateline) r.query ≡ o → StepThaws one_member s k i r text f line t
      asked (Err u) shown is = rw shown (rw is (refused _ _ (rw is at (rw shown at comes))))
      asked (Ok q) shown is = rw shown (rw is (⊎_elim
          (λ (fit, went). let both = goes _ went in inl (fit, both.0, both.1))
          (λ (unfit, told). let both = refused _ _ told in inr (unfit, both.0, both.1))
          (rw is at (rw shown at comes))))

      by : (b : Bool) → nat_lt s.shown f.dateline ≡ b → StepThaws one_member s k i r text f line t
      by true is = rw is (refused _ _ (rw is at comes))
      by false is = asked (asked_query (prims_at (batches s.history) f.dateline) r.query) is refl

pub thaw_step : (s t : State) (k i : ℕ) (r : ReadSet) (text line : List ℕ) (x : Session) → ThawsAs (batches s.history) s.shown k r text (s.sessions i) line x → t ≡ with_session s i x → ThawStep one_member s k i r text line t
thaw_step s t k i (one_query r) text line x (outcome, comes, tells) same = ⊎_elim
    (λ (f, spelled, goes_on). inl (f, spelled, text_step s t k i r text line x outcome tells same f goes_on))
    (λ (n, bad, is). let both = refused s t k i r text line x outcome tells same _ _ is in inr (n, bad, both.0, both.1))
    comes
thaw_step s t k i (queries rs) text line x (tells, stays_as) same = (tells, same ∙ session_stays s i x stays_as)
