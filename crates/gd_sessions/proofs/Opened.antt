-- A store that is opened, or opened again.
use Rattle.std.proofs.Common.{◌≡◌, ℕ, zero, suc, List, [], ◌∷◌, ◌++◌, length, map, codes, Bool, Option, Some, None, Result, Ok, Err, IfOk, ◌⊎◌, inl, inr, ⊎_elim, refl, sym, ap, subst, ◌∙◌, arith}
use Rattle.std.specs.Prelude.{get_or}
use Rattle.std.specs.Option.{is_some}
use Rattle.std.specs.List.{AllByRecursion}
use Rattle.gd_base.specs.declared.memory.Memory.{Memory}
use Rattle.gd_prim.specs.declared.Batch.{Batch}
use Rattle.gd_reply.specs.Replies.{reply_text}
use Rattle.gd_reply.specs.declared.reply.Reply.{Reply}
use Rattle.gd_bytes.specs.File.{groups, joined, StandsFor, MayStandFor}
use Rattle.gd_runs.specs.Legal.{Entry, History, batches, size}
use Rattle.gd_runs.specs.Core.{Session, State, opened, said, ReopenStep}
use Rattle.gd_replay_laws.specs.Steps.{ReopenOver}
use Rattle.gd_runs.specs.Side.{doubt_groups}
use Rattle.gd_writer.specs.Parts.{Tells}
use Rattle.gd_writer.specs.Side.{SideValue, state_of, KeepsAll, Begins}
use Rattle.gd_held.specs.Held.{nothing}
use Rattle.gd_sessions.specs.declared.held.Held.{Held}
use Rattle.gd_sessions.specs.Sessions.{new_session}
use Rattle.gd_sessions.specs.Held.{session_view, sessions_of, IsGoingOn}
use Rattle.gd_sessions.specs.Running.{RunningValue, core_state, Answers}
use Rattle.gd_sessions.specs.Opened.{IsNew}
use Rattle.gd_sessions.proofs.Table.{all_weaker}

-- ---- new sessions

new_at : (hs : List Held) (i : ℕ) → AllByRecursion IsNew hs → get_or (map session_view hs) i new_session ≡ new_session
new_at [] i all = refl
new_at (h ∷ hs) zero all = ap session_view all.0
new_at (h ∷ hs) (suc i) all = new_at hs i all.1

pub new_sessions : (hs : List Held) → AllByRecursion IsNew hs → sessions_of hs ≡ (λ i. new_session)
new_sessions hs all = λ k i. new_at hs i all k

pub new_going : (bs : List Batch) (shown : ℕ) (hs : List Held) → AllByRecursion IsNew hs → AllByRecursion (IsGoingOn bs shown) hs
new_going bs shown hs all = all_weaker IsNew (IsGoingOn bs shown) (λ h is. subst (IsGoingOn bs shown) (sym is) tt) hs all

-- one more
pub one_more_new : (hs more : List Held) (h : Held) → more ≡ hs ++ h ∷ [] → h ≡ record { seen = 0; state = nothing } → AllByRecursion IsNew hs → AllByRecursion IsNew more
one_more_new hs more h is new all = subst (AllByRecursion IsNew) (sym is) (push hs all)
  where
    push : (xs : List Held) → AllByRecursion IsNew xs → AllByRecursion IsNew (xs ++ h ∷ [])
    push [] none = (new, tt)
    push (x ∷ xs) some = (some.0, push xs some.1)

-- ---- the state

pub opens_as : {D C : Type 0} (content : Option (List ℕ)) (given : ℕ → Bool) (may : C → ℕ → Bool) (side : SideValue D C) (hs : List Held) → Begins content given may side → AllByRecursion IsNew hs
    → state_of side (sessions_of hs) ≡ opened side.history.loaded
opens_as content given may side hs begins all =
    let loaded = side.history.loaded in
    let of : List Entry → ℕ → Option Entry → (ℕ → Session) → State = λ es shown doubt sessions. record { history = record { loaded = loaded; entries = es }; shown = shown; doubt = doubt; sessions = sessions } in
    ap (λ (es : List Entry). of es (length side.shown) side.doubt (sessions_of hs)) begins.entries
    ∙ (ap (λ (bs : List Batch). of [] (length bs) side.doubt (sessions_of hs)) begins.shown
    ∙ (ap (λ (doubt : Option Entry). of [] (length loaded) doubt (sessions_of hs)) begins.doubt
    ∙ ap (λ (sessions : ℕ → Session). of [] (length loaded) None sessions) (new_sessions hs all)))

-- ---- what a file stands for

same_groups : (a b : List (List Batch)) → groups a ≡ groups b → a ≡ b
same_groups a b is = cc

one_list : (file : List ℕ) (a b : List Batch) → StandsFor file a → StandsFor file b → a ≡ b
one_list file a b (gs, means, is) (hs, also, same) = sym is ∙ (ap joined (same_groups gs hs (sym means ∙ also)) ∙ same)

-- a file that may have the group in doubt, and stands for these batches
pub loads_again : (h : History) (doubt : Option Entry) (file : List ℕ) (loaded : List Batch) → MayStandFor (batches h) (doubt_groups doubt) file → StandsFor file loaded
    → (loaded ≡ batches h) ⊎ ((e : Entry) × (doubt ≡ Some e) × (loaded ≡ batches h ++ e.batch ∷ []))
loads_again h None file loaded holds stands = inl (one_list file loaded (batches h) stands holds)
loads_again h (Some e) file loaded holds stands = ⊎_elim
    (λ without. inl (one_list file loaded (batches h) stands without))
    (λ with_it. inr (e, refl, one_list file loaded (batches h ++ e.batch ∷ []) stands with_it))
    holds

-- ---- opening again

module _ {D C : Type 0} (content : D → Option (List ℕ)) (images : D → List ℕ → Type 0) (may : C → ℕ → Bool) (given : ℕ → Bool) (reads : (disk : D) (file : List ℕ) → content disk ≡ Some file → images disk file)
    (old new : SideValue D C) (hs held : List Held) (keeps : KeepsAll content images may old) (begins : Begins (content old.log.disk) given may new) (all : AllByRecursion IsNew held) where
  abbrev loaded_again : Type 0
  loaded_again = (new.history.loaded ≡ batches old.history) ⊎ ((e : Entry) × (old.doubt ≡ Some e) × (new.history.loaded ≡ batches old.history ++ e.batch ∷ []))

  loads : Tells (content old.log.disk) → loaded_again
  loads tells = by (content old.log.disk) refl tells
    where
      by : (o : Option (List ℕ)) → content old.log.disk ≡ o → Tells o → loaded_again
      by None is told = absurd (cc)
      by (Some file) is told =
          let stands : StandsFor file new.history.loaded = begins.means file is in
          loads_again old.history old.doubt file new.history.loaded (keeps.holds file (tells, reads old.log.disk file is)) stands

  reopens_told : Tells (content old.log.disk) → (k : ℕ) (line : List ℕ) → line ≡ said (size new.history) k (codes "reopened") → ReopenStep (state_of old (sessions_of hs)) k line (state_of new (sessions_of held))
  reopens_told tells k line is =
      let opened_as = opens_as (content old.log.disk) given may new held begins all in
      (is, ⊎_elim (λ same. inl (opened_as ∙ ap opened same)) (λ (e, doubt, same). inr (e, doubt, opened_as ∙ ap opened same)) (loads tells))

  -- how many batches it has
  new_size : size new.history ≡ length new.history.loaded
  new_size = let none : length new.history.entries ≡ 0 = ap length begins.entries in omega (arith, none)

  abbrev told_now : Bool
  told_now = is_some (content old.log.disk)

  reopens : (k : ℕ) (line : List ℕ) → line ≡ said (size new.history) k (codes "reopened") → ReopenOver told_now (state_of old (sessions_of hs)) k line (state_of new (sessions_of held))
  reopens k line is =
      (λ tells. reopens_told tells k line is, (new.history.loaded, is ∙ ap (λ (n : ℕ). said n k (codes "reopened")) new_size, opens_as (content old.log.disk) given may new held begins all))

  pub reopens_ok : (k requests : ℕ) (result : Result Reply Memory) → requests ≡ size new.history → IfOk result (λ reply. reply_text reply ≡ said requests k (codes "reopened"))
      → Answers (λ line. ReopenOver told_now (state_of old (sessions_of hs)) k line (state_of new (sessions_of held))) result
  reopens_ok k requests (Ok reply) count told = reopens k (reply_text reply) (told ∙ ap (λ (n : ℕ). said n k (codes "reopened")) count)
  reopens_ok k requests (Err e) count told = (said (size new.history) k (codes "reopened"), reopens k (said (size new.history) k (codes "reopened")) refl)

-- the same, of a core that was opened over the disk that the old one gave
pub reopens_run : {D C : Type 0} (content : D → Option (List ℕ)) (images : D → List ℕ → Type 0) (may : C → ℕ → Bool) (given : ℕ → Bool) → ((disk : D) (file : List ℕ) → content disk ≡ Some file → images disk file)
    → (old : SideValue D C) (disk : D) (run : RunningValue D C) (hs held : List Held) → KeepsAll content images may old → disk ≡ old.log.disk → Begins (content disk) given may run.side → run.held ≡ held → AllByRecursion IsNew held
    → (k requests : ℕ) (result : Result Reply Memory) (side : SideValue D C) → side ≡ run.side → requests ≡ size side.history → IfOk result (λ reply. reply_text reply ≡ said requests k (codes "reopened"))
    → Answers (λ line. ReopenOver (is_some (content old.log.disk)) (state_of old (sessions_of hs)) k line (core_state run)) result
reopens_run content images may given reads old disk run hs held keeps gave begins now all k requests result side same count told =
    reopens_ok content images may given reads old run.side hs run.held keeps (subst (λ (d : _). Begins (content d) given may run.side) gave begins) (subst (AllByRecursion IsNew) (sym now) all) k requests result
    (count ∙ ap (λ (s : SideValue _ _). size s.history) same) told
