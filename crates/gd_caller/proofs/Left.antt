-- Write sides after the writes that are left to the caller.
use Rattle.std.proofs.Common.{◌≡◌, refl, ℕ, zero, suc, ◌+◌, ◌≤◌, inr, ⊎_elim, Bool, true, false, cond, List, [], ◌∷◌, ◌++◌, length, map, take, Option, Some, None, Result, Ok, Err, OnOk, OnErr, IsTrue, slice_get, sym, subst, ap, ◌∙◌, arith, take_all}
use Rattle.std.proofs.lemmas.List.{map-append}
use Rattle.std.proofs.lemmas.Grind.{fold-append}
use Rattle.std.specs.Option.{is_some}
use Rattle.gd_base.specs.Counts.{Rose}
use Rattle.gd_base.specs.declared.memory.Memory.{Memory}
use Rattle.gd_disk.specs.Runs.{leaves_start, leaves_join, leaves_weaken}
use Rattle.gd_runs.specs.Legal.{batches}
use Rattle.gd_runs.specs.Core.{Session}
use Rattle.gd_runs.specs.Side.{Kept, Told, told_of, WriteLine, IsLeft, is_fault}
use Rattle.gd_runs.proofs.Rounds.{no_some, some_same}
use Rattle.gd_core_laws.specs.Fronts.{StandsBetween}
use Rattle.gd_core_laws.specs.Writes.{CallerWrites}
use Rattle.gd_core_laws.specs.Bounds.{kept_of}
use Rattle.gd_core_laws.proofs.Fronts.{grows_none, grows_then, between_first, between_last, between_more, between_before}
use Rattle.gd_core_laws.proofs.Prefix.{callers_pass}
use Rattle.gd_writer.proofs.Fronts.{side_grows}
use Rattle.gd_writer.specs.Parts.{Tells}
use Rattle.gd_writer.specs.Side.{SideValue, state_of, KeepsAll, StandsForEither, Writes, GoesOn}
use Rattle.gd_round_lines.specs.declared.work.WriteLine.{WriteLine as Written}
use Rattle.gd_round_lines.specs.Works.{write_of}
use Rattle.gd_caller.specs.Served.{LeftAreFresh}
use Rattle.gd_caller.specs.Writes.{RoseBy, faults_kept, StandsWritten, WritesLeft}
use Rattle.gd_caller.proofs.Callers.{callers_join, left_stay_fresh}
use Rattle.gd_caller.proofs.Came.{left_from}

-- no session
abbrev pub no_sessions : ℕ → Session
no_sessions i = record { seen = 0; reading = None }

faults_more : (o : List Told) (t : Told) → faults_kept (o ++ t ∷ []) ≡ faults_kept o + cond (is_fault t.kept) 1 0
faults_more o t = fold-append (λ (n : ℕ) (u : Told). n + cond (is_fault u.kept) 1 0) 0 o (t ∷ [])

rose_more : (b : Bool) (before a c n : ℕ) → (b ≡ true → Rose a c) → a ≤ c → RoseBy before a n → RoseBy before c (n + cond b 1 0)
rose_more true before a c n rose later was = let more = rose refl in omega (arith, more, was)
rose_more false before a c n rose later was = omega (arith, later, was)

module _ {D C : Type 0} (content : D → Option (List ℕ)) (moment : D → ℕ) (images : D → List ℕ → Type 0) (images_since : D → ℕ → List ℕ → Type 0) (faults : D → ℕ) (may : C → ℕ → Bool) where
  abbrev Left : SideValue D C → SideValue D C → List WriteLine → Type 0
  Left old new ls = WritesLeft content moment images images_since faults may old new ls

  -- nothing was written
  pub left_none : ((d : D) (c : List ℕ) → images_since d (moment d) c → images d c) → (s : SideValue D C) (ls : List WriteLine) → KeepsAll content images may s → Left s s ls
  left_none only s ls keeps = record {
    writes = λ sessions. callers_pass (may s.clock) ls (state_of s sessions) s.outcomes;
    table = refl;
    clock = refl;
    told = refl;
    moments = λ tells. leaves_start moment images images_since s.log.disk (StandsWritten (may s.clock) s ls) (only s.log.disk)
        (λ file now sessions. record { reached = state_of s sessions; outs = s.outcomes; writes = callers_pass (may s.clock) ls (state_of s sessions) s.outcomes; stands = keeps.holds file (tells, now) });
    grows = grows_none s.history s.doubt s.outcomes;
    fronts = λ tells. leaves_start moment images images_since s.log.disk (StandsBetween s.history s.doubt s.history s.outcomes) (only s.log.disk)
        (λ file now. between_last s.history s.doubt s.outcomes s.history s.doubt s.outcomes (grows_none s.history s.doubt s.outcomes) file (keeps.holds file (tells, now)));
    later = omega arith;
    rose = λ before was. was;
  }

  -- one write
  pub left_one : (old new : SideValue D C) (a : WriteLine) → IsLeft old.outcomes a.line → Writes (may old.clock) faults old a.line a.bytes a.request new → GoesOn content moment images images_since faults may old new → Left old new (a ∷ [])
  left_one old new a left w goes =
      let one = λ (sessions : ℕ → Session). inr (left, (w.kept, state_of new sessions, w.step sessions, (refl, w.outcomes))) in
      let grows = side_grows (may old.clock) faults old a.line a.bytes a.request new left w in
      record {
        writes = one;
        table = goes.table;
        clock = goes.clock;
        told = goes.told;
        moments = λ tells. leaves_weaken old.log.disk new.log.disk (StandsForEither old new) (StandsWritten (may old.clock) old (a ∷ []))
            (λ file either sessions. ⊎_elim
            (λ before. record { reached = state_of old sessions; outs = old.outcomes; writes = callers_pass (may old.clock) (a ∷ []) (state_of old sessions) old.outcomes; stands = before })
            (λ after. record { reached = state_of new sessions; outs = new.outcomes; writes = one sessions; stands = after })
            either)
            (goes.moments tells);
        grows = grows;
        fronts = λ tells. leaves_weaken old.log.disk new.log.disk (StandsForEither old new) (StandsBetween old.history old.doubt new.history new.outcomes)
            (λ file either. ⊎_elim
            (between_first old.history old.doubt old.outcomes new.history new.doubt new.outcomes grows file)
            (between_last old.history old.doubt old.outcomes new.history new.doubt new.outcomes grows file)
            either)
            (goes.moments tells);
        later = goes.later;
        rose = λ before was. subst (λ (n : ℕ). RoseBy before (faults new.log.disk) n) (sym (ap faults_kept w.outcomes ∙ faults_more old.outcomes (told_of a.line w.kept)))
            (rose_more (is_fault w.kept) before (faults old.log.disk) (faults new.log.disk) (faults_kept old.outcomes) w.fault goes.later was);
      }

  -- a write, or no memory for what it comes to
  pub left_tried : ((d : D) (c : List ℕ) → images_since d (moment d) c → images d c) → (old new : SideValue D C) (a : WriteLine) (r : Result (Unit {0}) Memory) → KeepsAll content images may old → IsLeft old.outcomes a.line
      → OnOk r (Writes (may old.clock) faults old a.line a.bytes a.request new) → OnErr r (new ≡ old) → GoesOn content moment images images_since faults may old new → Left old new (a ∷ [])
  left_tried only old new a (Ok done) keeps left wrote none goes = left_one old new a left wrote goes
  left_tried only old new a (Err e) keeps left wrote none goes = subst (λ (s : SideValue D C). Left old s (a ∷ [])) (sym none) (left_none only old (a ∷ []) keeps)

  -- some writes and then others
  pub left_then : (old mid new : SideValue D C) (xs ys : List WriteLine) → Left old mid xs → Left mid new ys → Left old new (xs ++ ys)
  left_then old mid new xs ys first second =
      let tells_mid = λ (tells : Tells (content old.log.disk)). subst (λ (b : Bool). IsTrue b) (sym first.told) tells in
      let m = may old.clock in
      let later = λ (sessions : ℕ → Session). subst (λ (x : ℕ → Bool). CallerWrites x (state_of mid sessions) mid.outcomes ys (state_of new sessions) new.outcomes) first.clock (second.writes sessions) in
      record {
        writes = λ sessions. callers_join m xs ys (state_of old sessions) (state_of mid sessions) (state_of new sessions) old.outcomes mid.outcomes new.outcomes (first.writes sessions) (later sessions);
        table = second.table ∙ first.table;
        clock = second.clock ∙ first.clock;
        told = second.told ∙ first.told;
        moments = λ tells. leaves_join old.log.disk mid.log.disk new.log.disk (StandsWritten m old (xs ++ ys))
            (leaves_weaken old.log.disk mid.log.disk (StandsWritten m old xs) (StandsWritten m old (xs ++ ys))
            (λ file stands sessions. let r = stands sessions in record {
              reached = r.reached;
              outs = r.outs;
              writes = callers_join m xs ys (state_of old sessions) r.reached r.reached old.outcomes r.outs r.outs r.writes (callers_pass m ys r.reached r.outs);
              stands = r.stands;
            })
            (first.moments tells))
            (leaves_weaken mid.log.disk new.log.disk (StandsWritten (may mid.clock) mid ys) (StandsWritten m old (xs ++ ys))
            (λ file stands sessions. let r = stands sessions in record {
              reached = r.reached;
              outs = r.outs;
              writes = callers_join m xs ys (state_of old sessions) (state_of mid sessions) r.reached old.outcomes mid.outcomes r.outs (first.writes sessions) (subst (λ (x : ℕ → Bool). CallerWrites x (state_of mid sessions) mid.outcomes ys r.reached r.outs) first.clock r.writes);
              stands = r.stands;
            })
            (second.moments (tells_mid tells)));
        grows = grows_then old.history old.doubt old.outcomes mid.history mid.doubt mid.outcomes new.history new.doubt new.outcomes first.grows second.grows;
        fronts = λ tells. leaves_join old.log.disk mid.log.disk new.log.disk (StandsBetween old.history old.doubt new.history new.outcomes)
            (leaves_weaken old.log.disk mid.log.disk (StandsBetween old.history old.doubt mid.history mid.outcomes) (StandsBetween old.history old.doubt new.history new.outcomes)
            (between_more old.history old.doubt old.outcomes mid.history mid.doubt mid.outcomes first.grows new.history new.doubt new.outcomes second.grows)
            (first.fronts tells))
            (leaves_weaken mid.log.disk new.log.disk (StandsBetween mid.history mid.doubt new.history new.outcomes) (StandsBetween old.history old.doubt new.history new.outcomes)
            (between_before old.history old.doubt old.outcomes mid.history mid.doubt mid.outcomes first.grows new.history new.doubt new.outcomes second.grows)
            (second.fronts (tells_mid tells)));
        later = let a = first.later in let b = second.later in omega (arith, a, b);
        rose = λ before was. second.rose before (first.rose before was);
      }

  -- the write lines of which nothing is kept then are fresh
  pub left_fresh : (old mid : SideValue D C) (all xs : List WriteLine) → Left old mid xs → LeftAreFresh all old.history old.doubt old.outcomes → LeftAreFresh all mid.history mid.doubt mid.outcomes
  left_fresh old mid all xs w fresh = left_stay_fresh (may old.clock) all xs (state_of old no_sessions) (state_of mid no_sessions) old.outcomes mid.outcomes (w.writes no_sessions) fresh

-- ---- the loop over write lines

pub not_kept : (o : List Told) (k : ℕ) (b : Bool) → b ≡ is_some (kept_of o k) → b ≡ false → IsLeft o k
not_kept o k b is none = left_from o k (by (kept_of o k) (sym is ∙ none))
  where
    by : (x : Option Kept) → is_some x ≡ false → x ≡ None
    by None e = refl
    by (Some y) e = absurd (apart e)
      where
        apart : true ≡ false → ⊥
        apart q = cc

taken_more : (ws : List Written) (i : ℕ) (w : Written) → slice_get ws i ≡ Some w → take (i + 1) ws ≡ take i ws ++ w ∷ []
taken_more [] i w at = no_some at
taken_more (x ∷ ws) zero w at = ap (λ (y : Written). y ∷ []) (some_same at)
taken_more (x ∷ ws) (suc i) w at = ap (λ (n : ℕ). take n (x ∷ ws)) (plus i) ∙ ap (λ (ys : List Written). x ∷ ys) (ap (λ (n : ℕ). take n ws) (sym (one i)) ∙ taken_more ws i w at)
  where
    plus : (i : ℕ) → suc i + 1 ≡ suc (suc i)
    plus i = omega arith

    one : (i : ℕ) → i + 1 ≡ suc i
    one i = omega arith

pub written_more : (ws : List Written) (i : ℕ) (w : Written) → slice_get ws i ≡ Some w → map write_of (take i ws) ++ write_of w ∷ [] ≡ map write_of (take (i + 1) ws)
written_more ws i w at = sym (ap (map write_of) (taken_more ws i w at) ∙ map-append write_of (take i ws) (w ∷ []))

pub written_all : (ws : List Written) (i : ℕ) → length ws ≤ i → map write_of (take i ws) ≡ map write_of ws
written_all ws i long = ap (map write_of) (take_all i ws long)

pub written_at : (ws : List Written) (i : ℕ) (w : Written) → slice_get ws i ≡ Some w → slice_get (map write_of ws) i ≡ Some (write_of w)
written_at [] i w at = no_some at
written_at (x ∷ ws) zero w at = ap (λ (y : Written). Some (write_of y)) (some_same at)
written_at (x ∷ ws) (suc i) w at = written_at ws i w at

-- ---- a side whose outcomes were taken

pub still_shown : {D C : Type 0} (old new : SideValue D C) → new ≡ record old { outcomes = [] } → length new.shown ≡ length old.shown
still_shown {D = D} {C = C} old new is = ap (λ (s : SideValue D C). length s.shown) is

pub still_batches : {D C : Type 0} (old new : SideValue D C) → new ≡ record old { outcomes = [] } → batches new.history ≡ batches old.history
still_batches {D = D} {C = C} old new is = ap (λ (s : SideValue D C). batches s.history) is
