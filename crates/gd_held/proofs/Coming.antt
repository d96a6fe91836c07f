-- What thawing bytes comes to, case by case.
use Rattle.std.proofs.Common.{◌≡◌, ◌≢◌, ◌∙◌, refl, sym, ap, subst, ℕ, ◌<◌, ◌≤◌, ◌^◌, List, length, take, Bool, true, false, Option, Some, None, Result, Ok, Err, inl, inr, arith}
use Rattle.std.specs.Bool.{MatchBool}
use Rattle.std.proofs.lemmas.Bool.{lt-ltb, le-ltb}
use Rattle.std.proofs.lemmas.List.{length-take-le}
use Rattle.gd_prim.specs.declared.Batch.{Batch}
use Rattle.gd_prim.specs.History.{prims_of, prims_at}
use Rattle.gd_defs.specs.Asked.{Asked, Unknown, asked_query}
use Rattle.gd_defs.specs.Lines.{Refusal, cursor_ahead}
use Rattle.gd_bytes.specs.Frozen.{Frozen, Fits, IsFrozenText, IsBadFrozenAt}
use Rattle.gd_runs.specs.Core.{Reading, frozen_fits, bad_frozen}
use Rattle.gd_runs.specs.Fitting.{fits}
use Rattle.gd_runs.specs.Request.{ReadRequest}
use Rattle.gd_thawed.specs.PassedOn.{one_member}
use Rattle.gd_read.specs.Begun.{IsMeaningless}
use Rattle.gd_held.specs.Fault.{fault_at, HasOffset}
use Rattle.gd_held.specs.Thawing.{going_on, FittingComes, ThawComes}
use Rattle.gd_held.specs.Thawed.{thawed_view, ThawedGoes, ThawedGoesOn, PlanThaws, Goes, IsUnthawed}
use Rattle.gd_held.specs.declared.fault.ThawFault.{ThawFault}
use Rattle.gd_held.specs.declared.fault.ThawFault.TheVariants as fault
use Rattle.gd_held.specs.declared.thawed.ThawedReading.{ThawedReading}

module _ (bs : List Batch) (shown : ℕ) (r : ReadRequest) (bytes : List ℕ) where
  -- LAW: bytes that are no text
  pub bad_comes : (n : ℕ) → IsBadFrozenAt bytes n → n < 2 ^ 63 → IsUnthawed bs shown r bytes (fault.BadFrozen n)
  bad_comes n bad few = record { of = λ some. inr (n, bad, refl); offset = few }

  -- LAW: a text that is ahead of what is shown
  pub ahead_comes : (f : Frozen) → IsFrozenText f bytes → shown < f.dateline → IsUnthawed bs shown r bytes (fault.CursorAhead f.dateline shown)
  ahead_comes f text over = record {
    of = λ some. inl (
      f,
      text,
      subst (λ (b : Bool). MatchBool b (refused ≡ Err (shown, cursor_ahead f.dateline shown)) (FittingComes bs shown r bytes f (asked_query (prims_at bs f.dateline) r.query) refused)) (sym (lt-ltb shown f.dateline over)) refl,
    );
    offset = tt;
  }
    where
      refused : Result Reading (ℕ × Refusal)
      refused = Err (shown, cursor_ahead f.dateline shown)

  -- a text that is shown
  shown_comes : (f : Frozen) (o : Result Reading (ℕ × Refusal)) → IsFrozenText f bytes → f.dateline ≤ shown → FittingComes bs shown r bytes f (asked_query (prims_at bs f.dateline) r.query) o → ThawComes bs shown r bytes o
  shown_comes f o text below comes = inl (
    f,
    text,
    subst (λ (b : Bool). MatchBool b (o ≡ Err (shown, cursor_ahead f.dateline shown)) (FittingComes bs shown r bytes f (asked_query (prims_at bs f.dateline) r.query) o)) (sym (le-ltb shown f.dateline below)) comes,
  )

  -- LAW: its query has no meaning
  pub meaningless_comes : (f : Frozen) (front : List Batch) (x : ThawFault) → IsFrozenText f bytes → f.dateline ≤ shown → shown ≤ length bs → front ≡ take f.dateline bs
      → (x ≢ fault.Memory → (latest : ℕ) → IsMeaningless (length front) (asked_query (prims_of front) r.query) (fault_at latest x)) → HasOffset x → IsUnthawed bs shown r bytes x
  meaningless_comes f front x text below long is none offset = record {
    of = λ some. shown_comes f (Err (fault_at shown x)) text below (by (asked_query (prims_at bs f.dateline) r.query) (at some));
    offset = offset;
  }
    where
      as_long : length front ≡ f.dateline
      as_long = ap length is ∙ length-take-le f.dateline bs (omega (arith, below, long))

      at : x ≢ fault.Memory → IsMeaningless f.dateline (asked_query (prims_at bs f.dateline) r.query) (fault_at shown x)
      at some = subst (λ (n : ℕ). IsMeaningless n (asked_query (prims_at bs f.dateline) r.query) (fault_at shown x)) as_long
          (subst (λ (b : List Batch). IsMeaningless (length front) (asked_query (prims_of b) r.query) (fault_at shown x)) is (none some shown))

      by : (a : Result Asked Unknown) → IsMeaningless f.dateline a (fault_at shown x) → FittingComes bs shown r bytes f a (Err (fault_at shown x))
      by (Ok q) never = absurd never
      by (Err u) same = ap Err same

  -- a query that has a meaning
  meant_comes : (f : Frozen) (q : Asked) (o : Result Reading (ℕ × Refusal)) → IsFrozenText f bytes → f.dateline ≤ shown → asked_query (prims_at bs f.dateline) r.query ≡ Ok q → FittingComes bs shown r bytes f (Ok q) o → ThawComes bs shown r bytes o
  meant_comes f q o text below asked comes = shown_comes f o text below (subst (λ a. FittingComes bs shown r bytes f a o) (sym asked) comes)

  fits_there : (f : Frozen) (q : Asked) → asked_query (prims_at bs f.dateline) r.query ≡ Ok q → frozen_fits one_member bs r f ≡ fits (prims_at bs f.dateline) one_member q f
  fits_there f q asked = rw asked refl

  over_front : (f : Frozen) (front : List Batch) (q : Asked) → front ≡ take f.dateline bs → asked_query (prims_of front) r.query ≡ Ok q → asked_query (prims_at bs f.dateline) r.query ≡ Ok q
  over_front f front q is asked = subst (λ (b : List Batch). asked_query (prims_of b) r.query ≡ Ok q) is asked

  -- LAW: it does not fit
  pub unfit_comes : (f : Frozen) (front : List Batch) (q : Asked) (n : ℕ) → IsFrozenText f bytes → f.dateline ≤ shown → front ≡ take f.dateline bs → asked_query (prims_of front) r.query ≡ Ok q
      → PlanThaws front r q f None → n ≡ length bytes → n < 2 ^ 63 → IsUnthawed bs shown r bytes (fault.BadFrozen n)
  unfit_comes f front q n text below is asked unfit whole few = record {
    of = λ some. meant_comes f q _ text below meant (inr (no (frozen_fits one_member bs r f) never, ap (λ (m : ℕ). Err (shown, bad_frozen m)) whole));
    offset = few;
  }
    where
      meant : asked_query (prims_at bs f.dateline) r.query ≡ Ok q
      meant = over_front f front q is asked

      never : frozen_fits one_member bs r f ≡ false
      never = fits_there f q meant ∙ subst (λ (b : List Batch). fits (prims_of b) one_member q f ≡ false) is unfit

      no : (b : Bool) → b ≡ false → b ≡ true → ⊥
      no b is_false is_true = cc

  -- LAW: it fits, and goes on
  pub goes_comes : (f : Frozen) (front : List Batch) (q : Asked) (t : ThawedReading) → IsFrozenText f bytes → f.dateline ≤ shown → front ≡ take f.dateline bs → asked_query (prims_of front) r.query ≡ Ok q
      → PlanThaws front r q f (Some t) → Goes bs shown r bytes t
  goes_comes f front q t text below is asked (fitting, (same, going)) = record {
    of = subst (λ (x : Reading). ThawComes bs shown r bytes (Ok x)) (sym same) (meant_comes f q _ text below meant (inl (fits_there f q meant ∙ subst (λ (b : List Batch). fits (prims_of b) one_member q f ≡ true) is fitting, refl)));
    going = (subst (λ (n : ℕ). n ≤ shown) (sym late) below, subst (λ (b : List Batch). ThawedGoes b t) (is ∙ ap (λ (n : ℕ). take n bs) (sym late)) going);
  }
    where
      meant : asked_query (prims_at bs f.dateline) r.query ≡ Ok q
      meant = over_front f front q is asked

      late : (thawed_view t).dateline ≡ f.dateline
      late = ap (λ (x : Reading). x.dateline) same
