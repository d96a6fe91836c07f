-- What thawing comes to is the step of the core.
use Rattle.std.proofs.Common.{◌≡◌, ◌∙◌, refl, sym, ap, subst, ℕ, List, length, Bool, true, false, Some, Result, Ok, Err, IsTrue, inl, inr, codes}
use Rattle.std.specs.Prelude.{nat_lt}
use Rattle.std.specs.Bool.{MatchBool}
use Rattle.gd_prim.specs.History.{prims_at}
use Rattle.gd_defs.specs.Asked.{Asked, Unknown, asked_query}
use Rattle.gd_defs.specs.Lines.{Refusal, err_line, cursor_ahead}
use Rattle.gd_bytes.specs.Frozen.{Frozen}
use Rattle.gd_runs.specs.Core.{Reading, State, entered, refused_thaw, said, bad_frozen, ThawStep, ThawsAs, frozen_fits}
use Rattle.gd_runs.specs.Legal.{batches}
use Rattle.gd_runs.specs.Request.{ReadRequest, one_query}
use Rattle.gd_thawed.specs.PassedOn.{one_member}
use Rattle.gd_held.specs.Thawing.{going_on, FittingComes, TextComes, ThawComes}

-- what is printed and made of what thawing comes to: the reading is held, or its refusal is told
abbrev pub IsTold : State → ℕ → ℕ → Result Reading (ℕ × Refusal) → List ℕ → State → Type 0
IsTold s k i (Ok reading) line t = (line ≡ said reading.dateline k (codes "thawed")) × (t ≡ entered s i (Some reading))
IsTold s k i (Err refused) line t = (line ≡ err_line refused.0 k refused.1) × (t ≡ refused_thaw s i)

module _ (s t : State) (k i : ℕ) (r : ReadRequest) (bytes line : List ℕ) (o : Result Reading (ℕ × Refusal)) (told : IsTold s k i o line t) where
  -- what is told of what it comes to
  told_as : (x : Result Reading (ℕ × Refusal)) → o ≡ x → IsTold s k i x line t
  told_as x is = subst (λ y. IsTold s k i y line t) is told

  text_step : (f : Frozen) (b : Bool) (a : Result Asked Unknown) → nat_lt s.shown f.dateline ≡ b → asked_query (prims_at (batches s.history) f.dateline) r.query ≡ a
      → MatchBool b (o ≡ Err (s.shown, cursor_ahead f.dateline s.shown)) (FittingComes (batches s.history) s.shown r bytes f a o) → ThawsAs one_member s k i r bytes f line t
  text_step f true a over is comes = rw over (told_as _ comes)
  text_step f false (Err u) below is comes = rw (below, is) (told_as _ comes)
  text_step f false (Ok q) below is (inl (fitting, comes)) = rw (below, is) (inl (fitting, (told_as _ comes).0, (told_as _ comes).1))
  text_step f false (Ok q) below is (inr (unfit, comes)) = rw (below, is) (inr (unfit, (told_as _ comes).0, (told_as _ comes).1))

  -- LAW: what thawing comes to, once it is told, is a thaw of the core
  pub thaw_step : ThawComes (batches s.history) s.shown r bytes o → ThawStep one_member s k i (one_query r) bytes line t
  thaw_step (inl (f, text, comes)) = inl (f, text, text_step f (nat_lt s.shown f.dateline) (asked_query (prims_at (batches s.history) f.dateline) r.query) refl refl comes)
  thaw_step (inr (n, bad, comes)) = inr (n, bad, (told_as _ comes).0, (told_as _ comes).1)
