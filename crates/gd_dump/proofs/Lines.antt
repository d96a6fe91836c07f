-- The lines of the batches of a history.
use Rattle.std.proofs.Common.{◌≡◌, ◌∙◌, ℕ, ◌+◌, ◌≤◌, List, [], ◌∷◌, ◌++◌, drop, take, flat_map, Some, slice_get, ap, subst}
use Rattle.std.specs.List.{AllByRecursion}
use Rattle.std.proofs.lemmas.List.{append-nil}
use Rattle.std.proofs.lemmas.Grind.{flat_map-append}
use Rattle.gd_prim.specs.declared.Primitive.{Primitive}
use Rattle.gd_prim.specs.declared.Batch.{Batch}
use Rattle.gd_prim.specs.WellFormed.{max_moment}
use Rattle.gd_batches.proofs.Histories.{drop_one, drop_rest, IsOf, IsKept}
use Rattle.gd_dump_laws.specs.Dump.{batch_text, PrimitiveFits, BatchFits}

abbrev pub Lines : Batch → Type 0
Lines b = AllByRecursion (λ p. PrimitiveFits p.moment p) b.prims

pub lines_one : (h : List Batch) (from n : ℕ) (b : Batch) → from ≤ n → slice_get h n ≡ Some b → flat_map batch_text (drop from (take (n + 1) h)) ≡ flat_map batch_text (drop from (take n h)) ++ batch_text b
lines_one h from n b le is = ap (flat_map batch_text) (drop_one h from n b le is) ∙ flat_map-append batch_text (drop from (take n h)) (b ∷ []) ∙ ap (λ l. flat_map batch_text (drop from (take n h)) ++ l) (append-nil (batch_text b))

pub lines_rest : (h : List Batch) (from n : ℕ) (b : Batch) → from ≤ n → slice_get h n ≡ Some b → (rest : List ℕ) × (flat_map batch_text (drop from h) ≡ flat_map batch_text (drop from (take n h)) ++ (batch_text b ++ rest))
lines_rest h from n b le is = let (rest, same) = drop_rest h from n b le is in (flat_map batch_text rest, ap (flat_map batch_text) same ∙ flat_map-append batch_text (drop from (take n h)) (b ∷ rest))

-- batches of a history, at moments of a clock, have lines
pub batches_fit : (bs : List Batch) → AllByRecursion IsKept bs → AllByRecursion (λ b. b.moment ≤ max_moment) bs → AllByRecursion Lines bs → AllByRecursion BatchFits bs
batches_fit [] keeps early lines = tt
batches_fit (b ∷ bs) keeps early lines = (record { moment = early.0; few = keeps.0.few; each = of_moment b.moment b.prims keeps.0.each lines.0 }, batches_fit bs keeps.1 early.1 lines.1)
  where
    of_moment : (moment : ℕ) (ps : List Primitive) → AllByRecursion (IsOf moment) ps → AllByRecursion (λ p. PrimitiveFits p.moment p) ps → AllByRecursion (PrimitiveFits moment) ps
    of_moment moment [] of fits = tt
    of_moment moment (p ∷ ps) of fits = (subst (λ (m : ℕ). PrimitiveFits m p) of.0.same fits.0, of_moment moment ps of.1 fits.1)
