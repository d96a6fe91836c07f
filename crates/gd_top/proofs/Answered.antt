-- What the lines of a round come to, as a run that is served answers them.
use Rattle.std.proofs.Common.{◌≡◌, ℕ, zero, suc, ◌<◌, Bool, List, [], ◌∷◌, length, Option, refl, sym, ◌∙◌, arith}
use Rattle.std.specs.List.{All}
use Rattle.gd_input.specs.declared.line.RoundLine.{RoundLine}
use Rattle.gd_input.specs.declared.line.RoundLine.TheVariants.{Bytes, TooLong}
use Rattle.gd_input.specs.Line.{IsShort}
use Rattle.gd_input.specs.Rounds.{AreKept}
use Rattle.gd_threads.proofs.PassedOn.{caches_stay}
use Rattle.gd_threads.specs.Served.{RoundsValue, state_at}
use Rattle.gd_threads.specs.Rounds.{AnswersRound, CountsRound}
use Rattle.gd_top.specs.Answered.{Answered}
use Rattle.gd_top.proofs.Served.{same_count}

pub answered : {D C : Type 0} (content : D → Option (List ℕ)) (moment : D → ℕ) (images : D → List ℕ → Type 0) (images_since : D → ℕ → List ℕ → Type 0) (faults : D → ℕ) (may : C → ℕ → Bool) (lines : List RoundLine) (old new : RoundsValue D C) (replies : List (List ℕ)) → AnswersRound content moment images images_since faults may lines old new replies
    → (texts : List (List ℕ)) → AreKept lines texts → Answered (may old.side.clock) (state_at old.side) old.lines (state_at new.side) texts replies (faults old.side.log.disk) (faults new.side.log.disk) old.keeping new.keeping
answered content moment images images_since faults may lines old new replies round texts kept = record {
  many = round.many ∙ sym (same_count lines texts kept);
  goes = λ number loaded before printed runs many stands. round.served loaded before printed runs number texts many kept stands;
  rose = round.rose;
  counted = round.counted texts kept;
}

-- ---- there are as many caches

-- some bytes are more than so many
longer : (n : ℕ) → (text : List ℕ) × (n < length text)
longer zero = (0 ∷ [], omega arith)
longer (suc n) = let (text, long) = longer n in (0 ∷ text, omega (arith, long))

-- lines of a round have some bytes
some_texts : (lines : List RoundLine) → All IsShort lines → (texts : List (List ℕ)) × AreKept lines texts
some_texts [] all = ([], tt)
some_texts (Bytes v ∷ ls) all =
    let (ts, kept) = some_texts ls (λ k d less. all (suc k) d (omega (arith, less))) in
    (v.items ∷ ts, ((refl, all 0 TooLong (omega arith)), kept))
some_texts (TooLong ∷ ls) all =
    let (ts, kept) = some_texts ls (λ k d less. all (suc k) d (omega (arith, less))) in
    let (text, long) = longer 262_144 in
    (text ∷ ts, (long, kept))

pub caches_kept : {D C : Type 0} (lines : List RoundLine) (old new : RoundsValue D C) (replies : List (List ℕ)) → All IsShort lines → CountsRound lines old new replies → length new.keeping.caches ≡ length old.keeping.caches
caches_kept lines old new replies short counted = let (texts, kept) = some_texts lines short in caches_stay old.lines texts replies old.keeping new.keeping (counted texts kept)
