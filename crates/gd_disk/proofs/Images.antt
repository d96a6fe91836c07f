-- What is chosen of the images of a disk in memory is one that a stop may leave.
use Rattle.std.proofs.Common.{◌≡◌, inr, ℕ, ◌+◌, ◌-◌, ◌≤◌, List, [], ◌∷◌, ◌++◌, length, take, drop, refl, sym, ◌∙◌, ap, subst, arith, length-append, length-take, length-drop}
use Rattle.std.specs.Prelude.{min, replicate, reverse, Option, Some}
use Rattle.std.proofs.lemmas.List.{length-replicate, reverse-append}
use Rattle.gd_bytes.specs.Disk.{written, Torn}
use Rattle.gd_disk.specs.Recorded.{Made, wrote, cut_to, synced, held, left}
use Rattle.gd_disk.specs.Calls.{Kept, kept, newest, undone, made_of, first_of}
use Rattle.gd_disk.specs.Images.{dropped, filled, after_made, after_step, after_steps, dropped_of, filled_of, WentBack, IsInside, WasHeld}
use Rattle.gd_disk.specs.declared.kept_file.Call.{Call}
use Rattle.gd_disk.specs.declared.kept_file.Call.TheVariants.{Append, Within, Past, Cut as CutCall, Sync}
use Rattle.gd_disk.specs.declared.undoing.Step.{Step}
use Rattle.gd_disk.proofs.Steps.{torn_written, cut_take, still_torn, still_cut}

length_written : (at : ℕ) (bytes file : List ℕ) → length (written at bytes file) ≡ min at (length file) + (length bytes + (length file - (at + length bytes)))
length_written at bytes file = omega (arith, length-append (take at file) (bytes ++ drop (at + length bytes) file), length-append bytes (drop (at + length bytes) file), length-take at file, length-drop (at + length bytes) file)

-- what was written has the same length, whatever its bytes are
filled_long : (x : ℕ) (first : List ℕ) (made : List Made) → length (filled x first made) ≡ length (held first made)
filled_long x first [] = refl
filled_long x first (wrote at bytes ∷ made) =
    omega (arith, length_written at (replicate (length bytes) x) (filled x first made), length_written at bytes (held first made), length-replicate (length bytes) x, filled_long x first made)
filled_long x first (cut_to n ∷ made) = omega (arith, length-take n (filled x first made), length-take n (held first made), filled_long x first made)
filled_long x first (synced ∷ made) = refl

-- one call more
filled_more : (x : ℕ) (first : List ℕ) (call : Made) (made : List Made) → IsInside call (length (held first made)) → left first made (filled x first made) → left first (call ∷ made) (filled x first (call ∷ made))
filled_more x first (wrote at bytes) made fits there =
    let long : length (replicate (length bytes) x) ≡ length bytes = length-replicate (length bytes) x in
    let file = filled x first made in
    inr (file, there, subst (λ (n : ℕ). Torn at n file (written at (replicate (length bytes) x) file)) long (torn_written at (replicate (length bytes) x) file (omega (arith, fits, filled_long x first made))))
filled_more x first (cut_to n) made fits there = inr (filled x first made, there, cut_take n (filled x first made) (omega (arith, fits, filled_long x first made)))
filled_more x first synced made fits there = refl

-- how long the file was
was_long : (k : Kept) (file : List ℕ) → k.stop ≤ length k.bytes → take k.stop k.bytes ≡ file → length file ≡ k.stop
was_long k file le is = omega (arith, ap length is, length-take k.stop k.bytes, le)

pub filled_left : (x : ℕ) (k : Kept) (calls : List Call) → WasHeld k calls → left (first_of k calls) (made_of k calls) (filled x (first_of k calls) (made_of k calls))
filled_left x k [] was = refl
filled_left x k (call ∷ calls) was =
    let b = undone call k in
    let first = first_of b calls in
    let made = made_of b calls in
    let long : length (held first made) ≡ b.stop = was_long b (held first made) was.0 was.1 in
    filled_more x first (newest call k) made (subst (λ (n : ℕ). IsInside (newest call k) n) (sym long) was.2) (filled_left x b calls was.3)

dropped_more : (first : List ℕ) (call : Made) (made : List Made) → left first made (dropped first made) → left first (call ∷ made) (dropped first (call ∷ made))
dropped_more first (wrote at bytes) made there = inr (dropped first made, there, still_torn at (length bytes) (dropped first made))
dropped_more first (cut_to n) made there = inr (dropped first made, there, still_cut n (dropped first made))
dropped_more first synced made there = refl

pub dropped_left : (first : List ℕ) (made : List Made) → left first made (dropped first made)
dropped_left first [] = refl
dropped_left first (call ∷ made) = dropped_more first call made (dropped_left first made)

-- what is kept tells both
pub dropped_told : (k : Kept) (calls : List Call) → take k.stop k.bytes ≡ held (first_of k calls) (made_of k calls) → WasHeld k calls → dropped_of k calls ≡ dropped (first_of k calls) (made_of k calls)
dropped_told k [] is was = refl
dropped_told k (Append ∷ calls) is was = dropped_told (undone Append k) calls was.1 was.3
dropped_told k (Within ∷ calls) is was = dropped_told (undone Within k) calls was.1 was.3
dropped_told k (Past ∷ calls) is was = dropped_told (undone Past k) calls was.1 was.3
dropped_told k (CutCall ∷ calls) is was = dropped_told (undone CutCall k) calls was.1 was.3
dropped_told k (Sync ∷ calls) is was = is

pub filled_told : (x : ℕ) (k : Kept) (calls : List Call) → take k.stop k.bytes ≡ held (first_of k calls) (made_of k calls) → WasHeld k calls → filled_of x k calls ≡ filled x (first_of k calls) (made_of k calls)
filled_told x k [] is was = refl
filled_told x k (Append ∷ calls) is was = ap (λ (l : List ℕ). after_made x (newest Append k) l) (filled_told x (undone Append k) calls was.1 was.3)
filled_told x k (Within ∷ calls) is was = ap (λ (l : List ℕ). after_made x (newest Within k) l) (filled_told x (undone Within k) calls was.1 was.3)
filled_told x k (Past ∷ calls) is was = ap (λ (l : List ℕ). after_made x (newest Past k) l) (filled_told x (undone Past k) calls was.1 was.3)
filled_told x k (CutCall ∷ calls) is was = ap (λ (l : List ℕ). after_made x (newest CutCall k) l) (filled_told x (undone CutCall k) calls was.1 was.3)
filled_told x k (Sync ∷ calls) is was = is

-- ---- a call more

calls_back : (calls rest : List Call) (call : Call) → calls ≡ rest ++ call ∷ [] → reverse calls ≡ call ∷ reverse rest
calls_back calls rest call is = ap (λ (l : List Call). reverse l) is ∙ reverse-append rest (call ∷ [])

pub more_held : (k now : Kept) (calls new : List Call) (call : Call) (made : Made) → newest call now ≡ made → undone call now ≡ k → new ≡ calls ++ call ∷ [] → k.stop ≤ length k.bytes → take k.stop k.bytes ≡ held (first_of k (reverse calls)) (made_of k (reverse calls)) → IsInside made k.stop
    → WasHeld k (reverse calls) → WasHeld now (reverse new)
more_held k now calls new call made told back is short file fits was =
    let there : (b : Kept) → b ≡ k → (b.stop ≤ length b.bytes) × (take b.stop b.bytes ≡ held (first_of b (reverse calls)) (made_of b (reverse calls))) × IsInside made b.stop × WasHeld b (reverse calls) =
    λ b same. subst (λ (b : Kept). (b.stop ≤ length b.bytes) × (take b.stop b.bytes ≡ held (first_of b (reverse calls)) (made_of b (reverse calls))) × IsInside made b.stop × WasHeld b (reverse calls)) (sym same) (short, file, fits, was) in
    let parts = there (undone call now) back in
    let behind : WasHeld now (call ∷ reverse calls) = (parts.0, parts.1, subst (λ (m : Made). IsInside m (undone call now).stop) (sym told) parts.2, parts.3) in
    subst (λ (l : List Call). WasHeld now l) (sym (calls_back new calls call is)) behind

-- ---- going back

steps_push : (x : ℕ) (steps : List Step) (s : Step) (file : List ℕ) → after_steps x (steps ++ s ∷ []) file ≡ after_steps x steps (after_step x s file)
steps_push x [] s file = refl
steps_push x (t ∷ steps) s file = ap (λ (l : List ℕ). after_step x t l) (steps_push x steps s file)

-- a step more is done again
pub step_redone : (x : ℕ) (steps rest : List Step) (s : Step) (file now : List ℕ) → steps ≡ rest ++ s ∷ [] → now ≡ after_step x s file → after_steps x steps file ≡ after_steps x rest now
step_redone x steps rest s file now is done = ap (λ (l : List Step). after_steps x l file) is ∙ steps_push x rest s file ∙ ap (λ (l : List ℕ). after_steps x rest l) (sym done)

pub record IsBack (k now : Kept) (calls rest : List Call) (steps more : List Step) : Type 0 where
  pub drops : dropped_of k (reverse calls) ≡ dropped_of now (reverse rest)
  pub fills : (x : ℕ) → after_steps x steps (filled_of x k (reverse calls)) ≡ after_steps x more (filled_of x now (reverse rest))

-- a call more is taken back
pub went_on : (k now : Kept) (calls rest : List Call) (call : Call) (went : Option Step) (s : Step) (steps more : List Step) → calls ≡ rest ++ call ∷ [] → WentBack went call k now → went ≡ Some s → more ≡ steps ++ s ∷ [] → IsBack k now calls rest steps more
went_on k now calls rest call went s steps more is back some pushed =
    let there : WentBack (Some s) call k now = subst (λ (w : Option Step). WentBack w call k now) some back in
    let newest_first = calls_back calls rest call is in
    record {
      drops = ap (λ (l : List Call). dropped_of k l) newest_first ∙ (there (reverse rest)).0;
      fills = λ x. ap (λ (l : List Call). after_steps x steps (filled_of x k l)) newest_first
          ∙ ap (λ (l : List ℕ). after_steps x steps l) ((there (reverse rest)).1 x)
          ∙ sym (step_redone x more steps s (filled_of x now (reverse rest)) (after_step x s (filled_of x now (reverse rest))) pushed refl);
    }

-- what is copied is what is kept
pub same_file : (file : Kept) (all bytes replaced others numbers digits : List ℕ) (stop : ℕ) → file ≡ kept bytes stop others digits → bytes ≡ all → others ≡ replaced → digits ≡ numbers → file ≡ kept all stop replaced numbers
same_file file all bytes replaced others numbers digits stop is be re ne = is ∙ cc
