-- Lines that are read one after another.
use Rattle.std.proofs.Common.{◌≡◌, ◌∙◌, refl, ℕ, zero, suc, ◌<◌, List, [], ◌∷◌, ◌++◌, length, Option, None, Ok, Err, sym, ap, subst, append_assoc}
use Rattle.std.proofs.lemmas.List.{append-nil}
use Rattle.gd_prim.specs.declared.Batch.{Batch}
use Rattle.gd_dump_laws.specs.Progress as defined
use Rattle.gd_dump_laws.proofs.Texts.{stepped, step_shorter}
use Rattle.std.specs.Borrow.{Bor}
use Rattle.gd_dump.specs.declared.stop.Stop.{Stop}
use Rattle.gd_dump.specs.declared.stop.Stop.TheVariants.{Bad, Memory}
use Rattle.gd_dump.specs.Progress.{counted, place_of, ended, IsLine, IsNext, IsRun, next_line, Runs}
use Rattle.gd_dump.specs.declared.progress.Progress.{Progress}

-- nothing was read yet
pub runs_none : (p : Progress) (bytes : List ℕ) → Runs p p bytes bytes []
runs_none p bytes batches count read =
    let same : batches ≡ batches ++ [] = sym (append-nil batches) in
    record { count = count ∙ ap length same; read = subst (λ (l : List Batch). defined.Read (place_of p l)) same read; text = ap (λ (l : List Batch). defined.consumed (place_of p l) ++ bytes) (sym same) }

-- a line more
pub runs_more : (old mid new : Progress) (bytes rest behind : List ℕ) (more : List Batch) (batch : Option Batch) → Runs old mid bytes rest more → IsLine (next_line mid) mid new rest batch behind → Runs old new bytes behind (more ++ ended batch)
runs_more old mid new bytes rest behind more batch runs line batches count read =
    let r = runs batches count read in
    let (step, n) = line (batches ++ more) r.count in
    let s = stepped (place_of mid (batches ++ more)) (place_of new ((batches ++ more) ++ ended batch)) rest behind r.read step in
    let same = append_assoc batches more (ended batch) in
    record {
      count = n ∙ ap length same;
      read = subst (λ (l : List Batch). defined.Read (place_of new l)) same s.read;
      text = ap (λ (l : List Batch). defined.consumed (place_of new l) ++ behind) (sym same) ∙ s.text ∙ r.text;
    }

-- so many batches, whichever they are
some_batches : ℕ → List Batch
some_batches zero = []
some_batches (suc n) = record { moment = 0; prims = [] } ∷ some_batches n

count_is : (n : ℕ) → n ≡ length (some_batches n)
unfolding some_batches
count_is zero = refl
count_is (suc n) = ap suc (count_is n)

-- behind a line fewer bytes are left
pub line_shorter : (mid new : Progress) (rest behind : List ℕ) (batch : Option Batch) → IsLine (next_line mid) mid new rest batch behind → length behind < length rest
line_shorter mid new rest behind batch line =
    let batches = some_batches (counted mid.stage mid.count) in
    let (step, n) = line batches (count_is (counted mid.stage mid.count)) in
    step_shorter (place_of mid batches) (place_of new (batches ++ ended batch)) rest behind step

-- no line goes on
pub runs_stop : (e : Stop) (old mid new : Progress) (bytes rest : List ℕ) (given now more : List Batch) → now ≡ given ++ more → Runs old mid bytes rest more → IsNext mid new rest (Err e) → IsRun old new bytes given now (Err e)
runs_stop (Bad left) old mid new bytes rest given now more is runs (some, (same, stops)) =
    subst (λ (p : Progress). IsRun old p bytes given now (Err (Bad left))) (sym same) (some, (more, is, (rest, runs, stops)))
runs_stop Memory old mid new bytes rest given now more is runs next = tt

-- the bytes end in a line
pub runs_end : (old mid new : Progress) (bytes : List ℕ) (rest : Bor (List ℕ)) (given now more : List Batch) → now ≡ given ++ more → Runs old mid bytes rest.now more → IsNext mid new rest.now (Ok None) → IsRun old new bytes given now (Ok rest)
runs_end old mid new bytes rest given now more is runs (same, ends) = subst (λ (p : Progress). IsRun old p bytes given now (Ok rest)) (sym same) (more, is, runs, ends)
