-- What was dumped is restored.
use Rattle.std.proofs.Common.{◌≡◌, ◌∙◌, refl, ap, ℕ, zero, suc, ◌≤◌, List, [], ◌∷◌, ◌++◌, length, take, drop, arith, take-append-drop}
use Rattle.gd_prim.specs.declared.Batch.{Batch}
use Rattle.gd_dump_laws.specs.Dump.{IsDump}
use Rattle.gd_dump_laws.specs.Dumping.{dump_from}
use Rattle.gd_dump_laws.specs.Restoring.{EndsWhole}
use Rattle.gd_dump_laws.proofs.Texts.{one_dump}

taken_long : (n : ℕ) (list : List Batch) → n ≤ length list → length (take n list) ≡ n
taken_long zero list within = refl
taken_long (suc n) [] within = absurd (omega (arith, within))
taken_long (suc n) (b ∷ bs) within = ap suc (taken_long n bs (omega (arith, within)))

-- The dump of a list from a number on, restored to the batches before that, gives the list again.
pub restored_again : (list after : List Batch) (n : ℕ) → n ≤ length list → IsDump (dump_from n list) n (drop n list) → EndsWhole (take n list) (dump_from n list) after → after ≡ list
restored_again list after n within dump ends =
    let (same, rest) = one_dump (dump_from n list) (length (take n list)) n ends.batches (drop n list) ends.dump dump in
    ends.is ∙ ap (λ (l : List Batch). take n list ++ l) rest ∙ take-append-drop n list

-- So the dump of a whole list, restored to none, gives it again, and is dumped again as the same text.
pub restored_whole : (list after : List Batch) → IsDump (dump_from 0 list) 0 list → EndsWhole [] (dump_from 0 list) after → (after ≡ list) × (dump_from 0 after ≡ dump_from 0 list)
restored_whole list after dump ends =
    let same = restored_again list after 0 (omega arith) dump ends in
    (same, ap (dump_from 0) same)
