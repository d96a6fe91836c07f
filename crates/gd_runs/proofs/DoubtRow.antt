-- A write at which the disk fails, and the write behind it: the first one counts or it does not, and a legal history says so either way.
use Rattle.std.proofs.Common.{◌≡◌, refl, ℕ, zero, suc, ◌<◌, List, [], ◌∷◌, codes, Result, Ok, Err, None, Some, arith}
use Rattle.std.specs.Prelude.{slice_get}
use Rattle.gd_prim.specs.declared.Batch.{Batch}
use Rattle.gd_tree.specs.Json.{Json, null}
use Rattle.gd_defs.specs.Change as change
use Rattle.gd_defs.specs.Write.{one_change, WriteRequest, ChangeFault}
use Rattle.gd_runs.specs.Request.{Line, write, exec_after}
use Rattle.gd_runs.specs.Input.{line_from, InputFault}
use Rattle.gd_runs.specs.Legal.{Entry, History, IsLegal}
use Rattle.gd_runs.specs.Explained.{stored, in_doubt, Prints}
use Rattle.gd_runs.proofs.Plain.{computing}

abbrev first_bytes : List ℕ
first_bytes = codes "{\"sid\":0,\"write\":{\"query\":{\"create\":\"unconditional\",\"name\":\"A\"}}}"

abbrev second_bytes : List ℕ
second_bytes = codes "{\"sid\":0,\"write\":{\"query\":{\"create\":\"unconditional\",\"guid\":null,\"name\":\"B\"}}}"

abbrev request_of : Result Line InputFault → WriteRequest
request_of (Ok (write s w)) = w
request_of _ = record { scope = None; asks = one_change (record { root = change.to_create change.unconditional; members = change.no_members }) }

abbrev done_of : Result (Batch × Json) ChangeFault → Batch × Json
done_of (Ok done) = done
done_of (Err f) = (record { moment = 0; prims = [] }, null)

-- the entry of a line with a write over some batches, at moment 0
abbrev entry_of : List Batch → ℕ → ℕ → List ℕ → Entry
entry_of batches k bytes line =
    let request : WriteRequest = request_of (line_from line) in
    let done : Batch × Json = done_of (exec_after batches request 0) in
    record { line = k; bytes = bytes; request = request; moment = 0; batch = done.0; result = done.1 }

-- the first write, and the second one behind it or alone
abbrev first : Entry
first = entry_of [] 0 65 first_bytes

abbrev behind : Entry
behind = entry_of (first.batch ∷ []) 1 77 second_bytes

abbrev alone : Entry
alone = entry_of [] 1 77 second_bytes

-- the first write counts
abbrev with_it : History
with_it = record { loaded = []; entries = first ∷ behind ∷ [] }

-- it does not
abbrev without_it : History
without_it = record { loaded = []; entries = alone ∷ [] }

-- the first line is told that its write may be stored, by either history
abbrev doubt_reply : List ℕ
doubt_reply = codes "{\"code\":\"/api/status/error\",\"error\":\"DiskFault\",\"info\":{\"stored\":\"maybe\"},\"line\":0}"

pub told_with : Prints with_it 0 first_bytes in_doubt doubt_reply
unfolding computing
told_with = ((0, request_of (line_from first_bytes), refl), refl)

pub told_without : Prints without_it 0 first_bytes in_doubt doubt_reply
unfolding computing
told_without = ((0, request_of (line_from first_bytes), refl), refl)

-- the second write is stored behind it, as object 72 at dateline 2
pub stored_behind : Prints with_it 1 second_bytes (stored 1)
    (codes "{\"code\":\"/api/status/ok\",\"dateline\":2,\"line\":1,\"result\":{\"create\":\"created\",\"guid\":\"#00000000000000010000000000000048\",\"name\":\"B\"}}")
unfolding computing
stored_behind = (behind, 0, (refl, refl), refl, refl)

-- or alone, as object 70 at dateline 1
pub stored_alone : Prints without_it 1 second_bytes (stored 0)
    (codes "{\"code\":\"/api/status/ok\",\"dateline\":1,\"line\":1,\"result\":{\"create\":\"created\",\"guid\":\"#00000000000000010000000000000046\",\"name\":\"B\"}}")
unfolding computing
stored_alone = (alone, 0, (refl, refl), refl, refl)

-- both histories are legal
pub legal_with : IsLegal with_it
unfolding computing
legal_with = record { loaded = refl; entries = (refl, (refl, tt)); lines = apart }
  where
    apart : (i j : ℕ) (x y : Entry) → slice_get with_it.entries i ≡ Some x → slice_get with_it.entries j ≡ Some y → i < j → x.line ≡ y.line → ⊥
    apart i zero x y a b before same = absurd (omega (arith, before))
    apart zero (suc zero) x y a b before same = numbers (some_lines a b same)
      where
        some_lines : Some first ≡ Some x → Some behind ≡ Some y → x.line ≡ y.line → first.line ≡ behind.line
        some_lines a b same = let one : first ≡ x = cc in let two : behind ≡ y = cc in cc

        numbers : ◌≡◌ {A = ℕ} 0 1 → ⊥
        numbers wrong = omega (arith, wrong)
    apart (suc i) (suc zero) x y a b before same = absurd (omega (arith, before))
    apart i (suc (suc j)) x y a b before same = absurd (cc)

pub legal_without : IsLegal without_it
unfolding computing
legal_without = record { loaded = refl; entries = (refl, tt); lines = apart }
  where
    apart : (i j : ℕ) (x y : Entry) → slice_get without_it.entries i ≡ Some x → slice_get without_it.entries j ≡ Some y → i < j → x.line ≡ y.line → ⊥
    apart i zero x y a b before same = absurd (omega (arith, before))
    apart i (suc j) x y a b before same = absurd (cc)
