-- The history of a store and of the entries behind its loaded batches.
use Rattle.std.proofs.Common.{◌≡◌, refl, ℕ, ◌+◌, ◌≤◌, List, [], ◌∷◌, ◌++◌, length, map, take, drop, ap, ◌∙◌, arith}
use Rattle.std.proofs.lemmas.List.{take-append-drop, take-append-le, drop-append-le, length-take-le, length-drop}
use Rattle.std.proofs.lemmas.List.Sums.{sum_by-append, sum_by-cons}
use Rattle.gd_prim.specs.declared.Batch.{Batch}
use Rattle.gd_runs.specs.Legal as legal
use Rattle.gd_runs.specs.Legal.{History, batches, size, with_entry, history_bytes, kept_bytes}
use Rattle.gd_writer.specs.declared.entry.Entry.{Entry}
use Rattle.gd_writer.specs.Entries.{entry_view, entries_of, history_of}

-- entries have the batches that they were given
entries_batches : (es : List Entry) (bs : List Batch) → length es ≡ length bs → map (λ (e : legal.Entry). e.batch) (entries_of es bs) ≡ bs
entries_batches [] [] same = refl
entries_batches [] (b ∷ bs) same = absurd (omega (arith, same))
entries_batches (e ∷ es) [] same = absurd (omega (arith, same))
entries_batches (e ∷ es) (b ∷ bs) same = ap (λ (xs : List Batch). b ∷ xs) (entries_batches es bs (omega (arith, same)))

entries_length : (es : List Entry) (bs : List Batch) → length es ≡ length bs → length (entries_of es bs) ≡ length bs
entries_length [] [] same = refl
entries_length [] (b ∷ bs) same = absurd (omega (arith, same))
entries_length (e ∷ es) [] same = absurd (omega (arith, same))
entries_length (e ∷ es) (b ∷ bs) same = let rest = entries_length es bs (omega (arith, same)) in omega (arith, rest)

entries_more : (es : List Entry) (bs : List Batch) (e : Entry) (b : Batch) → length es ≡ length bs → entries_of (es ++ e ∷ []) (bs ++ b ∷ []) ≡ entries_of es bs ++ entry_view e b ∷ []
entries_more [] [] e b same = refl
entries_more [] (c ∷ bs) e b same = absurd (omega (arith, same))
entries_more (d ∷ es) [] e b same = absurd (omega (arith, same))
entries_more (d ∷ es) (c ∷ bs) e b same = ap (λ (xs : List legal.Entry). entry_view d c ∷ xs) (entries_more es bs e b (omega (arith, same)))

rest_length : (loaded : ℕ) (es : List Entry) (bs : List Batch) → loaded + length es ≡ length bs → length es ≡ length (drop loaded bs)
rest_length loaded es bs count = let long = length-drop loaded bs in omega (arith, long, count)

-- the batches of the history are those of the store
pub batches_is : (loaded : ℕ) (es : List Entry) (bs : List Batch) → loaded + length es ≡ length bs → batches (history_of loaded es bs) ≡ bs
batches_is loaded es bs count = ap (λ (xs : List Batch). take loaded bs ++ xs) (entries_batches es (drop loaded bs) (rest_length loaded es bs count)) ∙ take-append-drop loaded bs

-- the size of the history is their number
pub size_is : (loaded : ℕ) (es : List Entry) (bs : List Batch) → loaded + length es ≡ length bs → size (history_of loaded es bs) ≡ length bs
size_is loaded es bs count =
    let front = length-take-le loaded bs (omega (arith, count)) in
    let rest = entries_length es (drop loaded bs) (rest_length loaded es bs count) in
    let long = length-drop loaded bs in
    omega (arith, front, rest, long, count)

-- a batch and an entry more are an entry more
pub history_more : (loaded : ℕ) (es : List Entry) (bs : List Batch) (e : Entry) (b : Batch) → loaded + length es ≡ length bs → history_of loaded (es ++ e ∷ []) (bs ++ b ∷ []) ≡ with_entry (history_of loaded es bs) (entry_view e b)
history_more loaded es bs e b count =
    let below : loaded ≤ length bs = omega (arith, count) in
    ap (λ (xs : List Batch). let h : History = record { loaded = xs; entries = entries_of (es ++ e ∷ []) (drop loaded (bs ++ b ∷ [])) } in h) (take-append-le loaded bs (b ∷ []) below)
    ∙ ap (λ (xs : List Batch). let h : History = record { loaded = take loaded bs; entries = entries_of (es ++ e ∷ []) xs } in h) (drop-append-le loaded bs (b ∷ []) below)
    ∙ ap (λ (xs : List legal.Entry). let h : History = record { loaded = take loaded bs; entries = xs } in h) (entries_more es (drop loaded bs) e b (rest_length loaded es bs count))

-- and keep their bytes
pub bytes_more : (h : History) (e : legal.Entry) → history_bytes (with_entry h e) ≡ history_bytes h + kept_bytes e.bytes e.result
bytes_more h e =
    let all = sum_by-append (λ (x : legal.Entry). kept_bytes x.bytes x.result) h.entries (e ∷ []) in
    let one = sum_by-cons (λ (x : legal.Entry). kept_bytes x.bytes x.result) e [] in
    omega (arith, all, one)
