-- The entries of a history, as a write side keeps them beside the store.
use Rattle.std.specs.Prelude.{ℕ, List, [], ◌∷◌, take, drop}
use Rattle.gd_prim.specs.declared.Batch.{Batch}
use Rattle.gd_json.specs.View.{view}
use Rattle.gd_mql.specs.Requests.{write_view}
use Rattle.gd_runs.specs.Legal as legal
use Rattle.gd_writer.specs.declared.entry.Entry.{Entry}

-- the entry of a history that this is, with its batch
abbrev pub entry_view : Entry → Batch → legal.Entry
entry_view e batch = record { line = e.line; bytes = e.bytes; request = write_view e.request.value; moment = e.moment; batch = batch; result = view e.answer.value }

-- entries with their batches, in order
abbrev pub entries_of : List Entry → List Batch → List legal.Entry
entries_of [] bs = []
entries_of (e ∷ es) [] = []
entries_of (e ∷ es) (b ∷ bs) = entry_view e b ∷ entries_of es bs

-- the history of a store, the first so many of whose batches were loaded, and of the entries behind them
abbrev pub history_of : ℕ → List Entry → List Batch → legal.History
history_of loaded es bs = record { loaded = take loaded bs; entries = entries_of es (drop loaded bs) }
