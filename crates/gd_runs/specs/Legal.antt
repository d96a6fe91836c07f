-- Histories with their requests, and which are legal.
use Rattle.std.specs.Prelude.{◌≡◌, ℕ, ◌+◌, ◌<◌, List, [], ◌∷◌, ◌++◌, length, map, sum_by, slice_get, nat_lt, Some, Result, Ok, Err, if◌then◌else◌, IsTrue}
use Rattle.gd_prim.specs.declared.Batch.{Batch}
use Rattle.gd_prim.specs.declared.What.TheVariants as what
use Rattle.gd_prim.specs.Builtin.{builtin}
use Rattle.gd_defs.specs.History.{prims_at}
use Rattle.gd_grammar.specs.Chain.{◌>>=◌}
use Rattle.gd_tree.specs.Json.{Json, compact}
use Rattle.gd_prim.specs.WellFormed.{all_follow}
use Rattle.gd_defs.specs.Write.{WriteRequest, ChangeFault, full, exec}

-- an entry, a write that was stored: the number and the length of its line, its request, its moment, its batch and its result
pub record Entry : Type 0 where
  pub line : ℕ
  pub bytes : ℕ
  pub request : WriteRequest
  pub moment : ℕ
  pub batch : Batch
  pub result : Json

-- a history: the batches that the file gave at opening, and then the entries of this run
pub record History : Type 0 where
  pub loaded : List Batch
  pub entries : List Entry

-- the batches of a history, in order
abbrev pub batches : History → List Batch
batches h = h.loaded ++ map (λ e. e.batch) h.entries

-- the size of a history: its batches and its entries, counted alike
abbrev pub size : History → ℕ
size h = length h.loaded + length h.entries

-- a history and one entry more
abbrev pub with_entry : History → Entry → History
with_entry h e = record { loaded = h.loaded; entries = h.entries ++ e ∷ [] }

-- a history and further entries
abbrev pub with_entries : History → List Entry → History
with_entries h es = record { loaded = h.loaded; entries = h.entries ++ es }

-- the bytes that an entry keeps: those of its line, and those of its result
abbrev pub kept_bytes : ℕ → Json → ℕ
kept_bytes bytes result = bytes + length (compact result)

-- the greatest number of bytes that the entries of a history keep
abbrev pub max_history : ℕ
max_history = 134_217_728

-- the bytes that the entries of a history keep
abbrev pub history_bytes : History → ℕ
history_bytes h = sum_by (λ e. kept_bytes e.bytes e.result) h.entries

-- a batch and its result, unless the entries would keep too many bytes
abbrev pub within_history : ℕ → Batch × Json → Result (Batch × Json) ChangeFault
within_history n done = if nat_lt max_history n then Err (full what.History n) else Ok done

-- what a write of a line of so many bytes does at a moment after a history, or why it is refused
abbrev pub exec_line : History → WriteRequest → ℕ → ℕ → Result (Batch × Json) ChangeFault
exec_line h w moment bytes = exec (prims_at (batches h) (size h)) (size h) w moment >>= λ done. within_history (history_bytes h + kept_bytes bytes done.1) done

-- an entry is what its request does after a history
abbrev pub IsEntryAfter : History → Entry → Type 0
IsEntryAfter h e = exec_line h e.request e.moment e.bytes ≡ Ok (e.batch, e.result)

-- entries are what their requests do, each after a history and the entries before it
abbrev pub AreEntriesAfter : History → List Entry → Type 0
AreEntriesAfter h [] = Unit {0}
AreEntriesAfter h (e ∷ es) = IsEntryAfter h e × AreEntriesAfter (with_entry h e) es

-- a history is legal: its batches may follow one another, its entries are what their requests do, and no two of them have one line
pub record IsLegal (h : History) : Type 0 where
  pub loaded : IsTrue (all_follow builtin 0 h.loaded)
  pub entries : AreEntriesAfter (record { loaded = h.loaded; entries = [] }) h.entries
  pub lines : (i j : ℕ) (x y : Entry) → slice_get h.entries i ≡ Some x → slice_get h.entries j ≡ Some y → i < j → x.line ≡ y.line → ⊥

-- the entries that stand below n, where the first one stands at a place
abbrev pub take_below : ℕ → ℕ → List Entry → List Entry
take_below place n [] = []
take_below place n (e ∷ es) = if nat_lt place n then e ∷ take_below (place + 1) n es else []

-- the front of a history of this size, with all of its loaded batches
abbrev pub upto : ℕ → History → History
upto n h = record { loaded = h.loaded; entries = take_below (length h.loaded) n h.entries }
