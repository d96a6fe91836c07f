-- What a node prints for an ask, and for a group that it is given.
use Rattle.std.specs.Prelude.{◌≡◌, ◌⊎◌, ℕ, ◌<◌, List, [], ◌∷◌, ◌++◌, length, Some, IsSome, slice_get, codes}
use Rattle.hex.specs.Hex.{encode_lower}
use Rattle.gd_prim.specs.declared.Batch.{Batch}
use Rattle.gd_tree.specs.Json.{Json, text, object}
use Rattle.gd_defs.specs.Lines.{Refusal, count_json, object_of, ok_line, err_line, refusal, cursor_ahead}
use Rattle.gd_bytes.specs.Group.{spelling, IsGroup, IsBadGroupAt}
use Rattle.gd_runs.specs.Explained.{memory_line, disk_line}
use Rattle.gd_follow_laws.specs.Given as outcome
use Rattle.gd_follow_laws.specs.Given.{Outcome, Comes}
use Rattle.gd_follow_laws.specs.World.{Node, Run, Settled, certain}
use Rattle.gd_follow.specs.Asks.{run_of, IsLongest}

-- the reply line of a word, at so many entries
abbrev pub word_line : ℕ → ℕ → List ℕ → List ℕ
word_line entries k word = ok_line entries k (text word)

-- ---- an ask

-- the result of an ask: from which number on, and the group in hexadecimal digits
abbrev pub part_json : ℕ → List Batch → Json
part_json from group = object (object_of ((codes "from", count_json from) ∷ (codes "group", text (encode_lower (spelling group))) ∷ []))

-- the refusal of a batch whose group alone has so many bytes
abbrev pub too_large : (bytes entry : ℕ) → Refusal
too_large bytes entry = refusal (codes "BatchTooLarge") ((codes "bytes", count_json bytes) ∷ (codes "entry", count_json entry) ∷ [])

-- the batch of this number alone has a group of more than 500,000 bytes, of which there are so many
abbrev pub IsTooLarge : List Batch → ℕ → ℕ → Type 0
IsTooLarge list entry bytes = (b : Batch) × (slice_get list entry ≡ Some b) × (bytes ≡ length (spelling (b ∷ []))) × (500_000 < bytes)

-- Line k, an ask for at most so many batches from a number on, is answered so over a list: the number lies behind it; it has no batch of this number yet; that batch is too large; or the longest run is told.
abbrev pub AskReply : List Batch → ℕ → ℕ → ℕ → List ℕ → Type 0
AskReply list k from most reply =
    ((length list < from) × (reply ≡ err_line (length list) k (cursor_ahead from (length list))))
    ⊎ (((from ≡ length list) × (reply ≡ word_line (length list) k (codes "nothing")))
    ⊎ (((bytes : ℕ) × IsTooLarge list from bytes × (reply ≡ err_line (length list) k (too_large bytes from)))
    ⊎ ((from < length list) × ((count : ℕ) × (0 < count) × IsLongest list from most count × (reply ≡ ok_line (length list) k (part_json from (run_of list from count)))))))

-- ---- a group that is given

-- the refusal of bytes that are no group, of which so many go with some group
abbrev pub bad_group : ℕ → Refusal
bad_group offset = refusal (codes "BadGroup") ((codes "offset", count_json offset) ∷ [])

-- the line of an outcome, at so many entries
abbrev pub outcome_line : ℕ → ℕ → Outcome → List ℕ
outcome_line k entries outcome.gap = word_line entries k (codes "gap")
outcome_line k entries outcome.known = word_line entries k (codes "known")
outcome_line k entries outcome.taken = word_line entries k (codes "taken")
outcome_line k entries (outcome.fork at) = err_line entries k (refusal (codes "Fork") ((codes "at", count_json at) ∷ []))
outcome_line k entries (outcome.unfit entry) = err_line entries k (refusal (codes "Unfit") ((codes "entry", count_json entry) ∷ []))

-- the list after an outcome: what is taken stands behind it
abbrev pub list_after : List Batch → Run → Outcome → List Batch
list_after list run outcome.taken = list ++ outcome.past list run.from run.group
list_after list run _ = list

-- a group that comes to this outcome over a list is answered so, with the number of entries that there are then
abbrev pub Outcomes : List Batch → Run → ℕ → List ℕ → Node → Type 0
Outcomes list run k reply after = (o : Outcome) × Comes list run.from run.group o × (after ≡ certain (list_after list run o)) × (reply ≡ outcome_line k (length (list_after list run o)) o)

-- a group that may be taken was not appended for certain: the disk failed, and it is in doubt
abbrev pub IsLeftInDoubt : List Batch → Run → ℕ → List ℕ → Node → Type 0
IsLeftInDoubt list run k reply after = Comes list run.from run.group outcome.taken × (after ≡ record { list = list; doubt = Some (outcome.past list run.from run.group) }) × (reply ≡ disk_line k (codes "maybe"))

-- Line k, these batches from a number on, is answered so by a node: the disk failed while an earlier doubt was to be ended, which stays; or the doubt is ended, and the group comes to an outcome, or is left in doubt.
abbrev pub GroupReply : Node → Run → ℕ → List ℕ → Node → Type 0
GroupReply node run k reply after =
    (IsSome node.doubt × (after ≡ node) × (reply ≡ disk_line k (codes "no")))
    ⊎ ((list : List Batch) × Settled node list × (Outcomes list run k reply after ⊎ IsLeftInDoubt list run k reply after))

-- there was no memory, and nothing of a group was stored, whether a doubt was ended or not
abbrev pub LacksMemory : Node → ℕ → List ℕ → Node → Type 0
LacksMemory node k reply after = (reply ≡ memory_line k) × ((after ≡ node) ⊎ ((list : List Batch) × Settled node list × (after ≡ certain list)))

-- Line k, these bytes as a group from a number on, is answered so by a node, which is so afterwards: they are no group, and nothing is changed; they are one that is answered; or there was no memory.
abbrev pub GiveReply : Node → ℕ → ℕ → List ℕ → List ℕ → Node → Type 0
GiveReply node k from bytes reply after =
    ((offset : ℕ) × IsBadGroupAt bytes offset × (reply ≡ err_line (length node.list) k (bad_group offset)) × (after ≡ node))
    ⊎ (((group : List Batch) × IsGroup bytes group × GroupReply node (record { from = from; group = group }) k reply after)
    ⊎ LacksMemory node k reply after)
