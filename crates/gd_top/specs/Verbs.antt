-- What a verb prints, on the way: over a disk, and over the store that a command names.
use Rattle.std.specs.Prelude.{ℕ, List, Bool, Option, IsTrue}
use Rattle.std.specs.Option.{is_some}
use Rattle.gd_words.specs.Verbs.{Verb, serves, caches, replays, dumps, restores, follows, answers, generates}
use Rattle.gd_replay.specs.Stops.{Leaves as LeavesEvents}
use Rattle.gd_top.specs.declared.status.Status.{Status}
use Rattle.gd_top.specs.Dumps.{PrintsDump}
use Rattle.gd_top.specs.Follows.{LeavesNode, LeavesNodeAt, PrintsNode}
use Rattle.gd_top.specs.Generates.{PrintsSummary}
use Rattle.gd_top.specs.Held.{Loads, Leaves, BeginsWith, EndsWith}
use Rattle.gd_top.specs.Answers.{PrintsAnswers}
use Rattle.gd_top.specs.Replays.{is_told_at, LeavesAt, PrintsEvents}
use Rattle.gd_top.specs.Restores.{LeavesBatches, LeavesBatchesAt, RestoresText}
use Rattle.gd_top.specs.Counted.{PrintsCounted}
use Rattle.gd_top.specs.Serves.{PrintsLines}

-- what a verb printed over a disk that told this content before, and of which a stop leaves these images afterwards
abbrev pub PrintsOver : Verb → Status → (ℕ → Bool) → Option (List ℕ) → (List ℕ → Type 0) → (ℕ → Type 0) → Type 0 → (left left_now held_old held_new : Option (List ℕ)) → Type 0
PrintsOver serves s may told images rises unbegun left left_now held_old held_new = PrintsLines s may (Loads told) (Leaves may told images) rises unbegun left left_now held_old held_new
PrintsOver (caches n) s may told images rises unbegun left left_now held_old held_new = PrintsCounted n s may (Loads told) (Leaves may told images) rises unbegun left left_now held_old held_new
PrintsOver replays s may told images rises unbegun left left_now held_old held_new = PrintsEvents s (is_some told) may (Loads told) (λ t. IsTrue (is_some told) → LeavesEvents images t) rises unbegun left held_old held_new
PrintsOver (dumps from) s may told images rises unbegun left left_now held_old held_new = PrintsDump s (Loads told) unbegun from held_old held_new
PrintsOver restores s may told images rises unbegun left left_now held_old held_new = RestoresText s (Loads told) (LeavesBatches told images) unbegun left
PrintsOver answers s may told images rises unbegun left left_now held_old held_new = PrintsAnswers s (Loads told) unbegun left held_old held_new
PrintsOver follows s may told images rises unbegun left left_now held_old held_new = PrintsNode s (Loads told) (LeavesNode told images) rises unbegun left held_old held_new
PrintsOver (generates number count) s may told images rises unbegun left left_now held_old held_new = PrintsSummary s may (Loads told) rises unbegun number count held_old held_new

-- what a verb printed over the file at a path of a shelf, by what it held before and what a stop leaves afterwards, or without a file over a store in memory
abbrev pub PrintsAt : Verb → Status → (ℕ → Bool) → (List ℕ → Option (List ℕ)) → (List ℕ → List ℕ → Type 0) → Option (List ℕ) → (ℕ → Type 0) → Type 0 → (left left_now held_old held_new : Option (List ℕ)) → Type 0
PrintsAt serves s may content images path rises unbegun left left_now held_old held_new = PrintsLines s may (BeginsWith content path) (EndsWith may content images path) rises unbegun left left_now held_old held_new
PrintsAt (caches n) s may content images path rises unbegun left left_now held_old held_new = PrintsCounted n s may (BeginsWith content path) (EndsWith may content images path) rises unbegun left left_now held_old held_new
PrintsAt replays s may content images path rises unbegun left left_now held_old held_new = PrintsEvents s (is_told_at content path) may (BeginsWith content path) (LeavesAt content images path) rises unbegun left held_old held_new
PrintsAt (dumps from) s may content images path rises unbegun left left_now held_old held_new = PrintsDump s (BeginsWith content path) unbegun from held_old held_new
PrintsAt restores s may content images path rises unbegun left left_now held_old held_new = RestoresText s (BeginsWith content path) (LeavesBatchesAt content images path) unbegun left
PrintsAt answers s may content images path rises unbegun left left_now held_old held_new = PrintsAnswers s (BeginsWith content path) unbegun left held_old held_new
PrintsAt follows s may content images path rises unbegun left left_now held_old held_new = PrintsNode s (BeginsWith content path) (LeavesNodeAt content images path) rises unbegun left held_old held_new
PrintsAt (generates number count) s may content images path rises unbegun left left_now held_old held_new = PrintsSummary s may (BeginsWith content path) rises unbegun number count held_old held_new
