-- The same where the input is known, and nothing where it is not.
use Rattle.std.proofs.Common.{◌≡◌, ℕ, ◌+◌, Bool, true, false, List, [], ◌++◌, length, take, Option, Some, None, IfSome, Result, Ok, Err, OnErr, OnOk, refl, sym, subst, ap, ◌∙◌, arith, length-append, append_assoc, append-nil, take_all}
use Rattle.std.specs.Io.KnownBytes.{Keeps, prepend_known}
use Rattle.std.proofs.KnownBytes.{Consumes-nil, Appends-kept, Keeps-refl}
use Rattle.gd_base.specs.Counts.{RoseBy}
use Rattle.gd_replay_laws.proofs.Faults.{rose_then}
use Rattle.gd_prim.specs.declared.Batch.{Batch}
use Rattle.gd_outside.specs.declared.Failed.{Failed}
use Rattle.gd_runs.specs.Explained.{Numbered, lines_of}
use Rattle.gd_runs.specs.Core.{State, opened}
use Rattle.gd_input.specs.declared.fault.InputFault.{InputFault}
use Rattle.gd_input.specs.declared.fault.InputFault.TheVariants as input
use Rattle.gd_input.specs.declared.piece.Piece.{Piece}
use Rattle.gd_input.specs.Line.{IsKept}
use Rattle.gd_input.specs.Pieces.{Known, Advances, TakesPiece}
use Rattle.gd_journal.specs.declared.fault.JournalFault.{JournalFault}
use Rattle.gd_journal.specs.declared.fault.JournalFault.TheVariants as journal
use Rattle.gd_replay.specs.declared.stop.Stop.{Stop}
use Rattle.gd_replay.specs.declared.stop.Stop.TheVariants as stop
use Rattle.gd_replay.specs.Stops.{stop_of, IsCaused, end_faults, RoseWith, IfUnopened, EndsAs, EndsBy, EndsSent}
use Rattle.gd_runs.specs.Pace.{Left}
use Rattle.gd_replay_laws.specs.Paced.{AreWithin}
use Rattle.gd_replay.specs.Replays.{Accounts, Replays, ReplaysTaken, ReplaysFront}
use Rattle.gd_replay.specs.Runs.{LineLost, PiecePrints, PieceStops, RunUpto}
use Rattle.gd_replay.proofs.Upto.{upto_start, upto_more, upto_end, upto_taken, upto_front}

-- ---- counts

-- an end that is no failure of the disk
rose_alone : (a b n : ℕ) → RoseBy a b n → RoseBy a b (n + 0)
rose_alone a b n rose = omega (arith, rose)

-- ---- the loop

pub start_known : (told : Bool) (may : ℕ → Bool) (loaded : List Batch) (held : Option (List ℕ)) (n : ℕ) (had : Left) → AreWithin had (λ i. 0) → (x : Option (List ℕ)) → Known x (prepend_known [] x) (RunUpto told may loaded held held n n 0 (opened loaded) had)
start_known told may loaded held n had none None = tt
start_known told may loaded held n had none (Some x) = upto_start told may loaded held n had none x

-- nothing was taken yet
pub advances_none : (a : Option (List ℕ)) → Advances a (prepend_known [] a) 0 0
advances_none None = record { bytes = []; consumed = Consumes-nil None; counted = refl }
advances_none (Some x) = record { bytes = []; consumed = Consumes-nil (Some x); counted = refl }

-- what was taken, and a piece more
pub advances_then : (a b c : Option (List ℕ)) (n m : ℕ) → Advances a b 0 n → Advances b c n m → Advances a c 0 m
advances_then None b c n m first more = let long = length-append first.bytes more.bytes in record { bytes = first.bytes ++ more.bytes; consumed = tt; counted = omega (arith, first.counted, more.counted, long) }
advances_then (Some x) None c n m first more = absurd first.consumed
advances_then (Some x) (Some y) None n m first more = absurd more.consumed
advances_then (Some x) (Some y) (Some z) n m first more =
    let long = length-append first.bytes more.bytes in
    record { bytes = first.bytes ++ more.bytes; consumed = joined first.bytes more.bytes first.consumed more.consumed; counted = omega (arith, first.counted, more.counted, long) }
  where
    joined : (bs cs : List ℕ) → x ≡ bs ++ y → y ≡ cs ++ z → x ≡ (bs ++ cs) ++ z
    joined bs cs p q = p ∙ (ap (λ (l : List ℕ). bs ++ l) q ∙ sym (append_assoc bs cs z))

module _ (told : Bool) (may : ℕ → Bool) (loaded : List Batch) (old mid new : Option (List ℕ)) (a b c : ℕ) (k : ℕ) (s : State) (had : Left) where
  -- a piece more
  pub more_known : (n : ℕ) (t : State) (has : Left) (x y z : Option (List ℕ)) (piece : Piece) → piece.by_newline ≡ true → Known x y (RunUpto told may loaded old mid a b k s had) → Known y z (TakesPiece piece)
      → ((bytes : List ℕ) → IsKept 262_144 piece.line bytes → PiecePrints told may s k bytes t n mid new b c had has) → Known x z (RunUpto told may loaded old new a c n t has)
  more_known n t has None y z piece newline upto takes prints = tt
  more_known n t has (Some x) None z piece newline upto takes prints = absurd upto
  more_known n t has (Some x) (Some y) None piece newline upto takes prints = absurd takes
  more_known n t has (Some x) (Some y) (Some z) piece newline upto takes prints = upto_more told may loaded old mid new a b c k n s t had has x y z piece upto takes newline (prints takes.line takes.kept)

  -- the last one
  pub done_known : (leaves : State → Type 0) (n : ℕ) (t : State) (has : Left) (x y z : Option (List ℕ)) (piece : Piece) → piece.by_newline ≡ false → Known x y (RunUpto told may loaded old mid a b k s had) → Known y z (TakesPiece piece)
      → ((bytes : List ℕ) → IsKept 262_144 piece.line bytes → PiecePrints told may s k bytes t n mid new b c had has) → leaves t → IfSome x (Replays told may (λ l. l ≡ loaded) leaves (RoseWith a c (Ok tt)) old new)
  done_known leaves n t has None y z piece last upto takes prints left = tt
  done_known leaves n t has (Some x) None z piece last upto takes prints left = absurd upto
  done_known leaves n t has (Some x) (Some y) None piece last upto takes prints left = absurd takes
  done_known leaves n t has (Some x) (Some y) (Some z) piece last upto takes prints left = upto_end told may loaded leaves (RoseWith a c (Ok tt)) a b c (rose_alone a c) old mid new k n s t had has x y z piece upto takes last (prints takes.line takes.kept) left

  -- a line of which nothing was printed
  lost_some : (leaves : State → Type 0) (why : Stop) (x y : List ℕ) → RunUpto told may loaded old mid a b k s had x y → LineLost s leaves mid new b c (end_faults (Err why)) → ReplaysTaken told may (λ l. l ≡ loaded) leaves (RoseWith a c (Err why)) old new x
  lost_some leaves why x y upto lost =
      upto_taken told may loaded leaves (RoseWith a c (Err why)) a b (λ n rose. rose_then a b c n (end_faults (Err why)) rose lost.rose) old mid new k s had x y upto lost.left lost.kept

  -- a piece at which it stops
  stops_some : (leaves : State → Type 0) (why : Stop) (x y z : List ℕ) (piece : Piece) → RunUpto told may loaded old mid a b k s had x y → (takes : TakesPiece piece y z) → PieceStops told may s k takes.line leaves why mid new b c had
      → EndsAs (Err why) (Replays told may (λ l. l ≡ loaded) leaves (RoseWith a c (Err why)) old new x) (ReplaysTaken told may (λ l. l ≡ loaded) leaves (RoseWith a c (Err why)) old new x) (ReplaysFront told may (λ l. l ≡ loaded) leaves (RoseWith a c (Err why)) old new x) ⊥
  stops_some leaves stop.ReadFault x y z piece upto takes stops = absurd stops
  stops_some leaves stop.TooMuch x y z piece upto takes stops = absurd stops
  stops_some leaves (stop.Unopened f) x y z piece upto takes stops = stops
  stops_some leaves stop.SinkFault x y z piece upto takes stops = upto_front told may loaded leaves (RoseWith a c (Err stop.SinkFault)) a b c (rose_alone a c) old mid new k s had x y z piece upto takes stops
  stops_some leaves stop.Memory x y z piece upto takes stops = lost_some leaves stop.Memory x y upto stops
  stops_some leaves (stop.Lost f) x y z piece upto takes stops = lost_some leaves (stop.Lost f) x y upto stops

  stops_none : (why : Stop) (p q : Type 0) (whole between within : Type 0) → between → within → IsCaused why p q → EndsAs (Err why) whole between within ⊥
  stops_none stop.ReadFault p q whole between within m n caused = m
  stops_none stop.TooMuch p q whole between within m n caused = m
  stops_none (stop.Unopened f) p q whole between within m n caused = caused
  stops_none stop.SinkFault p q whole between within m n caused = n
  stops_none stop.Memory p q whole between within m n caused = m
  stops_none (stop.Lost f) p q whole between within m n caused = m

  pub stops_known : (leaves : State → Type 0) (why : Stop) (p q : Type 0) → IsCaused why p q → (x y z : Option (List ℕ)) (piece : Piece) → Known x y (RunUpto told may loaded old mid a b k s had) → Known y z (TakesPiece piece)
      → ((bytes : List ℕ) → IsKept 262_144 piece.line bytes → PieceStops told may s k bytes leaves why mid new b c had)
      → EndsAs (Err why) (IfSome x (Replays told may (λ l. l ≡ loaded) leaves (RoseWith a c (Err why)) old new)) (IfSome x (ReplaysTaken told may (λ l. l ≡ loaded) leaves (RoseWith a c (Err why)) old new))
      (IfSome x (ReplaysFront told may (λ l. l ≡ loaded) leaves (RoseWith a c (Err why)) old new)) ⊥
  stops_known leaves why p q caused None y z piece upto takes stops = stops_none why p q _ _ _ tt tt caused
  stops_known leaves why p q caused (Some x) None z piece upto takes stops = absurd upto
  stops_known leaves why p q caused (Some x) (Some y) None piece upto takes stops = absurd takes
  stops_known leaves why p q caused (Some x) (Some y) (Some z) piece upto takes stops = stops_some leaves why x y z piece upto takes (stops takes.line takes.kept)

-- the input could not be read further
pub input_known : (told : Bool) (may : ℕ → Bool) (loaded : List Batch) (leaves : State → Type 0) (old new : Option (List ℕ)) (a b : ℕ) (k : ℕ) (s : State) (had : Left) (fault : InputFault) (x y : Option (List ℕ)) → Known x y (RunUpto told may loaded old new a b k s had) → leaves s
    → EndsAs (Err (stop_of fault)) (IfSome x (Replays told may (λ l. l ≡ loaded) leaves (RoseWith a b (Err (stop_of fault))) old new)) (IfSome x (ReplaysTaken told may (λ l. l ≡ loaded) leaves (RoseWith a b (Err (stop_of fault))) old new))
    (IfSome x (ReplaysFront told may (λ l. l ≡ loaded) leaves (RoseWith a b (Err (stop_of fault))) old new)) ⊥
input_known told may loaded leaves old new a b k s had fault None y upto left = by fault
  where
    by : (f : InputFault) → EndsAs (Err (stop_of f)) (Unit {0}) (Unit {0}) (Unit {0}) ⊥
    by input.Failed = tt
    by input.TooMuch = tt
    by input.Memory = tt
input_known told may loaded leaves old new a b k s had fault (Some x) None upto left = absurd upto
input_known told may loaded leaves old new a b k s had fault (Some x) (Some y) upto left = by fault
  where
    taken : (rises : ℕ → Type 0) → ((n : ℕ) → RoseBy a b n → rises n) → ReplaysTaken told may (λ l. l ≡ loaded) leaves rises old new x
    taken rises rose = upto_taken told may loaded leaves rises a b rose old new new k s had x y upto left (Keeps-refl new)

    by : (f : InputFault) → EndsAs (Err (stop_of f)) (Replays told may (λ l. l ≡ loaded) leaves (RoseWith a b (Err (stop_of f))) old new x) (ReplaysTaken told may (λ l. l ≡ loaded) leaves (RoseWith a b (Err (stop_of f))) old new x)
        (ReplaysFront told may (λ l. l ≡ loaded) leaves (RoseWith a b (Err (stop_of f))) old new x) ⊥
    by input.Failed = taken (RoseWith a b (Err stop.ReadFault)) (rose_alone a b)
    by input.TooMuch = taken (RoseWith a b (Err stop.TooMuch)) (rose_alone a b)
    by input.Memory = taken (RoseWith a b (Err stop.Memory)) (rose_alone a b)

-- ---- a run that was begun

pub caused_begun : (why : Stop) (p q : Type 0) → IsCaused why p q → IfUnopened (Err why) ⊥
caused_begun stop.ReadFault p q caused = tt
caused_begun stop.TooMuch p q caused = tt
caused_begun stop.SinkFault p q caused = tt
caused_begun stop.Memory p q caused = tt
caused_begun (stop.Lost f) p q caused = tt
caused_begun (stop.Unopened f) p q caused = caused

pub input_begun : (fault : InputFault) → IfUnopened (Err (stop_of fault)) ⊥
input_begun input.Failed = tt
input_begun input.TooMuch = tt
input_begun input.Memory = tt

-- whether its output was sent on or not
pub sent_begun : (end : Result (Unit {0}) Stop) (sent : Result (Unit {0}) Failed) (result : Result (Unit {0}) Stop) (idle : Type 0) → EndsSent end sent result → IfUnopened end ⊥ → IfUnopened result idle
sent_begun (Ok u) (Ok v) result idle is begun = rw is tt
sent_begun (Ok u) (Err e) result idle is begun = rw is tt
sent_begun (Err stop.ReadFault) sent result idle is begun = rw is tt
sent_begun (Err stop.TooMuch) sent result idle is begun = rw is tt
sent_begun (Err stop.SinkFault) sent result idle is begun = rw is tt
sent_begun (Err stop.Memory) sent result idle is begun = rw is tt
sent_begun (Err (stop.Lost f)) sent result idle is begun = rw is tt
sent_begun (Err (stop.Unopened f)) sent result idle is begun = absurd begun

-- ---- causes

pub caused_ends : (why : Stop) (read_failed sink_failed disk_failed is_long : Type 0) → IsCaused why sink_failed disk_failed → EndsBy (Err why) read_failed sink_failed disk_failed is_long
caused_ends stop.ReadFault r s d l caused = absurd caused
caused_ends stop.TooMuch r s d l caused = absurd caused
caused_ends (stop.Unopened f) r s d l caused = absurd caused
caused_ends stop.SinkFault r s d l caused = caused
caused_ends stop.Memory r s d l caused = tt
caused_ends (stop.Lost journal.DiskFault) r s d l caused = caused
caused_ends (stop.Lost journal.NotStore) r s d l caused = tt
caused_ends (stop.Lost (journal.Damaged offset)) r s d l caused = tt
caused_ends (stop.Lost journal.Memory) r s d l caused = tt

-- the store was not opened
pub unopened_ends : (fault : JournalFault) (read_failed sink_failed disk_failed is_long : Type 0) → (fault ≡ journal.DiskFault → disk_failed) → EndsBy (Err (stop.Unopened fault)) read_failed sink_failed disk_failed is_long
unopened_ends journal.DiskFault r s d l cause = cause refl
unopened_ends journal.NotStore r s d l cause = tt
unopened_ends (journal.Damaged offset) r s d l cause = tt
unopened_ends journal.Memory r s d l cause = tt

-- a fault of the input
pub input_ends : (fault : InputFault) (read_failed sink_failed disk_failed is_long : Type 0) → (fault ≡ input.Failed → read_failed) → (fault ≡ input.TooMuch → is_long) → EndsBy (Err (stop_of fault)) read_failed sink_failed disk_failed is_long
input_ends input.Failed r s d l failed long = failed refl
input_ends input.TooMuch r s d l failed long = long refl
input_ends input.Memory r s d l failed long = tt

-- causes that are there also by a wider count of the disk
pub wider_ends : (end : Result (Unit {0}) Stop) (r s d wide l : Type 0) → (d → wide) → EndsBy end r s d l → EndsBy end r s wide l
wider_ends (Ok u) r s d wide l more ends = tt
wider_ends (Err stop.ReadFault) r s d wide l more ends = ends
wider_ends (Err stop.TooMuch) r s d wide l more ends = ends
wider_ends (Err stop.SinkFault) r s d wide l more ends = ends
wider_ends (Err stop.Memory) r s d wide l more ends = tt
wider_ends (Err (stop.Lost journal.DiskFault)) r s d wide l more ends = more ends
wider_ends (Err (stop.Lost journal.NotStore)) r s d wide l more ends = tt
wider_ends (Err (stop.Lost (journal.Damaged offset))) r s d wide l more ends = tt
wider_ends (Err (stop.Lost journal.Memory)) r s d wide l more ends = tt
wider_ends (Err (stop.Unopened journal.DiskFault)) r s d wide l more ends = more ends
wider_ends (Err (stop.Unopened journal.NotStore)) r s d wide l more ends = tt
wider_ends (Err (stop.Unopened (journal.Damaged offset))) r s d wide l more ends = tt
wider_ends (Err (stop.Unopened journal.Memory)) r s d wide l more ends = tt

-- ---- the output is sent on

module _ (told : Bool) (may : ℕ → Bool) (loads also : List Batch → Type 0) (more : (l : List Batch) → loads l → also l) (leaves : State → Type 0) (rises wider : ℕ → Type 0) (rose : (n : ℕ) → rises n → wider n) (old mid new : Option (List ℕ)) (kept : Keeps mid new) where
  accounts_on : (given : List Numbered) (output : List ℕ) → Accounts told may loads leaves rises given output → Accounts told may also leaves wider given output
  accounts_on given output has = record { loaded = has.loaded; state = has.state; begun = more has.loaded has.begun; replies = has.replies; paced = has.paced; left = has.left; counted = rose _ has.counted }

  whole_on : (input : List ℕ) → Replays told may loads leaves rises old mid input → Replays told may also leaves wider old new input
  whole_on input has = record { output = has.output; accounts = accounts_on (lines_of input) has.output has.accounts; gained = Appends-kept old mid new has.output has.gained kept }

  between_on : (input : List ℕ) → ReplaysTaken told may loads leaves rises old mid input → ReplaysTaken told may also leaves wider old new input
  between_on input has = record { taken = has.taken; output = has.output; accounts = accounts_on (take has.taken (lines_of input)) has.output has.accounts; gained = Appends-kept old mid new has.output has.gained kept }

  within_on : (input : List ℕ) → ReplaysFront told may loads leaves rises old mid input → ReplaysFront told may also leaves wider old new input
  within_on input has = record { taken = has.taken; output = has.output; rest = has.rest; accounts = accounts_on (take has.taken (lines_of input)) (has.output ++ has.rest) has.accounts; gained = Appends-kept old mid new has.output has.gained kept }

  -- all of it, of which not all may have been sent on
  whole_within : (input : List ℕ) → Replays told may loads leaves rises old mid input → ReplaysFront told may also leaves wider old new input
  whole_within input has =
      let all : take (length (lines_of input)) (lines_of input) ≡ lines_of input = take_all (length (lines_of input)) (lines_of input) (omega arith) in
      record {
        taken = length (lines_of input);
        output = has.output;
        rest = [];
        accounts = subst (λ (ls : List Numbered). Accounts told may also leaves wider ls (has.output ++ [])) (sym all) (subst (λ (out : List ℕ). Accounts told may also leaves wider (lines_of input) out) (sym (append-nil has.output)) (accounts_on (lines_of input) has.output has.accounts));
        gained = Appends-kept old mid new has.output has.gained kept;
      }

  known_on : (P Q : List ℕ → Type 0) → ((input : List ℕ) → P input → Q input) → (x : Option (List ℕ)) → IfSome x P → IfSome x Q
  known_on P Q on None has = tt
  known_on P Q on (Some x) has = on x has

  pub sent_ends : (idle : Type 0) (x : Option (List ℕ)) (end : Result (Unit {0}) Stop) (sent : Result (Unit {0}) Failed) (result : Result (Unit {0}) Stop) → EndsSent end sent result
      → EndsAs end (IfSome x (Replays told may loads leaves rises old mid)) (IfSome x (ReplaysTaken told may loads leaves rises old mid)) (IfSome x (ReplaysFront told may loads leaves rises old mid)) ⊥
      → EndsAs result (IfSome x (Replays told may also leaves wider old new)) (IfSome x (ReplaysTaken told may also leaves wider old new)) (IfSome x (ReplaysFront told may also leaves wider old new)) idle
  sent_ends idle x (Ok u) (Ok v) result is ends = rw is (known_on (Replays told may loads leaves rises old mid) (Replays told may also leaves wider old new) whole_on x ends)
  sent_ends idle x (Ok u) (Err e) result is ends = rw is (known_on (Replays told may loads leaves rises old mid) (ReplaysFront told may also leaves wider old new) whole_within x ends)
  sent_ends idle x (Err stop.ReadFault) sent result is ends = rw is (known_on (ReplaysTaken told may loads leaves rises old mid) (ReplaysTaken told may also leaves wider old new) between_on x ends)
  sent_ends idle x (Err stop.TooMuch) sent result is ends = rw is (known_on (ReplaysTaken told may loads leaves rises old mid) (ReplaysTaken told may also leaves wider old new) between_on x ends)
  sent_ends idle x (Err (stop.Lost f)) sent result is ends = rw is (known_on (ReplaysTaken told may loads leaves rises old mid) (ReplaysTaken told may also leaves wider old new) between_on x ends)
  sent_ends idle x (Err stop.SinkFault) sent result is ends = rw is (known_on (ReplaysFront told may loads leaves rises old mid) (ReplaysFront told may also leaves wider old new) within_on x ends)
  sent_ends idle x (Err stop.Memory) sent result is ends = rw is (known_on (ReplaysTaken told may loads leaves rises old mid) (ReplaysTaken told may also leaves wider old new) between_on x ends)
  sent_ends idle x (Err (stop.Unopened f)) sent result is ends = absurd ends

-- as many failures of the disk as before
pub sent_faults : (end : Result (Unit {0}) Stop) (sent : Result (Unit {0}) Failed) (result : Result (Unit {0}) Stop) → EndsSent end sent result → end_faults result ≡ end_faults end
sent_faults (Ok u) (Ok v) result is = ap (λ (e : Result (Unit {0}) Stop). end_faults e) is
sent_faults (Ok u) (Err e) result is = ap (λ (e : Result (Unit {0}) Stop). end_faults e) is
sent_faults (Err why) sent result is = ap (λ (e : Result (Unit {0}) Stop). end_faults e) is

-- at the end of the input it is at its end, whether that was sent on or not
pub sent_at_end : (end : Result (Unit {0}) Stop) (sent : Result (Unit {0}) Failed) (result : Result (Unit {0}) Stop) (P : Type 0) → EndsSent end sent result → OnOk end P → OnOk result P
sent_at_end (Ok u) (Ok v) result P is at_end = rw is at_end
sent_at_end (Ok u) (Err e) result P is at_end = rw is tt
sent_at_end (Err why) sent result P is at_end = rw is tt

-- and all is sent on
pub sent_on : (end : Result (Unit {0}) Stop) (sent : Result (Unit {0}) Failed) (result : Result (Unit {0}) Stop) (P : Type 0) → EndsSent end sent result → OnOk sent P → OnOk result P
sent_on (Ok u) (Ok v) result P is now = rw is now
sent_on (Ok u) (Err e) result P is now = rw is tt
sent_on (Err why) sent result P is now = rw is tt

-- causes, with that of sending on
pub sent_causes : (end : Result (Unit {0}) Stop) (sent : Result (Unit {0}) Failed) (result : Result (Unit {0}) Stop) (r s d l sink_failed : Type 0) → EndsSent end sent result → EndsBy end r s d l → (s → sink_failed) → OnErr sent sink_failed
    → EndsBy result r sink_failed d l
sent_causes (Ok u) (Ok v) result r s d l sink_failed is ends before now = rw is tt
sent_causes (Ok u) (Err e) result r s d l sink_failed is ends before now = rw is now
sent_causes (Err stop.ReadFault) sent result r s d l sink_failed is ends before now = rw is ends
sent_causes (Err stop.TooMuch) sent result r s d l sink_failed is ends before now = rw is ends
sent_causes (Err stop.SinkFault) sent result r s d l sink_failed is ends before now = rw is (before ends)
sent_causes (Err stop.Memory) sent result r s d l sink_failed is ends before now = rw is tt
sent_causes (Err (stop.Lost journal.DiskFault)) sent result r s d l sink_failed is ends before now = rw is ends
sent_causes (Err (stop.Lost journal.NotStore)) sent result r s d l sink_failed is ends before now = rw is tt
sent_causes (Err (stop.Lost (journal.Damaged offset))) sent result r s d l sink_failed is ends before now = rw is tt
sent_causes (Err (stop.Lost journal.Memory)) sent result r s d l sink_failed is ends before now = rw is tt
sent_causes (Err (stop.Unopened journal.DiskFault)) sent result r s d l sink_failed is ends before now = rw is ends
sent_causes (Err (stop.Unopened journal.NotStore)) sent result r s d l sink_failed is ends before now = rw is tt
sent_causes (Err (stop.Unopened (journal.Damaged offset))) sent result r s d l sink_failed is ends before now = rw is tt
sent_causes (Err (stop.Unopened journal.Memory)) sent result r s d l sink_failed is ends before now = rw is tt
