-- The same where the input is known, and nothing where it is not.
use Rattle.std.proofs.Common.{◌≡◌, false, ℕ, ◌+◌, ◌*◌, ◌<◌, ◌≤◌, Bool, true, List, [], Option, Some, None, IfSome, refl, sym, subst, ap, ◌∙◌, arith, Result, Ok, Err, IsErrAnd}
use Rattle.std.specs.Io.KnownBytes.{prepend_known}
use Rattle.std.proofs.KnownBytes.{Consumes-nil}
use Rattle.gd_base.specs.Counts.{RoseBy}
use Rattle.gd_prim.specs.declared.Batch.{Batch}
use Rattle.gd_input.specs.declared.line.RoundLine.{RoundLine}
use Rattle.gd_input.specs.declared.round.Round.{Round}
use Rattle.gd_input.specs.Held.{Held, IsBounded}
use Rattle.gd_input.specs.Pieces.{Known, Advances}
use Rattle.gd_input.specs.Rounds.{AreKept, TakesRound, StopsInRound}
use Rattle.gd_input.proofs.Taken.{left_known}
use Rattle.gd_prim.specs.Builtin.{builtin}
use Rattle.gd_prim.specs.WellFormed.{all_follow}
use Rattle.gd_runs.specs.Core.{State, opened}
use Rattle.gd_threads.specs.Served.{RoundsValue, state_at}
use Rattle.gd_input.specs.declared.fault.InputFault.{InputFault}
use Rattle.gd_input.specs.declared.fault.InputFault.TheVariants as input
use Rattle.gd_top.specs.declared.stop.Stop.{Stop}
use Rattle.gd_top.specs.declared.stop.Stop.TheVariants as stop
use Rattle.gd_top.specs.Stops.{stop_of}
use Rattle.gd_top.specs.Opened.{HoldsAs, IsAtStart}
use Rattle.gd_top.specs.Answered.{Answers, AnswersFront, ServedUpto}
use Rattle.gd_threads.specs.PassedOn.{KeepingValue}
use Rattle.gd_top.specs.Counted.{ServesKeeping}
use Rattle.gd_top.specs.Serves.{ServesFront, ServesRounds}
use Rattle.gd_top.proofs.Served.{served_none, served_more, served_all, served_rounds, front_of_rounds, front_in_round}

module _ (loaded : List Batch) (may now : ℕ → Bool) (same : now ≡ may) (old mid new : Option (List ℕ)) (a b c : ℕ) (had has next : KeepingValue) (s : State) (k : ℕ) (t : State) (n : ℕ) where
  moved : (taken : Round) (lines : List RoundLine) → lines ≡ taken.lines.items → ((texts : List (List ℕ)) → AreKept lines texts → Answers now s k t n texts mid new b c has next)
      → (texts : List (List ℕ)) → AreKept taken.lines.items texts → Answers may s k t n texts mid new b c has next
  moved taken lines is answers texts kept = subst (λ (m : ℕ → Bool). Answers m s k t n texts mid new b c has next) same (answers texts (subst (λ (ls : List RoundLine). AreKept ls texts) (sym is) kept))

  -- one round more
  pub more_known : (x y z : Option (List ℕ)) (taken : Round) (lines : List RoundLine) → lines ≡ taken.lines.items → Known x y (ServedUpto false loaded may old mid a b had has s k) → Known y z (TakesRound taken)
      → ((texts : List (List ℕ)) → AreKept lines texts → Answers now s k t n texts mid new b c has next) → taken.ended ≡ false → Known x z (ServedUpto false loaded may old new a c had next t n)
  more_known None y z taken lines is upto takes answers going = tt
  more_known (Some x) None z taken lines is upto takes answers going = absurd upto
  more_known (Some x) (Some y) None taken lines is upto takes answers going = absurd takes
  more_known (Some x) (Some y) (Some z) taken lines is upto takes answers going = subst (λ (over : Bool). ServedUpto over loaded may old new a c had next t n x z) going
      (served_more loaded may old mid new a b c had has next s k t n x y z taken upto takes (moved taken lines is answers))

  -- the last one
  pub done_known : (x y z : Option (List ℕ)) (taken : Round) (lines : List RoundLine) → lines ≡ taken.lines.items → Known x y (ServedUpto false loaded may old mid a b had has s k) → Known y z (TakesRound taken)
      → ((texts : List (List ℕ)) → AreKept lines texts → Answers now s k t n texts mid new b c has next) → taken.ended ≡ true → IfSome x (ServesKeeping may (λ l. l ≡ loaded) (HoldsAs may t) (RoseBy a c) old new had next)
  done_known None y z taken lines is upto takes answers ended = tt
  done_known (Some x) None z taken lines is upto takes answers ended = absurd upto
  done_known (Some x) (Some y) None taken lines is upto takes answers ended = absurd takes
  done_known (Some x) (Some y) (Some z) taken lines is upto takes answers ended =
      served_all taken.ended loaded may old new a c had next t n x z (served_more loaded may old mid new a b c had has next s k t n x y z taken upto takes (moved taken lines is answers)) (takes.ended ended)

  -- a part of one
  pub part_known : (x y z : Option (List ℕ)) (taken : Round) (lines : List RoundLine) → lines ≡ taken.lines.items → Known x y (ServedUpto false loaded may old mid a b had has s k) → Known y z (TakesRound taken)
      → ((texts : List (List ℕ)) → AreKept lines texts → AnswersFront now s k t texts mid new b c has next) → IfSome x (ServesFront may (λ l. l ≡ loaded) (HoldsAs may t) (RoseBy a c) old new)
  part_known None y z taken lines is upto takes fronts = tt
  part_known (Some x) None z taken lines is upto takes fronts = absurd upto
  part_known (Some x) (Some y) None taken lines is upto takes fronts = absurd takes
  part_known (Some x) (Some y) (Some z) taken lines is upto takes fronts = front_in_round loaded may old mid new a b c had has next s k t x y z taken upto takes
      (λ texts kept. subst (λ (m : ℕ → Bool). AnswersFront m s k t texts mid new b c has next) same (fronts texts (subst (λ (ls : List RoundLine). AreKept ls texts) (sym is) kept)))

module _ (loaded : List Batch) (may : ℕ → Bool) (old new : Option (List ℕ)) (a b : ℕ) (had has : KeepingValue) (s : State) (k : ℕ) where
  -- whole rounds
  pub rounds_known : (x y z : Option (List ℕ)) → Known x y (ServedUpto false loaded may old new a b had has s k) → Known y z StopsInRound → IfSome x (ServesRounds may (λ l. l ≡ loaded) (HoldsAs may s) (RoseBy a b) old new z)
  rounds_known None y z upto stops = tt
  rounds_known (Some x) None z upto stops = absurd upto
  rounds_known (Some x) (Some y) None upto stops = absurd stops
  rounds_known (Some x) (Some y) (Some z) upto stops = served_rounds false loaded may old new a b had has s k x y upto z refl stops

  -- at a stop of the input all that was taken is used up
  pub rounds_stopped : (x y z : Option (List ℕ)) (held : List ℕ) → Known x y (ServedUpto false loaded may old new a b had has s k) → (held ≡ []) × Known y (prepend_known held z) StopsInRound
      → IfSome x (ServesRounds may (λ l. l ≡ loaded) (HoldsAs may s) (RoseBy a b) old new z)
  rounds_stopped x y z held upto (none, stops) = rounds_known x y z upto (left_known y z held StopsInRound none stops)

  pub front_known : (x y : Option (List ℕ)) → Known x y (ServedUpto false loaded may old new a b had has s k) → IfSome x (ServesFront may (λ l. l ≡ loaded) (HoldsAs may s) (RoseBy a b) old new)
  front_known None y upto = tt
  front_known (Some x) None upto = absurd upto
  front_known (Some x) (Some y) upto = front_of_rounds loaded may old new a b had has s k x y upto

-- before the first round
start_known : (loaded : List Batch) (may : ℕ → Bool) → all_follow builtin 0 loaded ≡ true → (held : Option (List ℕ)) (n : ℕ) (had : KeepingValue) (s : State) (k : ℕ) (x : Option (List ℕ)) → k ≡ 0 → s ≡ opened loaded → Known x (prepend_known [] x) (ServedUpto false loaded may held held n n had had s k)
start_known loaded may follow held n had s k None none is = tt
start_known loaded may follow held n had s k (Some x) none is = served_none loaded may follow held n had s k x none is

-- nothing was taken yet
pub advances_none : (a : Option (List ℕ)) → Advances a (prepend_known [] a) 0 0
advances_none None = record { bytes = []; consumed = Consumes-nil None; counted = refl }
advances_none (Some x) = record { bytes = []; consumed = Consumes-nil (Some x); counted = refl }

-- the count of lines stays small
pub counted_on : (lines few now before after : ℕ) → lines ≤ 256 * before → few ≤ 256 → before < after → now ≡ lines + few → now ≤ 256 * after
counted_on lines few now before after counted small forward is = omega (arith, counted, small, forward, is)

-- why the input stopped
pub too_much_is : (fault : InputFault) (why : Stop) → why ≡ stop_of fault → why ≡ stop.TooMuch → fault ≡ input.TooMuch
too_much_is input.Failed why is same = cc
too_much_is input.TooMuch why is same = refl
too_much_is input.Memory why is same = cc

failed_is : (fault : InputFault) (why : Stop) → why ≡ stop_of fault → why ≡ stop.ReadFault → fault ≡ input.Failed
failed_is input.Failed why is same = refl
failed_is input.TooMuch why is same = cc
failed_is input.Memory why is same = cc

-- the start of the loop
pub record Begun (loaded : List Batch) (may : ℕ → Bool) (held : Option (List ℕ)) (n : ℕ) (had : KeepingValue) (s : State) (k : ℕ) (reader : Held) (a : Option (List ℕ)) : Type 0 where
  pub upto : Known a (prepend_known reader.bytes a) (ServedUpto false loaded may held held n n had had s k)
  pub advances : Advances a (prepend_known reader.bytes a) 0 reader.consumed
  pub counted : k ≤ 256 * reader.consumed
  pub bounded : IsBounded reader

pub begun : {D C : Type 0} (may : ℕ → Bool) (held : Option (List ℕ)) (n : ℕ) (r : RoundsValue D C) (reader : Held) (a : Option (List ℕ)) → reader ≡ record { bytes = []; consumed = 0 } → IsAtStart r
    → Begun r.side.history.loaded may held n r.keeping (state_at r.side) r.lines reader a
begun may held n r reader a new start = subst (λ (h : Held). Begun r.side.history.loaded may held n r.keeping (state_at r.side) r.lines h a) (sym new) (record {
  upto = start_known r.side.history.loaded may start.follow held n r.keeping (state_at r.side) r.lines a start.none start.opened;
  advances = advances_none a;
  counted = omega (arith, start.none);
  bounded = record { buffered = omega arith; taken = omega arith };
})

pub input_too_much : {T U : Type 0} (r : Result T Stop) (fault : InputFault) (s : Result U InputFault) → s ≡ Err fault → r ≡ Err stop.TooMuch → IsErrAnd r (λ why. why ≡ stop_of fault) → s ≡ Err input.TooMuch
input_too_much (Ok x) fault s was is gives = cc
input_too_much (Err why) fault s was is gives = let same : why ≡ stop.TooMuch = cc in was ∙ ap Err (too_much_is fault why gives same)

pub input_failed : {T U : Type 0} (r : Result T Stop) (fault : InputFault) (s : Result U InputFault) → s ≡ Err fault → r ≡ Err stop.ReadFault → IsErrAnd r (λ why. why ≡ stop_of fault) → s ≡ Err input.Failed
input_failed (Ok x) fault s was is gives = cc
input_failed (Err why) fault s was is gives = let same : why ≡ stop.ReadFault = cc in was ∙ ap Err (failed_is fault why gives same)

pub sink_stopped : {T : Type 0} (r : Result T Stop) → IsErrAnd r (λ why. why ≡ stop.SinkFault) → r ≡ Err stop.SinkFault
sink_stopped (Ok x) gives = absurd gives
sink_stopped (Err why) gives = ap Err gives
