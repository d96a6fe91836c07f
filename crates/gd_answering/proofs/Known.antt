-- The same where the input is known, and nothing where it is not.
use Rattle.std.proofs.Common.{◌≡◌, ℕ, ◌≤◌, true, false, List, [], take, Option, Some, None, IfSome, Result, Err, refl, sym, subst, ap, ◌∙◌, arith, append-nil}
use Rattle.std.specs.Io.KnownBytes.{Keeps, prepend_known}
use Rattle.std.proofs.KnownBytes.{Consumes-nil}
use Rattle.gd_input.specs.declared.fault.InputFault.{InputFault}
use Rattle.gd_input.specs.declared.fault.InputFault.TheVariants as input
use Rattle.gd_input.specs.declared.piece.Piece.{Piece}
use Rattle.gd_input.specs.Held.{Held, IsBounded}
use Rattle.gd_input.specs.Line.{IsKept}
use Rattle.gd_input.specs.Pieces.{Known, Advances, TakesPieceWithin}
use Rattle.gd_runs.specs.Explained.{lines_of}
use Rattle.gd_base.specs.Counts.{Rose}
use Rattle.gd_answering.specs.declared.stop.Stop.{Stop}
use Rattle.gd_answering.specs.declared.stop.Stop.TheVariants.{SinkFault as stop_sink}
use Rattle.gd_answering.specs.Answering.{Replies, AnswersAll, AnswersTaken, AnswersFront}
use Rattle.gd_answering.specs.Stops.{stop_of, EndsAs, EndsBy}
use Rattle.gd_answering.specs.Runs.{PiecePrints, PieceFront, RunsUpto}
use Rattle.gd_answering.proofs.Upto.{upto_start, upto_more, upto_end, upto_taken, upto_front}

-- ---- what was taken of the input

-- nothing was taken yet
pub advances_none : (a : Option (List ℕ)) → Advances a (prepend_known [] a) 0 0
advances_none None = record { bytes = []; consumed = Consumes-nil None; counted = refl }
advances_none (Some x) = record { bytes = []; consumed = Consumes-nil (Some x); counted = refl }

pub begun_advances : (reader : Held) (a : Option (List ℕ)) → reader ≡ record { bytes = []; consumed = 0 } → Advances a (prepend_known reader.bytes a) 0 reader.consumed
begun_advances reader a new = subst (λ (r : Held). Advances a (prepend_known r.bytes a) 0 r.consumed) (sym new) (advances_none a)

pub begun_bounded : (reader : Held) → reader ≡ record { bytes = []; consumed = 0 } → IsBounded reader
begun_bounded reader new = subst (λ (r : Held). IsBounded r) (sym new) (record { buffered = omega arith; taken = omega arith })

-- ---- the lines

module _ {A : Type 0} (answers : A → ℕ → List ℕ → List ℕ → A → Type 0) (s : A) where
  start_known : (old held : Option (List ℕ)) (x : Option (List ℕ)) → Keeps old held → Known x (prepend_known [] x) (RunsUpto answers s s old held 0)
  start_known old held None kept = tt
  start_known old held (Some x) kept = upto_start answers s old held x kept

  pub begun_upto : (old held : Option (List ℕ)) (reader : Held) (x : Option (List ℕ)) → reader ≡ record { bytes = []; consumed = 0 } → Keeps old held → Known x (prepend_known reader.bytes x) (RunsUpto answers s s old held 0)
  begun_upto old held reader x new kept = subst (λ (r : Held). Known x (prepend_known r.bytes x) (RunsUpto answers s s old held 0)) (sym new) (start_known old held x kept)

  -- the sink failed before the first line
  pub front_begun : (old held : Option (List ℕ)) (x : Option (List ℕ)) → Keeps old held → IfSome x (AnswersFront answers s s old held)
  front_begun old held None kept = tt
  front_begun old held (Some x) kept =
      let taken = upto_taken answers s 0 s old held 0 x x (upto_start answers s old held x kept) in
      record { taken = taken.taken; output = taken.output; rest = []; replies = subst (λ (out : List ℕ). Replies answers s 0 (take taken.taken (lines_of x)) out s) (sym (append-nil taken.output)) taken.replies; gained = taken.gained }

  module _ (most : ℕ) (t : A) (old mid : Option (List ℕ)) (k : ℕ) where
    -- a piece more
    pub more_known : (u : A) (new : Option (List ℕ)) (n : ℕ) (x y z : Option (List ℕ)) (piece : Piece) → piece.by_newline ≡ true → Known x y (RunsUpto answers s t old mid k) → Known y z (TakesPieceWithin most piece)
        → ((bytes : List ℕ) → IsKept most piece.line bytes → PiecePrints answers t k bytes u n mid new) → Known x z (RunsUpto answers s u old new n)
    more_known u new n None y z piece newline upto takes prints = tt
    more_known u new n (Some x) None z piece newline upto takes prints = absurd upto
    more_known u new n (Some x) (Some y) None piece newline upto takes prints = absurd takes
    more_known u new n (Some x) (Some y) (Some z) piece newline upto takes prints = upto_more answers s most t old mid k x y upto u new n z piece takes newline (prints takes.line takes.kept)

    -- the last one
    pub done_known : (u : A) (new : Option (List ℕ)) (n : ℕ) (x y z : Option (List ℕ)) (piece : Piece) → piece.by_newline ≡ false → Known x y (RunsUpto answers s t old mid k) → Known y z (TakesPieceWithin most piece)
        → ((bytes : List ℕ) → IsKept most piece.line bytes → PiecePrints answers t k bytes u n mid new) → IfSome x (AnswersAll answers s u old new)
    done_known u new n None y z piece last upto takes prints = tt
    done_known u new n (Some x) None z piece last upto takes prints = absurd upto
    done_known u new n (Some x) (Some y) None piece last upto takes prints = absurd takes
    done_known u new n (Some x) (Some y) (Some z) piece last upto takes prints = upto_end answers s most t old mid k x y upto u new n z piece takes last (prints takes.line takes.kept)

    -- one of which a front is printed
    pub front_known : (u : A) (new : Option (List ℕ)) (x y z : Option (List ℕ)) (piece : Piece) → Known x y (RunsUpto answers s t old mid k) → Known y z (TakesPieceWithin most piece)
        → ((bytes : List ℕ) → IsKept most piece.line bytes → PieceFront answers t k bytes u mid new) → IfSome x (AnswersFront answers s u old new)
    front_known u new None y z piece upto takes front = tt
    front_known u new (Some x) None z piece upto takes front = absurd upto
    front_known u new (Some x) (Some y) None piece upto takes front = absurd takes
    front_known u new (Some x) (Some y) (Some z) piece upto takes front = upto_front answers s most t old mid k x y upto u new z piece takes (front takes.line takes.kept)

    -- nothing more
    pub taken_known : (x y : Option (List ℕ)) → Known x y (RunsUpto answers s t old mid k) → IfSome x (AnswersTaken answers s t old mid)
    taken_known None y upto = tt
    taken_known (Some x) None upto = absurd upto
    taken_known (Some x) (Some y) upto = upto_taken answers s most t old mid k x y upto

-- ---- a fault of the input

pub input_ends : (fault : InputFault) (whole between within : Type 0) → between → EndsAs (Err (stop_of fault)) whole between within
input_ends input.Failed whole between within it = it
input_ends input.TooMuch whole between within it = it
input_ends input.Memory whole between within it = it

pub input_causes : (fault : InputFault) (read_failed sink_failed is_long : Type 0) → (fault ≡ input.Failed → read_failed) → (fault ≡ input.TooMuch → is_long) → EndsBy (Err (stop_of fault)) read_failed sink_failed is_long
input_causes input.Failed r s l failed long = failed refl
input_causes input.TooMuch r s l failed long = long refl
input_causes input.Memory r s l failed long = tt

-- ---- outcomes

-- the sink failed
pub sink_ends : (end : Result (Unit {0}) Stop) (stop : Stop) → stop ≡ stop_sink → end ≡ Err stop → (whole between within : Type 0) → within → EndsAs end whole between within
sink_ends end stop is ends whole between within it = subst (λ (e : Result (Unit {0}) Stop). EndsAs e whole between within) (sym (ends ∙ ap Err is)) it

-- the input failed
pub read_ends : (end : Result (Unit {0}) Stop) (stop : Stop) (fault : InputFault) → stop ≡ stop_of fault → end ≡ Err stop → (whole between within : Type 0) → between → EndsAs end whole between within
read_ends end stop fault is ends whole between within it = subst (λ (e : Result (Unit {0}) Stop). EndsAs e whole between within) (sym (ends ∙ ap Err is)) (input_ends fault whole between within it)

pub read_causes : (end : Result (Unit {0}) Stop) (stop : Stop) (fault : InputFault) → stop ≡ stop_of fault → end ≡ Err stop → (r s l : Type 0) → (fault ≡ input.Failed → r) → (fault ≡ input.TooMuch → l) → EndsBy end r s l
read_causes end stop fault is ends r s l failed long = subst (λ (e : Result (Unit {0}) Stop). EndsBy e r s l) (sym (ends ∙ ap Err is)) (input_causes fault r s l failed long)

-- a count that rose since then rose since before
pub rose_since : (a b c : ℕ) → a ≤ b → Rose b c → Rose a c
rose_since a b c before rose = omega (arith, before, rose)
