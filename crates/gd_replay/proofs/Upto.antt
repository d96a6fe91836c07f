-- A run up to some place of its input.
use Rattle.std.proofs.Common.{◌≡◌, ℕ, ◌+◌, ◌==◌, List, [], ◌∷◌, ◌++◌, length, take, Bool, true, false, Option, refl, sym, ap, subst, ◌∙◌, arith, append_assoc, append-nil, length-append, take_all}
use Rattle.std.specs.Prelude.{if◌then◌else◌}
use Rattle.std.proofs.lemmas.List.{take-append-le}
use Rattle.std.proofs.KnownBytes.{Appends-trans, Appends-nil, Appends-kept}
use Rattle.std.specs.Io.KnownBytes.{Keeps}
use Rattle.gd_base.specs.Counts.{RoseBy}
use Rattle.gd_prim.specs.declared.Batch.{Batch}
use Rattle.gd_sessions.specs.PassedOn.{one_member}
use Rattle.gd_runs.specs.Explained.{Numbered, pieces, numbered, lines_of, max_round, faults_told}
use Rattle.gd_runs.specs.Core.{State, opened}
use Rattle.gd_input.specs.declared.piece.Piece.{Piece}
use Rattle.gd_input.specs.Pieces.{TakesPiece, later_pieces}
use Rattle.gd_replay_laws.specs.Runs.{RepliesOver, PieceRuns, lines_at}
use Rattle.gd_replay_laws.specs.Faults.{faults_from}
use Rattle.gd_runs.specs.Pace.{Left}
use Rattle.gd_replay_laws.specs.Paced.{AreWithin, PacedRun}
use Rattle.gd_replay_laws.proofs.Joined.{runs_join, paced_join}
use Rattle.gd_replay_laws.proofs.Faults.{faults_run, rose_none, rose_then}
use Rattle.gd_replay.specs.Replays.{Accounts, Replays, ReplaysTaken, ReplaysFront}
use Rattle.gd_replay.specs.Runs.{PiecePrints, PieceFront, PiecePaces, RunPaces, RunUpto}

-- ---- the lines of pieces

-- the lines behind a piece
record Behind (round in_round : ℕ) (piece : List ℕ) (ps : List (List ℕ)) : Type 0 where
  pub round_then : ℕ
  pub in_then : ℕ
  pub parts : numbered round in_round (piece ∷ ps) ≡ lines_at round piece ++ numbered round_then in_then ps

behind : (round in_round : ℕ) (piece : List ℕ) (ps : List (List ℕ)) → Behind round in_round piece ps
behind round in_round [] ps = record { round_then = round + 1; in_then = 0; parts = refl }
behind round in_round (c ∷ cs) ps = by (in_round + 1 == max_round) refl
  where
    line : Numbered
    line = record { bytes = c ∷ cs; round = round }

    by : (b : Bool) → (in_round + 1 == max_round) ≡ b → Behind round in_round (c ∷ cs) ps
    by true is = record { round_then = round + 1; in_then = 0; parts = ap (λ (b : Bool). line ∷ (if b then numbered (round + 1) 0 ps else numbered round (in_round + 1) ps)) is }
    by false is = record { round_then = round; in_then = in_round + 1; parts = ap (λ (b : Bool). line ∷ (if b then numbered (round + 1) 0 ps else numbered round (in_round + 1) ps)) is }

-- how many lines a piece is does not depend on its round
same_many : (round : ℕ) (piece : List ℕ) → length (lines_at round piece) ≡ length (lines_at 0 piece)
same_many round [] = refl
same_many round (c ∷ cs) = refl

-- ---- a run

module _ (told : Bool) (may : ℕ → Bool) (loaded : List Batch) where
  pub upto_start : (held : Option (List ℕ)) (n : ℕ) (had : Left) → AreWithin had (λ i. 0) → (input : List ℕ) → RunUpto told may loaded held held n n 0 (opened loaded) had input input
  upto_start held n had none input = record { round = 0; in_round = 0; given = []; output = []; lines = refl; replies = (refl, refl); paced = λ d. (λ i. 0, (refl, refl, refl), none); many = refl; gained = Appends-nil held; rose = rose_none n n (omega arith) }

  -- the lines up to and with a piece print this
  replies_then : (given : List Numbered) (output rest : List ℕ) (k round : ℕ) (piece : List ℕ) (s t : State) → RepliesOver told one_member may (opened loaded) 0 given output s → k ≡ length given → PieceRuns told one_member may s k piece rest t
      → RepliesOver told one_member may (opened loaded) 0 (given ++ lines_at round piece) (output ++ rest) t
  replies_then given output rest k round piece s t replies many runs =
      let at : k ≡ 0 + length given = omega (arith, many) in
      runs_join told one_member may (opened loaded) s t 0 given (lines_at round piece) output rest replies (subst (λ (n : ℕ). RepliesOver told one_member may s n (lines_at round piece) rest t) at (runs round))

  -- within what the readings have left
  paced_then : (given : List Numbered) (output rest : List ℕ) (k round : ℕ) (piece : List ℕ) (s t : State) (had has : Left) → RunPaces told may loaded given output s had → k ≡ length given → PiecePaces told may s k piece rest t had has
      → RunPaces told may loaded (given ++ lines_at round piece) (output ++ rest) t has
  paced_then given output rest k round piece s t had has paced many runs = λ d.
      let at : k ≡ 0 + length given = omega (arith, many) in
      let (b, before, within) = paced d in
      let (z, behind_it, left) = runs d b within in
      (z, paced_join told one_member d may (opened loaded) s t (λ i. 0) b z 0 given (lines_at round piece) output rest before (subst (λ (n : ℕ). PacedRun told one_member d may s b n (lines_at round piece) rest t z) at (behind_it round)), left)

  -- and tell so many faults
  rose_piece : (given : List Numbered) (output rest : List ℕ) (k : ℕ) (s : State) (a b c : ℕ) → RepliesOver told one_member may (opened loaded) 0 given output s → k ≡ length given → RoseBy a b (faults_told output) → RoseBy b c (faults_from k rest)
      → RoseBy a c (faults_told (output ++ rest))
  rose_piece given output rest k s a b c replies many first more =
      let at : 0 + length given ≡ k = omega (arith, many) in
      subst (RoseBy a c) (sym (faults_run told one_member may (opened loaded) s 0 given output rest replies ∙ ap (λ (n : ℕ). faults_told output + faults_from n rest) at)) (rose_then a b c (faults_told output) (faults_from k rest) first more)

  -- the lines of the input, with a piece in the middle
  lines_then : (given : List Numbered) (round in_round : ℕ) (piece : List ℕ) (ps : List (List ℕ)) (input left : List ℕ) → lines_of input ≡ given ++ numbered round in_round (pieces [] left) → pieces [] left ≡ piece ∷ ps
      → lines_of input ≡ (given ++ lines_at round piece) ++ numbered (behind round in_round piece ps).round_then (behind round in_round piece ps).in_then ps
  lines_then given round in_round piece ps input left lines first =
      lines ∙ (ap (λ (qs : List (List ℕ)). given ++ numbered round in_round qs) first
      ∙ (ap (λ (ls : List Numbered). given ++ ls) (behind round in_round piece ps).parts ∙ sym (append_assoc given (lines_at round piece) (numbered (behind round in_round piece ps).round_then (behind round in_round piece ps).in_then ps))))

  -- a piece more
  pub upto_more : (old mid new : Option (List ℕ)) (a b c : ℕ) (k n : ℕ) (s t : State) (had has : Left) (input left after : List ℕ) (piece : Piece) → RunUpto told may loaded old mid a b k s had input left → (takes : TakesPiece piece left after) → piece.by_newline ≡ true
      → PiecePrints told may s k takes.line t n mid new b c had has → RunUpto told may loaded old new a c n t has input after
  upto_more old mid new a b c k n s t had has input left after piece upto takes newline prints =
      let ps = pieces [] after in
      let first : pieces [] left ≡ takes.line ∷ ps = takes.first ∙ ap (λ (b : Bool). takes.line ∷ later_pieces b after) newline in
      let next = behind upto.round upto.in_round takes.line ps in
      record {
        round = next.round_then;
        in_round = next.in_then;
        given = upto.given ++ lines_at upto.round takes.line;
        output = upto.output ++ prints.output;
        lines = lines_then upto.given upto.round upto.in_round takes.line ps input left upto.lines first;
        replies = replies_then upto.given upto.output prints.output k upto.round takes.line s t upto.replies upto.many prints.runs;
        paced = paced_then upto.given upto.output prints.output k upto.round takes.line s t had has upto.paced upto.many prints.paced;
        many = (let long = length-append upto.given (lines_at upto.round takes.line) in let same = same_many upto.round takes.line in omega (arith, prints.many, upto.many, long, same));
        gained = Appends-trans old mid new upto.output prints.output upto.gained prints.gained;
        rose = rose_piece upto.given upto.output prints.output k s a b c upto.replies upto.many upto.rose prints.rose;
      }

  -- the front of a list that is taken whole
  take_front : (xs ys : List Numbered) → take (length xs) (xs ++ ys) ≡ xs
  take_front xs ys = take-append-le (length xs) xs ys (omega arith) ∙ take_all (length xs) xs (omega arith)

  module _ (leaves : State → Type 0) (rises : ℕ → Type 0) where
    abbrev AccountsFor : List Numbered → List ℕ → Type 0
    AccountsFor given output = Accounts told may (λ l. l ≡ loaded) leaves rises given output

    accounts : (given : List Numbered) (output : List ℕ) (s : State) (had : Left) → RepliesOver told one_member may (opened loaded) 0 given output s → RunPaces told may loaded given output s had → leaves s → rises (faults_told output) → AccountsFor given output
    accounts given output s had replies paced left rose = record { loaded = loaded; state = s; begun = refl; replies = replies; paced = λ d. let (z, run, within) = paced d in (z, run); left = left; counted = rose }

    of_lines : (given lines : List Numbered) (output : List ℕ) → lines ≡ given → AccountsFor given output → AccountsFor lines output
    of_lines given lines output is has = subst (λ (ls : List Numbered). AccountsFor ls output) (sym is) has

    front_lines : (given more : List Numbered) (input : List ℕ) → lines_of input ≡ given ++ more → take (length given) (lines_of input) ≡ given
    front_lines given more input lines = ap (take (length given)) lines ∙ take_front given more

    -- the last piece
    pub upto_end : (a b c : ℕ) → ((n : ℕ) → RoseBy a c n → rises n) → (old mid new : Option (List ℕ)) (k n : ℕ) (s t : State) (had has : Left) (input left after : List ℕ) (piece : Piece) → RunUpto told may loaded old mid a b k s had input left → (takes : TakesPiece piece left after) → piece.by_newline ≡ false
        → PiecePrints told may s k takes.line t n mid new b c had has → leaves t → Replays told may (λ l. l ≡ loaded) leaves rises old new input
    upto_end a b c rose old mid new k n s t had has input left after piece upto takes last prints leave =
        let first : pieces [] left ≡ takes.line ∷ [] = takes.first ∙ ap (λ (b : Bool). takes.line ∷ later_pieces b after) last in
        let given = upto.given ++ lines_at upto.round takes.line in
        let lines : lines_of input ≡ given = lines_then upto.given upto.round upto.in_round takes.line [] input left upto.lines first ∙ append-nil given in
        record {
          output = upto.output ++ prints.output;
          accounts = of_lines given (lines_of input) (upto.output ++ prints.output) lines
              (accounts given (upto.output ++ prints.output) t has (replies_then upto.given upto.output prints.output k upto.round takes.line s t upto.replies upto.many prints.runs) (paced_then upto.given upto.output prints.output k upto.round takes.line s t had has upto.paced upto.many prints.paced) leave
              (rose _ (rose_piece upto.given upto.output prints.output k s a b c upto.replies upto.many upto.rose prints.rose)));
          gained = Appends-trans old mid new upto.output prints.output upto.gained prints.gained;
        }

    -- nothing more
    pub upto_taken : (a b : ℕ) → ((n : ℕ) → RoseBy a b n → rises n) → (old mid new : Option (List ℕ)) (k : ℕ) (s : State) (had : Left) (input left : List ℕ) → RunUpto told may loaded old mid a b k s had input left → leaves s → Keeps mid new
        → ReplaysTaken told may (λ l. l ≡ loaded) leaves rises old new input
    upto_taken a b rose old mid new k s had input left upto leave kept = record {
      taken = length upto.given;
      output = upto.output;
      accounts = of_lines upto.given (take (length upto.given) (lines_of input)) upto.output (front_lines upto.given (numbered upto.round upto.in_round (pieces [] left)) input upto.lines)
          (accounts upto.given upto.output s had upto.replies upto.paced leave (rose (faults_told upto.output) upto.rose));
      gained = Appends-kept old mid new upto.output upto.gained kept;
    }

    -- a front of a piece
    pub upto_front : (a b c : ℕ) → ((n : ℕ) → RoseBy a c n → rises n) → (old mid new : Option (List ℕ)) (k : ℕ) (s : State) (had : Left) (input left after : List ℕ) (piece : Piece) → RunUpto told may loaded old mid a b k s had input left → (takes : TakesPiece piece left after)
        → PieceFront told may s k takes.line leaves mid new b c had → ReplaysFront told may (λ l. l ≡ loaded) leaves rises old new input
    upto_front a b c rose old mid new k s had input left after piece upto takes front =
        let given = upto.given ++ lines_at upto.round takes.line in
        let ps = later_pieces piece.by_newline after in
        let lines = lines_then upto.given upto.round upto.in_round takes.line ps input left upto.lines takes.first in
        let more = numbered (behind upto.round upto.in_round takes.line ps).round_then (behind upto.round upto.in_round takes.line ps).in_then ps in
        let due = (upto.output ++ front.output) ++ front.rest in
        record {
          taken = length given;
          output = upto.output ++ front.output;
          rest = front.rest;
          accounts = of_lines given (take (length given) (lines_of input)) due (front_lines given more input lines)
              (subst (λ (out : List ℕ). AccountsFor given out) (sym (append_assoc upto.output front.output front.rest))
              (accounts given (upto.output ++ (front.output ++ front.rest)) front.state front.next (replies_then upto.given upto.output (front.output ++ front.rest) k upto.round takes.line s front.state upto.replies upto.many front.runs) (paced_then upto.given upto.output (front.output ++ front.rest) k upto.round takes.line s front.state had front.next upto.paced upto.many front.paced) front.left
              (rose _ (rose_piece upto.given upto.output (front.output ++ front.rest) k s a b c upto.replies upto.many upto.rose front.rose))));
          gained = Appends-trans old mid new upto.output front.output upto.gained front.gained;
        }
