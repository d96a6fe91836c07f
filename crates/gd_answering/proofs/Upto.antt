-- Lines that are replied to, up to some place of the input.
use Rattle.std.proofs.Common.{◌≡◌, ℕ, ◌+◌, ◌==◌, List, [], ◌∷◌, ◌++◌, length, take, Bool, true, false, Option, refl, sym, ap, subst, ◌∙◌, arith, append_assoc, append-nil, length-append, take_all}
use Rattle.std.specs.Prelude.{if◌then◌else◌}
use Rattle.std.proofs.lemmas.List.{take-append-le}
use Rattle.std.proofs.KnownBytes.{Appends-trans, Appends-nil, Appends-kept}
use Rattle.std.specs.Io.KnownBytes.{Keeps}
use Rattle.gd_runs.specs.Explained.{Numbered, pieces, numbered, lines_of, max_round}
use Rattle.gd_input.specs.declared.piece.Piece.{Piece}
use Rattle.gd_input.specs.Pieces.{TakesPieceWithin, later_pieces}
use Rattle.gd_answering.specs.Answering.{Replies, AnswersAll, AnswersTaken, AnswersFront, Reaches}
use Rattle.gd_answering.specs.Runs.{lines_at, PieceReplies, PiecePrints, PieceFront, RunsOf, RunsOn, RunsUpto}
use Rattle.gd_answering.proofs.Joined.{replies_join}

-- ---- the lines of pieces

-- the lines behind a piece
record Behind (round in_round : ℕ) (piece : List ℕ) (ps : List (List ℕ)) : Type 0 where
  pub round_then : ℕ
  pub in_then : ℕ
  pub parts : numbered round in_round (piece ∷ ps) ≡ lines_at round piece ++ numbered round_then in_then ps

behind : (round in_round : ℕ) (piece : List ℕ) (ps : List (List ℕ)) → Behind round in_round piece ps
behind round in_round [] ps = record { round_then = round + 1; in_then = 0; parts = refl }
behind round in_round (c ∷ cs) ps = by (in_round + 1 == max_round) refl
  where
    line : Numbered
    line = record { bytes = c ∷ cs; round = round }

    by : (b : Bool) → (in_round + 1 == max_round) ≡ b → Behind round in_round (c ∷ cs) ps
    by true is = record { round_then = round + 1; in_then = 0; parts = ap (λ (b : Bool). line ∷ (if b then numbered (round + 1) 0 ps else numbered round (in_round + 1) ps)) is }
    by false is = record { round_then = round; in_then = in_round + 1; parts = ap (λ (b : Bool). line ∷ (if b then numbered (round + 1) 0 ps else numbered round (in_round + 1) ps)) is }

-- how many lines a piece is does not depend on its round
same_many : (round : ℕ) (piece : List ℕ) → length (lines_at round piece) ≡ length (lines_at 0 piece)
same_many round [] = refl
same_many round (c ∷ cs) = refl

-- the lines of the input, with a piece in the middle
lines_then : (given : List Numbered) (round in_round : ℕ) (piece : List ℕ) (ps : List (List ℕ)) (input left : List ℕ) → lines_of input ≡ given ++ numbered round in_round (pieces [] left) → pieces [] left ≡ piece ∷ ps
    → lines_of input ≡ (given ++ lines_at round piece) ++ numbered (behind round in_round piece ps).round_then (behind round in_round piece ps).in_then ps
lines_then given round in_round piece ps input left lines first =
    lines ∙ (ap (λ (qs : List (List ℕ)). given ++ numbered round in_round qs) first
    ∙ (ap (λ (ls : List Numbered). given ++ ls) (behind round in_round piece ps).parts ∙ sym (append_assoc given (lines_at round piece) (numbered (behind round in_round piece ps).round_then (behind round in_round piece ps).in_then ps))))

-- the front of a list that is taken whole
take_front : (xs ys : List Numbered) → take (length xs) (xs ++ ys) ≡ xs
take_front xs ys = take-append-le (length xs) xs ys (omega arith) ∙ take_all (length xs) xs (omega arith)

front_lines : (given more : List Numbered) (input : List ℕ) → lines_of input ≡ given ++ more → take (length given) (lines_of input) ≡ given
front_lines given more input lines = ap (take (length given)) lines ∙ take_front given more

module _ {A : Type 0} (answers : A → ℕ → List ℕ → List ℕ → A → Type 0) (s : A) where
  -- ---- lines

  none_runs : (held : Option (List ℕ)) → RunsOf answers s s held held 0 []
  none_runs held = record { output = []; replies = (refl, refl); many = refl; gained = Appends-nil held }

  kept_runs : (t : A) (old mid new : Option (List ℕ)) (k : ℕ) (given : List Numbered) → Keeps mid new → RunsOf answers s t old mid k given → RunsOf answers s t old new k given
  kept_runs t old mid new k given kept runs = record { output = runs.output; replies = runs.replies; many = runs.many; gained = Appends-kept old mid new runs.output runs.gained kept }

  -- the lines up to and with a piece are replied so
  replies_then : (t u : A) (given : List Numbered) (output rest : List ℕ) (k round : ℕ) (piece : List ℕ) → Replies answers s 0 given output t → k ≡ length given → PieceReplies answers t k piece rest u
      → Replies answers s 0 (given ++ lines_at round piece) (output ++ rest) u
  replies_then t u given output rest k round piece replies many piece_replies =
      let at : k ≡ 0 + length given = omega (arith, many) in
      replies_join answers s t u 0 given (lines_at round piece) output rest replies (subst (λ (n : ℕ). Replies answers t n (lines_at round piece) rest u) at (piece_replies round))

  runs_then : (t u : A) (old mid new : Option (List ℕ)) (k n : ℕ) (given : List Numbered) (round : ℕ) (piece : List ℕ) → RunsOf answers s t old mid k given → PiecePrints answers t k piece u n mid new → RunsOf answers s u old new n (given ++ lines_at round piece)
  runs_then t u old mid new k n given round piece runs prints = record {
    output = runs.output ++ prints.output;
    replies = replies_then t u given runs.output prints.output k round piece runs.replies runs.many prints.replies;
    many = (let long = length-append given (lines_at round piece) in let same = same_many round piece in omega (arith, prints.many, runs.many, long, same));
    gained = Appends-trans old mid new runs.output prints.output runs.gained prints.gained;
  }

  -- ---- some lines

  pub on_start : (held : Option (List ℕ)) (old : Option (List ℕ)) → Keeps old held → RunsOn answers s s old held 0
  on_start held old kept = record { given = []; runs = kept_runs s old old held 0 [] kept (none_runs old) }

  pub on_more : (t u : A) (old mid new : Option (List ℕ)) (k n : ℕ) (piece : List ℕ) → RunsOn answers s t old mid k → PiecePrints answers t k piece u n mid new → RunsOn answers s u old new n
  on_more t u old mid new k n piece on prints = record { given = on.given ++ lines_at 0 piece; runs = runs_then t u old mid new k n on.given 0 piece on.runs prints }

  pub on_reaches : (t : A) (old new : Option (List ℕ)) (k : ℕ) → RunsOn answers s t old new k → Reaches answers s t
  on_reaches t old new k on = record { lines = on.given; output = on.runs.output; replies = on.runs.replies }

  pub front_reaches : (t u : A) (old mid new : Option (List ℕ)) (k : ℕ) (piece : List ℕ) → RunsOn answers s t old mid k → PieceFront answers t k piece u mid new → Reaches answers s u
  front_reaches t u old mid new k piece on front = record {
    lines = on.given ++ lines_at 0 piece;
    output = on.runs.output ++ (front.output ++ front.rest);
    replies = replies_then t u on.given on.runs.output (front.output ++ front.rest) k 0 piece on.runs.replies on.runs.many front.replies;
  }

  -- ---- the lines of an input

  pub upto_start : (old held : Option (List ℕ)) (input : List ℕ) → Keeps old held → RunsUpto answers s s old held 0 input input
  upto_start old held input kept = record { round = 0; in_round = 0; given = []; lines = refl; runs = kept_runs s old old held 0 [] kept (none_runs old) }

  module _ (most : ℕ) (t : A) (old mid : Option (List ℕ)) (k : ℕ) (input left : List ℕ) (upto : RunsUpto answers s t old mid k input left) where
    -- a piece more
    pub upto_more : (u : A) (new : Option (List ℕ)) (n : ℕ) (after : List ℕ) (piece : Piece) (takes : TakesPieceWithin most piece left after) → piece.by_newline ≡ true
        → PiecePrints answers t k takes.line u n mid new → RunsUpto answers s u old new n input after
    upto_more u new n after piece takes newline prints =
        let ps = pieces [] after in
        let first : pieces [] left ≡ takes.line ∷ ps = takes.first ∙ ap (λ (b : Bool). takes.line ∷ later_pieces b after) newline in
        let next = behind upto.round upto.in_round takes.line ps in
        record {
          round = next.round_then;
          in_round = next.in_then;
          given = upto.given ++ lines_at upto.round takes.line;
          lines = lines_then upto.given upto.round upto.in_round takes.line ps input left upto.lines first;
          runs = runs_then t u old mid new k n upto.given upto.round takes.line upto.runs prints;
        }

    -- the last piece
    pub upto_end : (u : A) (new : Option (List ℕ)) (n : ℕ) (after : List ℕ) (piece : Piece) (takes : TakesPieceWithin most piece left after) → piece.by_newline ≡ false
        → PiecePrints answers t k takes.line u n mid new → AnswersAll answers s u old new input
    upto_end u new n after piece takes last prints =
        let first : pieces [] left ≡ takes.line ∷ [] = takes.first ∙ ap (λ (b : Bool). takes.line ∷ later_pieces b after) last in
        let given = upto.given ++ lines_at upto.round takes.line in
        let lines : lines_of input ≡ given = lines_then upto.given upto.round upto.in_round takes.line [] input left upto.lines first ∙ append-nil given in
        let runs = runs_then t u old mid new k n upto.given upto.round takes.line upto.runs prints in
        record {
          output = runs.output;
          replies = subst (λ (ls : List Numbered). Replies answers s 0 ls runs.output u) (sym lines) runs.replies;
          gained = runs.gained;
        }

    -- nothing more
    pub upto_taken : AnswersTaken answers s t old mid input
    upto_taken = record {
      taken = length upto.given;
      output = upto.runs.output;
      replies = subst (λ (ls : List Numbered). Replies answers s 0 ls upto.runs.output t) (sym (front_lines upto.given (numbered upto.round upto.in_round (pieces [] left)) input upto.lines)) upto.runs.replies;
      gained = upto.runs.gained;
    }

    -- a front of a piece
    pub upto_front : (u : A) (new : Option (List ℕ)) (after : List ℕ) (piece : Piece) (takes : TakesPieceWithin most piece left after)
        → PieceFront answers t k takes.line u mid new → AnswersFront answers s u old new input
    upto_front u new after piece takes front =
        let given = upto.given ++ lines_at upto.round takes.line in
        let ps = later_pieces piece.by_newline after in
        let lines = lines_then upto.given upto.round upto.in_round takes.line ps input left upto.lines takes.first in
        let more = numbered (behind upto.round upto.in_round takes.line ps).round_then (behind upto.round upto.in_round takes.line ps).in_then ps in
        let due = (upto.runs.output ++ front.output) ++ front.rest in
        record {
          taken = length given;
          output = upto.runs.output ++ front.output;
          rest = front.rest;
          replies = subst (λ (ls : List Numbered). Replies answers s 0 ls due u) (sym (front_lines given more input lines))
              (subst (λ (out : List ℕ). Replies answers s 0 given out u) (sym (append_assoc upto.runs.output front.output front.rest))
              (replies_then t u upto.given upto.runs.output (front.output ++ front.rest) k upto.round takes.line upto.runs.replies upto.runs.many front.replies));
          gained = Appends-trans old mid new upto.runs.output front.output upto.runs.gained front.gained;
        }
