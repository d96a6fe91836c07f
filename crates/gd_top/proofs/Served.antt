-- How what is printed for the lines of rounds becomes what is printed for an input.
use Rattle.std.proofs.Common.{◌≡◌, ℕ, zero, suc, ◌+◌, Bool, true, false, List, [], ◌∷◌, ◌++◌, length, Option, Some, refl, sym, subst, ap, ◌∙◌, arith, append-nil, append_assoc, zero-add, length-append}
use Rattle.std.proofs.lemmas.List.{length-map}
use Rattle.std.proofs.KnownBytes.{Appends-trans, Appends-nil, Appends-kept}
use Rattle.std.specs.Io.KnownBytes.{Appends, Keeps}
use Rattle.gd_base.specs.Counts.{RoseBy}
use Rattle.gd_prim.specs.declared.Batch.{Batch}
use Rattle.gd_prim.specs.Builtin.{builtin}
use Rattle.gd_prim.specs.WellFormed.{all_follow}
use Rattle.gd_runs.specs.Core.{State, opened}
use Rattle.gd_runs.specs.Explained.{Numbered, pieces, numbered, lines_of, lines_within, memory_line, fault_count}
use Rattle.gd_input.specs.declared.line.RoundLine.{RoundLine}
use Rattle.gd_input.specs.declared.round.Round.{Round}
use Rattle.gd_input.specs.Rounds.{AreKept, in_round, TakesRound, StopsInRound}
use Rattle.gd_input.specs.Taken.{whole_rounds}
use Rattle.gd_round_lines.specs.Replies.{no_memory}
use Rattle.gd_round_laws.specs.Rounds.{ServesRound, RoundsStand, IsAccounted, passed}
use Rattle.gd_round_laws.proofs.Rounds.{rounds_begin, rounds_go_on, rounds_are_accounted, rest_is_passed, first_rounds_are_within}
use Rattle.gd_round_laws.proofs.Counts.{fault_count-append}
use Rattle.gd_threads.specs.PassedOn.{printed, KeepingValue, CountsLines}
use Rattle.gd_top.specs.Opened.{HoldsAs}
use Rattle.gd_top.specs.Answered.{Answers, AnswersFront, ServedUpto}
use Rattle.gd_threads.proofs.PassedOn.{lines_append}
use Rattle.gd_round_lines.specs.Works.{texts_of}
use Rattle.gd_threads.proofs.Served.{texts_in}
use Rattle.gd_top.specs.Counted.{ServesKeeping}
use Rattle.gd_top.specs.Serves.{Accounts, ServesFront, ServesRounds}
use Rattle.gd_top.proofs.Printed.{printed-append, length-passed}
use Rattle.gd_top.proofs.Split.{told_is}

-- ---- the lines of a round

-- a round has as many texts as lines
pub same_count : (ls : List RoundLine) (texts : List (List ℕ)) → AreKept ls texts → length texts ≡ length ls
same_count [] [] kept = refl
same_count [] (t ∷ ts) kept = absurd kept
same_count (l ∷ ls) [] kept = absurd kept
same_count (l ∷ ls) (t ∷ ts) (here, later) = ap suc (same_count ls ts later)

-- what was printed in full is a front too
pub whole_front : (may : ℕ → Bool) (s : State) (k : ℕ) (t : State) (n : ℕ) (texts : List (List ℕ)) (old new : Option (List ℕ)) (a b : ℕ) (had has : KeepingValue) → Answers may s k t n texts old new a b had has → AnswersFront may s k t texts old new a b had has
whole_front may s k t n texts old new a b had has answers = record {
  replies = answers.replies;
  answered = answers.answered;
  front = record { piece = printed answers.replies; rest = []; parts = append-nil (printed answers.replies); gained = answers.gained };
}

-- what was printed stays after a flush
pub held_on : (may : ℕ → Bool) (s : State) (k : ℕ) (t : State) (n : ℕ) (texts : List (List ℕ)) (old mid new : Option (List ℕ)) (a b : ℕ) (had has : KeepingValue) → Answers may s k t n texts old mid a b had has → Keeps mid new → Answers may s k t n texts old new a b had has
held_on may s k t n texts old mid new a b had has answers kept = record {
  replies = answers.replies;
  answered = answers.answered;
  next = answers.next;
  gained = Appends-kept old mid new (printed answers.replies) answers.gained kept;
}

pub front_held : (may : ℕ → Bool) (s : State) (k : ℕ) (t : State) (texts : List (List ℕ)) (old mid new : Option (List ℕ)) (a b : ℕ) (had has : KeepingValue) → AnswersFront may s k t texts old mid a b had has → Keeps mid new → AnswersFront may s k t texts old new a b had has
front_held may s k t texts old mid new a b had has front kept = record {
  replies = front.replies;
  answered = front.answered;
  front = record { piece = front.front.piece; rest = front.front.rest; parts = front.front.parts; gained = Appends-kept old mid new front.front.piece front.front.gained kept };
}

-- ---- counts that rise

rose_then : (a b c m n : ℕ) → RoseBy a b m → RoseBy b c n → RoseBy a c (m + n)
rose_then a b c m n first second = omega (arith, first, second)

counts_then : (replies more : List (List ℕ)) (k : ℕ) → k ≡ length replies → fault_count 0 (replies ++ more) ≡ fault_count 0 replies + fault_count k more
counts_then replies more k many = fault_count-append 0 replies more ∙ ap (λ (n : ℕ). fault_count 0 replies + fault_count n more) (zero-add (length replies) ∙ sym many)

-- ---- whole rounds

-- before the first round
pub served_none : (loaded : List Batch) (may : ℕ → Bool) → all_follow builtin 0 loaded ≡ true → (held : Option (List ℕ)) (n : ℕ) (had : KeepingValue) (s : State) (k : ℕ) (input : List ℕ) → k ≡ 0 → s ≡ opened loaded → ServedUpto false loaded may held held n n had had s k input input
served_none loaded may follow held n had s k input none is = record {
  round = 0;
  given = [];
  replies = [];
  lines = refl;
  taken = [];
  parts = refl;
  whole = λ going more. omega arith;
  stand = subst (λ (t : State). RoundsStand loaded may t 0 [] []) (sym is) (rounds_begin loaded may follow);
  many = none;
  each = refl;
  gained = Appends-nil held;
  rose = omega arith;
  counted = refl;
}

-- lines of whole rounds, and then those of one round more
stand_then : (loaded : List Batch) (may : ℕ → Bool) (given : List Numbered) (round : ℕ) (texts replies more : List (List ℕ)) (s t : State) (k : ℕ) → k ≡ length given
    → RoundsStand loaded may s round given (printed replies) → ((r : ℕ) → ServesRound may s k r (in_round r texts) (printed more) t) → RoundsStand loaded may t (round + 1) (given ++ in_round round texts) (printed (replies ++ more))
stand_then loaded may given round texts replies more s t k place before here =
    subst (λ (out : List ℕ). RoundsStand loaded may t (round + 1) (given ++ in_round round texts) out) (sym (printed-append replies more))
    (rounds_go_on loaded may s round given (printed replies) (in_round round texts) (printed more) t before (subst (λ (n : ℕ). ServesRound may s n round (in_round round texts) (printed more) t) place (here round)))

length-in_round : (round : ℕ) (texts : List (List ℕ)) → length (in_round round texts) ≡ length texts
length-in_round round texts = length-map texts (λ (text : List ℕ). record { bytes = text; round = round })

-- the whole rounds of what was taken, with one more
whole_then : (xs ys more : List ℕ) (round : ℕ) → ((zs : List ℕ) → whole_rounds (xs ++ zs) ≡ round + whole_rounds zs) → ((zs : List ℕ) → whole_rounds (ys ++ zs) ≡ 1 + whole_rounds zs) → whole_rounds ((xs ++ ys) ++ more) ≡ (round + 1) + whole_rounds more
whole_then xs ys more round first later =
    ap whole_rounds (append_assoc xs ys more) ∙ (first (ys ++ more) ∙ (ap (λ (n : ℕ). round + n) (later more) ∙ omega arith))

-- the bytes of lines, and those of a round behind them
texts_then : (given : List Numbered) (round : ℕ) (texts : List (List ℕ)) → texts_of (given ++ in_round round texts) ≡ texts_of given ++ texts
texts_then [] round texts = texts_in round texts
texts_then (l ∷ ls) round texts = ap (λ (bs : List (List ℕ)). l.bytes ∷ bs) (texts_then ls round texts)

-- the answers of whole rounds were counted, and then those of one round more
counted_then : (given : List Numbered) (round : ℕ) (texts replies more : List (List ℕ)) (had has now : KeepingValue) (k : ℕ) → k ≡ length replies → length replies ≡ length given → CountsLines 0 (texts_of given) replies had has → CountsLines k texts more has now
    → CountsLines 0 (texts_of (given ++ in_round round texts)) (replies ++ more) had now
counted_then given round texts replies more had has now k place each first later =
    let long = length-map given (λ (l : Numbered). l.bytes) in
    subst (λ (bs : List (List ℕ)). CountsLines 0 bs (replies ++ more) had now) (sym (texts_then given round texts))
    (lines_append 0 (texts_of given) replies texts more had has now (omega (arith, each, long)) first (subst (λ (m : ℕ). CountsLines m texts more has now) (omega (arith, place, each, long)) later))

-- one round more
pub served_more : (loaded : List Batch) (may : ℕ → Bool) (old mid new : Option (List ℕ)) (a b c : ℕ) (had has now : KeepingValue) (s : State) (k : ℕ) (t : State) (n : ℕ) (input left after : List ℕ) (taken : Round) → ServedUpto false loaded may old mid a b had has s k input left → TakesRound taken left after
    → ((texts : List (List ℕ)) → AreKept taken.lines.items texts → Answers may s k t n texts mid new b c has now) → ServedUpto taken.ended loaded may old new a c had now t n input after
served_more loaded may old mid new a b c had has now s k t n input left after taken upto takes answers =
    let here = answers takes.lines takes.kept in
    record {
      round = upto.round + 1;
      given = upto.given ++ in_round upto.round takes.lines;
      replies = upto.replies ++ here.replies;
      lines = upto.lines ∙ (ap (λ (ls : List Numbered). upto.given ++ ls) (takes.rounds upto.round) ∙ sym (append_assoc upto.given (in_round upto.round takes.lines) (numbered (upto.round + 1) 0 (pieces [] after))));
      taken = upto.taken ++ takes.bytes;
      parts = upto.parts ∙ (ap (λ (l : List ℕ). upto.taken ++ l) takes.parts ∙ sym (append_assoc upto.taken takes.bytes after));
      whole = λ going more. whole_then upto.taken takes.bytes more upto.round (upto.whole refl) (takes.whole going);
      stand = stand_then loaded may upto.given upto.round takes.lines upto.replies here.replies s t k (omega (arith, upto.many, upto.each)) upto.stand here.answered.goes;
      many = omega (arith, upto.many, here.next, length-append upto.replies here.replies);
      each = omega (arith, upto.each, here.answered.many, length-append upto.replies here.replies, length-append upto.given (in_round upto.round takes.lines), length-in_round upto.round takes.lines);
      gained = subst (λ (out : List ℕ). Appends old new out) (sym (printed-append upto.replies here.replies)) (Appends-trans old mid new (printed upto.replies) (printed here.replies) upto.gained here.gained);
      rose = subst (λ (m : ℕ). RoseBy a c m) (sym (counts_then upto.replies here.replies k upto.many)) (rose_then a b c (fault_count 0 upto.replies) (fault_count k here.replies) upto.rose here.answered.rose);
      counted = counted_then upto.given upto.round takes.lines upto.replies here.replies had has now k upto.many upto.each upto.counted here.answered.counted;
    }

-- ---- what was printed is accounted for

-- an output that lines print is accounted for, with its faults
accounts : (loaded : List Batch) (may : ℕ → Bool) (a b : ℕ) (s : State) (lines : List Numbered) (output : List ℕ) (replies : List (List ℕ)) → IsAccounted loaded may s lines output → output ≡ printed replies → length replies ≡ length lines
    → RoseBy a b (fault_count 0 replies) → Accounts may (λ l. l ≡ loaded) (HoldsAs may s) (RoseBy a b) lines output
accounts loaded may a b s lines output replies all prints each rose = record {
  loaded = loaded;
  history = s.history;
  runs = all.runs;
  begun = refl;
  explained = all.explained;
  left = all.holds;
  counted = subst (RoseBy a b) (sym (told_is loaded may lines output s.history all.runs replies all.explained prints (sym each))) rose;
}

module _ (over : Bool) (loaded : List Batch) (may : ℕ → Bool) (old new : Option (List ℕ)) (a b : ℕ) (had has : KeepingValue) (s : State) (k : ℕ) (input left : List ℕ) (upto : ServedUpto over loaded may old new a b had has s k input left) where
  -- the rounds that were answered
  so_far : Accounts may (λ l. l ≡ loaded) (HoldsAs may s) (RoseBy a b) upto.given (printed upto.replies)
  so_far = accounts loaded may a b s upto.given (printed upto.replies) upto.replies (rounds_are_accounted loaded may s upto.round upto.given (printed upto.replies) upto.stand) refl upto.each upto.rose

  -- where the input is not over, these are all that lie wholly in what was taken
  pub served_rounds : (after : List ℕ) → over ≡ false → StopsInRound left after → ServesRounds may (λ l. l ≡ loaded) (HoldsAs may s) (RoseBy a b) old new (Some after) input
  served_rounds after going stops =
      let many : whole_rounds (upto.taken ++ stops.bytes) ≡ upto.round = upto.whole going stops.bytes ∙ (ap (λ (n : ℕ). upto.round + n) stops.none ∙ omega arith) in
      record {
        taken = upto.taken ++ stops.bytes;
        parts = upto.parts ∙ (ap (λ (l : List ℕ). upto.taken ++ l) stops.parts ∙ sym (append_assoc upto.taken stops.bytes after));
        output = printed upto.replies;
        accounts = subst (λ (n : ℕ). Accounts may (λ l. l ≡ loaded) (HoldsAs may s) (RoseBy a b) (lines_within n input) (printed upto.replies)) (sym many)
            (subst (λ (lines : List Numbered). Accounts may (λ l. l ≡ loaded) (HoldsAs may s) (RoseBy a b) lines (printed upto.replies))
            (sym (first_rounds_are_within loaded may s upto.round upto.given (printed upto.replies) input left upto.stand upto.lines)) so_far);
        gained = upto.gained;
      }

  -- at the end of the input
  pub served_all : left ≡ [] → ServesKeeping may (λ l. l ≡ loaded) (HoldsAs may s) (RoseBy a b) old new had has input
  served_all end =
      let lines : lines_of input ≡ upto.given = upto.lines ∙ (ap (λ (bytes : List ℕ). upto.given ++ numbered upto.round 0 (pieces [] bytes)) end ∙ append-nil upto.given) in
      record {
        output = printed upto.replies;
        accounts = subst (λ (ls : List Numbered). Accounts may (λ l. l ≡ loaded) (HoldsAs may s) (RoseBy a b) ls (printed upto.replies)) (sym lines) so_far;
        gained = upto.gained;
        replies = upto.replies;
        many = upto.each ∙ ap length (sym lines);
        prints = refl;
        counted = subst (λ (ls : List Numbered). CountsLines 0 (texts_of ls) upto.replies had has) (sym lines) upto.counted;
      }

-- ---- fronts

-- what is printed for lines that were not run
printed-passed : (k n : ℕ) → printed (no_memory k n) ≡ passed k n
printed-passed k zero = refl
printed-passed k (suc n) = append_assoc (memory_line k) (10 ∷ []) (printed (no_memory (k + 1) n)) ∙ ap (λ (out : List ℕ). memory_line k ++ 10 ∷ out) (printed-passed (k + 1) n)

-- they tell no fault
passed-count : (k n : ℕ) → fault_count k (no_memory k n) ≡ 0
passed-count k zero = refl
passed-count k (suc n) = zero-add (fault_count (k + 1) (no_memory (k + 1) n)) ∙ passed-count (k + 1) n

-- rounds that were served, with a front of what was due for them: for the other lines memory might have been wanting
front_at : (loaded : List Batch) (may : ℕ → Bool) (old new : Option (List ℕ)) (a b : ℕ) (input : List ℕ) (round : ℕ) (given more : List Numbered) (output rest : List ℕ) (replies : List (List ℕ)) (s : State) → lines_of input ≡ given ++ more
    → RoundsStand loaded may s round given (printed replies) → output ++ rest ≡ printed replies → length replies ≡ length given → RoseBy a b (fault_count 0 replies) → Appends old new output → ServesFront may (λ l. l ≡ loaded) (HoldsAs may s) (RoseBy a b) old new input
front_at loaded may old new a b input round given more output rest replies s lines stand prints each rose gained =
    let k : ℕ = length given in
    let unrun : List (List ℕ) = no_memory k (length more) in
    let due : List ℕ = rest ++ printed unrun in
    let whole : output ++ due ≡ printed (replies ++ unrun) =
    sym (append_assoc output rest (printed unrun)) ∙ (ap (λ (o : List ℕ). o ++ printed unrun) prints ∙ sym (printed-append replies unrun)) in
    let is : printed replies ++ passed k (length more) ≡ output ++ due =
    ap (λ (o : List ℕ). printed replies ++ o) (sym (printed-passed k (length more))) ∙ (sym (printed-append replies unrun) ∙ sym whole) in
    let counts : fault_count 0 (replies ++ unrun) ≡ fault_count 0 replies =
    counts_then replies unrun k (sym each) ∙ (ap (λ (n : ℕ). fault_count 0 replies + n) (passed-count k (length more)) ∙ omega arith) in
    record {
      output = output;
      rest = due;
      accounts = accounts loaded may a b s (lines_of input) (output ++ due) (replies ++ unrun)
          (subst (IsAccounted loaded may s (lines_of input)) is (rest_is_passed loaded may s round given (printed replies) input more stand lines)) whole
          (omega (arith, each, ap length lines, length-append replies unrun, length-append given more, length-passed k (length more))) (subst (λ (n : ℕ). RoseBy a b n) (sym counts) rose);
      gained = gained;
    }

-- whole rounds and nothing of the next one
pub front_of_rounds : (loaded : List Batch) (may : ℕ → Bool) (old new : Option (List ℕ)) (a b : ℕ) (had has : KeepingValue) (s : State) (k : ℕ) (input left : List ℕ) → ServedUpto false loaded may old new a b had has s k input left
    → ServesFront may (λ l. l ≡ loaded) (HoldsAs may s) (RoseBy a b) old new input
front_of_rounds loaded may old new a b had has s k input left upto =
    front_at loaded may old new a b input upto.round upto.given (numbered upto.round 0 (pieces [] left)) (printed upto.replies) [] upto.replies s upto.lines upto.stand (append-nil (printed upto.replies)) upto.each upto.rose upto.gained

-- whole rounds and a part of the next one
pub front_in_round : (loaded : List Batch) (may : ℕ → Bool) (old mid new : Option (List ℕ)) (a b c : ℕ) (had has now : KeepingValue) (s : State) (k : ℕ) (t : State) (input left after : List ℕ) (taken : Round)
    → ServedUpto false loaded may old mid a b had has s k input left → TakesRound taken left after
    → ((texts : List (List ℕ)) → AreKept taken.lines.items texts → AnswersFront may s k t texts mid new b c has now) → ServesFront may (λ l. l ≡ loaded) (HoldsAs may t) (RoseBy a c) old new input
front_in_round loaded may old mid new a b c had has now s k t input left after taken upto takes fronts =
    let here = fronts takes.lines takes.kept in
    let first = printed upto.replies in
    let whole : (first ++ here.front.piece) ++ here.front.rest ≡ printed (upto.replies ++ here.replies) =
    append_assoc first here.front.piece here.front.rest ∙ (ap (λ (o : List ℕ). first ++ o) here.front.parts ∙ sym (printed-append upto.replies here.replies)) in
    front_at loaded may old new a c input (upto.round + 1) (upto.given ++ in_round upto.round takes.lines) (numbered (upto.round + 1) 0 (pieces [] after)) (first ++ here.front.piece) here.front.rest (upto.replies ++ here.replies) t
    (upto.lines ∙ (ap (λ (ls : List Numbered). upto.given ++ ls) (takes.rounds upto.round) ∙ sym (append_assoc upto.given (in_round upto.round takes.lines) (numbered (upto.round + 1) 0 (pieces [] after)))))
    (stand_then loaded may upto.given upto.round takes.lines upto.replies here.replies s t k (omega (arith, upto.many, upto.each)) upto.stand here.answered.goes) whole
    (omega (arith, upto.each, here.answered.many, length-append upto.replies here.replies, length-append upto.given (in_round upto.round takes.lines), length-in_round upto.round takes.lines))
    (subst (λ (m : ℕ). RoseBy a c m) (sym (counts_then upto.replies here.replies k upto.many)) (rose_then a b c (fault_count 0 upto.replies) (fault_count k here.replies) upto.rose here.answered.rose))
    (Appends-trans old mid new first here.front.piece upto.gained here.front.gained)
