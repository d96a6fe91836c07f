-- Gathering the lines of a round.
use Rattle.std.proofs.Common.{◌≡◌, ℕ, zero, suc, ◌+◌, ◌<◌, List, [], ◌∷◌, ◌++◌, length, Bool, true, false, not, Option, Some, None, refl, sym, ap, ◌∙◌, arith, append_assoc, length-append, bytes_eq, subst}
use Rattle.std.specs.Prelude.{if◌then◌else◌, ◌==◌}
use Rattle.std.proofs.lemmas.Bool.Decides.{nat_tests}
use Rattle.std.proofs.lemmas.List.{map-append}
use Rattle.std.specs.List.{All}
use Rattle.std.proofs.lemmas.List.Elements.{All-append}
use Rattle.std.proofs.KnownBytes.{Consumes-nil, Consumes-trans}
use Rattle.gd_runs.specs.Explained.{Numbered, pieces, numbered}
use Rattle.gd_input.specs.declared.line.RoundLine.{RoundLine}
use Rattle.gd_input.specs.declared.piece.Piece.{Piece}
use Rattle.gd_input.specs.declared.round.Round.{Round}
use Rattle.gd_input.specs.Line.{IsKept, IsShort}
use Rattle.gd_input.specs.Pieces.{Known, Advances, TakesPiece, later_pieces, StopsInLine}
use Rattle.gd_input.specs.Rounds.{AreKept, in_round, TakesRound, StopsInRound}
use Rattle.gd_input.specs.Taken.{ended_lines, rounds_ended, whole_rounds}
use Rattle.gd_input.proofs.Reading.{ended_none}

-- the lines behind so many of a round
abbrev pub rest_of : ℕ → ℕ → List (List ℕ) → List Numbered
rest_of round k ps = if k == 256 then numbered (round + 1) 0 ps else numbered round k ps

-- how many rounds end with these lines, behind so many of the present one
abbrev pub rounds_behind : ℕ → List (List ℕ) → ℕ
rounds_behind k lines = if k == 256 then 1 + rounds_ended 0 lines else rounds_ended k lines

-- lines of a round were taken: what was left begins with them, and goes on with what is left now
pub record Gathering (lines : List RoundLine) (before now : List ℕ) : Type 0 where
  pub texts : List (List ℕ)
  pub bytes : List ℕ
  pub parts : before ≡ bytes ++ now
  pub whole : (more : List ℕ) → whole_rounds (bytes ++ more) ≡ rounds_behind (length texts) (ended_lines [] more)
  pub kept : AreKept lines texts
  pub rest : (round : ℕ) → numbered round 0 (pieces [] before) ≡ in_round round texts ++ rest_of round (length texts) (pieces [] now)

AreKept-length : (ls : List RoundLine) (ts : List (List ℕ)) → AreKept ls ts → length ts ≡ length ls
AreKept-length [] [] kept = refl
AreKept-length [] (t ∷ ts) kept = absurd kept
AreKept-length (l ∷ ls) [] kept = absurd kept
AreKept-length (l ∷ ls) (t ∷ ts) (here, later) = omega (arith, AreKept-length ls ts later)

AreKept-append : (ls : List RoundLine) (ts : List (List ℕ)) (l : RoundLine) (t : List ℕ) → AreKept ls ts → IsKept 262_144 l t → AreKept (ls ++ l ∷ []) (ts ++ t ∷ [])
AreKept-append [] [] l t kept one = (one, tt)
AreKept-append [] (u ∷ ts) l t kept one = absurd kept
AreKept-append (k ∷ ls) [] l t kept one = absurd kept
AreKept-append (k ∷ ls) (u ∷ ts) l t (here, later) one = (here, AreKept-append ls ts l t later one)

abbrev one : ℕ → List ℕ → Numbered
one round t = record { bytes = t; round = round }

-- a line that is not blank comes next
next_line : (round k : ℕ) (t : List ℕ) (ps : List (List ℕ)) → k < 256 → bytes_eq t [] ≡ false → rest_of round k (t ∷ ps) ≡ one round t ∷ rest_of round (k + 1) ps
next_line round k [] ps few some = cc
next_line round k (c ∷ cs) ps few some = let other : (k == 256) ≡ false = grind (arith, nat_tests) in rw other refl

-- a blank line comes next
next_blank : (round k : ℕ) (ps : List (List ℕ)) → k < 256 → rest_of round k ([] ∷ ps) ≡ numbered (round + 1) 0 ps
next_blank round k ps few = let other : (k == 256) ≡ false = grind (arith, nat_tests) in rw other refl

-- the same of the rounds that end
ends_later : (k : ℕ) (t : List ℕ) (ls : List (List ℕ)) → k < 256 → bytes_eq t [] ≡ false → rounds_behind k (t ∷ ls) ≡ rounds_behind (k + 1) ls
ends_later k [] ls few some = cc
ends_later k (c ∷ cs) ls few some = let other : (k == 256) ≡ false = grind (arith, nat_tests) in rw other refl

ends_here : (k : ℕ) (ls : List (List ℕ)) → k < 256 → rounds_behind k ([] ∷ ls) ≡ 1 + rounds_ended 0 ls
ends_here k ls few = let other : (k == 256) ≡ false = grind (arith, nat_tests) in rw other refl

ends_none : (k : ℕ) → k < 256 → rounds_behind k [] ≡ 0
ends_none k few = let other : (k == 256) ≡ false = grind (arith, nat_tests) in rw other refl

blank_is : (t : List ℕ) → bytes_eq t [] ≡ true → t ≡ []
blank_is [] is = refl
blank_is (c ∷ cs) is = cc

-- behind the last line nothing comes
none_behind : (round k : ℕ) → rest_of round k [] ≡ []
none_behind round k = by (k == 256)
  where
    by : (b : Bool) → (if b then numbered (round + 1) 0 [] else numbered round k []) ≡ []
    by true = refl
    by false = refl

-- ---- steps on known bytes

started : (before : List ℕ) → Gathering [] before before
started before = record { texts = []; bytes = []; parts = refl; whole = λ more. refl; kept = tt; rest = λ round. refl }

-- what was taken with one line more
parts_then : (before now after xs ys : List ℕ) → before ≡ xs ++ now → now ≡ ys ++ after → before ≡ (xs ++ ys) ++ after
parts_then before now after xs ys first later = first ∙ (ap (λ (l : List ℕ). xs ++ l) later ∙ sym (append_assoc xs ys after))

-- the rounds that lie in it
whole_then : (lines : List RoundLine) (piece : Piece) (before now after : List ℕ) (g : Gathering lines before now) (taken : TakesPiece piece now after) → piece.by_newline ≡ true
    → (more : List ℕ) → whole_rounds ((g.bytes ++ taken.bytes) ++ more) ≡ rounds_behind (length g.texts) (taken.line ∷ ended_lines [] more)
whole_then lines piece before now after g taken ends more =
    ap whole_rounds (append_assoc g.bytes taken.bytes more) ∙ (g.whole (taken.bytes ++ more) ∙ ap (rounds_behind (length g.texts)) (taken.whole ends more))

-- what is numbered with one line more, whatever pieces come behind it
numbered-more : (lines : List RoundLine) (piece : Piece) (before now after : List ℕ) (g : Gathering lines before now) (taken : TakesPiece piece now after) → length lines < 256 → bytes_eq taken.line [] ≡ false
    → (round : ℕ) → numbered round 0 (pieces [] before) ≡ in_round round (g.texts ++ taken.line ∷ []) ++ rest_of round (length (g.texts ++ taken.line ∷ [])) (later_pieces piece.by_newline after)
numbered-more lines piece before now after g taken few some round =
    let count : length g.texts < 256 = omega (arith, AreKept-length lines g.texts g.kept) in
    let more : length (g.texts ++ taken.line ∷ []) ≡ length g.texts + 1 = omega (arith, length-append g.texts (taken.line ∷ [])) in
    let ps = later_pieces piece.by_newline after in
    g.rest round ∙ (ap (λ (l : List (List ℕ)). in_round round g.texts ++ rest_of round (length g.texts) l) taken.first
    ∙ (ap (λ (l : List Numbered). in_round round g.texts ++ l) (next_line round (length g.texts) taken.line ps count some)
    ∙ (sym (append_assoc (in_round round g.texts) (one round taken.line ∷ []) (rest_of round (length g.texts + 1) ps))
    ∙ (ap (λ (l : List Numbered). l ++ rest_of round (length g.texts + 1) ps) (sym (map-append (one round) g.texts (taken.line ∷ [])))
    ∙ ap (λ (n : ℕ). in_round round (g.texts ++ taken.line ∷ []) ++ rest_of round n ps) (sym more)))))

one_more : (lines : List RoundLine) (piece : Piece) (before now after : List ℕ) → Gathering lines before now → (taken : TakesPiece piece now after) → length lines < 256 → bytes_eq taken.line [] ≡ false → piece.by_newline ≡ true
    → Gathering (lines ++ piece.line ∷ []) before after
one_more lines piece before now after g taken few some ends = record {
  texts = g.texts ++ taken.line ∷ [];
  bytes = g.bytes ++ taken.bytes;
  parts = parts_then before now after g.bytes taken.bytes g.parts taken.parts;
  whole = λ more. whole_then lines piece before now after g taken ends more
      ∙ (ends_later (length g.texts) taken.line (ended_lines [] more) (omega (arith, AreKept-length lines g.texts g.kept, few)) some
      ∙ ap (λ (n : ℕ). rounds_behind n (ended_lines [] more)) (omega (arith, length-append g.texts (taken.line ∷ []))));
  kept = AreKept-append lines g.texts piece.line taken.line g.kept taken.kept;
  rest = λ round. numbered-more lines piece before now after g taken few some round
      ∙ ap (λ (b : Bool). in_round round (g.texts ++ taken.line ∷ []) ++ rest_of round (length (g.texts ++ taken.line ∷ [])) (later_pieces b after)) ends;
}

-- the input ended, so no further round has a line
no_rounds : (round : ℕ) (after : List ℕ) → after ≡ [] → numbered round 0 (pieces [] after) ≡ []
no_rounds round after none = ap (λ (l : List ℕ). numbered round 0 (pieces [] l)) none

last_line : (lines : List RoundLine) (round : Round) (piece : Piece) (before now after : List ℕ) → Gathering lines before now → (taken : TakesPiece piece now after) → length lines < 256 → bytes_eq taken.line [] ≡ false → piece.by_newline ≡ false
    → round.lines.items ≡ lines ++ piece.line ∷ [] → round.ended ≡ true → TakesRound round before after
last_line lines round piece before now after g taken few some ends is over = record {
  lines = g.texts ++ taken.line ∷ [];
  bytes = g.bytes ++ taken.bytes;
  parts = parts_then before now after g.bytes taken.bytes g.parts taken.parts;
  whole = λ going. let e : true ≡ false = sym over ∙ going in absurd (cc);
  kept = rw is (AreKept-append lines g.texts piece.line taken.line g.kept taken.kept);
  rounds = λ n. numbered-more lines piece before now after g taken few some n
      ∙ ap (λ (l : List Numbered). in_round n (g.texts ++ taken.line ∷ []) ++ l)
      (ap (λ (b : Bool). rest_of n (length (g.texts ++ taken.line ∷ [])) (later_pieces b after)) ends
      ∙ (none_behind n (length (g.texts ++ taken.line ∷ [])) ∙ sym (no_rounds (n + 1) after (taken.ended ends))));
  ended = λ last. taken.ended ends;
}

-- behind a blank line the next round begins, or nothing comes where the input ended
behind_blank : (by_newline : Bool) (round : ℕ) (after : List ℕ) → (by_newline ≡ false → after ≡ []) → numbered (round + 1) 0 (later_pieces by_newline after) ≡ numbered (round + 1) 0 (pieces [] after)
behind_blank true round after ended = refl
behind_blank false round after ended = sym (no_rounds (round + 1) after (ended refl))

not_false : (b : Bool) → not b ≡ true → b ≡ false
not_false true is = cc
not_false false is = refl

not_ended : (b : Bool) → not b ≡ false → b ≡ true
not_ended true is = refl
not_ended false is = cc

blank_line : (lines : List RoundLine) (round : Round) (piece : Piece) (before now after : List ℕ) → Gathering lines before now → (taken : TakesPiece piece now after) → length lines < 256 → bytes_eq taken.line [] ≡ true
    → round.lines.items ≡ lines → round.ended ≡ not piece.by_newline → TakesRound round before after
blank_line lines round piece before now after g taken few blank is last = record {
  lines = g.texts;
  bytes = g.bytes ++ taken.bytes;
  parts = parts_then before now after g.bytes taken.bytes g.parts taken.parts;
  whole = λ going more. whole_then lines piece before now after g taken (not_ended piece.by_newline (sym last ∙ going)) more
      ∙ (ap (λ (t : List ℕ). rounds_behind (length g.texts) (t ∷ ended_lines [] more)) (blank_is taken.line blank)
      ∙ ends_here (length g.texts) (ended_lines [] more) (omega (arith, AreKept-length lines g.texts g.kept, few)));
  kept = rw is g.kept;
  rounds = λ n. g.rest n ∙ ap (λ (l : List Numbered). in_round n g.texts ++ l)
      (ap (λ (l : List (List ℕ)). rest_of n (length g.texts) l) (taken.first ∙ ap (λ (t : List ℕ). t ∷ later_pieces piece.by_newline after) (blank_is taken.line blank))
      ∙ (next_blank n (length g.texts) (later_pieces piece.by_newline after) (omega (arith, AreKept-length lines g.texts g.kept)) ∙ behind_blank piece.by_newline n after taken.ended));
  ended = λ ends. taken.ended (not_false piece.by_newline (sym last ∙ ends));
}

full_round : (lines : List RoundLine) (round : Round) (before now : List ℕ) → Gathering lines before now → length lines ≡ 256 → round.lines.items ≡ lines → round.ended ≡ false → TakesRound round before now
full_round lines round before now g full is last = record {
  lines = g.texts;
  bytes = g.bytes;
  parts = g.parts;
  whole = λ going more. g.whole more ∙ ap (λ (k : ℕ). rounds_behind k (ended_lines [] more)) (AreKept-length lines g.texts g.kept ∙ full);
  kept = rw is g.kept;
  rounds = λ n. g.rest n ∙ ap (λ (k : ℕ). in_round n g.texts ++ rest_of n k (pieces [] now)) (AreKept-length lines g.texts g.kept ∙ full);
  ended = λ ends. cc;
}

-- no round lies wholly in what was taken
in_a_round : (lines : List RoundLine) (before now after : List ℕ) → Gathering lines before now → StopsInLine now after → length lines < 256 → StopsInRound before after
in_a_round lines before now after g stopped few = record {
  bytes = g.bytes ++ stopped.bytes;
  parts = parts_then before now after g.bytes stopped.bytes g.parts stopped.parts;
  none = g.whole stopped.bytes ∙ (ap (rounds_behind (length g.texts)) (ended_none [] stopped.bytes stopped.plain) ∙ ends_none (length g.texts) (omega (arith, AreKept-length lines g.texts g.kept, few)));
}

-- ---- the same where the source may not tell its bytes

join : (a b c : Option (List ℕ)) (P Q R : List ℕ → List ℕ → Type 0) → ((x y z : List ℕ) → P x y → Q y z → R x z) → Known a b P → Known b c Q → Known a c R
join None b c P Q R f p q = tt
join (Some x) None c P Q R f p q = absurd p
join (Some x) (Some y) None P Q R f p q = absurd q
join (Some x) (Some y) (Some z) P Q R f p q = f x y z p q

weaken : (a b : Option (List ℕ)) (P Q : List ℕ → List ℕ → Type 0) → ((x y : List ℕ) → P x y → Q x y) → Known a b P → Known a b Q
weaken None b P Q f p = tt
weaken (Some x) None P Q f p = p
weaken (Some x) (Some y) P Q f p = f x y p

-- what the test for a blank line says
abbrev pub Tells : RoundLine → Bool → Type 0
Tells l blank = (limit : ℕ) (line : List ℕ) → IsKept limit l line → blank ≡ bytes_eq line []

pub at_start : (a : Option (List ℕ)) → Known a a (Gathering [])
at_start None = tt
at_start (Some before) = started before

pub advances_not : (a : Option (List ℕ)) (n : ℕ) → Advances a a n n
advances_not a n = record { bytes = []; consumed = Consumes-nil a; counted = omega arith }

pub advances_on : (a b c : Option (List ℕ)) (k m n : ℕ) → Advances a b k m → Advances b c m n → Advances a c k n
advances_on a b c k m n p q = record { bytes = p.bytes ++ q.bytes; consumed = Consumes-trans a b c p.bytes q.bytes p.consumed q.consumed; counted = omega (arith, p.counted, q.counted, length-append p.bytes q.bytes) }

-- what was taken since an earlier moment
pub since : (b c : Option (List ℕ)) (m n : ℕ) → Advances b c m n → (first : Option (List ℕ)) (before : ℕ) → Advances first b before m → Advances first c before n
since b c m n more first before taken = advances_on first b c before m n taken more

pub pushed : (a b c : Option (List ℕ)) (lines : List RoundLine) (piece : Piece) (blank : Bool) → Known a b (Gathering lines) → Known b c (TakesPiece piece) → length lines < 256 → Tells piece.line blank → blank ≡ false → piece.by_newline ≡ true
    → Known a c (Gathering (lines ++ piece.line ∷ []))
pushed a b c lines piece blank g taken few tells some ends =
    join a b c (Gathering lines) (TakesPiece piece) (Gathering (lines ++ piece.line ∷ []))
    (λ x y z h t. one_more lines piece x y z h t few (sym (tells 262_144 t.line t.kept) ∙ some) ends) g taken

pub last : (a b c : Option (List ℕ)) (lines : List RoundLine) (round : Round) (piece : Piece) (blank : Bool) → Known a b (Gathering lines) → Known b c (TakesPiece piece) → length lines < 256 → Tells piece.line blank → blank ≡ false → piece.by_newline ≡ false
    → round.lines.items ≡ lines ++ piece.line ∷ [] → round.ended ≡ true → Known a c (TakesRound round)
last a b c lines round piece blank g taken few tells some ends is over =
    join a b c (Gathering lines) (TakesPiece piece) (TakesRound round)
    (λ x y z h t. last_line lines round piece x y z h t few (sym (tells 262_144 t.line t.kept) ∙ some) ends is over) g taken

pub blank_ends : (a b c : Option (List ℕ)) (lines : List RoundLine) (round : Round) (piece : Piece) (blank : Bool) → Known a b (Gathering lines) → Known b c (TakesPiece piece) → length lines < 256 → Tells piece.line blank → blank ≡ true
    → round.lines.items ≡ lines → round.ended ≡ not piece.by_newline → Known a c (TakesRound round)
blank_ends a b c lines round piece blank g taken few tells none is ends =
    join a b c (Gathering lines) (TakesPiece piece) (TakesRound round)
    (λ x y z h t. blank_line lines round piece x y z h t few (sym (tells 262_144 t.line t.kept) ∙ none) is ends) g taken

pub full : (a b : Option (List ℕ)) (lines : List RoundLine) (round : Round) → Known a b (Gathering lines) → length lines ≡ 256 → round.lines.items ≡ lines → round.ended ≡ false → Known a b (TakesRound round)
full a b lines round g count is ends = weaken a b (Gathering lines) (TakesRound round) (λ x y h. full_round lines round x y h count is ends) g

pub stopped : (a b c : Option (List ℕ)) (lines : List RoundLine) → Known a b (Gathering lines) → Known b c StopsInLine → length lines < 256 → Known a c StopsInRound
stopped a b c lines g stops few = join a b c (Gathering lines) StopsInLine StopsInRound (λ x y z h s. in_a_round lines x y z h s few) g stops

one_short : (l : RoundLine) → IsShort l → All IsShort (l ∷ [])
one_short l short zero d within = short
one_short l short (suc k) d within = absurd (omega (arith, within))

-- the lines stay short
pub one_more_short : (ls : List RoundLine) (l : RoundLine) (more : List RoundLine) → All IsShort ls → IsShort l → more ≡ ls ++ l ∷ [] → All IsShort more
one_more_short ls l more all short is = subst (All IsShort) (sym is) (All-append IsShort ls (l ∷ []) all (one_short l short))
