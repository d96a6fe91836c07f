-- The lines of a round, read one after another.
use Rattle.std.proofs.Common.{◌≡◌, refl, ℕ, zero, suc, ◌+◌, ◌<◌, ◌≤◌, inr, ⊎_elim, false, true, List, [], ◌∷◌, ◌++◌, length, map, take, Some, slice_get, get_or, sym, subst, ap, ◌∙◌, arith, append-nil, append_assoc, length-append, take_all}
use Rattle.std.proofs.lemmas.List.{map-append, length-map}
use Rattle.std.specs.List.{AllByRecursion}
use Rattle.gd_runs.specs.Input.{line_from}
use Rattle.gd_runs.specs.Explained.{Numbered, memory_line}
use Rattle.gd_runs.specs.Side as side
use Rattle.gd_runs.proofs.Rounds.{no_some, some_same, get_cases, get_left, get_right, get_within}
use Rattle.gd_input.specs.declared.line.RoundLine.{RoundLine}
use Rattle.gd_input.specs.Line.{IsKept}
use Rattle.gd_input.specs.Rounds.{AreKept}
use Rattle.gd_core_laws.specs.Round.{one_write, write_lines}
use Rattle.gd_core_laws.specs.Writes.{RisesBy}
use Rattle.gd_core_laws.proofs.SideHistory.{only}
use Rattle.gd_round_lines.specs.declared.work.ReadLine.{ReadLine}
use Rattle.gd_round_lines.specs.declared.work.WriteLine.{WriteLine}
use Rattle.gd_round_lines.specs.declared.work.Asked.{Asked}
use Rattle.gd_round_lines.specs.declared.work.Works.{Works}
use Rattle.gd_round_lines.specs.declared.work.LineNumber.{LineNumber}
use Rattle.gd_reply.specs.declared.reply.Reply.{Reply}
use Rattle.gd_round_lines.specs.Some.{IsSomeOf}
use Rattle.gd_round_lines.specs.Works.{IsFirstReply, no_number, texts_of, write_of, IsReadOf, IsNoLine, IsAsked, IsReadAsked, IsWriteAsked, IsAskedAt, AreAsked, Pushes, TakesLine, IsReadWithin, IsWriteWithin, AreApart, AreWithin, IsReadAmong, AreRead}
use Rattle.gd_reply.specs.Replies.{reply_text}
use Rattle.gd_round_lines.proofs.Some.{some_none, some_append, some_all}
use Rattle.gd_round_lines.proofs.Sets.{there, item_there}

-- all of a list, and of what is appended
pub all_append : {X : Type 0} (P : X → Type 0) (xs ys : List X) → AllByRecursion P xs → AllByRecursion P ys → AllByRecursion P (xs ++ ys)
all_append P [] ys first more = more
all_append P (x ∷ xs) ys (one, rest) more = (one, all_append P xs ys rest more)

pub all_weaker : {X : Type 0} (P Q : X → Type 0) (xs : List X) → ((x : X) → P x → Q x) → AllByRecursion P xs → AllByRecursion Q xs
all_weaker P Q [] to all = tt
all_weaker P Q (x ∷ xs) to (one, rest) = (to x one, all_weaker P Q xs to rest)

pub all_at : {X : Type 0} (P : X → Type 0) (xs : List X) (i : ℕ) (x : X) → AllByRecursion P xs → slice_get xs i ≡ Some x → P x
all_at P [] i x all at = no_some at
all_at P (y ∷ xs) zero x (one, rest) at = subst P (some_same at) one
all_at P (y ∷ xs) (suc i) x (one, rest) at = all_at P xs i x rest at

pub all_front : {X : Type 0} (P : X → Type 0) (xs ys : List X) → AllByRecursion P (xs ++ ys) → AllByRecursion P xs
all_front P [] ys all = tt
all_front P (x ∷ xs) ys (one, rest) = (one, all_front P xs ys rest)

pub all_last : {X : Type 0} (P : X → Type 0) (xs : List X) (y : X) → AllByRecursion P (xs ++ y ∷ []) → P y
all_last P [] y (one, rest) = one
all_last P (x ∷ xs) y (one, rest) = all_last P xs y rest

-- ---- lists that rise

pub rise_none : {X : Type 0} (f : X → ℕ) → RisesBy f []
rise_none f i j a b less at_a at_b = no_some at_a

pub rise_one : {X : Type 0} (f : X → ℕ) (x : X) → RisesBy f (x ∷ [])
rise_one f x i j a b less at_a at_b = let place = (only x j b at_b).0 in absurd (omega (arith, place, less))

rise_append : {X : Type 0} (f : X → ℕ) (xs ys : List X) → RisesBy f xs → RisesBy f ys → ((i j : ℕ) (a b : X) → slice_get xs i ≡ Some a → slice_get ys j ≡ Some b → f a < f b) → RisesBy f (xs ++ ys)
rise_append f xs ys first more between i j a b less at_a at_b = ⊎_elim
    (λ front_a. ⊎_elim
    (λ front_b. first i j a b less front_a front_b)
    (λ (y, place, end_b). between i y a b front_a end_b)
    (get_cases xs ys j b at_b))
    (λ (x, place, end_a). ⊎_elim
    (λ front_b. let within = get_within xs j b front_b in absurd (omega (arith, within, place, less)))
    (λ (y, places, end_b). more x y a b (omega (arith, place, places, less)) end_a end_b)
    (get_cases xs ys j b at_b))
    (get_cases xs ys i a at_a)

-- no read and write of a line, with those of earlier lines
apart_append : (k : ℕ) (rs reads : List ReadLine) (ws writes : List WriteLine) → AreApart rs ws → AreApart reads writes → ((x : ℕ) (r : ReadLine) → slice_get rs x ≡ Some r → r.line < k) → ((x : ℕ) (r : ReadLine) → slice_get reads x ≡ Some r → r.line ≡ k)
    → ((y : ℕ) (w : WriteLine) → slice_get ws y ≡ Some w → w.line < k) → ((y : ℕ) (w : WriteLine) → slice_get writes y ≡ Some w → w.line ≡ k) → AreApart (rs ++ reads) (ws ++ writes)
apart_append k rs reads ws writes old new rs_less reads_at ws_less writes_at x y r w at_r at_w line = ⊎_elim
    (λ front_r. ⊎_elim
    (λ front_w. old x y r w front_r front_w line)
    (λ (j, place, end_w). let less = rs_less x r front_r in let here = writes_at j w end_w in absurd (omega (arith, less, here, line)))
    (get_cases ws writes y w at_w))
    (λ (i, place, end_r). ⊎_elim
    (λ front_w. let less = ws_less y w front_w in let here = reads_at i r end_r in absurd (omega (arith, less, here, line)))
    (λ (j, places, end_w). new i j r w end_r end_w line)
    (get_cases ws writes y w at_w))
    (get_cases rs reads x r at_r)

-- ---- one line

pub takes_read : (k : ℕ) (bytes : List ℕ) (old new : Works) (r : ReadLine) → IsReadOf k bytes r → Pushes old new (r ∷ []) [] (memory_line r.line) → TakesLine k bytes old new
takes_read k bytes old new r asks p = record {
  numbers = p.numbers;
  reply = memory_line r.line;
  replies = p.replies;
  first = inr (ap memory_line asks.0);
  writes = [];
  written = ap (map write_of) (p.writes_are ∙ append-nil old.writes.items) ∙ sym (append-nil (map write_of old.writes.items));
  some = some_none (one_write k (length bytes) (line_from bytes));
  is_whole = λ whole. (sym p.same_whole ∙ whole, sym (ap (one_write k (length bytes)) asks.1));
  reads = r ∷ [];
  asked = p.reads_are;
  each = (asks, tt);
}

pub takes_write : (k : ℕ) (bytes : List ℕ) (old new : Works) (w : WriteLine) → w.line ≡ k → one_write k (length bytes) (line_from bytes) ≡ write_of w ∷ [] → Pushes old new [] (w ∷ []) (memory_line w.line) → TakesLine k bytes old new
takes_write k bytes old new w line asks p = record {
  numbers = p.numbers;
  reply = memory_line w.line;
  replies = p.replies;
  first = inr (ap memory_line line);
  writes = write_of w ∷ [];
  written = ap (map write_of) p.writes_are ∙ map-append write_of old.writes.items (w ∷ []);
  some = subst (λ (ls : List side.WriteLine). IsSomeOf (write_of w ∷ []) ls) (sym asks) (some_all (write_of w ∷ []));
  is_whole = λ whole. (sym p.same_whole ∙ whole, sym asks);
  reads = [];
  asked = p.reads_are;
  each = tt;
}

pub takes_told : (k : ℕ) (bytes : List ℕ) (old new : Works) (reply : Reply) → IsNoLine bytes → IsFirstReply k bytes (reply_text reply) → Pushes old new [] [] (reply_text reply) → TakesLine k bytes old new
takes_told k bytes old new reply (f, none) first p = record {
  numbers = p.numbers;
  reply = reply_text reply;
  replies = p.replies;
  first = first;
  writes = [];
  written = ap (map write_of) (p.writes_are ∙ append-nil old.writes.items) ∙ sym (append-nil (map write_of old.writes.items));
  some = some_none (one_write k (length bytes) (line_from bytes));
  is_whole = λ whole. (sym p.same_whole ∙ whole, sym (ap (one_write k (length bytes)) none));
  reads = [];
  asked = p.reads_are;
  each = tt;
}

-- the lines are not whole any more
abbrev pub not_whole : Works → Works
not_whole works = record works { whole = false }

pub takes_unread : (k : ℕ) (bytes : List ℕ) (old new : Works) (line : ℕ) → line ≡ k → Pushes (not_whole old) new [] [] (memory_line line) → TakesLine k bytes old new
takes_unread k bytes old new line at p = record {
  numbers = p.numbers;
  reply = memory_line line;
  replies = p.replies;
  first = inr (ap memory_line at);
  writes = [];
  written = ap (map write_of) (p.writes_are ∙ append-nil old.writes.items) ∙ sym (append-nil (map write_of old.writes.items));
  some = some_none (one_write k (length bytes) (line_from bytes));
  is_whole = λ whole. absurd (apart (sym p.same_whole ∙ whole));
  reads = [];
  asked = p.reads_are;
  each = tt;
}
  where
    apart : false ≡ true → ⊥
    apart q = cc

pub within_more : (first k : ℕ) (old new : Works) (reads : List ReadLine) (writes : List WriteLine) (reply : List ℕ) → first ≤ k → AllByRecursion (IsReadAsked k) reads → AllByRecursion (IsWriteAsked k) writes
    → RisesBy (λ (r : ReadLine). r.line) reads → RisesBy (λ (w : WriteLine). w.line) writes → AreApart reads writes → Pushes old new reads writes reply → AreWithin first k old → AreWithin first (k + 1) new
within_more first k old new reads writes reply above reads_at writes_at reads_rise writes_rise apart p w =
    let many = length-append old.numbers.items (no_number ∷ []) in
    let long = ap length p.numbers in
    let count = length-append (map reply_text old.replies.items) (reply ∷ []) in
    let texts = ap length p.replies in
    let before = length-map old.replies.items reply_text in
    let after = length-map new.replies.items reply_text in
    let was = w.numbers in
    let had = w.replies in
    record {
      reads = subst (AllByRecursion (IsReadWithin first (k + 1))) (sym p.reads_are) (all_append (IsReadWithin first (k + 1)) old.reads.items reads
          (all_weaker (IsReadWithin first k) (IsReadWithin first (k + 1)) old.reads.items (λ r is. let low = is.0 in let high = is.1 in (low, omega (arith, high), is.2, is.3)) w.reads)
          (all_weaker (IsReadAsked k) (IsReadWithin first (k + 1)) reads (λ r is. let at = is.0 in (omega (arith, at, above), omega (arith, at), is.1, is.2)) reads_at));
      writes = subst (AllByRecursion (IsWriteWithin first (k + 1))) (sym p.writes_are) (all_append (IsWriteWithin first (k + 1)) old.writes.items writes
          (all_weaker (IsWriteWithin first k) (IsWriteWithin first (k + 1)) old.writes.items (λ x is. let low = is.0 in let high = is.1 in (low, omega (arith, high), is.2)) w.writes)
          (all_weaker (IsWriteAsked k) (IsWriteWithin first (k + 1)) writes (λ x is. let at = is.0 in (omega (arith, at, above), omega (arith, at), is.1)) writes_at));
      numbers = omega (arith, long, many, was);
      replies = omega (arith, texts, count, before, after, had);
      none = subst (AllByRecursion (λ (n : LineNumber). n ≡ no_number)) (sym p.numbers) (all_append (λ (n : LineNumber). n ≡ no_number) old.numbers.items (no_number ∷ []) w.none (refl, tt));
      reads_rise = subst (RisesBy (λ (r : ReadLine). r.line)) (sym p.reads_are) (rise_append (λ (r : ReadLine). r.line) old.reads.items reads w.reads_rise reads_rise
          (λ i j a b at_a at_b. let less = read_less i a at_a in let here = read_here j b at_b in omega (arith, less, here)));
      writes_rise = subst (RisesBy (λ (x : WriteLine). x.line)) (sym p.writes_are) (rise_append (λ (x : WriteLine). x.line) old.writes.items writes w.writes_rise writes_rise
          (λ i j a b at_a at_b. let less = write_less i a at_a in let here = write_here j b at_b in omega (arith, less, here)));
      apart = subst (λ (rs : List ReadLine). AreApart rs new.writes.items) (sym p.reads_are) (subst (AreApart (old.reads.items ++ reads)) (sym p.writes_are)
          (apart_append k old.reads.items reads old.writes.items writes w.apart apart read_less read_here write_less write_here));
    }
  where
    read_less : (x : ℕ) (r : ReadLine) → slice_get old.reads.items x ≡ Some r → r.line < k
    read_less x r at = (all_at (IsReadWithin first k) old.reads.items x r w.reads at).1

    read_here : (x : ℕ) (r : ReadLine) → slice_get reads x ≡ Some r → r.line ≡ k
    read_here x r at = (all_at (IsReadAsked k) reads x r reads_at at).0

    write_less : (y : ℕ) (v : WriteLine) → slice_get old.writes.items y ≡ Some v → v.line < k
    write_less y v at = (all_at (IsWriteWithin first k) old.writes.items y v w.writes at).1

    write_here : (y : ℕ) (v : WriteLine) → slice_get writes y ≡ Some v → v.line ≡ k
    write_here y v at = (all_at (IsWriteAsked k) writes y v writes_at at).0

pub within_read : (first k : ℕ) (old new : Works) (r : ReadLine) (reply : List ℕ) → first ≤ k → IsReadAsked k r → Pushes old new (r ∷ []) [] reply → AreWithin first k old → AreWithin first (k + 1) new
within_read first k old new r reply above at p w = within_more first k old new (r ∷ []) [] reply above (at, tt) tt (rise_one (λ (q : ReadLine). q.line) r) (rise_none (λ (v : WriteLine). v.line)) (λ x y q v at_q at_v line. no_some at_v) p w

pub within_write : (first k : ℕ) (old new : Works) (v : WriteLine) (reply : List ℕ) → first ≤ k → IsWriteAsked k v → Pushes old new [] (v ∷ []) reply → AreWithin first k old → AreWithin first (k + 1) new
within_write first k old new v reply above at p w = within_more first k old new [] (v ∷ []) reply above tt (at, tt) (rise_none (λ (q : ReadLine). q.line)) (rise_one (λ (x : WriteLine). x.line) v) (λ x y q u at_q at_u line. no_some at_q) p w

pub within_told : (first k : ℕ) (old new : Works) (reply : List ℕ) → first ≤ k → Pushes old new [] [] reply → AreWithin first k old → AreWithin first (k + 1) new
within_told first k old new reply above p w = within_more first k old new [] [] reply above tt tt (rise_none (λ (q : ReadLine). q.line)) (rise_none (λ (v : WriteLine). v.line)) (λ x y q v at_q at_v line. no_some at_q) p w

pub within_unread : (first k : ℕ) (old new : Works) (reply : List ℕ) → first ≤ k → Pushes (not_whole old) new [] [] reply → AreWithin first k old → AreWithin first (k + 1) new
within_unread first k old new reply above p w = within_told first k (not_whole old) new reply above p
    (record { reads = w.reads; writes = w.writes; numbers = w.numbers; replies = w.replies; none = w.none; reads_rise = w.reads_rise; writes_rise = w.writes_rise; apart = w.apart })

-- ---- all lines

-- one line, as it is numbered
record At (text : RoundLine) (given : List Numbered) (i : ℕ) : Type 0 where
  pub line : Numbered
  pub there : slice_get given i ≡ Some line
  pub kept : IsKept 262_144 text line.bytes
  pub upto : take (i + 1) given ≡ take i given ++ line ∷ []

at : (ls : List RoundLine) (given : List Numbered) (i : ℕ) (l : RoundLine) → AreKept ls (texts_of given) → slice_get ls i ≡ Some l → At l given i
at [] given i l kept is = no_some is
at (k ∷ ls) [] i l kept is = absurd kept
at (k ∷ ls) (n ∷ ns) zero l (here, later) is = record { line = n; there = refl; kept = subst (λ (x : RoundLine). IsKept 262_144 x n.bytes) (some_same is) here; upto = refl }
at (k ∷ ls) (n ∷ ns) (suc i) l (here, later) is =
    let r = at ls ns i l later is in
    record { line = r.line; there = r.there; kept = r.kept; upto = ap (λ (m : ℕ). take m (n ∷ ns)) (plus i) ∙ ap (λ (xs : List Numbered). n ∷ xs) (ap (λ (m : ℕ). take m ns) (sym (one i)) ∙ r.upto) }
  where
    plus : (i : ℕ) → suc i + 1 ≡ suc (suc i)
    plus i = omega arith

    one : (i : ℕ) → i + 1 ≡ suc i
    one i = omega arith

same_count : (ls : List RoundLine) (given : List Numbered) → AreKept ls (texts_of given) → length given ≡ length ls
same_count [] [] kept = refl
same_count [] (n ∷ ns) kept = absurd kept
same_count (l ∷ ls) [] kept = absurd kept
same_count (l ∷ ls) (n ∷ ns) (here, later) = ap suc (same_count ls ns later)

pub count_is : (ls : List RoundLine) (given : List Numbered) → AreKept ls (texts_of given) → length given ≡ length ls
count_is ls given kept = same_count ls given kept

-- no line was read yet
pub none_read : (first : ℕ) (given : List Numbered) (works : Works) → works.reads.items ≡ [] → works.writes.items ≡ [] → works.numbers.items ≡ [] → works.replies.items ≡ [] → AreRead first (take 0 given) works
none_read first given works reads writes numbers replies = record {
  numbers = λ j n is. no_some (subst (λ (xs : List LineNumber). slice_get xs j ≡ Some n) numbers is);
  many = ap length numbers;
  replies = λ j l reply there is. no_some there;
  count = ap (λ (xs : List Reply). length (map reply_text xs)) replies;
  writes = ap (map write_of) writes;
  whole = λ whole. ap (map write_of) writes;
  reads = subst (AllByRecursion (IsReadAmong first [])) (sym reads) tt;
}

pub none_within : (first : ℕ) (works : Works) → works.reads.items ≡ [] → works.writes.items ≡ [] → works.numbers.items ≡ [] → works.replies.items ≡ [] → AreWithin first first works
none_within first works reads writes numbers replies =
    let no_numbers = ap length numbers in
    let no_replies = ap length replies in
    record {
      reads = subst (AllByRecursion (IsReadWithin first first)) (sym reads) tt;
      writes = subst (AllByRecursion (IsWriteWithin first first)) (sym writes) tt;
      numbers = omega (arith, no_numbers);
      replies = omega (arith, no_replies);
      none = subst (AllByRecursion (λ (n : LineNumber). n ≡ no_number)) (sym numbers) tt;
      reads_rise = subst (RisesBy (λ (r : ReadLine). r.line)) (sym reads) (rise_none (λ (r : ReadLine). r.line));
      writes_rise = subst (RisesBy (λ (w : WriteLine). w.line)) (sym writes) (rise_none (λ (w : WriteLine). w.line));
      apart = λ x y r w at_r at_w line. no_some (subst (λ (rs : List ReadLine). slice_get rs x ≡ Some r) reads at_r);
    }

write_lines-append : (k : ℕ) (xs ys : List Numbered) → write_lines k (xs ++ ys) ≡ write_lines k xs ++ write_lines (k + length xs) ys
write_lines-append k [] ys = ap (λ (n : ℕ). write_lines n ys) (omega arith)
write_lines-append k (x ∷ xs) ys =
    let one = one_write k (length x.bytes) (line_from x.bytes) in
    ap (λ (ls : List side.WriteLine). one ++ ls) (write_lines-append (k + 1) xs ys ∙ ap (λ (n : ℕ). write_lines (k + 1) xs ++ write_lines n ys) (omega arith))
    ∙ sym (append_assoc one (write_lines (k + 1) xs) (write_lines (k + length (x ∷ xs)) ys))

length-take-at : (given : List Numbered) (i : ℕ) (l : Numbered) → slice_get given i ≡ Some l → length (take i given) ≡ i
length-take-at [] i l at = no_some at
length-take-at (n ∷ ns) zero l at = refl
length-take-at (n ∷ ns) (suc i) l at = ap suc (length-take-at ns i l at)

-- one line more
more_read : (first : ℕ) (before : List Numbered) (l : Numbered) (old new : Works) → AreRead first before old → TakesLine (first + length before) l.bytes old new → AreRead first (before ++ l ∷ []) new
more_read first before l old new r t =
    let end = length-append before (l ∷ []) in
    let many = length-append old.numbers.items (no_number ∷ []) in
    let long = ap length t.numbers in
    let count = length-append (map reply_text old.replies.items) (t.reply ∷ []) in
    let texts = ap length t.replies in
    let was = r.many in
    let had = r.count in
    let one = one_write (first + length before) (length l.bytes) (line_from l.bytes) in
    let lines = write_lines-append first before (l ∷ []) ∙ ap (λ (ls : List side.WriteLine). write_lines first before ++ ls) (append-nil one) in
    record {
      numbers = λ j n is. ⊎_elim
          (λ earlier. r.numbers j n earlier)
          (λ (i, place, this). (only no_number i n this).1)
          (get_cases old.numbers.items (no_number ∷ []) j n (subst (λ (xs : List LineNumber). slice_get xs j ≡ Some n) t.numbers is));
      many = omega (arith, long, many, was, end);
      replies = λ j m reply there is. ⊎_elim
          (λ earlier. ⊎_elim
          (λ had_reply. r.replies j m reply earlier had_reply)
          (λ (i, place, this). let within = get_within before j m earlier in absurd (omega (arith, within, place, had)))
          (get_cases (map reply_text old.replies.items) (t.reply ∷ []) j reply (subst (λ (xs : List (List ℕ)). slice_get xs j ≡ Some reply) t.replies is)))
          (λ (i, place, this). ⊎_elim
          (λ had_reply. let within = get_within (map reply_text old.replies.items) j reply had_reply in absurd (omega (arith, within, place, had)))
          (λ (p, at_end, last).
          let zero_is = (only l i m this).0 in
          let line = (only l i m this).1 in
          let text = (only t.reply p reply last).1 in
          subst (λ (n : ℕ). IsFirstReply n m.bytes reply) (omega (arith, place, zero_is)) (subst (λ (x : Numbered). IsFirstReply (first + length before) x.bytes reply) (sym line) (subst (λ (x : List ℕ). IsFirstReply (first + length before) l.bytes x) (sym text) t.first)))
          (get_cases (map reply_text old.replies.items) (t.reply ∷ []) j reply (subst (λ (xs : List (List ℕ)). slice_get xs j ≡ Some reply) t.replies is)))
          (get_cases before (l ∷ []) j m there);
      count = omega (arith, texts, count, had, end);
      writes = subst (λ (ls : List side.WriteLine). IsSomeOf (map write_of new.writes.items) ls) (sym lines)
          (subst (λ (ls : List side.WriteLine). IsSomeOf ls (write_lines first before ++ one_write (first + length before) (length l.bytes) (line_from l.bytes))) (sym t.written)
          (some_append (map write_of old.writes.items) (write_lines first before) t.writes (one_write (first + length before) (length l.bytes) (line_from l.bytes)) r.writes t.some));
      whole = λ whole.
          let (before_whole, all) = t.is_whole whole in
          t.written ∙ ap (λ (ls : List side.WriteLine). ls ++ t.writes) (r.whole before_whole) ∙ ap (λ (ls : List side.WriteLine). write_lines first before ++ ls) all ∙ sym lines;
      reads = subst (AllByRecursion (IsReadAmong first (before ++ l ∷ []))) (sym t.asked) (all_append (IsReadAmong first (before ++ l ∷ [])) old.reads.items t.reads
          (all_weaker (IsReadAmong first before) (IsReadAmong first (before ++ l ∷ [])) old.reads.items (λ x among. record { place = among.place; line = among.line; there = get_left before (l ∷ []) among.place among.line among.there; asks = among.asks }) r.reads)
          (all_weaker (IsReadOf (first + length before) l.bytes) (IsReadAmong first (before ++ l ∷ [])) t.reads (λ x asks. record { place = length before; line = l; there = subst (λ (n : ℕ). slice_get (before ++ l ∷ []) n ≡ Some l) (omega arith) (get_right before (l ∷ []) 0 l refl); asks = asks }) t.each));
    }

-- LAW: of the lines of a round one more was read
pub one_read : (first : ℕ) (ls : List RoundLine) (given : List Numbered) (i : ℕ) (l : RoundLine) (old new : Works) → AreKept ls (texts_of given) → slice_get ls i ≡ Some l → AreRead first (take i given) old
    → ((bytes : List ℕ) → IsKept 262_144 l bytes → TakesLine (first + i) bytes old new) → AreRead first (take (i + 1) given) new
one_read first ls given i l old new kept is r takes =
    let a = at ls given i l kept is in
    let long = length-take-at given i a.line a.there in
    subst (λ (ns : List Numbered). AreRead first ns new) (sym a.upto)
    (more_read first (take i given) a.line old new r (subst (λ (n : ℕ). TakesLine (first + n) a.line.bytes old new) (sym long) (takes a.line.bytes a.kept)))

-- LAW: of the lines of a round, what one more asks was taken
pub next_read : (first : ℕ) (ls : List RoundLine) (all : List Asked) (given : List Numbered) (i : ℕ) (what : Asked) (old new : Works) → AreAsked first ls all → AreKept ls (texts_of given) → i < length all → what ≡ get_or all i what → AreRead first (take i given) old
    → ((line : ℕ) (bytes : List ℕ) → IsAskedAt line what → IsAsked line bytes what → TakesLine line bytes old new) → AreRead first (take (i + 1) given) new
next_read first ls all given i what old new asked kept less is r takes =
    let count = asked.count in
    let (text, here) = there ls i (omega (arith, count, less)) in
    let of = asked.each i what (item_there all i what less is) in
    one_read first ls given i text old new kept here r (λ bytes was. takes (first + i) bytes of.line (of.asked text bytes here was))

-- all were
pub all_read : (first : ℕ) (ls : List RoundLine) (given : List Numbered) (i : ℕ) (works : Works) → AreKept ls (texts_of given) → length ls ≤ i → AreRead first (take i given) works → AreRead first given works
all_read first ls given i works kept long r =
    let count = same_count ls given kept in
    subst (λ (ns : List Numbered). AreRead first ns works) (take_all i given (omega (arith, count, long))) r
