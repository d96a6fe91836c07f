-- The reads of a round, answered one after another.
use Rattle.std.proofs.Common.{◌≡◌, refl, ℕ, suc, ◌+◌, ◌-◌, ◌<◌, ◌≤◌, ◌==◌, ⊎_elim, Bool, true, false, List, [], ◌∷◌, ◌++◌, length, map, reverse, set, Option, Some, None, slice_get, if◌then◌else◌, sym, subst, ap, ◌∙◌, arith, append_assoc}
use Rattle.std.proofs.lemmas.List.{length-set, reverse-append}
use Rattle.std.specs.Prelude.{IfSome}
use Rattle.std.specs.List.{AllByRecursion}
use Rattle.gd_prim.specs.declared.Batch.{Batch}
use Rattle.gd_tree.specs.Json.{Json}
use Rattle.gd_runs.specs.Side.{Kept, kept_stored, kept_late, kept_refused, kept_doubt, kept_unsettled, kept_memory, Told}
use Rattle.gd_runs.proofs.Rounds.{no_some, some_same, get_within, get_right}
use Rattle.gd_core_laws.specs.Bounds.{kept_of, least_later}
use Rattle.gd_core_laws.specs.Writes.{RisesBy}
use Rattle.gd_core_laws.proofs.Reading.{same_number}
use Rattle.gd_core_laws.proofs.Lock.{same_numbers}
use Rattle.gd_round_lines.specs.declared.work.ReadLine.{ReadLine}
use Rattle.gd_round_lines.specs.declared.work.WriteLine.{WriteLine}
use Rattle.gd_round_lines.specs.declared.worked.Worked.{Worked}
use Rattle.gd_round_lines.specs.Works.{write_of, AreApart}
use Rattle.gd_caller.specs.Fits.{FollowsWrite}
use Rattle.gd_caller.specs.Reads.{IsAnswer, AnswersOne}
use Rattle.gd_round_lines.specs.Worked.{IsWorked, AreWorked}
use Rattle.gd_caller.specs.Joined.{IsOfWrites, SessionAt, JoinedReply, by_kept, by_caller, by_worker, AnswersReads}
use Rattle.gd_round_lines.proofs.Read.{all_at}
use Rattle.gd_round_lines.proofs.Sets.{set_cases, there, less_or}

-- the dateline that a stored write told, and 0 where nothing is stored
abbrev pub entry_told : Option Kept → ℕ
entry_told (Some (kept_stored e r)) = e + 1
entry_told _ = 0

entry_most : (o : Option Kept) (m : ℕ) → ((e : ℕ) (r : Json) → o ≡ Some (kept_stored e r) → e < m) → entry_told o ≤ m
entry_most None m less = omega arith
entry_most (Some (kept_stored e r)) m less = let here = less e r refl in omega (arith, here)
entry_most (Some (kept_late e)) m less = omega arith
entry_most (Some (kept_refused f n)) m less = omega arith
entry_most (Some (kept_doubt n)) m less = omega arith
entry_most (Some kept_unsettled) m less = omega arith
entry_most (Some kept_memory) m less = omega arith

-- what is kept of a line is of one of the writes
pub kept_write : (writes : List WriteLine) (outs : List Told) (k : ℕ) (kept : Kept) → AllByRecursion (IsOfWrites writes) outs → kept_of outs k ≡ Some kept → (y : ℕ) × (w : WriteLine) × (slice_get writes y ≡ Some w) × (w.line ≡ k)
kept_write writes [] k kept all is = no_some is
kept_write writes (t ∷ outs) k kept ((y, w, at, line), rest) is = by (t.line == k) refl is (λ later. kept_write writes outs k kept rest later)
  where
    by : (b : Bool) → (t.line == k) ≡ b → (if b then Some t.kept else kept_of outs k) ≡ Some kept → (kept_of outs k ≡ Some kept → (y : ℕ) × (w : WriteLine) × (slice_get writes y ≡ Some w) × (w.line ≡ k))
        → (y : ℕ) × (w : WriteLine) × (slice_get writes y ≡ Some w) × (w.line ≡ k)
    by true same here more = (y, w, at, line ∙ same_numbers t.line k same)
    by false other later more = more later

-- a function of places that is another number at one of them
abbrev with_place : (ℕ → ℕ) → ℕ → ℕ → ℕ → ℕ
with_place f p n i = if i == p then n else f i

place_same : (f : ℕ → ℕ) (p n : ℕ) → with_place f p n p ≡ n
place_same f p n = ap (λ (b : Bool). if b then n else f p) (same_number p)

place_other : (f : ℕ → ℕ) (p n i : ℕ) → (i ≡ p → ⊥) → with_place f p n i ≡ f i
place_other f p n i other = by (i == p) refl
  where
    by : (b : Bool) → (i == p) ≡ b → with_place f p n i ≡ f i
    by true is = absurd (other (same_numbers i p is))
    by false is = ap (λ (b : Bool). if b then n else f i) is

-- of lines that rise, those before one are less, and those behind it are greater
rise_place : (reads : List ReadLine) (n x : ℕ) (r q : ReadLine) → RisesBy (λ (a : ReadLine). a.line) reads → slice_get reads n ≡ Some r → slice_get reads x ≡ Some q → q.line < r.line → x < n
rise_place reads n x r q rise at_r at_q less = ⊎_elim (λ before. before) (λ rest. absurd (⊎_elim
    (λ same. let one : q ≡ r = some_same (sym at_q ∙ ap (λ (i : ℕ). slice_get reads i) same ∙ at_r) in let line = ap (λ (a : ReadLine). a.line) one in omega (arith, line, less))
    (λ behind. let more = rise n x r q behind at_r at_q in omega (arith, more, less))
    rest)) (less_or x n)

pub rise_same : (reads : List ReadLine) (n x : ℕ) (r q : ReadLine) → RisesBy (λ (a : ReadLine). a.line) reads → slice_get reads n ≡ Some r → slice_get reads x ≡ Some q → q.line ≡ r.line → q ≡ r
rise_same reads n x r q rise at_r at_q line = ⊎_elim
    (λ before. let less = rise x n q r before at_q at_r in absurd (omega (arith, less, line)))
    (λ rest. ⊎_elim
    (λ same. some_same (sym at_q ∙ ap (λ (i : ℕ). slice_get reads i) same ∙ at_r))
    (λ behind. let more = rise n x r q behind at_r at_q in absurd (omega (arith, more, line)))
    rest) (less_or x n)

module _ (first begun : ℕ) (reads : List ReadLine) (writes : List WriteLine) (batches : List Batch) (shown : ℕ) (outs : List Told) where
  abbrev Reply : (ℕ → ℕ) → ℕ → List ℕ → List ℕ → Type 0
  Reply tells j told reply = JoinedReply first begun reads writes batches shown outs tells j told reply

  -- The first n reads were answered, and no line from a place on: each reply below that place is what was told or that to a read, and the floor of each session is not below what its reads told it.
  pub record Joining (texts now : List (List ℕ)) (floors : List ℕ) (n : ℕ) : Type 0 where
    pub tells : ℕ → ℕ
    pub next : ℕ
    pub many : length now ≡ length texts
    pub below : (j : ℕ) (reply : List ℕ) → slice_get now j ≡ Some reply → j < next → (told : List ℕ) × (slice_get texts j ≡ Some told) × Reply tells j told reply
    pub above : (j : ℕ) (reply : List ℕ) → slice_get now j ≡ Some reply → next ≤ j → slice_get texts j ≡ Some reply
    pub tells_above : (j : ℕ) → next ≤ j → tells j ≡ entry_told (kept_of outs (first + j))
    pub tells_writes : (i y : ℕ) (w : WriteLine) → slice_get writes y ≡ Some w → w.line ≡ first + i → tells i ≡ entry_told (kept_of outs (first + i))
    pub floor : (x f : ℕ) (q : ReadLine) → slice_get reads x ≡ Some q → x < n → slice_get floors q.session ≡ Some f → tells (q.line - first) ≤ f
    pub least : (s f : ℕ) → slice_get floors s ≡ Some f → begun ≤ f
    pub passed : (x : ℕ) (q : ReadLine) → slice_get reads x ≡ Some q → x < n → q.line < first + next
    pub ahead : (x : ℕ) (q : ReadLine) → slice_get reads x ≡ Some q → n ≤ x → first + next ≤ q.line

  -- no read was answered yet
  pub joining_none : (texts : List (List ℕ)) (floors : List ℕ) → ((s f : ℕ) → slice_get floors s ≡ Some f → begun ≤ f) → ((x : ℕ) (q : ReadLine) → slice_get reads x ≡ Some q → first ≤ q.line) → Joining texts texts floors 0
  joining_none texts floors least low = record {
    tells = λ j. entry_told (kept_of outs (first + j));
    next = 0;
    many = refl;
    below = λ j reply at less. absurd (omega (arith, less));
    above = λ j reply at more. at;
    tells_above = λ j more. refl;
    tells_writes = λ i y w at line. refl;
    floor = λ x f q at less there. absurd (omega (arith, less));
    least = least;
    passed = λ x q at less. absurd (omega (arith, less));
    ahead = λ x q at more. let line = low x q at in omega (arith, line);
  }

  -- the same reply, where the same is told up to its place
  same_reply : (tells told_now : ℕ → ℕ) (j : ℕ) (told reply : List ℕ) → ((i : ℕ) → i ≤ j → told_now i ≡ tells i) → Reply tells j told reply → Reply told_now j told reply
  same_reply tells told_now j told reply same (by_kept is stored) = by_kept is (λ e r at. let below = stored e r at in let here = same j (omega arith) in omega (arith, below, here))
  same_reply tells told_now j told reply same (by_caller x r at line is below) = by_caller x r at line is (let here = same j (omega arith) in omega (arith, below, here))
  same_reply tells told_now j told reply same (by_worker w is reply_is at begins later earlier) = by_worker w is reply_is (let here = same j (omega arith) in omega (arith, at, here)) begins later
      (λ i less session. let below = earlier i less session in let here = same i (omega (arith, less)) in omega (arith, below, here))

  -- what was told, where the place tells what its write did
  told_reply : (tells : ℕ → ℕ) (j : ℕ) (told : List ℕ) → tells j ≡ entry_told (kept_of outs (first + j)) → Reply tells j told told
  told_reply tells j told is = by_kept refl (λ e r at. let here : tells j ≡ e + 1 = is ∙ ap entry_told at in omega (arith, here))

  -- all were answered
  pub joining_end : (texts now : List (List ℕ)) (floors : List ℕ) (n : ℕ) → Joining texts now floors n → AnswersReads first begun reads writes batches shown outs texts now
  joining_end texts now floors n inv = record {
    tells = inv.tells;
    many = inv.many;
    each = λ j reply at. ⊎_elim
        (λ less. inv.below j reply at less)
        (λ rest. let more : inv.next ≤ j = ⊎_elim (λ same. omega (arith, same)) (λ less. omega (arith, less)) rest in (reply, inv.above j reply at more, told_reply inv.tells j reply (inv.tells_above j more)))
        (less_or j inv.next);
  }

  -- LAW: one read more was answered
  pub joining_more : (texts now next_texts : List (List ℕ)) (floors next_floors : List ℕ) (n : ℕ) (r : ReadLine) (worked : Option Worked) → RisesBy (λ (a : ReadLine). a.line) reads → ((x : ℕ) (q : ReadLine) → slice_get reads x ≡ Some q → first ≤ q.line)
      → AreApart reads writes → AllByRecursion (IsOfWrites writes) outs → slice_get reads n ≡ Some r → ((w : Worked) → worked ≡ Some w → IsWorked first reads batches shown (r.line - first) w)
      → Joining texts now floors n → AnswersOne first batches shown writes outs r worked floors next_floors now next_texts → Joining texts next_texts next_floors (suc n)
  joining_more texts now next_texts floors next_floors n r worked rise low apart of at_r is_worked inv a = record {
    tells = tells;
    next = suc p;
    many = many;
    below = below;
    above = above;
    tells_above = λ j more. place_other inv.tells p a.at j (λ is. omega (arith, is, more)) ∙ inv.tells_above j (omega (arith, more, behind));
    tells_writes = λ i y w at line. place_other inv.tells p a.at i (λ is. apart n y r w at_r at (omega (arith, here, is, line))) ∙ inv.tells_writes i y w at line;
    floor = floor;
    least = λ s f at. ⊎_elim
        (λ (place, is). let old = inv.least r.session a.floor a.there in let up = a.above_floor in omega (arith, is, old, up))
        (λ (other, old). inv.least s f old)
        (set_cases floors r.session s a.next f (subst (λ (l : List ℕ). slice_get l s ≡ Some f) a.floors_are at));
    passed = λ x q at less. ⊎_elim
        (λ before. let old = inv.passed x q at before in omega (arith, old, behind))
        (λ rest. ⊎_elim
        (λ same. let line = ap (λ (b : ReadLine). b.line) (is_read x q at same) in omega (arith, line, here))
        (λ more. absurd (omega (arith, more, less)))
        rest)
        (less_or x n);
    ahead = λ x q at more. let line = rise n x r q (omega (arith, more)) at_r at in omega (arith, line, here);
  }
    where
      p : ℕ
      p = r.line - first

      here : first + p ≡ r.line
      here = let line = low n r at_r in omega (arith, line)

      behind : inv.next ≤ p
      behind = let line = inv.ahead n r at_r (omega arith) in omega (arith, line)

      tells : ℕ → ℕ
      tells = with_place inv.tells p a.at

      is_read : (x : ℕ) (q : ReadLine) → slice_get reads x ≡ Some q → x ≡ n → q ≡ r
      is_read x q at same = some_same (sym at ∙ ap (λ (i : ℕ). slice_get reads i) same ∙ at_r)

      many : length next_texts ≡ length texts
      many = ⊎_elim
          (λ same. ap length same ∙ inv.many)
          (λ (reply, is, answer). ap length is ∙ length-set now p reply ∙ inv.many)
          a.replies

      -- a reply at another place stays
      other_place : (j : ℕ) (reply : List ℕ) → slice_get next_texts j ≡ Some reply → (j ≡ p → ⊥) → slice_get now j ≡ Some reply
      other_place j reply at other = ⊎_elim
          (λ same. subst (λ (l : List (List ℕ)). slice_get l j ≡ Some reply) same at)
          (λ (answer, is, rest). ⊎_elim (λ (place, same). absurd (other place)) (λ (none, old). old) (set_cases now p j answer reply (subst (λ (l : List (List ℕ)). slice_get l j ≡ Some reply) is at)))
          a.replies

      above : (j : ℕ) (reply : List ℕ) → slice_get next_texts j ≡ Some reply → suc p ≤ j → slice_get texts j ≡ Some reply
      above j reply at more = inv.above j reply (other_place j reply at (λ is. omega (arith, is, more))) (omega (arith, more, behind))

      floor : (x f : ℕ) (q : ReadLine) → slice_get reads x ≡ Some q → x < suc n → slice_get next_floors q.session ≡ Some f → tells (q.line - first) ≤ f
      floor x f q at less got =
          let cases = set_cases floors r.session q.session a.next f (subst (λ (l : List ℕ). slice_get l q.session ≡ Some f) a.floors_are got) in
          let up = a.above_floor in
          ⊎_elim
          (λ before.
          let line = rise x n q r before at at_r in
          let first_q = low x q at in
          let same = place_other inv.tells p a.at (q.line - first) (λ is. omega (arith, is, line, first_q, here)) in
          ⊎_elim
          (λ (session, is). let old = inv.floor x a.floor q at before (ap (λ (s : ℕ). slice_get floors s) session ∙ a.there) in omega (arith, same, old, is, up))
          (λ (other, old). let was = inv.floor x f q at before old in omega (arith, same, was))
          cases)
          (λ rest. ⊎_elim
          (λ same.
          let one = is_read x q at same in
          let line = ap (λ (b : ReadLine). b.line) one in
          let session = ap (λ (b : ReadLine). b.session) one in
          let told : tells (q.line - first) ≡ a.at = ap (λ (m : ℕ). tells (m - first)) line ∙ place_same inv.tells p a.at in
          let most = a.above_at in
          ⊎_elim
          (λ (place, is). omega (arith, told, is, most))
          (λ (other, old). absurd (other session))
          cases)
          (λ more. absurd (omega (arith, more, less)))
          rest)
          (less_or x n)

      -- the lines of its session before it told at most what the floor and the writes allow
      earlier : (w : Worked) → a.floor ≤ w.at → AllByRecursion (FollowsWrite outs r w.at) writes → (i : ℕ) → i < p → SessionAt first reads writes i r.session → tells i ≤ w.at
      earlier w high follows i less at =
          let same = place_other inv.tells p a.at i (λ is. omega (arith, is, less)) in
          ⊎_elim
          (λ (x, q, at_q, line, session).
          let before = rise_place reads n x r q rise at_r at_q (omega (arith, line, less, here)) in
          let old = inv.floor x a.floor q at_q before (ap (λ (s : ℕ). slice_get floors s) session ∙ a.there) in
          let place : q.line - first ≡ i = omega (arith, line) in
          let told : inv.tells (q.line - first) ≡ inv.tells i = ap inv.tells place in
          omega (arith, same, old, told, high))
          (λ (y, v, at_v, line, session).
          let is = inv.tells_writes i y v at_v line in
          let most = entry_most (kept_of outs (first + i)) w.at (λ e reply kept. all_at (FollowsWrite outs r w.at) writes y v follows at_v (omega (arith, line, less, here)) session e reply (ap (kept_of outs) line ∙ kept)) in
          omega (arith, same, is, most))
          at

      -- the reply at its place
      own : (reply : List ℕ) → slice_get next_texts p ≡ Some reply → (told : List ℕ) × (slice_get texts p ≡ Some told) × Reply tells p told reply
      own reply at = ⊎_elim
          (λ same.
          let old : slice_get now p ≡ Some reply = subst (λ (l : List (List ℕ)). slice_get l p ≡ Some reply) same at in (
            reply,
            inv.above p reply old behind,
            by_kept refl (λ e j kept.
                let (y, w, at_w, line) = kept_write writes outs (first + p) (kept_stored e j) of kept in
                absurd (apart n y r w at_r at_w (omega (arith, line, here)))),
          ))
          (λ (answer, is, answers).
          let within = get_within next_texts p reply at in
          let (told, at_told) = there texts p (omega (arith, within, many)) in
          let got : reply ≡ answer = ⊎_elim (λ (place, same). same) (λ (other, old). absurd (other refl)) (set_cases now p p answer reply (subst (λ (l : List (List ℕ)). slice_get l p ≡ Some reply) is at)) in
          (told, at_told, subst (λ (x : List ℕ). Reply tells p told x) (sym got) (answered told answer answers)))
          a.replies
        where
          at_place : tells p ≡ a.at
          at_place = place_same inv.tells p a.at

          answered : (told answer : List ℕ) → IsAnswer batches shown writes outs r worked a.floor a.at answer → Reply tells p told answer
          answered told answer answers = ⊎_elim
              (λ (at_is, is). by_caller n r at_r (sym here) is (omega (arith, at_is, at_place)))
              (λ (w, has, at_is, is, fits).
              let worked_is = is_worked w has in
              let read_is : worked_is.read ≡ r = rise_same reads n worked_is.place r worked_is.read rise at_r worked_is.there (worked_is.line ∙ here) in
              let high = fits.above in
              let old = inv.least r.session a.floor a.there in
              by_worker w worked_is is (omega (arith, at_is, at_place)) (omega (arith, old, high))
              (subst (λ (q : ReadLine). w.at ≤ least_later (map write_of writes) outs q.line q.session shown) (sym read_is) fits.later)
              (subst (λ (q : ReadLine). (i : ℕ) → i < p → SessionAt first reads writes i q.session → tells i ≤ w.at) (sym read_is) (earlier w high fits.follows)))
              answers

      below : (j : ℕ) (reply : List ℕ) → slice_get next_texts j ≡ Some reply → j < suc p → (told : List ℕ) × (slice_get texts j ≡ Some told) × Reply tells j told reply
      below j reply at less = ⊎_elim
          (λ before.
          let old = other_place j reply at (λ is. omega (arith, is, before)) in
          let same = λ (i : ℕ) (most : i ≤ j). place_other inv.tells p a.at i (λ is. omega (arith, is, most, before)) in
          ⊎_elim
          (λ passed. let (told, at_told, was) = inv.below j reply old passed in (told, at_told, same_reply inv.tells tells j told reply same was))
          (λ rest.
          let more : inv.next ≤ j = ⊎_elim (λ is. omega (arith, is)) (λ over. omega (arith, over)) rest in
          (reply, inv.above j reply old more, told_reply tells j reply (same j (omega arith) ∙ inv.tells_above j more)))
          (less_or j inv.next))
          (λ rest. ⊎_elim
          (λ same. subst (λ (i : ℕ). (told : List ℕ) × (slice_get texts i ≡ Some told) × Reply tells i told reply) (sym same) (own reply (subst (λ (i : ℕ). slice_get next_texts i ≡ Some reply) same at)))
          (λ more. absurd (omega (arith, more, less)))
          rest)
          (less_or j p)

-- ---- the loop over reads

-- the last of what is left is the next
pub next_read : (all done left rest : List ReadLine) (r : ReadLine) → all ≡ done ++ reverse left → left ≡ rest ++ r ∷ [] → (slice_get all (length done) ≡ Some r) × (all ≡ (done ++ r ∷ []) ++ reverse rest)
next_read all done left rest r is last =
    let front : all ≡ done ++ r ∷ reverse rest = is ∙ ap (λ (l : List ReadLine). done ++ reverse l) last ∙ ap (λ (l : List ReadLine). done ++ l) (reverse-append rest (r ∷ [])) in
    let place : length done + 0 ≡ length done = omega arith in (
      subst (λ (l : List ReadLine). slice_get l (length done) ≡ Some r) (sym front) (subst (λ (n : ℕ). slice_get (done ++ r ∷ reverse rest) n ≡ Some r) place (get_right done (r ∷ reverse rest) 0 r refl)),
      front ∙ sym (append_assoc done (r ∷ []) (reverse rest)),
    )

-- what a worker kept at a place is of the read there, at a number that is shown
pub taken_worked : (first : ℕ) (reads : List ReadLine) (batches : List Batch) (shown place : ℕ) (left worked : List (Option Worked)) (o : Option Worked) → AreWorked first reads batches shown worked
    → ((j : ℕ) (w : Worked) → slice_get left j ≡ Some (Some w) → slice_get worked j ≡ Some (Some w)) → IfSome o (λ w. slice_get left place ≡ Some (Some w)) → (w : Worked) → o ≡ Some w → IsWorked first reads batches shown place w
taken_worked first reads batches shown place left worked o are front taken w is = are place w (front place w (subst (λ (x : Option Worked). IfSome x (λ v. slice_get left place ≡ Some (Some v))) is taken))

pub taken_shown : (first : ℕ) (reads : List ReadLine) (batches : List Batch) (shown place : ℕ) (o : Option Worked) → ((w : Worked) → o ≡ Some w → IsWorked first reads batches shown place w) → IfSome o (λ w. w.at ≤ shown)
taken_shown first reads batches shown place None is = tt
taken_shown first reads batches shown place (Some w) is = let within = (is w refl).within in let below = (is w refl).below in omega (arith, within, below)

pub left_worked : (left worked : List (Option Worked)) (place : ℕ) → ((j : ℕ) (w : Worked) → slice_get left j ≡ Some (Some w) → slice_get worked j ≡ Some (Some w)) → (j : ℕ) (w : Worked) → slice_get (set left place None) j ≡ Some (Some w) → slice_get worked j ≡ Some (Some w)
left_worked left worked place front j w at = ⊎_elim (λ (here, is). absurd (apart is)) (λ (other, old). front j w old) (set_cases left place j None (Some w) at)
  where
    apart : Some w ≡ None → ⊥
    apart q = cc
