-- Laws of the texts of dumps: one text has one list of batches, how far bytes go with some dump, and which batches are whole in them.
use Rattle.std.proofs.Common.{Option, Some, None, ◌⊎◌, ◌≡◌, refl, inl, inr, ⊎_elim, ℕ, zero, suc, ◌+◌, ◌-◌, ◌^◌, ◌<◌, ◌≤◌, List, [], ◌∷◌, ◌++◌, length, take, drop, flat_map, Ok, Err, sym, ◌∙◌, ap, subst, arith, append_assoc, length-append}
use Rattle.std.proofs.lemmas.List.{append-nil, take_at, take-append-drop, take-take}
use Rattle.std.proofs.lemmas.Grind.{flat_map-append}
use Rattle.gd_prim.specs.declared.Batch.{Batch}
use Rattle.gd_grammar.specs.Grammar.{Reads}
use Rattle.gd_grammar.proofs.Scans.{head_same}
use Rattle.gd_dump_laws.proofs.Marks.{fronts}
use Rattle.gd_dump_laws.proofs.Steps.{Open, Line, Sound-step, goes_on}
use Rattle.std.specs.List.{AllByRecursion}
use Rattle.gd_dump_laws.proofs.Batches.{Sound-batch, all_joined, items_front, all_behind}
use Rattle.gd_dump_laws.proofs.Follows.{Tail, behind, heads_same, some_tail, LineFirst, line_first, within_line, ends_there}
use Rattle.gd_dump_laws.specs.Dump.{Dump, spelling, Fits, BatchFits, prim_line, batch_head, batch_text, dump_head, dump_end, name_text, IsDump, IsBadDumpAt, BeginsDump, NoBatchNext, Whole}
use Rattle.gd_dump_laws.specs.Progress.{Progress, opening, between, within, closed, consumed, whole_batches, first_number, opened, step_at, Read}

err_of : {A : Type 0} → List ℕ → Reads A
err_of l = Err l

-- ---- where no line goes on

-- with a line in front of the bytes one is read
reads_line : (p : Progress) (held rest : List ℕ) → Open p → LineFirst p held → step_at p held ≡ Err rest → ⊥
reads_line p held rest still (q, a, b, s, is) e = let reads = ap (step_at p) is ∙ (Sound-step p still).exact.all q a b s in cc (e, reads)

-- Where reading stops behind what was read: a longest front, and no dump has more of the bytes.
pub record StopsAt (p : Progress) (held rest : List ℕ) : Type 0 where
  pub front : List ℕ
  pub split : held ≡ front ++ rest
  pub begins : (more : List ℕ) × Tail p (front ++ more)
  pub last : (b : ℕ) (more m : List ℕ) → rest ≡ b ∷ more → Tail p ((front ++ (b ∷ [])) ++ m) → ⊥
  pub none : Tail p held → ⊥

open_stops : (p : Progress) (held rest : List ℕ) → Open p → Read p → step_at p held ≡ Err rest → StopsAt p held rest
open_stops p held rest still read e =
    let s = (Sound-step p still).exact.stops held rest e in
    let (q, a, m, line, a_is) = s.begins in
    let goes = goes_on p q a read line in
    let (w, (d, fits, is)) = some_tail q goes.read in
    record {
      front = s.front;
      split = s.split;
      begins = (m ++ w, (d, fits, is ∙ ap (λ (l : List ℕ). l ++ w) (goes.text ∙ ap (λ (l : List ℕ). consumed p ++ l) a_is) ∙ regroup (consumed p) s.front m w));
      last = λ b more n rest_is tail.
          let (q', a', c, line', is') = line_first p still read ((s.front ++ (b ∷ [])) ++ n) tail in
          ⊎_elim
          (λ (t, a'_is). s.last b more rest_is (q', a', t, line', a'_is))
          (λ (t, front_is, n_is).
          reads_line p held rest still (q', a', t ++ more, line', s.split ∙ ap (λ (l : List ℕ). s.front ++ l) rest_is ∙ sym (append_assoc s.front (b ∷ []) more) ∙ ap (λ (l : List ℕ). l ++ more) front_is ∙ append_assoc a' t more) e)
          (fronts a' c (s.front ++ (b ∷ [])) n (sym is'));
      none = λ tail. reads_line p held rest still (line_first p still read held tail) e;
    }
  where
    regroup : (a b c d : List ℕ) → (a ++ (b ++ c)) ++ d ≡ a ++ (b ++ (c ++ d))
    regroup a b c d = simp append_assoc

closed_stops : (first : ℕ) (batches : List Batch) (c : ℕ) (cs : List ℕ) → Read (closed first batches) → StopsAt (closed first batches) (c ∷ cs) (c ∷ cs)
closed_stops first batches c cs read =
    let (w, tail) = some_tail (closed first batches) read in
    record {
      front = [];
      split = refl;
      begins = (w, tail);
      last = λ b more m rest_is tail. nothing b m (ends_there first batches (b ∷ m) read tail);
      none = λ tail. nothing c cs (ends_there first batches (c ∷ cs) read tail);
    }
  where
    nothing : (b : ℕ) (m : List ℕ) → b ∷ m ≡ [] → ⊥
    nothing b m e = cc

-- such a stop is the fault of the whole text
module _ (p : Progress) (held rest : List ℕ) (s : StopsAt p held rest) where
  abbrev whole : List ℕ
  whole = consumed p ++ held

  abbrev offset : ℕ
  offset = length (consumed p ++ held) - length rest

  offset_is : offset ≡ length (consumed p ++ s.front)
  offset_is =
      let all = ap length s.split in
      omega (arith, all, length-append (consumed p) held, length-append (consumed p) s.front, length-append s.front rest)

  whole_is : whole ≡ (consumed p ++ s.front) ++ rest
  whole_is = ap (λ (l : List ℕ). consumed p ++ l) s.split ∙ sym (append_assoc (consumed p) s.front rest)

  front_is : take offset whole ≡ consumed p ++ s.front
  front_is = ap (λ (l : List ℕ). take offset l) whole_is ∙ take_at (consumed p ++ s.front) rest offset (sym offset_is)

  no_longer : (m : ℕ) → offset < m → m ≤ length whole → BeginsDump (take m whole) → ⊥
  no_longer m more few (d, r, fits, is) = further rest refl
    where
      regroup : (a f b x r : List ℕ) → (((a ++ f) ++ b) ++ x) ++ r ≡ a ++ ((f ++ b) ++ (x ++ r))
      regroup a f b x r = simp append_assoc

      further : (end : List ℕ) → rest ≡ end → ⊥
      further [] e = let none = ap length e in omega (arith, none, more, few)
      further (b ∷ end) e =
          let more_is : whole ≡ ((consumed p ++ s.front) ++ (b ∷ [])) ++ end = whole_is ∙ ap (λ (l : List ℕ). (consumed p ++ s.front) ++ l) e ∙ sym (append_assoc (consumed p ++ s.front) (b ∷ []) end) in
          let one_more : length ((consumed p ++ s.front) ++ (b ∷ [])) ≡ offset + 1 = omega (arith, offset_is, length-append (consumed p ++ s.front) (b ∷ [])) in
          let head : take (offset + 1) whole ≡ (consumed p ++ s.front) ++ (b ∷ []) = ap (λ (l : List ℕ). take (offset + 1) l) more_is ∙ take_at ((consumed p ++ s.front) ++ (b ∷ [])) end (offset + 1) one_more in
          let parts : take m whole ≡ ((consumed p ++ s.front) ++ (b ∷ [])) ++ drop (offset + 1) (take m whole) = sym (take-append-drop (offset + 1) (take m whole)) ∙ ap (λ (l : List ℕ). l ++ drop (offset + 1) (take m whole)) (take-take (offset + 1) m whole (omega (arith, more)) ∙ head) in
          s.last b end (drop (offset + 1) (take m whole) ++ r) e (d, fits, is ∙ ap (λ (l : List ℕ). l ++ r) parts ∙ regroup (consumed p) s.front (b ∷ []) (drop (offset + 1) (take m whole)) r)

  pub bad : IsBadDumpAt whole offset
  bad =
      let (more, (d, fits, is)) = s.begins in
      record {
        none = λ (d, (fits, is)). s.none (d, fits, sym is);
        within = omega arith;
        begins = (d, more, fits, is ∙ sym (append_assoc (consumed p) s.front more) ∙ ap (λ (l : List ℕ). l ++ more) (sym front_is));
        longest = no_longer;
      }

-- Where a line is to come and none goes on, the text is no dump, and what was read and the front of a line are its longest front.
pub open_bad : (p : Progress) (held rest : List ℕ) → Open p → Read p → step_at p held ≡ Err rest → IsBadDumpAt (consumed p ++ held) (length (consumed p ++ held) - length rest)
open_bad p held rest still read e = bad p held rest (open_stops p held rest still read e)

-- Behind the last line nothing may stand.
pub closed_bad : (first : ℕ) (batches : List Batch) (c : ℕ) (cs : List ℕ) → Read (closed first batches) → IsBadDumpAt (consumed (closed first batches) ++ c ∷ cs) (length (consumed (closed first batches) ++ c ∷ cs) - length (c ∷ cs))
closed_bad first batches c cs read = bad (closed first batches) (c ∷ cs) (c ∷ cs) (closed_stops first batches c cs read)

-- Where the bytes end in a line, or before one, they begin some dump.
pub open_begins : (p : Progress) (held : List ℕ) → Open p → Read p → step_at p held ≡ Err [] → BeginsDump (consumed p ++ held)
open_begins p held still read e =
    let s = open_stops p held [] still read e in
    let (more, (d, fits, is)) = s.begins in
    (d, more, fits, is ∙ ap (λ (l : List ℕ). consumed p ++ (l ++ more)) (sym (append-nil s.front) ∙ sym s.split) ∙ sym (append_assoc (consumed p) held more))

-- Behind the last line the text is a dump.
pub closed_dump : (first : ℕ) (batches : List Batch) → Read (closed first batches) → IsDump (consumed (closed first batches)) first batches
closed_dump first batches (small, each) = (record { first = small; each = each }, refl)

pub dump_begins : (text : List ℕ) (first : ℕ) (batches : List Batch) → IsDump text first batches → BeginsDump text
dump_begins text first batches (fits, is) = (record { first = first; batches = batches }, [], fits, sym is ∙ sym (append-nil text))

-- ---- a fault stays

-- of bytes that begin some dump a front does
begins_front : (front more : List ℕ) → BeginsDump (front ++ more) → BeginsDump front
begins_front front more (d, r, fits, is) = (d, more ++ r, fits, is ∙ append_assoc front more r)

-- Bytes that are bad before their end are bad there, whatever follows.
pub bad_more : (text more : List ℕ) (n : ℕ) → n < length text → IsBadDumpAt text n → IsBadDumpAt (text ++ more) n
bad_more text more n early b = record {
  none = λ (d, (fits, is)). b.longest (length text) early (omega arith) (subst BeginsDump (sym (take_at text [] (length text) refl) ∙ ap (take (length text)) (append-nil text)) (begins_front text more (d, [], fits, sym is ∙ sym (append-nil (text ++ more)))));
  within = omega (arith, early, length-append text more);
  begins = subst BeginsDump (sym (front_same n (omega (arith, early)))) b.begins;
  longest = λ m above few begun.
      b.longest (n + 1) (omega arith) (omega (arith, early))
      (subst BeginsDump (front_same (n + 1) (omega (arith, early))) (shorter (n + 1) m (omega (arith, above)) begun));
}
  where
    front_same : (k : ℕ) → k ≤ length text → take k (text ++ more) ≡ take k text
    front_same k few =
        let long : length (take k text) ≡ k = take_length k text few in
        ap (λ (l : List ℕ). take k (l ++ more)) (sym (take-append-drop k text)) ∙ ap (take k) (append_assoc (take k text) (drop k text) more) ∙ take_at (take k text) (drop k text ++ more) k long
      where
        take_length : (k : ℕ) (xs : List ℕ) → k ≤ length xs → length (take k xs) ≡ k
        take_length zero xs few = refl
        take_length (suc k) [] few = absurd (omega (arith, few))
        take_length (suc k) (x ∷ xs) few = ap suc (take_length k xs (omega (arith, few)))

    shorter : (k m : ℕ) → k ≤ m → BeginsDump (take m (text ++ more)) → BeginsDump (take k (text ++ more))
    shorter k m le begun = begins_front (take k (text ++ more)) (drop k (take m (text ++ more))) (subst BeginsDump (sym (take-append-drop k (take m (text ++ more))) ∙ ap (λ (l : List ℕ). l ++ drop k (take m (text ++ more))) (take-take k m (text ++ more) le)) begun)

-- ---- the batches that are whole

between_none : (first : ℕ) (batches : List Batch) (held rest : List ℕ) → step_at (between first batches) held ≡ Err rest → NoBatchNext held
between_none first batches held rest e b more fits is =
    reads_line (between first batches) held rest tt
    (opened first batches b.moment (length b.prims), batch_head b.moment (length b.prims), flat_map prim_line b.prims ++ more, inl ((b.moment, length b.prims), refl, ((fits.moment, fits.few), refl)), is ∙ append_assoc (batch_head b.moment (length b.prims)) (flat_map prim_line b.prims) more)
    e

-- Where no line goes on, just the batches that were read are whole.
pub stopped_whole : (p : Progress) (held rest : List ℕ) → Read p → step_at p held ≡ Err rest → Whole (consumed p ++ held) (first_number p) (whole_batches p)
stopped_whole opening held rest read e = (refl, λ first more small is. reads_line opening held rest tt (between first [], dump_head first, more, (first, refl, (small, refl)), is) e)
stopped_whole (between first batches) held rest (small, each) e = (small, each, (held, refl, between_none first batches held rest e))
stopped_whole (within first batches m n ps) held rest ((small, each), (m_fits, n_fits, few, prims)) e = (
  small,
  each,
  (
    (batch_head m n ++ flat_map prim_line ps) ++ held,
    regroup (dump_head first ++ flat_map batch_text batches) (batch_head m n) (flat_map prim_line ps) held,
    λ b more fits is. reads_line (within first batches m n ps) held rest tt (within_line first batches m n ps b more held fits m_fits n_fits few prims is) e,
  ),
)
  where
    regroup : (a b c d : List ℕ) → ((a ++ b) ++ c) ++ d ≡ a ++ ((b ++ c) ++ d)
    regroup a b c d = simp append_assoc
stopped_whole (closed first batches) held rest (small, each) e = (small, each, (dump_end (length batches) ++ held, append_assoc (dump_head first ++ flat_map batch_text batches) (dump_end (length batches)) held, λ b more fits is. let heads : 101 ≡ 98 = head_same is in omega (arith, heads)))

-- ---- one text, one list

-- A text is the dump of one list of batches from one number on.
pub one_dump : (text : List ℕ) (first other : ℕ) (batches others : List Batch) → IsDump text first batches → IsDump text other others → (first ≡ other) × (batches ≡ others)
one_dump text first other batches others (fits, is) (other_fits, other_is) =
    let r = behind (record { first = first; batches = batches }) other others (dump_end (length others)) fits other_fits.first other_fits.each (sym is ∙ other_is) in
    (r.same, by r.more r.all r.text)
  where
    by : (zs : List Batch) → batches ≡ others ++ zs → dump_end (length others) ≡ flat_map batch_text zs ++ dump_end (length batches) → batches ≡ others
    by [] all e = all ∙ append-nil others
    by (z ∷ zs) all e = let heads : 101 ≡ 98 = head_same e in absurd (omega (arith, heads))

-- ---- a line has bytes

line_long : (p q : Progress) (w : List ℕ) → Line p q w → 0 < length w
line_long opening q w (first, q_is, (fits, w_is)) = let long = ap length w_is in omega (arith, long)
line_long (between first batches) q w (inl ((m, n), q_is, (fits, w_is))) = let long = ap length w_is in omega (arith, long)
line_long (between first batches) q w (inr (u, q_is, w_is)) = let long = ap length w_is in omega (arith, long)
line_long (within first batches m n ps) q w (p, q_is, (fits, w_is)) = subst (λ (l : List ℕ). 0 < length l) (sym w_is) (long _ (name_text p.name))
  where
    long : (a b : List ℕ) → 0 < length (a ++ (b ++ 10 ∷ []))
    long a b = omega (arith, length-append a (b ++ 10 ∷ []), length-append b (10 ∷ []))
line_long (closed first batches) q w line = absurd line

open_shorter : (p q : Progress) (bytes rest : List ℕ) → Open p → step_at p bytes ≡ Ok (q, rest) → length rest < length bytes
open_shorter p q bytes rest still e =
    let (w, line, split) = (Sound-step p still).exact.found bytes q rest e in
    let some = line_long p q w line in
    let long = ap length split in
    omega (arith, some, long, length-append w rest)

-- Behind a line fewer bytes are left.
pub step_shorter : (p q : Progress) (bytes rest : List ℕ) → step_at p bytes ≡ Ok (q, rest) → length rest < length bytes
unfolding step_at
step_shorter opening q bytes rest e = open_shorter opening q bytes rest tt e
step_shorter (between first batches) q bytes rest e = open_shorter (between first batches) q bytes rest tt e
step_shorter (within first batches m n ps) q bytes rest e = open_shorter (within first batches m n ps) q bytes rest tt e
step_shorter (closed first batches) q bytes rest e = cc

-- ---- what reading a line makes of what was read

-- A line that was read: what was read goes on by it, and the rest is behind it.
pub record Stepped (p q : Progress) (bytes rest : List ℕ) : Type 0 where
  pub read : Read q
  pub text : consumed q ++ rest ≡ consumed p ++ bytes

open_stepped : (p q : Progress) (bytes rest : List ℕ) → Open p → Read p → step_at p bytes ≡ Ok (q, rest) → Stepped p q bytes rest
open_stepped p q bytes rest still read e =
    let (w, line, split) = (Sound-step p still).exact.found bytes q rest e in
    let goes = goes_on p q w read line in
    record { read = goes.read; text = ap (λ (l : List ℕ). l ++ rest) goes.text ∙ append_assoc (consumed p) w rest ∙ ap (λ (l : List ℕ). consumed p ++ l) (sym split) }

pub stepped : (p q : Progress) (bytes rest : List ℕ) → Read p → step_at p bytes ≡ Ok (q, rest) → Stepped p q bytes rest
unfolding step_at
stepped opening q bytes rest read e = open_stepped opening q bytes rest tt read e
stepped (between first batches) q bytes rest read e = open_stepped (between first batches) q bytes rest tt read e
stepped (within first batches m n ps) q bytes rest read e = open_stepped (within first batches m n ps) q bytes rest tt read e
stepped (closed first batches) q bytes rest read e = cc

open_within : (p : Progress) (held rest : List ℕ) → Open p → step_at p held ≡ Err rest → length rest ≤ length held
open_within p held rest still e =
    let s = (Sound-step p still).exact.stops held rest e in
    let long = ap length s.split in
    omega (arith, long, length-append s.front rest)

-- What is left where no line goes on is a part of the bytes.
pub stopped_within : (p : Progress) (held rest : List ℕ) → step_at p held ≡ Err rest → length rest ≤ length held
unfolding step_at
stopped_within opening held rest e = open_within opening held rest tt e
stopped_within (between first batches) held rest e = open_within (between first batches) held rest tt e
stopped_within (within first batches m n ps) held rest e = open_within (within first batches m n ps) held rest tt e
stopped_within (closed first batches) held rest e = let same : held ≡ rest = cc in omega (arith, ap length same)

-- ---- one text, one list of batches that are whole in it

none_more : (first : ℕ) (batches others : List Batch) (rest other : List ℕ) → AllByRecursion BatchFits batches → AllByRecursion BatchFits others → length others ≤ length batches → flat_map batch_text batches ++ rest ≡ flat_map batch_text others ++ other → NoBatchNext other → batches ≡ others
none_more first batches others rest other each each_other few is none =
    let (zs, all, other_is) = items_front batch_text BatchFits _ Sound-batch.exact others batches rest other each each_other (inl few) is in
    by zs all other_is (all_behind BatchFits others zs (subst (λ (l : List Batch). AllByRecursion BatchFits l) all each))
  where
    by : (zs : List Batch) → batches ≡ others ++ zs → other ≡ flat_map batch_text zs ++ rest → AllByRecursion BatchFits zs → batches ≡ others
    by [] all other_is fits = all ∙ append-nil others
    by (z ∷ zs) all other_is fits = absurd (none z (flat_map batch_text zs ++ rest) fits.0 (other_is ∙ append_assoc (batch_text z) (flat_map batch_text zs) rest))

-- Of one text one list of batches is whole, whatever the pieces in which it came.
pub one_whole : (text : List ℕ) (first other : Option ℕ) (batches others : List Batch) → Whole text first batches → Whole text other others → (first ≡ other) × (batches ≡ others)
one_whole text None None batches others (none, a) (none_too, b) = (refl, none ∙ sym none_too)
one_whole text None (Some n) batches others (none, a) (small, each, (rest, is, b)) = absurd (a n (flat_map batch_text others ++ rest) small (is ∙ append_assoc (dump_head n) (flat_map batch_text others) rest))
one_whole text (Some n) None batches others (small, each, (rest, is, b)) (none, a) = absurd (a n (flat_map batch_text batches ++ rest) small (is ∙ append_assoc (dump_head n) (flat_map batch_text batches) rest))
one_whole text (Some n) (Some m) batches others (small, each, (rest, is, b)) (small_too, each_too, (other, is_too, d)) =
    let there : dump_head n ++ (flat_map batch_text batches ++ rest) ≡ dump_head m ++ (flat_map batch_text others ++ other) = sym (append_assoc (dump_head n) (flat_map batch_text batches) rest) ∙ sym is ∙ is_too ∙ append_assoc (dump_head m) (flat_map batch_text others) other in
    let (same, tail) = heads_same n m (flat_map batch_text batches ++ rest) (flat_map batch_text others ++ other) small small_too there in
    (ap (λ k. Some k) same, ⊎_elim (λ few. none_more n batches others rest other each each_too few tail d) (λ more. sym (none_more n others batches other rest each_too each more (sym tail) b)) (either_le (length others) (length batches)))
  where
    either_le : (a b : ℕ) → (a ≤ b) ⊎ (b ≤ a)
    either_le zero b = inl (omega arith)
    either_le (suc a) zero = inr (omega arith)
    either_le (suc a) (suc b) = ⊎_elim (λ h. inl (omega (arith, h))) (λ h. inr (omega (arith, h))) (either_le a b)

-- ---- a fault, and the batches that are whole

front_begins : (text more : List ℕ) (d : Dump) (m : List ℕ) → Fits d → spelling d ≡ (text ++ more) ++ m → BeginsDump text
front_begins text more d m fits is = (d, more ++ m, fits, is ∙ append_assoc text more m)

-- in bytes that are bad before their end the same batches are whole, whatever follows
pub whole_more : (text more : List ℕ) (n : ℕ) (first : Option ℕ) (batches : List Batch) → n < length text → IsBadDumpAt text n → Whole text first batches → Whole (text ++ more) first batches
whole_more text more n first batches early b = by first
  where
    bad_text : BeginsDump text → ⊥
    bad_text begun = b.longest (length text) early (omega arith) (subst BeginsDump (sym (take_at text [] (length text) refl) ∙ ap (take (length text)) (append-nil text)) begun)

    no_head : ((first : ℕ) (m : List ℕ) → first < 2 ^ 32 → text ≡ dump_head first ++ m → ⊥) → (first : ℕ) (m : List ℕ) → first < 2 ^ 32 → text ++ more ≡ dump_head first ++ m → ⊥
    no_head none first m small is =
        ⊎_elim
        (λ (t, e). none first t small e)
        (λ (t, e, f). bad_text (front_begins text t (record { first = first; batches = [] }) (dump_end 0) (record { first = small; each = tt }) (ap (λ l. (l ++ []) ++ dump_end 0) e ∙ ap (λ l. l ++ dump_end 0) (append-nil (text ++ t)))))
        (fronts text more (dump_head first) m is)

    no_batch_more : (first : ℕ) (rest : List ℕ) → first < 2 ^ 32 → AllByRecursion BatchFits batches → text ≡ (dump_head first ++ flat_map batch_text batches) ++ rest → NoBatchNext rest → NoBatchNext (rest ++ more)
    no_batch_more first rest small each split none z m fits is =
        ⊎_elim
        (λ (t, e). none z t fits e)
        (λ (t, e, f).
        let whole : dump_head first ++ flat_map batch_text (batches ++ z ∷ []) ≡ text ++ t =
        ap (λ l. dump_head first ++ l) (flat_map-append batch_text batches (z ∷ []) ∙ ap (λ l. flat_map batch_text batches ++ l) (append-nil (batch_text z)))
        ∙ sym (append_assoc (dump_head first) (flat_map batch_text batches) (batch_text z)) ∙ ap (λ l. (dump_head first ++ flat_map batch_text batches) ++ l) e
        ∙ sym (append_assoc (dump_head first ++ flat_map batch_text batches) rest t) ∙ ap (λ l. l ++ t) (sym split) in
        bad_text (front_begins text t (record { first = first; batches = batches ++ z ∷ [] }) (dump_end (length (batches ++ z ∷ []))) (record { first = small; each = all_joined BatchFits batches (z ∷ []) each (fits, tt) }) (ap (λ l. l ++ dump_end (length (batches ++ z ∷ []))) whole)))
        (fronts rest more (batch_text z) m is)

    by : (first : Option ℕ) → Whole text first batches → Whole (text ++ more) first batches
    by None (none, a) = (none, no_head a)
    by (Some first) (small, each, (rest, is, none)) = (small, each, (rest ++ more, ap (λ l. l ++ more) is ∙ append_assoc (dump_head first ++ flat_map batch_text batches) rest more, no_batch_more first rest small each is none))
