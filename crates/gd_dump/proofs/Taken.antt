-- What a piece of a dump comes to.
use Rattle.std.proofs.Common.{◌≡◌, ◌∙◌, refl, inl, inr, ℕ, ◌+◌, ◌-◌, ◌^◌, ◌<◌, List, [], ◌∷◌, ◌++◌, length, flat_map, Option, Some, None, Result, Ok, Err, sym, ap, subst, arith, append_assoc, length-append}
use Rattle.std.proofs.lemmas.List.{append-nil}
use Rattle.gd_prim.specs.declared.Batch.{Batch}
use Rattle.gd_dump_laws.specs.Dump.{dump_head, dump_end, batch_head, batch_text, prim_line, IsDump, IsBadDumpAt, BeginsDump, Whole}
use Rattle.gd_dump_laws.specs.Progress as defined
use Rattle.gd_dump_laws.specs.Reading as reading
use Rattle.gd_dump_laws.proofs.Texts.{open_bad, closed_bad, open_begins, closed_dump, dump_begins, bad_more, one_dump, stopped_whole, stopped_within, whole_more}
use Rattle.gd_dump.proofs.Steps.{stopped_at}
use Rattle.gd_dump.specs.declared.stop.Stop.TheVariants.{Bad}
use Rattle.gd_dump.specs.declared.progress.Progress.{Progress}
use Rattle.gd_dump.specs.declared.progress.Stage.{Stage}
use Rattle.gd_dump.specs.declared.progress.Stage.TheVariants as stage
use Rattle.gd_dump.specs.Progress.{counted, placed, place_of, first_at, next_line, RunsTo, Runs}
use Rattle.gd_dump.specs.Stop.{Stopped}
use Rattle.gd_dump.specs.declared.stop.RestoreFault.{RestoreFault}
use Rattle.gd_dump.specs.declared.stop.RestoreFault.TheVariants as fault
use Rattle.gd_dump.specs.Read.{Reader, Gives, IsReading, IsStuck, ByFault, HasRead, IsCause, Takes, Fed, Finished, Finds}

-- ---- where reading stands

none_long : (batches : List Batch) → 0 ≡ length batches → batches ≡ []
none_long [] long = refl
none_long (b ∷ batches) long = absurd (omega (arith, long))

-- the text begins with the batches that are whole
gives_at : (s : Stage) (p : Progress) (batches : List Batch) (rest : List ℕ) → counted s p.count ≡ length batches → defined.Read (placed s p batches) → Gives (defined.consumed (placed s p batches) ++ rest) batches
gives_at stage.Opening p batches rest count read = inl (none_long batches count)
gives_at (stage.Between first) p batches rest count (small, each) = inr (first, record { small = small; each = each; rest = rest; is = refl })
gives_at (stage.Within first moment n) p batches rest count ((small, each), more) = inr (
  first,
  record {
    small = small;
    each = each;
    rest = (batch_head moment n ++ flat_map prim_line p.prims) ++ rest;
    is = regroup (dump_head first ++ flat_map batch_text batches) (batch_head moment n) (flat_map prim_line p.prims) rest;
  },
)
  where
    regroup : (a b c d : List ℕ) → ((a ++ b) ++ c) ++ d ≡ a ++ ((b ++ c) ++ d)
    regroup a b c d = simp append_assoc
gives_at (stage.Closed first) p batches rest count (small, each) = inr (
  first,
  record {
    small = small;
    each = each;
    rest = dump_end (length batches) ++ rest;
    is = append_assoc (dump_head first ++ flat_map batch_text batches) (dump_end (length batches)) rest;
  },
)

pub gives_more : (text piece : List ℕ) (batches : List Batch) → Gives text batches → Gives (text ++ piece) batches
gives_more text piece batches (inl none) = inl none
gives_more text piece batches (inr (first, b)) = inr (
  first,
  record {
    small = b.small;
    each = b.each;
    rest = b.rest ++ piece;
    is = ap (λ l. l ++ piece) b.is ∙ append_assoc (dump_head first ++ flat_map batch_text batches) b.rest piece;
  },
)

err_same : {A : Type 0} (a b : List ℕ) → ◌≡◌ {A = Result A (List ℕ)} (Err a) (Err b) → a ≡ b
err_same a b is = cc

closed_is : (first : ℕ) (batches : List Batch) (held : List ℕ) → defined.step_at (defined.closed first batches) held ≡ Err held
unfolding defined.step_at
closed_is first batches held = refl

-- bytes with which no line goes on are the fault of the whole text
bad_of : (q : defined.Progress) (held stopped : List ℕ) → defined.Read q → defined.step_at q held ≡ Err stopped → 0 < length stopped → IsBadDumpAt (defined.consumed q ++ held) (length (defined.consumed q ++ held) - length stopped)
bad_of defined.opening held stopped read e some = open_bad defined.opening held stopped tt read e
bad_of (defined.between first batches) held stopped read e some = open_bad (defined.between first batches) held stopped tt read e
bad_of (defined.within first batches moment count prims) held stopped read e some = open_bad (defined.within first batches moment count prims) held stopped tt read e
bad_of (defined.closed first batches) held stopped read e some = at held stopped (err_same held stopped (sym (closed_is first batches held) ∙ e)) some
  where
    at : (held stopped : List ℕ) → held ≡ stopped → 0 < length stopped → IsBadDumpAt (defined.consumed (defined.closed first batches) ++ held) (length (defined.consumed (defined.closed first batches) ++ held) - length stopped)
    at [] stopped same some = absurd (omega (arith, some, ap length same))
    at (c ∷ cs) stopped same some = subst (λ l. IsBadDumpAt (defined.consumed (defined.closed first batches) ++ c ∷ cs) (length (defined.consumed (defined.closed first batches) ++ c ∷ cs) - length l)) same (closed_bad first batches c cs read)

-- bytes that end in a line, or before one, begin some dump with what was read
begins_of : (q : defined.Progress) (held : List ℕ) → defined.Read q → defined.step_at q held ≡ Err [] → BeginsDump (defined.consumed q ++ held)
begins_of defined.opening held read e = open_begins defined.opening held tt read e
begins_of (defined.between first batches) held read e = open_begins (defined.between first batches) held tt read e
begins_of (defined.within first batches moment count prims) held read e = open_begins (defined.within first batches moment count prims) held tt read e
begins_of (defined.closed first batches) held read e =
    let none : held ≡ [] = err_same held [] (sym (closed_is first batches held) ∙ e) in
    let text : defined.consumed (defined.closed first batches) ≡ defined.consumed (defined.closed first batches) ++ held = sym (append-nil (defined.consumed (defined.closed first batches))) ∙ ap (λ l. defined.consumed (defined.closed first batches) ++ l) (sym none) in
    subst BeginsDump text (dump_begins (defined.consumed (defined.closed first batches)) first batches (closed_dump first batches read))

-- ---- a reader

-- a reader without a fault was given the front of some dump
pub reading_begins : (r : Reader) (text : List ℕ) (batches : List Batch) → IsReading r text batches → BeginsDump text
reading_begins r text batches i = subst BeginsDump (sym i.split) (begins_of (place_of r.progress batches) r.held i.lines i.waits)

pub reading_gives : (r : Reader) (text : List ℕ) (batches : List Batch) → IsReading r text batches → Gives text batches
reading_gives r text batches i = subst (λ l. Gives l batches) (sym i.split) (gives_at r.progress.stage r.progress batches r.held i.count i.lines)

first_same : (s : Stage) (p : Progress) (batches : List Batch) → counted s p.count ≡ length batches → (defined.first_number (placed s p batches) ≡ first_at s) × (defined.whole_batches (placed s p batches) ≡ batches)
first_same stage.Opening p batches count = (refl, sym (none_long batches count))
first_same (stage.Between first) p batches count = (refl, refl)
first_same (stage.Within first moment n) p batches count = (refl, refl)
first_same (stage.Closed first) p batches count = (refl, refl)

-- just the batches that were read are whole where no line goes on
whole_there : (p : Progress) (text held rest : List ℕ) (batches : List Batch) → counted p.stage p.count ≡ length batches → defined.Read (place_of p batches) → text ≡ defined.consumed (place_of p batches) ++ held → next_line p batches held ≡ Err rest → Whole text (first_at p.stage) batches
whole_there p text held rest batches count lines is ends =
    let (first, whole) = first_same p.stage p batches count in
    let w = stopped_whole (place_of p batches) held rest lines ends in
    subst (λ l. Whole l (first_at p.stage) batches) (sym is) (subst (λ bs. Whole (defined.consumed (place_of p batches) ++ held) (first_at p.stage) bs) whole (subst (λ f. Whole (defined.consumed (place_of p batches) ++ held) f (defined.whole_batches (place_of p batches))) first w))

-- and just these batches are whole in it
pub reading_whole : (r : Reader) (text : List ℕ) (batches : List Batch) → IsReading r text batches → Whole text (first_at r.progress.stage) batches
reading_whole r text batches i = whole_there r.progress text r.held [] batches i.count i.lines i.split i.waits

-- the text with a piece, by the lines that were read
text_with : (old : Reader) (new : Progress) (text piece held rest : List ℕ) (batches more : List Batch) → IsReading old text batches → held ≡ old.held ++ piece → RunsTo old.progress batches new held rest more → text ++ piece ≡ defined.consumed (place_of new (batches ++ more)) ++ rest
text_with old new text piece held rest batches more i held_is r =
    ap (λ l. l ++ piece) i.split ∙ append_assoc (defined.consumed (place_of old.progress batches)) old.held piece ∙ ap (λ l. defined.consumed (place_of old.progress batches) ++ l) (sym held_is) ∙ sym r.text

-- all lines were read
pub piece_read : (old new : Reader) (text piece held rest : List ℕ) (batches more : List Batch) (total : ℕ) → IsReading old text batches → held ≡ old.held ++ piece → Runs old.progress new.progress held rest more
    → ((whole : List Batch) → counted new.progress.stage new.progress.count ≡ length whole → next_line new.progress whole rest ≡ Err []) → new.held ≡ rest → total ≡ old.read + length held → total < 2 ^ 64 → new.read ≡ total - length rest → IsReading new (text ++ piece) (batches ++ more)
piece_read old new text piece held rest batches more total i held_is runs ends rest_is total_is small read_is =
    let r = runs batches i.count i.lines in
    let is = text_with old new.progress text piece held rest batches more i held_is r in
    let one = ap length is in
    let two = ap length i.split in
    let three = ap length held_is in
    let s1 = length-append text piece in
    let s2 = length-append (defined.consumed (place_of new.progress (batches ++ more))) rest in
    let s3 = length-append (defined.consumed (place_of old.progress batches)) old.held in
    let s4 = length-append old.held piece in
    let before : new.read ≡ length (defined.consumed (place_of new.progress (batches ++ more))) = omega (arith, one, two, three, s1, s2, s3, s4, read_is, total_is, i.before) in
    record {
      count = r.count;
      lines = r.read;
      split = is ∙ ap (λ l. defined.consumed (place_of new.progress (batches ++ more)) ++ l) (sym rest_is);
      before = before;
      waits = ap (next_line new.progress (batches ++ more)) rest_is ∙ ends (batches ++ more) r.count;
      small = omega (arith, one, two, three, s1, s2, s3, s4, read_is, total_is, i.before, small, ap length rest_is);
    }

-- some line may not go on
pub piece_stuck : (old : Reader) (new : Progress) (text piece held rest stopped : List ℕ) (batches more : List Batch) (total left : ℕ) → IsReading old text batches → held ≡ old.held ++ piece → RunsTo old.progress batches new held rest more
    → next_line new (batches ++ more) rest ≡ Err stopped → left ≡ length stopped → 0 < left → total ≡ old.read + length held → IsStuck (first_at new.stage) (text ++ piece) (batches ++ more) (total - left)
piece_stuck old new text piece held rest stopped batches more total left i held_is r ends left_is some total_is =
    let is = text_with old new text piece held rest batches more i held_is r in
    let two = ap length i.split in
    let three = ap length held_is in
    let s1 = length-append text piece in
    let s3 = length-append (defined.consumed (place_of old.progress batches)) old.held in
    let s4 = length-append old.held piece in
    let long : length (text ++ piece) ≡ total = omega (arith, two, three, s1, s3, s4, total_is, i.before) in
    let bad = bad_of (place_of new (batches ++ more)) rest stopped r.read ends (omega (arith, left_is, some)) in
    let within = stopped_within (place_of new (batches ++ more)) rest stopped ends in
    let offset : length (defined.consumed (place_of new (batches ++ more)) ++ rest) - length stopped ≡ total - left = omega (arith, ap length is, long, left_is) in
    record {
      bad = subst (λ l. IsBadDumpAt l (total - left)) (sym is) (subst (λ n. IsBadDumpAt (defined.consumed (place_of new (batches ++ more)) ++ rest) n) offset bad);
      early = omega (arith, long, some, left_is, within, ap length is, length-append (defined.consumed (place_of new (batches ++ more))) rest);
      whole = whole_there new (text ++ piece) rest stopped (batches ++ more) r.count r.read is ends;
    }

-- ---- what taking a piece comes to

pub take_read : (old new : Reader) (piece held rest : List ℕ) (given now : List Batch) (total : ℕ) → given ≡ [] → held ≡ old.held ++ piece → new.held ≡ rest → total ≡ old.read + length held → total < 2 ^ 64 → new.read ≡ total - length rest → new.fault ≡ None
    → (more : List Batch) × (now ≡ given ++ more) × Runs old.progress new.progress held rest more × ((whole : List Batch) → counted new.progress.stage new.progress.count ≡ length whole → next_line new.progress whole rest ≡ Err [])
    → (text : List ℕ) (batches : List Batch) → IsReading old text batches → HasRead new (text ++ piece) (batches ++ now) × (now ≡ [] → BeginsDump (text ++ piece))
take_read old new piece held rest given now total none held_is rest_is total_is small read_is fault_is (more, now_is, runs, ends) text batches i =
    let same : more ≡ now = sym (now_is ∙ ap (λ l. l ++ more) none) in
    let reading = subst (λ l. IsReading new (text ++ piece) (batches ++ l)) same (piece_read old new text piece held rest batches more total i held_is runs ends rest_is total_is small read_is) in
    (subst (λ f. ByFault f new (text ++ piece) (batches ++ now)) (sym fault_is) reading, λ e. reading_begins new (text ++ piece) (batches ++ now) reading)

pub take_stuck : (old : Reader) (new : Progress) (piece held : List ℕ) (given now : List Batch) (total left : ℕ) → given ≡ [] → held ≡ old.held ++ piece → total ≡ old.read + length held
    → (0 < left) × ((more : List Batch) × (now ≡ given ++ more) × ((rest : List ℕ) × Runs old.progress new held rest more × ((whole : List Batch) → counted new.stage new.count ≡ length whole → Stopped (Bad left) (next_line new whole rest))))
    → (text : List ℕ) (batches : List Batch) → IsReading old text batches → IsStuck (first_at new.stage) (text ++ piece) (batches ++ now) (total - left)
take_stuck old new piece held given now total left none held_is total_is (some, (more, now_is, (rest, runs, stops))) text batches i =
    let same : more ≡ now = sym (now_is ∙ ap (λ l. l ++ more) none) in
    let r = runs batches i.count i.lines in
    let (stopped, e, long) = stopped_at (Bad left) left (next_line new (batches ++ more) rest) refl (stops (batches ++ more) r.count) in
    subst (λ l. IsStuck (first_at new.stage) (text ++ piece) (batches ++ l) (total - left)) same (piece_stuck old new text piece held rest stopped batches more total left i held_is r e long some total_is)

-- ---- a fault stays

pub stuck_more : (first : Option ℕ) (text piece : List ℕ) (batches : List Batch) (n : ℕ) → IsStuck first text batches n → IsStuck first (text ++ piece) batches n
stuck_more first text piece batches n s = record { bad = bad_more text piece n s.early s.bad; early = omega (arith, s.early, length-append text piece); whole = whole_more text piece n first batches s.early s.bad s.whole }

pub again : (r : Reader) (piece : List ℕ) (f : RestoreFault) → r.fault ≡ Some f → (text : List ℕ) (batches : List Batch) → HasRead r text batches → HasRead r (text ++ piece) batches × IsCause (text ++ piece) f
again r piece f is text batches read = by f is (subst (λ x. ByFault x r text batches) is read)
  where
    by : (f : RestoreFault) → r.fault ≡ Some f → ByFault (Some f) r text batches → HasRead r (text ++ piece) batches × IsCause (text ++ piece) f
    by (fault.BadDump n) is s = let more = stuck_more (first_at r.progress.stage) text piece batches n s in (subst (λ f. ByFault f r (text ++ piece) batches) (sym is) more, more.bad)
    by fault.Memory is s = (subst (λ f. ByFault f r (text ++ piece) batches) (sym is) (gives_more text piece batches s), tt)

pub takes_ok : (old new : Reader) (piece : List ℕ) (more : List Batch) → old.fault ≡ None → Takes old new piece (Ok more) → Fed old new piece (Ok more)
takes_ok old new piece more none takes text batches read =
    let i = subst (λ f. ByFault f old text batches) none read in
    let (now, begins) = takes text batches i in
    record { read = now; began = reading_begins old text batches i; begins = begins }

pub takes_err : (old mid new : Reader) (piece : List ℕ) (f : RestoreFault) → old.fault ≡ None → new.fault ≡ Some f → new.progress ≡ mid.progress → Takes old mid piece (Err f) → Fed old new piece (Err f)
takes_err old mid new piece (fault.BadDump n) none is same takes text batches read =
    let s = subst (λ p. IsStuck (first_at p.stage) (text ++ piece) batches n) (sym same) (takes text batches (subst (λ f. ByFault f old text batches) none read)) in
    (subst (λ f. ByFault f new (text ++ piece) batches) (sym is) s, s.bad)
takes_err old mid new piece fault.Memory none is same takes text batches read =
    let i = subst (λ f. ByFault f old text batches) none read in
    (subst (λ f. ByFault f new (text ++ piece) batches) (sym is) (gives_more text piece batches (reading_gives old text batches i)), tt)

-- ---- what was read, with or without a fault

-- the first number, and just the batches that were given are whole, unless memory was wanting
pub read_whole : (r : Reader) (text : List ℕ) (batches : List Batch) → HasRead r text batches → (r.fault ≡ Some fault.Memory → ⊥) → Whole text (first_at r.progress.stage) batches
read_whole r text batches read sound = by r.fault refl read
  where
    by : (f : Option RestoreFault) → r.fault ≡ f → ByFault f r text batches → Whole text (first_at r.progress.stage) batches
    by None is i = reading_whole r text batches i
    by (Some (fault.BadDump n)) is s = s.whole
    by (Some fault.Memory) is g = absurd (sound is)

whole_gives : (first : Option ℕ) (text : List ℕ) (batches : List Batch) → Whole text first batches → Gives text batches
whole_gives None text batches w = inl w.0
whole_gives (Some first) text batches (small, each, (rest, is, none)) = inr (first, record { small = small; each = each; rest = rest; is = is })

-- the text begins with the batches that were given
pub read_gives : (r : Reader) (text : List ℕ) (batches : List Batch) → HasRead r text batches → Gives text batches
read_gives r text batches read = by r.fault read
  where
    by : (f : Option RestoreFault) → ByFault f r text batches → Gives text batches
    by None i = reading_gives r text batches i
    by (Some (fault.BadDump n)) s = whole_gives (first_at r.progress.stage) text batches s.whole
    by (Some fault.Memory) g = g

-- ---- the end of a text

pub finished_again : (r : Reader) (f : RestoreFault) → r.fault ≡ Some f → Finished r (Err f)
finished_again r f is text batches read = by f (subst (λ x. ByFault x r text batches) is read)
  where
    by : (f : RestoreFault) → ByFault (Some f) r text batches → IsCause text f
    by (fault.BadDump n) s = s.bad
    by fault.Memory s = tt

pub finished_ok : (r : Reader) (first : ℕ) → r.fault ≡ None → r.progress.stage ≡ stage.Closed first → Finished r (Ok tt)
finished_ok r first none closed text batches read =
    let i = subst (λ f. ByFault f r text batches) none read in
    let place : place_of r.progress batches ≡ defined.closed first batches = ap (λ s. placed s r.progress batches) closed in
    let held : r.held ≡ [] = err_same r.held [] (sym (closed_is first batches r.held) ∙ ap (λ q. defined.step_at q r.held) (sym place) ∙ i.waits) in
    let lines = subst defined.Read place i.lines in
    let is : text ≡ defined.consumed (defined.closed first batches) = i.split ∙ (λ k. defined.consumed (place k) ++ held k) ∙ append-nil (defined.consumed (defined.closed first batches)) in
    (first, subst (λ l. IsDump l first batches) (sym is) (closed_dump first batches lines))

pub finished_bad : (r : Reader) (n : ℕ) → r.fault ≡ None → ((first : ℕ) → r.progress.stage ≡ stage.Closed first → ⊥) → (r.read + length r.held < 2 ^ 64 → n ≡ r.read + length r.held) → Finished r (Err (fault.BadDump n))
finished_bad r n none still n_is text batches read =
    let i = subst (λ f. ByFault f r text batches) none read in
    let long = ap length i.split in
    let exact = n_is i.small in
    let total : length (defined.consumed (place_of r.progress batches) ++ r.held) - 0 ≡ n = omega (arith, exact, i.before, length-append (defined.consumed (place_of r.progress batches)) r.held) in
    subst (λ l. IsBadDumpAt l n) (sym i.split) (subst (λ k. IsBadDumpAt (defined.consumed (place_of r.progress batches) ++ r.held) k) total (by r.progress.stage refl i.lines i.waits))
  where
    by : (s : Stage) → r.progress.stage ≡ s → defined.Read (placed s r.progress batches) → defined.step_at (placed s r.progress batches) r.held ≡ Err [] → IsBadDumpAt (defined.consumed (placed s r.progress batches) ++ r.held) (length (defined.consumed (placed s r.progress batches) ++ r.held) - 0)
    by stage.Opening is lines waits = open_bad defined.opening r.held [] tt lines waits
    by (stage.Between first) is lines waits = open_bad (defined.between first batches) r.held [] tt lines waits
    by (stage.Within first moment count) is lines waits = open_bad (defined.within first batches moment count r.progress.prims) r.held [] tt lines waits
    by (stage.Closed first) is lines waits = absurd (still first is)

-- a new reader
pub new_read : (r : Reader) → r.progress.stage ≡ stage.Opening → r.held ≡ [] → r.read ≡ 0 → r.fault ≡ None → HasRead r [] []
unfolding defined.step_at reading.head_at
new_read r is held read none =
    let place : placed r.progress.stage r.progress [] ≡ defined.opening = ap (λ s. placed s r.progress []) is in
    subst (λ f. ByFault f r [] []) (sym none) (record {
      count = ap (λ s. counted s r.progress.count) is;
      lines = subst defined.Read (sym place) tt;
      split = sym ((λ k. defined.consumed (place k) ++ held k));
      before = read ∙ ap (λ q. length (defined.consumed q)) (sym place);
      waits = (λ k. defined.step_at (place k) (held k)) ∙ refl;
      small = omega (arith, read, ap length held);
    })

-- what the end comes to where the text is a dump
pub finds : (r : Reader) (result : Result (Unit {0}) RestoreFault) → Finished r result → Finds r result
finds r (Ok u) finished text batches read first others dump = let (number, is) = finished text batches read in (one_dump text number first batches others is dump).1
finds r (Err (fault.BadDump n)) finished text batches read first others dump = absurd ((finished text batches read).none (record { first = first; batches = others }, dump))
finds r (Err fault.Memory) finished text batches read first others dump = refl
