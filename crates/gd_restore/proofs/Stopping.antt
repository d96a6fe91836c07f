-- What a text has made of a list where a run stops at it.
use Rattle.std.proofs.Common.{◌≡◌, inl, inr, ◌∙◌, refl, sym, ap, subst, ℕ, List, [], ◌∷◌, ◌++◌, length, Option, Some, None, slice_get, Result, Ok, Err, OnOk, IfErr, append-nil}
use Rattle.gd_prim.specs.declared.Batch.{Batch}
use Rattle.std.specs.List.{AllByRecursion}
use Rattle.gd_dump_laws.specs.Dump.{BatchFits, IsDump, Whole}
use Rattle.gd_dump_laws.specs.Restoring.{in_groups, BeginsWith, Follow, IsNoOther}
use Rattle.gd_dump_laws.proofs.Groups.{groups_behind, follow_joined, begins_more, begins_front, one_first, whole_begins, dump_first}
use Rattle.gd_dump_laws.proofs.Texts.{bad_more, whole_more}
use Rattle.gd_dump.specs.declared.stop.RestoreFault.{RestoreFault}
use Rattle.gd_dump.specs.declared.stop.RestoreFault.TheVariants as fault
use Rattle.gd_dump.specs.Read.{Reader, HasRead, ByFault, Gives, Fed, Finished, IsCause}
use Rattle.gd_dump.proofs.Taken.{read_gives}
use Rattle.gd_log.specs.Stored.{IsEarly}
use Rattle.gd_restore.specs.Gathered.{Gathered, Gathers, Begins, Upto, IsRefusal, IsChecked, IsOther, IsBadBehind, IsFaultBehind, IsWhole}
use Rattle.gd_restore.specs.Restores.{Leaves, StopsAs, EndsAs}
use Rattle.gd_restore.specs.declared.stop.RestoreStop.{RestoreStop}
use Rattle.gd_restore.specs.declared.stop.RestoreStop.TheVariants as stop
use Rattle.gd_restore.proofs.Gathers.{held_leaves, append_stops, begins_gathered, front_part}

-- ---- beginnings

pub begins_on : (list batches : List Batch) (text more : List ℕ) → Begins list text batches → Begins list (text ++ more) batches
begins_on list batches text more (inl none) = inl none
begins_on list batches text more (inr begins) = inr (begins_more text more (length list) batches begins)

-- batches that are whole in a text whose first number was checked
pub checked_begins : (list batches : List Batch) (text : List ℕ) (have : ℕ) (first : Option ℕ) → Whole text first batches → IsNoOther first have → have ≡ length list → Begins list text batches
checked_begins list batches text have None whole same count = inl whole.0
checked_begins list batches text have (Some first) whole same count = inr (subst (λ (n : ℕ). BeginsWith text n batches) (same ∙ count) (whole_begins text first batches whole))

no_first : (xs ys : List Batch) → xs ++ ys ≡ [] → xs ≡ []
no_first [] ys is = refl
no_first (x ∷ xs) ys is = cc

module _ {D : Type 0} (content : D → Option (List ℕ)) (images : D → List ℕ → Type 0) where
  -- nothing was appended where the text has another first number
  nothing_done : (list : List Batch) (seen : List ℕ) (s : Gathered D) (asked : ℕ) (batches : List Batch) (g : Gathers content images list batches s) → Begins list seen batches → BeginsWith seen asked [] → (asked ≡ s.have → ⊥) → g.done ≡ []
  nothing_done list seen s asked batches g (inl none) first other = no_first g.done s.group (sym g.parts ∙ none)
  nothing_done list seen s asked batches g (inr begins) first other = absurd (other (one_first seen asked (length list) [] batches first begins ∙ sym g.count))

  -- the text has another first number
  pub elsewhere : (list : List Batch) (seen rest text : List ℕ) (s : Gathered D) (asked : ℕ) (batches : List Batch) → text ≡ seen ++ rest → Gathers content images list batches s → Begins list seen batches → BeginsWith seen asked [] → (asked ≡ s.have → ⊥)
      → StopsAs (stop.DumpFrom asked s.have) (Leaves content images s.stored.log.disk) list text s.stored.batches
  elsewhere list seen rest text s asked batches parts g begins first other = (
    record {
      begins = subst (λ (t : List ℕ). BeginsWith t asked []) (sym parts) (begins_more seen rest asked [] first);
      count = g.count;
      other = other;
      is = g.stored ∙ ap (λ (l : List Batch). list ++ l) (nothing_done list seen s asked batches g begins first other) ∙ append-nil list;
    },
    held_leaves content images s.stored g.holds,
  )

  pub other_stops : (list : List Batch) (seen rest text : List ℕ) (s : Gathered D) (r : Reader) (e : RestoreStop) (batches now : List Batch) → text ≡ seen ++ rest → IsOther s.have r e → HasRead r seen now → Gathers content images list batches s → Begins list seen batches
      → StopsAs e (Leaves content images s.stored.log.disk) list text s.stored.batches
  other_stops list seen rest text s r e batches now parts (asked, is, other, whole) read g begins =
      subst (λ (x : RestoreStop). StopsAs x (Leaves content images s.stored.log.disk) list text s.stored.batches) (sym is)
      (elsewhere list seen rest text s asked batches parts g begins (begins_front seen asked [] now (whole_begins seen asked now (whole seen now read))) other)

  -- a batch of the group may not follow
  pub refusal_stops : (list : List Batch) (text : List ℕ) (s : Gathered D) (e : RestoreStop) (batches : List Batch) → in_groups [] s.group ≡ [] → IsRefusal s.stored.batches s.group e → Gathers content images list batches s → Begins list text batches
      → StopsAs e (Leaves content images s.stored.log.disk) list text s.stored.batches
  refusal_stops list text s (stop.Unfit n) batches part (k, first, n_is) g begins =
      append_stops content images s s s.group refl (stop.Unfit n) (λ j x is. front_part content images s s refl j part) (refl, (k, first, n_is)) (λ held. held) list batches text g (begins_gathered content images s s refl list batches text g (some s.group refl) begins)
    where
      some : (group : List Batch) → s.group ≡ group → s.group ≡ [] → ⊥
      some group is none = let at = ap (λ (l : List Batch). slice_get l k) (sym none) ∙ first.here in cc
  refusal_stops list text s stop.Memory batches part refused g begins = (
    record { done = g.done; groups = g.groups; begins = front begins; follow = g.follow; is = g.stored },
    held_leaves content images s.stored g.holds,
  )
    where
      front : Begins list text batches → Begins list text g.done
      front (inl none) = inl (no_first g.done s.group (sym g.parts ∙ none))
      front (inr b) = inr (begins_front text (length list) g.done s.group (subst (BeginsWith text (length list)) g.parts b))
  refusal_stops list text s stop.ReadFault batches part never g begins = absurd never
  refusal_stops list text s stop.TooMuch batches part never g begins = absurd never
  refusal_stops list text s stop.DiskFault batches part never g begins = absurd never
  refusal_stops list text s (stop.BadDump offset) batches part never g begins = absurd never
  refusal_stops list text s (stop.DumpFrom asked have) batches part never g begins = absurd never
  refusal_stops list text s (stop.Unopened f) batches part never g begins = absurd never

  -- the text is no dump
  pub bad_stops : (list : List Batch) (seen text : List ℕ) (s : Gathered D) (r : Reader) (offset : ℕ) (u : Upto content images list seen s r) → in_groups [] s.group ≡ [] → IsChecked s.have r → Follow s.stored.batches s.group → IsBadBehind seen text u.batches offset
      → StopsAs (stop.BadDump offset) (Leaves content images s.stored.log.disk) list text s.stored.batches
  bad_stops list seen text s r offset u part checked follow b =
      let g = u.gathers in
      let (first, whole, same) = checked seen u.batches u.read in (
        record {
          bad = b.bad;
          first = first;
          batches = u.batches;
          whole = b.whole first whole;
          same = no_other first same g.count;
          follow = subst (Follow list) (sym g.parts) (follow_joined list g.done s.group g.follow (subst (λ (l : List Batch). Follow l s.group) g.stored follow));
          is = g.stored ∙ ap (λ (l : List Batch). list ++ l) (sym (ap (in_groups []) g.parts ∙ groups_behind g.done s.group g.groups ∙ ap (λ (l : List Batch). g.done ++ l) part ∙ append-nil g.done));
        },
        held_leaves content images s.stored g.holds,
      )
    where
      no_other : (first : Option ℕ) → IsNoOther first s.have → s.have ≡ length list → IsNoOther first (length list)
      no_other None same count = tt
      no_other (Some n) same count = same ∙ count

-- ---- a piece of the text

fits_early : (bs : List Batch) → AllByRecursion BatchFits bs → AllByRecursion IsEarly bs
fits_early [] each = tt
fits_early (b ∷ bs) each = (record { early = each.0.moment }, fits_early bs each.1)

fits_behind : (xs ys : List Batch) → AllByRecursion BatchFits (xs ++ ys) → AllByRecursion BatchFits ys
fits_behind [] ys each = each
fits_behind (x ∷ xs) ys each = fits_behind xs ys each.1

none_behind : (xs ys : List Batch) → xs ++ ys ≡ [] → ys ≡ []
none_behind [] ys is = is
none_behind (x ∷ xs) ys is = cc

-- the batches that a reader gives are of moments of a clock
pub given_early : (r : Reader) (text : List ℕ) (batches more : List Batch) → HasRead r text (batches ++ more) → AllByRecursion IsEarly more
given_early r text batches more read = by (read_gives r text (batches ++ more) read)
  where
    by : Gives text (batches ++ more) → AllByRecursion IsEarly more
    by (inl none) = subst (λ (l : List Batch). AllByRecursion IsEarly l) (sym (none_behind batches more none)) tt
    by (inr (first, begins)) = fits_early more (fits_behind batches more begins.each)

pub err_more : {T E : Type 0} {P Q : E → Type 0} (r : Result T E) → ((e : E) → P e → Q e) → IfErr r P → IfErr r Q
err_more (Ok x) so p = tt
err_more (Err e) so p = so e p

module _ {D : Type 0} (content : D → Option (List ℕ)) (images : D → List ℕ → Type 0) where
  -- the batches of a text that was read further
  pub begins_further : (list : List Batch) (seen piece : List ℕ) (old : Gathered D) (r new : Reader) (more : List Batch) (have : ℕ) → have ≡ old.have → Fed r new piece (Ok more) → IsChecked have new → (u : Upto content images list seen old r)
      → Begins list (seen ++ piece) (u.batches ++ more)
  begins_further list seen piece old r new more have same fed checked u =
      let (first, whole, is) = checked (seen ++ piece) (u.batches ++ more) (fed seen u.batches u.read).read in
      checked_begins list (u.batches ++ more) (seen ++ piece) have first whole is (same ∙ u.gathers.count)

  pub upto_more : (piece : List ℕ) (old new : Gathered D) (r now : Reader) (more items : List Batch) (have : ℕ) → items ≡ more → have ≡ old.have → Fed r now piece (Ok more) → IsChecked have now
      → ((list before : List Batch) → Gathers content images list before old → Gathers content images list (before ++ items) new) → (list : List Batch) (seen : List ℕ) → Upto content images list seen old r → Upto content images list (seen ++ piece) new now
  upto_more piece old new r now more items have items_is same fed checked gathers list seen u = record {
    batches = u.batches ++ more;
    read = (fed seen u.batches u.read).read;
    gathers = subst (λ (l : List Batch). Gathers content images list (u.batches ++ l) new) items_is (gathers list u.batches u.gathers);
    begins = begins_further list seen piece old r now more have same fed checked u;
  }

  pub gather_stops : (piece : List ℕ) (old new : Gathered D) (r now : Reader) (more items : List Batch) (have : ℕ) → items ≡ more → have ≡ old.have → Fed r now piece (Ok more) → IsChecked have now → (e : RestoreStop)
      → ((list before : List Batch) (text : List ℕ) → Gathers content images list before old → Begins list text (before ++ items) → StopsAs e (Leaves content images new.stored.log.disk) list text new.stored.batches)
      → (list : List Batch) (seen left : List ℕ) → Upto content images list seen old r → StopsAs e (Leaves content images new.stored.log.disk) list ((seen ++ piece) ++ left) new.stored.batches
  gather_stops piece old new r now more items have items_is same fed checked e stops list seen left u =
      stops list u.batches ((seen ++ piece) ++ left) u.gathers
      (subst (λ (l : List Batch). Begins list ((seen ++ piece) ++ left) (u.batches ++ l)) (sym items_is) (begins_on list (u.batches ++ more) (seen ++ piece) left (begins_further list seen piece old r now more have same fed checked u)))

  -- a piece begins elsewhere
  pub piece_elsewhere : (piece : List ℕ) (s : Gathered D) (r now : Reader) (more : List Batch) (have : ℕ) (e : RestoreStop) → have ≡ s.have → Fed r now piece (Ok more) → IsOther have now e
      → (list : List Batch) (seen left : List ℕ) → Upto content images list seen s r → StopsAs e (Leaves content images s.stored.log.disk) list ((seen ++ piece) ++ left) s.stored.batches
  piece_elsewhere piece s r now more have e same fed other list seen left u =
      other_stops content images list (seen ++ piece) left ((seen ++ piece) ++ left) s now e u.batches (u.batches ++ more) refl (subst (λ (n : ℕ). IsOther n now e) same other) (fed seen u.batches u.read).read u.gathers (begins_on list u.batches seen piece u.begins)

  -- a piece is bad
  pub piece_bad : (seen left : List ℕ) (r : Reader) (batches : List Batch) (n : ℕ) → r.fault ≡ Some (fault.BadDump n) → HasRead r seen batches → IsBadBehind seen (seen ++ left) batches n
  piece_bad seen left r batches n is read =
      let stuck = subst (λ (f : Option RestoreFault). ByFault f r seen batches) is read in
      record {
        bad = bad_more seen left n stuck.early stuck.bad;
        rest = left;
        parts = refl;
        whole = λ first whole. whole_more seen left n first batches stuck.early stuck.bad whole;
      }

  pub piece_fault : (piece : List ℕ) (s : Gathered D) (r now : Reader) (f : RestoreFault) → Fed r now piece (Err f) → now.fault ≡ Some f → (list : List Batch) (seen left : List ℕ) → (u : Upto content images list seen s r)
      → IsFaultBehind (seen ++ piece) ((seen ++ piece) ++ left) u.batches f
  piece_fault piece s r now (fault.BadDump n) fed is list seen left u = piece_bad (seen ++ piece) left now u.batches n is (fed seen u.batches u.read).0
  piece_fault piece s r now fault.Memory fed is list seen left u = (left, refl)

  pub fault_stops : (piece : List ℕ) (s : Gathered D) (r now : Reader) (f : RestoreFault) (e : RestoreStop) → Fed r now piece (Err f) → now.fault ≡ Some f
      → ((list : List Batch) (seen whole : List ℕ) (u : Upto content images list seen s now) → IsFaultBehind seen whole u.batches f → StopsAs e (Leaves content images s.stored.log.disk) list whole s.stored.batches)
      → (list : List Batch) (seen left : List ℕ) → Upto content images list seen s r → StopsAs e (Leaves content images s.stored.log.disk) list ((seen ++ piece) ++ left) s.stored.batches
  fault_stops piece s r now f e fed is stops list seen left u =
      stops list (seen ++ piece) ((seen ++ piece) ++ left)
      (record { batches = u.batches; read = (fed seen u.batches u.read).0; gathers = u.gathers; begins = begins_on list u.batches seen piece u.begins })
      (piece_fault piece s r now f fed is list seen left u)

  -- there was no memory
  pub no_memory : (rest whole : List ℕ) (s : Gathered D) (r : Reader) → in_groups [] s.group ≡ [] → (list : List Batch) (seen : List ℕ) → whole ≡ seen ++ rest → Upto content images list seen s r → StopsAs stop.Memory (Leaves content images s.stored.log.disk) list whole s.stored.batches
  no_memory rest whole s r part list seen is u = refusal_stops content images list whole s stop.Memory u.batches part tt u.gathers (subst (λ (t : List ℕ). Begins list t u.batches) (sym is) (begins_on list u.batches seen rest u.begins))

  -- ---- the end of the text

  pub ends_of : (leaves : List Batch → List (List Batch) → Type 0) (list : List Batch) (text : List ℕ) (after : List Batch) (result : Result (Unit {0}) RestoreStop) → OnOk result (EndsAs (Ok tt) leaves list text after) → IfErr result (λ e. StopsAs e leaves list text after)
      → EndsAs result leaves list text after
  ends_of leaves list text after (Ok u) whole stops = whole
  ends_of leaves list text after (Err e) whole stops = stops

  pub whole_ends : (old new : Gathered D) (r : Reader) (have : ℕ) → have ≡ old.have → Finished r (Ok tt) → IsChecked have r → ((list batches : List Batch) → Gathers content images list batches old → IsWhole content images list batches new)
      → (list : List Batch) (seen : List ℕ) → Upto content images list seen old r → EndsAs (Ok tt) (Leaves content images new.stored.log.disk) list seen new.stored.batches
  whole_ends old new r have same finished checked whole list seen u =
      let (number, dump) = finished seen u.batches u.read in
      let (first, is_whole, is) = checked seen u.batches u.read in
      let all = whole list u.batches u.gathers in
      let number_is : number ≡ length list = dump_first seen number have first u.batches dump is_whole is ∙ same ∙ u.gathers.count in (
        record { batches = u.batches; dump = subst (λ (n : ℕ). IsDump seen n u.batches) number_is dump; follow = all.follow; is = all.stored },
        held_leaves content images new.stored all.holds,
      )

  pub end_elsewhere : (s : Gathered D) (r : Reader) (have : ℕ) (e : RestoreStop) → have ≡ s.have → IsOther have r e → (list : List Batch) (seen : List ℕ) → Upto content images list seen s r → StopsAs e (Leaves content images s.stored.log.disk) list seen s.stored.batches
  end_elsewhere s r have e same other list seen u =
      other_stops content images list seen [] seen s r e u.batches u.batches (sym (append-nil seen)) (subst (λ (n : ℕ). IsOther n r e) same other) u.read u.gathers u.begins

  pub end_fault : (s : Gathered D) (r : Reader) (f : RestoreFault) (e : RestoreStop) → Finished r (Err f)
      → ((list : List Batch) (seen whole : List ℕ) (u : Upto content images list seen s r) → IsFaultBehind seen whole u.batches f → StopsAs e (Leaves content images s.stored.log.disk) list whole s.stored.batches)
      → (list : List Batch) (seen : List ℕ) → Upto content images list seen s r → StopsAs e (Leaves content images s.stored.log.disk) list seen s.stored.batches
  end_fault s r f e finished stops list seen u = stops list seen seen u (by f (finished seen u.batches u.read))
    where
      by : (f : RestoreFault) → IsCause seen f → IsFaultBehind seen seen u.batches f
      by (fault.BadDump n) bad = record { bad = bad; rest = []; parts = sym (append-nil seen); whole = λ first whole. whole }
      by fault.Memory none = ([], sym (append-nil seen))
