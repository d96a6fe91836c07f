-- Batches that are gathered, one after another, and what the disk holds of them.
use Rattle.std.proofs.Common.{◌≡◌, inl, inr, ◌∙◌, refl, sym, ap, subst, ℕ, zero, suc, ◌+◌, ◌<◌, Bool, true, false, List, [], ◌∷◌, ◌++◌, length, take, drop, get_or, Option, Some, None, slice_get, Err, IsTrue, arith, append_assoc, append-nil, length-append, take-append-drop}
use Rattle.std.specs.Option.{is_some}
use Rattle.std.specs.List.{AllByRecursion}
use Rattle.gd_prim.specs.declared.Batch.{Batch}
use Rattle.gd_prim.specs.History.{prims_of}
use Rattle.gd_prim.specs.WellFormed.{may_follow, all_follow}
use Rattle.gd_bytes.specs.File.{MayStandFor}
use Rattle.gd_dump_laws.specs.Restoring.{is_full, in_groups, BeginsWith, Follow, Appended}
use Rattle.gd_dump_laws.proofs.Groups.{groups_behind, group_full, group_front, follow_joined, begins_front, unfit_ends}
use Rattle.gd_log.specs.Stored.{Stored, IsEarly, Holds}
use Rattle.gd_log.proofs.Absorbs.{holds_held}
use Rattle.gd_restore.specs.Gathered.{Gathered, Tells, Gathers, HoldsAs, HoldsAfter, IsAppended, IsFailure, Begins, IsWhole}
use Rattle.gd_restore.specs.Restores.{Leaves, StopsAs}
use Rattle.gd_restore.specs.declared.stop.RestoreStop.{RestoreStop}
use Rattle.gd_restore.specs.declared.stop.RestoreStop.TheVariants as stop

-- ---- lists

pub early_more : (xs : List Batch) (b : Batch) → AllByRecursion IsEarly xs → IsEarly b → AllByRecursion IsEarly (xs ++ b ∷ [])
early_more [] b each one = (one, tt)
early_more (x ∷ xs) b each one = (each.0, early_more xs b each.1 one)

-- a place within a group and one batch more, and what stands before it
within_more : (xs : List Batch) (b x : Batch) (k : ℕ) → slice_get (xs ++ b ∷ []) k ≡ Some x → (rest : List Batch) × (xs ≡ take k (xs ++ b ∷ []) ++ rest)
within_more [] b x zero is = ([], refl)
within_more [] b x (suc k) is = cc
within_more (y ∷ xs) b x zero is = (y ∷ xs, refl)
within_more (y ∷ xs) b x (suc k) is = let (rest, parts) = within_more xs b x k is in (rest, ap (λ (l : List Batch). y ∷ l) parts)

-- what stands before a place of a group that is not full, or was not before its last batch, is not full
pub part_before : (xs : List Batch) (b x : Batch) (k : ℕ) → in_groups [] xs ≡ [] → slice_get (xs ++ b ∷ []) k ≡ Some x → in_groups [] (take k (xs ++ b ∷ [])) ≡ []
part_before xs b x k part is =
    let (rest, parts) = within_more xs b x k is in
    group_front (take k (xs ++ b ∷ [])) rest (ap (in_groups []) (sym parts) ∙ part)

-- the next of the batches that are gathered
pub next_of : (items : List Batch) (k : ℕ) (b : Batch) → k < length items → b ≡ get_or items k b → (rest : List Batch) × (items ≡ (take k items ++ b ∷ []) ++ rest)
next_of [] k b within is = absurd (omega (arith, within))
next_of (x ∷ xs) zero b within is = (xs, ap (λ (y : Batch). y ∷ xs) (sym is))
next_of (x ∷ xs) (suc k) b within is = let (rest, parts) = next_of xs k b (omega (arith, within)) is in (rest, ap (λ (l : List Batch). x ∷ l) parts)

-- a text that begins with all of them begins with those up to the next
pub next_begins : (list : List Batch) (text : List ℕ) (before items : List Batch) (k : ℕ) (b : Batch) → k < length items → b ≡ get_or items k b → Begins list text (before ++ items) → BeginsWith text (length list) ((before ++ take k items) ++ b ∷ [])
next_begins list text before items k b within is (inl none) = absurd (omega (arith, within, ap length none, length-append before items))
next_begins list text before items k b within is (inr begins) =
    let (rest, parts) = next_of items k b within is in
    begins_front text (length list) ((before ++ take k items) ++ b ∷ []) rest (subst (BeginsWith text (length list)) (ap (λ (l : List Batch). before ++ l) parts ∙ joined before (take k items) (b ∷ []) rest) begins)
  where
    joined : (a b c d : List Batch) → a ++ ((b ++ c) ++ d) ≡ ((a ++ b) ++ c) ++ d
    joined a b c d = simp append_assoc

-- ---- what the disk holds

module _ {D : Type 0} (content : D → Option (List ℕ)) (images : D → List ℕ → Type 0) where
  pub held_leaves : (s : Stored D) → (Tells (content s.log.disk) → HoldsAs content images s None) → Leaves content images s.log.disk s.batches []
  held_leaves s holds tells file left = (holds_held (content s.log.disk) (images s.log.disk) s.log.gate s.log.doubt s.batches (holds tells)).means file left

  unsure_means : (co : Option (List ℕ)) (im : List ℕ → Type 0) (gate : ℕ) (next : Option ℕ) (bs group : List Batch) → Holds co im gate next bs (Some group) → (file : List ℕ) → im file → MayStandFor bs (group ∷ []) file
  unsure_means co im gate None bs group holds file left = absurd holds
  unsure_means co im gate (Some next) bs group holds file left = holds.means file left

  pub unsure_leaves : (s : Stored D) (group : List Batch) → (Tells (content s.log.disk) → HoldsAs content images s (Some group)) → Leaves content images s.log.disk s.batches (group ∷ [])
  unsure_leaves s group holds tells file left = unsure_means (content s.log.disk) (images s.log.disk) s.log.gate s.log.doubt s.batches group (holds tells) file left

  pub tells_before : (old new : D) → is_some (content new) ≡ is_some (content old) → Tells (content new) → Tells (content old)
  tells_before old new told tells = subst (λ (b : Bool). IsTrue b) told tells

  -- ---- what is gathered

  -- a front of the text's batches was appended, in whole groups
  pub front_of : (list batches more : List Batch) (text : List ℕ) (s : Gathered D) → Gathers content images list batches s → BeginsWith text (length list) (batches ++ more) → Appended list text s.stored.batches
  front_of list batches more text s g begins = record {
    done = g.done;
    groups = g.groups;
    begins = inr (begins_front text (length list) g.done (s.group ++ more) (subst (BeginsWith text (length list)) (ap (λ (l : List Batch). l ++ more) g.parts ∙ append_assoc g.done s.group more) begins));
    follow = g.follow;
    is = g.stored;
  }

  pub memory_stops : (list batches : List Batch) (b : Batch) (text : List ℕ) (s : Gathered D) → Gathers content images list batches s → BeginsWith text (length list) (batches ++ b ∷ [])
      → StopsAs stop.Memory (Leaves content images s.stored.log.disk) list text s.stored.batches
  memory_stops list batches b text s g begins = (front_of list batches (b ∷ []) text s g begins, held_leaves s.stored g.holds)

  module _ (s new : Gathered D) (group : List Batch) (told : is_some (content new.stored.log.disk) ≡ is_some (content s.stored.log.disk)) where
    with_follow : (list batches : List Batch) (g : Gathers content images list batches s) → Follow s.stored.batches group → Follow list (g.done ++ group)
    with_follow list batches g follow = follow_joined list g.done group g.follow (subst (λ (l : List Batch). Follow l group) g.stored follow)

    -- a group behind whole groups could not be appended, of which no front that stops short of the first that may not follow is full
    pub append_stops : (e : RestoreStop) → ((k : ℕ) (x : Batch) → slice_get group k ≡ Some x → in_groups [] (take k group) ≡ []) → IsFailure (record { stored = s.stored; have = s.have; group = group }) new e
        → (HoldsAs content images s.stored None → HoldsAfter content images (Err e) new.stored group)
        → (list batches : List Batch) (text : List ℕ) (g : Gathers content images list batches s) → BeginsWith text (length list) (g.done ++ group) → StopsAs e (Leaves content images new.stored.log.disk) list text new.stored.batches
    append_stops stop.DiskFault part (same, follow) holds list batches text g begins = (
      group,
      record { done = g.done; groups = g.groups; begins = begins; follow = with_follow list batches g follow; is = same ∙ g.stored },
      unsure_leaves new.stored group (λ tells. holds (g.holds (tells_before s.stored.log.disk new.stored.log.disk told tells))),
    )
    append_stops (stop.Unfit n) part (same, (k, first, n_is)) holds list batches text g begins = (
      unfit_ends list text g.done group new.stored.batches k n first.batch g.groups g.follow begins first.here (part k first.batch first.here)
          (subst (λ (l : List Batch). all_follow (prims_of l) (length l) (take k group) ≡ true) g.stored first.before) (subst (λ (l : List Batch). may_follow (prims_of (l ++ take k group)) (length l + k) first.batch ≡ false) g.stored first.unfit)
          (subst (λ (l : List Batch). n ≡ length l + k) g.stored n_is) (same ∙ g.stored),
      held_leaves new.stored (λ tells. holds (g.holds (tells_before s.stored.log.disk new.stored.log.disk told tells))),
    )
    append_stops stop.Memory part same holds list batches text g begins = (
      record { done = g.done; groups = g.groups; begins = inr (begins_front text (length list) g.done group begins); follow = g.follow; is = same ∙ g.stored },
      held_leaves new.stored (λ tells. holds (g.holds (tells_before s.stored.log.disk new.stored.log.disk told tells))),
    )
    append_stops stop.ReadFault part never holds list batches text g begins = absurd never
    append_stops stop.TooMuch part never holds list batches text g begins = absurd never
    append_stops (stop.BadDump offset) part never holds list batches text g begins = absurd never
    append_stops (stop.DumpFrom asked have) part never holds list batches text g begins = absurd never
    append_stops (stop.Unopened f) part never holds list batches text g begins = absurd never

  module _ (s new : Gathered D) (b : Batch) (told : is_some (content new.stored.log.disk) ≡ is_some (content s.stored.log.disk)) where
    abbrev grown : List Batch
    grown = s.group ++ b ∷ []

    -- the group that is full now could not be appended
    pub full_stops : (e : RestoreStop) → in_groups [] s.group ≡ [] → IsFailure (record { stored = s.stored; have = s.have; group = grown }) new e → (HoldsAs content images s.stored None → HoldsAfter content images (Err e) new.stored grown)
        → (list batches : List Batch) (text : List ℕ) → Gathers content images list batches s → BeginsWith text (length list) (batches ++ b ∷ []) → StopsAs e (Leaves content images new.stored.log.disk) list text new.stored.batches
    full_stops e part failed holds list batches text g begins =
        append_stops s new grown told e (λ k x is. part_before s.group b x k part is) failed holds list batches text g
        (subst (BeginsWith text (length list)) (ap (λ (l : List Batch). l ++ b ∷ []) g.parts ∙ append_assoc g.done s.group (b ∷ [])) begins)

    -- the group was appended
    pub append_gathers : in_groups [] s.group ≡ [] → is_full grown ≡ true → IsAppended (record { stored = s.stored; have = s.have; group = grown }) new → (HoldsAs content images s.stored None → HoldsAs content images new.stored None)
        → (list batches : List Batch) → Gathers content images list batches s → Gathers content images list (batches ++ b ∷ []) new
    append_gathers part full is holds list batches g = record {
      done = g.done ++ grown;
      groups = groups_behind g.done grown g.groups ∙ ap (λ (l : List Batch). g.done ++ l) (group_full s.group b part full);
      parts = ap (λ (l : List Batch). l ++ b ∷ []) g.parts ∙ append_assoc g.done s.group (b ∷ []) ∙ sym (append-nil (g.done ++ grown)) ∙ ap (λ (l : List Batch). (g.done ++ grown) ++ l) (sym is.group);
      follow = with_follow s new grown told list batches g is.follow;
      stored = is.batches ∙ ap (λ (l : List Batch). l ++ grown) g.stored ∙ append_assoc list g.done grown;
      count = is.have ∙ g.count;
      holds = λ tells. holds (g.holds (tells_before s.stored.log.disk new.stored.log.disk told tells));
    }

  -- ---- what is left at the end

  module _ (s new : Gathered D) (told : is_some (content new.stored.log.disk) ≡ is_some (content s.stored.log.disk)) where
    -- a front of the group that is gathered
    pub front_part : (k : ℕ) → in_groups [] s.group ≡ [] → in_groups [] (take k s.group) ≡ []
    front_part k part = group_front (take k s.group) (drop k s.group) (ap (in_groups []) (take-append-drop k s.group) ∙ part)

    no_more : (xs ys : List Batch) → xs ++ ys ≡ [] → ys ≡ []
    no_more [] ys is = is
    no_more (x ∷ xs) ys is = cc

    -- the text begins with what was appended and what is gathered
    pub begins_gathered : (list batches : List Batch) (text : List ℕ) (g : Gathers content images list batches s) → (s.group ≡ [] → ⊥) → Begins list text batches → BeginsWith text (length list) (g.done ++ s.group)
    begins_gathered list batches text g some (inl none) = absurd (some (no_more g.done s.group (sym g.parts ∙ none)))
    begins_gathered list batches text g some (inr begins) = subst (BeginsWith text (length list)) g.parts begins

    pub rest_stops : (e : RestoreStop) → in_groups [] s.group ≡ [] → (s.group ≡ [] → ⊥) → IsFailure s new e → (HoldsAs content images s.stored None → HoldsAfter content images (Err e) new.stored s.group)
        → (list batches : List Batch) (text : List ℕ) → Gathers content images list batches s → Begins list text batches → StopsAs e (Leaves content images new.stored.log.disk) list text new.stored.batches
    rest_stops e part some failed holds list batches text g begins =
        append_stops s new s.group told e (λ k x is. front_part k part) failed holds list batches text g (begins_gathered list batches text g some begins)

    -- what is left was appended
    pub rest_appended : IsAppended s new → (HoldsAs content images s.stored None → HoldsAs content images new.stored None) → (list batches : List Batch) → Gathers content images list batches s → IsWhole content images list batches new
    rest_appended is holds list batches g = record {
      follow = subst (Follow list) (sym g.parts) (with_follow s new s.group told list batches g is.follow);
      stored = is.batches ∙ ap (λ (l : List Batch). l ++ s.group) g.stored ∙ append_assoc list g.done s.group ∙ ap (λ (l : List Batch). list ++ l) (sym g.parts);
      holds = λ tells. holds (g.holds (tells_before s.stored.log.disk new.stored.log.disk told tells));
    }

    -- nothing is left
    pub none_left : s.group ≡ [] → (list batches : List Batch) → Gathers content images list batches s → IsWhole content images list batches s
    none_left none list batches g =
        let is : batches ≡ g.done = g.parts ∙ ap (λ (l : List Batch). g.done ++ l) none ∙ append-nil g.done in
        record { follow = subst (Follow list) (sym is) g.follow; stored = g.stored ∙ ap (λ (l : List Batch). list ++ l) (sym is); holds = g.holds }
