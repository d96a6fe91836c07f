-- What one step more leaves of a file with a gate.
use Rattle.std.proofs.Common.{◌≡◌, ℕ, ◌+◌, ◌≤◌, List, length, Some, false, refl, sym, ◌∙◌, ap}
use Rattle.std.specs.Prelude.{Option}
use Rattle.std.specs.List.{AllByRecursion}
use Rattle.gd_bytes.specs.Disk.{LeavesOnly, IsUntouched, Only, Follows, Stays, Elapses, Torn, Cut}
use Rattle.gd_disk.specs.Runs.{leaves_start, leaves_stays, leaves_join, leaves_weaken, leaves_step, leaves_on, leaves_untouched}
use Rattle.gd_bytes.specs.File.{Version, mark}
use Rattle.gd_journal.specs.Meaning.{MayStandFor, marked_by, whole, told_by, told_of, TellsOneOf}
use Rattle.gd_journal.specs.Shape.{front, IsPayload, IsClosed, IsStaged, IsDoubtful}
use Rattle.gd_journal.specs.State.{IsSettled, IsInDoubt}
use Rattle.gd_journal.proofs.Gates.{at_rest_closed, closed_doubtful, closed_torn, closed_cut, gate_torn}
use Rattle.gd_journal.proofs.Means.{closed_stands, doubtful_stands}
use Rattle.gd_journal.proofs.Marks.{told_short, told_stands, told_doubtful}

module _ {D : Type 0} {moment : D → ℕ} {images : D → List ℕ → Type 0} {images_since : D → ℕ → List ℕ → Type 0} where
  -- a write behind the gate
  pub closed_write : (old mid new : D) (v : Version) (ps : List (List ℕ)) (at n : ℕ) → LeavesOnly moment images images_since old mid (IsClosed v ps) → length (front v ps) + 1 ≤ at → Follows (Torn at n) (images mid) (images new)
      → Elapses (moment mid) (moment new) (images_since mid) (images_since new) (images new) → LeavesOnly moment images images_since old new (IsClosed v ps)
  closed_write old mid new v ps at n run le follows time = leaves_step old mid new (IsClosed v ps) (Torn at n) run follows time (λ d c. closed_torn v ps at n d c le)

  -- a cut behind the gate
  pub closed_short : (old mid new : D) (v : Version) (ps : List (List ℕ)) (n : ℕ) → LeavesOnly moment images images_since old mid (IsClosed v ps) → n ≡ length (front v ps) + 1 → Follows (Cut n) (images mid) (images new)
      → Elapses (moment mid) (moment new) (images_since mid) (images_since new) (images new) → LeavesOnly moment images images_since old new (IsClosed v ps)
  closed_short old mid new v ps n run is follows time = leaves_step old mid new (IsClosed v ps) (Cut n) run follows time (λ d c. closed_cut v ps n d c is)

  -- a write of the gate
  pub doubtful_write : (old mid new : D) (v : Version) (ps : List (List ℕ)) (p : List ℕ) (gate : ℕ) → LeavesOnly moment images images_since old mid (IsDoubtful v ps p) → ((c : List ℕ) → images mid c → IsStaged v ps p c) → gate ≡ length (front v ps)
      → Follows (Torn gate 1) (images mid) (images new) → Elapses (moment mid) (moment new) (images_since mid) (images_since new) (images new) → LeavesOnly moment images images_since old new (IsDoubtful v ps p)
  doubtful_write old mid new v ps p gate run has place follows time =
      leaves_on old mid new (IsDoubtful v ps p) run time (λ c now. let from = follows c now in gate_torn v ps p from.0 c gate place (has from.0 from.1) from.2)

  -- room is made, and then a record is written
  pub append_leaves : (old mid new : D) (co : Option (List ℕ)) (gate : ℕ) (v : Version) (ps : List (List ℕ)) (p : List ℕ) {a b : Option (List ℕ)} → ((c : List ℕ) → images_since old (moment old) c → images old c) → Stays a b (images old) (images mid)
      → Elapses (moment old) (moment mid) (images_since old) (images_since mid) (images mid) → IsSettled co (images old) gate v ps → IsPayload p → LeavesOnly moment images images_since mid new (IsDoubtful v ps p)
      → LeavesOnly moment images images_since old new (MayStandFor v ps p)
  append_leaves old mid new co gate v ps p only stays time s fits run =
      let begun = leaves_start moment images images_since old (IsDoubtful v ps p) only (λ c now. closed_doubtful v ps p c (at_rest_closed v ps c (s.rests.left c now))) in
      let roomy = leaves_stays old old mid (IsDoubtful v ps p) begun stays time in
      leaves_weaken old new (IsDoubtful v ps p) (MayStandFor v ps p) (λ c there. doubtful_stands v ps p c s.each fits there) (leaves_join old mid new (IsDoubtful v ps p) roomy run)

  pub settle_leaves : (old new : D) (co : Option (List ℕ)) (gate next : ℕ) (v : Version) (ps : List (List ℕ)) (p : List ℕ) → IsInDoubt co (images old) gate next v ps p → LeavesOnly moment images images_since old new (IsDoubtful v ps p)
      → LeavesOnly moment images images_since old new (MayStandFor v ps p)
  settle_leaves old new co gate next v ps p s run = leaves_weaken old new (IsDoubtful v ps p) (MayStandFor v ps p) (λ c there. doubtful_stands v ps p c s.each s.last there) run

  -- where one file is left, and nothing is changed
  pub open_untouched : {content : D → Option (List ℕ)} (old new : D) (file : List ℕ) → ((c : List ℕ) → images_since old (moment old) c → images old c) → Only file (images old) → IsUntouched content moment images images_since old new
      → LeavesOnly moment images images_since old new (λ c. told_by c ≡ told_by file)
  open_untouched old new file only_now only untouched =
      leaves_untouched old old new (λ c. told_by c ≡ told_by file) (leaves_start moment images images_since old (λ c. told_by c ≡ told_by file) only_now (λ c now. ap told_by (only c now))) untouched

  pub open_created : (old new : D) (file : List ℕ) → length file ≤ 9 → LeavesOnly moment images images_since old new (λ c. length c ≤ 9) → LeavesOnly moment images images_since old new (λ c. told_by c ≡ told_by file)
  open_created old new file short run = leaves_weaken old new (λ c. length c ≤ 9) (λ c. told_by c ≡ told_by file) (λ c less. told_short c less ∙ sym (told_short file short)) run

  -- a file whose records were closed, and nothing else
  pub closed_tells : (old new : D) (v : Version) (ps : List (List ℕ)) → AllByRecursion IsPayload ps → LeavesOnly moment images images_since old new (IsClosed v ps) → LeavesOnly moment images images_since old new (λ c. told_by c ≡ Some (told_of (whole ps) v))
  closed_tells old new v ps each run = leaves_weaken old new (IsClosed v ps) (λ c. told_by c ≡ Some (told_of (whole ps) v)) (λ c closed. told_stands v ps c (closed_stands v ps c each closed)) run

  -- and then the mark was added
  pub marked_tells : (old mid new : D) (v : Version) (ps : List (List ℕ)) → AllByRecursion IsPayload ps → marked_by v ps ≡ false → LeavesOnly moment images images_since old mid (IsClosed v ps)
      → LeavesOnly moment images images_since mid new (IsDoubtful v ps mark) → LeavesOnly moment images images_since old new (λ c. told_by c ≡ Some (told_of (whole ps) v))
  marked_tells old mid new v ps each none first second =
      let P : List ℕ → Type 0 = λ c. told_by c ≡ Some (told_of (whole ps) v) in
      leaves_join old mid new P (closed_tells old mid v ps each first)
      (leaves_weaken mid new (IsDoubtful v ps mark) P (λ c there. told_doubtful v ps c each none there) second)

  -- a file whose records are closed
  pub open_told : (old new : D) (v : Version) (ps : List (List ℕ)) (file : List ℕ) → AllByRecursion IsPayload ps → IsClosed v ps file → LeavesOnly moment images images_since old new (λ c. told_by c ≡ Some (told_of (whole ps) v))
      → LeavesOnly moment images images_since old new (λ c. told_by c ≡ told_by file)
  open_told old new v ps file each there run =
      leaves_weaken old new (λ c. told_by c ≡ Some (told_of (whole ps) v)) (λ c. told_by c ≡ told_by file) (λ c same. same ∙ sym (told_stands v ps file (closed_stands v ps file each there))) run

  -- nothing was changed, and then one of the files that were left was opened
  pub open_begun : {content : D → Option (List ℕ)} (old mid new : D) (file : List ℕ) → ((c : List ℕ) → images_since old (moment old) c → images old c) → images old file → IsUntouched content moment images images_since old mid
      → LeavesOnly moment images images_since mid new (λ c. told_by c ≡ told_by file) → LeavesOnly moment images images_since old new (TellsOneOf (images old))
  open_begun old mid new file only_now there untouched run =
      let P : List ℕ → Type 0 = TellsOneOf (images old) in
      leaves_join old mid new P
      (leaves_untouched old old mid P (leaves_start moment images images_since old P only_now (λ c now. (c, now, refl))) untouched)
      (leaves_weaken mid new (λ c. told_by c ≡ told_by file) P (λ c same. (file, there, same)) run)

  pub open_none : {content : D → Option (List ℕ)} (old new : D) → ((c : List ℕ) → images_since old (moment old) c → images old c) → IsUntouched content moment images images_since old new → LeavesOnly moment images images_since old new (TellsOneOf (images old))
  open_none old new only_now untouched =
      let P : List ℕ → Type 0 = TellsOneOf (images old) in
      leaves_untouched old old new P (leaves_start moment images images_since old P only_now (λ c now. (c, now, refl))) untouched
