-- What a reading is frozen as.
use Rattle.std.specs.Prelude.{◌≡◌, ℕ, ◌+◌, List, [], ◌∷◌, Option, None, Some, option_map, Vec}
use Rattle.std.specs.declared.alloc.Global.{Global}
use Rattle.gd_prim.specs.declared.Batch.{Batch}
use Rattle.gd_prim.specs.History.{prims_of}
use Rattle.gd_defs.specs.Asked.{Asked}
use Rattle.gd_defs.specs.Reply.{Mark}
use Rattle.gd_defs.specs.Template.{Template}
use Rattle.gd_bytes.specs.Frozen.{Frame, Scan, Body, Frozen, Fits, spelling}
use Rattle.gd_runs.specs.Core as core
use Rattle.gd_runs.specs.Request.{ReadRequest, ReadSet, one_query, queries, asks_page}
use Rattle.gd_mql.specs.Requests.{cursor_view}
use Rattle.gd_frozen.specs.Meaning.{reading_of}
use Rattle.gd_frozen.specs.declared.frozen.FrozenReading.{FrozenReading}
use Rattle.gd_roots.specs.PassedOn.{one_member, Began, StandsFor, between, stands, told}
use Rattle.gd_read.specs.Marked.{mark_of}
use Rattle.gd_read.specs.Stages.{IsAsked}
use Rattle.gd_read.specs.Subject.{written}
use Rattle.gd_read.specs.declared.reading.Reading.{Reading}
use Rattle.gd_read.specs.declared.reading.Reading.TheVariants as reading
use Rattle.gd_read.specs.declared.subject.Subject.{Subject}
use Rattle.gd_read.specs.declared.trying.Trying.{Trying}

-- the number from which on a walk goes on: that of the place that is tried, or else the one behind the last that it gave
abbrev pub number_ahead : Option Trying → Option ℕ → ℕ
number_ahead tried None = 0
number_ahead None (Some n) = n + 1
number_ahead (Some r) (Some n) = n

-- a scan behind a number, with a weight and frames; before it, with none, where there are no frames
abbrev pub scan_with : ℕ → ℕ → List Frame → Scan
scan_with n weight [] = between n
scan_with n weight (f ∷ fs) = record { iter = record { place = n + 1; accepted = None }; weight = weight; frames = f ∷ fs }

-- the scan at which a reading is put away that goes on from a number: where the place there is tried by itself, behind it with the frames of the matcher as they are told; or else before it
abbrev pub scan_ahead : Template → Option Trying → ℕ → Scan
scan_ahead t None n = between n
scan_ahead t (Some r) n = scan_with n (told t (stands r.matcher)).weight (told t (stands r.matcher)).frames

-- ---- one query

-- a reading that began, as the laws of frozen readings have it
abbrev pub began : List Batch → Subject → Began
began batches s = record { prims = prims_of batches; written = written s; dateline = s.dateline; with_cursor = asks_page (cursor_view s.request.cursor); after = mark_of s.after }

-- these rows with a body stand for a reading, over the batches below its dateline
pub record BodyStands (batches : List Batch) (s : Subject) (rows : List Mark) (body : Body) : Type 0 where
  pub query : Asked
  pub asked : IsAsked batches s query
  pub stands : StandsFor (began batches s) query rows body

-- a frozen reading is one of a reading: it has a text, its dateline and mark are those of the reading, and its rows and its body stand for it
pub record IsFrozen (batches : List Batch) (s : Subject) (f : Frozen) : Type 0 where
  pub spelled : Fits f
  pub dateline : f.dateline ≡ s.dateline
  pub after : f.after ≡ mark_of s.after
  pub stands : BodyStands batches s f.rows f.body

-- ---- readings

-- a reading of one query is frozen as this, over the batches below its dateline, and one of several as none
abbrev pub ReadingFreezes : List Batch → Reading → Option FrozenReading → Type 0
ReadingFreezes batches (reading.One r) None = ⊥
ReadingFreezes batches (reading.One r) (Some f) = IsFrozen batches r.subject (reading_of f)
ReadingFreezes batches (reading.Several r) None = Unit {0}
ReadingFreezes batches (reading.Several r) (Some f) = ⊥

-- the bytes of a text that is given, if one is
abbrev pub text_in : Option (Vec ℕ Global) → Option (List ℕ)
text_in given = option_map (λ t. t.items) given

-- over these batches a reading of one query may be frozen as this text
pub record IsTextOf (batches : List Batch) (q : ReadRequest) (r : core.Reading) (text : List ℕ) : Type 0 where
  pub frozen : Frozen
  pub freezes : core.FreezesAs one_member batches q r frozen
  pub spells : text ≡ spelling frozen

-- freezing a reading gives a text of it, where it is of one query, and none where it is of several
abbrev pub FreezesTo : List Batch → core.Reading → Option (List ℕ) → Type 0
FreezesTo batches r given = by r.request given
  where
    by : ReadSet → Option (List ℕ) → Type 0
    by (one_query q) None = ⊥
    by (one_query q) (Some text) = IsTextOf batches q r text
    by (queries qs) None = Unit {0}
    by (queries qs) (Some text) = ⊥
