-- What contracts see of a journal, and what its disk may leave.
use Rattle.std.specs.Prelude.{◌≡◌, ℕ, ◌+◌, ◌^◌, ◌<◌, ◌≤◌, List, length, Bool, Option, Some, None, IsSome}
use Rattle.std.specs.List.{AllByRecursion}
use Rattle.std.specs.Option.{ForSome}
use Rattle.gd_bytes.specs.Disk.{Only}
use Rattle.gd_bytes.specs.File.{Version, second, version_of}
use Rattle.gd_journal.specs.Meaning.{StandsFor, MayStandFor, IsDamagedAt, marked_by, with_mark}
use Rattle.gd_journal.specs.Shape.{IsPayload, front, IsAtRest, IsDoubtful, IsWalked, EndsAt}

-- What contracts see of a journal: its disk, the version of its file, the offset of the gate that ends its records, the offset of the next gate while a payload is in doubt, and that of the first damaged record.
pub record Journaled (D : Type 0) : Type 0 where
  pub disk : D
  pub version : Version
  pub gate : ℕ
  pub doubt : Option ℕ
  pub damaged : Option ℕ

-- The disk tells its content, this is the offset of the gate behind these payloads, and each image has P.
pub record AtGate (content : Option (List ℕ)) (images : List ℕ → Type 0) (gate : ℕ) (v : Version) (ps : List (List ℕ)) (P : List ℕ → Type 0) : Type 0 where
  pub told : IsSome content
  pub place : gate ≡ length (front v ps)
  pub left : (c : List ℕ) → images c → P c

-- The file ends with the gate behind these payloads, and each image stands for them.
pub record IsSettled (content : Option (List ℕ)) (images : List ℕ → Type 0) (gate : ℕ) (v : Version) (ps : List (List ℕ)) : Type 0 where
  pub each : AllByRecursion IsPayload ps
  pub rests : AtGate content images gate v ps (IsAtRest v ps)
  pub means : (c : List ℕ) → images c → StandsFor v ps c

-- Each image stands for these payloads, with the one in doubt or without it.
pub record IsInDoubt (content : Option (List ℕ)) (images : List ℕ → Type 0) (gate next : ℕ) (v : Version) (ps : List (List ℕ)) (p : List ℕ) : Type 0 where
  pub each : AllByRecursion IsPayload ps
  pub last : IsPayload p
  pub next_place : next ≡ gate + length p + 5
  pub near : next < 2 ^ 63
  pub rests : AtGate content images gate v ps (IsDoubtful v ps p)
  pub means : (c : List ℕ) → images c → MayStandFor v ps p c

-- Each image stands for some payloads, with one in doubt or none, or has its first damaged record here.
abbrev pub Standing : Option (List ℕ) → (List ℕ → Type 0) → Version → ℕ → Option ℕ → Option ℕ → Type 0
Standing content images v gate None None = (ps : List (List ℕ)) × IsSettled content images gate v ps
Standing content images v gate (Some next) None = (ps : List (List ℕ)) × (p : List ℕ) × IsInDoubt content images gate next v ps p
Standing content images v gate None (Some at) = (c : List ℕ) → images c → IsDamagedAt at c × (version_of c ≡ Some v)
Standing content images v gate (Some next) (Some at) = ⊥

-- Where the disk tells its content, each image stands for some payloads, with one in doubt or none, or has its first damaged record here.
abbrev pub Keeps : Option (List ℕ) → (List ℕ → Type 0) → Version → ℕ → Option ℕ → Option ℕ → Type 0
Keeps content images v gate doubt damaged = IsSome content → Standing content images v gate doubt damaged

-- What contracts see of a file that is being opened: its disk, the version that it has or is to get, its length, the offset of the gate that ends its records, that of the first damaged record, and that of the next gate to be read.
pub record Looked (D : Type 0) : Type 0 where
  pub disk : D
  pub version : Version
  pub len : ℕ
  pub gate : ℕ
  pub damaged : Option ℕ
  pub next : ℕ

-- The records of a file of this length and version end at this gate, or its first damaged record stands there; and texts may have languages behind them or not. Of an unfinished creation it is the gate of an empty store of the second version.
pub record HasEnd (file : List ℕ) (len : ℕ) (v : Version) (marked : Bool) (gate : ℕ) (damaged : Option ℕ) : Type 0 where
  pub size : len ≡ length file
  pub short : len ≤ 9 → (gate ≡ 8) × (damaged ≡ None) × (v ≡ second)
  pub begins : 9 < len → version_of file ≡ Some v
  pub within : 9 < len → gate < len
  pub ends : 9 < len → (ps : List (List ℕ)) × IsWalked v ps gate file × EndsAt gate file damaged × (marked ≡ marked_by v ps)

-- The file that the disk tells is its only image, and its records end there.
abbrev pub Sees : Option (List ℕ) → (List ℕ → Type 0) → ℕ → Version → Bool → ℕ → Option ℕ → Type 0
Sees content images len v marked gate damaged = ForSome content (λ file. Only file images × HasEnd file len v marked gate damaged)

-- A file that stood for some payloads was opened: each image stands for these, with the mark behind them where it was due.
abbrev pub IsOpened : Option (List ℕ) → (List ℕ → Type 0) → Version → ℕ → List ℕ → Type 0
IsOpened content images v gate file = (ps : List (List ℕ)) × StandsFor v ps file × IsSettled content images gate v (with_mark v ps)
