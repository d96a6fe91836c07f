-- Cursor texts: what they read as, and how far bad ones go.
use Rattle.std.proofs.Common.{◌≡◌, refl, [], ◌∷◌, codes, Ok, Err, Some, None}
use Rattle.gd_bytes.specs.Cursor.{cursor_of}

pub ended : cursor_of (codes "c1:5:72") ≡ Ok (record { dateline = 5; after = record { object = 72; keys = [] } })
ended = refl

pub missing_keys : cursor_of (codes "c1:5:72:-:0") ≡ Ok (record { dateline = 5; after = record { object = 72; keys = None ∷ Some 0 ∷ [] } })
missing_keys = refl

pub cut : cursor_of (codes "c1:5:") ≡ Err 5
cut = refl

pub empty_text : cursor_of [] ≡ Err 0
empty_text = refl

pub greatest : cursor_of (codes "c1:4194303:2097151") ≡ Ok (record { dateline = 4_194_303; after = record { object = 2_097_151; keys = [] } })
greatest = refl

pub above_dateline : cursor_of (codes "c1:4194304:1") ≡ Err 9
above_dateline = refl

pub above_place : cursor_of (codes "c1:1:2097152") ≡ Err 11
above_place = refl

pub fifth_key : cursor_of (codes "c1:1:2:3:4:5:6:7") ≡ Err 14
fifth_key = refl

pub two_marks : cursor_of (codes "c1:1:2:--") ≡ Err 8
two_marks = refl

-- a second zero
pub cursor_zero : cursor_of (codes "c1:03:5") ≡ Err 4
cursor_zero = refl
