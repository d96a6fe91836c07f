-- Files of the format and their meaning: a file of one group, and the edges of gates, lengths and payloads.
use Rattle.std.specs.Str.{is_utf8, chars}
use lib.Utf8.{encode}
use Rattle.std.proofs.Common.{◌≡◌, refl, ℕ, List, [], ◌∷◌, ◌++◌, codes, Some, None, length, replicate, take, drop, option_map}
use Rattle.gd_prim.specs.declared.Batch.{Batch}
use Rattle.gd_prim.specs.Builtin.{object, name_link}
use Rattle.gd_prim.specs.History.{prims_of}
use Rattle.gd_bytes.specs.Group.{spelling, group_of}
use Rattle.gd_bytes.specs.File.{first, second, header, meaning, payloads, groups, not_store, damaged, at_rest, mark}

-- an object named Ann
abbrev pub ann : List Batch
ann = (record { moment = 0; prims = object ∷ name_link (70, codes "Ann") ∷ [] }) ∷ []

abbrev pub ann_file : List ℕ
ann_file = codes "GRAPHD1\n" ++ 1 ∷ 0 ∷ 0 ∷ 0 ∷ 29 ∷ 0 ∷ 1 ∷ 0 ∷ 0 ∷ 0 ∷ 0 ∷ 0 ∷ 0 ∷ 0 ∷ 0 ∷ 0 ∷ 2 ∷ 64 ∷ 0 ∷ 69 ∷ 0 ∷ 0 ∷ 0 ∷ 70 ∷ 0 ∷ 0 ∷ 0 ∷ 13 ∷ 1 ∷ 0 ∷ 3 ∷ 65 ∷ 110 ∷ 110 ∷ 0 ∷ []

pub written : at_rest first (spelling ann ∷ []) ≡ ann_file
written = refl

pub length_43 : length ann_file ≡ 43
length_43 = refl

pub read_again : group_of (spelling ann) ≡ Some ann
unfolding is_utf8 chars encode
read_again = refl

pub meant : meaning ann_file ≡ groups (ann ∷ [])
unfolding is_utf8 chars encode prims_of
meant = refl

pub nine : meaning (replicate 9 65) ≡ groups []
nine = refl

pub ten : meaning (replicate 10 65) ≡ not_store
ten = refl

pub closed : meaning (codes "GRAPHD1\n" ++ 7 ∷ 1 ∷ 2 ∷ 3 ∷ []) ≡ groups []
closed = refl

pub short : meaning (codes "GRAPHD1\n" ++ 1 ∷ 0 ∷ 0 ∷ 0 ∷ 29 ∷ 1 ∷ 2 ∷ 3 ∷ 4 ∷ 5 ∷ []) ≡ damaged 8
short = refl

-- ---- edges

pub nothing : meaning [] ≡ groups []
nothing = refl

-- a ninth byte is no gate
pub gate_nine : meaning (header first ++ 1 ∷ []) ≡ groups []
gate_nine = refl

pub no_length : meaning (header first ++ 1 ∷ 0 ∷ []) ≡ damaged 8
no_length = refl

pub length_zero : meaning (header first ++ 1 ∷ 0 ∷ 0 ∷ 0 ∷ 0 ∷ 0 ∷ []) ≡ damaged 8
length_zero = refl

pub length_above : meaning (header first ++ 1 ∷ 16 ∷ 0 ∷ 0 ∷ 1 ∷ 0 ∷ []) ≡ damaged 8
length_above = refl

-- without the next gate
pub no_gate : meaning (take 42 ann_file) ≡ damaged 8
no_gate = refl

-- any byte but 1 closes the file, whatever stands behind it
pub other_gate : meaning (take 42 ann_file ++ 7 ∷ 1 ∷ 1 ∷ []) ≡ groups (ann ∷ [])
unfolding is_utf8 chars encode prims_of
other_gate = refl

-- the second record is damaged, at its own gate
pub second_damaged : meaning (take 42 ann_file ++ 1 ∷ 0 ∷ 0 ∷ 0 ∷ 2 ∷ 0 ∷ 0 ∷ 0 ∷ []) ≡ damaged 42
unfolding is_utf8 chars encode prims_of
second_damaged = refl

-- the same group again is well formed: its references lie below its own places
pub twice : meaning (take 42 ann_file ++ 1 ∷ take 33 (drop 9 ann_file) ++ 0 ∷ []) ≡ groups (ann ∷ ann ∷ [])
unfolding is_utf8 chars encode prims_of
twice = refl

-- a payload that is no group is a payload, and damage
pub some_payload : payloads (header first ++ 1 ∷ 0 ∷ 0 ∷ 0 ∷ 1 ∷ 9 ∷ 0 ∷ []) ≡ record { list = (8, 9 ∷ []) ∷ []; damaged = None }
some_payload = refl

pub bad_payload : meaning (header first ++ 1 ∷ 0 ∷ 0 ∷ 0 ∷ 1 ∷ 9 ∷ 0 ∷ []) ≡ damaged 8
bad_payload = refl

pub torn_payload : (payloads (header first ++ 1 ∷ 0 ∷ 0 ∷ 0 ∷ 1 ∷ 9 ∷ 1 ∷ 0 ∷ [])).damaged ≡ Some 14
torn_payload = refl

pub no_batches : group_of (0 ∷ 0 ∷ []) ≡ None
no_batches = refl

-- 256 empty batches are a group, 257 are none
pub most_batches : option_map length (group_of (1 ∷ 0 ∷ replicate 2560 0)) ≡ Some 256
most_batches = refl

pub more_batches : group_of (1 ∷ 1 ∷ replicate 2570 0) ≡ None
more_batches = refl

-- ---- versions

-- a file of the second version has another header, and else the same bytes
pub written_second : at_rest second (spelling ann ∷ []) ≡ codes "GRAPHD2\n" ++ drop 8 ann_file
written_second = refl

pub meant_second : meaning (codes "GRAPHD2\n" ++ drop 8 ann_file) ≡ groups (ann ∷ [])
unfolding is_utf8 chars encode prims_of
meant_second = refl

-- behind the mark the file of the first version stands for the same
abbrev pub marked_file : List ℕ
marked_file = take 42 ann_file ++ 1 ∷ 0 ∷ 0 ∷ 0 ∷ 4 ∷ 0 ∷ 0 ∷ 0 ∷ 2 ∷ 0 ∷ []

pub length_52 : length marked_file ≡ 52
length_52 = refl

pub meant_marked : meaning marked_file ≡ groups (ann ∷ [])
unfolding is_utf8 chars encode prims_of
meant_marked = refl

-- a mark stands in no file of the second version
pub mark_second : meaning (header second ++ 1 ∷ 0 ∷ 0 ∷ 0 ∷ 4 ∷ 0 ∷ 0 ∷ 0 ∷ 2 ∷ 0 ∷ []) ≡ damaged 8
mark_second = refl

-- and in one of the first version once
pub mark_twice : meaning (take 51 marked_file ++ 1 ∷ 0 ∷ 0 ∷ 0 ∷ 4 ∷ 0 ∷ 0 ∷ 0 ∷ 2 ∷ 0 ∷ []) ≡ damaged 51
unfolding is_utf8 chars encode prims_of
mark_twice = refl

-- an object with a name in another language
abbrev pub anna : List Batch
anna = (record { moment = 0; prims = object ∷ record (name_link (70, codes "Ann")) { lang = Some 2 } ∷ [] }) ∷ []

-- its flag byte has the highest bit, and its language is the last of its references
pub written_lang : spelling anna ≡ 0 ∷ 1 ∷ 0 ∷ 0 ∷ 0 ∷ 0 ∷ 0 ∷ 0 ∷ 0 ∷ 0 ∷ 0 ∷ 2 ∷ 64 ∷ 0 ∷ 197 ∷ 0 ∷ 0 ∷ 0 ∷ 70 ∷ 0 ∷ 0 ∷ 0 ∷ 13 ∷ 0 ∷ 0 ∷ 0 ∷ 2 ∷ 1 ∷ 0 ∷ 3 ∷ 65 ∷ 110 ∷ 110 ∷ []
written_lang = refl

pub read_lang : group_of (spelling anna) ≡ Some anna
unfolding is_utf8 chars encode
read_lang = refl

pub lang_second : meaning (at_rest second (spelling anna ∷ [])) ≡ groups (anna ∷ [])
unfolding is_utf8 chars encode prims_of
lang_second = refl

-- before the mark it is damage, behind it none
pub lang_early : meaning (at_rest first (spelling anna ∷ [])) ≡ damaged 8
unfolding is_utf8 chars encode prims_of
lang_early = refl

pub lang_late : meaning (at_rest first (mark ∷ spelling anna ∷ [])) ≡ groups (anna ∷ [])
unfolding is_utf8 chars encode prims_of
lang_late = refl
