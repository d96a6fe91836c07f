-- The built-in list, ids, moments, patterns and compact JSON.
use Rattle.std.proofs.Common.{◌≡◌, refl, length, Some, None, codes, pos, negsuc, true, option_map}
use Rattle.gd_base.specs.declared.datum.Precision.TheVariants.{Year, Day, Time}
use Rattle.gd_defs.specs.Moment.{moment_text, moment_of}
use Rattle.gd_defs.specs.Pattern.{matches, pattern_of}
use Rattle.gd_prim.specs.Builtin.{builtin}
use Rattle.gd_defs.specs.Ids.{id_text, object_of, guid}
use Rattle.gd_tree.specs.Json.{compact, list, item, no_items, text, object, member, no_members}

pub seventy : length builtin ≡ 70
seventy = refl

pub up : id_text builtin 13 ≡ codes "/type/object/name"
up = refl

pub down : object_of builtin (codes "/type/object/name") ≡ Some 13
down = refl

pub by_guid : object_of builtin (codes "#0000000000000001000000000000000d") ≡ Some 13
by_guid = refl

pub spelled : compact (list (item (object (member (codes "guid") (text (guid 3)) no_members)) no_items)) ≡ codes "[{\"guid\":\"#00000000000000010000000000000003\"}]"
spelled = refl

pub epoch_text : moment_text (pos 0) Time ≡ codes "1970-01-01T00:00:00.000Z"
epoch_text = refl

pub leap_day : moment_text (pos 1709164800000) Day ≡ codes "2024-02-29"
leap_day = refl

pub last : moment_text (pos 253402300799999) Time ≡ codes "9999-12-31T23:59:59.999Z"
last = refl

pub first : moment_of (codes "0000") ≡ Some (negsuc 62167219199999, Year)
first = refl

pub last_read : moment_of (codes "9999-12-31T23:59:59.999Z") ≡ Some (pos 253402300799999, Time)
last_read = refl

pub none : moment_of (codes "2023-02-29") ≡ None
none = refl

pub eng : option_map (λ p. matches p (codes "Old-English words")) (pattern_of (codes "eng*")) ≡ Some true
eng = refl
