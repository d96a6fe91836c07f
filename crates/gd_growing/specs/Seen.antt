-- What writes say and make, as the definitions have it.
use Rattle.std.specs.Prelude.{ℕ, List, true, false, Option, Some, None, codes}
use Rattle.gd_base.specs.declared.datum.Datum.{Datum}
use Rattle.gd_prim.specs.declared.Primitive.{Primitive}
use Rattle.gd_defs.specs.Property.{Property}
use Rattle.gd_defs.specs.Write.Links.{Stamp, named_language}
use Rattle.gd_defs.specs.Write.Parts as parts
use Rattle.gd_growing.specs.declared.target.Target.{Target}
use Rattle.gd_growing.specs.declared.target.Target.TheVariants as target
use Rattle.gd_growing.specs.declared.links.Answer.{Answer}
use Rattle.gd_growing.specs.declared.links.Answer.TheVariants as answer

-- where a link leads
abbrev pub target_view : Target → parts.Target
target_view (target.Object o) = parts.to_object o
target_view (target.Value v) = parts.to_value v
target_view (target.Key namespace key) = parts.to_key namespace key

-- a new link of a property without its ends
abbrev pub bare : Stamp → Property → Datum → Option ℕ → Primitive
bare s p v previous = record { left = None; right = None; typ = Some p.stored; scope = s.scope; value = v; name = None; previous = previous; live = true; moment = s.moment; lang = named_language v p.language }

-- the successor by which the primitive at a place is deleted
abbrev pub ended : Stamp → ℕ → Primitive → Primitive
ended s k p = record p { scope = s.scope; name = None; previous = Some k; live = false; moment = s.moment }

-- what is printed for an answer
abbrev pub answer_word : Answer → List ℕ
answer_word answer.Present = codes "present"
answer_word answer.Inserted = codes "inserted"
answer_word answer.Absent = codes "absent"
answer_word answer.Deleted = codes "deleted"
answer_word answer.Updated = codes "updated"
