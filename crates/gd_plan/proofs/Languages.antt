-- Whether members ask for a language, one after another.
use Rattle.std.proofs.Common.{◌≡◌, ℕ, ◌<◌, ◌+◌, List, ◌||◌, drop, length, get_or, refl, ap, ◌∙◌}
use Rattle.gd_defs.specs.Asked as defs
use Rattle.gd_defs.specs.Asked.Forms.{asks_language}
use Rattle.gd_plan.specs.Asked.{member_step, put, members_view}
use Rattle.gd_plan.specs.declared.asked.Own.TheVariants as own
use Rattle.gd_plan.specs.declared.asked.Member.{Member}
use Rattle.gd_plan.specs.declared.asked.Member.TheOpen.{Member-F}
use Rattle.gd_plan.proofs.Members.{put_step, members_left}

-- a member of a layer in front of others
step_asks : (f : Member-F (defs.Members → defs.Members)) (rest : defs.Members)
    → asks_language (member_step f rest) ≡ (asks_language (member_step f defs.no_members) || asks_language rest)
step_asks (Member-F.Own name own.Id t operand) rest = refl
step_asks (Member-F.Own name own.Guid t operand) rest = refl
step_asks (Member-F.Own name own.Timestamp t operand) rest = refl
step_asks (Member-F.Own name own.Link t operand) rest = refl
step_asks (Member-F.Own name own.Value t operand) rest = refl
step_asks (Member-F.Own name own.Namespace t operand) rest = refl
step_asks (Member-F.Own name own.Lang t operand) rest = refl
step_asks (Member-F.Asks name asking inner) rest = refl

-- any member in front of others
member_asks : (m : Member) (rest : defs.Members) → asks_language (put m rest) ≡ (asks_language (put m defs.no_members) || asks_language rest)
member_asks m rest = let f = put_step m in rw f.1 (step_asks f.0 rest)

-- the first of those from an index on in front of the others
pub left_asks : (ms : List Member) (i : ℕ) (m : Member) → i < length ms → m ≡ get_or ms i m
    → asks_language (members_view (drop i ms)) ≡ (asks_language (put m defs.no_members) || asks_language (members_view (drop (i + 1) ms)))
left_asks ms i m within is = ap asks_language (members_left ms i m within is) ∙ member_asks m (members_view (drop (i + 1) ms))
