-- Why bytes mean no template.
use Rattle.std.specs.Prelude.{◌≡◌, ◌<◌, ◌≤◌, ℕ, List, true, false, Result, Ok, Err}
use Rattle.gd_defs.specs.Template.{depth, max_depth}
use Rattle.gd_template.specs.Built.{view}
use Rattle.gd_template.specs.declared.template.Template.{Template}
use Rattle.gd_tplang.specs.declared.stop.TplFault.{TplFault}
use Rattle.gd_tplang.specs.declared.stop.TplFault.TheVariants as fault
use Rattle.gd_tplang.specs.declared.template.Marks.{Marks}
use Rattle.gd_tplang.specs.Meaning.{has_bad, meaning}
use Rattle.gd_tplang.specs.Written.{Items, IsTemplateText, IsBadTemplateAt, template_of}

-- the bytes are the text of a template without bad patterns, which is not too deep, and this is what it means
abbrev pub Means : List ℕ → Template → Type 0
Means bytes template = (t : Items) × IsTemplateText t bytes × (has_bad t ≡ false) × (depth (meaning t) ≤ max_depth) × (view template ≡ meaning t)

-- bytes are refused where they are the text of no template, with how many of them begin one; or of one with a text that is no pattern; or of one that is too deep; of memory nothing is said
abbrev pub IsCause : List ℕ → TplFault → Type 0
IsCause bytes (fault.BadTemplate offset) = IsBadTemplateAt bytes offset
IsCause bytes fault.BadPattern = (t : Items) × IsTemplateText t bytes × (has_bad t ≡ true)
IsCause bytes fault.TooDeep = (t : Items) × IsTemplateText t bytes × (has_bad t ≡ false) × (max_depth < depth (meaning t))
IsCause bytes fault.Memory = Unit {0}

-- the marks are those of the template that the bytes spell, or they spell none
abbrev pub Surveys : List ℕ → Result Marks TplFault → Type 0
Surveys bytes (Ok m) = (t : Items) × (template_of bytes ≡ Ok t) × (m.is_bad ≡ has_bad t) × (m.deepest ≡ depth (meaning t))
Surveys bytes (Err (fault.BadTemplate offset)) = template_of bytes ≡ Err offset
Surveys bytes (Err fault.Memory) = Unit {0}
Surveys bytes (Err e) = ⊥
