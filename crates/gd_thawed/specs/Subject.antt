-- What a reading reads, and marks of the rows of a text.
use Rattle.std.specs.Prelude.{List, map, Option, option_map}
use Rattle.gd_grammar.specs.Mark.{Mark}
use Rattle.gd_defs.specs.Asked.{Asked}
use Rattle.gd_frozen.specs.declared.frozen.RowAt.{RowAt}
use Rattle.gd_frozen.specs.Meaning.{row_of}
use Rattle.gd_plan.specs.Asked.{asked_view}
use Rattle.gd_thawed.specs.declared.subject.Subject.{Subject}

-- what a reading asks
abbrev pub asked_by : Subject → Asked
asked_by s = asked_view s.asked.value

-- the mark of a row, if there is one
abbrev pub after_of : Option RowAt → Option Mark
after_of after = option_map row_of after

-- those of rows
abbrev pub marks_in : List RowAt → List Mark
marks_in rows = map row_of rows
