use Rattle.gd_read.proofs.reading.Reading.slice.Goals as goal

pub returns-in-Several-clause-less : goal.returns-in-Several-clause-less
returns-in-Several-clause-less g c = λ n past. rw c.in-Several.is (c.slice.ensures.less n past)
