use Rattle.std.proofs.Common.{[], None, sym, ◌∙◌, arith}
use Rattle.gd_journal.proofs.Means.{held_short}
use Rattle.gd_journal.proofs.OneByOne.{found_is}
use Rattle.gd_journal.proofs.reading.read_payloads.Goals as goal

pub returns-then-len-le-UNFINISHED-clause-found : goal.returns-then-len-le-UNFINISHED-clause-found
returns-then-len-le-UNFINISHED-clause-found g c = λ f is.
    found_is f c.found.result [] None (c.found.ensures.list ∙ c.new.ensures.items) c.found.ensures.damaged (held_short f (omega (arith, c.in_ok-len.ensures.value f is)))

pub read_records-requires-clause-header : goal.read_records-requires-clause-header
read_records-requires-clause-header g c = λ f is.
    let was = sym c.len.ensures.stays.content ∙ is in
    c.requires f was (omega (arith, c.in_ok-len.ensures.value f was))
