use Rattle.std.proofs.Common.{ℕ, Some, sym, ◌∙◌, ap, subst}
use Rattle.std.specs.Prelude.{Option}
use Rattle.std.specs.Option.{is_some}
use Rattle.gd_journal.specs.Found.{seen, found_in}
use Rattle.gd_journal.specs.State.{Standing}
use Rattle.gd_journal.specs.Versions.{version_seen}
use Rattle.gd_journal.proofs.Told.{content_of}
use Rattle.gd_journal.proofs.Kept.{Standing-less}
use Rattle.gd_journal.proofs.Found.{some_version, standing_held, same_damage, or_same}
use Rattle.gd_journal.proofs.journal.Journal.read_all.Goals as goal

pub read_payloads-requires : goal.read_payloads-requires
read_payloads-requires g c = λ f is long.
    let d = g.D.Disk in
    let i = c.self.inside in
    let k = standing_held (d.content i.disk) (d.images i.disk) (version_seen i.version) i.gate i.doubt i.damaged f (c.self.invariant (ap is_some is)) (g.met.D.Disk.reads_one i.disk f is) in
    some_version f k.0 k.1 long

pub invariant_of-self : goal.invariant_of-self
invariant_of-self g c = λ told.
    let d = g.D.Disk in
    let i = c.self.inside in
    let after = c.read_payloads.new.disk in
    let u = c.read_payloads.ensures.untouched in
    Standing-less (d.content i.disk) (d.content after) (d.images i.disk) (d.images after) (version_seen i.version) i.gate i.doubt i.damaged u.same u.now (c.self.invariant (ap is_some (sym u.same) ∙ told))

pub invariant_of-self-2 : goal.invariant_of-self-2
invariant_of-self-2 g c = λ told.
    let d = g.D.Disk in
    let i = c.self.inside in
    let after = c.read_payloads.new.disk in
    let u = c.read_payloads.ensures.untouched in
    let f = content_of (d.content i.disk) (ap is_some (sym u.same) ∙ told) in
    let kept = c.self.invariant (ap is_some (sym u.same) ∙ told) in
    let same = same_damage (d.content i.disk) (d.images i.disk) (version_seen i.version) i.gate i.doubt i.damaged f.0 (found_in c.in_ok-found.found) kept (g.met.D.Disk.reads_one i.disk f.0 f.1) (c.in_ok-found.ensures.found f.0 f.1) in
    subst (λ (o : Option ℕ). Standing (d.content after) (d.images after) (version_seen i.version) i.gate i.doubt o) (sym (c.or-self-inside.ensures ∙ or_same c.in_ok-found.found.damaged i.damaged same))
    (Standing-less (d.content i.disk) (d.content after) (d.images i.disk) (d.images after) (version_seen i.version) i.gate i.doubt i.damaged u.same u.now kept)

pub returns-clause-found : goal.returns-clause-found
returns-clause-found g c = rw (← c.self.view_is) (λ f is.
    let d = g.D.Disk in
    let i = c.self.inside in
    let held = c.in_ok-found.ensures.found f is in
    let same = same_damage (d.content i.disk) (d.images i.disk) (version_seen i.version) i.gate i.doubt i.damaged f (found_in c.in_ok-found.found) (c.self.invariant (ap is_some is)) (g.met.D.Disk.reads_one i.disk f is) held in
    held ∙ ap (λ (o : Option ℕ). Some (record { list = seen c.in_ok-found.found.list; damaged = o })) (same ∙ sym (c.or-self-inside.ensures ∙ or_same c.in_ok-found.found.damaged i.damaged same)))
