use Rattle.std.proofs.Common.{◌≡◌, ◌+◌, ◌^◌, ◌<◌, ◌≤◌, min, ℕ, [], ◌∷◌, ◌++◌, length, Some, refl, sym, ◌∙◌, ap, arith, length-append}
use Rattle.std.specs.Option.{is_some}
use Rattle.std.specs.Int.{to_be_bytes, w32}
use Rattle.gd_journal.specs.Shape.{spelled, IsPayload, IsAtRest}
use Rattle.gd_journal.specs.State.{Journaled}
use Rattle.gd_journal.specs.Versions.{version_seen}
use Rattle.gd_journal.proofs.Told.{content_of}
use Rattle.gd_journal.proofs.Runs.{append_leaves}
use Rattle.gd_journal.proofs.Kept.{at_gate_stays, settled_of, settled_standing, doubt_standing, settled_long, added, doubted}
use Rattle.gd_journal.proofs.journal.Journal.append.Goals as goal

pub write_record-requires-clause-reach : goal.write_record-requires-clause-reach
write_record-requires-clause-reach g c = λ f is.
    let d = g.D.Disk in
    let i = c.self.inside in
    let was = sym c.reserve.ensures.stays.content ∙ is in
    let s = settled_of (d.content i.disk) (d.images i.disk) (version_seen i.version) i.gate i.doubt i.damaged (ap (λ (v : Journaled _). v.doubt) c.self.view_is ∙ c.requires.no_doubt) (ap (λ (v : Journaled _). v.damaged) c.self.view_is ∙ c.requires.undamaged) (c.self.invariant (ap is_some was)) in
    omega (arith, settled_long (d.content i.disk) (d.images i.disk) i.gate (version_seen i.version) s.0 f s.1 (g.met.D.Disk.reads_one i.disk f was))

pub write_record-requires-clause-near : goal.write_record-requires-clause-near
write_record-requires-clause-near g c = λ f is.
    let d = g.D.Disk in
    let i = c.self.inside in
    let was = sym c.reserve.ensures.stays.content ∙ is in
    let s = settled_of (d.content i.disk) (d.images i.disk) (version_seen i.version) i.gate i.doubt i.damaged (ap (λ (v : Journaled _). v.doubt) c.self.view_is ∙ c.requires.no_doubt) (ap (λ (v : Journaled _). v.damaged) c.self.view_is ∙ c.requires.undamaged) (c.self.invariant (ap is_some was)) in
    let near : length f < 2 ^ 62 = c.requires.near f (ap (λ (v : Journaled _). d.content v.disk) (sym c.self.view_is) ∙ was) in
    omega (arith, near, settled_long (d.content i.disk) (d.images i.disk) i.gate (version_seen i.version) s.0 f s.1 (g.met.D.Disk.reads_one i.disk f was))

pub write_record-requires-clause-bytes : goal.write_record-requires-clause-bytes
write_record-requires-clause-bytes g c =
    let p = c.args.payload.now in
    let four : length (to_be_bytes w32 (length p)) ≡ 4 = refl in
    omega (arith, four, c.in_ok-reserve.ensures.made.1, ap length (c.as_slice.ensures.value ∙ c.in_ok-spell.ensures), length-append (spelled p) (0 ∷ []), length-append (to_be_bytes w32 (length p)) p)

-- the offset of the next gate
next_is : (gate size next : ℕ) → gate < 2 ^ 62 → size ≤ 268435456 → next ≡ min (gate + (size + 5)) 18446744073709551615 → (next ≡ gate + size + 5) × (next < 2 ^ 63)
next_is gate size next near short is = (omega arith, omega arith)

pub invariant_of-self-in_err-write_record : goal.invariant_of-self-in_err-write_record
invariant_of-self-in_err-write_record g c = λ told.
    let d = g.D.Disk in
    let i = c.self.inside in
    let p = c.args.payload.now in
    let spells = c.as_slice.ensures.value ∙ c.in_ok-spell.ensures in
    let mid = c.reserve.new.self in
    let fits : IsPayload p = record { some = omega arith; short = omega arith } in
    let before = sym (c.write_record.ensures.told ∙ ap is_some c.reserve.ensures.stays.content) ∙ told in
    let f = content_of (d.content i.disk) before in
    let none = ap (λ (v : Journaled _). v.damaged) c.self.view_is ∙ c.requires.undamaged in
    let k = settled_of (d.content i.disk) (d.images i.disk) (version_seen i.version) i.gate i.doubt i.damaged (ap (λ (v : Journaled _). v.doubt) c.self.view_is ∙ c.requires.no_doubt) none (c.self.invariant before) in
    let v = version_seen i.version in
    let ps = k.0 in
    let s = k.1 in
    let near : length f.0 < 2 ^ 62 = c.requires.near f.0 (ap (λ (v : Journaled _). d.content v.disk) (sym c.self.view_is) ∙ f.1) in
    let next = next_is i.gate (length p) c.saturating_add-next.result (omega (arith, near, settled_long (d.content i.disk) (d.images i.disk) i.gate v ps f.0 s (g.met.D.Disk.reads_one i.disk f.0 f.1))) fits.short c.saturating_add-next.ensures in
    let run = c.write_record.ensures.doubtful v ps p spells (at_gate_stays (d.content i.disk) (d.content mid) (d.images i.disk) (d.images mid) i.gate v ps (IsAtRest v ps) c.reserve.ensures.stays s.rests) in
    doubt_standing (d.content c.write_record.new.disk) (d.images c.write_record.new.disk) i.gate c.saturating_add-next.result (Some c.saturating_add-next.result) i.damaged v ps p refl none
    (doubted (d.content c.write_record.new.disk) (d.images c.write_record.new.disk) i.gate c.saturating_add-next.result v ps p s.each fits s.rests.place next.0 next.1 told run.now)

pub returns-in_err-write_record-clause-doubtful : goal.returns-in_err-write_record-clause-doubtful
returns-in_err-write_record-clause-doubtful g c = rw (← c.self.view_is) (λ v ps s.
    let d = g.D.Disk in
    let i = c.self.inside in
    let p = c.args.payload.now in
    let spells = c.as_slice.ensures.value ∙ c.in_ok-spell.ensures in
    let mid = c.reserve.new.self in
    let fits : IsPayload p = record { some = omega arith; short = omega arith } in
    let f = content_of (d.content i.disk) s.rests.told in
    let near : length f.0 < 2 ^ 62 = c.requires.near f.0 (ap (λ (v : Journaled _). d.content v.disk) (sym c.self.view_is) ∙ f.1) in
    let next = next_is i.gate (length p) c.saturating_add-next.result (omega (arith, near, settled_long (d.content i.disk) (d.images i.disk) i.gate v ps f.0 s (g.met.D.Disk.reads_one i.disk f.0 f.1))) fits.short c.saturating_add-next.ensures in
    let run = c.write_record.ensures.doubtful v ps p spells (at_gate_stays (d.content i.disk) (d.content mid) (d.images i.disk) (d.images mid) i.gate v ps (IsAtRest v ps) c.reserve.ensures.stays s.rests) in
    doubted (d.content c.write_record.new.disk) (d.images c.write_record.new.disk) i.gate c.saturating_add-next.result v ps p s.each fits s.rests.place next.0 next.1 (c.write_record.ensures.told ∙ ap is_some c.reserve.ensures.stays.content ∙ s.rests.told) run.now)

pub returns-in_err-write_record-clause-moments : goal.returns-in_err-write_record-clause-moments
returns-in_err-write_record-clause-moments g c = rw (← c.self.view_is) (λ v ps s.
    let d = g.D.Disk in
    let i = c.self.inside in
    let p = c.args.payload.now in
    let spells = c.as_slice.ensures.value ∙ c.in_ok-spell.ensures in
    let mid = c.reserve.new.self in
    let fits : IsPayload p = record { some = omega arith; short = omega arith } in
    append_leaves i.disk mid c.write_record.new.disk (d.content i.disk) i.gate v ps p (g.met.D.Disk.only_now i.disk) c.reserve.ensures.stays c.reserve.ensures.time s fits
    (c.write_record.ensures.doubtful v ps p spells (at_gate_stays (d.content i.disk) (d.content mid) (d.images i.disk) (d.images mid) i.gate v ps (IsAtRest v ps) c.reserve.ensures.stays s.rests)))

pub invariant_of-self-2 : goal.invariant_of-self-2
invariant_of-self-2 g c = λ told.
    let d = g.D.Disk in
    let i = c.self.inside in
    let p = c.args.payload.now in
    let spells = c.as_slice.ensures.value ∙ c.in_ok-spell.ensures in
    let mid = c.reserve.new.self in
    let fits : IsPayload p = record { some = omega arith; short = omega arith } in
    let before = sym (c.write_record.ensures.told ∙ ap is_some c.reserve.ensures.stays.content) ∙ told in
    let f = content_of (d.content i.disk) before in
    let none = ap (λ (v : Journaled _). v.damaged) c.self.view_is ∙ c.requires.undamaged in
    let k = settled_of (d.content i.disk) (d.images i.disk) (version_seen i.version) i.gate i.doubt i.damaged (ap (λ (v : Journaled _). v.doubt) c.self.view_is ∙ c.requires.no_doubt) none (c.self.invariant before) in
    let v = version_seen i.version in
    let ps = k.0 in
    let s = k.1 in
    let near : length f.0 < 2 ^ 62 = c.requires.near f.0 (ap (λ (v : Journaled _). d.content v.disk) (sym c.self.view_is) ∙ f.1) in
    let next = next_is i.gate (length p) c.saturating_add-next.result (omega (arith, near, settled_long (d.content i.disk) (d.images i.disk) i.gate v ps f.0 s (g.met.D.Disk.reads_one i.disk f.0 f.1))) fits.short c.saturating_add-next.ensures in
    settled_standing (d.content c.write_record.new.disk) (d.images c.write_record.new.disk) c.saturating_add-next.result i.damaged v (ps ++ p ∷ []) none
    (added (d.content c.write_record.new.disk) (d.images c.write_record.new.disk) i.gate c.saturating_add-next.result v ps p s.each fits s.rests.place next.0 told (c.in_ok-write_record.ensures.opened v ps p spells (at_gate_stays (d.content i.disk) (d.content mid) (d.images i.disk) (d.images mid) i.gate v ps (IsAtRest v ps) c.reserve.ensures.stays s.rests)))

pub returns-clause-added : goal.returns-clause-added
returns-clause-added g c = rw (← c.self.view_is) (λ v ps s.
    let d = g.D.Disk in
    let i = c.self.inside in
    let p = c.args.payload.now in
    let spells = c.as_slice.ensures.value ∙ c.in_ok-spell.ensures in
    let mid = c.reserve.new.self in
    let fits : IsPayload p = record { some = omega arith; short = omega arith } in
    let f = content_of (d.content i.disk) s.rests.told in
    let near : length f.0 < 2 ^ 62 = c.requires.near f.0 (ap (λ (v : Journaled _). d.content v.disk) (sym c.self.view_is) ∙ f.1) in
    let next = next_is i.gate (length p) c.saturating_add-next.result (omega (arith, near, settled_long (d.content i.disk) (d.images i.disk) i.gate v ps f.0 s (g.met.D.Disk.reads_one i.disk f.0 f.1))) fits.short c.saturating_add-next.ensures in
    added (d.content c.write_record.new.disk) (d.images c.write_record.new.disk) i.gate c.saturating_add-next.result v ps p s.each fits s.rests.place next.0 (c.write_record.ensures.told ∙ ap is_some c.reserve.ensures.stays.content ∙ s.rests.told) (c.in_ok-write_record.ensures.opened v ps p spells (at_gate_stays (d.content i.disk) (d.content mid) (d.images i.disk) (d.images mid) i.gate v ps (IsAtRest v ps) c.reserve.ensures.stays s.rests)))

pub returns-clause-moments : goal.returns-clause-moments
returns-clause-moments g c = rw (← c.self.view_is) (λ v ps s.
    let d = g.D.Disk in
    let i = c.self.inside in
    let p = c.args.payload.now in
    let spells = c.as_slice.ensures.value ∙ c.in_ok-spell.ensures in
    let mid = c.reserve.new.self in
    let fits : IsPayload p = record { some = omega arith; short = omega arith } in
    append_leaves i.disk mid c.write_record.new.disk (d.content i.disk) i.gate v ps p (g.met.D.Disk.only_now i.disk) c.reserve.ensures.stays c.reserve.ensures.time s fits
    (c.write_record.ensures.doubtful v ps p spells (at_gate_stays (d.content i.disk) (d.content mid) (d.images i.disk) (d.images mid) i.gate v ps (IsAtRest v ps) c.reserve.ensures.stays s.rests)))
