use Rattle.std.proofs.Common.{◌-◌, [], ◌∷◌, ◌++◌, List, ℕ, drop, length, sym, ◌∙◌, ap, subst, arith}
use Rattle.std.specs.Prelude.{bytes_eq, ◌||◌}
use Rattle.gd_bytes.specs.File.{mark}
use Rattle.gd_disk.specs.Runs.{untouched_none, untouched_then}
use Rattle.gd_journal.specs.Heads.{HeadIs, Fits}
use Rattle.gd_journal.specs.Versions.{version_seen}
use Rattle.gd_journal.proofs.Found.{payload_read}
use Rattle.gd_journal.proofs.Heads.{walked_none, walked_more}
use Rattle.gd_journal.proofs.Marks.{marked_push, marked_none}
use Rattle.gd_journal.proofs.opening.scan.Goals as goal

pub loop-window-init : goal.loop-window-init
loop-window-init g c = record {
  within = omega arith;
  walked = λ f is. ([], walked_none (version_seen c.args.version) f (c.requires.header f is), c.is_marked-marked.ensures ∙ marked_none (version_seen c.args.version));
  shows = c.none-window.ensures.shows (g.D.Disk.content c.args.disk.now) c.requires.len;
  len = c.none-window.ensures.len;
  untouched = untouched_none c.args.disk.now;
  faults = omega arith;
}

pub loop-window-preserved : goal.loop-window-preserved
loop-window-preserved g c =
    let d = g.D.Disk in
    let l = c.loop-window in
    let i = l.invariant in
    let e = c.in_ok-head_at.ensures in
    let m = c.marked_behind.ensures in
    let v = version_seen c.args.version in
    let fits = subst (Fits (l.window.len - l.gate)) c.in-Record.is e.fits in
    record {
      within = omega (arith, fits.0, c.from.ensures, i.within, i.len);
      walked = λ f is.
          let told = i.untouched.same ∙ is in
          let w = i.walked f is in
          let there = subst (HeadIs (drop l.gate f)) c.in-Record.is (e.head f told) in
          let read = payload_read f there.0 l.gate c.in-Record.size there.1 there.2 in
          let now = c.in_ok-now-in-Record.ensures.value f (c.head_at.ensures.untouched.same ∙ told) (ap length read ∙ there.1) in (
            w.0 ++ there.0 ∷ [],
            walked_more v w.0 l.gate c.from.result f there.0 w.1 (there.1 ∙ sym c.from.ensures) there.2,
            marked_push v w.0 there.0 l.marked _ w.2 (now ∙ ap (λ (p : List ℕ). l.marked || bytes_eq p mark) read),
          );
      shows = m.shows;
      len = m.len ∙ c.head_at.ensures.len ∙ i.len;
      untouched = untouched_then (untouched_then i.untouched c.head_at.ensures.untouched) m.untouched;
      faults = omega (arith, c.head_at.ensures.later, m.later);
    }
