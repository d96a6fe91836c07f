use Rattle.std.proofs.Common.{◌≡◌, ◌∙◌, ap, subst, sym, Some}
use Rattle.std.proofs.lemmas.Result.{IfOk-weaker}
use Rattle.gd_bytes.specs.Frozen.{scanning}
use Rattle.gd_suspended_laws.specs.Standing.{marks_of}
use Rattle.gd_thawed.specs.Freezing.{Freezes, frozen_as, scan_told, build_told, print_told}
use Rattle.gd_thawed.specs.Subject.{marks_in}
use Rattle.gd_thawed.specs.declared.stage.Stage.TheVariants as stage
use Rattle.gd_thawed.proofs.Frozen.{scan_can, build_can, scan_freezes, build_freezes, print_freezes, scan_stands, build_stands, print_stands, stands_at}
use Rattle.gd_thawed.proofs.query.ThawedQuery.freeze.Goals as goal

pub freeze_scan-requires : goal.freeze_scan-requires
freeze_scan-requires c =
    let going = c.requires.going in
    scan_can c.args.view.now going.0 c.args.self.now.subject c.in-Scanning.scanning c.args.self.now.window (scan_stands c.args.view.now going.0 c.args.self.now c.in-Scanning.scanning c.in-Scanning.is going.1)

pub returns-in-Scanning : goal.returns-in-Scanning
returns-in-Scanning c = record {
  told = IfOk-weaker c.freeze_scan.result _ _ (λ frozen is. ap Some is ∙ stands_at c.args.self.now (stage.Scanning c.in-Scanning.scanning) c.in-Scanning.is) c.freeze_scan.ensures;
  freezes = λ owed going.
      IfOk-weaker c.freeze_scan.result _ _
      (λ frozen is. subst (Freezes c.args.view.now owed c.args.self.now.subject) (sym is)
      (scan_freezes c.args.view.now owed c.args.self.now.subject c.in-Scanning.scanning c.args.self.now.window (scan_stands c.args.view.now owed c.args.self.now c.in-Scanning.scanning c.in-Scanning.is going)))
      c.freeze_scan.ensures;
}

pub freeze_build-requires : goal.freeze_build-requires
freeze_build-requires c =
    let going = c.requires.going in
    let builds = build_stands c.args.view.now going.0 c.args.self.now c.in-Building.building c.in-Building.is going.1 in
    record { told = build_can c.args.view.now going.0 c.args.self.now.subject c.in-Building.building c.args.self.now.window builds; few = builds.few }

pub returns-in-Building : goal.returns-in-Building
returns-in-Building c = record {
  told = IfOk-weaker c.freeze_build.result _ _ (λ frozen is. ap Some is ∙ stands_at c.args.self.now (stage.Building c.in-Building.building) c.in-Building.is) c.freeze_build.ensures;
  freezes = λ owed going.
      IfOk-weaker c.freeze_build.result _ _
      (λ frozen is. subst (Freezes c.args.view.now owed c.args.self.now.subject) (sym is)
      (build_freezes c.args.view.now owed c.args.self.now.subject c.in-Building.building c.args.self.now.window (build_stands c.args.view.now owed c.args.self.now c.in-Building.building c.in-Building.is going)))
      c.freeze_build.ensures;
}

pub returns-in-Printing : goal.returns-in-Printing
returns-in-Printing c = record {
  told = IfOk-weaker c.freeze_print.result _ _ (λ frozen is. ap Some is ∙ stands_at c.args.self.now (stage.Printing c.in-Printing.printing) c.in-Printing.is) c.freeze_print.ensures;
  freezes = λ owed going.
      IfOk-weaker c.freeze_print.result _ _
      (λ frozen is. subst (Freezes c.args.view.now owed c.args.self.now.subject) (sym is)
      (print_freezes c.args.view.now owed c.args.self.now.subject c.in-Printing.printing c.args.self.now.window (print_stands c.args.view.now owed c.args.self.now c.in-Printing.printing c.in-Printing.is going)))
      c.freeze_print.ensures;
}
