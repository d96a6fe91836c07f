-- The laws, proved.
use Rattle.gd_match_laws.specs.Laws.{RunsKeep, RunsGive, RunsEnd, CandidatesRun, HeavyStays, ScansStay, ScansRefuse, ReadingsPrint, CountsPrint, BuildingRefuses, WalksTell}
use Rattle.gd_match_laws.proofs.Scans.{run-keeps, run-gives, heavy-so-far}
use Rattle.gd_match_laws.proofs.Reached.{fitting-to-end}
use Rattle.gd_match_laws.proofs.AtOnce.{at-once}
use Rattle.gd_match_laws.proofs.Bodies.{scanning-too-wide, building-too-wide}
use Rattle.gd_match_laws.proofs.Suspended.{suspended}
use Rattle.gd_match_laws.proofs.Whole.{whole-reading, whole-count, printing-told}

pub runs_keep : RunsKeep
runs_keep prims order t s cs e runs = run-keeps prims order t s cs e runs

pub runs_give : RunsGive
runs_give prims order t s cs e ended runs = run-gives prims order t s e cs ended.frames ended.places runs

pub runs_end : RunsEnd
runs_end prims members order t s rises fits =
    let to = fitting-to-end prims members order t rises s fits in record { last = to.0; runs = to.1; ended = record { frames = to.2; places = to.3 } }

pub candidates_run : CandidatesRun
candidates_run prims order t s c i none found = at-once prims order t s c i none found

pub heavy_stays : HeavyStays
heavy_stays prims order t s f fs is heavy = heavy-so-far prims order t s f fs is heavy

pub scans_stay : ScansStay
scans_stay prims q dateline with_cursor after cs m some runs light = suspended prims q dateline with_cursor after cs m some runs light

pub scans_refuse : ScansRefuse
scans_refuse prims q dateline with_cursor after kept s m cs runs heavy = scanning-too-wide prims q dateline with_cursor after kept s m cs runs heavy

pub readings_print : ReadingsPrint
readings_print prims q dateline with_cursor after cs ds m e n some listed scans ended light builds built rows_light page_light =
    whole-reading prims q dateline with_cursor after cs ds m e n some listed scans ended.frames ended.places light builds built.frames built.places rows_light page_light

pub counts_print : CountsPrint
counts_print prims q dateline with_cursor after cs m n some counts scans ended light = whole-count prims q dateline with_cursor after cs m n some counts scans ended.frames ended.places light

pub building_refuses : BuildingRefuses
building_refuses prims q dateline with_cursor after kept w ts s m cs listed runs heavy = building-too-wide prims q dateline with_cursor after kept w ts s m cs listed runs heavy

pub walks_tell : WalksTell
walks_tell prims q dateline with_cursor after kept n m ts ws tell = printing-told prims q dateline with_cursor after kept n m ts ws tell
