-- How it ends.
use Rattle.std.proofs.Common.{Result, Ok, Err, OnOk}
use Rattle.gd_answering.specs.declared.stop.Stop.{Stop}
use Rattle.gd_answering.specs.declared.stop.Stop.TheVariants as answer_stop
use Rattle.gd_answering.specs.Stops as answering
use Rattle.gd_patterns.specs.declared.stop.PatternStop.{PatternStop}
use Rattle.gd_patterns.specs.declared.stop.PatternStop.TheVariants as stop
use Rattle.gd_patterns.specs.Stops.{ended_by, EndsAs, IfBetween, IfOpened, EndsBy}

-- answering the lines ended so, and what is said of it says more
pub ended_as : (end : Result (Unit {0}) Stop) (P Q R U V W idle : Type 0) → (P → U) → (Q → V) → (R → W) → answering.EndsAs end P Q R → EndsAs (ended_by end) U V W idle
ended_as (Ok u) P Q R U V W idle p q r ends = p ends
ended_as (Err answer_stop.ReadFault) P Q R U V W idle p q r ends = q ends
ended_as (Err answer_stop.TooMuch) P Q R U V W idle p q r ends = q ends
ended_as (Err answer_stop.Memory) P Q R U V W idle p q r ends = q ends
ended_as (Err answer_stop.SinkFault) P Q R U V W idle p q r ends = r ends

pub ended_between : (end : Result (Unit {0}) Stop) (P : Type 0) → answering.IfBetween end P → IfBetween (ended_by end) P
ended_between (Ok u) P between = between
ended_between (Err answer_stop.ReadFault) P between = between
ended_between (Err answer_stop.TooMuch) P between = between
ended_between (Err answer_stop.Memory) P between = between
ended_between (Err answer_stop.SinkFault) P between = tt

pub ended_ok : (end : Result (Unit {0}) Stop) (P : Type 0) → OnOk end P → OnOk (ended_by end) P
ended_ok (Ok u) P ok = ok
ended_ok (Err s) P ok = tt

pub ended_causes : (end : Result (Unit {0}) Stop) (r s d l : Type 0) → answering.EndsBy end r s l → EndsBy (ended_by end) r s d l
ended_causes (Ok u) r s d l caused = tt
ended_causes (Err s) r k d l caused = caused

-- it was begun, and what is said of it says more
pub begun_as : (end : Result (Unit {0}) PatternStop) (P Q R U V W idle : Type 0) → (P → U) → (Q → V) → (R → W) → EndsAs end P Q R ⊥ → EndsAs end U V W idle
begun_as (Ok u) P Q R U V W idle p q r ends = p ends
begun_as (Err (stop.Unopened f)) P Q R U V W idle p q r ends = absurd ends
begun_as (Err (stop.Stopped answer_stop.ReadFault)) P Q R U V W idle p q r ends = q ends
begun_as (Err (stop.Stopped answer_stop.TooMuch)) P Q R U V W idle p q r ends = q ends
begun_as (Err (stop.Stopped answer_stop.Memory)) P Q R U V W idle p q r ends = q ends
begun_as (Err (stop.Stopped answer_stop.SinkFault)) P Q R U V W idle p q r ends = r ends

-- where it was opened it is so, if it is so anyway
pub if_opened : (end : Result (Unit {0}) PatternStop) (it : Type 0) → it → IfOpened end it
if_opened (Ok u) it is = is
if_opened (Err (stop.Unopened f)) it is = tt
if_opened (Err (stop.Stopped answer_stop.ReadFault)) it is = is
if_opened (Err (stop.Stopped answer_stop.SinkFault)) it is = is
if_opened (Err (stop.Stopped answer_stop.Memory)) it is = is
if_opened (Err (stop.Stopped answer_stop.TooMuch)) it is = is
