-- How it ends.
use Rattle.std.proofs.Common.{Result, Ok, Err, OnOk}
use Rattle.gd_answering.specs.declared.stop.Stop.{Stop}
use Rattle.gd_answering.specs.declared.stop.Stop.TheVariants as answer_stop
use Rattle.gd_answering.specs.Stops as answering
use Rattle.gd_following.specs.declared.stop.FollowStop.{FollowStop}
use Rattle.gd_following.specs.declared.stop.FollowStop.TheVariants as stop
use Rattle.gd_journal.specs.declared.fault.JournalFault.{JournalFault}
use Rattle.gd_journal.specs.declared.fault.JournalFault.TheVariants as journal
use Rattle.gd_following.specs.Stops.{ended_by, EndsAs, IfBetween, EndsBy, KeepsAs}

-- answering the lines ended so, and what is said of it says more
pub ended_as : (end : Result (Unit {0}) Stop) (P Q R U V W idle : Type 0) → (P → U) → (Q → V) → (R → W) → answering.EndsAs end P Q R → EndsAs (ended_by end) U V W idle
ended_as (Ok u) P Q R U V W idle p q r ends = p ends
ended_as (Err answer_stop.ReadFault) P Q R U V W idle p q r ends = q ends
ended_as (Err answer_stop.TooMuch) P Q R U V W idle p q r ends = q ends
ended_as (Err answer_stop.Memory) P Q R U V W idle p q r ends = q ends
ended_as (Err answer_stop.SinkFault) P Q R U V W idle p q r ends = r ends

pub ended_between : (end : Result (Unit {0}) Stop) (P : Type 0) → answering.IfBetween end P → IfBetween (ended_by end) P
ended_between (Ok u) P between = between
ended_between (Err answer_stop.ReadFault) P between = between
ended_between (Err answer_stop.TooMuch) P between = between
ended_between (Err answer_stop.Memory) P between = between
ended_between (Err answer_stop.SinkFault) P between = tt

pub ended_ok : (end : Result (Unit {0}) Stop) (P : Type 0) → OnOk end P → OnOk (ended_by end) P
ended_ok (Ok u) P ok = ok
ended_ok (Err s) P ok = tt

pub ended_causes : (end : Result (Unit {0}) Stop) (r s d l : Type 0) → answering.EndsBy end r s l → EndsBy (ended_by end) r s d l
ended_causes (Ok u) r s d l caused = tt
ended_causes (Err s) r k d l caused = caused

-- it was begun, and what is said of it says more
pub begun_as : (end : Result (Unit {0}) FollowStop) (P Q R U V W idle : Type 0) → (P → U) → (Q → V) → (R → W) → EndsAs end P Q R ⊥ → EndsAs end U V W idle
begun_as (Ok u) P Q R U V W idle p q r ends = p ends
begun_as (Err (stop.Unopened f)) P Q R U V W idle p q r ends = absurd ends
begun_as (Err (stop.Stopped answer_stop.ReadFault)) P Q R U V W idle p q r ends = q ends
begun_as (Err (stop.Stopped answer_stop.TooMuch)) P Q R U V W idle p q r ends = q ends
begun_as (Err (stop.Stopped answer_stop.Memory)) P Q R U V W idle p q r ends = q ends
begun_as (Err (stop.Stopped answer_stop.SinkFault)) P Q R U V W idle p q r ends = r ends

pub begun_causes : (end : Result (Unit {0}) FollowStop) (r s d l : Type 0) → EndsBy end r s ⊥ l → EndsBy end r s d l
begun_causes (Ok u) r s d l caused = tt
begun_causes (Err (stop.Unopened journal.DiskFault)) r s d l caused = absurd caused
begun_causes (Err (stop.Unopened journal.NotStore)) r s d l caused = tt
begun_causes (Err (stop.Unopened (journal.Damaged offset))) r s d l caused = tt
begun_causes (Err (stop.Unopened journal.Memory)) r s d l caused = tt
begun_causes (Err (stop.Stopped k)) r s d l caused = caused

-- what is kept by a run that was begun
pub ended_keeps : (end : Result (Unit {0}) Stop) (P : Type 0) (Q : JournalFault → Type 0) → P → KeepsAs (ended_by end) P Q
ended_keeps (Ok u) P Q kept = kept
ended_keeps (Err s) P Q kept = kept

pub begun_keeps : (end : Result (Unit {0}) FollowStop) (P U : Type 0) (Q : JournalFault → Type 0) → (P → U) → KeepsAs end P (λ _. ⊥) → KeepsAs end U Q
begun_keeps (Ok u) P U Q more kept = more kept
begun_keeps (Err (stop.Unopened f)) P U Q more kept = absurd kept
begun_keeps (Err (stop.Stopped s)) P U Q more kept = more kept
