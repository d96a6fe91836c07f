-- The definitions of the crates below that crates above name from here, so that they name those crates no more.
pub use Rattle.gd_read.specs.Begun.{fault_at}
pub use Rattle.gd_read.specs.Freezing.{FreezesTo}
pub use Rattle.gd_read.specs.Left.{IsPastIds}
pub use Rattle.gd_read.specs.Session.{IsRefused}
pub use Rattle.gd_read.specs.declared.fault.ReadFault.{ReadFault}
pub use Rattle.gd_read.specs.declared.reading.Reading.{Reading}
pub use Rattle.gd_read.specs.declared.session.SessionState.{SessionState}
pub use Rattle.gd_thawed.specs.PassedOn.{one_member}
pub use Rattle.gd_read.specs.Session as session
pub use Rattle.gd_read.specs.declared.fault.ReadFault.TheVariants as read_fault
pub use Rattle.gd_read.specs.declared.reading.Reading.TheVariants as reading
