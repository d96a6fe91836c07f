-- The definitions of the crates below that crates above name from here, so that they name those crates no more.
pub use Rattle.gd_read.specs.Begun.{fault_at}
pub use Rattle.gd_read.specs.Reading.{reading_view}
pub use Rattle.gd_read.specs.declared.fault.ReadFault.{ReadFault}
pub use Rattle.gd_read.specs.PassedOn.current
pub use Rattle.gd_read.specs.PassedOn.frame
pub use Rattle.gd_read.specs.PassedOn.matcher
pub use Rattle.gd_read.specs.PassedOn.shape
pub use Rattle.gd_read.specs.contracts.gathering.Gathered as gathered
pub use Rattle.gd_read.specs.contracts.gathering.Gathering as gathering
pub use Rattle.gd_read.specs.contracts.query.QueryReading as query
pub use Rattle.gd_read.specs.contracts.reading.Reading as reading
pub use Rattle.gd_read.specs.contracts.several.Part as part
pub use Rattle.gd_read.specs.contracts.several.SeveralReading as several
pub use Rattle.gd_read.specs.contracts.stage.Stage as stage
pub use Rattle.gd_read.specs.contracts.subject.Subject as subject
pub use Rattle.gd_read.specs.contracts.trying.Trying as trying
pub use Rattle.gd_read.specs.contracts.visiting.Visiting as visiting
pub use Rattle.gd_read.specs.declared.fault.ReadFault.TheVariants as read_fault
