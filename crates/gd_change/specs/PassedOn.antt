-- The definitions of the crates below that crates above name from here, so that they name those crates no more.
pub use Rattle.gd_carry.specs.declared.fault.ChangeFault.{ChangeFault}
pub use Rattle.gd_carry.specs.declared.fault.ChangeFault.TheVariants as fault
