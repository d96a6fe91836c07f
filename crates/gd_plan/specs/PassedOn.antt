-- The definitions of the crates below that crates above name from here, so that they name those crates no more.
pub use Rattle.gd_resolve.specs.Asked.{property_steps}
pub use Rattle.gd_resolve.specs.PassedOn.{code_view}
pub use Rattle.gd_resolve.specs.Way.{links_up, namespace_from}
pub use Rattle.gd_template.specs.View.{mode_of}
