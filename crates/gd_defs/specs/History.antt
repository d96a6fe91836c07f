-- The primitives at a dateline, passed on.
pub use Rattle.gd_prim.specs.History.{prims_at}
