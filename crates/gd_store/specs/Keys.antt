-- Which primitives are key links.
pub use Rattle.gd_prim.specs.Keys.{is_key_link, is_key_of}
