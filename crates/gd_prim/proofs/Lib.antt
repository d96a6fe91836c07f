pub mod FirstBad
mod LimitRows
