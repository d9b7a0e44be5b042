pub mod IdLemmas
pub mod Maps
