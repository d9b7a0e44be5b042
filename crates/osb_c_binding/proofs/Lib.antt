pub mod CrossedOf
