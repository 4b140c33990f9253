pub mod MostGrown
pub mod Steps
