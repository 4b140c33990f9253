pub mod Table
pub mod Matrix
pub mod Shapes
