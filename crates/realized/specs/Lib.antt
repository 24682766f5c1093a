-- What the contracts of `realized` cite.
pub mod Before
pub mod Ready
pub mod Scene
pub mod Passing
pub mod Opening
