pub mod Bodies
pub mod StandsFor
pub mod Reading
pub mod Laws
