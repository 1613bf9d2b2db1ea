pub mod TruthView
pub mod Occurrence
pub mod PlaceView
pub mod FilterView
pub mod FilterText
pub mod HeldView
