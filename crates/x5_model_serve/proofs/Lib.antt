pub mod Carrying
pub mod Frame
pub mod Licence
pub mod Needing
pub mod Finals
pub mod Shuffling
pub mod Walks
