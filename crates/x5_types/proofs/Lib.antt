pub mod Agents
mod Arcs
mod Ascii
mod BitLaws
mod Cells
mod Magnitudes
pub mod Nodes
mod Sameness
mod Singles
mod Times
pub mod TwoParts
