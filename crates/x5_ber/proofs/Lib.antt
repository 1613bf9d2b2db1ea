mod Powers
mod Lengths
mod Standing
mod Opening
mod Steps
mod Values
mod Prefixes
mod Pieces
