mod Characters
mod Classes
mod Elements
mod Measures
mod Members
mod Numbers
mod Putting
