mod Awaiting
mod Elements
mod Heads
mod Lists
mod Reading
mod SlotLaws
mod Whole
