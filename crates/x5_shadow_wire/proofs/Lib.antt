mod Shadowed
mod Same
mod Telling
