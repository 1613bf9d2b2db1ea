mod Joined
mod Making
